-- What the code looks at lies within its text; what a text that is directed to us says; kinds that are no answers; and which
-- answers are given.
use Rattle.std.specs.Prelude.{◌≡◌, refl, true, false, ◌||◌, List, ℕ, ◌<◌, eqb, ltb}
use Rattle.std.proofs.Common.{sym, inr, ⊎_elim, arith, eqb-true, ltb-true}
use Rattle.std.proofs.lemmas.Bool.{false≢true}
use Rattle.scan.specs.Bools.{or_split}
use Rattle.message.specs.declared.Kind.{Kind}
use Rattle.message.specs.declared.Kind.TheVariants.{None, Fpl, Cpl, Est, Chg, Cnl, Rti, Rta, Rla, Lam, Lrm}
use Rattle.message.specs.declared.Verdict.TheVariants.{Read}
use Rattle.message.specs.declared.Record.{Record}
use Rattle.reader.specs.Reading.{Judged}
use Rattle.pen.specs.Listed.{Inside}
use Rattle.unanswered.specs.Waiting.{is_answer}
use Rattle.answers.specs.Given.{is_value}
use Rattle.deeds.specs.declared.Deed.{Deed}
use Rattle.deeds.specs.declared.Deed.TheVariants.{Files, Enters, Amends, Estimates, Cancels, Offers, Retracts, Accepts, Nothing}
use Rattle.deeds.specs.declared.Decision.{Decision}
use Rattle.deeds.specs.declared.Decision.TheVariants.{Fails, Full, Done}
use Rattle.deeds.specs.Laws.{sender_in, receiver_in, reference_sender_in, reference_receiver_in}
use Rattle.rules.specs.Answers.{good_answer, answer_to, is_offering, is_acceptance, is_good}

-- THE UNITS OF A NUMBER lie within the text

module _ (w : List ℕ) (r : Record) (j : Judged w Read r) where
  pub number_inside : Inside w r.parts.number.sender × Inside w r.parts.number.receiver
  number_inside = (inr (sender_in w r j), inr (receiver_in w r j))

  pub reference_inside : Inside w r.parts.reference.sender × Inside w r.parts.reference.receiver
  reference_inside = (inr (reference_sender_in w r j), inr (reference_receiver_in w r j))

-- DEEDS

pub offers : (d : Deed) → is_offering d ≡ true → d ≡ Offers
unfolding is_offering
offers Files e = absurd (false≢true e)
offers Enters e = absurd (false≢true e)
offers Amends e = absurd (false≢true e)
offers Estimates e = absurd (false≢true e)
offers Cancels e = absurd (false≢true e)
offers Offers e = refl
offers Retracts e = absurd (false≢true e)
offers Accepts e = absurd (false≢true e)
offers Nothing e = absurd (false≢true e)

pub accepts : (d : Deed) → is_acceptance d ≡ true → d ≡ Accepts
unfolding is_acceptance
accepts Files e = absurd (false≢true e)
accepts Enters e = absurd (false≢true e)
accepts Amends e = absurd (false≢true e)
accepts Estimates e = absurd (false≢true e)
accepts Cancels e = absurd (false≢true e)
accepts Offers e = absurd (false≢true e)
accepts Retracts e = absurd (false≢true e)
accepts Accepts e = refl
accepts Nothing e = absurd (false≢true e)

-- KINDS THAT ARE NO ANSWERS

pub message_good : (k : Kind) → is_answer k ≡ false → is_good k ≡ false
unfolding is_answer is_good
message_good None e = absurd (false≢true (sym e))
message_good Fpl e = refl
message_good Cpl e = refl
message_good Est e = refl
message_good Chg e = refl
message_good Cnl e = refl
message_good Rti e = refl
message_good Rta e = refl
message_good Rla e = absurd (false≢true (sym e))
message_good Lam e = absurd (false≢true (sym e))
message_good Lrm e = absurd (false≢true (sym e))

-- AN ANSWER is one of the values that the answer bytes hold, and stands as two digits at most

pub answer_value : (d : Deed) (c : Decision) → is_value (answer_to d c) ≡ true
unfolding is_value answer_to good_answer
answer_value d Fails = refl
answer_value d Full = refl
answer_value d (Done i) = good d
  where
    good : (d : Deed) → is_value (good_answer d) ≡ true
    good Files = refl
    good Enters = refl
    good Amends = refl
    good Estimates = refl
    good Cancels = refl
    good Offers = refl
    good Retracts = refl
    good Accepts = refl
    good Nothing = refl

-- so a number that was answered is not one never answered
pub answer_given : (d : Deed) (c : Decision) → eqb (answer_to d c) 0 ≡ false
unfolding answer_to good_answer
answer_given d Fails = refl
answer_given d Full = refl
answer_given d (Done i) = good d
  where
    good : (d : Deed) → eqb (good_answer d) 0 ≡ false
    good Files = refl
    good Enters = refl
    good Amends = refl
    good Estimates = refl
    good Cancels = refl
    good Offers = refl
    good Retracts = refl
    good Accepts = refl
    good Nothing = refl

pub value_small : (v : ℕ) → is_value v ≡ true → v < 100
unfolding is_value
value_small v e =
    ⊎_elim
    (λ e. ⊎_elim
    (λ e. ⊎_elim
    (λ e. ⊎_elim (λ e. is 0 e refl) (λ e. is 1 e refl) (or_split (eqb v 0) (eqb v 1) e))
    (λ e. is 2 e refl)
    (or_split (eqb v 0 || eqb v 1) (eqb v 2) e))
    (λ e. is 57 e refl)
    (or_split ((eqb v 0 || eqb v 1) || eqb v 2) (eqb v 57) e))
    (λ e. is 62 e refl)
    (or_split (((eqb v 0 || eqb v 1) || eqb v 2) || eqb v 57) (eqb v 62) e)
  where
    is : (k : ℕ) → eqb v k ≡ true → ltb k 100 ≡ true → v < 100
    is k e h = omega (arith, eqb-true v k e, ltb-true k 100 h)

pub answer_small : (d : Deed) (c : Decision) → answer_to d c < 100
answer_small d c = value_small (answer_to d c) (answer_value d c)
