-- A MESSAGE COMES: what receiving one comes to, as it is seen; and that a call refuses by a number.
use Rattle.std.specs.Prelude.{◌≡◌, ◌⊎◌, ◌≢◌, Bool, true, false, cond, not, ◌&&◌, ◌||◌, List, ◌∷◌, ◌++◌, ℕ, ◌+◌, ◌≤◌, ◌<◌, get_or, take, drop, eqb, ltb, leb}
use Rattle.std.proofs.Math.Path.{refl, subst, fun_ext}
use Rattle.std.proofs.Common.{sym, ◌∙◌, ap, inl, inr, ⊎_elim, add-zero, add-one, arith, get_or-set_same, get_or-set_other, eqb-true, ltb-true, ltb-false, leb-false, eq-eqb}
use Rattle.std.proofs.Math.Option.{Option, none, some}
use Rattle.std.proofs.Math.ListN.{length, get_or-eq_default}
use Rattle.std.proofs.Math.ListN as lists
use Rattle.std.proofs.lemmas.List.{set_split}
use Rattle.std.proofs.lemmas.Bool.{not-true}
use Rattle.scan.specs.Bools.{known, and_l, both, or_split}
use Rattle.message.specs.declared.Kind.TheVariants.{Rla}
use Rattle.message.specs.declared.Verdict.TheVariants.{Read}
use Rattle.message.specs.declared.Record.{Record}
use Rattle.reader.specs.Reading.{Judged}
use Rattle.reader.specs.Reader.{verdict}
use Rattle.head.specs.declared.Standing.{Standing}
use Rattle.head.specs.declared.Standing.TheVariants.{New, Old, Stale}
use Rattle.head.specs.Head.{standing}
use Rattle.places.specs.Place.{Place, At, Nowhere}
use Rattle.places.specs.Places.{Places, get, set, used}
use Rattle.flights.specs.Flight.{Flight}
use Rattle.flights.specs.Holding.{FlightsFormed}
use Rattle.unanswered.specs.Waiting.{Waiting, Proper, is_answer}
use Rattle.answers.specs.Given as g
use Rattle.answers.specs.Given.{is_value, AnswersFormed, forgotten}
use Rattle.answers.specs.Forgetting.{forgotten_long, forgotten_at}
use Rattle.deeds.specs.declared.Deed.{Deed}
use Rattle.deeds.specs.declared.Deed.TheVariants.{Files, Enters, Amends, Estimates, Cancels, Offers, Retracts, Accepts, Nothing}
use Rattle.deeds.specs.declared.Decision.{Decision}
use Rattle.deeds.specs.declared.Decision.TheVariants.{Fails, Full, Done}
use Rattle.deeds.specs.Message as t
use Rattle.deeds.specs.Message.{Message}
use Rattle.deeds.specs.Deeds.{deed_of, old, makes}
use Rattle.deeds.specs.Applying.{home, allowed, decided_at, decision, after, applied}
use Rattle.response.specs.Answering.{answer_text}
use Rattle.memory.specs.End.{End}
use Rattle.rules.specs.Replies.{Refusal, refused, done, number, refused_done, done_end, done_text}
use Rattle.rules.specs.Reads.{message_in, read_message}
use Rattle.rules.specs.Answers.{answer_to, good_answer, is_offering, is_acceptance}
use Rattle.rules.specs.Laws.{offers, answer_value, answer_given}
use Rattle.rules.specs.Crossing.{retires_is, retired_sent}
use Rattle.rules.specs.Receiving as r
use Rattle.rules.specs.Receiving.{directed, waiting_at, settled_sent, settled, retire_held, retire_at, retired, given, answering, hear_first, hear_again, hear_old, hear_message, receive}
use Rattle.rules.specs.Sending.{count_waiting, making}
use Rattle.pair.specs.kinds.Tools.{upd, same?, upd_same, upd_other, true_false, none_some, some_inj}
use Rattle.pair.specs.kinds.Kinds.{Content, own, content_of, message_of, close, retires, again_to}
use Rattle.pair.specs.kinds.Views.{View, Applied, Retires, TakesOwn, TakesNear, Takes, raised, Hears, first, late, again}
use Rattle.pair.specs.kinds.Ends.{WaitingFormed, SoundEnd, by_key, waits_in, kept_in, view_of}
use Rattle.pair.specs.views.Tables.{close_is, applied_own, answered_own, applied_near, answered_near, applied_long}
use Rattle.pair.specs.views.Waits.{waits_freed, waits_found, waits_nowhere, count_freed}
use Rattle.pair.specs.views.Learnt.{message_heard, content_own, content_near, content_message, settled_long}

-- THE ANSWERS THAT ARE KEPT

abbrev kept_as : ℕ → Option ℕ
kept_as v = cond (eqb v 0) none (some v)

kept_as_lem : (v : ℕ) → eqb v 0 ≡ false → kept_as v ≡ some v
kept_as_lem v z = ap (λ (b : Bool). cond b none (some v)) z

kept_value : (a : List ℕ) (k v : ℕ) → get_or a k 0 ≡ v → kept_in a k ≡ kept_as v
unfolding kept_in
kept_value a k v g = ap kept_as g

-- what a kept answer says of its byte
kept_some : (v x : ℕ) (b : Bool) → eqb v 0 ≡ b → cond b none (some v) ≡ some x → (eqb v 0 ≡ false) × (v ≡ x)
kept_some v x true z e = absurd (none_some refl e)
kept_some v x false z e = (z, some_inj refl e)

kept_none : (v : ℕ) (b : Bool) → eqb v 0 ≡ b → cond b none (some v) ≡ none → eqb v 0 ≡ true
kept_none v true z e = z
kept_none v false z e = absurd (none_some e refl)

-- the answer v is given to the number n
kept_given : (n v : ℕ) (a : List ℕ) → n < length a → eqb v 0 ≡ false → kept_in (given n v a) ≡ upd (kept_in a) n (some v)
kept_given n v a h z = fun_ext (λ k. ⊎_elim (here k) (there k) (same? k n))
  where
    as_set : given n v a ≡ lists.set a n v
    as_set = ap (λ (j : ℕ). take n a ++ (v ∷ drop j a)) (add-one n) ∙ sym (set_split a n v h)

    here : (k : ℕ) → k ≡ n → kept_in (given n v a) k ≡ upd (kept_in a) n (some v) k
    here k p =
        kept_value (given n v a) k v ((λ i. get_or (as_set i) (p i) 0) ∙ get_or-set_same a n v 0 h) ∙ kept_as_lem v z ∙ sym (upd_same (kept_in a) n (some v) k p)

    there : (k : ℕ) → k ≢ n → kept_in (given n v a) k ≡ upd (kept_in a) n (some v) k
    there k p =
        kept_value (given n v a) k (get_or a k 0) (ap (λ (l : List ℕ). get_or l k 0) as_set ∙ get_or-set_other a n k v 0 p) ∙ sym (kept_value a k (get_or a k 0) refl) ∙ sym (upd_other (kept_in a) n (some v) k p)

-- n becomes the highest number
forgotten_all : (h n k : ℕ) (a : List ℕ) → get_or (forgotten h n a) k 0 ≡ cond (g.after h n k) 0 (get_or a k 0)
forgotten_all h n k a = ⊎_elim (λ l. forgotten_at h n k a (ltb-true k (length a) l)) beyond (known (ltb k (length a)))
  where
    none_there : (b : Bool) → ◌≡◌ {A = ℕ} 0 (cond b 0 0)
    none_there true = refl
    none_there false = refl

    beyond : ltb k (length a) ≡ false → get_or (forgotten h n a) k 0 ≡ cond (g.after h n k) 0 (get_or a k 0)
    beyond l =
        let m : length a ≤ k = ltb-false k (length a) l in
        get_or-eq_default (forgotten h n a) 0 (omega (arith, forgotten_long h n 0 a)) ∙ none_there (g.after h n k) ∙ ap (cond (g.after h n k) 0) (sym (get_or-eq_default a 0 m))

kept_forgotten : (h n : ℕ) (a : List ℕ) → kept_in (forgotten h n a) ≡ λ k. cond (g.after h n k) none (kept_in a k)
kept_forgotten h n a = fun_ext (λ k. kept_value (forgotten h n a) k (cond (g.after h n k) 0 (get_or a k 0)) (forgotten_all h n k a) ∙ go (g.after h n k) (get_or a k 0) ∙ ap (cond (g.after h n k) none) (sym (kept_value a k (get_or a k 0) refl)))
  where
    go : (b : Bool) (v : ℕ) → kept_as (cond b 0 v) ≡ cond b none (kept_as v)
    go true v = refl
    go false v = refl

raised_seen : (n : ℕ) (e : End) → view_of (r.raised n e) ≡ raised n (view_of e)
raised_seen n e = λ i. record {
  next = e.head.next;
  high = n;
  sent = by_key e.sent;
  received = by_key e.received;
  used = used e.sent;
  room = length e.sent;
  waits = waits_in e.unanswered;
  makers = count_waiting making e.unanswered;
  kept = kept_forgotten e.head.highest n e.answers i;
}

-- WHICH ANSWERS ARE GIVEN

-- LAM, RLA, LRM 57 or LRM 62
abbrev pub OneOf : ℕ → Type 0
OneOf x = (x ≡ 1) ⊎ ((x ≡ 2) ⊎ ((x ≡ 57) ⊎ (x ≡ 62)))

value_one : (v : ℕ) → is_value v ≡ true → eqb v 0 ≡ false → OneOf v
unfolding is_value
value_one v e z =
    ⊎_elim
    (λ e. ⊎_elim
    (λ e. ⊎_elim
    (λ e. ⊎_elim (λ e. absurd (true_false e z)) (λ e. inl (eqb-true v 1 e)) (or_split (eqb v 0) (eqb v 1) e))
    (λ e. inr (inl (eqb-true v 2 e)))
    (or_split (eqb v 0 || eqb v 1) (eqb v 2) e))
    (λ e. inr (inr (inl (eqb-true v 57 e))))
    (or_split ((eqb v 0 || eqb v 1) || eqb v 2) (eqb v 57) e))
    (λ e. inr (inr (inr (eqb-true v 62 e))))
    (or_split (((eqb v 0 || eqb v 1) || eqb v 2) || eqb v 57) (eqb v 62) e)

-- RLA is given to an offer only
rla_offering : (d : Deed) (c : Decision) → answer_to d c ≡ 2 → is_offering d ≡ true
unfolding answer_to good_answer is_offering
rla_offering d Fails e = absurd (omega arith)
rla_offering d Full e = absurd (omega arith)
rla_offering d (Done i) e = good d e
  where
    good : (d : Deed) → good_answer d ≡ 2 → is_offering d ≡ true
    good Files e = absurd (omega arith)
    good Enters e = absurd (omega arith)
    good Amends e = absurd (omega arith)
    good Estimates e = absurd (omega arith)
    good Cancels e = absurd (omega arith)
    good Offers e = refl
    good Retracts e = absurd (omega arith)
    good Accepts e = absurd (omega arith)
    good Nothing e = absurd (omega arith)

-- OFFERS

offering_own : (d : Deed) → is_offering d ≡ true → is_acceptance d ≡ false
unfolding is_acceptance
offering_own d h = ap is_acceptance (offers d h)

offering_makes : (d : Deed) → is_offering d ≡ true → makes d ≡ false
unfolding makes
offering_makes d h = ap makes (offers d h)

-- the message that is kept has the number beside it
number_in : (ours partners : List ℕ) (q : Waiting) → Proper ours partners q → (message_in q.text).number ≡ q.number
number_in ours partners q p = ap (λ (m : Message). m.number) (sym (read_message q.text p.its p.read)) ∙ p.number

named_by : (m p : Message) → r.retires m p ≡ true → m.reference ≡ p.number → retires m p ≡ true
unfolding retires
named_by m p h n = both (r.retires m p) (eqb m.reference p.number) h (eq-eqb m.reference p.number n)

named_not : (m p : Message) → r.retires m p ≡ false → retires m p ≡ true → ⊥
unfolding retires
named_not m p h n = true_false (and_l (r.retires m p) (eqb m.reference p.number) n) h

own_message : (p : Message) → message_of (own p) ≡ p
unfolding message_of
own_message p = refl

-- THE END ONCE AN OFFER WAS RETIRED

record Retired (m : Message) (e e' : End) : Type 0 where
  seen : Retires m (view_of e) (view_of e')
  formed : FlightsFormed e'.sent
  answers : e'.answers ≡ e.answers

-- nothing is retired
retired_none : (m : Message) (e : End) → FlightsFormed e.sent → ((p : Message) → waits_in e.unanswered m.reference ≡ some (own p) → retires m p ≡ true → ⊥) → Retired m e e
retired_none m e f n = record { seen = inl (refl, n); formed = f; answers = refl }

-- a table stays well formed under a message that was read
abbrev pub AppliedFormed : Type 0
AppliedFormed = (w : List ℕ) (r : Record) (l : Places Flight) → FlightsFormed l → Judged w Read r → FlightsFormed (applied (t.message_of w r) l)

module _ (applied_formed : AppliedFormed) (m : Message) (e : End) (f : FlightsFormed e.sent) (u : WaitingFormed e.head.ours e.head.partners e.unanswered) where
  retired_one : (i : ℕ) (q : Waiting) → waiting_at m.reference e.unanswered ≡ At i → get i e.unanswered ≡ some q → q.number ≡ m.reference → waits_in e.unanswered m.reference ≡ some (content_of (message_in q.text)) → r.retires m (message_in q.text) ≡ true → Retired m e (settled i Rla (message_in q.text) e)
  retired_one i q w g n h b =
      let p : Message = message_in q.text in
      let o : is_offering (deed_of p) ≡ true = (retires_is m p b).0 in
      let a : is_acceptance (deed_of p) ≡ false = offering_own (deed_of p) o in
      let s : settled_sent Rla p e.sent ≡ applied p e.sent = retired_sent p e.sent o in
      let x : Proper e.head.ours e.head.partners q = u.each i q g in
      record {
        seen = inr (record {
          offer = p;
          held = h ∙ ap (λ (c : Content). some c) (content_own p a);
          named = named_by m p b (sym (number_in e.head.ours e.head.partners q x ∙ n));
          settles = subst (λ (l : Places Flight). Applied p (by_key e.sent) (used e.sent) (length e.sent) (by_key l) (used l)) (sym s) (applied_own p e.sent f a);
          next = refl;
          high = refl;
          received = refl;
          room = settled_long Rla p e.sent;
          waits = waits_freed e.head.ours e.head.partners e.unanswered u m.reference i w;
          makers = sym (add-zero (count_waiting making (set i none e.unanswered))) ∙ ap (λ (y : Bool). count_waiting making (set i none e.unanswered) + cond y 1 0) (sym (offering_makes (deed_of p) o)) ∙ count_freed making e.unanswered i q g;
          kept = refl;
        });
        formed = subst FlightsFormed (sym s) (subst (λ (y : Message). FlightsFormed (applied y e.sent)) (read_message q.text x.its x.read) (applied_formed q.text x.its e.sent f x.read));
        answers = refl;
      }

  retired_at : (p : Place) → waiting_at m.reference e.unanswered ≡ p → Retired m e (retire_at p m e)
  retired_at Nowhere w = retired_none m e f (λ p h b. none_some (waits_nowhere e.unanswered m.reference w) h)
  retired_at (At i) w =
      let q = waits_found e.unanswered m.reference i w in
      subst (λ (o : Option Waiting). Retired m e (retire_held i m e o)) (sym q.1) (go q.0 q.1 q.2 q.3 (r.retires m (message_in q.0.text)) refl)
    where
      go : (q : Waiting) → get i e.unanswered ≡ some q → q.number ≡ m.reference → waits_in e.unanswered m.reference ≡ some (content_of (message_in q.text)) → (b : Bool) → r.retires m (message_in q.text) ≡ b → Retired m e (cond b (settled i Rla (message_in q.text) e) e)
      go q g n h true b = retired_one i q w g n h b
      go q g n h false b =
          retired_none m e f (λ p k c.
          let y : message_in q.text ≡ p = sym (content_message (message_in q.text)) ∙ ap message_of (some_inj h k) ∙ own_message p in
          named_not m p (ap (r.retires m) (sym y) ∙ b) c)

  retired_seen : is_acceptance (deed_of m) ≡ true → Retired m e (retired m e)
  unfolding retired
  retired_seen a =
      subst (λ (b : Bool). Retired m e (cond b (retire_at (waiting_at m.reference e.unanswered) m e) e)) (sym a) (retired_at (waiting_at m.reference e.unanswered) refl)

retired_own : (m : Message) (e : End) → is_acceptance (deed_of m) ≡ false → retired m e ≡ e
unfolding retired
retired_own m e a = ap (λ (b : Bool). cond b (retire_at (waiting_at m.reference e.unanswered) m e) e) a

-- AN ACCEPTANCE THAT CLOSES NOTHING leaves the flights as they are
unclosed_kept : (m : Message) (l : Places Flight) → FlightsFormed l → is_acceptance (deed_of m) ≡ true → close m (by_key l (old m)) ≡ none → applied m l ≡ l
unfolding decision after
unclosed_kept m l f a c =
    ⊎_elim
    (λ b. absurd (none_some c ((close_is m l f a).0 b).1))
    (λ b. ap (λ (x : Bool). after (cond x (decided_at (home m l)) Fails) m l) b)
    (known (allowed m l))

-- A FIRST ARRIVAL, by whether it is an acceptance

abbrev answer_at : Bool → Message → End → ℕ
answer_at b m e = answer_to (deed_of m) (decision m (cond b e.sent e.received))

abbrev handled_at : Bool → Message → End → End
handled_at b m e = record {
  head = e.head;
  sent = cond b (applied m (cond b e.sent e.received)) e.sent;
  received = cond b e.received (applied m (cond b e.sent e.received));
  unanswered = e.unanswered;
  answers = given m.number (answer_at b m e) e.answers;
}

first_by : (room : ℕ) (m : Message) (e : End) (b : Bool) → is_acceptance (deed_of m) ≡ b → hear_first room m e ≡ answering room m (answer_at b m (retired m e)) (handled_at b m (retired m e))
unfolding hear_first
first_by room m e b a = ap (λ (c : Bool). answering room m (answer_at c m (retired m e)) (handled_at c m (retired m e))) a

giving_done : (b : Bool) (e e' : End) (s t : List ℕ) → cond b (done e s) (refused (number 2)) ≡ done e' t → (e ≡ e') × (t ≡ s)
giving_done true e e' s t h = (done_end h, sym (done_text h))
giving_done false e e' s t h = absurd (refused_done h)

giving_refused : (b : Bool) (e : End) (t : List ℕ) (y : Refusal) → cond b (done e t) (refused (number 2)) ≡ refused y → (y ≡ number 2) × (b ≡ false)
giving_refused true e t y h = absurd (refused_done (sym h))
giving_refused false e t y h = (cc, refl)

module _ (m : Message) (e : End) (whole : length e.answers ≡ 1000) (n : m.number ≤ 999) where
  takes_own : is_acceptance (deed_of m) ≡ false → FlightsFormed e.received → TakesOwn m.number m (answer_at false m e) (view_of e) (view_of (handled_at false m e))
  takes_own a f =
      let y = answered_own m e.received f a (answer_at false m e) refl in
      record {
        right = y.2;
        no = y.0;
        yes = y.1;
        next = refl;
        high = refl;
        sent = refl;
        used = refl;
        room = refl;
        waits = refl;
        makers = refl;
        kept = kept_given m.number (answer_at false m e) e.answers (omega arith) (answer_given (deed_of m) (decision m e.received));
      }

  takes_near : is_acceptance (deed_of m) ≡ true → FlightsFormed e.sent → TakesNear m.number m (answer_at true m e) (view_of e) (view_of (handled_at true m e))
  takes_near a f =
      let y = answered_near m e.sent f a (answer_at true m e) refl in
      record {
        no = y.0;
        yes = λ z c. ((y.1 z c).0, (y.1 z c).1, (applied_near m e.sent f a z c).0);
        next = refl;
        high = refl;
        received = refl;
        used = go (close m (by_key e.sent (old m))) refl;
        room = applied_long m e.sent;
        waits = refl;
        makers = refl;
        kept = kept_given m.number (answer_at true m e) e.answers (omega arith) (answer_given (deed_of m) (decision m e.sent));
      }
    where
      go : (c : Option Flight) → close m (by_key e.sent (old m)) ≡ c → used (applied m e.sent) ≡ used e.sent
      go none c = ap used (unclosed_kept m e.sent f a c)
      go (some z) c = (applied_near m e.sent f a z c).1

-- the text t is given back for m: the answer x, RLA to an offer only
pub record Answered (m : Message) (x : ℕ) (t : List ℕ) : Type 0 where
  pub text : t ≡ answer_text m x
  pub value : OneOf x
  pub offering : x ≡ 2 → is_offering (deed_of m) ≡ true

first_answered : (m : Message) (c : Decision) (t : List ℕ) → t ≡ answer_text m (answer_to (deed_of m) c) → Answered m (answer_to (deed_of m) c) t
first_answered m c t h =
    record { text = h; value = value_one (answer_to (deed_of m) c) (answer_value (deed_of m) c) (answer_given (deed_of m) c); offering = rla_offering (deed_of m) c }

-- AN OLD NUMBER

hear_unanswered : (room : ℕ) (m : Message) (v : ℕ) (e : End) → eqb v 0 ≡ true → hear_old room m v e ≡ hear_first room m e
unfolding hear_old
hear_unanswered room m v e z = ap (λ (b : Bool). cond b (hear_first room m e) (hear_again room m v e)) z

hear_answered : (room : ℕ) (m : Message) (v : ℕ) (e : End) → eqb v 0 ≡ false → hear_old room m v e ≡ hear_again room m v e
unfolding hear_old
hear_answered room m v e z = ap (λ (b : Bool). cond b (hear_first room m e) (hear_again room m v e)) z

-- refusal 4, of a number that was answered by RLA
abbrev is_four : Message → ℕ → Bool
is_four m v = eqb v 2 && not (is_offering (deed_of m))

again_four : (room : ℕ) (m : Message) (v : ℕ) (e : End) → is_four m v ≡ true → hear_again room m v e ≡ refused (number 4)
unfolding hear_again
again_four room m v e b = ap (λ (c : Bool). cond c (refused (number 4)) (answering room m v e)) b

again_given : (room : ℕ) (m : Message) (v : ℕ) (e : End) → is_four m v ≡ false → hear_again room m v e ≡ answering room m v e
unfolding hear_again
again_given room m v e b = ap (λ (c : Bool). cond c (refused (number 4)) (answering room m v e)) b

again_right : (m : Message) (x : ℕ) → again_to (content_of m) x ≡ true → is_four m x ≡ false
unfolding again_to
again_right m x h = not-true (is_four m x) (ap (λ (c : Message). not (eqb x 2 && not (is_offering (deed_of c)))) (sym (content_message m)) ∙ h)

offering_two : (b o : Bool) → b && not o ≡ false → b ≡ true → o ≡ true
offering_two b true h e = refl
offering_two b false h e = absurd (true_false (both b true e refl) h)

-- the answer v that is kept for a number is given again to m
again_answered : (m : Message) (v : ℕ) (t : List ℕ) → is_value v ≡ true → eqb v 0 ≡ false → is_four m v ≡ false → t ≡ answer_text m v → Answered m v t
again_answered m v t o z b h =
    record { text = h; value = value_one v o z; offering = λ w. offering_two (eqb v 2) (is_offering (deed_of m)) b (eq-eqb v 2 w) }

-- for some answer x, m is taken, or heard, and answered
abbrev Taken : Message → End → End → List ℕ → Type 0
Taken m e e' t = (x : ℕ) × Takes m.number (content_of m) x (view_of e) (view_of e') × Answered m x t

abbrev pub HeardAs : Message → End → End → List ℕ → Type 0
HeardAs m e e' t = (x : ℕ) × Hears m.number (content_of m) x (view_of e) (view_of e') × Answered m x t

module _ (applied_formed : AppliedFormed) where
  -- the tables, the messages that wait and the answers of e are well formed
  first_seen : (room : ℕ) (m : Message) (e e' : End) (t : List ℕ) → FlightsFormed e.sent → FlightsFormed e.received → WaitingFormed e.head.ours e.head.partners e.unanswered → length e.answers ≡ 1000 → m.number ≤ 999 → hear_first room m e ≡ done e' t → Taken m e e' t
  first_seen room m e e' t f g u whole n h = ⊎_elim closing owned (known (is_acceptance (deed_of m)))
    where
      closing : is_acceptance (deed_of m) ≡ true → Taken m e e' t
      closing a =
          let w = retired_seen applied_formed m e f u a in
          let x : ℕ = answer_at true m (retired m e) in
          let d = giving_done (leb (length (answer_text m x)) room) (handled_at true m (retired m e)) e' (answer_text m x) t (sym (first_by room m e true a) ∙ h) in (
            x,
            subst (λ (y : End). Takes m.number (content_of m) x (view_of e) (view_of y)) d.0
                (subst (λ (c : Content). Takes m.number c x (view_of e) (view_of (handled_at true m (retired m e)))) (sym (content_near m a)) (view_of (retired m e), w.seen, takes_near m (retired m e) (ap length w.answers ∙ whole) n a w.formed)),
            first_answered m (decision m (retired m e).sent) t d.1,
          )

      owned : is_acceptance (deed_of m) ≡ false → Taken m e e' t
      owned a =
          let x : ℕ = answer_at false m e in
          let s : hear_first room m e ≡ answering room m x (handled_at false m e) = first_by room m e false a ∙ ap (λ (y : End). answering room m (answer_at false m y) (handled_at false m y)) (retired_own m e a) in
          let d = giving_done (leb (length (answer_text m x)) room) (handled_at false m e) e' (answer_text m x) t (sym s ∙ h) in (
            x,
            subst (λ (y : End). Takes m.number (content_of m) x (view_of e) (view_of y)) d.0
                (subst (λ (c : Content). Takes m.number c x (view_of e) (view_of (handled_at false m e))) (sym (content_own m a)) (takes_own m e whole n a g)),
            first_answered m (decision m e.received) t d.1,
          )

  -- by where its number stands
  old_seen : (room : ℕ) (m : Message) (e e' : End) (t : List ℕ) → SoundEnd e → m.number ≤ 999 → standing e.head.highest m.number ≡ Old → (v : ℕ) → get_or e.answers m.number 0 ≡ v → hear_old room m v e ≡ done e' t → HeardAs m e e' t
  old_seen room m e e' t s n k v g h = ⊎_elim unanswered answered (known (eqb v 0))
    where
      unanswered : eqb v 0 ≡ true → HeardAs m e e' t
      unanswered z =
          let y = first_seen room m e e' t s.sent s.received s.unanswered s.answers.whole n (sym (hear_unanswered room m v e z) ∙ h) in
          (y.0, late k (kept_value e.answers m.number v g ∙ ap (λ (b : Bool). cond b none (some v)) z) y.1, y.2)

      answered : eqb v 0 ≡ false → HeardAs m e e' t
      answered z =
          let o : is_value v ≡ true = ap is_value (sym g) ∙ s.answers.values m.number (omega arith) in
          ⊎_elim
          (λ b. absurd (refused_done (sym (again_four room m v e b) ∙ sym (hear_answered room m v e z) ∙ h)))
          (λ b.
          let d = giving_done (leb (length (answer_text m v)) room) e e' (answer_text m v) t (sym (again_given room m v e b) ∙ sym (hear_answered room m v e z) ∙ h) in
          (v, again k (kept_value e.answers m.number v g ∙ kept_as_lem v z) (ap view_of (sym d.0)), again_answered m v t o z b d.1))
          (known (is_four m v))

  message_seen : (room : ℕ) (m : Message) (e e' : End) (t : List ℕ) → SoundEnd e → m.number ≤ 999 → (y : Standing) → standing e.head.highest m.number ≡ y → hear_message y room m e ≡ done e' t → HeardAs m e e' t
  unfolding hear_message
  message_seen room m e e' t s n New k h =
      let l : length (r.raised m.number e).answers ≡ 1000 = forgotten_long e.head.highest m.number 0 e.answers ∙ s.answers.whole in
      let y = first_seen room m (r.raised m.number e) e' t s.sent s.received s.unanswered l n h in
      (y.0, first k (subst (λ (z : View). Takes m.number (content_of m) y.0 z (view_of e')) (raised_seen m.number e) y.1), y.2)
  message_seen room m e e' t s n Old k h = old_seen room m e e' t s n k (get_or e.answers m.number 0) refl h
  message_seen room m e e' t s n Stale k h = absurd (refused_done h)

  -- RECEIVING A MESSAGE
  pub hear_seen : (room : ℕ) (w : List ℕ) (e : End) → verdict w ≡ Read → directed e.head (message_in w) ≡ true → is_answer (message_in w).kind ≡ false → SoundEnd e → (message_in w).number ≤ 999 → (e' : End) (t : List ℕ) → receive room w e ≡ done e' t → HeardAs (message_in w) e e' t
  hear_seen room w e v d a s n e' t h =
      message_seen room (message_in w) e e' t s n (standing e.head.highest (message_in w).number) refl (sym (message_heard room w e v d a) ∙ h)

-- IT IS REFUSED FOR WANT OF ROOM ONLY

-- y is 2: the answer that m gets is longer than the room
pub record Wants (room : ℕ) (m : Message) (y : Refusal) : Type 0 where
  pub number : y ≡ number 2
  pub answer : ℕ
  pub answered : Answered m answer (answer_text m answer)
  pub longer : room < length (answer_text m answer)

answering_refused : (room : ℕ) (m : Message) (v : ℕ) (e : End) (y : Refusal) → Answered m v (answer_text m v) → answering room m v e ≡ refused y → Wants room m y
answering_refused room m v e y a h =
    let g = giving_refused (leb (length (answer_text m v)) room) e (answer_text m v) y h in
    record { number = g.0; answer = v; answered = a; longer = leb-false (length (answer_text m v)) room g.1 }

first_refused : (room : ℕ) (m : Message) (e : End) (y : Refusal) → hear_first room m e ≡ refused y → Wants room m y
first_refused room m e y h =
    let b = is_acceptance (deed_of m) in
    let d = retired m e in
    let a = first_answered m (decision m (cond b d.sent d.received)) (answer_text m (answer_at b m d)) refl in
    answering_refused room m (answer_at b m d) (handled_at b m d) y a (sym (first_by room m e b refl) ∙ h)

-- the number was not answered, or its answer may be given again
abbrev pub Repeatable : Message → End → Type 0
Repeatable m e = (kept_in e.answers m.number ≡ none) ⊎ ((x : ℕ) × (kept_in e.answers m.number ≡ some x) × (again_to (content_of m) x ≡ true))

-- it is new, or old and may be answered
abbrev pub Heeded : Message → End → Type 0
Heeded m e = (standing e.head.highest m.number ≡ New) ⊎ ((standing e.head.highest m.number ≡ Old) × Repeatable m e)

new_refused : (room : ℕ) (m : Message) (e : End) (y : Refusal) → hear_message New room m e ≡ refused y → Wants room m y
unfolding hear_message
new_refused room m e y h = first_refused room m (r.raised m.number e) y h

old_refused : (room : ℕ) (m : Message) (e : End) (y : Refusal) → AnswersFormed e.answers → m.number ≤ 999 → Repeatable m e → hear_message Old room m e ≡ refused y → Wants room m y
unfolding hear_message
old_refused room m e y f n (inl k) h =
    let v : ℕ = get_or e.answers m.number 0 in
    let z : eqb v 0 ≡ true = kept_none v (eqb v 0) refl (sym (kept_value e.answers m.number v refl) ∙ k) in
    first_refused room m e y (sym (hear_unanswered room m v e z) ∙ h)
old_refused room m e y f n (inr k) h =
    let v : ℕ = get_or e.answers m.number 0 in
    let z = kept_some v k.0 (eqb v 0) refl (sym (kept_value e.answers m.number v refl) ∙ k.1) in
    let b : is_four m v ≡ false = ap (is_four m) z.1 ∙ again_right m k.0 k.2 in
    let a = again_answered m v (answer_text m v) (f.values m.number (omega arith)) z.0 b refl in
    answering_refused room m v e y a (sym (hear_answered room m v e z.0 ∙ again_given room m v e b) ∙ h)

pub hear_open : (room : ℕ) (w : List ℕ) (e : End) → verdict w ≡ Read → directed e.head (message_in w) ≡ true → is_answer (message_in w).kind ≡ false → AnswersFormed e.answers → (message_in w).number ≤ 999 → Heeded (message_in w) e → (y : Refusal) → receive room w e ≡ refused y → Wants room (message_in w) y
hear_open room w e v d a f n k y h = go k
  where
    by : (s : Standing) → standing e.head.highest (message_in w).number ≡ s → hear_message s room (message_in w) e ≡ refused y
    by s p = ap (λ (z : Standing). hear_message z room (message_in w) e) (sym p) ∙ sym (message_heard room w e v d a) ∙ h

    go : Heeded (message_in w) e → Wants room (message_in w) y
    go (inl p) = new_refused room (message_in w) e y (by New p)
    go (inr p) = old_refused room (message_in w) e y f n p.1 (by Old p.0)
