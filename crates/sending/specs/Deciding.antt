-- 10 AND 11: WHETHER A MESSAGE MAY BE SENT, from what was decided.
use Rattle.std.specs.Prelude.{◌≡◌, refl, Bool, true, false, cond, ◌&&◌, List, [], ◌∷◌, ℕ, ◌+◌, ◌/◌, ◌≤◌, length}
use Rattle.std.proofs.Math.Path.{sym}
use Rattle.std.proofs.Common.{ap, ◌∙◌, arith}
use Rattle.std.proofs.Math.Option.{none, some}
use Rattle.std.proofs.Math.Dec.{leb}
use Rattle.places.specs.Place.{Place, At, Nowhere}
use Rattle.places.specs.Places.{Places, used}
use Rattle.flights.specs.Flight.{Flight}
use Rattle.flights.specs.Table.{in_use, places}
use Rattle.flights.specs.Decoded.{flights_in, used_in, flights_many}
use Rattle.deeds.specs.declared.Deed.{Deed}
use Rattle.deeds.specs.declared.Decision.{Decision}
use Rattle.deeds.specs.declared.Decision.TheVariants.{Fails, Full, Done}
use Rattle.deeds.specs.Message.{Message}
use Rattle.deeds.specs.Deeds.{deed_of, makes}
use Rattle.deeds.specs.Applying.{allowed, home, decided_at, decision}
use Rattle.memory.specs.End.{waiting_in}
use Rattle.memory.specs.Held.{sixteen}
use Rattle.rules.specs.Answers.{is_acceptance}
use Rattle.rules.specs.Sending.{count_waiting, making}
use Rattle.sending.specs.Asked.{count_most}

-- the condition does not fail
unfoldable pub holds : Decision → Bool
holds Fails = false
holds Full = true
holds (Done i) = true

decided_holds : (b : Bool) (p : Place) → holds (cond b (decided_at p) Fails) ≡ b
unfolding holds
decided_holds true (At i) = refl
decided_holds true Nowhere = refl
decided_holds false p = refl

pub holds_allowed : (m : Message) (l : Places Flight) → holds (decision m l) ≡ allowed m l
unfolding decision
holds_allowed m l = decided_holds (allowed m l) (home m l)

-- decided on the flights that a message is about: an acceptance is about one of the partner's, all else about one of ours
unfoldable pub decided_on : Message → Places Flight → Places Flight → Decision
decided_on m sent received = cond (is_acceptance (deed_of m)) (decision m received) (decision m sent)

module _ (m : Message) (sent received : Places Flight) (d : Deed) (b : Bool) (e : d ≡ deed_of m) (f : b ≡ is_acceptance d) where
  pub on_received : b ≡ true → decision m received ≡ decided_on m sent received
  unfolding decided_on
  on_received h = rw (sym (ap is_acceptance e) ∙ sym f ∙ h)

  pub on_sent : b ≡ false → decision m sent ≡ decided_on m sent received
  unfolding decided_on
  on_sent h = rw (sym (ap is_acceptance e) ∙ sym f ∙ h)

either_holds : (b : Bool) (c d : Decision) (x y : Bool) → holds c ≡ x → holds d ≡ y → holds (cond b c d) ≡ cond b x y
either_holds true c d x y e f = e
either_holds false c d x y e f = f

pub may_be_sent_lem : (m : Message) (sent received : Places Flight) → holds (decided_on m sent received) ≡ cond (is_acceptance (deed_of m)) (allowed m received) (allowed m sent)
unfolding decided_on
may_be_sent_lem m sent received = either_holds (is_acceptance (deed_of m)) (decision m received) (decision m sent) _ _ (holds_allowed m received) (holds_allowed m sent)

-- 11
pub used_most : (l : Places Flight) → used l ≤ length l
unfolding used
used_most [] = omega arith
used_most (none ∷ l) = omega (arith, used_most l)
used_most (some x ∷ l) = omega (arith, used_most l)

pub in_use_most : (t : List ℕ) → in_use t ≤ places t
in_use_most t = omega (arith, used_in t, flights_many t, used_most (flights_in t))

pub making_most : (t : List ℕ) → count_waiting making (waiting_in t) ≤ 16
making_most t = omega (arith, sixteen t, count_most making (waiting_in t))

-- with n unanswered messages that make a flight
unfoldable pub table_filled : Message → List ℕ → ℕ → Bool
table_filled m sent n = makes (deed_of m) && leb (length (flights_in sent)) (used (flights_in sent) + n)

module _ (m : Message) (sent : List ℕ) (n : ℕ) (d : Deed) (b : Bool) (e : d ≡ deed_of m) (f : b ≡ makes d) where
  pub never_filled : b ≡ false → false ≡ table_filled m sent n
  unfolding table_filled
  never_filled h = rw (sym (ap makes e) ∙ sym f ∙ h)

  pub filled_by : b ≡ true → (k : ℕ) → k ≡ in_use sent → leb (length sent / 768) (k + n) ≡ table_filled m sent n
  unfolding table_filled
  filled_by h k p = (λ i. leb (sym (flights_many sent) i) ((p ∙ used_in sent) i + n)) ∙ rw (sym (ap makes e) ∙ sym f ∙ h)
