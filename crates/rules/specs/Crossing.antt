-- AN OFFER AND ITS ACCEPTANCE THAT CROSS: once the offer is applied at a place, the acceptance may be done there.
use Rattle.std.specs.Prelude.{◌≡◌, Bool, true, false, not, List, ℕ, ◌<◌, length}
use Rattle.std.proofs.Math.Path.{refl, ap}
use Rattle.std.proofs.Common.{sym, ◌∙◌, arith, eq-eqb}
use Rattle.std.proofs.Math.Bool.{cond}
use Rattle.std.proofs.lemmas.Bool.{false≢true}
use Rattle.std.proofs.Math.Option.{Option, none, some}
use Rattle.scan.specs.Bools.{and_l, and_r}
use Rattle.message.specs.declared.Kind.TheVariants.{Rla}
use Rattle.places.specs.Place.{Place, At, Nowhere}
use Rattle.places.specs.Places.{Places, get, get_set, found_below, found_has, first_set}
use Rattle.flights.specs.Flight.{Flight, offered}
use Rattle.flights.specs.Decoded.{keyed}
use Rattle.deeds.specs.declared.Deed.{Deed}
use Rattle.deeds.specs.declared.Deed.TheVariants.{Offers, Accepts}
use Rattle.deeds.specs.declared.Decision.{Decision}
use Rattle.deeds.specs.declared.Decision.TheVariants.{Fails, Done}
use Rattle.deeds.specs.Message.{Message}
use Rattle.deeds.specs.Deeds.{Key, same_key, old, deed_of, is_offered, is_offer, makes, may_on, may, handed_off, becomes_on, becomes}
use Rattle.deeds.specs.Applying.{where_is, held_at, flight_under, other, or_free, home, decided_at, decision, done_at, after, applied, asked}
use Rattle.rules.specs.Answers.{is_offering, is_acceptance, is_good}
use Rattle.rules.specs.Receiving.{settled_sent, retires}
use Rattle.rules.specs.Laws.{offers, accepts}
use Rattle.deeds.specs.Tests.{same_key_lem}

-- a place with a key has a flight
keyed_some : (a d e : List ℕ) (o : Option Flight) → keyed a d e o ≡ true → (x : Flight) × (o ≡ some x)
keyed_some a d e none h = absurd (false≢true h)
keyed_some a d e (some x) h = (x, refl)

-- THE OFFER was done where its flight stands

fails_done : (i : ℕ) → Fails ≡ Done i → ⊥
fails_done i e = let z : ◌≡◌ {A = ℕ} 0 1 = cc in omega arith

done_place : (b : Bool) (j i : ℕ) → cond b (Done j) Fails ≡ Done i → j ≡ i
done_place true j i e = cc
done_place false j i e = absurd (fails_done i e)

module _ (q : Message) (l : Places Flight) (i : ℕ) where
  offered_at : (p : Place) → where_is (old q) l ≡ p → cond (may Offers q (held_at p l) (other q l)) (decided_at (or_free p l)) Fails ≡ Done i → where_is (old q) l ≡ At i
  unfolding may makes
  offered_at (At j) e c = e ∙ ap (λ (k : ℕ). At k) (done_place (may Offers q (get j l) (other q l)) j i c)
  offered_at Nowhere e c = absurd (fails_done i c)

  offer_place : deed_of q ≡ Offers → decision q l ≡ Done i → where_is (old q) l ≡ At i
  unfolding decision
  offer_place f h =
      offered_at (where_is (old q) l) refl
      (ap (λ (d : Deed). cond (may d q (flight_under (old q) l) (other q l)) (decided_at (home q l)) Fails) (sym f) ∙ h)

-- THE ACCEPTANCE of a flight that is offered under its number

accept_done : (m : Message) (l : Places Flight) (i : ℕ) (y : Flight) → deed_of m ≡ Accepts → where_is (old m) l ≡ At i → get i l ≡ some y → is_offer m y ≡ true → decision m l ≡ Done i
unfolding decision may may_on
accept_done m l i y g w o t =
    ap (λ (d : Deed). cond (may d m (flight_under (old m) l) (other m l)) (decided_at (home m l)) Fails) g
    ∙ ap (λ (p : Place). cond (may Accepts m (held_at p l) (other m l)) (decided_at (or_free p l)) Fails) w
    ∙ ap (λ (x : Option Flight). cond (may Accepts m x (other m l)) (Done i) Fails) o
    ∙ ap (λ (b : Bool). cond b (Done i) Fails) t

-- CROSSING
pub crossing : (q m : Message) (l : Places Flight) (i : ℕ) → is_offering (deed_of q) ≡ true → same_key (old q) (old m) ≡ true → is_acceptance (deed_of m) ≡ true → m.reference ≡ q.number → decision q l ≡ Done i → decision m (done_at i q l) ≡ Done i
unfolding becomes becomes_on is_offered
crossing q m l i a s b n h =
    let k : Key = old q in
    let f : deed_of q ≡ Offers = offers (deed_of q) a in
    let w : where_is k l ≡ At i = offer_place q l i f h in
    let u = keyed_some k.aircraft k.departure k.destination (get i l) (found_has (asked k) i l w) in
    let y : Flight = handed_off offered q.number u.0 in
    let d : becomes (deed_of q) q (get i l) ≡ some y = λ j. becomes (f j) q (u.1 j) in
    let kept : (asked k) (becomes (deed_of q) q (get i l)) ≡ (asked k) (get i l) = ap (asked k) d ∙ ap (asked k) (sym u.1) in
    let t : where_is (old m) (done_at i q l) ≡ At i = ap (λ (x : Key). where_is x (done_at i q l)) (sym (same_key_lem k (old m) s)) ∙ first_set (asked k) i 0 (becomes (deed_of q) q (get i l)) l kept ∙ w in
    let v : i < length l = omega (arith, found_below (asked k) 0 i l w) in
    accept_done m (done_at i q l) i y (accepts (deed_of m) b) t (get_set i (becomes (deed_of q) q (get i l)) l v ∙ d) (eq-eqb m.reference q.number n)

-- the same of the table to which the offer was applied
pub crossing_applied : (q m : Message) (l : Places Flight) (i : ℕ) → is_offering (deed_of q) ≡ true → same_key (old q) (old m) ≡ true → is_acceptance (deed_of m) ≡ true → m.reference ≡ q.number → decision q l ≡ Done i → decision m (applied q l) ≡ Done i
unfolding after
crossing_applied q m l i a s b n h = ap (λ (d : Decision). decision m (after d q l)) h ∙ crossing q m l i a s b n h

-- AN OFFER THAT ITS ACCEPTANCE RETIRES is settled as RLA would, and the acceptance is then done at the same place

pub retires_is : (m q : Message) → retires m q ≡ true → (is_offering (deed_of q) ≡ true) × (same_key (old q) (old m) ≡ true)
unfolding retires
retires_is m q e = (and_l (is_offering (deed_of q)) (same_key (old q) (old m)) e, and_r (is_offering (deed_of q)) (same_key (old q) (old m)) e)

pub retired_sent : (q : Message) (l : Places Flight) → is_offering (deed_of q) ≡ true → settled_sent Rla q l ≡ applied q l
unfolding settled_sent is_good is_acceptance
retired_sent q l a = ap (λ (d : Deed). cond (not (is_acceptance d)) (applied q l) l) (offers (deed_of q) a)
