-- WHERE A DECISION SAYS THAT A MESSAGE IS DONE: at a place of the table, which is free exactly where the message makes a flight.
use Rattle.std.specs.Prelude.{◌≡◌, refl, Bool, true, false, cond, List, ℕ, ◌<◌}
use Rattle.std.proofs.Common.{sym, ap, ◌∙◌, subst, arith}
use Rattle.std.proofs.lemmas.Bool.{false≢true}
use Rattle.std.proofs.Math.Option.{Option, none, some}
use Rattle.places.specs.Place.{Place, At, Nowhere}
use Rattle.places.specs.Places.{is_free, found_below, found_has}
use Rattle.places.specs.Stored.{get_places}
use Rattle.flights.specs.Flight.{Flight, flight_of}
use Rattle.flights.specs.Table.{places, place}
use Rattle.flights.specs.Formed.{TableFormed}
use Rattle.flights.specs.Decoded.{read_flight, flight_form, flights_in, table_of, table_back, flights_many}
use Rattle.deeds.specs.declared.Deed.{Deed}
use Rattle.deeds.specs.declared.Deed.TheVariants.{Files, Enters, Amends, Estimates, Cancels, Offers, Retracts, Accepts, Nothing}
use Rattle.deeds.specs.declared.Decision.{Decision}
use Rattle.deeds.specs.declared.Decision.TheVariants.{Fails, Full, Done}
use Rattle.deeds.specs.Message.{Message}
use Rattle.deeds.specs.Deeds.{old, deed_of, may_on, makes, may, becomes}
use Rattle.deeds.specs.Applying.{where_is, lowest_free, held_at, other, or_free, decided_at, decision, after, applied}
use Rattle.deeds.specs.Deciding.{found_in, found_flight}
use Rattle.perform.specs.Performed.{Written, done_flights}
use Rattle.places.specs.Bytes.{free}

pub record Ready (d : Deed) (i : ℕ) (t : List ℕ) : Type 0 where
  pub within : i < places t
  pub free_or_not : makes d ≡ free (place i t)

pub done_by : (b : Bool) (c : Decision) (i : ℕ) → cond b c Fails ≡ Done i → (b ≡ true) × (c ≡ Done i)
done_by true c i e = (refl, e)
done_by false c i e = let z : ◌≡◌ {A = ℕ} 0 1 = cc in absurd (omega arith)

pub done_at : (p : Place) (i : ℕ) → decided_at p ≡ Done i → p ≡ At i
done_at (At j) i e = let z : j ≡ i = cc in ap At z
done_at Nowhere i e = let z : ◌≡◌ {A = ℕ} 0 1 = cc in absurd (omega arith)

-- what may be done to a flight that is there makes none
makes_none : (d : Deed) (m : Message) (x : Flight) (y : Option Flight) → may_on d m x y ≡ true → makes d ≡ false
unfolding may_on makes
makes_none Files m x y e = absurd (false≢true e)
makes_none Enters m x y e = absurd (false≢true e)
makes_none Amends m x y e = refl
makes_none Estimates m x y e = refl
makes_none Cancels m x y e = refl
makes_none Offers m x y e = refl
makes_none Retracts m x y e = refl
makes_none Accepts m x y e = refl
makes_none Nothing m x y e = refl

pub read_used : (b : Bool) (x y : Flight) → cond b none (some x) ≡ some y → b ≡ false
read_used true x y e = let z : ◌≡◌ {A = ℕ} 0 1 = cc in absurd (omega arith)
read_used false x y e = refl

read_free : (b : Bool) (x : Flight) → is_free (cond b none (some x)) ≡ true → b ≡ true
read_free true x e = refl
read_free false x e = e

pub ready : (m : Message) (t : List ℕ) (i : ℕ) → decision m (flights_in t) ≡ Done i → Ready (deed_of m) i t
unfolding decision may
ready m t i e = go (where_is (old m) (flights_in t)) refl
  where
    go : (p : Place) → where_is (old m) (flights_in t) ≡ p → Ready (deed_of m) i t
    go (At j) w =
        let f = found_flight (old m) t j w in
        let s : cond (may_on (deed_of m) m (flight_of (place j t)) (other m (flights_in t))) (Done j) Fails ≡ Done i =
        ap (λ (x : Option Flight). cond (may (deed_of m) m x (other m (flights_in t))) (Done j) Fails) (sym f)
        ∙ ap (λ (p : Place). cond (may (deed_of m) m (held_at p (flights_in t)) (other m (flights_in t))) (decided_at (or_free p (flights_in t))) Fails) (sym w) ∙ e in
        let q = done_by (may_on (deed_of m) m (flight_of (place j t)) (other m (flights_in t))) (Done j) i s in
        let z : j ≡ i = cc in
        let u : free (place j t) ≡ false = read_used (free (place j t)) (flight_of (place j t)) (flight_of (place j t)) (sym (get_places flight_form j (places t) t (found_in (old m) t j w)) ∙ f) in
        subst (λ (k : ℕ). Ready (deed_of m) k t) z (record { within = found_in (old m) t j w; free_or_not = makes_none (deed_of m) m (flight_of (place j t)) (other m (flights_in t)) q.0 ∙ sym u })
    go Nowhere w =
        let s : cond (makes (deed_of m)) (decided_at (lowest_free (flights_in t))) Fails ≡ Done i =
        ap (λ (p : Place). cond (may (deed_of m) m (held_at p (flights_in t)) (other m (flights_in t))) (decided_at (or_free p (flights_in t))) Fails) (sym w) ∙ e in
        let q = done_by (makes (deed_of m)) (decided_at (lowest_free (flights_in t))) i s in
        let a : lowest_free (flights_in t) ≡ At i = done_at (lowest_free (flights_in t)) i q.1 in
        let h : i < places t = omega (arith, found_below is_free 0 i (flights_in t) a, flights_many t) in
        let u : free (place i t) ≡ true = read_free (free (place i t)) (flight_of (place i t)) (ap is_free (sym (get_places flight_form i (places t) t h)) ∙ found_has is_free i (flights_in t) a) in
        record { within = h; free_or_not = q.0 ∙ sym u }

-- THE TABLE after a decision

pub followed : (m : Message) (t : List ℕ) (c : Decision) (i : ℕ) {e : List ℕ} {d : Deed} → TableFormed t → c ≡ decision m (flights_in t) → c ≡ Done i → d ≡ deed_of m → Written i (becomes d m (read_flight (place i t))) t e → e ≡ table_of (applied m (flights_in t))
unfolding after
followed m t c i {e} {d} k p q n w =
    let r = ready m t i (sym p ∙ q) in
    done_flights t e i m k r.within (subst (λ (x : Deed). Written i (becomes x m (read_flight (place i t))) t e) n w) ∙ ap (λ (x : Decision). table_of (after x m (flights_in t))) (sym q ∙ p)

pub left_failing : (m : Message) (t : List ℕ) (c : Decision) → TableFormed t → c ≡ decision m (flights_in t) → c ≡ Fails → t ≡ table_of (applied m (flights_in t))
unfolding after
left_failing m t c k p q = sym (table_back t k) ∙ ap (λ (x : Decision). table_of (after x m (flights_in t))) (sym q ∙ p)

pub left_full : (m : Message) (t : List ℕ) (c : Decision) → TableFormed t → c ≡ decision m (flights_in t) → c ≡ Full → t ≡ table_of (applied m (flights_in t))
unfolding after
left_full m t c k p q = sym (table_back t k) ∙ ap (λ (x : Decision). table_of (after x m (flights_in t))) (sym q ∙ p)
