-- What a search over a table's bytes finds, and the decision that follows from it.
use Rattle.std.specs.Prelude.{◌≡◌, refl, Bool, true, false, List, ℕ, ◌<◌}
use Rattle.std.proofs.Common.{sym, ◌∙◌, arith}
use Rattle.std.proofs.Math.Path.{ap}
use Rattle.std.proofs.Math.Bool.{cond}
use Rattle.std.proofs.lemmas.Bool.{false≢true}
use Rattle.std.proofs.Math.Option.{Option, none, some}
use Rattle.message.specs.declared.Kind.{Kind}
use Rattle.message.specs.declared.Kind.TheVariants.{Chg}
use Rattle.message.specs.Record.{is_chg}
use Rattle.places.specs.Place.{Place, At, Nowhere}
use Rattle.places.specs.Places.{get, found_below, found_has, is_free as is_none}
use Rattle.places.specs.Stored.{get_places}
use Rattle.flights.specs.Flight.{Flight, flight_of}
use Rattle.flights.specs.Table.{places, place, found, lowest_free as lowest_in}
use Rattle.flights.specs.Decoded.{flight_form, flights_in, keyed, flights_many, found_places, free_places}
use Rattle.deeds.specs.declared.Deed.{Deed}
use Rattle.deeds.specs.declared.Decision.TheVariants.{Fails, Done}
use Rattle.deeds.specs.Message.{Message}
use Rattle.deeds.specs.Deeds.{Key, same_key, old, new, changed_key, deed_of, may_on, makes, may}
use Rattle.deeds.specs.Applying.{where_is, lowest_free, held_at, flight_under, other, nowhere, or_free, decided_at, decision, asked}
use Rattle.places.specs.Bytes.{free}

-- A SEARCH

-- a place with a key is not free
used_place : (a d e : List ℕ) (b : Bool) (x : Flight) → keyed a d e (cond b none (some x)) ≡ true → cond b none (some x) ≡ some x
used_place a d e true x h = absurd (false≢true h)
used_place a d e false x h = refl

-- a place that was found is one of the table's, and has the flight that its bytes are
module _ (k : Key) (t : List ℕ) (i : ℕ) (h : where_is k (flights_in t) ≡ At i) where
  pub found_in : i < places t
  found_in = omega (arith, found_below (asked k) 0 i (flights_in t) h, flights_many t)

  pub found_flight : get i (flights_in t) ≡ some (flight_of (place i t))
  found_flight =
      let e : get i (flights_in t) ≡ cond (free (place i t)) none (some (flight_of (place i t))) = get_places flight_form i (places t) t found_in in
      e ∙ used_place k.aircraft k.departure k.destination (free (place i t)) (flight_of (place i t)) (ap (asked k) (sym e) ∙ found_has (asked k) i (flights_in t) h)

-- where a key is, by the search over the bytes
pub where_is_lem : (k : Key) (t a d e : List ℕ) (p : Place) → p ≡ found a d e t → a ≡ k.aircraft → d ≡ k.departure → e ≡ k.destination → where_is k (flights_in t) ≡ p
where_is_lem k t a d e p h x y z = sym (h ∙ (λ j. found (x j) (y j) (z j) t) ∙ found_places k.aircraft k.departure k.destination t)

-- no flight is under a key that is nowhere
none_under : (k : Key) (t : List ℕ) (p : Place) → where_is k (flights_in t) ≡ p → nowhere p ≡ is_none (held_at p (flights_in t))
unfolding nowhere
none_under k t (At i) h = sym (ap is_none (found_flight k t i h))
none_under k t Nowhere h = refl

-- ANOTHER FLIGHT under a CHG's new key

module _ (m : Message) (t : List ℕ) (c : m.kind ≡ Chg) where
  other_chg : other m (flights_in t) ≡ cond (same_key (changed_key m) (old m)) none (flight_under (changed_key m) (flights_in t))
  unfolding other new is_chg
  other_chg =
      let e : new m ≡ changed_key m = ap (λ (k : Kind). cond (is_chg k) (changed_key m) (old m)) c in
      ap (λ (k : Key). cond (same_key k (old m)) none (flight_under k (flights_in t))) e

  pub kept_unused : (b : Bool) → b ≡ same_key (changed_key m) (old m) → b ≡ true → true ≡ is_none (other m (flights_in t))
  kept_unused b e h = sym (ap is_none (other_chg ∙ ap (λ (x : Bool). cond x none (flight_under (changed_key m) (flights_in t))) (sym e ∙ h)))

  pub new_unused : (b : Bool) → b ≡ same_key (changed_key m) (old m) → b ≡ false → (p : Place) → where_is (changed_key m) (flights_in t) ≡ p → (x : Bool) → x ≡ nowhere p → x ≡ is_none (other m (flights_in t))
  new_unused b e h p w x n =
      n ∙ none_under (changed_key m) t p w ∙ ap (λ (q : Place). is_none (held_at q (flights_in t))) (sym w)
      ∙ sym (ap is_none (other_chg ∙ ap (λ (x : Bool). cond x none (flight_under (changed_key m) (flights_in t))) (sym e ∙ h)))

-- THE DECISION

-- the lowest free place, by the search over the bytes
pub new_at : (t : List ℕ) (p q : Place) → p ≡ lowest_in t → p ≡ q → decided_at q ≡ decided_at (lowest_free (flights_in t))
new_at t p q e h = ap decided_at (sym h ∙ e ∙ free_places t)

module _ (m : Message) (t : List ℕ) (d : Deed) (n : d ≡ deed_of m) where
  -- its flight is there
  pub decided_at_lem : (i : ℕ) → where_is (old m) (flights_in t) ≡ At i → (b v : Bool) → b ≡ may_on d m (flight_of (place i t)) (other m (flights_in t)) → b ≡ v → cond v (Done i) Fails ≡ decision m (flights_in t)
  unfolding decision may
  decided_at_lem i w b v e h =
      let l = flights_in t in
      ap (λ (x : Bool). cond x (Done i) Fails) (sym h ∙ e ∙ ap (λ (x : Deed). may_on x m (flight_of (place i t)) (other m l)) n)
      ∙ ap (λ (x : Option Flight). cond (may (deed_of m) m x (other m l)) (Done i) Fails) (sym (found_flight (old m) t i w))
      ∙ ap (λ (p : Place). cond (may (deed_of m) m (held_at p l) (other m l)) (decided_at (or_free p l)) Fails) (sym w)

  -- it is not
  pub decided_new : where_is (old m) (flights_in t) ≡ Nowhere → (b v : Bool) → b ≡ makes d → b ≡ v → cond v (decided_at (lowest_free (flights_in t))) Fails ≡ decision m (flights_in t)
  unfolding decision may
  decided_new w b v e h =
      let l = flights_in t in
      ap (λ (x : Bool). cond x (decided_at (lowest_free l)) Fails) (sym h ∙ e ∙ ap makes n)
      ∙ ap (λ (p : Place). cond (may (deed_of m) m (held_at p l) (other m l)) (decided_at (or_free p l)) Fails) (sym w)
