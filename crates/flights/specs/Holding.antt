-- WHAT A WELL FORMED TABLE HOLDS, and that the table of such flights is well formed.
use Rattle.std.specs.Prelude.{◌≡◌, refl, Bool, true, false, cond, List, ℕ, ◌≤◌, ◌<◌, length}
use Rattle.std.proofs.Common.{sym, ap, ◌∙◌, subst, inl, inr, arith}
use Rattle.std.proofs.lemmas.Bool.{false≢true}
use Rattle.std.proofs.Math.Option.{Option, none, some}
use Rattle.places.specs.Places.{Places, get, Every, every_as, every_get}
use Rattle.places.specs.Forms.{bytes_or}
use Rattle.places.specs.Stored.{place_bytes}
use Rattle.flights.specs.Flight.{Flight, record_of, flight_of, WellFormed}
use Rattle.flights.specs.Records.{flight_back}
use Rattle.flights.specs.Table.{places, place}
use Rattle.flights.specs.Formed.{Apart, TableFormed}
use Rattle.flights.specs.Decoded.{read_flight, flight_form, flights_in, table_of, SoundPlace, sound_fits, table_long, flights_many, flight_at, flights_sound}
use Rattle.places.specs.Bytes.{free}

-- one key
pub record Alike (f g : Flight) : Type 0 where
  pub aircraft : f.aircraft ≡ g.aircraft
  pub departure : f.departure ≡ g.departure
  pub destination : f.destination ≡ g.destination

-- not both with a flight of one key
abbrev pub ApartPlaces : Option Flight → Option Flight → Type 0
ApartPlaces none y = Unit
ApartPlaces (some f) none = Unit
ApartPlaces (some f) (some g) = Alike f g → ⊥

pub record FlightsFormed (l : Places Flight) : Type 0 where
  pub least : 1 ≤ length l
  pub most : length l ≤ 32
  pub each : Every SoundPlace l
  pub keys : (i : ℕ) → i < length l → (j : ℕ) → j < i → ApartPlaces (get j l) (get i l)

-- FROM THE TABLE

apart_read : (a b : List ℕ) (x y : Bool) → free a ≡ x → free b ≡ y → Apart a b → ApartPlaces (cond x none (some (flight_of a))) (cond y none (some (flight_of b)))
apart_read a b true y p q h = tt
apart_read a b false true p q h = tt
apart_read a b false false p q h = λ k. h p q (record { aircraft = k.aircraft; departure = k.departure; destination = k.destination })

pub flights_formed : (t : List ℕ) → TableFormed t → FlightsFormed (flights_in t)
flights_formed t f =
    let n : length (flights_in t) ≡ places t = flights_many t in
    record {
      least = omega (arith, f.some);
      most = omega (arith, f.most);
      each = flights_sound t f;
      keys = λ i h j k.
          let hi : i < places t = omega arith in
          let hj : j < places t = omega arith in
          subst (λ (x : Option Flight). ApartPlaces x (get i (flights_in t))) (sym (flight_at t j hj)) (subst (ApartPlaces (read_flight (place j t))) (sym (flight_at t i hi)) (apart_read (place j t) (place i t) (free (place j t)) (free (place i t)) refl refl (f.keys i hi j k)));
    }

-- TO THE TABLE

formed_place : (x : Option Flight) → SoundPlace x → WellFormed (bytes_or flight_form x)
formed_place none s = inl refl
formed_place (some f) s = inr (f, refl, s)

apart_bytes : (x y : Option Flight) → SoundPlace x → SoundPlace y → ApartPlaces x y → Apart (bytes_or flight_form x) (bytes_or flight_form y)
apart_bytes none y s r q = λ u v k. false≢true (sym u)
apart_bytes (some f) none s r q = λ u v k. false≢true (sym v)
apart_bytes (some f) (some g) s r q = λ u v k.
    let a : flight_of (record_of f) ≡ f = flight_back f s in
    let b : flight_of (record_of g) ≡ g = flight_back g r in
    q (record {
      aircraft = sym (ap (λ (z : Flight). z.aircraft) a) ∙ k.aircraft ∙ ap (λ (z : Flight). z.aircraft) b;
      departure = sym (ap (λ (z : Flight). z.departure) a) ∙ k.departure ∙ ap (λ (z : Flight). z.departure) b;
      destination = sym (ap (λ (z : Flight). z.destination) a) ∙ k.destination ∙ ap (λ (z : Flight). z.destination) b;
    })

pub table_formed : (l : Places Flight) → FlightsFormed l → TableFormed (table_of l)
table_formed l f =
    let w = table_long l f.each in
    let n : places (table_of l) ≡ length l = omega arith in
    let at : (i : ℕ) → i < length l → place i (table_of l) ≡ bytes_or flight_form (get i l) = λ i h. place_bytes flight_form i l h (every_as sound_fits l f.each) in
    record {
      some = omega (arith, f.least);
      most = omega (arith, f.most);
      whole = omega arith;
      each = λ i h. let hi : i < length l = omega arith in subst WellFormed (sym (at i hi)) (formed_place (get i l) (every_get SoundPlace i l f.each hi));
      keys = λ i h j k.
          let hi : i < length l = omega arith in
          let hj : j < length l = omega arith in
          subst (λ (x : List ℕ). Apart x (place i (table_of l))) (sym (at j hj)) (subst (Apart (bytes_or flight_form (get j l))) (sym (at i hi)) (apart_bytes (get j l) (get i l) (every_get SoundPlace j l f.each hj) (every_get SoundPlace i l f.each hi) (f.keys i hi j k)));
    }
