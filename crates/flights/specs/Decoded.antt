-- WHAT A TABLE HOLDS: a list of places, each free or with a flight.
use Rattle.std.specs.Prelude.{◌≡◌, refl, Bool, true, false, cond, not, ◌&&◌, List, ℕ, ◌*◌, ◌<◌, length, replicate, eqb}
use Rattle.std.proofs.Common.{sym, ap, ◌∙◌, subst, inl, inr, arith, length-append}
use Rattle.std.proofs.Math.Option.{Option, none, some}
use Rattle.std.proofs.lemmas.List.{length-replicate}
use Rattle.places.specs.Bytes.{same, free}
use Rattle.places.specs.Search.{first_from, count_from}
use Rattle.places.specs.Places.{Places, is_free, get, first_of, used, Every, every_as, every_of}
use Rattle.places.specs.Forms.{Form, bytes_or, bytes_of, places_from}
use Rattle.places.specs.Stored.{Kept, Fits, length_places, length_bytes, get_places, bytes_back, places_back, first_places, used_places}
use Rattle.flights.specs.Padding.{in_row}
use Rattle.flights.specs.Flight.{Status, filed, active, Flight, status_byte, widths, texts_of, record_of, flight_of, Sound, WellFormed}
use Rattle.flights.specs.Records.{texts_neat, flight_back}
use Rattle.flights.specs.Table.{places, place, found, lowest_free, in_use}
use Rattle.flights.specs.Formed.{TableFormed}
use Rattle.flights.specs.Rows.{AllFit, neat_fit, row_long}

abbrev pub read_flight : List ℕ → Option Flight
read_flight b = cond (free b) none (some (flight_of b))

abbrev pub flight_form : Form Flight
flight_form = record { width = 768; write = record_of; read = read_flight }

-- the flights of a table, and the table of flights
abbrev pub flights_in : List ℕ → Places Flight
flights_in t = places_from flight_form (places t) t

abbrev pub table_of : Places Flight → List ℕ
table_of l = bytes_of flight_form l

-- free, or with values that a flight may have
abbrev pub SoundPlace : Option Flight → Type 0
SoundPlace none = Unit
SoundPlace (some f) = Sound f

-- the key, of a place that has a flight
abbrev pub keyed : List ℕ → List ℕ → List ℕ → Option Flight → Bool
keyed aircraft departure destination none = false
keyed aircraft departure destination (some f) = (same f.aircraft aircraft && same f.departure departure) && same f.destination destination

-- A RECORD

pub record_long : (f : Flight) → AllFit widths (texts_of f) → length (record_of f) ≡ 768
record_long f h =
    omega (arith, length-append (in_row widths (texts_of f)) (replicate 27 0), row_long widths (texts_of f) h, length-replicate {A = ℕ} 27 0)

-- a flight's status is not that of a free place
status_used : (s : Status) → eqb (status_byte s) 0 ≡ false
unfolding status_byte
status_used filed = refl
status_used active = refl

pub read_record_lem : (f : Flight) → Sound f → read_flight (record_of f) ≡ some f
read_record_lem f s = ap (λ (b : Bool). cond b none (some (flight_of (record_of f)))) (status_used f.status) ∙ ap (λ (g : Flight). some g) (flight_back f s)

formed_back : (b : List ℕ) → WellFormed b → bytes_or flight_form (read_flight b) ≡ b
formed_back b (inl e) = ap (λ (x : List ℕ). bytes_or flight_form (read_flight x)) e ∙ sym e
formed_back b (inr u) = ap (λ (x : List ℕ). bytes_or flight_form (read_flight x)) u.1 ∙ ap (bytes_or flight_form) (read_record_lem u.0 u.2) ∙ sym u.1

sound_kept : (x : Option Flight) → SoundPlace x → Kept flight_form x
sound_kept none s = (length-replicate {A = ℕ} 768 0, refl)
sound_kept (some f) s = (record_long f (neat_fit widths (texts_of f) (texts_neat f s)), read_record_lem f s)

pub sound_fits : (x : Option Flight) → SoundPlace x → Fits flight_form x
sound_fits x s = (sound_kept x s).0

-- THE TABLE FROM WHAT IT HOLDS
pub table_back : (t : List ℕ) → TableFormed t → table_of (flights_in t) ≡ t
table_back t h = bytes_back flight_form (places t) t h.whole (λ i l. formed_back (place i t) (h.each i l))

pub table_long : (l : Places Flight) → Every SoundPlace l → length (table_of l) ≡ length l * 768
table_long l h = length_bytes flight_form l (every_as sound_fits l h)

-- WHAT A TABLE HOLDS, FROM THE TABLE
pub flights_back : (l : Places Flight) → Every SoundPlace l → flights_in (table_of l) ≡ l
flights_back l h =
    let n : places (table_of l) ≡ length l = omega (arith, table_long l h) in
    ap (λ (k : ℕ). places_from flight_form k (table_of l)) n ∙ places_back flight_form l (every_as sound_kept l h)

pub flights_many : (t : List ℕ) → length (flights_in t) ≡ places t
flights_many t = length_places flight_form (places t) t

-- each place of it
pub flight_at : (t : List ℕ) (i : ℕ) → i < places t → get i (flights_in t) ≡ read_flight (place i t)
flight_at t i h = get_places flight_form i (places t) t h

read_sound : (b : List ℕ) → WellFormed b → SoundPlace (read_flight b)
read_sound b (inl e) = subst (λ (x : List ℕ). SoundPlace (read_flight x)) (sym e) tt
read_sound b (inr u) = subst SoundPlace (sym (ap read_flight u.1 ∙ read_record_lem u.0 u.2)) u.2

pub flights_sound : (t : List ℕ) → TableFormed t → Every SoundPlace (flights_in t)
flights_sound t f =
    every_of SoundPlace (flights_in t)
    (λ i h. let k : i < places t = omega (arith, flights_many t) in subst SoundPlace (sym (flight_at t i k)) (read_sound (place i t) (f.each i k)))

pub record_at : (t : List ℕ) (i : ℕ) (f : Flight) → TableFormed t → i < places t → get i (flights_in t) ≡ some f → place i t ≡ record_of f
record_at t i f w h e = sym (formed_back (place i t) (w.each i h)) ∙ ap (bytes_or flight_form) (sym (flight_at t i h) ∙ e)

-- SEARCHES over the bytes are those over what the table holds

keyed_is : (a d e : List ℕ) (b x y z : Bool) (f : Flight) → x ≡ same f.aircraft a → y ≡ same f.departure d → z ≡ same f.destination e → ((not b && x) && y) && z ≡ keyed a d e (cond b none (some f))
keyed_is a d e true x y z f p q r = refl
keyed_is a d e false x y z f p q r = λ i. (p i && q i) && r i

free_is : (b : Bool) (f : Flight) → b ≡ is_free (cond b none (some f))
free_is true f = refl
free_is false f = refl

pub found_places : (a d e t : List ℕ) → found a d e t ≡ first_of (keyed a d e) 0 (flights_in t)
found_places a d e t =
    (λ j. first_from (λ i. keyed_is a d e (free (place i t)) _ _ _ (flight_of (place i t)) refl refl refl j) (places t) 0)
    ∙ sym (first_places flight_form (keyed a d e) (places t) t)

pub free_places : (t : List ℕ) → lowest_free t ≡ first_of is_free 0 (flights_in t)
free_places t =
    (λ j. first_from (λ i. free_is (free (place i t)) (flight_of (place i t)) j) (places t) 0) ∙ sym (first_places flight_form is_free (places t) t)

pub used_in : (t : List ℕ) → in_use t ≡ used (flights_in t)
used_in t =
    (λ j. count_from (λ i. not (free_is (free (place i t)) (flight_of (place i t)) j)) (places t) 0) ∙ sym (used_places flight_form (places t) t)
