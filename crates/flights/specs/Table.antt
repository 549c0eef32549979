-- A table of flights: places of 768 bytes one after the other.
use Rattle.std.specs.Prelude.{◌≡◌, Bool, true, false, not, ◌&&◌, List, ℕ, ◌+◌, ◌-◌, ◌*◌, ◌/◌, ◌<◌, length, take, drop, get_or}
use Rattle.std.proofs.Common.{ap, ◌∙◌, add-zero, arith, length-drop, get_or-take, get_or-drop, length-take-le, eq-eqb, ne_eqb}
use Rattle.places.specs.Place.{Place}
use Rattle.places.specs.Search.{first_from, count_from}
use Rattle.flights.specs.Flight.{flight_of}
use Rattle.places.specs.Bytes.{same, free}

abbrev pub places : List ℕ → ℕ
places t = length t / 768

abbrev pub place : ℕ → List ℕ → List ℕ
place i t = take 768 (drop (i * 768) t)

-- aircraft, departure and destination are the key; a used place has it
abbrev pub has_key : List ℕ → List ℕ → List ℕ → List ℕ → Bool
has_key aircraft departure destination b = ((not (free b) && same (flight_of b).aircraft aircraft) && same (flight_of b).departure departure) && same (flight_of b).destination destination

-- the lowest free place
abbrev pub lowest_free : List ℕ → Place
lowest_free t = first_from (λ i. free (place i t)) (places t) 0

-- the lowest place with a key
abbrev pub found : List ℕ → List ℕ → List ℕ → List ℕ → Place
found aircraft departure destination t = first_from (λ i. has_key aircraft departure destination (place i t)) (places t) 0

-- how many places are not free
abbrev pub in_use : List ℕ → ℕ
in_use t = count_from (λ i. not (free (place i t))) (places t) 0

-- the status of a place is the table's byte where it starts
pub status_at : (t : List ℕ) (i : ℕ) → get_or (place i t) 0 0 ≡ get_or t (i * 768) 0
status_at t i = rw (get_or-take 768 (drop (i * 768) t) 0 0 (omega arith), get_or-drop, add-zero)

-- what is lent of a table from i * 768 on is place i
pub lent : (t : List ℕ) (i : ℕ) → take (i * 768 + 768 - i * 768) (drop (i * 768) t) ≡ place i t
lent t i = let e : i * 768 + 768 - i * 768 ≡ 768 = omega arith in rw e

pub lent_long : (t : List ℕ) (i : ℕ) → i < places t → length (take (i * 768 + 768 - i * 768) (drop (i * 768) t)) ≡ 768
lent_long t i h = ap length (lent t i) ∙ length-take-le 768 (drop (i * 768) t) (omega (arith, length-drop (i * 768) t))

-- A KEY, test by test

module _ (a d e b : List ℕ) where
  pub key_free : get_or b 0 0 ≡ 0 → has_key a d e b ≡ false
  key_free z = rw (eq-eqb (get_or b 0 0) 0 z)

  pub key_other : (get_or b 0 0 ≡ 0 → ⊥) → same (flight_of b).aircraft a ≡ false → has_key a d e b ≡ false
  key_other z n = rw (ne_eqb (get_or b 0 0) 0 z, n)

  pub key_rest : (get_or b 0 0 ≡ 0 → ⊥) → same (flight_of b).aircraft a ≡ true → has_key a d e b ≡ (same (flight_of b).departure d && same (flight_of b).destination e)
  key_rest z n = rw (ne_eqb (get_or b 0 0) 0 z, n)
