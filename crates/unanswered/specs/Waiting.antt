-- UNANSWERED MESSAGES: 16 places of 1,280 bytes, by document 01's "Records".
use Rattle.std.specs.Prelude.{◌≡◌, ◌⊎◌, Bool, true, false, not, ◌&&◌, List, ◌∷◌, ◌++◌, ℕ, ◌-◌, ◌*◌, ◌≤◌, ◌<◌, length, take, drop, replicate, eqb}
use Rattle.message.specs.declared.Kind.{Kind}
use Rattle.message.specs.declared.Kind.TheVariants.{None, Fpl, Cpl, Est, Chg, Cnl, Rti, Rta, Rla, Lam, Lrm}
use Rattle.message.specs.declared.Verdict.TheVariants.{Read}
use Rattle.message.specs.declared.Record.{Record}
use Rattle.reader.specs.Reading.{Judged, cut}
use Rattle.places.specs.Place.{Place}
use Rattle.places.specs.Below.{Below}
use Rattle.places.specs.Search.{first_from}
use Rattle.places.specs.Bytes.{high, low, number_at, free}
use Rattle.unanswered.specs.declared.Shown.{Shown}
use Rattle.unanswered.specs.declared.Shown.TheVariants.{Broken, Empty, Message}

-- a message that waits for its answer
pub record Waiting : Type 0 where
  pub number : ℕ
  pub text : List ℕ

abbrev pub waiting : ℕ → List ℕ → Waiting
waiting n s = record { number = n; text = s }

-- 0 in use; 1 number; 3 length; 5 the text; the rest zero
abbrev pub waiting_bytes : Waiting → List ℕ
waiting_bytes m =
    1 ∷ high m.number ∷ low m.number ∷ high (length m.text) ∷ low (length m.text) ∷ (m.text ++ replicate (1275 - length m.text) 0)

-- A free one is all zero
abbrev pub free_bytes : List ℕ
free_bytes = replicate 1280 0

-- and read off the bytes again
abbrev pub waiting_of : List ℕ → Waiting
waiting_of b = record { number = number_at 1 b; text = take (number_at 3 b) (drop 5 b) }

-- RLA, LAM and LRM answer; no message is none to wait for
unfoldable pub is_answer : Kind → Bool
is_answer None = true
is_answer Fpl = false
is_answer Cpl = false
is_answer Est = false
is_answer Chg = false
is_answer Cnl = false
is_answer Rti = false
is_answer Rta = false
is_answer Rla = true
is_answer Lam = true
is_answer Lrm = true

-- each unanswered text is one that is read, no answer, with our unit first, the partner's second and the number beside
-- it; all numbers are at most 999
pub record Proper (ours partners : List ℕ) (m : Waiting) : Type 0 where
  pub its : Record
  pub read : Judged m.text Read its
  pub message : is_answer its.kind ≡ false
  pub sender : cut m.text its.parts.number.sender ≡ ours
  pub receiver : cut m.text its.parts.number.receiver ≡ partners
  pub number : its.figures.number ≡ m.number
  pub most : m.number ≤ 999

-- a place is free, or it is that of a message
abbrev pub WellFormed : List ℕ → List ℕ → List ℕ → Type 0
WellFormed ours partners b = (b ≡ free_bytes) ⊎ ((m : Waiting) × (b ≡ waiting_bytes m) × Proper ours partners m)

-- THE 16 PLACES

abbrev pub place : ℕ → List ℕ → List ℕ
place i t = take 1280 (drop (i * 1280) t)

-- not both used with one number
abbrev pub Apart : List ℕ → List ℕ → Type 0
Apart a b = free a ≡ false → free b ≡ false → (waiting_of a).number ≡ (waiting_of b).number → ⊥

-- place i is well formed, and shares its number with no lower one
abbrev pub FormedAt : List ℕ → List ℕ → List ℕ → ℕ → Type 0
FormedAt ours partners t i = WellFormed ours partners (place i t) × Below (λ j. Apart (place j t) (place i t)) i

-- WHAT A PLACE SHOWS beside its text: it is well formed under no names; it is free; or it is that of a message, if that is
-- proper
abbrev pub Shows : List ℕ → Shown → Type 0
Shows b Broken = (ours partners : List ℕ) → WellFormed ours partners b → ⊥
Shows b Empty = (b ≡ free_bytes)
Shows b Message = (b ≡ waiting_bytes (waiting_of b)) × (number_at 3 b ≤ 1275)

-- and beside the lower ones
abbrev pub ShowsAt : List ℕ → ℕ → Shown → Type 0
ShowsAt t i Broken = (ours partners : List ℕ) → FormedAt ours partners t i → ⊥
ShowsAt t i Empty = Shows (place i t) Empty × Below (λ j. Apart (place j t) (place i t)) i
ShowsAt t i Message = Shows (place i t) Message × Below (λ j. Apart (place j t) (place i t)) i

-- no two unanswered share a number
pub record UnansweredFormed (ours partners t : List ℕ) : Type 0 where
  pub whole : length t ≡ 20480
  pub each : (i : ℕ) → i < 16 → WellFormed ours partners (place i t)
  pub numbers : (i : ℕ) → i < 16 → (j : ℕ) → j < i → Apart (place j t) (place i t)

-- used, with the number n
abbrev pub has_number : ℕ → List ℕ → Bool
has_number n b = not (free b) && eqb (waiting_of b).number n

-- the lowest place with a number
abbrev pub found : ℕ → List ℕ → Place
found n t = first_from (λ i. has_number n (place i t)) 16 0

-- the lowest free place
abbrev pub lowest_free : List ℕ → Place
lowest_free t = first_from (λ i. free (place i t)) 16 0
