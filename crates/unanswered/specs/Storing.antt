-- What is written into a place.
use Rattle.std.specs.Prelude.{◌≡◌, List, [], ◌∷◌, ℕ, ◌+◌, ◌-◌, ◌≤◌, length, replicate}
use Rattle.std.proofs.Common.{arith}
use Rattle.std.proofs.lemmas.List.{length-replicate}
use Rattle.splice.specs.Splice.{splice, Spliced}
use Rattle.splice.specs.Splicing.{then}
use Rattle.places.specs.Bytes.{high, low}
use Rattle.unanswered.specs.Waiting.{waiting, waiting_bytes}

-- the five bytes before the text, the text, and the zeros behind it
pub stored : (at n : ℕ) (s d e f g : List ℕ) (p q r : ℕ) → length s ≤ 1275 → at + 1280 ≤ length d → Spliced at (1 ∷ high n ∷ low n ∷ high (length s) ∷ low (length s) ∷ []) d e p → Spliced p s e f q → Spliced q (replicate (1275 - length s) 0) f g r → g ≡ splice at (waiting_bytes (waiting n s)) d
stored at n s d e f g p q r k h x y z =
    let l = length-replicate {A = ℕ} (1275 - length s) 0 in
    (then (then x y (omega (arith, x.place, y.place))) z (omega (arith, l, x.place, y.place, z.place))).bytes
