-- A LINE OF THE REPORT that was written.
use Rattle.std.specs.Prelude.{ℕ, ◌+◌, ◌≤◌, ◌≡◌, Bool, true, false, List}
use Rattle.std.specs.Int.{from_bool}
use Rattle.std.proofs.Common.{sym, refl, ◌∙◌}
use Rattle.splice.specs.Splice.{Spliced, spliced_one}

-- a line s of the report was written, and `read` says whether its text is read: as a number it is `value`
pub record Tells (s : List ℕ) (value at : ℕ) (d e : List ℕ) (next : ℕ) (read : Bool) : Type 0 where
  pub wrote : Spliced at s d e next
  pub room : next ≤ at + 71
  pub told : from_bool read ≡ value

same_read : (x y : Bool) → from_bool x ≡ from_bool y → x ≡ y
same_read true true e = refl
same_read true false e = cc
same_read false true e = cc
same_read false false e = refl

-- which leaves no choice
pub tells_one : {s : List ℕ} {value at : ℕ} {d e f : List ℕ} {m n : ℕ} {x y : Bool} → Tells s value at d e m x → Tells s value at d f n y → (e ≡ f) × (m ≡ n) × (x ≡ y)
tells_one {x = x} {y = y} a b = let same = spliced_one a.wrote b.wrote in (same.0, same.1, same_read x y (a.told ∙ sym b.told))
