-- A FORM OF BYTES: what a place of so many bytes holds, or that it is free. One theory for every width.
use Rattle.std.specs.Prelude.{List, [], ◌∷◌, ◌++◌, ℕ, zero, suc, ◌*◌, take, drop, replicate}
use Rattle.std.proofs.Math.Option.{Option, none, some}
use Rattle.places.specs.Places.{Places}

pub record Form (A : Type 0) : Type 0 where
  pub width : ℕ
  pub write : A → List ℕ
  pub read : List ℕ → Option A

module _ {A : Type 0} (F : Form A) where
  -- the bytes of a place; a free one is all zero
  abbrev pub bytes_or : Option A → List ℕ
  bytes_or none = replicate F.width 0
  bytes_or (some a) = F.write a

  -- of all, one after the other
  unfoldable pub bytes_of : Places A → List ℕ
  bytes_of [] = []
  bytes_of (x ∷ l) = bytes_or x ++ bytes_of l

  -- k places read off the bytes again
  unfoldable pub places_from : ℕ → List ℕ → Places A
  places_from zero t = []
  places_from (suc k) t = F.read (take F.width t) ∷ places_from k (drop F.width t)

  -- the bytes of place i
  abbrev pub place_at : ℕ → List ℕ → List ℕ
  place_at i t = take F.width (drop (i * F.width) t)
