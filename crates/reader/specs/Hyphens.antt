-- Laws of hyphens.
use Rattle.std.specs.Prelude.{◌≡◌, Bool, true, false, cond, List, [], ◌∷◌, ◌++◌, ℕ, suc, ◌+◌, ◌≤◌, ◌<◌, get_or, drop, eqb}
use native.Mathlib.Omega.{arith}
use Rattle.std.proofs.Math.Numerals.{add-one}
use Rattle.std.proofs.Math.ListN.{length}
use Rattle.std.proofs.Common.{drop-cons}
use Rattle.std.proofs.Math.Seq.{drop-length}
use borrow.Author.Tests.{eq-eqb, ne_eqb}
use Rattle.reader.specs.Reading.{hyphens}

-- hyphens, one byte after the other
module _ (s : List ℕ) (i : ℕ) where
  pub hyphen_on : i < length s → get_or s i 0 ≡ 45 → hyphens (drop i s) ≡ hyphens (drop (i + 1) s) + 1
  unfolding hyphens
  hyphen_on h e = rw (drop-cons s i 0 h, eq-eqb (get_or s i 0) 45 e, add-one i) (omega arith)

  pub hyphen_off : i < length s → (get_or s i 0 ≡ 45 → ⊥) → hyphens (drop i s) ≡ hyphens (drop (i + 1) s)
  unfolding hyphens
  hyphen_off h e = rw (drop-cons s i 0 h, ne_eqb (get_or s i 0) 45 e, add-one i)

  pub hyphen_end : i ≤ length s → length s ≤ i → hyphens (drop i s) ≡ 0
  unfolding hyphens
  hyphen_end h k = let e : i ≡ length s = omega arith in rw (e, drop-length s)

pub ruleset steps = (hyphen_on, hyphen_off, hyphen_end)

-- hyphens of two parts, the second after the first
pub hyphens_append : (s t : List ℕ) → hyphens (s ++ t) ≡ hyphens s + hyphens t
unfolding hyphens
hyphens_append [] t = omega arith
hyphens_append (x ∷ s) t = go (eqb x 45) (hyphens_append s t)
  where
    go : (b : Bool) → hyphens (s ++ t) ≡ hyphens s + hyphens t → cond b (suc (hyphens (s ++ t))) (hyphens (s ++ t)) ≡ cond b (suc (hyphens s)) (hyphens s) + hyphens t
    go true e = omega arith
    go false e = e

-- no text has more hyphens than bytes
pub hyphens_within : (s : List ℕ) → hyphens s ≤ length s
unfolding hyphens
hyphens_within [] = omega arith
hyphens_within (x ∷ s) = go (eqb x 45) (hyphens_within s)
  where
    go : (b : Bool) → hyphens s ≤ length s → cond b (suc (hyphens s)) (hyphens s) ≤ suc (length s)
    go true h = omega arith
    go false h = omega arith

pub ruleset parts = (hyphens_append, hyphens_within)
