-- The lowest place with what is asked.
use Rattle.std.specs.Prelude.{◌≡◌, Bool, true, false, cond}
use Rattle.std.proofs.Math.Path.{sym}
use Rattle.std.proofs.Common.{◌∙◌}
use Prim.Native.Nat.{ℕ, zero, suc, ◌+◌, ◌-◌, ◌≤◌, ◌<◌}
use Rattle.std.proofs.Math.Nat.{sub-zero}
use native.Mathlib.Omega.{arith}
use Rattle.places.specs.Place.{Place, At, Nowhere}

-- the first of the k places from i on that has what p asks
unfoldable pub first_from : (ℕ → Bool) → ℕ → ℕ → Place
first_from p zero i = Nowhere
first_from p (suc k) i = cond (p i) (At i) (first_from p k (i + 1))

-- one place further

module _ (p : ℕ → Bool) (n i : ℕ) where
  pub first_here : i < n → p i ≡ true → first_from p (n - i) i ≡ At i
  unfolding first_from
  first_here h q = let e : n - i ≡ suc (n - (i + 1)) = omega arith in rw (e, q)

  pub first_next : i < n → p i ≡ false → first_from p (n - i) i ≡ first_from p (n - (i + 1)) (i + 1)
  unfolding first_from
  first_next h q = let e : n - i ≡ suc (n - (i + 1)) = omega arith in rw (e, q)

  pub first_none : n ≤ i → first_from p (n - i) i ≡ Nowhere
  unfolding first_from
  first_none h = let e : n - i ≡ 0 = omega arith in rw e

pub from_first : (p : ℕ → Bool) (n : ℕ) → first_from p n 0 ≡ first_from p (n - 0) 0
from_first p n = rw sub-zero

-- HOW MANY of the k places from i on have what p asks
unfoldable pub count_from : (ℕ → Bool) → ℕ → ℕ → ℕ
count_from p zero i = 0
count_from p (suc k) i = cond (p i) (1 + count_from p k (i + 1)) (count_from p k (i + 1))

module _ (p : ℕ → Bool) (n i m c : ℕ) where
  pub count_one : i < n → p i ≡ true → m ≡ c + count_from p (n - i) i → m ≡ c + 1 + count_from p (n - (i + 1)) (i + 1)
  unfolding count_from
  count_one h q e = let z : n - i ≡ suc (n - (i + 1)) = omega arith in e ∙ rw (z, q) (omega arith)

  pub count_not : i < n → p i ≡ false → m ≡ c + count_from p (n - i) i → m ≡ c + count_from p (n - (i + 1)) (i + 1)
  unfolding count_from
  count_not h q e = let z : n - i ≡ suc (n - (i + 1)) = omega arith in e ∙ rw (z, q)

  pub count_end : n ≤ i → m ≡ c + count_from p (n - i) i → c ≡ m
  unfolding count_from
  count_end h e = let z : n - i ≡ 0 = omega arith in sym (e ∙ rw z (omega arith))

pub from_count : (p : ℕ → Bool) (n : ℕ) → count_from p n 0 ≡ 0 + count_from p (n - 0) 0
from_count p n = rw sub-zero (omega arith)
