-- Laws of numbers in decimal, and that the definition is std's. Assumes nothing.
use Rattle.std.specs.Prelude.{Bool, true, false, cond, ltb}
use Rattle.std.proofs.Common.{◌≡◌, refl, ap, ◌∙◌, ℕ, zero, suc, ◌+◌, ◌/◌, ◌%◌, ◌^◌, ◌≤◌, ◌<◌, List, [], ◌∷◌, ◌++◌, arith, ltb-false}
use Rattle.std.proofs.lemmas.Bool.{lt-ltb, le-ltb}
use Rattle.std.proofs.lemmas.Fmt.{AppendsLastDigit, decimal_from_appends, length-decimal-le_succ}
use Rattle.std.specs.Fmt as std_fmt
use Rattle.lines.specs.Numbers.{decimal, decimal_by}

either : (t : Bool) (small x y last : List ℕ) → (t ≡ false → x ≡ y) → cond t small (x ++ last) ≡ cond t small (y ++ last)
either true small x y last h = refl
either false small x y last h = rw (h refl)

-- the number that only falls plays no part where it is as large as n
enough : (k m n : ℕ) → n ≤ k → n ≤ m → decimal_by k n ≡ decimal_by m n
unfolding decimal_by
enough zero zero n h g = refl
enough zero (suc m) n h g = let e : n ≡ 0 = omega arith in rw e refl
enough (suc k) zero n h g = let e : n ≡ 0 = omega arith in rw e refl
enough (suc k) (suc m) n h g =
    either (ltb n 10) _ _ _ _ (λ q. let l : 10 ≤ n = ltb-false n 10 q in enough k m (n / 10) (omega arith) (omega arith))

pub decimal_one : (n : ℕ) → n < 10 → decimal n ≡ (48 + n) ∷ []
unfolding decimal decimal_by
decimal_one n h = enough n (suc n) n (omega arith) (omega arith) ∙ rw (lt-ltb n 10 h)

pub decimal_more : (n : ℕ) → 10 ≤ n → decimal n ≡ decimal (n / 10) ++ ((48 + n % 10) ∷ [])
unfolding decimal decimal_by
decimal_more n h =
    enough n (suc n) n (omega arith) (omega arith) ∙ rw (le-ltb n 10 h) (ap (λ (l : List ℕ). l ++ ((48 + n % 10) ∷ [])) (enough n (n / 10) (n / 10) (omega arith) (omega arith)))

-- the last k digits
last_digits : ℕ → ℕ → List ℕ
last_digits zero n = []
last_digits (suc k) n = decimal_by k n

appends : AppendsLastDigit last_digits
unfolding last_digits decimal_by
appends = record { one = one; more = more }
  where
    one : (k n : ℕ) → n < 10 → last_digits (suc k) n ≡ (48 + n) ∷ []
    one zero n h = let e : n % 10 ≡ n = omega arith in rw e
    one (suc k) n h = rw (lt-ltb n 10 h)

    more : (k n : ℕ) → 10 ≤ n → last_digits (suc k) n ≡ last_digits k (n / 10) ++ ((48 + n % 10) ∷ [])
    more zero n h = refl
    more (suc k) n h = rw (le-ltb n 10 h)

pub decimal_std : (n : ℕ) → n < 2 ^ 64 → decimal n ≡ std_fmt.decimal n
unfolding last_digits decimal
decimal_std n h = decimal_from_appends last_digits appends (suc n) n h (omega (arith, length-decimal-le_succ n h))
