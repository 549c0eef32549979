-- A number in decimal, without leading zeros. Assumes nothing.
use Rattle.std.specs.Prelude.{ℕ, zero, suc, ◌+◌, ◌/◌, ◌%◌, cond, List, [], ◌∷◌, ◌++◌, ltb}

-- the decimal digits of n: the last one is n % 10, and before it stand those of n / 10, if that is not 0. A number
-- that only falls ends the definition; each n has enough of it in n itself (proofs/Decimals.antt, `decimal_more`), and
-- of 64 bits it is what std prints (`decimal_std`)
unfoldable pub decimal_by : ℕ → ℕ → List ℕ
decimal_by zero n = (48 + n % 10) ∷ []
decimal_by (suc k) n = cond (ltb n 10) ((48 + n) ∷ []) (decimal_by k (n / 10) ++ ((48 + n % 10) ∷ []))

unfoldable pub decimal : ℕ → List ℕ
decimal n = decimal_by n n
