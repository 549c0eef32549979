-- WHERE A LINE ENDS. Assumes nothing.
use Rattle.std.specs.Prelude.{ℕ, ◌≤◌, ◌<◌, ◌≡◌, Bool, true, false, cond, List, [], ◌∷◌, length, take, get_or, eqb}

-- whether no byte is a line feed
unfoldable pub feedless : List ℕ → Bool
feedless [] = true
feedless (b ∷ bs) = cond (eqb b 10) false (feedless bs)

-- r is where the first line feed of s stands, or the length of s where it has none
pub record LineEnd (s : List ℕ) (r : ℕ) : Type 0 where
  pub inside : r ≤ length s
  pub before : feedless (take r s) ≡ true
  pub found : r < length s → get_or s r 0 ≡ 10
