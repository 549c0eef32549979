-- GIVEN ANSWERS: 1,000 bytes, one for each number, by document 01's "Records".
use Rattle.std.specs.Prelude.{◌≡◌, Bool, true, cond, ◌&&◌, ◌||◌, List, [], ◌∷◌, ℕ, ◌+◌, ◌-◌, ◌%◌, ◌<◌, length, get_or, eqb, leb}

-- 0 none, 1 LAM, 2 RLA, 57 or 62 that LRM
unfoldable pub is_value : ℕ → Bool
is_value b = (((eqb b 0 || eqb b 1) || eqb b 2) || eqb b 57) || eqb b 62

-- the answer bytes hold only the values named
pub record AnswersFormed (a : List ℕ) : Type 0 where
  pub whole : length a ≡ 1000
  pub values : (i : ℕ) → i < 1000 → is_value (get_or a i 0) ≡ true

-- how far the number k lies past h, as numbers run to 999 and round again
abbrev pub past : ℕ → ℕ → ℕ
past h k = (k + 1000 - h) % 1000

-- k is one of the numbers after h, up to and with n
unfoldable pub after : ℕ → ℕ → ℕ → Bool
after h n k = leb 1 (past h k) && leb (past h k) (past h n)

-- none for these, the first byte being that of the number k
unfoldable pub forgotten_from : ℕ → ℕ → ℕ → List ℕ → List ℕ
forgotten_from h n k [] = []
forgotten_from h n k (x ∷ a) = cond (after h n k) 0 x ∷ forgotten_from h n (k + 1) a

abbrev pub forgotten : ℕ → ℕ → List ℕ → List ℕ
forgotten h n a = forgotten_from h n 0 a
