-- THE TEXT OF AN ANSWER, by document 01. An answer carries as its own number the number it answers.
use Rattle.std.specs.Prelude.{cond, List, [], ◌∷◌, ◌++◌, ℕ, ◌+◌, ◌/◌, ◌%◌, eqb}
use Rattle.deeds.specs.Message.{Message}

-- a number as it stands in a text
abbrev pub number_text : List ℕ → List ℕ → List ℕ → List ℕ
number_text from to digits = from ++ (47 ∷ (to ++ digits))

-- the answer's own number, and as its reference the number that it answers
abbrev pub numbers : Message → List ℕ
numbers m = number_text m.to m.from m.digits ++ number_text m.from m.to m.digits

-- a field after its hyphen
unfoldable pub hyphened : List ℕ → List ℕ
hyphened [] = []
hyphened (x ∷ s) = 45 ∷ x ∷ s

-- 1 LAM; 2 RLA, with the field 31 of the text just read; 57 or 62 that LRM
unfoldable pub answer_text : Message → ℕ → List ℕ
answer_text m v =
    cond (eqb v 1) ((40 ∷ 76 ∷ 65 ∷ 77 ∷ []) ++ (numbers m ++ (41 ∷ [])))
    (cond (eqb v 2) ((40 ∷ 82 ∷ 76 ∷ 65 ∷ []) ++ (numbers m ++ (hyphened m.field31 ++ (41 ∷ []))))
    ((40 ∷ 76 ∷ 82 ∷ 77 ∷ []) ++ (numbers m ++ ((45 ∷ 82 ∷ 77 ∷ 75 ∷ 47 ∷ []) ++ ((48 + v / 10) ∷ (48 + v % 10) ∷ 41 ∷ [])))))
