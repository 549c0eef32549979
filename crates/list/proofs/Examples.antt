-- The definition at small inputs, by computation. Assumes nothing.
use mathlib.Core.Path.{◌≡◌, refl}
use mathlib.Core.List.{[], ◌∷◌}
use Rattle.lines.specs.Numbers.{decimal, decimal_by}
use Rattle.lines.specs.Listing.{ended_from, unfinished_from, last_line, texts, lines_from, read_of, refused_of, totals, broke_off, listing, broken}

-- 1078
number : decimal 1078 ≡ 49 ∷ 48 ∷ 55 ∷ 56 ∷ []
unfolding decimal decimal_by
number = refl

-- "a", a blank line, and "b" with no line feed behind it
three : texts (97 ∷ 10 ∷ 10 ∷ 98 ∷ []) ≡ (97 ∷ []) ∷ [] ∷ (98 ∷ []) ∷ []
unfolding texts last_line ended_from unfinished_from
three = refl

-- "a" with a carriage return and a line feed behind it
one : texts (97 ∷ 13 ∷ 10 ∷ []) ≡ (97 ∷ 13 ∷ []) ∷ []
unfolding texts last_line ended_from unfinished_from
one = refl

-- "lines 0 read 0 refused 0"
empty : listing []
    ≡ 108 ∷ 105 ∷ 110 ∷ 101 ∷ 115 ∷ 32 ∷ 48 ∷ 32 ∷ 114 ∷ 101 ∷ 97 ∷ 100 ∷ 32 ∷ 48
    ∷ 32 ∷ 114 ∷ 101 ∷ 102 ∷ 117 ∷ 115 ∷ 101 ∷ 100 ∷ 32 ∷ 48 ∷ 10 ∷ []
unfolding listing texts last_line ended_from unfinished_from lines_from read_of refused_of totals decimal decimal_by
empty = refl

-- "a" is not ended: "broke off after 0 lines"
nothing_yet : broken (97 ∷ [])
    ≡ 98 ∷ 114 ∷ 111 ∷ 107 ∷ 101 ∷ 32 ∷ 111 ∷ 102 ∷ 102 ∷ 32 ∷ 97 ∷ 102 ∷ 116 ∷ 101 ∷ 114 ∷ 32 ∷ 48
    ∷ 32 ∷ 108 ∷ 105 ∷ 110 ∷ 101 ∷ 115 ∷ 10 ∷ []
unfolding broken ended_from lines_from broke_off decimal decimal_by
nothing_yet = refl
