-- The listing of an input: from its bytes to the bytes of the report. Assumes nothing.
use Rattle.std.specs.Prelude.{ℕ, suc, ◌+◌, cond, List, [], ◌∷◌, ◌++◌, length, take, drop, eqb}
use Rattle.reader.specs.Reader.{verdict}
use Rattle.message.specs.declared.Verdict.{Verdict}
use Rattle.message.specs.declared.Verdict.TheVariants.{Read, Refused}
use Rattle.lines.specs.Numbers.{decimal}

-- ---- the lines of the input

-- the lines that a line feed (10) ends. Of the first of them `line` was there before
unfoldable pub ended_from : List ℕ → List ℕ → List (List ℕ)
ended_from line [] = []
ended_from line (b ∷ bs) = cond (eqb b 10) (line ∷ ended_from [] bs) (ended_from (line ++ (b ∷ [])) bs)

-- what follows the last line feed, or, where there is none, all of it behind `line`
unfoldable pub unfinished_from : List ℕ → List ℕ → List ℕ
unfinished_from line [] = line
unfinished_from line (b ∷ bs) = cond (eqb b 10) (unfinished_from [] bs) (unfinished_from (line ++ (b ∷ [])) bs)

abbrev pub ended : List ℕ → List (List ℕ)
ended input = ended_from [] input

abbrev pub unfinished : List ℕ → List ℕ
unfinished input = unfinished_from [] input

-- what follows the last line feed is a line only if it is not empty
unfoldable pub last_line : List ℕ → List (List ℕ)
last_line [] = []
last_line (b ∷ bs) = (b ∷ bs) ∷ []

-- the texts of the input: its lines
unfoldable pub texts : List ℕ → List (List ℕ)
texts input = ended input ++ last_line (unfinished input)

-- ---- the lines of the report

-- " refused "
abbrev pub refused_word : List ℕ
refused_word = 32 ∷ 114 ∷ 101 ∷ 102 ∷ 117 ∷ 115 ∷ 101 ∷ 100 ∷ 32 ∷ []

-- "lines "
abbrev pub lines_word : List ℕ
lines_word = 108 ∷ 105 ∷ 110 ∷ 101 ∷ 115 ∷ 32 ∷ []

-- " read "
abbrev pub read_word : List ℕ
read_word = 32 ∷ 114 ∷ 101 ∷ 97 ∷ 100 ∷ 32 ∷ []

-- "broke off after "
abbrev pub broke_off_word : List ℕ
broke_off_word = 98 ∷ 114 ∷ 111 ∷ 107 ∷ 101 ∷ 32 ∷ 111 ∷ 102 ∷ 102 ∷ 32 ∷ 97 ∷ 102 ∷ 116 ∷ 101 ∷ 114 ∷ 32 ∷ []

-- " lines" and a line feed
abbrev pub lines_end : List ℕ
lines_end = 32 ∷ 108 ∷ 105 ∷ 110 ∷ 101 ∷ 115 ∷ 10 ∷ []

-- a word, and a number behind it
abbrev pub labelled : List ℕ → ℕ → List ℕ
labelled word n = word ++ decimal n

-- what is said of a text: a blank and the letters of its type, which are its bytes 1 to 3; or that it is refused,
-- with the place and the hyphens
unfoldable pub saying : List ℕ → Verdict → List ℕ
saying text Read = (32 ∷ []) ++ take 3 (drop 1 text)
saying text (Refused place hyphens) = labelled refused_word place ++ labelled (32 ∷ []) hyphens

-- the report's line for a text, which is the input's k-th: "1 EST", "2 refused 0 0"
unfoldable pub line_of : ℕ → List ℕ → List ℕ
line_of k text = decimal k ++ saying text (verdict text) ++ (10 ∷ [])

-- the report's lines for texts of which the first is the input's k-th
unfoldable pub lines_from : ℕ → List (List ℕ) → List ℕ
lines_from k [] = []
lines_from k (text ∷ more) = line_of k text ++ lines_from (suc k) more

-- ---- the totals

-- 1 for a text that is read, and 0 for one that is refused; and the other way round
unfoldable pub if_read : Verdict → ℕ
if_read Read = 1
if_read (Refused place hyphens) = 0

unfoldable pub if_refused : Verdict → ℕ
if_refused Read = 0
if_refused (Refused place hyphens) = 1

-- how many of the texts are read
unfoldable pub read_of : List (List ℕ) → ℕ
read_of [] = 0
read_of (text ∷ more) = if_read (verdict text) + read_of more

-- how many of the texts are refused
unfoldable pub refused_of : List (List ℕ) → ℕ
refused_of [] = 0
refused_of (text ∷ more) = if_refused (verdict text) + refused_of more

-- "lines 3 read 1 refused 2"
unfoldable pub totals : ℕ → ℕ → ℕ → List ℕ
totals lines read refused = labelled lines_word lines ++ labelled read_word read ++ labelled refused_word refused ++ (10 ∷ [])

-- "broke off after 3 lines"
unfoldable pub broke_off : ℕ → List ℕ
broke_off lines = labelled broke_off_word lines ++ lines_end

-- ---- the whole report

-- of an input that was read to its end: a line for each text, and the totals
unfoldable pub listing : List ℕ → List ℕ
listing input =
    lines_from 1 (texts input) ++ totals (length (texts input)) (read_of (texts input)) (refused_of (texts input))

-- of an input that broke off: a line for each text that a line feed ends, and after how many lines it broke off
unfoldable pub broken : List ℕ → List ℕ
broken input = lines_from 1 (ended input) ++ broke_off (length (ended input))
