-- How far a listing has come, over pieces of any size. Assumes nothing.
use Rattle.std.specs.Prelude.{ℕ, ◌+◌, ◌≤◌, ◌<◌, ◌≡◌, List, ◌++◌, Bool, ◌&&◌, leb, length, take, drop}
use Rattle.lines.specs.Listing.{ended, unfinished, lines_from, read_of}
use Rattle.list.specs.declared.Tally.{Tally}

-- no more bytes of a line than these are kept: they decide what is said of it (message, `judged-by-beginning`)
abbrev pub kept : ℕ
kept = 1078

-- no more lines than these are counted
abbrev pub most_lines : ℕ
most_lines = 9223372036854775808

-- an `out` of this size has room for what one call of `feed`, `finish` or `broke` has to write
abbrev pub room : ℕ
room = 160

-- the first held bytes of line are the first ones of s, all that are kept of it
pub record Holds (s line : List ℕ) (held : ℕ) : Type 0 where
  pub bytes : take held line ≡ take kept s
  pub size : held ≡ length (take kept s)

-- the input so far is xs, in whatever pieces it came, and the report so far is ys: a line for each line that a line
-- feed ended. The tally has their number, how many of them are read, and how many bytes of the unfinished line stand
-- at the start of `line`: its first ones
pub record After (xs ys : List ℕ) (tally : Tally) (line : List ℕ) : Type 0 where
  pub said : ys ≡ lines_from 1 (ended xs)
  pub counted : tally.lines ≡ length (ended xs)
  pub good : tally.read ≡ read_of (ended xs)
  pub holds : Holds (unfinished xs) line tally.held
  pub within : tally.lines ≤ most_lines

-- whether a tally is one that `start` and `feed` could have made: with another, nothing is done
abbrev pub soundly : Tally → Bool
soundly tally = leb tally.read tally.lines && leb tally.lines most_lines && leb tally.held kept

-- what `feed` does: it takes a beginning of the piece, and writes over a beginning of out what the report has more for
-- it, and nothing in an out that is too small. It takes less than the piece only where out has no room left for another
-- line, or no more lines are counted
pub record Fed (tally : Tally) (line piece out : List ℕ) (next : Tally) (line' out' : List ℕ) (taken written : ℕ) : Type 0 where
  pub part : taken ≤ length piece
  pub fits : written ≤ length out
  pub rest : drop written out' ≡ drop written out
  pub none : length out < room → (taken ≡ 0) × (written ≡ 0)
  pub goes : (xs ys : List ℕ) → After xs ys tally line → After (xs ++ take taken piece) (ys ++ take written out') next line'
  pub stops : (xs ys : List ℕ) → After xs ys tally line → taken < length piece → written + room ≤ length out → next.lines ≡ most_lines

-- what `finish` and `broke` do: they write over a beginning of out what the report lacks to be whole, and nothing in an
-- out that is too small
pub record Ends (whole : List ℕ → List ℕ) (tally : Tally) (line out out' : List ℕ) (written : ℕ) : Type 0 where
  pub fits : written ≤ length out
  pub rest : drop written out' ≡ drop written out
  pub none : length out < room → written ≡ 0
  pub ends : (xs ys : List ℕ) → After xs ys tally line → room ≤ length out → ys ++ take written out' ≡ whole xs
