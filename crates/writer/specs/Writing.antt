-- WHAT A WRITER ANSWERS, by document 01: the one text that reads back as the record, or 13 where there is none, or 2 where
-- it does not fit.
use Rattle.std.specs.Prelude.{◌≡◌, List, ◌++◌, ℕ, ◌≤◌, ◌<◌, length, drop}
use Rattle.message.specs.declared.Kind.{Kind}
use Rattle.message.specs.declared.Figures.{Figures}
use Rattle.message.specs.declared.Record.{Record}
use Rattle.message.specs.declared.Verdict.TheVariants.{Read}
use Rattle.reader.specs.Reading.{cut, Judged}
use Rattle.pen.specs.Listed.{span_of, Inside}
use Rattle.writer.specs.declared.Writing.{Writing}
use Rattle.writer.specs.declared.Writing.TheVariants.{Written, BreaksRule, NoRoom}

-- WHAT A RECORD SAYS of the bytes that its parts stand in: its type, the bytes of each part, and the numbers
pub record Content : Type 0 where
  pub kind : Kind
  pub bytes : ℕ → List ℕ
  pub figures : Figures

abbrev pub content_of : List ℕ → Record → Content
content_of d r = record { kind = r.kind; bytes = λ k. cut d (span_of r k); figures = r.figures }

-- w is the text of a record: it is read, and its record says the same
pub record Writes (d : List ℕ) (r : Record) (w : List ℕ) : Type 0 where
  pub inside : (k : ℕ) → Inside d (span_of r k)
  pub its : Record
  pub read : Judged w Read its
  pub says : content_of w its ≡ content_of d r

-- what becomes of a lent buffer
abbrev pub Wrote : List ℕ → Record → List ℕ → Writing → List ℕ → Type 0
Wrote d r before (Written n) after = (w : List ℕ) × Writes d r w × (n ≡ length w) × (n ≤ length before) × (after ≡ w ++ drop n before)
Wrote d r before BreaksRule after = ((w : List ℕ) → Writes d r w → ⊥) × (after ≡ before)
Wrote d r before NoRoom after = (w : List ℕ) × Writes d r w × (length before < length w) × (after ≡ before)

-- document 01's number, 0 for none, and the length
pub record Answer : Type 0 where
  pub number : ℕ
  pub size : ℕ

abbrev pub answer_of : Writing → Answer
answer_of (Written n) = record { number = 0; size = n }
answer_of BreaksRule = record { number = 13; size = 0 }
answer_of NoRoom = record { number = 2; size = 0 }
