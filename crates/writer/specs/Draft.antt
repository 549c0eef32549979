-- WHAT IS SENT: what a record says, under a number that the link gives, and the one text of that.
use Rattle.std.specs.Prelude.{◌≡◌, Bool, false, cond, ◌||◌, List, [], ◌∷◌, ℕ, ◌+◌, ◌/◌, ◌%◌, ◌≤◌, length, take, eqb}
use Rattle.fields.specs.Names as name
use Rattle.message.specs.declared.Figures.{Figures}
use Rattle.message.specs.declared.Record.{Record}
use Rattle.message.specs.declared.Verdict.TheVariants.{Read}
use Rattle.reader.specs.Reading.{Judged}
use Rattle.pen.specs.Listed.{span_of, Inside}
use Rattle.writer.specs.Writing.{Content, content_of}
use Rattle.writer.specs.declared.Drafting.{Drafting}
use Rattle.writer.specs.declared.Drafting.TheVariants.{Written, BreaksRule}

-- the three digits of a number
unfoldable pub digits : ℕ → List ℕ
digits n = (48 + n / 100) ∷ (48 + (n / 10) % 10) ∷ (48 + n % 10) ∷ []

-- whether a part is one of the message's own number
unfoldable pub of_number : ℕ → Bool
of_number k = eqb k name.sender || (eqb k name.receiver || eqb k name.number)

-- the numbers of a message that has the number n
abbrev pub figures_as : ℕ → Figures → Figures
figures_as n f = record {
  number = n;
  reference = f.reference;
  own = f.own;
  form = f.form;
  crossing = f.crossing;
  second = f.second;
  changes = f.changes;
  reason = f.reason;
}

-- what a message says that has the number n from ours to partners, and is otherwise as c
unfoldable pub numbered : List ℕ → List ℕ → ℕ → Content → Content
numbered ours partners n c = record {
  kind = c.kind;
  bytes = λ k. cond (eqb k name.sender) ours (cond (eqb k name.receiver) partners (cond (eqb k name.number) (digits n) (c.bytes k)));
  figures = figures_as n c.figures;
}

-- w is the text of a record under that number: it is read, and its record says the same. The record's own number is not
-- looked at, so its parts may lie anywhere
pub record Drafted (ours partners : List ℕ) (n : ℕ) (d : List ℕ) (r : Record) (w : List ℕ) : Type 0 where
  pub inside : (k : ℕ) → of_number k ≡ false → Inside d (span_of r k)
  pub its : Record
  pub read : Judged w Read its
  pub says : content_of w its ≡ numbered ours partners n (content_of d r)

-- what becomes of a lent buffer
abbrev pub Draws : List ℕ → List ℕ → ℕ → List ℕ → Record → List ℕ → Drafting → List ℕ → Type 0
Draws ours partners n d r before (Written k) after = (w : List ℕ) × Drafted ours partners n d r w × (k ≡ length w) × (k ≤ 1077) × (take k after ≡ w) × (length after ≡ length before)
Draws ours partners n d r before BreaksRule after = ((w : List ℕ) → Drafted ours partners n d r w → ⊥) × (length after ≡ length before)
