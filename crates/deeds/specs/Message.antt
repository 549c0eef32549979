-- WHAT AN END TAKES FROM A MESSAGE that was read: its type, its number and reference, and the texts of its fields.
use Rattle.std.specs.Prelude.{List, ℕ}
use Rattle.message.specs.declared.Kind.{Kind}
use Rattle.message.specs.declared.Record.{Record}
use Rattle.reader.specs.Reading.{cut}
use Rattle.excerpt.specs.Excerpt.{Texts, texts_of, field14_of}

-- `from` and `to` are the units of the message's own number, in their order, and `digits` its digits; `own` are fields 07 to
-- 18, `changes` the fields 22 of a CHG. What is not given is empty
pub record Message : Type 0 where
  pub kind : Kind
  pub from : List ℕ
  pub to : List ℕ
  pub number : ℕ
  pub digits : List ℕ
  pub reference_from : List ℕ
  pub reference_to : List ℕ
  pub reference : ℕ
  pub own : Texts
  pub field14 : List ℕ
  pub changes : Texts
  pub field31 : List ℕ

-- of the text w, whose record is r
abbrev pub message_of : List ℕ → Record → Message
message_of w r = record {
  kind = r.kind;
  from = cut w r.parts.number.sender;
  to = cut w r.parts.number.receiver;
  number = r.figures.number;
  digits = cut w r.parts.number.digits;
  reference_from = cut w r.parts.reference.sender;
  reference_to = cut w r.parts.reference.receiver;
  reference = r.figures.reference;
  own = texts_of w r.parts.own;
  field14 = field14_of w r.parts.estimate;
  changes = texts_of w r.parts.changes;
  field31 = cut w r.parts.sector;
}
