-- WHAT THE CALLS FROM C LEAVE. Each is what the reader's, the writer's or link's call leaves on the record and the head that stand
-- in the bytes that are lent, by document 01's numbers. Where one of these has another size, the call refuses by 12.
use Rattle.std.specs.Prelude.{◌≡◌, List, ℕ, length}
use Rattle.scan.specs.Grammar.{place_of, size_of, Span}
use Rattle.message.specs.declared.Record.{Record}
use Rattle.message.specs.declared.Verdict.{Verdict}
use Rattle.message.specs.declared.Verdict.TheVariants.{Read, Refused}
use Rattle.reader.specs.Reading.{Judged, answer_of}
use Rattle.writer.specs.declared.Writing.{Writing}
use Rattle.writer.specs.Writing as w
use Rattle.head.specs.declared.Head.{Head}
use Rattle.unanswered.specs.Waiting.{UnansweredFormed}
use Rattle.memory.specs.End.{Memory, Formed}
use Rattle.rules.specs.Receiving.{receive}
use Rattle.rules.specs.Sending.{resend}
use Rattle.rules.specs.declared.Answer.{Answer}
use Rattle.rules.specs.declared.Outcome.{Outcome}
use Rattle.rules.specs.Calls.{refusal_in, length_in, Called}
use Rattle.link.specs.Sends.{Sent}
use Rattle.link.specs.SetUp.{SetsUp}
use Rattle.packed.specs.Packed.{packed_of, record_in}
use Rattle.packed.specs.Head.{head_in, head_bytes}

-- THE CALLS ON AN END

-- an answer by document 01's number n, the length l that is given, place p and hyphens q
pub record Told (a : Answer) (n l p q : ℕ) : Type 0 where
  pub number : n ≡ (refusal_in a).number
  pub size : l ≡ length_in a
  pub place : p ≡ (refusal_in a).place
  pub hyphens : q ≡ (refusal_in a).before

-- the head stood in b, and stands in b'. P is what link's call leaves, and how its answer is told
pub record Done (P : Head → Outcome → Type 0) (b b' : List ℕ) : Type 0 where
  pub outcome : Outcome
  pub did : P (head_in b) outcome
  pub head : b' ≡ head_bytes outcome.head
  -- a head that is as it was has the bytes that it had
  pub kept : outcome.head ≡ head_in b → b' ≡ b

-- 12 where the sizes are not right, and nothing has changed
pub record Ran (Sized : Type 0) (P : Head → Outcome → Type 0) (b b' : List ℕ) (n : ℕ) (Idle : Type 0) : Type 0 where
  pub sized : Sized → Done P b b'
  pub unsized : (Sized → ⊥) → (n ≡ 12) × (b' ≡ b) × Idle

abbrev pub Receives : List ℕ → List ℕ → Memory → List ℕ → ℕ → ℕ → ℕ → ℕ → List ℕ → Memory → List ℕ → Type 0
Receives text b m out n l p q b' m' out' =
    Ran (length b ≡ 12) (λ h o. Called (receive (length out) text) h m out o m' out' × Told o.answer n l p q) b b' n
    ((m' ≡ m) × (out' ≡ out) × (l ≡ 0) × (p ≡ 0) × (q ≡ 0))

-- the record stands in r, over the bytes d
abbrev pub Sends : List ℕ → List ℕ → List ℕ → Memory → List ℕ → ℕ → ℕ → List ℕ → Memory → List ℕ → Type 0
Sends d r b m out n l b' m' out' =
    Ran ((length b ≡ 12) × (length r ≡ 246)) (λ h o. Sent d (record_in r) h m out o m' out' × (n ≡ (refusal_in o.answer).number) × (l ≡ length_in o.answer)) b b' n
    ((m' ≡ m) × (out' ≡ out) × (l ≡ 0))

abbrev pub SetUp : List ℕ → List ℕ → List ℕ → Memory → ℕ → List ℕ → Memory → Type 0
SetUp ours partners b m n b' m' =
    Ran (length b ≡ 12) (λ h o. SetsUp ours partners h m o m' × (n ≡ (refusal_in o.answer).number)) b b' n (m' ≡ m)

-- resending only looks at the head and the tables
pub record Resent (k : ℕ) (b : List ℕ) (m : Memory) (out : List ℕ) (n l : ℕ) (out' : List ℕ) : Type 0 where
  pub sized : length b ≡ 12 → (o : Outcome) × Called (resend (length out) k) (head_in b) m out o m out' × (n ≡ (refusal_in o.answer).number) × (l ≡ length_in o.answer)
  pub unsized : (length b ≡ 12 → ⊥) → (n ≡ 12) × (out' ≡ out) × (l ≡ 0)

-- A CHECK: 0 where what is lent is well formed, else 12
pub record Checked (P : Type 0) (n : ℕ) : Type 0 where
  pub formed : P → n ≡ 0
  pub damaged : (P → ⊥) → n ≡ 12

-- of all that is lent for a link, with its head in b
abbrev pub LinkFormed : List ℕ → Memory → Type 0
LinkFormed b m = (length b ≡ 12) × Formed (head_in b) m

-- of its unanswered messages, by the names in that head
abbrev pub WaitingFormed : List ℕ → List ℕ → Type 0
WaitingFormed b t = (length b ≡ 12) × UnansweredFormed (head_in b).ours (head_in b).partners t

-- READER AND WRITER

-- the record's bytes, of a text that is read; a refusal leaves what stood there
abbrev pub packed_by : Verdict → Record → List ℕ → List ℕ
packed_by Read r b = packed_of r
packed_by (Refused place before) r b = b

pub record ReadInto (text b : List ℕ) (n p q : ℕ) (b' : List ℕ) : Type 0 where
  pub sized : length b ≡ 246 → (v : Verdict) × (r : Record) × Judged text v r × (n ≡ (answer_of v).number) × (p ≡ (answer_of v).place) × (q ≡ (answer_of v).before) × (b' ≡ packed_by v r b)
  pub unsized : (length b ≡ 246 → ⊥) → (n ≡ 12) × (p ≡ 0) × (q ≡ 0) × (b' ≡ b)

pub record WroteFrom (d b out : List ℕ) (n l : ℕ) (out' : List ℕ) : Type 0 where
  pub sized : length b ≡ 246 → (v : Writing) × w.Wrote d (record_in b) out v out' × (n ≡ (w.answer_of v).number) × (l ≡ (w.answer_of v).size)
  pub unsized : (length b ≡ 246 → ⊥) → (n ≡ 12) × (l ≡ 0) × (out' ≡ out)

-- THE WORDS of field 15 or 18: where they start in the text, and how long they are; 0 and 0 where there are none or the text is
-- refused
abbrev pub WordsAt : (Record → Span) → List ℕ → ℕ → ℕ → ℕ → Type 0
WordsAt part text n p l = (v : Verdict) × (r : Record) × Judged text v r × (n ≡ (answer_of v).number) × (p ≡ place_of (part r)) × (l ≡ size_of (part r))
