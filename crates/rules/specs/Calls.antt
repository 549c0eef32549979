-- WHAT A CALL LEAVES, byte for byte: its answer, the head, the lent memory and the lent buffer.
use Rattle.std.specs.Prelude.{◌≡◌, List, ◌++◌, ℕ, ◌≤◌, ◌<◌, length, drop}
use Rattle.head.specs.declared.Head.{Head}
use Rattle.memory.specs.End.{End, Memory, Formed, end_of, memory_of}
use Rattle.rules.specs.Replies.{Refusal, number, Reply, refused, done}
use Rattle.rules.specs.declared.Answer.{Answer}
use Rattle.rules.specs.declared.Answer.TheVariants.{Done, NotRead, NoRoom, WrongUnits, Stale, NothingUnanswered, WrongAnswer, NamedAlready, TooManyUnanswered, TooFarBack, ConditionFails, TableFull, NotFormed, BreaksRule, BadNames}
use Rattle.rules.specs.declared.Outcome.{Outcome}

-- DOCUMENT 01'S NUMBER for each answer, 1 with place and hyphens; 0 where the call is done
abbrev pub refusal_in : Answer → Refusal
refusal_in (Done n) = number 0
refusal_in (NotRead place before) = record { number = 1; place = place; before = before }
refusal_in NoRoom = number 2
refusal_in WrongUnits = number 3
refusal_in Stale = number 4
refusal_in NothingUnanswered = number 5
refusal_in WrongAnswer = number 6
refusal_in NamedAlready = number 7
refusal_in TooManyUnanswered = number 8
refusal_in TooFarBack = number 9
refusal_in ConditionFails = number 10
refusal_in TableFull = number 11
refusal_in NotFormed = number 12
refusal_in BreaksRule = number 13
refusal_in BadNames = number 14

-- and the length that is given
abbrev pub length_in : Answer → ℕ
length_in (Done n) = n
length_in (NotRead place before) = 0
length_in NoRoom = 0
length_in WrongUnits = 0
length_in Stale = 0
length_in NothingUnanswered = 0
length_in WrongAnswer = 0
length_in NamedAlready = 0
length_in TooManyUnanswered = 0
length_in TooFarBack = 0
length_in ConditionFails = 0
length_in TableFull = 0
length_in NotFormed = 0
length_in BreaksRule = 0
length_in BadNames = 0

-- what a call has left that came to a reply: on a refusal the head is as it was and no lent byte differs; else the memory holds
-- the next end, and the buffer has the text that is given and then the bytes that stood there
abbrev pub Comes : Reply → Head → Memory → List ℕ → Outcome → Memory → List ℕ → Type 0
Comes (refused x) h m out r m' out' = (refusal_in r.answer ≡ x) × (r.head ≡ h) × (m' ≡ m) × (out' ≡ out)
Comes (done e t) h m out r m' out' = (r.answer ≡ Done (length t)) × (r.head ≡ e.head) × (m' ≡ memory_of e) × (out' ≡ t ++ drop (length t) out)

-- 12 where the memory is not well formed; else what the rules say of the end that it holds
pub record Called (step : End → Reply) (h : Head) (m : Memory) (out : List ℕ) (r : Outcome) (m' : Memory) (out' : List ℕ) : Type 0 where
  pub formed : Formed h m → Comes (step (end_of h m)) h m out r m' out'
  pub damaged : (Formed h m → ⊥) → Comes (refused (number 12)) h m out r m' out'

-- A TEXT IS GIVEN, or there is no room for it
abbrev pub Gives : Head → List ℕ → List ℕ → Outcome → List ℕ → Type 0
Gives h t out r out' =
    (r.head ≡ h)
    × ((length t ≤ length out → (r.answer ≡ Done (length t)) × (out' ≡ t ++ drop (length t) out))
    × (length out < length t → (r.answer ≡ NoRoom) × (out' ≡ out)))
