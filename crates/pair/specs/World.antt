-- TWO ENDS AND THE CHANNEL BETWEEN THEM, over the contracts of the link's own calls: any outcome that they allow.
use Rattle.std.specs.Prelude.{◌≡◌, true, false, cond, List, [], ◌∷◌, ℕ, ◌+◌, ◌-◌, ◌%◌, ◌≤◌, length, take, eqb}
use Rattle.std.proofs.Math.Option.{Option, none, some}
use Rattle.message.specs.declared.Record.{Record}
use Rattle.head.specs.declared.Head.{Head}
use Rattle.writer.specs.Draft.{Drafted}
use Rattle.unanswered.specs.Waiting.{is_answer}
use Rattle.memory.specs.End.{Memory}
use Rattle.rules.specs.Receiving.{receive}
use Rattle.rules.specs.Sending.{resend}
use Rattle.rules.specs.declared.Outcome.{Outcome}
use Rattle.rules.specs.Calls.{refusal_in, length_in, Called}
use Rattle.head.specs.Sound.{Names}
use Rattle.link.specs.SetUp.{Sizes, SetsUp}
use Rattle.link.specs.Sends.{Sent}

-- WHAT THE CHANNEL HAS: copies of texts. `index` says which of its sender's messages it is, or answers, counted from 0
pub record Copy : Type 0 where
  pub index : ℕ
  pub text : List ℕ

pub data Among (c : Copy) : List Copy → Type 0 where
  here : {l : List Copy} → Among c (c ∷ l)
  there : {d : Copy} {l : List Copy} → Among c l → Among c (d ∷ l)

-- ONE SIDE: its head and the memory lent for it; the texts that it has sent, the newest first; every copy of a message that it has
-- given to the channel; and every copy of an answer that its partner has given to one
pub record Side : Type 0 where
  pub head : Head
  pub memory : Memory
  pub log : List (List ℕ)
  pub messages : List Copy
  pub answers : List Copy

abbrev pub count : Side → ℕ
count X = length X.log

-- a copy arrives as long as its message's sender has sent fewer than 400 later ones
abbrev pub InTime : Side → Copy → Type 0
InTime X c = count X ≤ c.index + 400

-- the latest of n messages that carries the number k
unfoldable pub latest : ℕ → ℕ → ℕ
latest n k = n - 1 - ((n - 1) % 1000 + 1000 - k) % 1000

-- WHAT A CALL HAS GIVEN: the text in the buffer; none where it was refused
abbrev pub number : Outcome → ℕ
number o = (refusal_in o.answer).number

unfoldable pub given : Outcome → List ℕ → Option (List ℕ)
given o out = cond (eqb (number o) 0) (some (take (length_in o.answer) out)) none

-- WHAT IT IS ASKED TO SEND has one text under the next number, or none; an answer is not sent
pub data Asked (h : Head) (d : List ℕ) (r : Record) : Type 0 where
  text : (w : List ℕ) → is_answer r.kind ≡ false → Drafted h.ours h.partners h.next d r w → Asked h d r
  answer : is_answer r.kind ≡ true → Asked h d r
  unwritten : ((w : List ℕ) → Drafted h.ours h.partners h.next d r w → ⊥) → Asked h d r

-- A SIDE AFTERWARDS. A call that is refused gives nothing

unfoldable pub logged : Option (List ℕ) → List (List ℕ) → List (List ℕ)
logged none l = l
logged (some w) l = w ∷ l

unfoldable pub copied : ℕ → Option (List ℕ) → List Copy → List Copy
copied i none l = l
copied i (some w) l = record { index = i; text = w } ∷ l

-- the end has changed, and nothing was given
abbrev pub changed : Outcome → Memory → Side → Side
changed o m X = record { head = o.head; memory = m; log = X.log; messages = X.messages; answers = X.answers }

abbrev pub sent : Outcome → Memory → Option (List ℕ) → Side → Side
sent o m g X = record { head = o.head; memory = m; log = logged g X.log; messages = copied (count X) g X.messages; answers = X.answers }

abbrev pub resent : ℕ → Outcome → Memory → Option (List ℕ) → Side → Side
resent n o m g X = record { head = o.head; memory = m; log = X.log; messages = copied (latest (count X) n) g X.messages; answers = X.answers }

-- its message with this index was answered, or not
abbrev pub answered : ℕ → Option (List ℕ) → Side → Side
answered i g X = record { head = X.head; memory = X.memory; log = X.log; messages = X.messages; answers = copied i g X.answers }

-- ONE CALL about a message of X, to Y. The buffers `out` are of any length
pub data Turn : Side → Side → Side → Side → Type 0 where
  -- X is asked to send
  sends : {X Y : Side} (d : List ℕ) (r : Record) (out out' : List ℕ) (o : Outcome) (m : Memory) → Asked X.head d r → Sent d r X.head X.memory out o m out' → Turn X Y (sent o m (given o out') X) Y
  -- X is asked to resend
  resends : {X Y : Side} (n : ℕ) (out out' : List ℕ) (o : Outcome) (m : Memory) → Called (resend (length out) n) X.head X.memory out o m out' → Turn X Y (resent n o m (given o out') X) Y
  -- a copy of a message arrives at Y
  hears : {X Y : Side} (c : Copy) (out out' : List ℕ) (o : Outcome) (m : Memory) → Among c X.messages → InTime X c → Called (receive (length out) c.text) Y.head Y.memory out o m out' → Turn X Y (answered c.index (given o out') X) (changed o m Y)
  -- a copy of an answer arrives at X
  learns : {X Y : Side} (c : Copy) (out out' : List ℕ) (o : Outcome) (m : Memory) → Among c X.answers → InTime X c → Called (receive (length out) c.text) X.head X.memory out o m out' → Turn X Y (changed o m X) Y

-- A FRESH SIDE, set up by the link's own call over any memory of the right sizes, whatever stands in it
pub record Begun (ours partners : List ℕ) (X : Side) : Type 0 where
  pub head_before : Head
  pub memory_before : Memory
  pub sizes : Sizes memory_before
  pub names : Names ours partners
  pub outcome : Outcome
  pub set_up : SetsUp ours partners head_before memory_before outcome X.memory
  pub head : X.head ≡ outcome.head
  pub log : X.log ≡ []
  pub messages : X.messages ≡ []
  pub answers : X.answers ≡ []

-- THE WORLDS that two fresh partners can come to
pub data Reach (a b : List ℕ) : Side → Side → Type 0 where
  begin : {X Y : Side} → Begun a b X → Begun b a Y → Reach a b X Y
  left : {X Y X' Y' : Side} → Reach a b X Y → Turn X Y X' Y' → Reach a b X' Y'
  right : {X Y X' Y' : Side} → Reach a b X Y → Turn Y X Y' X' → Reach a b X' Y'

-- what can come after X, Y
pub data Run (X Y : Side) : Side → Side → Type 0 where
  rest : Run X Y X Y
  then_left : {X₁ Y₁ X₂ Y₂ : Side} → Run X Y X₁ Y₁ → Turn X₁ Y₁ X₂ Y₂ → Run X Y X₂ Y₂
  then_right : {X₁ Y₁ X₂ Y₂ : Side} → Run X Y X₁ Y₁ → Turn Y₁ X₁ Y₂ X₂ → Run X Y X₂ Y₂
