-- SENDING, by document 01: "Sending checks 12, 13, 8, 9, 7, 10, 11, 2"; 13 is "content to write or send breaks a field rule, or
-- content to send is an answer".
use Rattle.std.specs.Prelude.{◌≡◌, true, false, List, ℕ, length}
use Rattle.message.specs.declared.Record.{Record}
use Rattle.writer.specs.Draft.{Drafted}
use Rattle.head.specs.declared.Head.{Head}
use Rattle.unanswered.specs.Waiting.{is_answer}
use Rattle.memory.specs.End.{Memory, Formed, end_of}
use Rattle.rules.specs.Replies.{refused, number}
use Rattle.rules.specs.Sending.{send}
use Rattle.rules.specs.declared.Outcome.{Outcome}
use Rattle.rules.specs.Calls.{Comes}

-- what the call has left that was given the record r over the bytes d. What breaks a field rule has no text under the next
-- number; what has one is sent as the rules say of that text
pub record Sent (d : List ℕ) (r : Record) (h : Head) (m : Memory) (out : List ℕ) (o : Outcome) (m' : Memory) (out' : List ℕ) : Type 0 where
  pub damaged : (Formed h m → ⊥) → Comes (refused (number 12)) h m out o m' out'
  pub answer : Formed h m → is_answer r.kind ≡ true → Comes (refused (number 13)) h m out o m' out'
  pub broken : Formed h m → ((w : List ℕ) → Drafted h.ours h.partners h.next d r w → ⊥) → Comes (refused (number 13)) h m out o m' out'
  pub drafted : Formed h m → is_answer r.kind ≡ false → (w : List ℕ) → Drafted h.ours h.partners h.next d r w → Comes (send (length out) w (end_of h m)) h m out o m' out'
