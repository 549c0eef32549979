-- SETTING UP AN END, by document 01: "set-up 12 for sizes only, then 14"; 14 is "set-up with units equal or not four letters".
use Rattle.std.specs.Prelude.{◌≡◌, List, [], ℕ, ◌*◌, ◌≤◌, length}
use Rattle.head.specs.declared.Head.{Head}
use Rattle.head.specs.Sound.{Names}
use Rattle.flights.specs.Table.{places}
use Rattle.memory.specs.End.{Memory}
use Rattle.rules.specs.Replies.{refused, done, number}
use Rattle.rules.specs.Sending.{fresh}
use Rattle.rules.specs.declared.Outcome.{Outcome}
use Rattle.rules.specs.Calls.{Comes}

-- 1 to 32 places of 768 bytes
pub record Sized (t : List ℕ) : Type 0 where
  pub some : 1 ≤ places t
  pub most : places t ≤ 32
  pub whole : length t ≡ places t * 768

-- for flights sent and for flights received; 16 places of 1,280 bytes; 1,000 answers
pub record Sizes (m : Memory) : Type 0 where
  pub sent : Sized m.sent
  pub received : Sized m.received
  pub unanswered : length m.unanswered ≡ 20480
  pub answers : length m.answers ≡ 1000

abbrev pub first_head : List ℕ → List ℕ → Head
first_head ours partners = record { ours = ours; partners = partners; next = 0; highest = 999 }

-- what the call has left. No buffer is lent. A refusal changes nothing; else all that is lent is that of a fresh end, with as
-- many places for flights as there is room for
pub record SetsUp (ours partners : List ℕ) (h : Head) (m : Memory) (r : Outcome) (m' : Memory) : Type 0 where
  pub unsized : (Sizes m → ⊥) → Comes (refused (number 12)) h m [] r m' []
  pub unnamed : Sizes m → (Names ours partners → ⊥) → Comes (refused (number 14)) h m [] r m' []
  pub begun : Sizes m → Names ours partners → Comes (done (fresh ours partners (places m.sent) (places m.received)) []) h m [] r m' []
