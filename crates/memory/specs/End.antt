-- ONE END OF A LINK, and the memory that is lent for it, by document 01's "Records".
use Rattle.std.specs.Prelude.{Bool, false, cond, List, ℕ, eqb}
use Rattle.std.proofs.Math.Option.{Option, none, some}
use Rattle.head.specs.declared.Head.{Head}
use Rattle.head.specs.Sound.{HeadFormed}
use Rattle.places.specs.Places.{Places}
use Rattle.places.specs.Forms.{Form, bytes_of, places_from}
use Rattle.flights.specs.Flight.{Flight}
use Rattle.flights.specs.Formed.{TableFormed}
use Rattle.flights.specs.Decoded.{flights_in, table_of}
use Rattle.unanswered.specs.Waiting.{Waiting, waiting_bytes, waiting_of, UnansweredFormed}
use Rattle.answers.specs.Given.{AnswersFormed}
use Rattle.places.specs.Bytes.{free}

-- One link has a small head, a table of flights sent and one of flights received, 16 places for unanswered messages, and 1,000
-- bytes of given answers, one for each number
pub record End : Type 0 where
  pub head : Head
  pub sent : Places Flight
  pub received : Places Flight
  pub unanswered : Places Waiting
  pub answers : List ℕ

-- what is lent for it beside the head
pub record Memory : Type 0 where
  pub sent : List ℕ
  pub received : List ℕ
  pub unanswered : List ℕ
  pub answers : List ℕ

abbrev pub lent : List ℕ → List ℕ → List ℕ → List ℕ → Memory
lent a b c d = record { sent = a; received = b; unanswered = c; answers = d }

-- WELL FORMED: what is not is refused by 12
pub record Formed (h : Head) (m : Memory) : Type 0 where
  pub head : HeadFormed h
  pub sent : TableFormed m.sent
  pub received : TableFormed m.received
  pub unanswered : UnansweredFormed h.ours h.partners m.unanswered
  pub answers : AnswersFormed m.answers

-- all of it but the unanswered messages
pub record FormedBeside (h : Head) (S R A : List ℕ) : Type 0 where
  pub head : HeadFormed h
  pub sent : TableFormed S
  pub received : TableFormed R
  pub answers : AnswersFormed A

-- THE END THAT THE MEMORY HOLDS

abbrev pub read_waiting : List ℕ → Option Waiting
read_waiting b = cond (free b) none (some (waiting_of b))

abbrev pub waiting_form : Form Waiting
waiting_form = record { width = 1280; write = waiting_bytes; read = read_waiting }

abbrev pub waiting_in : List ℕ → Places Waiting
waiting_in t = places_from waiting_form 16 t

-- the number, of a place that has a message
unfoldable pub numbered : ℕ → Option Waiting → Bool
numbered n none = false
numbered n (some q) = eqb q.number n

abbrev pub end_of : Head → Memory → End
end_of h m = record { head = h; sent = flights_in m.sent; received = flights_in m.received; unanswered = waiting_in m.unanswered; answers = m.answers }

-- AND THE MEMORY THAT HOLDS AN END
abbrev pub memory_of : End → Memory
memory_of e = record { sent = table_of e.sent; received = table_of e.received; unanswered = bytes_of waiting_form e.unanswered; answers = e.answers }
