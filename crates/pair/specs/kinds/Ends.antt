-- A WELL FORMED END, over what its memory holds; and what is seen of it.
use Rattle.std.specs.Prelude.{◌≡◌, cond, List, ℕ, length, get_or, eqb}
use Rattle.std.proofs.Math.Option.{Option, none, some}
use Rattle.head.specs.Sound.{HeadFormed}
use Rattle.places.specs.Places.{Places, get, used}
use Rattle.flights.specs.Flight.{Flight}
use Rattle.flights.specs.Holding.{FlightsFormed}
use Rattle.unanswered.specs.Waiting.{Waiting, Proper}
use Rattle.answers.specs.Given.{AnswersFormed}
use Rattle.deeds.specs.Applying.{held_at, flight_under}
use Rattle.memory.specs.End.{End}
use Rattle.rules.specs.Reads.{message_in}
use Rattle.rules.specs.Receiving.{waiting_at}
use Rattle.rules.specs.Sending.{count_waiting, making}
use Rattle.pair.specs.kinds.Kinds.{Content, content_of, Table}
use Rattle.pair.specs.kinds.Views.{View}

pub record WaitingFormed (ours partners : List ℕ) (l : Places Waiting) : Type 0 where
  pub whole : length l ≡ 16
  pub each : (i : ℕ) (q : Waiting) → get i l ≡ some q → Proper ours partners q
  pub numbers : (i j : ℕ) (p q : Waiting) → get i l ≡ some p → get j l ≡ some q → p.number ≡ q.number → i ≡ j

pub record SoundEnd (e : End) : Type 0 where
  pub head : HeadFormed e.head
  pub sent : FlightsFormed e.sent
  pub received : FlightsFormed e.received
  pub unanswered : WaitingFormed e.head.ours e.head.partners e.unanswered
  pub answers : AnswersFormed e.answers

-- WHAT IS SEEN OF IT

unfoldable pub by_key : Places Flight → Table
by_key l k = flight_under k l

unfoldable pub content_in : Option Waiting → Option Content
content_in none = none
content_in (some q) = some (content_of (message_in q.text))

-- the unanswered message with the number n
unfoldable pub waits_in : Places Waiting → ℕ → Option Content
waits_in l n = content_in (held_at (waiting_at n l) l)

-- the answer given to the number n
unfoldable pub kept_in : List ℕ → ℕ → Option ℕ
kept_in a n = cond (eqb (get_or a n 0) 0) none (some (get_or a n 0))

abbrev pub view_of : End → View
view_of e = record {
  next = e.head.next;
  high = e.head.highest;
  sent = by_key e.sent;
  received = by_key e.received;
  used = used e.sent;
  room = length e.sent;
  waits = waits_in e.unanswered;
  makers = count_waiting making e.unanswered;
  kept = kept_in e.answers;
}
