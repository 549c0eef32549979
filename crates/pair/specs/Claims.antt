-- WHAT DEMAND 3 SPEAKS OF: the record of a flight at an end, a message that names it, and a message that is unanswered.
use Rattle.std.specs.Prelude.{◌≡◌, ◌⊎◌, Bool, true, false, List, ℕ}
use Rattle.std.proofs.Math.Option.{Option, none, some}
use Rattle.places.specs.Place.{Place, At, Nowhere}
use Rattle.places.specs.Places.{get}
use Rattle.flights.specs.Table.{place, found}
use Rattle.unanswered.specs.Waiting.{Waiting}
use Rattle.deeds.specs.Deeds.{Key, deed_of}
use Rattle.memory.specs.End.{waiting_in}
use Rattle.rules.specs.Reads.{message_in}
use Rattle.rules.specs.Answers.{is_acceptance}
use Rattle.rules.specs.Sending.{one_of}
use Rattle.pair.specs.World.{Side, count, latest}

-- THE RECORD OF A FLIGHT in a table, all 768 bytes; its place does not matter
abbrev pub bytes_at : Place → List ℕ → Option (List ℕ)
bytes_at (At i) t = some (place i t)
bytes_at Nowhere t = none

abbrev pub record_under : Key → List ℕ → Option (List ℕ)
record_under k t = bytes_at (found k.aircraft k.departure k.destination t) t

-- X HOLDS AN UNANSWERED MESSAGE THAT NAMES A FLIGHT, by old or new key: one of its own, or, by an acceptance, one of its partner's
pub record Holds (acceptance : Bool) (k : Key) (X : Side) : Type 0 where
  pub spot : ℕ
  pub message : Waiting
  pub held : get spot (waiting_in X.memory.unanswered) ≡ some message
  pub about : is_acceptance (deed_of (message_in message.text)) ≡ acceptance
  pub names : one_of k (message_in message.text) ≡ true

-- THE TWO ENDS AGREE on the flight of X under the key k, or one of them holds such a message
abbrev pub Agrees : Side → Side → Key → Type 0
Agrees X Y k = (record_under k X.memory.sent ≡ record_under k Y.memory.received) ⊎ (Holds false k X ⊎ Holds true k Y)

-- MESSAGE i OF X IS UNANSWERED: it waits, and is the latest with its number
pub record Unanswered (X : Side) (i : ℕ) : Type 0 where
  pub spot : ℕ
  pub message : Waiting
  pub held : get spot (waiting_in X.memory.unanswered) ≡ some message
  pub index : latest (count X) message.number ≡ i
