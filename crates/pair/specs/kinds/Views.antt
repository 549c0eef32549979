-- AN END AS THE OTHER SEES IT: what it holds under each key and each number; and what each call may do to that.
-- The calls are said by what follows from them. That document 01's rules follow these is shown in pair.
use Rattle.std.specs.Prelude.{◌≡◌, ◌⊎◌, true, false, cond, ℕ, ◌+◌, ◌-◌, ◌%◌, ◌≤◌, ◌<◌}
use Rattle.std.proofs.Math.Option.{Option, none, some}
use Rattle.flights.specs.Flight.{Flight}
use Rattle.head.specs.declared.Standing.TheVariants.{New, Old}
use Rattle.head.specs.Head.{standing}
use Rattle.answers.specs.Given.{after}
use Rattle.deeds.specs.Message.{Message}
use Rattle.deeds.specs.Deeds.{Key, deed_of, old, makes}
use Rattle.pair.specs.kinds.Tools.{upd, under}
use Rattle.pair.specs.kinds.Kinds.{Content, own, near, message_of, Table, eff, put, grown, close, retires, takes, clash, is_yes, proper_to}

pub record View : Type 0 where
  pub next : ℕ
  pub high : ℕ
  pub sent : Table
  pub received : Table
  pub used : ℕ
  pub room : ℕ
  pub waits : ℕ → Option Content
  pub makers : ℕ
  pub kept : ℕ → Option ℕ

-- `used` of `room` places for flights sent are in use; `waits n` is the unanswered message with number n, and `makers` of them
-- make a flight; `kept n` is the answer given to the number n

-- how far n is ahead of h, round again after 999
abbrev pub gap : ℕ → ℕ → ℕ
gap n h = (n + 1000 - h) % 1000

-- AN OWNER'S MESSAGE IS APPLIED to the flights S, u places of which are used, or dropped
pub data Applied (p : Message) (S : Table) (u room : ℕ) (S' : Table) (u' : ℕ) : Type 0 where
  fails : eff p S ≡ none → S' ≡ S → u' ≡ u → Applied p S u room S' u'
  full : (z : Option Flight) → eff p S ≡ some z → S (old p) ≡ none → room ≤ u → S' ≡ S → u' ≡ u → Applied p S u room S' u'
  stored : (z : Option Flight) → eff p S ≡ some z → S' ≡ put p z S → u' ≡ grown (S (old p)) z u → Applied p S u room S' u'

-- SENDING

-- only a neighbour's message is applied on sending
abbrev pub Opening : Content → View → View → Type 0
Opening (own p) U U' = ((z : Option Flight) × (eff p U.sent ≡ some z)) × (makes (deed_of p) ≡ true → U.used + U.makers < U.room) × (U'.received ≡ U.received)
Opening (near c) U U' = (r : Flight) × (close c (U.received (old c)) ≡ some r) × (U'.received ≡ under U.received (old c) (some r))

pub record Sends (c : Content) (U U' : View) : Type 0 where
  pub number : (message_of c).number ≡ U.next
  pub unused : U.waits U.next ≡ none
  pub young : (n : ℕ) (d : Content) → U.waits n ≡ some d → gap U.next n < 400
  pub apart : (n : ℕ) (d : Content) → U.waits n ≡ some d → clash c d ≡ false
  pub opening : Opening c U U'
  pub next : U'.next ≡ (U.next + 1) % 1000
  pub high : U'.high ≡ U.high
  pub sent : U'.sent ≡ U.sent
  pub used : U'.used ≡ U.used
  pub room : U'.room ≡ U.room
  pub waits : U'.waits ≡ upd U.waits U.next (some c)
  pub makers : U'.makers ≡ takes c + U.makers
  pub kept : U'.kept ≡ U.kept

-- AN ANSWER x to the number n comes

-- a neighbour's message was applied on sending
abbrev pub Settles : Content → ℕ → View → View → Type 0
Settles (own p) x U U' = (is_yes x ≡ true → Applied p U.sent U.used U.room U'.sent U'.used) × (is_yes x ≡ false → (U'.sent ≡ U.sent) × (U'.used ≡ U.used))
Settles (near c) x U U' = (U'.sent ≡ U.sent) × (U'.used ≡ U.used)

pub record Learns (n x : ℕ) (U U' : View) : Type 0 where
  pub what : Content
  pub held : U.waits n ≡ some what
  pub right : proper_to what x ≡ true
  pub settles : Settles what x U U'
  pub next : U'.next ≡ U.next
  pub high : U'.high ≡ U.high
  pub received : U'.received ≡ U.received
  pub room : U'.room ≡ U.room
  pub waits : U'.waits ≡ upd U.waits n none
  pub makers : U'.makers + takes what ≡ U.makers
  pub kept : U'.kept ≡ U.kept

-- A MESSAGE COMES

-- a neighbour's message c first retires the offer that it names, if that is unanswered, as a positive answer would
pub record RetiresOne (c : Message) (U U' : View) : Type 0 where
  pub offer : Message
  pub held : U.waits c.reference ≡ some (own offer)
  pub named : retires c offer ≡ true
  pub settles : Applied offer U.sent U.used U.room U'.sent U'.used
  pub next : U'.next ≡ U.next
  pub high : U'.high ≡ U.high
  pub received : U'.received ≡ U.received
  pub room : U'.room ≡ U.room
  pub waits : U'.waits ≡ upd U.waits c.reference none
  pub makers : U'.makers ≡ U.makers
  pub kept : U'.kept ≡ U.kept

abbrev pub Retires : Message → View → View → Type 0
Retires c U U' = ((U' ≡ U) × ((p : Message) → U.waits c.reference ≡ some (own p) → retires c p ≡ true → ⊥)) ⊎ RetiresOne c U U'

-- the number n is answered x; what an owner's message does to the flights received
pub record TakesOwn (n : ℕ) (p : Message) (x : ℕ) (U U' : View) : Type 0 where
  pub right : proper_to (own p) x ≡ true
  pub no : is_yes x ≡ false → U'.received ≡ U.received
  pub yes : is_yes x ≡ true → (z : Option Flight) × (eff p U.received ≡ some z) × (U'.received ≡ put p z U.received)
  pub next : U'.next ≡ U.next
  pub high : U'.high ≡ U.high
  pub sent : U'.sent ≡ U.sent
  pub used : U'.used ≡ U.used
  pub room : U'.room ≡ U.room
  pub waits : U'.waits ≡ U.waits
  pub makers : U'.makers ≡ U.makers
  pub kept : U'.kept ≡ upd U.kept n (some x)

-- what a neighbour's does to the flights sent; U is the end once an offer was retired
pub record TakesNear (n : ℕ) (c : Message) (x : ℕ) (U U' : View) : Type 0 where
  pub no : close c (U.sent (old c)) ≡ none → is_yes x ≡ false
  pub yes : (r : Flight) → close c (U.sent (old c)) ≡ some r → (proper_to (near c) x ≡ true) × (is_yes x ≡ true) × (U'.sent ≡ under U.sent (old c) (some r))
  pub next : U'.next ≡ U.next
  pub high : U'.high ≡ U.high
  pub received : U'.received ≡ U.received
  pub used : U'.used ≡ U.used
  pub room : U'.room ≡ U.room
  pub waits : U'.waits ≡ U.waits
  pub makers : U'.makers ≡ U.makers
  pub kept : U'.kept ≡ upd U.kept n (some x)

abbrev pub Takes : ℕ → Content → ℕ → View → View → Type 0
Takes n (own p) x U U' = TakesOwn n p x U U'
Takes n (near c) x U U' = (M : View) × Retires c U M × TakesNear n c x M U'

-- n becomes the highest, and the answers to the numbers after the highest up to it are forgotten
abbrev pub raised : ℕ → View → View
raised n U = record {
  next = U.next;
  high = n;
  sent = U.sent;
  received = U.received;
  used = U.used;
  room = U.room;
  waits = U.waits;
  makers = U.makers;
  kept = λ k. cond (after U.high n k) none (U.kept k);
}

-- a new number; an old one never answered; one that was answered x before
pub data Hears (n : ℕ) (c : Content) (x : ℕ) (U U' : View) : Type 0 where
  first : standing U.high n ≡ New → Takes n c x (raised n U) U' → Hears n c x U U'
  late : standing U.high n ≡ Old → U.kept n ≡ none → Takes n c x U U' → Hears n c x U U'
  again : standing U.high n ≡ Old → U.kept n ≡ some x → U' ≡ U → Hears n c x U U'

-- SET-UP
pub record Fresh (U : View) : Type 0 where
  pub next : U.next ≡ 0
  pub high : U.high ≡ 999
  pub sent : (k : Key) → U.sent k ≡ none
  pub received : (k : Key) → U.received k ≡ none
  pub used : U.used ≡ 0
  pub waits : (n : ℕ) → U.waits n ≡ none
  pub makers : U.makers ≡ 0
  pub kept : (n : ℕ) → U.kept n ≡ none
