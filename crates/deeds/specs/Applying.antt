-- A MESSAGE APPLIED TO A TABLE OF FLIGHTS: where its flight is, whether it may be done, and what the table is afterwards.
use Rattle.std.specs.Prelude.{Bool, true, false, cond, ℕ}
use Rattle.std.proofs.Math.Option.{Option, none}
use Rattle.places.specs.Place.{Place, At, Nowhere}
use Rattle.places.specs.Places.{Places, get, set, first_of, is_free}
use Rattle.flights.specs.Flight.{Flight}
use Rattle.flights.specs.Decoded.{keyed}
use Rattle.deeds.specs.declared.Decision.{Decision}
use Rattle.deeds.specs.declared.Decision.TheVariants.{Fails, Full, Done}
use Rattle.deeds.specs.Message.{Message}
use Rattle.deeds.specs.Deeds.{Key, same_key, old, new, deed_of, may, becomes}

abbrev pub asked : Key → Option Flight → Bool
asked k = keyed k.aircraft k.departure k.destination

abbrev pub where_is : Key → Places Flight → Place
where_is k l = first_of (asked k) 0 l

abbrev pub lowest_free : {A : Type 0} → Places A → Place
lowest_free l = first_of is_free 0 l

abbrev pub held_at : {A : Type 0} → Place → Places A → Option A
held_at (At i) l = get i l
held_at Nowhere l = none

abbrev pub flight_under : Key → Places Flight → Option Flight
flight_under k l = held_at (where_is k l) l

-- the flight under the new key, where that is another
unfoldable pub other : Message → Places Flight → Option Flight
other m l = cond (same_key (new m) (old m)) none (flight_under (new m) l)

-- is it nowhere?
unfoldable pub nowhere : Place → Bool
nowhere (At i) = false
nowhere Nowhere = true

-- the place of its flight; a new flight takes the lowest free place
abbrev pub or_free : Place → Places Flight → Place
or_free (At i) l = At i
or_free Nowhere l = lowest_free l

abbrev pub home : Message → Places Flight → Place
home m l = or_free (where_is (old m) l) l

abbrev pub allowed : Message → Places Flight → Bool
allowed m l = may (deed_of m) m (flight_under (old m) l) (other m l)

-- 57 comes first: the condition fails; then 62: no place is free
abbrev pub decided_at : Place → Decision
decided_at (At i) = Done i
decided_at Nowhere = Full

unfoldable pub decision : Message → Places Flight → Decision
decision m l = cond (allowed m l) (decided_at (home m l)) Fails

-- the table once it is done at place i
abbrev pub done_at : ℕ → Message → Places Flight → Places Flight
done_at i m l = set i (becomes (deed_of m) m (get i l)) l

-- and after a decision, whatever it is
unfoldable pub after : Decision → Message → Places Flight → Places Flight
after Fails m l = l
after Full m l = l
after (Done i) m l = done_at i m l

abbrev pub applied : Message → Places Flight → Places Flight
applied m l = after (decision m l) m l
