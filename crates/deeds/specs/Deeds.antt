-- WHAT A MESSAGE DOES TO THE FLIGHT THAT IT NAMES, by document 01's "Applying a message to its sender's flights". Nothing else
-- in the project says what a type of message does to a record.
use Rattle.std.specs.Prelude.{Bool, true, false, cond, not, ◌&&◌, List, [], ◌∷◌, ℕ, eqb}
use Rattle.std.proofs.Math.Option.{Option, none, some}
use Rattle.message.specs.declared.Kind.{Kind}
use Rattle.message.specs.declared.Kind.TheVariants.{None, Fpl, Cpl, Est, Chg, Cnl, Rti, Rta, Rla, Lam, Lrm}
use Rattle.message.specs.Record.{is_chg}
use Rattle.excerpt.specs.Excerpt.{Texts}
use Rattle.places.specs.Bytes.{same}
use Rattle.flights.specs.Flight as f
use Rattle.flights.specs.Flight.{Flight, Status, filed, active, Handoff, offered, accepted}
use Rattle.deeds.specs.declared.Deed.{Deed}
use Rattle.deeds.specs.declared.Deed.TheVariants.{Files, Enters, Amends, Estimates, Cancels, Offers, Retracts, Accepts, Nothing}
use Rattle.deeds.specs.Message.{Message}
use Rattle.places.specs.Places.{is_free as is_none}

-- WHICH DEED IT IS. An RTA whose reference begins with its sender's own unit is a retract; one whose reference begins with the
-- other unit is an acceptance, of the other's flight; with other units it is neither
abbrev pub in_order : Message → Bool
in_order m = same m.reference_from m.from && same m.reference_to m.to

abbrev pub turned : Message → Bool
turned m = same m.reference_from m.to && same m.reference_to m.from

-- an RTA
unfoldable pub rta_deed : Message → Deed
rta_deed m = cond (in_order m) Retracts (cond (turned m) Accepts Nothing)

unfoldable pub deed_by : Kind → Message → Deed
deed_by None m = Nothing
deed_by Fpl m = Files
deed_by Cpl m = Enters
deed_by Est m = Estimates
deed_by Chg m = Amends
deed_by Cnl m = Cancels
deed_by Rti m = Offers
deed_by Rta m = rta_deed m
deed_by Rla m = Nothing
deed_by Lam m = Nothing
deed_by Lrm m = Nothing

abbrev pub deed_of : Message → Deed
deed_of m = deed_by m.kind m

-- THE KEYS THAT IT NAMES. Aircraft, departure and destination are the key
pub record Key : Type 0 where
  pub aircraft : List ℕ
  pub departure : List ℕ
  pub destination : List ℕ

abbrev pub same_key : Key → Key → Bool
same_key a b = (same a.aircraft b.aircraft && same a.departure b.departure) && same a.destination b.destination

-- a text where it is given, else the one that is held
unfoldable pub or_held : List ℕ → List ℕ → List ℕ
or_held [] h = h
or_held (x ∷ s) h = x ∷ s

-- the key under which its flight stands when it comes
abbrev pub old : Message → Key
old m = record { aircraft = m.own.aircraft; departure = m.own.departure; destination = m.own.destination }

-- and the one under which it stands afterwards
abbrev pub changed_key : Message → Key
changed_key m = record {
  aircraft = or_held m.changes.aircraft m.own.aircraft;
  departure = or_held m.changes.departure m.own.departure;
  destination = or_held m.changes.destination m.own.destination;
}

unfoldable pub new : Message → Key
new m = cond (is_chg m.kind) (changed_key m) (old m)

-- WHEN IT MAY BE DONE: x is the flight under the old key, if there is one; y the one under the new key, if that is another

unfoldable pub is_filed : Status → Bool
is_filed filed = true
is_filed active = false

unfoldable pub is_calm : Handoff → Bool
is_calm f.none = true
is_calm offered = false
is_calm accepted = false

unfoldable pub is_offered : Handoff → Bool
is_offered f.none = false
is_offered offered = true
is_offered accepted = false

-- the reference is its first number
abbrev pub refers : Message → Flight → Bool
refers m x = in_order m && eqb m.reference x.first

-- a code, if given, is the one held
unfoldable pub code_fits : List ℕ → List ℕ → Bool
code_fits [] h = true
code_fits (c ∷ s) h = same (c ∷ s) h

-- offered, and the reference is the offer number
abbrev pub is_offer : Message → Flight → Bool
is_offer m x = is_offered x.handoff && eqb m.reference x.offer

-- of a flight that exists
unfoldable pub may_on : Deed → Message → Flight → Option Flight → Bool
may_on Files m x y = false
may_on Enters m x y = false
may_on Amends m x y = (is_filed x.status && refers m x) && is_none y
may_on Estimates m x y = (is_filed x.status && refers m x) && code_fits m.own.code x.code
may_on Cancels m x y = not (is_offered x.handoff) && refers m x
may_on Offers m x y = ((not (is_filed x.status) && is_calm x.handoff) && refers m x) && code_fits m.own.code x.code
may_on Retracts m x y = is_offer m x
may_on Accepts m x y = is_offer m x
may_on Nothing m x y = false

-- FPL or CPL: no flight has the key
unfoldable pub makes : Deed → Bool
makes Files = true
makes Enters = true
makes Amends = false
makes Estimates = false
makes Cancels = false
makes Offers = false
makes Retracts = false
makes Accepts = false
makes Nothing = false

unfoldable pub may : Deed → Message → Option Flight → Option Flight → Bool
may d m none y = makes d
may d m (some x) y = may_on d m x y

-- WHAT THE RECORD IS AFTERWARDS

-- a new flight: the number becomes the first number
abbrev pub made : Status → List ℕ → Message → Flight
made s t14 m = record {
  status = s;
  handoff = f.none;
  first = m.number;
  offer = 0;
  aircraft = m.own.aircraft;
  code = m.own.code;
  departure = m.own.departure;
  time = m.own.time;
  destination = m.own.destination;
  field08 = m.own.field08;
  field09 = m.own.field09;
  field10 = m.own.field10;
  field14 = t14;
  rest16 = m.own.rest16;
  field15 = m.own.field15;
  field18 = m.own.field18;
}

-- a text that belongs to a field 22 which is given, else the one that is held
unfoldable pub with_field : List ℕ → List ℕ → List ℕ → List ℕ
with_field [] t h = h
with_field (x ∷ s) t h = t

-- each field 22 replaces that field whole; a 07 without code leaves none, a 16 without the rest none
abbrev pub amended : Texts → Flight → Flight
amended c x = record {
  status = x.status;
  handoff = x.handoff;
  first = x.first;
  offer = x.offer;
  aircraft = or_held c.aircraft x.aircraft;
  code = with_field c.aircraft c.code x.code;
  departure = or_held c.departure x.departure;
  time = with_field c.departure c.time x.time;
  destination = or_held c.destination x.destination;
  field08 = or_held c.field08 x.field08;
  field09 = or_held c.field09 x.field09;
  field10 = or_held c.field10 x.field10;
  field14 = x.field14;
  rest16 = with_field c.destination c.rest16 x.rest16;
  field15 = or_held c.field15 x.field15;
  field18 = or_held c.field18 x.field18;
}

-- with another status and field 14
abbrev pub estimated : List ℕ → Flight → Flight
estimated t14 x = record {
  status = active;
  handoff = x.handoff;
  first = x.first;
  offer = x.offer;
  aircraft = x.aircraft;
  code = x.code;
  departure = x.departure;
  time = x.time;
  destination = x.destination;
  field08 = x.field08;
  field09 = x.field09;
  field10 = x.field10;
  field14 = t14;
  rest16 = x.rest16;
  field15 = x.field15;
  field18 = x.field18;
}

-- with another handoff and offer number
abbrev pub handed_off : Handoff → ℕ → Flight → Flight
handed_off h n x = record {
  status = x.status;
  handoff = h;
  first = x.first;
  offer = n;
  aircraft = x.aircraft;
  code = x.code;
  departure = x.departure;
  time = x.time;
  destination = x.destination;
  field08 = x.field08;
  field09 = x.field09;
  field10 = x.field10;
  field14 = x.field14;
  rest16 = x.rest16;
  field15 = x.field15;
  field18 = x.field18;
}

unfoldable pub becomes_on : Deed → Message → Flight → Option Flight
becomes_on Files m x = some x
becomes_on Enters m x = some x
becomes_on Amends m x = some (amended m.changes x)
becomes_on Estimates m x = some (estimated m.field14 x)
becomes_on Cancels m x = none
becomes_on Offers m x = some (handed_off offered m.number x)
becomes_on Retracts m x = some (handed_off f.none x.offer x)
becomes_on Accepts m x = some (handed_off accepted x.offer x)
becomes_on Nothing m x = some x

unfoldable pub begins : Deed → Message → Option Flight
begins Files m = some (made filed [] m)
begins Enters m = some (made active m.field14 m)
begins Amends m = none
begins Estimates m = none
begins Cancels m = none
begins Offers m = none
begins Retracts m = none
begins Accepts m = none
begins Nothing m = none

unfoldable pub becomes : Deed → Message → Option Flight → Option Flight
becomes d m none = begins d m
becomes d m (some x) = becomes_on d m x
