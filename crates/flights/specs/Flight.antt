-- A FLIGHT AND ITS RECORD of 768 bytes, by document 01's "Records".
use Rattle.std.specs.Prelude.{◌≡◌, ◌⊎◌, cond, List, [], ◌∷◌, ◌++◌, ℕ, ◌≤◌, get_or, replicate, eqb}
use Rattle.scan.specs.declared.Class.TheVariants.{Letter, Octal, Alnum}
use Rattle.scan.specs.Grammar.{run, Derives}
use Rattle.scan.specs.Texts.{opt}
use Rattle.fields.specs.Fields.{timed, in08, in09, in10, in14, in15, rest16, in18}
use Rattle.places.specs.Bytes.{high, low, number_at}
use Rattle.flights.specs.Padding.{in_row, cut_row}

-- a free place holds no flight
pub data Status : Type 0 where
  filed : Status
  active : Status

pub data Handoff : Type 0 where
  none : Handoff
  offered : Handoff
  accepted : Handoff

-- `first` is the first message number, `offer` the offer number; a text that is not there is empty
pub record Flight : Type 0 where
  pub status : Status
  pub handoff : Handoff
  pub first : ℕ
  pub offer : ℕ
  pub aircraft : List ℕ
  pub code : List ℕ
  pub departure : List ℕ
  pub time : List ℕ
  pub destination : List ℕ
  pub field08 : List ℕ
  pub field09 : List ℕ
  pub field10 : List ℕ
  pub field14 : List ℕ
  pub rest16 : List ℕ
  pub field15 : List ℕ
  pub field18 : List ℕ

-- 0 status (0 free, 1 filed, 2 active); 1 handoff (0 none, 1 offered, 2 accepted); 2 first message number; 4 offer number
unfoldable pub status_byte : Status → ℕ
status_byte filed = 1
status_byte active = 2

unfoldable pub handoff_byte : Handoff → ℕ
handoff_byte none = 0
handoff_byte offered = 1
handoff_byte accepted = 2

-- 6 aircraft; 13 code; 17 departure; 21 time; 25 destination; 29 field 08; 31 field 09; 39 field 10; 100 field 14;
-- 127 rest of field 16; 141 field 15; 441 field 18; so each is this wide
abbrev pub widths : List ℕ
widths = 7 ∷ 4 ∷ 4 ∷ 4 ∷ 4 ∷ 2 ∷ 8 ∷ 61 ∷ 27 ∷ 14 ∷ 300 ∷ 300 ∷ []

abbrev pub texts_of : Flight → List (List ℕ)
texts_of f =
    f.aircraft ∷ f.code ∷ f.departure ∷ f.time ∷ f.destination ∷ f.field08 ∷ f.field09 ∷ f.field10 ∷ f.field14 ∷ f.rest16 ∷ f.field15 ∷ f.field18 ∷ []

-- from 741 zero
abbrev pub record_of : Flight → List ℕ
record_of f =
    status_byte f.status ∷ handoff_byte f.handoff
    ∷ high f.first ∷ low f.first ∷ high f.offer ∷ low f.offer
    ∷ (in_row widths (texts_of f) ++ replicate 27 0)

-- A free record is all zero
abbrev pub free_record : List ℕ
free_record = replicate 768 0

-- and read off the bytes again
unfoldable pub status_of : ℕ → Status
status_of b = cond (eqb b 1) filed active

unfoldable pub handoff_of : ℕ → Handoff
handoff_of b = cond (eqb b 0) none (cond (eqb b 1) offered accepted)

abbrev pub nth : ℕ → List (List ℕ) → List ℕ
nth k ts = get_or ts k []

abbrev pub flight_by : Status → Handoff → ℕ → ℕ → List (List ℕ) → Flight
flight_by s h n o ts = record {
  status = s;
  handoff = h;
  first = n;
  offer = o;
  aircraft = nth 0 ts;
  code = nth 1 ts;
  departure = nth 2 ts;
  time = nth 3 ts;
  destination = nth 4 ts;
  field08 = nth 5 ts;
  field09 = nth 6 ts;
  field10 = nth 7 ts;
  field14 = nth 8 ts;
  rest16 = nth 9 ts;
  field15 = nth 10 ts;
  field18 = nth 11 ts;
}

abbrev pub flight_of : List ℕ → Flight
flight_of b = flight_by (status_of (get_or b 0 0)) (handoff_of (get_or b 1 0)) (number_at 2 b) (number_at 4 b) (cut_row widths 6 b)

-- THE VALUES THAT A FLIGHT MAY HAVE: texts by their field rules, a time if filed, field 14 exactly if active, a handoff only
-- then, an offer number not while filed, all numbers at most 999

abbrev pub Timed : Status → List ℕ → Type 0
Timed filed t = Derives timed t
Timed active t = Derives (opt timed) t

abbrev pub Estimated : Status → List ℕ → Type 0
Estimated filed t = t ≡ []
Estimated active t = Derives in14 t

abbrev pub Offered : Status → Handoff → ℕ → Type 0
Offered filed h n = (h ≡ none) × (n ≡ 0)
Offered active h n = n ≤ 999

pub record Sound (f : Flight) : Type 0 where
  pub first : f.first ≤ 999
  pub offer : Offered f.status f.handoff f.offer
  pub aircraft : Derives (run Alnum 2 7) f.aircraft
  pub code : Derives (opt (run Octal 4 4)) f.code
  pub departure : Derives (run Letter 4 4) f.departure
  pub time : Timed f.status f.time
  pub destination : Derives (run Letter 4 4) f.destination
  pub field08 : Derives (in08 0) f.field08
  pub field09 : Derives (in09 0) f.field09
  pub field10 : Derives (in10 0) f.field10
  pub field14 : Estimated f.status f.field14
  pub rest16 : Derives (rest16 0) f.rest16
  pub field15 : Derives (in15 0) f.field15
  pub field18 : Derives (in18 0) f.field18

-- a record is free, or it is that of a flight
abbrev pub WellFormed : List ℕ → Type 0
WellFormed b = (b ≡ free_record) ⊎ ((f : Flight) × (b ≡ record_of f) × Sound f)
