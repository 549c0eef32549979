-- A RUN, computed, so that the world of demand 3 is not empty: a flight is filed, changed, estimated, offered, accepted while a
-- retract crosses, and cancelled; copies are lost, repeated and late.
use Rattle.std.specs.Prelude.{◌≡◌, refl, List, [], ◌∷◌, ◌++◌, ℕ, ◌-◌, length, get_or, replicate}
use Rattle.std.proofs.Common.{sym, ap, arith}
use Rattle.std.proofs.Math.Option.{Option, none, some}
use Rattle.scan.specs.Grammar.{all}
use Rattle.places.specs.Places.{empty}
use Rattle.flights.specs.Flight as f
use Rattle.flights.specs.Flight.{Flight, Status, filed, active, Handoff, offered, accepted}
use Rattle.unanswered.specs.Waiting.{Waiting}
use Rattle.memory.specs.End.{End}
use Rattle.rules.specs.Receiving.{settle}
use Rattle.rules.specs.declared.Answer.TheVariants.{NothingUnanswered}
use Rattle.head.specs.Sound.{Names}
use Rattle.pair.specs.World.{here, there}
use Rattle.pair.specs.Stages.{Past, nothing, wrote, repeated, replied, Stage, across, sent_on, resent_on, heard_on, learnt_on, refused_on, Shown, shown, start, ruling}

-- THE UNITS

-- KZMP
abbrev pub KZMP : List ℕ
KZMP = 75 ∷ 90 ∷ 77 ∷ 80 ∷ []

-- CZWG
abbrev pub CZWG : List ℕ
CZWG = 67 ∷ 90 ∷ 87 ∷ 71 ∷ []

-- THE MESSAGES, all but the last by KZMP, the flight's owner

-- (FPLKZMP/CZWG000-DAL122/A4322-IS-B738/M-SDE1/C-KMSP0315-N0447F350 DCT HML-CYWG0053-0)
unfoldable pub filing : List ℕ
filing = 40 ∷ 70 ∷ 80 ∷ 76 ∷ 75 ∷ 90 ∷ 77 ∷ 80 ∷ 47 ∷ 67 ∷ 90 ∷ 87 ∷ 71 ∷ 48 ∷ 48 ∷ 48 ∷ 45 ∷ 68 ∷ 65 ∷ 76 ∷ 49 ∷ 50 ∷ 50 ∷ 47 ∷ 65 ∷ 52 ∷ 51 ∷ 50 ∷ 50 ∷ 45 ∷ 73 ∷ 83 ∷ 45 ∷ 66 ∷ 55 ∷ 51 ∷ 56 ∷ 47 ∷ 77 ∷ 45 ∷ 83 ∷ 68 ∷ 69 ∷ 49 ∷ 47 ∷ 67 ∷ 45 ∷ 75 ∷ 77 ∷ 83 ∷ 80 ∷ 48 ∷ 51 ∷ 49 ∷ 53 ∷ 45 ∷ 78 ∷ 48 ∷ 52 ∷ 52 ∷ 55 ∷ 70 ∷ 51 ∷ 53 ∷ 48 ∷ 32 ∷ 68 ∷ 67 ∷ 84 ∷ 32 ∷ 72 ∷ 77 ∷ 76 ∷ 45 ∷ 67 ∷ 89 ∷ 87 ∷ 71 ∷ 48 ∷ 48 ∷ 53 ∷ 51 ∷ 45 ∷ 48 ∷ 41 ∷ []

-- (CHGKZMP/CZWG001KZMP/CZWG000-DAL122-KMSP-CYWG-07/DAL123/A4322)
unfoldable pub change : List ℕ
change = 40 ∷ 67 ∷ 72 ∷ 71 ∷ 75 ∷ 90 ∷ 77 ∷ 80 ∷ 47 ∷ 67 ∷ 90 ∷ 87 ∷ 71 ∷ 48 ∷ 48 ∷ 49 ∷ 75 ∷ 90 ∷ 77 ∷ 80 ∷ 47 ∷ 67 ∷ 90 ∷ 87 ∷ 71 ∷ 48 ∷ 48 ∷ 48 ∷ 45 ∷ 68 ∷ 65 ∷ 76 ∷ 49 ∷ 50 ∷ 50 ∷ 45 ∷ 75 ∷ 77 ∷ 83 ∷ 80 ∷ 45 ∷ 67 ∷ 89 ∷ 87 ∷ 71 ∷ 45 ∷ 48 ∷ 55 ∷ 47 ∷ 68 ∷ 65 ∷ 76 ∷ 49 ∷ 50 ∷ 51 ∷ 47 ∷ 65 ∷ 52 ∷ 51 ∷ 50 ∷ 50 ∷ 41 ∷ []

-- (ESTKZMP/CZWG002KZMP/CZWG000-DAL123/A4322-KMSP-HML/0342F350-CYWG)
unfoldable pub estimate : List ℕ
estimate = 40 ∷ 69 ∷ 83 ∷ 84 ∷ 75 ∷ 90 ∷ 77 ∷ 80 ∷ 47 ∷ 67 ∷ 90 ∷ 87 ∷ 71 ∷ 48 ∷ 48 ∷ 50 ∷ 75 ∷ 90 ∷ 77 ∷ 80 ∷ 47 ∷ 67 ∷ 90 ∷ 87 ∷ 71 ∷ 48 ∷ 48 ∷ 48 ∷ 45 ∷ 68 ∷ 65 ∷ 76 ∷ 49 ∷ 50 ∷ 51 ∷ 47 ∷ 65 ∷ 52 ∷ 51 ∷ 50 ∷ 50 ∷ 45 ∷ 75 ∷ 77 ∷ 83 ∷ 80 ∷ 45 ∷ 72 ∷ 77 ∷ 76 ∷ 47 ∷ 48 ∷ 51 ∷ 52 ∷ 50 ∷ 70 ∷ 51 ∷ 53 ∷ 48 ∷ 45 ∷ 67 ∷ 89 ∷ 87 ∷ 71 ∷ 41 ∷ []

-- (RTIKZMP/CZWG003KZMP/CZWG000-DAL123-KMSP-CYWG-SECTOR 31-TRACK 32)
unfoldable pub offer : List ℕ
offer = 40 ∷ 82 ∷ 84 ∷ 73 ∷ 75 ∷ 90 ∷ 77 ∷ 80 ∷ 47 ∷ 67 ∷ 90 ∷ 87 ∷ 71 ∷ 48 ∷ 48 ∷ 51 ∷ 75 ∷ 90 ∷ 77 ∷ 80 ∷ 47 ∷ 67 ∷ 90 ∷ 87 ∷ 71 ∷ 48 ∷ 48 ∷ 48 ∷ 45 ∷ 68 ∷ 65 ∷ 76 ∷ 49 ∷ 50 ∷ 51 ∷ 45 ∷ 75 ∷ 77 ∷ 83 ∷ 80 ∷ 45 ∷ 67 ∷ 89 ∷ 87 ∷ 71 ∷ 45 ∷ 83 ∷ 69 ∷ 67 ∷ 84 ∷ 79 ∷ 82 ∷ 32 ∷ 51 ∷ 49 ∷ 45 ∷ 84 ∷ 82 ∷ 65 ∷ 67 ∷ 75 ∷ 32 ∷ 51 ∷ 50 ∷ 41 ∷ []

-- (RTAKZMP/CZWG004KZMP/CZWG003-DAL123-KMSP-CYWG-SECTOR 31)
unfoldable pub retract : List ℕ
retract = 40 ∷ 82 ∷ 84 ∷ 65 ∷ 75 ∷ 90 ∷ 77 ∷ 80 ∷ 47 ∷ 67 ∷ 90 ∷ 87 ∷ 71 ∷ 48 ∷ 48 ∷ 52 ∷ 75 ∷ 90 ∷ 77 ∷ 80 ∷ 47 ∷ 67 ∷ 90 ∷ 87 ∷ 71 ∷ 48 ∷ 48 ∷ 51 ∷ 45 ∷ 68 ∷ 65 ∷ 76 ∷ 49 ∷ 50 ∷ 51 ∷ 45 ∷ 75 ∷ 77 ∷ 83 ∷ 80 ∷ 45 ∷ 67 ∷ 89 ∷ 87 ∷ 71 ∷ 45 ∷ 83 ∷ 69 ∷ 67 ∷ 84 ∷ 79 ∷ 82 ∷ 32 ∷ 51 ∷ 49 ∷ 41 ∷ []

-- (CNLKZMP/CZWG005KZMP/CZWG000-DAL123-KMSP-CYWG-0)
unfoldable pub cancel : List ℕ
cancel = 40 ∷ 67 ∷ 78 ∷ 76 ∷ 75 ∷ 90 ∷ 77 ∷ 80 ∷ 47 ∷ 67 ∷ 90 ∷ 87 ∷ 71 ∷ 48 ∷ 48 ∷ 53 ∷ 75 ∷ 90 ∷ 77 ∷ 80 ∷ 47 ∷ 67 ∷ 90 ∷ 87 ∷ 71 ∷ 48 ∷ 48 ∷ 48 ∷ 45 ∷ 68 ∷ 65 ∷ 76 ∷ 49 ∷ 50 ∷ 51 ∷ 45 ∷ 75 ∷ 77 ∷ 83 ∷ 80 ∷ 45 ∷ 67 ∷ 89 ∷ 87 ∷ 71 ∷ 45 ∷ 48 ∷ 41 ∷ []

-- (RTACZWG/KZMP000KZMP/CZWG003-DAL123-KMSP-CYWG-SECTOR 31)
unfoldable pub acceptance : List ℕ
acceptance = 40 ∷ 82 ∷ 84 ∷ 65 ∷ 67 ∷ 90 ∷ 87 ∷ 71 ∷ 47 ∷ 75 ∷ 90 ∷ 77 ∷ 80 ∷ 48 ∷ 48 ∷ 48 ∷ 75 ∷ 90 ∷ 77 ∷ 80 ∷ 47 ∷ 67 ∷ 90 ∷ 87 ∷ 71 ∷ 48 ∷ 48 ∷ 51 ∷ 45 ∷ 68 ∷ 65 ∷ 76 ∷ 49 ∷ 50 ∷ 51 ∷ 45 ∷ 75 ∷ 77 ∷ 83 ∷ 80 ∷ 45 ∷ 67 ∷ 89 ∷ 87 ∷ 71 ∷ 45 ∷ 83 ∷ 69 ∷ 67 ∷ 84 ∷ 79 ∷ 82 ∷ 32 ∷ 51 ∷ 49 ∷ 41 ∷ []

-- AND THEIR ANSWERS

-- (LAMCZWG/KZMP000KZMP/CZWG000)
unfoldable pub filing_taken : List ℕ
filing_taken = 40 ∷ 76 ∷ 65 ∷ 77 ∷ 67 ∷ 90 ∷ 87 ∷ 71 ∷ 47 ∷ 75 ∷ 90 ∷ 77 ∷ 80 ∷ 48 ∷ 48 ∷ 48 ∷ 75 ∷ 90 ∷ 77 ∷ 80 ∷ 47 ∷ 67 ∷ 90 ∷ 87 ∷ 71 ∷ 48 ∷ 48 ∷ 48 ∷ 41 ∷ []

-- (LAMCZWG/KZMP001KZMP/CZWG001)
unfoldable pub change_taken : List ℕ
change_taken = 40 ∷ 76 ∷ 65 ∷ 77 ∷ 67 ∷ 90 ∷ 87 ∷ 71 ∷ 47 ∷ 75 ∷ 90 ∷ 77 ∷ 80 ∷ 48 ∷ 48 ∷ 49 ∷ 75 ∷ 90 ∷ 77 ∷ 80 ∷ 47 ∷ 67 ∷ 90 ∷ 87 ∷ 71 ∷ 48 ∷ 48 ∷ 49 ∷ 41 ∷ []

-- (LAMCZWG/KZMP002KZMP/CZWG002)
unfoldable pub estimate_taken : List ℕ
estimate_taken = 40 ∷ 76 ∷ 65 ∷ 77 ∷ 67 ∷ 90 ∷ 87 ∷ 71 ∷ 47 ∷ 75 ∷ 90 ∷ 77 ∷ 80 ∷ 48 ∷ 48 ∷ 50 ∷ 75 ∷ 90 ∷ 77 ∷ 80 ∷ 47 ∷ 67 ∷ 90 ∷ 87 ∷ 71 ∷ 48 ∷ 48 ∷ 50 ∷ 41 ∷ []

-- (RLACZWG/KZMP003KZMP/CZWG003-SECTOR 31)
unfoldable pub offer_taken : List ℕ
offer_taken = 40 ∷ 82 ∷ 76 ∷ 65 ∷ 67 ∷ 90 ∷ 87 ∷ 71 ∷ 47 ∷ 75 ∷ 90 ∷ 77 ∷ 80 ∷ 48 ∷ 48 ∷ 51 ∷ 75 ∷ 90 ∷ 77 ∷ 80 ∷ 47 ∷ 67 ∷ 90 ∷ 87 ∷ 71 ∷ 48 ∷ 48 ∷ 51 ∷ 45 ∷ 83 ∷ 69 ∷ 67 ∷ 84 ∷ 79 ∷ 82 ∷ 32 ∷ 51 ∷ 49 ∷ 41 ∷ []

-- (LRMCZWG/KZMP004KZMP/CZWG004-RMK/57)
unfoldable pub retract_refused : List ℕ
retract_refused = 40 ∷ 76 ∷ 82 ∷ 77 ∷ 67 ∷ 90 ∷ 87 ∷ 71 ∷ 47 ∷ 75 ∷ 90 ∷ 77 ∷ 80 ∷ 48 ∷ 48 ∷ 52 ∷ 75 ∷ 90 ∷ 77 ∷ 80 ∷ 47 ∷ 67 ∷ 90 ∷ 87 ∷ 71 ∷ 48 ∷ 48 ∷ 52 ∷ 45 ∷ 82 ∷ 77 ∷ 75 ∷ 47 ∷ 53 ∷ 55 ∷ 41 ∷ []

-- (LAMCZWG/KZMP005KZMP/CZWG005)
unfoldable pub cancel_taken : List ℕ
cancel_taken = 40 ∷ 76 ∷ 65 ∷ 77 ∷ 67 ∷ 90 ∷ 87 ∷ 71 ∷ 47 ∷ 75 ∷ 90 ∷ 77 ∷ 80 ∷ 48 ∷ 48 ∷ 53 ∷ 75 ∷ 90 ∷ 77 ∷ 80 ∷ 47 ∷ 67 ∷ 90 ∷ 87 ∷ 71 ∷ 48 ∷ 48 ∷ 53 ∷ 41 ∷ []

-- (LAMKZMP/CZWG000CZWG/KZMP000)
unfoldable pub acceptance_taken : List ℕ
acceptance_taken = 40 ∷ 76 ∷ 65 ∷ 77 ∷ 75 ∷ 90 ∷ 77 ∷ 80 ∷ 47 ∷ 67 ∷ 90 ∷ 87 ∷ 71 ∷ 48 ∷ 48 ∷ 48 ∷ 67 ∷ 90 ∷ 87 ∷ 71 ∷ 47 ∷ 75 ∷ 90 ∷ 77 ∷ 80 ∷ 48 ∷ 48 ∷ 48 ∷ 41 ∷ []

-- THE FLIGHT

-- DAL122, later DAL123, IS, B738/M, SDE1/C, KMSP0315, N0447F350 DCT HML, CYWG0053
unfoldable pub flight : Status → Handoff → ℕ → List ℕ → List ℕ → Flight
flight status handoff offer aircraft field14 = record {
  status = status;
  handoff = handoff;
  first = 0;
  offer = offer;
  aircraft = aircraft;
  code = 52 ∷ 51 ∷ 50 ∷ 50 ∷ [];
  departure = 75 ∷ 77 ∷ 83 ∷ 80 ∷ [];
  time = 48 ∷ 51 ∷ 49 ∷ 53 ∷ [];
  destination = 67 ∷ 89 ∷ 87 ∷ 71 ∷ [];
  field08 = 73 ∷ 83 ∷ [];
  field09 = 66 ∷ 55 ∷ 51 ∷ 56 ∷ 47 ∷ 77 ∷ [];
  field10 = 83 ∷ 68 ∷ 69 ∷ 49 ∷ 47 ∷ 67 ∷ [];
  field14 = field14;
  rest16 = 48 ∷ 48 ∷ 53 ∷ 51 ∷ [];
  field15 = 78 ∷ 48 ∷ 52 ∷ 52 ∷ 55 ∷ 70 ∷ 51 ∷ 53 ∷ 48 ∷ 32 ∷ 68 ∷ 67 ∷ 84 ∷ 32 ∷ 72 ∷ 77 ∷ 76 ∷ [];
  field18 = 48 ∷ [];
}

-- DAL122
unfoldable pub aircraft : List ℕ
aircraft = 68 ∷ 65 ∷ 76 ∷ 49 ∷ 50 ∷ 50 ∷ []

-- DAL123
unfoldable pub other_aircraft : List ℕ
other_aircraft = 68 ∷ 65 ∷ 76 ∷ 49 ∷ 50 ∷ 51 ∷ []

-- HML/0342F350
unfoldable pub over_hML : List ℕ
over_hML = 72 ∷ 77 ∷ 76 ∷ 47 ∷ 48 ∷ 51 ∷ 52 ∷ 50 ∷ 70 ∷ 51 ∷ 53 ∷ 48 ∷ []

unfoldable pub as_filed : Flight
as_filed = flight filed f.none 0 aircraft []

unfoldable pub as_changed : Flight
as_changed = flight filed f.none 0 other_aircraft []

unfoldable pub as_estimated : Flight
as_estimated = flight active f.none 0 other_aircraft over_hML

unfoldable pub as_offered : Flight
as_offered = flight active offered 3 other_aircraft over_hML

unfoldable pub as_accepted : Flight
as_accepted = flight active accepted 3 other_aircraft over_hML

-- THE TWO ENDS, with two places in each table: the next number, the highest that was received, the flight if there is one, what is
-- unanswered, and the answers that were given from number 000 on

abbrev pub waits : ℕ → List ℕ → Option Waiting
waits n w = some (record { number = n; text = w })

unfoldable pub end : List ℕ → List ℕ → ℕ → ℕ → Option Flight → Option Flight → Option Waiting → List ℕ → End
end ours partners next highest sent received waiting answers = record {
  head = record { ours = ours; partners = partners; next = next; highest = highest };
  sent = sent ∷ none ∷ [];
  received = received ∷ none ∷ [];
  unanswered = waiting ∷ empty 15;
  answers = answers ++ replicate (1000 - length answers) 0;
}

-- KZMP has sent the flight, and CZWG has received it
abbrev pub kzmp : ℕ → ℕ → Option Flight → Option Waiting → List ℕ → End
kzmp next highest x waiting answers = end KZMP CZWG next highest x none waiting answers

abbrev pub czwg : ℕ → ℕ → Option Flight → Option Waiting → List ℕ → End
czwg next highest x waiting answers = end CZWG KZMP next highest none x waiting answers

-- `unfolding computing` opens the rules, and what is said here
computing : Unit {0}
unfolding ruling filing change estimate offer retract cancel acceptance filing_taken change_taken estimate_taken offer_taken retract_refused cancel_taken acceptance_taken flight aircraft other_aircraft over_hML as_filed as_changed as_estimated as_offered as_accepted end
computing = tt

-- THE START

kzmp_czwg : Names KZMP CZWG
unfolding all
kzmp_czwg = record { ours = (refl, omega arith, omega arith); partners = (refl, omega arith, omega arith); different = λ e. let z : ◌≡◌ {A = ℕ} 75 67 = ap (λ (l : List ℕ). get_or l 0 0) e in absurd (omega arith) }

czwg_kzmp : Names CZWG KZMP
czwg_kzmp = record { ours = kzmp_czwg.partners; partners = kzmp_czwg.ours; different = λ e. kzmp_czwg.different (sym e) }

-- the memory was full of other bytes
at_first : Stage KZMP CZWG (kzmp 0 999 none none []) (czwg 0 999 none none []) nothing nothing
unfolding end empty
at_first = start 170 2 2 (omega arith) (omega arith) (omega arith) (omega arith) KZMP CZWG kzmp_czwg czwg_kzmp

-- THE FLIGHT IS FILED. k1, k2 .. are what KZMP has behind it, c1, c2 what CZWG has

abbrev k1 : Past
k1 = wrote filing nothing

filing_sent : Stage KZMP CZWG (kzmp 1 999 none (waits 0 filing) []) (czwg 0 999 none none []) k1 nothing
unfolding computing
filing_sent = sent_on at_first 100 filing refl _ refl

abbrev k2 : Past
k2 = replied 0 filing_taken k1

filing_heard : Stage KZMP CZWG (kzmp 1 999 none (waits 0 filing) []) (czwg 0 0 (some as_filed) none (1 ∷ [])) k2 nothing
unfolding computing
filing_heard = heard_on filing_sent 100 0 filing here refl refl _ _ refl

filed_by_both : Stage KZMP CZWG (kzmp 1 999 (some as_filed) none []) (czwg 0 0 (some as_filed) none (1 ∷ [])) k2 nothing
unfolding computing
filed_by_both = learnt_on filing_heard 100 0 filing_taken filing 0 here refl refl refl refl _ (unfold settle in refl)

-- IT IS CHANGED, under a new key. The first answer is lost, the change is sent once more, and what comes again is answered as before

abbrev k3 : Past
k3 = wrote change k2

change_sent : Stage KZMP CZWG (kzmp 2 999 (some as_filed) (waits 1 change) []) (czwg 0 0 (some as_filed) none (1 ∷ [])) k3 nothing
unfolding computing
change_sent = sent_on filed_by_both 100 change refl _ refl

abbrev k4 : Past
k4 = replied 1 change_taken k3

change_heard : Stage KZMP CZWG (kzmp 2 999 (some as_filed) (waits 1 change) []) (czwg 0 1 (some as_changed) none (1 ∷ 1 ∷ [])) k4 nothing
unfolding computing
change_heard = heard_on change_sent 100 1 change here refl refl _ _ refl

abbrev k5 : Past
k5 = repeated 1 change k4

change_resent : Stage KZMP CZWG (kzmp 2 999 (some as_filed) (waits 1 change) []) (czwg 0 1 (some as_changed) none (1 ∷ 1 ∷ [])) k5 nothing
unfolding computing
change_resent = resent_on change_heard 100 1 change refl

abbrev k6 : Past
k6 = replied 1 change_taken k5

change_heard_again : Stage KZMP CZWG (kzmp 2 999 (some as_filed) (waits 1 change) []) (czwg 0 1 (some as_changed) none (1 ∷ 1 ∷ [])) k6 nothing
unfolding computing
change_heard_again = heard_on change_resent 100 1 change here refl refl _ _ refl

changed_by_both : Stage KZMP CZWG (kzmp 2 999 (some as_changed) none []) (czwg 0 1 (some as_changed) none (1 ∷ 1 ∷ [])) k6 nothing
unfolding computing
changed_by_both = learnt_on change_heard_again 100 1 change_taken change 0 here refl refl refl refl _ (unfold settle in refl)

-- IT IS ESTIMATED. A copy of the change comes late, and nothing is changed by it

abbrev k7 : Past
k7 = wrote estimate k6

estimate_sent : Stage KZMP CZWG (kzmp 3 999 (some as_changed) (waits 2 estimate) []) (czwg 0 1 (some as_changed) none (1 ∷ 1 ∷ [])) k7 nothing
unfolding computing
estimate_sent = sent_on changed_by_both 100 estimate refl _ refl

abbrev k8 : Past
k8 = replied 2 estimate_taken k7

estimate_heard : Stage KZMP CZWG (kzmp 3 999 (some as_changed) (waits 2 estimate) []) (czwg 0 2 (some as_estimated) none (1 ∷ 1 ∷ 1 ∷ [])) k8 nothing
unfolding computing
estimate_heard = heard_on estimate_sent 100 2 estimate here refl refl _ _ refl

abbrev k9 : Past
k9 = replied 1 change_taken k8

change_heard_late : Stage KZMP CZWG (kzmp 3 999 (some as_changed) (waits 2 estimate) []) (czwg 0 2 (some as_estimated) none (1 ∷ 1 ∷ 1 ∷ [])) k9 nothing
unfolding computing
change_heard_late = heard_on estimate_heard 100 1 change (there here) refl refl _ _ refl

estimated_by_both : Stage KZMP CZWG (kzmp 3 999 (some as_estimated) none []) (czwg 0 2 (some as_estimated) none (1 ∷ 1 ∷ 1 ∷ [])) k9 nothing
unfolding computing
estimated_by_both = learnt_on change_heard_late 100 2 estimate_taken estimate 0 (there here) refl refl refl refl _ (unfold settle in refl)

-- a second copy of an answer comes: 5
change_learnt_again : Stage KZMP CZWG (kzmp 3 999 (some as_estimated) none []) (czwg 0 2 (some as_estimated) none (1 ∷ 1 ∷ 1 ∷ [])) k9 nothing
unfolding computing
change_learnt_again = refused_on estimated_by_both 100 1 change_taken here refl refl NothingUnanswered refl

-- IT IS OFFERED

abbrev k10 : Past
k10 = wrote offer k9

offer_sent : Stage KZMP CZWG (kzmp 4 999 (some as_estimated) (waits 3 offer) []) (czwg 0 2 (some as_estimated) none (1 ∷ 1 ∷ 1 ∷ [])) k10 nothing
unfolding computing
offer_sent = sent_on change_learnt_again 100 offer refl _ refl

abbrev k11 : Past
k11 = replied 3 offer_taken k10

offer_heard : Stage KZMP CZWG (kzmp 4 999 (some as_estimated) (waits 3 offer) []) (czwg 0 3 (some as_offered) none (1 ∷ 1 ∷ 1 ∷ 2 ∷ [])) k11 nothing
unfolding computing
offer_heard = heard_on offer_sent 100 3 offer here refl refl _ _ refl

offered_by_both : Stage KZMP CZWG (kzmp 4 999 (some as_offered) none []) (czwg 0 3 (some as_offered) none (1 ∷ 1 ∷ 1 ∷ 2 ∷ [])) k11 nothing
unfolding computing
offered_by_both = learnt_on offer_heard 100 3 offer_taken offer 0 here refl refl refl refl _ (unfold settle in refl)

-- KZMP RETRACTS IT WHILE CZWG ACCEPTS IT: the acceptance is taken, the retract is refused

abbrev k12 : Past
k12 = wrote retract k11

retract_sent : Stage KZMP CZWG (kzmp 5 999 (some as_offered) (waits 4 retract) []) (czwg 0 3 (some as_offered) none (1 ∷ 1 ∷ 1 ∷ 2 ∷ [])) k12 nothing
unfolding computing
retract_sent = sent_on offered_by_both 100 retract refl _ refl

abbrev c1 : Past
c1 = wrote acceptance nothing

acceptance_sent : Stage CZWG KZMP (czwg 1 3 (some as_accepted) (waits 0 acceptance) (1 ∷ 1 ∷ 1 ∷ 2 ∷ [])) (kzmp 5 999 (some as_offered) (waits 4 retract) []) c1 k12
unfolding computing
acceptance_sent = sent_on (across retract_sent) 100 acceptance refl _ refl

abbrev c2 : Past
c2 = replied 0 acceptance_taken c1

acceptance_heard : Stage CZWG KZMP (czwg 1 3 (some as_accepted) (waits 0 acceptance) (1 ∷ 1 ∷ 1 ∷ 2 ∷ [])) (kzmp 5 0 (some as_accepted) (waits 4 retract) (1 ∷ [])) c2 k12
unfolding computing
acceptance_heard = heard_on acceptance_sent 100 0 acceptance here refl refl _ _ refl

abbrev k13 : Past
k13 = replied 4 retract_refused k12

retract_heard : Stage KZMP CZWG (kzmp 5 0 (some as_accepted) (waits 4 retract) (1 ∷ [])) (czwg 1 4 (some as_accepted) (waits 0 acceptance) (1 ∷ 1 ∷ 1 ∷ 2 ∷ 57 ∷ [])) k13 c2
unfolding computing
retract_heard = heard_on (across acceptance_heard) 100 4 retract here refl refl _ _ refl

retract_dropped : Stage KZMP CZWG (kzmp 5 0 (some as_accepted) none (1 ∷ [])) (czwg 1 4 (some as_accepted) (waits 0 acceptance) (1 ∷ 1 ∷ 1 ∷ 2 ∷ 57 ∷ [])) k13 c2
unfolding computing
retract_dropped = learnt_on retract_heard 100 4 retract_refused retract 0 here refl refl refl refl _ (unfold settle in refl)

accepted_by_both : Stage CZWG KZMP (czwg 1 4 (some as_accepted) none (1 ∷ 1 ∷ 1 ∷ 2 ∷ 57 ∷ [])) (kzmp 5 0 (some as_accepted) none (1 ∷ [])) c2 k13
unfolding computing
accepted_by_both = learnt_on (across retract_dropped) 100 0 acceptance_taken acceptance 0 here refl refl refl refl _ (unfold settle in refl)

-- IT IS CANCELLED

abbrev k14 : Past
k14 = wrote cancel k13

cancel_sent : Stage KZMP CZWG (kzmp 6 0 (some as_accepted) (waits 5 cancel) (1 ∷ [])) (czwg 1 4 (some as_accepted) none (1 ∷ 1 ∷ 1 ∷ 2 ∷ 57 ∷ [])) k14 c2
unfolding computing
cancel_sent = sent_on (across accepted_by_both) 100 cancel refl _ refl

abbrev k15 : Past
k15 = replied 5 cancel_taken k14

cancel_heard : Stage KZMP CZWG (kzmp 6 0 (some as_accepted) (waits 5 cancel) (1 ∷ [])) (czwg 1 5 none none (1 ∷ 1 ∷ 1 ∷ 2 ∷ 57 ∷ 1 ∷ [])) k15 c2
unfolding computing
cancel_heard = heard_on cancel_sent 100 5 cancel here refl refl _ _ refl

cancelled_by_both : Stage KZMP CZWG (kzmp 6 0 none none (1 ∷ [])) (czwg 1 5 none none (1 ∷ 1 ∷ 1 ∷ 2 ∷ 57 ∷ 1 ∷ [])) k15 c2
unfolding computing
cancelled_by_both = learnt_on cancel_heard 100 5 cancel_taken cancel 0 here refl refl refl refl _ (unfold settle in refl)

-- SO THESE WORLDS ARE REACHED

-- while the two cross, each end believes its own, and each holds an unanswered message that names the flight
pub crossing_world : Shown KZMP CZWG (kzmp 5 999 (some as_offered) (waits 4 retract) []) (czwg 1 3 (some as_accepted) (waits 0 acceptance) (1 ∷ 1 ∷ 1 ∷ 2 ∷ []))
crossing_world = shown (across acceptance_sent)

-- after the crossing the flight is accepted at both ends, and nothing is unanswered
pub accepted_world : Shown KZMP CZWG (kzmp 5 0 (some as_accepted) none (1 ∷ [])) (czwg 1 4 (some as_accepted) none (1 ∷ 1 ∷ 1 ∷ 2 ∷ 57 ∷ []))
accepted_world = shown (across accepted_by_both)

-- and the two tables that hold it are the same, byte for byte
pub accepted_alike : accepted_world.first.memory.sent ≡ accepted_world.second.memory.received
unfolding accepted_world shown end
accepted_alike = refl

-- at the end there is no flight, and nothing is unanswered
pub cancelled_world : Shown KZMP CZWG (kzmp 6 0 none none (1 ∷ [])) (czwg 1 5 none none (1 ∷ 1 ∷ 1 ∷ 2 ∷ 57 ∷ 1 ∷ []))
cancelled_world = shown cancelled_by_both
