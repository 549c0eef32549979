-- The parts of a record under their names.
use Rattle.std.specs.Prelude.{◌≡◌, ◌⊎◌, List, [], ◌∷◌, ◌++◌, ℕ, ◌+◌, ◌≤◌, length}
use Rattle.scan.specs.Grammar.{place_of, size_of, Span, Part, look}
use Rattle.fields.specs.Names as n
use Rattle.changes.specs.declared.Plan.{Plan}
use Rattle.fields.specs.declared.Number.{Number}
use Rattle.types.specs.declared.Parts.{Parts}
use Rattle.message.specs.declared.Record.{Record}

abbrev pub named : ℕ → Span → Part
named k p = record { name = k; span = p }

abbrev pub number_parts : ℕ → ℕ → ℕ → Number → List Part
number_parts a b c p = named a p.sender ∷ named b p.receiver ∷ named c p.digits ∷ []

abbrev pub plan_parts : ℕ → Plan → List Part
plan_parts o p =
    named (o + n.aircraft) p.aircraft
    ∷ named (o + n.code) p.code
    ∷ named (o + n.rules) p.rules
    ∷ named (o + n.flight) p.flight
    ∷ named (o + n.count) p.count
    ∷ named (o + n.model) p.model
    ∷ named (o + n.wake) p.wake
    ∷ named (o + n.equipment) p.equipment
    ∷ named (o + n.surveillance) p.surveillance
    ∷ named (o + n.departure) p.departure
    ∷ named (o + n.time) p.time
    ∷ named (o + n.speed) p.speed
    ∷ named (o + n.level) p.level
    ∷ named (o + n.route) p.route
    ∷ named (o + n.destination) p.destination
    ∷ named (o + n.elapsed) p.elapsed
    ∷ named (o + n.alternate) p.alternate
    ∷ named (o + n.alternate2) p.alternate2
    ∷ named (o + n.indicator) p.indicator
    ∷ named (o + n.other) p.other
    ∷ []

abbrev pub rest_parts : Parts → List Part
rest_parts p =
    named n.point p.estimate.point
    ∷ named n.over p.estimate.over
    ∷ named n.crossing p.estimate.crossing
    ∷ named n.second p.estimate.second
    ∷ named n.sense p.estimate.sense
    ∷ named n.sector p.sector
    ∷ named n.track p.track
    ∷ named n.reason p.reason
    ∷ []

abbrev pub parts_in : Parts → List Part
parts_in p =
    number_parts n.sender n.receiver n.number p.number
    ++ (number_parts n.reference_sender n.reference_receiver n.reference_number p.reference
    ++ (plan_parts 0 p.own
    ++ (plan_parts n.amended p.changes ++ rest_parts p)))

-- where the part k of a record stands
abbrev pub span_of : Record → ℕ → Span
span_of r k = look k (parts_in r.parts)

-- a part that is there lies within the bytes
abbrev pub Inside : List ℕ → Span → Type 0
Inside d p = (size_of p ≡ 0) ⊎ (place_of p + size_of p ≤ length d)
