-- THE RECORD AS A ROW OF NUMBERS, and as bytes: 123 numbers, two bytes for each, high byte first.
--   0        the kind: 0 none, 1 FPL, 2 CPL, 3 EST, 4 CHG, 5 CNL, 6 RTI, 7 RTA, 8 RLA, 9 LAM, 10 LRM
--   1, 7     number and reference: sender, receiver, digits
--   13       the parts of its own fields 07 to 18: aircraft, code, rules, flight, count, model, wake, equipment, surveillance,
--            departure, time, speed, level, route, destination, elapsed, alternate, alternate2, indicator, other
--   53       field 14: point, over, crossing, second, sense
--   63       the parts within field 22, in the order of 13
--   103      sector (31), track (32), reason (an LRM's digits)
--   109      number, reference; count, level kind, level figure of its own fields; the point's form; crossing kind, figure;
--            second kind, figure; count, level kind, level figure of the changes; reason
-- A part is two numbers, where it starts and how long it is.
use Rattle.std.specs.Prelude.{Bool, cond, ◌&&◌, List, [], ◌∷◌, ◌++◌, ℕ, ◌+◌, leb}
use Rattle.scan.specs.Grammar.{Span, span, place_of, size_of}
use Rattle.changes.specs.declared.Plan.{Plan}
use Rattle.fields.specs.declared.Number.{Number}
use Rattle.fields.specs.declared.Estimate.{Estimate}
use Rattle.types.specs.declared.Parts.{Parts}
use Rattle.message.specs.declared.Kind.{Kind}
use Rattle.message.specs.declared.Kind.TheVariants.{None}
use Rattle.message.specs.declared.Level.{Level}
use Rattle.message.specs.declared.PlanFigures.{PlanFigures}
use Rattle.message.specs.declared.Figures.{Figures}
use Rattle.message.specs.declared.Record.{Record}
use Rattle.packed.specs.Numbers.{bytes_in, held}
use Rattle.message.specs.Numbered.{kind_number, level_number, form_number, numbered_kind, numbered_level, numbered_form}
use Rattle.changes.specs.Found.{plan_spans}

-- WHAT IS WRITTEN

-- the parts in their order

abbrev number_spans : Number → List Span
number_spans n = n.sender ∷ n.receiver ∷ n.digits ∷ []

abbrev estimate_spans : Estimate → List Span
estimate_spans e = e.point ∷ e.over ∷ e.crossing ∷ e.second ∷ e.sense ∷ []

abbrev pub part_spans : Parts → List Span
part_spans p =
    number_spans p.number ++ number_spans p.reference ++ plan_spans p.own ++ estimate_spans p.estimate
    ++ plan_spans p.changes ++ (p.sector ∷ p.track ∷ p.reason ∷ [])

-- each part as its two numbers
abbrev pub span_numbers : List Span → List ℕ
span_numbers [] = []
span_numbers (p ∷ ps) = place_of p ∷ size_of p ∷ span_numbers ps

abbrev pub parts_numbers : Parts → List ℕ
parts_numbers p = span_numbers (part_spans p)

abbrev pub level_numbers : Level → List ℕ
level_numbers l = level_number l.kind ∷ l.figure ∷ []

abbrev pub plan_figure_numbers : PlanFigures → List ℕ
plan_figure_numbers p = p.count ∷ level_numbers p.level

abbrev pub figure_numbers : Figures → List ℕ
figure_numbers f =
    (f.number ∷ f.reference ∷ []) ++ plan_figure_numbers f.own ++ (form_number f.form ∷ []) ++ level_numbers f.crossing
    ++ level_numbers f.second ++ plan_figure_numbers f.changes ++ (f.reason ∷ [])

abbrev pub numbers_of : Record → List ℕ
numbers_of r = (kind_number r.kind ∷ []) ++ parts_numbers r.parts ++ figure_numbers r.figures

unfoldable pub packed_of : Record → List ℕ
packed_of r = bytes_in (numbers_of r)

-- WHAT IS READ OFF

-- f gives each number by its place, and k is the place of the first

abbrev pub span_by : (ℕ → ℕ) → ℕ → Span
span_by f k = span (f k) (f (k + 1))

abbrev pub number_by : (ℕ → ℕ) → ℕ → Number
number_by f k = record { sender = span_by f k; receiver = span_by f (k + 2); digits = span_by f (k + 4) }

abbrev pub plan_by : (ℕ → ℕ) → ℕ → Plan
plan_by f k = record {
  aircraft = span_by f k;
  code = span_by f (k + 2);
  rules = span_by f (k + 4);
  flight = span_by f (k + 6);
  count = span_by f (k + 8);
  model = span_by f (k + 10);
  wake = span_by f (k + 12);
  equipment = span_by f (k + 14);
  surveillance = span_by f (k + 16);
  departure = span_by f (k + 18);
  time = span_by f (k + 20);
  speed = span_by f (k + 22);
  level = span_by f (k + 24);
  route = span_by f (k + 26);
  destination = span_by f (k + 28);
  elapsed = span_by f (k + 30);
  alternate = span_by f (k + 32);
  alternate2 = span_by f (k + 34);
  indicator = span_by f (k + 36);
  other = span_by f (k + 38);
}

abbrev pub estimate_by : (ℕ → ℕ) → ℕ → Estimate
estimate_by f k = record { point = span_by f k; over = span_by f (k + 2); crossing = span_by f (k + 4); second = span_by f (k + 6); sense = span_by f (k + 8) }

abbrev pub level_by : (ℕ → ℕ) → ℕ → Level
level_by f k = record { kind = numbered_level (f k); figure = f (k + 1) }

abbrev pub plan_figures_by : (ℕ → ℕ) → ℕ → PlanFigures
plan_figures_by f k = record { count = f k; level = level_by f (k + 1) }

abbrev pub parts_by : (ℕ → ℕ) → Parts
parts_by f = record {
  number = number_by f 1;
  reference = number_by f 7;
  own = plan_by f 13;
  estimate = estimate_by f 53;
  changes = plan_by f 63;
  sector = span_by f 103;
  track = span_by f 105;
  reason = span_by f 107;
}

abbrev pub figures_by : (ℕ → ℕ) → Figures
figures_by f = record {
  number = f 109;
  reference = f 110;
  own = plan_figures_by f 111;
  form = numbered_form (f 114);
  crossing = level_by f 115;
  second = level_by f 117;
  changes = plan_figures_by f 119;
  reason = f 122;
}

-- the numbers that say what a level or a point is have one of their values
unfoldable pub known : (ℕ → ℕ) → Bool
known f = (((leb (f 112) 5 && leb (f 114) 4) && leb (f 115) 5) && leb (f 117) 5) && leb (f 120) 5

-- a type above 10 is none; and what a level or a point cannot be is in no message
unfoldable pub kind_by : (ℕ → ℕ) → Kind
kind_by f = cond (known f) (numbered_kind (f 0)) None

unfoldable pub record_by : (ℕ → ℕ) → Record
record_by f = record { kind = kind_by f; parts = parts_by f; figures = figures_by f }

abbrev pub record_in : List ℕ → Record
record_in b = record_by (held b)
