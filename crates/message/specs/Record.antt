-- The record of a read text: its type, its numbers and where every part of its fields stands.
use Rattle.std.specs.Prelude.{Bool, true, false, cond, List, ℕ, zero, suc, ◌+◌, ◌-◌, ◌*◌, get_or, leb, eqb}
use Rattle.scan.specs.Grammar.{place_of, size_of, Span, Part, look, none}
use Rattle.types.specs.Scanned.{parts_of}
use Rattle.types.specs.Picking.{letters_as, letters_of}
use Rattle.message.specs.declared.Kind.{Kind}
use Rattle.message.specs.declared.Kind.TheVariants.{None, Fpl, Cpl, Est, Chg, Cnl, Rti, Rta, Rla, Lam, Lrm}
use Rattle.message.specs.declared.LevelKind.{LevelKind}
use Rattle.message.specs.declared.LevelKind.TheVariants.{Absent, FlightLevel, Altitude, MetricLevel, MetricAltitude, Vfr}
use Rattle.message.specs.declared.PointForm.{PointForm}
use Rattle.message.specs.declared.PointForm.TheVariants.{NoPoint, Name, Bearing, Degrees, Minutes}
use Rattle.message.specs.declared.Level.{Level}
use Rattle.changes.specs.declared.Plan.{Plan}
use Rattle.types.specs.declared.Parts.{Parts}
use Rattle.message.specs.declared.PlanFigures.{PlanFigures}
use Rattle.message.specs.declared.Figures.{Figures}
use Rattle.message.specs.declared.Record.{Record}

-- the number that k digits stand for, which stand at `at`
unfoldable pub figure : ℕ → List ℕ → ℕ → ℕ
figure zero s at = 0
figure (suc k) s at = figure k s at * 10 + (get_or s (at + k) 0 - 48)

-- no number of document 01 has more than four digits
abbrev pub figure_at : ℕ → List ℕ → ℕ → ℕ
figure_at k s at = cond (leb k 4) (figure k s at) 0

abbrev pub figure_in : List ℕ → Span → ℕ
figure_in s p = figure_at (size_of p) s (place_of p)

-- the type that three letters name
unfoldable pub kind_of : ℕ → Kind
kind_of w =
    cond (eqb w (letters_as 70 80 76)) Fpl
    (cond (eqb w (letters_as 67 80 76)) Cpl
    (cond (eqb w (letters_as 69 83 84)) Est
    (cond (eqb w (letters_as 67 72 71)) Chg
    (cond (eqb w (letters_as 67 78 76)) Cnl
    (cond (eqb w (letters_as 82 84 73)) Rti
    (cond (eqb w (letters_as 82 84 65)) Rta
    (cond (eqb w (letters_as 82 76 65)) Rla
    (cond (eqb w (letters_as 76 65 77)) Lam
    (cond (eqb w (letters_as 76 82 77)) Lrm None)))))))))

unfoldable pub is_chg : Kind → Bool
is_chg None = false
is_chg Fpl = false
is_chg Cpl = false
is_chg Est = false
is_chg Chg = true
is_chg Cnl = false
is_chg Rti = false
is_chg Rta = false
is_chg Rla = false
is_chg Lam = false
is_chg Lrm = false

-- what kind of level a letter says
unfoldable pub level_kind_of : ℕ → LevelKind
level_kind_of b =
    cond (eqb b 70) FlightLevel
    (cond (eqb b 65) Altitude
    (cond (eqb b 83) MetricLevel
    (cond (eqb b 77) MetricAltitude Absent)))

-- a level's kind, and its figure: the digits after the letter. What has three bytes is VFR, which has none
unfoldable pub level_in : List ℕ → Span → Level
level_in s p =
    cond (eqb (size_of p) 0) (record { kind = Absent; figure = 0 })
    (cond (eqb (size_of p) 3) (record { kind = Vfr; figure = 0 }) (record { kind = level_kind_of (get_or s (place_of p) 0); figure = figure_at (size_of p - 1) s (place_of p + 1) }))

-- the form of a point: at most 5 bytes are a name; an E or W at the end of more is that of a longitude, in degrees
-- where there are 7 bytes; the rest has bearing and distance
unfoldable pub form_in : List ℕ → Span → PointForm
form_in s p =
    cond (eqb (size_of p) 0) NoPoint
    (cond (leb (size_of p) 5) Name
    (cond (eqb (size_of p) 7) Degrees
    (cond (leb 65 (get_or s (place_of p + size_of p - 1) 0)) Minutes Bearing)))

abbrev pub plan_figures_of : List ℕ → Plan → PlanFigures
plan_figures_of s p = record { count = figure_in s p.count; level = level_in s p.level }

abbrev pub figures_of : List ℕ → Parts → Figures
figures_of s p = record {
  number = figure_in s p.number.digits;
  reference = figure_in s p.reference.digits;
  own = plan_figures_of s p.own;
  form = form_in s p.estimate.point;
  crossing = level_in s p.estimate.crossing;
  second = level_in s p.estimate.second;
  changes = plan_figures_of s p.changes;
  reason = figure_in s p.reason;
}

abbrev pub record_by : List ℕ → (ℕ → Span) → Record
record_by s f = record { kind = kind_of (letters_of s); parts = parts_of f; figures = figures_of s (parts_of f) }

-- THE RECORD of a text whose parts are ps
abbrev pub record_of : List ℕ → List Part → Record
record_of s ps = record_by s (λ k. look k ps)

-- what is handed back beside a refusal
abbrev pub blank : Record
blank = record {
  kind = None;
  parts = parts_of (λ _. none);
  figures = record {
    number = 0;
    reference = 0;
    own = record { count = 0; level = record { kind = Absent; figure = 0 } };
    form = NoPoint;
    crossing = record { kind = Absent; figure = 0 };
    second = record { kind = Absent; figure = 0 };
    changes = record { count = 0; level = record { kind = Absent; figure = 0 } };
    reason = 0;
  };
}
