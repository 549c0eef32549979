-- What was packed comes back, and has 246 bytes.
use Rattle.std.specs.Prelude.{Bool, true, cond, ◌&&◌, ◌≡◌, refl, length, get_or, leb}
use Rattle.std.proofs.Common.{ap, ◌∙◌, arith}
use Rattle.std.proofs.Math.Path.{fun_ext}
use Rattle.scan.specs.Grammar.{Span, span, place_of, size_of}
use Rattle.message.specs.declared.Kind.TheVariants.{None}
use Rattle.message.specs.declared.LevelKind.{LevelKind}
use Rattle.message.specs.declared.LevelKind.TheVariants.{Absent, FlightLevel, Altitude, MetricLevel, MetricAltitude, Vfr}
use Rattle.message.specs.declared.PointForm.{PointForm}
use Rattle.message.specs.declared.PointForm.TheVariants.{NoPoint, Name, Bearing, Degrees, Minutes}
use Rattle.message.specs.declared.Record.{Record}
use Rattle.packed.specs.Numbers.{Small, bytes_long, held_back}
use Rattle.packed.specs.Packed.{numbers_of, packed_of, known, kind_by, parts_by, record_by, record_in}
use Rattle.message.specs.Numbered.{kind_number, level_number, form_number, numbered_kind, kind_back, level_back, form_back}

pub packed_long : (r : Record) → length (packed_of r) ≡ 246
unfolding packed_of
packed_long r = bytes_long (numbers_of r)

span_back : (p : Span) → span (place_of p) (size_of p) ≡ p
span_back p = omega arith

level_known : (k : LevelKind) → leb (level_number k) 5 ≡ true
level_known Absent = refl
level_known FlightLevel = refl
level_known Altitude = refl
level_known MetricLevel = refl
level_known MetricAltitude = refl
level_known Vfr = refl

form_known : (k : PointForm) → leb (form_number k) 4 ≡ true
form_known NoPoint = refl
form_known Name = refl
form_known Bearing = refl
form_known Degrees = refl
form_known Minutes = refl

known_back : (r : Record) → known (λ k. get_or (numbers_of r) k 0) ≡ true
unfolding known
known_back r =
    let a = level_known r.figures.own.level.kind in
    let b = form_known r.figures.form in
    let c = level_known r.figures.crossing.kind in
    let d = level_known r.figures.second.kind in
    let e = level_known r.figures.changes.level.kind in
    λ i. (((a i && b i) && c i) && d i) && e i

parts_back : (r : Record) → parts_by (λ k. get_or (numbers_of r) k 0) ≡ r.parts
parts_back r = simp span_back

numbers_back : (r : Record) → record_by (λ k. get_or (numbers_of r) k 0) ≡ r
unfolding record_by kind_by
numbers_back r = λ i. record {
  kind = (ap (λ (b : Bool). cond b (numbered_kind (kind_number r.kind)) None) (known_back r) ∙ kind_back r.kind) i;
  parts = parts_back r i;
  figures = record {
    number = r.figures.number;
    reference = r.figures.reference;
    own = record { count = r.figures.own.count; level = record { kind = level_back r.figures.own.level.kind i; figure = r.figures.own.level.figure } };
    form = form_back r.figures.form i;
    crossing = record { kind = level_back r.figures.crossing.kind i; figure = r.figures.crossing.figure };
    second = record { kind = level_back r.figures.second.kind i; figure = r.figures.second.figure };
    changes = record { count = r.figures.changes.count; level = record { kind = level_back r.figures.changes.level.kind i; figure = r.figures.changes.level.figure } };
    reason = r.figures.reason;
  };
}

-- THE RECORD COMES BACK whose numbers fit two bytes
pub packed_back : (r : Record) → Small (numbers_of r) → record_in (packed_of r) ≡ r
unfolding packed_of
packed_back r s = ap record_by (fun_ext (held_back (numbers_of r) s)) ∙ numbers_back r
