-- Types, levels and points as numbers, by which a record is packed and two records are held against each other.
use Rattle.std.specs.Prelude.{◌≡◌, refl, cond, ℕ, eqb}
use Rattle.message.specs.declared.Kind.{Kind}
use Rattle.message.specs.declared.Kind.TheVariants.{None, Fpl, Cpl, Est, Chg, Cnl, Rti, Rta, Rla, Lam, Lrm}
use Rattle.message.specs.declared.LevelKind.{LevelKind}
use Rattle.message.specs.declared.LevelKind.TheVariants.{Absent, FlightLevel, Altitude, MetricLevel, MetricAltitude, Vfr}
use Rattle.message.specs.declared.PointForm.{PointForm}
use Rattle.message.specs.declared.PointForm.TheVariants.{NoPoint, Name, Bearing, Degrees, Minutes}

abbrev pub kind_number : Kind → ℕ
kind_number None = 0
kind_number Fpl = 1
kind_number Cpl = 2
kind_number Est = 3
kind_number Chg = 4
kind_number Cnl = 5
kind_number Rti = 6
kind_number Rta = 7
kind_number Rla = 8
kind_number Lam = 9
kind_number Lrm = 10

abbrev pub level_number : LevelKind → ℕ
level_number Absent = 0
level_number FlightLevel = 1
level_number Altitude = 2
level_number MetricLevel = 3
level_number MetricAltitude = 4
level_number Vfr = 5

abbrev pub form_number : PointForm → ℕ
form_number NoPoint = 0
form_number Name = 1
form_number Bearing = 2
form_number Degrees = 3
form_number Minutes = 4

-- and back; the first where a number stands for none

abbrev pub numbered_kind : ℕ → Kind
numbered_kind n =
    cond (eqb n 1) Fpl (cond (eqb n 2) Cpl (cond (eqb n 3) Est (cond (eqb n 4) Chg (cond (eqb n 5) Cnl
    (cond (eqb n 6) Rti (cond (eqb n 7) Rta (cond (eqb n 8) Rla (cond (eqb n 9) Lam (cond (eqb n 10) Lrm None)))))))))

abbrev pub numbered_level : ℕ → LevelKind
numbered_level n = cond (eqb n 1) FlightLevel (cond (eqb n 2) Altitude (cond (eqb n 3) MetricLevel (cond (eqb n 4) MetricAltitude (cond (eqb n 5) Vfr Absent))))

abbrev pub numbered_form : ℕ → PointForm
numbered_form n = cond (eqb n 1) Name (cond (eqb n 2) Bearing (cond (eqb n 3) Degrees (cond (eqb n 4) Minutes NoPoint)))

pub kind_back : (k : Kind) → numbered_kind (kind_number k) ≡ k
kind_back None = refl
kind_back Fpl = refl
kind_back Cpl = refl
kind_back Est = refl
kind_back Chg = refl
kind_back Cnl = refl
kind_back Rti = refl
kind_back Rta = refl
kind_back Rla = refl
kind_back Lam = refl
kind_back Lrm = refl

pub level_back : (k : LevelKind) → numbered_level (level_number k) ≡ k
level_back Absent = refl
level_back FlightLevel = refl
level_back Altitude = refl
level_back MetricLevel = refl
level_back MetricAltitude = refl
level_back Vfr = refl

pub form_back : (k : PointForm) → numbered_form (form_number k) ≡ k
form_back NoPoint = refl
form_back Name = refl
form_back Bearing = refl
form_back Degrees = refl
form_back Minutes = refl
