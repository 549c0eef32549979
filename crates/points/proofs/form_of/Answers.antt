use Rattle.std.specs.Prelude.{ℕ, zero, suc, ◌+◌, ◌-◌, ◌≤◌}
use Rattle.std.proofs.Math.Path.{subst}
use native.Mathlib.Omega.{arith}
use Rattle.fields.specs.Fields.{bearing_from, pointed}
use Rattle.fields.specs.Chosen.{ArmOf, degrees_arm, minutes_arm, two_arm, three_arm, four_arm, five_arm}
use Rattle.points.proofs.form_of.Goals as goal

-- a name of two to four letters or digits, and a bearing
bearing_arm : (k : ℕ) → k ≤ 2 → ArmOf (bearing_from (2 + k)) pointed
bearing_arm zero h = two_arm
bearing_arm (suc zero) h = three_arm
bearing_arm (suc (suc zero)) h = four_arm
bearing_arm (suc (suc (suc k))) h = absurd (omega arith)

pub returns-in-2 : goal.returns-in-2
returns-in-2 c = (_, degrees_arm, c.degrees.ensures)

pub returns-in-3-to-5 : goal.returns-in-3-to-5
returns-in-3-to-5 c = (_, subst (λ (k : ℕ). ArmOf (bearing_from k) pointed) (omega arith) (bearing_arm (c.args.n - 3) (omega arith)), c.bearing_from.ensures)

pub returns-then-m : goal.returns-then-m
returns-then-m c = (_, minutes_arm, c.minutes-m.ensures)

pub returns-else-m : goal.returns-else-m
returns-else-m c = (_, five_arm, c.bearing_from-else-m.ensures)
