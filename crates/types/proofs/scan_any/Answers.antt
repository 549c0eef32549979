use native.Mathlib.Omega.{arith}
use Rattle.types.specs.Picking.{strange}
use Rattle.types.proofs.scan_any.Goals as goal

pub returns-in_default : goal.returns-in_default
returns-in_default c = strange c.args.s.now _ (λ h p o. grind arith) c.unknown.ensures
