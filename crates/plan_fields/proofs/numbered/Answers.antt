use native.Mathlib.Omega.{arith}
use Rattle.fields.specs.Numbers.{numbered_is}
use Rattle.plan_fields.proofs.numbered.Goals as goal

pub returns : goal.returns
returns c = numbered_is _ _ (omega arith) _ _ _ _ c.all_in-a.ensures c.is_in-b.ensures c.all_in-c.ensures c.all_in-d.ensures
