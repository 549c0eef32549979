use native.Mathlib.Omega.{arith}
use Rattle.plan_fields.specs.Exits.{stops_model}
use Rattle.plan_fields.proofs.modelled.Goals as goal

pub returns-then-not-a : goal.returns-then-not-a
returns-then-not-a c = grind (arith, stops_model)
