-- `packed::unpacked::parts_in` meets its contract.
use native.Mathlib.Omega.{arith}
use Rattle.packed.proofs.unpacked.parts_in.Goals as goal

pub returns : goal.returns
returns c = λ i. record {
  number = c.number_in.ensures i;
  reference = c.number_in-2.ensures i;
  own = c.plan_in.ensures i;
  estimate = c.estimate_in.ensures i;
  changes = c.plan_in-2.ensures i;
  sector = c.span_in.ensures i;
  track = c.span_in-2.ensures i;
  reason = c.span_in-3.ensures i;
}

pub number_in-requires : goal.number_in-requires
number_in-requires c = omega (arith, c.requires)

pub number_in-requires-2 : goal.number_in-requires-2
number_in-requires-2 c = omega (arith, c.requires)

pub plan_in-requires : goal.plan_in-requires
plan_in-requires c = omega (arith, c.requires)

pub estimate_in-requires : goal.estimate_in-requires
estimate_in-requires c = omega (arith, c.requires)

pub plan_in-requires-2 : goal.plan_in-requires-2
plan_in-requires-2 c = omega (arith, c.requires)

pub span_in-requires : goal.span_in-requires
span_in-requires c = omega (arith, c.requires)

pub span_in-requires-2 : goal.span_in-requires-2
span_in-requires-2 c = omega (arith, c.requires)

pub span_in-requires-3 : goal.span_in-requires-3
span_in-requires-3 c = omega (arith, c.requires)
