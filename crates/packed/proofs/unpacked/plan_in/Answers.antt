-- `packed::unpacked::plan_in` meets its contract.
use native.Mathlib.Omega.{arith}
use Rattle.packed.proofs.unpacked.plan_in.Goals as goal

pub returns : goal.returns
returns c = λ i. record {
  aircraft = c.span_in.ensures i;
  code = c.span_in-2.ensures i;
  rules = c.span_in-3.ensures i;
  flight = c.span_in-4.ensures i;
  count = c.span_in-5.ensures i;
  model = c.span_in-6.ensures i;
  wake = c.span_in-7.ensures i;
  equipment = c.span_in-8.ensures i;
  surveillance = c.span_in-9.ensures i;
  departure = c.span_in-10.ensures i;
  time = c.span_in-11.ensures i;
  speed = c.span_in-12.ensures i;
  level = c.span_in-13.ensures i;
  route = c.span_in-14.ensures i;
  destination = c.span_in-15.ensures i;
  elapsed = c.span_in-16.ensures i;
  alternate = c.span_in-17.ensures i;
  alternate2 = c.span_in-18.ensures i;
  indicator = c.span_in-19.ensures i;
  other = c.span_in-20.ensures i;
}

pub span_in-requires : goal.span_in-requires
span_in-requires c = omega (arith, c.requires)

pub overflow_add-k : goal.overflow_add-k
overflow_add-k c = omega (arith, c.requires, c.well_formed)

pub span_in-requires-2 : goal.span_in-requires-2
span_in-requires-2 c = omega (arith, c.requires)

pub overflow_add-k-2 : goal.overflow_add-k-2
overflow_add-k-2 c = omega (arith, c.requires, c.well_formed)

pub span_in-requires-3 : goal.span_in-requires-3
span_in-requires-3 c = omega (arith, c.requires)

pub overflow_add-k-3 : goal.overflow_add-k-3
overflow_add-k-3 c = omega (arith, c.requires, c.well_formed)

pub span_in-requires-4 : goal.span_in-requires-4
span_in-requires-4 c = omega (arith, c.requires)

pub overflow_add-k-4 : goal.overflow_add-k-4
overflow_add-k-4 c = omega (arith, c.requires, c.well_formed)

pub span_in-requires-5 : goal.span_in-requires-5
span_in-requires-5 c = omega (arith, c.requires)

pub overflow_add-k-5 : goal.overflow_add-k-5
overflow_add-k-5 c = omega (arith, c.requires, c.well_formed)

pub span_in-requires-6 : goal.span_in-requires-6
span_in-requires-6 c = omega (arith, c.requires)

pub overflow_add-k-6 : goal.overflow_add-k-6
overflow_add-k-6 c = omega (arith, c.requires, c.well_formed)

pub span_in-requires-7 : goal.span_in-requires-7
span_in-requires-7 c = omega (arith, c.requires)

pub overflow_add-k-7 : goal.overflow_add-k-7
overflow_add-k-7 c = omega (arith, c.requires, c.well_formed)

pub span_in-requires-8 : goal.span_in-requires-8
span_in-requires-8 c = omega (arith, c.requires)

pub overflow_add-k-8 : goal.overflow_add-k-8
overflow_add-k-8 c = omega (arith, c.requires, c.well_formed)

pub span_in-requires-9 : goal.span_in-requires-9
span_in-requires-9 c = omega (arith, c.requires)

pub overflow_add-k-9 : goal.overflow_add-k-9
overflow_add-k-9 c = omega (arith, c.requires, c.well_formed)

pub span_in-requires-10 : goal.span_in-requires-10
span_in-requires-10 c = omega (arith, c.requires)

pub overflow_add-k-10 : goal.overflow_add-k-10
overflow_add-k-10 c = omega (arith, c.requires, c.well_formed)

pub span_in-requires-11 : goal.span_in-requires-11
span_in-requires-11 c = omega (arith, c.requires)

pub overflow_add-k-11 : goal.overflow_add-k-11
overflow_add-k-11 c = omega (arith, c.requires, c.well_formed)

pub span_in-requires-12 : goal.span_in-requires-12
span_in-requires-12 c = omega (arith, c.requires)

pub overflow_add-k-12 : goal.overflow_add-k-12
overflow_add-k-12 c = omega (arith, c.requires, c.well_formed)

pub span_in-requires-13 : goal.span_in-requires-13
span_in-requires-13 c = omega (arith, c.requires)

pub overflow_add-k-13 : goal.overflow_add-k-13
overflow_add-k-13 c = omega (arith, c.requires, c.well_formed)

pub span_in-requires-14 : goal.span_in-requires-14
span_in-requires-14 c = omega (arith, c.requires)

pub overflow_add-k-14 : goal.overflow_add-k-14
overflow_add-k-14 c = omega (arith, c.requires, c.well_formed)

pub span_in-requires-15 : goal.span_in-requires-15
span_in-requires-15 c = omega (arith, c.requires)

pub overflow_add-k-15 : goal.overflow_add-k-15
overflow_add-k-15 c = omega (arith, c.requires, c.well_formed)

pub span_in-requires-16 : goal.span_in-requires-16
span_in-requires-16 c = omega (arith, c.requires)

pub overflow_add-k-16 : goal.overflow_add-k-16
overflow_add-k-16 c = omega (arith, c.requires, c.well_formed)

pub span_in-requires-17 : goal.span_in-requires-17
span_in-requires-17 c = omega (arith, c.requires)

pub overflow_add-k-17 : goal.overflow_add-k-17
overflow_add-k-17 c = omega (arith, c.requires, c.well_formed)

pub span_in-requires-18 : goal.span_in-requires-18
span_in-requires-18 c = omega (arith, c.requires)

pub overflow_add-k-18 : goal.overflow_add-k-18
overflow_add-k-18 c = omega (arith, c.requires, c.well_formed)

pub span_in-requires-19 : goal.span_in-requires-19
span_in-requires-19 c = omega (arith, c.requires)

pub overflow_add-k-19 : goal.overflow_add-k-19
overflow_add-k-19 c = omega (arith, c.requires, c.well_formed)

pub span_in-requires-20 : goal.span_in-requires-20
span_in-requires-20 c = omega (arith, c.requires)
