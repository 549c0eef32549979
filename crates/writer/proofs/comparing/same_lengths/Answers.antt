-- `writer::comparing::same_lengths` meets its contract.
use Rattle.writer.specs.Comparing.{all_even}
use Rattle.writer.proofs.comparing.same_lengths.Goals as goal

pub returns : goal.returns
returns c = let a = c.args in all_even a.a a.b _ _ _ _ _ c.same_number.ensures c.same_number-2.ensures c.same_plan.ensures c.same_plan-2.ensures c.same_rest.ensures
