use Rattle.std.proofs.Common.{arith}
use Rattle.places.specs.Bytes.{each_more, each_done}
use Rattle.places.proofs.all_are.Goals as goal

pub loop-b-preserved : goal.loop-b-preserved
loop-b-preserved c = let a = c.args in each_more a.v a.s.now c.loop-b.b-index c.loop-b.ok _ c.loop-b-test.true c.loop-b.invariant

pub returns : goal.returns
returns c = let a = c.args in each_done a.v a.s.now c.loop-b.b-index c.loop-b.ok _ (omega arith) c.loop-b-test.false c.loop-b.invariant
