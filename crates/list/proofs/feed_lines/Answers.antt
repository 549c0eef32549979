use Rattle.std.proofs.Common.{refl, arith}
use Rattle.list.proofs.Progressing.{going_part, going_line}
use Rattle.list.proofs.feed_lines.Goals as goal

pub loop-step-preserved-then-end-rest : goal.loop-step-preserved-then-end-rest
loop-step-preserved-then-end-rest c =
    going_part c.loop-step.invariant _ c.line_end-end.result refl c.line_end-end.ensures (omega arith) c.hold-step.new.line c.hold-step.result c.if-end-rest.true c.hold-step.ensures

pub loop-step-preserved : goal.loop-step-preserved
loop-step-preserved c =
    let t = c.tell_whole-told in
    rw c.from.ensures
    (going_line c.loop-step.invariant _ c.line_end-end.result refl c.line_end-end.ensures (omega arith) t.new.line t.new.d t.result.next t.result.read (omega arith) (omega arith) t.ensures t.auto.d)
