-- `lines::put_refusal` meets its contract. Assumes nothing.
use Rattle.std.proofs.Common.{arith}
use Rattle.splice.specs.Splicing.{then}
use Rattle.lines.proofs.put_refusal.Goals as goal

pub returns-clause-spliced : goal.returns-clause-spliced
returns-clause-spliced c = then c.put_labelled-first.ensures.spliced c.put_labelled.ensures.spliced (omega arith)
