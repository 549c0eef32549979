-- `lines::put_labelled` meets its contract. Assumes nothing.
use Rattle.std.proofs.Common.{arith}
use Rattle.splice.specs.Splicing.{then}
use Rattle.lines.proofs.put_labelled.Goals as goal

pub returns-clause-spliced : goal.returns-clause-spliced
returns-clause-spliced c = then c.put-number.ensures c.put_number.ensures.spliced (omega arith)
