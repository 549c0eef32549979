-- `lines::put_type` meets its contract. Assumes nothing.
use Rattle.std.proofs.Common.{arith}
use Rattle.splice.specs.Splicing.{then, same_bytes}
use Rattle.lines.proofs.Lines.{three}
use Rattle.lines.proofs.put_type.Goals as goal

pub returns-clause-spliced : goal.returns-clause-spliced
returns-clause-spliced c =
    then c.put-blank.ensures (same_bytes (three c.args.text.now _ _ c.min-start.ensures c.min-end.ensures) c.put.ensures) (omega arith)
