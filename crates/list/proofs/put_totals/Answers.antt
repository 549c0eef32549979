-- `list::put_totals` meets its contract. Assumes nothing.
use Rattle.std.proofs.Common.{arith}
use Rattle.lines.specs.Listing.{totals}
use Rattle.splice.specs.Splicing.{then}
use Rattle.list.proofs.put_totals.Goals as goal

pub returns-clause-spliced : goal.returns-clause-spliced
unfolding totals
returns-clause-spliced c =
    let lines_read = then c.put_labelled-a.ensures.spliced c.put_labelled-b.ensures.spliced (omega arith) in
    then (then lines_read c.put_labelled-c.ensures.spliced (omega arith)) c.put.ensures (omega arith)
