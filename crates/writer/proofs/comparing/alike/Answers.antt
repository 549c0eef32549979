-- `writer::comparing::alike` meets its contract.
use Rattle.scan.specs.Bools.{decides_by}
use Rattle.writer.specs.Comparing.{lengths_same, records_alike}
use Rattle.writer.proofs.comparing.alike.Goals as goal

pub returns : goal.returns
returns c =
    let a = c.args in
    decides_by (rw (c.kind_number.ensures, c.kind_number-2.ensures)) (records_alike a.a a.b _ _ (decides_by c.same_lengths.ensures (lengths_same a.a a.b)) c.same_figures.ensures)
