-- `writer::number_bytes` meets its contract.
use Rattle.writer.specs.Drawn.{number_made}
use Rattle.writer.proofs.number_bytes.Goals as goal

pub returns : goal.returns
returns c =
    let a = c.args in
    let h = c.requires in
    number_made a.ours.now a.partners.now a.n h.0 h.1
