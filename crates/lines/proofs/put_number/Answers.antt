-- `lines::put_number` meets its contract. Assumes nothing.
use Rattle.std.proofs.Common.{sym, ◌∙◌}
use Rattle.splice.specs.Splicing.{same_bytes}
use Rattle.lines.proofs.Decimals.{decimal_std}
use Rattle.lines.proofs.put_number.Goals as goal

pub returns-clause-spliced : goal.returns-clause-spliced
returns-clause-spliced c =
    same_bytes (c.as_bytes.ensures.value ∙ c.format.ensures.text ∙ sym (decimal_std c.args.n c.ranges.n.fits)) c.put.ensures
