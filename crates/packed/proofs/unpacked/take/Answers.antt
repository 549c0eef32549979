-- `packed::unpacked::take` meets its contract.
use Rattle.packed.specs.Packed.{record_by}
use Rattle.packed.proofs.unpacked.take.Goals as goal

pub returns : goal.returns
unfolding record_by
returns c = λ i. record {
  kind = c.kind_of-kind.ensures i;
  parts = c.parts_in-parts.ensures i;
  figures = c.figures_in-figures.ensures i;
}
