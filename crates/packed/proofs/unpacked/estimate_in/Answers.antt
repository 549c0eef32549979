-- `packed::unpacked::estimate_in` meets its contract.
use Rattle.packed.proofs.unpacked.estimate_in.Goals as goal

pub returns : goal.returns
returns c = λ i. record {
  point = c.span_in.ensures i;
  over = c.span_in-2.ensures i;
  crossing = c.span_in-3.ensures i;
  second = c.span_in-4.ensures i;
  sense = c.span_in-5.ensures i;
}
