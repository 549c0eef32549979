-- `packed::unpacked::number_in` meets its contract.
use Rattle.packed.proofs.unpacked.number_in.Goals as goal

pub returns : goal.returns
returns c = λ i. record {
  sender = c.span_in.ensures i;
  receiver = c.span_in-2.ensures i;
  digits = c.span_in-3.ensures i;
}
