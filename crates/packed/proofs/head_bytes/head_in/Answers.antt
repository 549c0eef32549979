-- `packed::head_bytes::head_in` meets its contract.
use native.Mathlib.Omega.{arith}
use Rattle.packed.specs.Head.{head_of, bytes_back}
use Rattle.packed.proofs.head_bytes.head_in.Goals as goal

pub returns : goal.returns
returns c =
    let g = c.shared_slice_known-9-1.given in
    (head_of c.args.b.now _ _ c.requires c.figure_in.ensures c.figure_in-2.ensures, bytes_back c.args.b.now c.requires (omega (arith, g 8)) (omega (arith, g 9)) (omega (arith, g 10)) (omega (arith, g 11)))
