-- `packed::head_bytes::put_head` meets its contract.
use borrow.Author.Rules.{rules}
use mathlib.Core.Path.{◌≡◌}
use native.Mathlib.Omega.{arith}
use lib.ListN.{length}
use Rattle.splice.specs.Splicing.{kept_length}
use Rattle.packed.specs.Written.{head_put}
use Rattle.packed.proofs.head_bytes.put_head.Goals as goal

pub slice_bounds-put-end : goal.slice_bounds-put-end
slice_bounds-put-end c = search rules

pub slice_bounds-put-end-2 : goal.slice_bounds-put-end-2
slice_bounds-put-end-2 c = search rules

pub put-requires : goal.put-requires
put-requires c =
    let m : length c.args.h.ours ≡ 4 = search rules in
    omega (arith, m, c.requires)

pub put-requires-2 : goal.put-requires-2
put-requires-2 c =
    let m : length c.args.h.ours ≡ 4 = search rules in
    let n : length c.args.h.partners ≡ 4 = search rules in
    let k = kept_length c.put.ensures (omega (arith, c.put.ensures.place, c.requires, m)) in
    omega (arith, n, k, c.requires)

pub returns : goal.returns
returns c =
    let m : length c.args.h.ours ≡ 4 = search rules in
    let n : length c.args.h.partners ≡ 4 = search rules in
    head_put c.args.h m n _ _ _ _ _ c.requires c.put.ensures c.put-2.ensures c.put_one.ensures c.put_one-2.ensures
