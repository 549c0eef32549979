-- `list::broke` meets its contract. Assumes nothing.
use mathlib.Core.Path.{ap, ◌∙◌}
use mathlib.Core.List.{List, ◌++◌}
use Prim.Native.Nat.{ℕ}
use native.Mathlib.Omega.{arith}
use Rattle.lines.specs.Listing.{broke_off}
use Rattle.splice.specs.Splicing.{then, front, behind}
use Rattle.list.proofs.Progressing.{broken_off}
use Rattle.list.proofs.broke.Goals as goal

pub returns : goal.returns
unfolding broke_off
returns c =
    let w = then c.put_labelled-a.ensures.spliced c.put.ensures (omega arith) in
    λ line. record {
      fits = omega arith;
      rest = behind w (omega arith);
      none = λ h. absurd (omega arith);
      ends = λ xs ys a h. ap (λ (s : List ℕ). ys ++ s) (front w (omega arith)) ∙ broken_off xs ys line c.args.tally a;
    }
