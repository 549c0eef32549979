use Rattle.std.proofs.Common.{◌≡◌, ◌∙◌, refl, ap, arith, List, ℕ, ◌+◌, get_or}
use lib.ListN.{set}
use Rattle.splice.specs.Splicing.{paste_all, paste_more}
use Rattle.splice.proofs.put.Goals as goal

pub loop-i-preserved : goal.loop-i-preserved
loop-i-preserved c =
    let l = c.loop-i in
    let a = c.args in
    ap (λ (x : List ℕ). set x (a.at + l.i) (get_or a.src.now l.i 0)) l.invariant ∙ paste_more a.d.now a.at a.src.now l.i (omega arith) c.loop-i-test.true

pub returns : goal.returns
returns c = record { bytes = c.loop-i.invariant ∙ paste_all _ _ _ _ (omega arith); place = refl }
