use mathlib.Core.Path.{refl, sym, ◌∙◌}
use native.Mathlib.Omega.{arith}
use borrow.Author.Rules.{rules}
use borrow.Author.Tests.{not-true, not-false}
use Rattle.scan.specs.declared.Class.TheVariants.{Two}
use Rattle.scan.specs.Laws.{run_is, run_skip, run_forth, run_blocks}
use Rattle.scan.proofs.run_two.Goals as goal

pub returns-then-not-r : goal.returns-then-not-r
returns-then-not-r c = run_skip _ _ _ _ _ (search not-true)

pub loop-left-init : goal.loop-left-init
loop-left-init c = (search rules, refl)

pub loop-left-preserved : goal.loop-left-preserved
loop-left-preserved c =
    let l = c.loop-left in
    (search rules, sym (run_blocks _ 8 _ _ l.i (search rules) (search rules) (sym c.all_in.ensures ∙ not-false _ c.if-not-all_in.false-raw)) ∙ l.invariant.1)

pub overflow_sub-result : goal.overflow_sub-result
overflow_sub-result c =
    let a = c.args in
    let l = c.loop-left in
    omega (arith, c.reach-j.ensures, run_forth (Two a.a a.z a.b a.y) l.left a.s.now l.i, l.invariant.0)

pub returns : goal.returns
returns c = let l = c.loop-left in run_is _ _ _ _ _ _ _ (search not-false) (c.reach-j.ensures ∙ l.invariant.1) refl
