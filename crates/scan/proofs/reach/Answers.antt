use mathlib.Core.Path.{refl, sym, ◌∙◌}
use borrow.Author.Rules.{rules}
use borrow.Author.Tests.{not-true, not-false}
use Rattle.scan.specs.Laws.{run_none, run_past, run_off, run_on}
use Rattle.scan.proofs.reach.Goals as goal

pub loop-left-init : goal.loop-left-init
loop-left-init c = refl

pub returns-then-s-i : goal.returns-then-s-i
returns-then-s-i c = sym (run_past _ _ _ _ c.if-s-i.true) ∙ c.loop-left.invariant

pub returns-then-not-in_two : goal.returns-then-not-in_two
returns-then-not-in_two c = sym (run_off _ _ _ _ (search rules) (sym c.in_two.ensures ∙ not-true _ c.if-not-in_two.true-raw)) ∙ c.loop-left.invariant

pub loop-left-preserved : goal.loop-left-preserved
loop-left-preserved c = sym (run_on _ _ _ _ (search rules) (search rules) (sym c.in_two.ensures ∙ not-false _ c.if-not-in_two.false-raw)) ∙ c.loop-left.invariant

pub returns : goal.returns
returns c = sym (run_none _ _ _ _ c.loop-left-test.false) ∙ c.loop-left.invariant
