use borrow.Author.Rules.{rules}
use borrow.Author.Tests.{not-true, not-false}
use Rattle.scan.specs.Laws.{run_skip, exact_fits, exact_whole, exact_short}
use Rattle.scan.proofs.exactly.Goals as goal

pub returns-then-not-r : goal.returns-then-not-r
returns-then-not-r c = run_skip _ _ _ _ _ (search not-true)

pub overflow_add-result : goal.overflow_add-result
overflow_add-result c = let h = exact_fits _ _ _ c.args.r (not-false _ c.if-not-r.false) _ c.all_there.ensures c.if-all_there.true in search rules

pub returns-then-all_there : goal.returns-then-all_there
returns-then-all_there c = exact_whole _ _ _ _ (not-false _ c.if-not-r.false) _ c.all_there.ensures c.if-all_there.true

pub returns : goal.returns
returns c = exact_short _ _ _ _ (not-false _ c.if-not-r.false) _ c.all_there.ensures c.if-all_there.false _ c.reach.ensures
