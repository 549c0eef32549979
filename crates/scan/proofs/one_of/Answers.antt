use borrow.Author.Rules.{rules}
use mathlib.Core.Path.{sym, ◌∙◌}
use borrow.Author.Tests.{not-true, not-false}
use Rattle.scan.specs.Laws.{run_skip, one_past, one_on, one_off}
use Rattle.scan.proofs.one_of.Goals as goal

pub returns-then-not-r : goal.returns-then-not-r
returns-then-not-r c = run_skip _ _ _ _ _ (search not-true)

pub returns-then-s-at : goal.returns-then-s-at
returns-then-s-at c = one_past _ _ _ (search not-false) c.if-s-at.true

pub returns-then-is_in : goal.returns-then-is_in
returns-then-is_in c = one_on _ _ _ (search not-false) (search rules) (sym c.is_in.ensures ∙ c.if-is_in.true)

pub returns : goal.returns
returns c = one_off _ _ _ (search not-false) (search rules) (sym c.is_in.ensures ∙ c.if-is_in.false)
