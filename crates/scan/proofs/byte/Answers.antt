use borrow.Author.Rules.{rules}
use borrow.Author.Tests.{not-true, not-false}
use Rattle.scan.specs.Laws.{run_skip, is_byte, no_byte, one_past, one_on, one_off}
use Rattle.scan.proofs.byte.Goals as goal

pub returns-then-not-r : goal.returns-then-not-r
returns-then-not-r c = run_skip _ _ _ _ _ (search not-true)

pub returns-then-s-at : goal.returns-then-s-at
returns-then-s-at c = one_past _ _ _ (search not-false) c.if-s-at.true

pub returns-then-s-at-2 : goal.returns-then-s-at-2
returns-then-s-at-2 c = one_on _ _ _ (search not-false) (search rules) (is_byte _ _ c.if-s-at-2.true)

pub returns : goal.returns
returns c = one_off _ _ _ (search not-false) (search rules) (no_byte _ _ c.if-s-at-2.false)
