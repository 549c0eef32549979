use mathlib.Core.Path.{sym, ◌∙◌}
use borrow.Author.Rules.{rules}
use Rattle.scan.specs.Laws.{lit_again, lit_end}
use Rattle.scan.proofs.lit.Goals as goal

pub loop-i-preserved : goal.loop-i-preserved
loop-i-preserved c = (search rules, lit_again _ _ _ _ _ _ c.loop-i-test.true c.byte-q.ensures c.loop-i.invariant.1)

pub returns : goal.returns
returns c = sym (lit_end _ _ _ _ c.loop-i-test.false) ∙ c.loop-i.invariant.1
