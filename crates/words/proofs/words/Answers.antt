-- `words::words` meets its contract.
use mathlib.Core.Path.{refl, sym}
use native.Mathlib.Omega.{arith}
use borrow.Author.Tests.{not-true, not-false}
use Rattle.scan.specs.Laws.{words_past, words_is, words_skip}
use Rattle.words.proofs.words.Goals as goal

pub returns-then-s-a : goal.returns-then-s-a
returns-then-s-a c = words_is _ _ _ _ _ (search not-false) c.words_ahead-a.ensures (words_past _ _ _ _ c.if-s-a.true)

-- what fits ends within the text
pub returns-then-a-s : goal.returns-then-a-s
returns-then-a-s c = words_is _ _ _ _ _ (search not-false) c.words_ahead-a.ensures (sym (c.words_to.ensures _ refl))

-- the text ends, and more would fit
pub returns : goal.returns
returns c = words_is _ _ _ _ _ (search not-false) c.words_ahead-a.ensures (sym (c.words_to-2.ensures _ (refl, omega (arith, c.if-a-s.false, c.if-s-a.false))))

pub returns-then-not-r : goal.returns-then-not-r
returns-then-not-r c = words_skip _ _ _ (search not-true)
