use mathlib.Core.Path.{refl}
use borrow.Author.Rules.{rules}
use Rattle.words.specs.Blocks.{follows_is, clean_next, clean_end}
use Rattle.words.proofs.words_block.Goals as goal

pub loop-j-init : goal.loop-j-init
loop-j-init c = (search rules, refl)

pub loop-j-preserved : goal.loop-j-preserved
loop-j-preserved c =
    let l = c.loop-j in
    let f = follows_is _ _ _ _ _ c.is_in-w.ensures c.is_in-b.ensures c.is_in-p.ensures in
    (search rules, clean_next _ l.j l.ok _ _ c.loop-j-test.true f l.invariant.1)

pub returns : goal.returns
returns c = let l = c.loop-j in clean_end _ l.j l.ok _ c.loop-j-test.false l.invariant.1
