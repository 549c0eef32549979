use mathlib.Core.Path.{sym, ◌∙◌}
use native.Mathlib.Omega.{arith}
use lib.ListN.{length-take, length-drop}
use borrow.Author.Rules.{rules}
use borrow.Author.Tests.{not-false}
use Rattle.words.specs.Blocks.{block, first}
use Rattle.words.proofs.words_ahead.Goals as goal

pub loop-left-init : goal.loop-left-init
loop-left-init c = (search rules, first _ _ _ (search rules) (search rules) (sym c.is_in.ensures ∙ not-false _ c.if-not-is_in.false-raw))

pub words_block-requires : goal.words_block-requires
words_block-requires c = simp (length-take, length-drop) (omega arith)

pub loop-left-preserved : goal.loop-left-preserved
loop-left-preserved c =
    let l = c.loop-left in
    (search rules, sym (block _ l.j l.left (search rules) (search rules) (sym c.words_block.ensures ∙ not-false _ c.if-not-words_block.false-raw)) ∙ l.invariant.1)

pub returns : goal.returns
returns c = rw c.is_in-blank.ensures c.loop-left.invariant.1
