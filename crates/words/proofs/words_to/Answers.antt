use native.Mathlib.Omega.{arith}
use mathlib.Core.Path.{sym, ◌∙◌}
use borrow.Author.Rules.{rules}
use Rattle.words.specs.Tail.{left_all, left_on, left_gap, left_off, left_none}
use Rattle.words.proofs.words_to.Goals as goal

pub loop-i-preserved-then-is_word : goal.loop-i-preserved-then-is_word
loop-i-preserved-then-is_word c =
    let l = c.loop-i in
    let a = c.args in
    (omega (arith, l.invariant.0), left_on a.more a.s.now a.at a.end a.mid l.i l.m l.invariant.0 l.invariant.1 (search rules) (search rules) (sym c.is_word.ensures ∙ c.if-is_word.true))

pub loop-i-preserved : goal.loop-i-preserved
loop-i-preserved c =
    let l = c.loop-i in
    let a = c.args in
    (omega (arith, l.invariant.0), left_gap a.more a.s.now a.at a.end a.mid l.i l.m l.invariant.0 l.invariant.1 (search rules) (search rules) (sym c.is_word.ensures ∙ c.if-is_word.false) _ c.is_in-blank.ensures c.if-m-blank.true)

pub returns-else-m-blank : goal.returns-else-m-blank
returns-else-m-blank c =
    let l = c.loop-i in
    let a = c.args in
    left_off a.more a.s.now a.at a.end a.mid l.i l.m l.invariant.0 l.invariant.1 (search rules) (search rules) (sym c.is_word.ensures ∙ c.if-is_word.false) _ c.is_in-blank.ensures c.if-m-blank.false

pub returns : goal.returns
returns c =
    let l = c.loop-i in
    let a = c.args in
    left_none a.more a.s.now a.at a.end a.mid l.i l.m l.invariant.0 l.invariant.1 c.loop-i-test.false

pub loop-i-init : goal.loop-i-init
loop-i-init c = let a = c.args in (omega arith, left_all a.more a.s.now a.at a.end a.mid)
