use borrow.Author.Rules.{rules}
use mathlib.Core.Path.{sym, ap, ◌∙◌}
use Rattle.rules.specs.Sending.{any_waiting, too_old}
use Rattle.sending.specs.Asked.{rest_all, any_here, any_next, any_none}
use Rattle.sending.proofs.asking.too_far_back.Goals as goal

pub loop-i-init : goal.loop-i-init
loop-i-init c = let a = c.args in (search rules, ap (any_waiting (too_old a.next)) (rest_all a.u.now))

pub returns-then-is_old : goal.returns-then-is_old
returns-then-is_old c =
    let l = c.loop-i in
    let a = c.args in
    sym (l.invariant.1 ∙ any_here (too_old a.next) l.i a.u.now c.loop-i-test.true (sym c.is_old.ensures ∙ c.if-is_old.true))

pub loop-i-preserved : goal.loop-i-preserved
loop-i-preserved c =
    let l = c.loop-i in
    let a = c.args in
    (search rules, l.invariant.1 ∙ any_next (too_old a.next) l.i a.u.now c.loop-i-test.true (sym c.is_old.ensures ∙ c.if-is_old.false))

pub returns : goal.returns
returns c =
    let l = c.loop-i in
    let a = c.args in
    sym (l.invariant.1 ∙ any_none (too_old a.next) l.i a.u.now c.loop-i-test.false)
