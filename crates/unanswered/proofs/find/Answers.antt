use borrow.Author.Rules.{rules}
use mathlib.Core.Path.{sym, ap, ◌∙◌}
use Rattle.places.specs.Search.{from_first, first_here, first_next, first_none}
use Rattle.unanswered.specs.Waiting.{place, has_number}
use Rattle.unanswered.specs.Formed.{lent, lent_long}
use Rattle.unanswered.proofs.find.Goals as goal

pub has_number-requires : goal.has_number-requires
has_number-requires c = lent_long c.args.t.now c.loop-i.i c.requires c.loop-i-test.true

pub returns-then-has_number : goal.returns-then-has_number
returns-then-has_number c =
    let l = c.loop-i in
    let a = c.args in
    let T = a.t.now in
    sym (l.invariant.1 ∙ first_here (λ k. has_number a.n (place k T)) 16 l.i c.loop-i-test.true (ap (has_number a.n) (sym (lent T l.i)) ∙ sym c.has_number.ensures ∙ c.if-has_number.true))

pub loop-i-preserved : goal.loop-i-preserved
loop-i-preserved c =
    let l = c.loop-i in
    let a = c.args in
    let T = a.t.now in
    (search rules, l.invariant.1 ∙ first_next (λ k. has_number a.n (place k T)) 16 l.i c.loop-i-test.true (ap (has_number a.n) (sym (lent T l.i)) ∙ sym c.has_number.ensures ∙ c.if-has_number.false))

pub returns : goal.returns
returns c =
    let l = c.loop-i in
    let a = c.args in
    sym (l.invariant.1 ∙ first_none (λ k. has_number a.n (place k a.t.now)) 16 l.i c.loop-i-test.false)

pub loop-i-init : goal.loop-i-init
loop-i-init c = (search rules, from_first _ _)
