use borrow.Author.Rules.{rules}
use borrow.Author.Tests.{not-true, not-false}
use mathlib.Core.Path.{◌≡◌, sym, ap, ◌∙◌, subst}
use Prim.Native.Nat.{ℕ, ◌+◌}
use native.Mathlib.Omega.{arith}
use Rattle.places.specs.Below.{Below}
use Rattle.unanswered.specs.Waiting.{FormedAt}
use Rattle.unanswered.specs.Formed.{one_further}
use Rattle.deeds.specs.Message.{message_of}
use Rattle.rules.specs.Sending.{any_waiting, count_waiting, naming, making}
use Rattle.sending.specs.Asked.{rest_of, rest_all, any_on_further, any_end, count_all, count_one, count_not, count_end}
use Rattle.sending.specs.Survey.{not_surveyed, one_broken, surveyed}
use Rattle.sending.proofs.survey.Goals as goal
use Rattle.sending.proofs.survey.Goals.{then-x, else-x}

pub returns-then-u-ne20480 : goal.returns-then-u-ne20480
returns-then-u-ne20480 c =
    let a = c.args in
    not_surveyed a.ours.now a.partners.now (message_of a.w.now a.r) a.u.now _ _ (λ f. c.if-u-ne20480.true f.whole)

pub loop-i-init : goal.loop-i-init
loop-i-init c =
    let a = c.args in
    (search rules, search rules, λ k h. absurd (omega (arith, h)), ap (any_waiting (naming (message_of a.w.now a.r))) (rest_all a.u.now), count_all making a.u.now)

pub see-x-requires : goal.see-x-requires
see-x-requires c = (c.if-u-ne20480.false, c.loop-i-test.true, c.requires)

pub returns-then-not-x : goal.returns-then-not-x
returns-then-not-x c =
    let l = c.loop-i in
    let a = c.args in
    one_broken a.ours.now a.partners.now (message_of a.w.now a.r) a.u.now _ _ l.i c.see-x.result c.loop-i-test.true c.see-x.ensures (not-true _ c.if-not-x.true)

pub loop-i-preserved : goal.loop-i-preserved
loop-i-preserved c =
    let l = c.loop-i in
    let h = c.loop-i-test.true in
    let a = c.args in
    let m = message_of a.w.now a.r in
    let U = a.u.now in
    let s = c.see-x.ensures in
    let y = not-false _ c.if-not-x.false in
    let on : ℕ → ℕ = λ k. k + count_waiting making (rest_of (l.i + 1) U) in
    let formed = one_further (FormedAt a.ours.now a.partners.now U) l.i l.invariant.2 (s.formed.yes y) in
    let any = any_on_further (naming m) l.i U _ l.named c.see-x.result.named h (s.named y) l.invariant.3 in
    elim c.if-x.branch [
      | then-x w ↦ (search rules, omega (arith, w.makers-is, l.invariant.1), formed, any, count_one making l.i _ l.makers U h (sym (s.makes y) ∙ w.if-x.true) l.invariant.4 ∙ ap on (sym w.makers-is))
      | else-x w ↦ (search rules, omega (arith, w.makers-is, l.invariant.1), formed, any, count_not making l.i _ l.makers U h (sym (s.makes y) ∙ w.if-x.false) l.invariant.4 ∙ ap on (sym w.makers-is))
    ]

pub returns : goal.returns
returns c =
    let l = c.loop-i in
    let a = c.args in
    let m = message_of a.w.now a.r in
    let U = a.u.now in
    let e : l.i ≡ 16 = omega (arith, l.invariant.0, c.loop-i-test.false) in
    surveyed a.ours.now a.partners.now m U l.named l.makers c.if-u-ne20480.false (subst (Below (FormedAt a.ours.now a.partners.now U)) e l.invariant.2)
    (any_end (naming m) l.i U _ l.named c.loop-i-test.false l.invariant.3) (count_end making l.i _ l.makers U c.loop-i-test.false l.invariant.4)
