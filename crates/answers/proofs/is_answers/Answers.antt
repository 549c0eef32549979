use borrow.Author.Rules.{rules}
use mathlib.Core.Path.{◌≡◌, subst}
use mathlib.Core.Bool.{true}
use Prim.Native.Nat.{ℕ}
use native.Mathlib.Omega.{arith}
use lib.ListN.{get_or}
use Rattle.scan.specs.Bools.{Decides}
use Rattle.places.specs.Below.{Below, none_below, one_more}
use Rattle.answers.specs.Given.{is_value}
use Rattle.answers.specs.Forgetting.{value_is, wrong_length, answers_are}
use Rattle.answers.proofs.is_answers.Goals as goal

pub loop-i-preserved : goal.loop-i-preserved
loop-i-preserved c =
    let l = c.loop-i in
    let a = c.args.a.now in
    (search rules, one_more (λ k. is_value (get_or a k 0) ≡ true) l.i l.ok _ l.invariant.1 (value_is (get_or a l.i 0)))

pub returns : goal.returns
returns c =
    let l = c.loop-i in
    let a = c.args.a.now in
    let e : l.i ≡ 1000 = omega (arith, l.invariant.0, c.loop-i-test.false) in
    answers_are a l.ok c.if-a-ne1000.false (subst (λ (n : ℕ). Decides l.ok (Below (λ k. is_value (get_or a k 0) ≡ true) n)) e l.invariant.1)

pub returns-then-a-ne1000 : goal.returns-then-a-ne1000
returns-then-a-ne1000 c = wrong_length c.args.a.now c.if-a-ne1000.true

pub loop-i-init : goal.loop-i-init
loop-i-init c = (search rules, none_below _)
