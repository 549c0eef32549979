use borrow.Author.Rules.{rules}
use mathlib.Core.Path.{◌≡◌, subst}
use Prim.Native.Nat.{ℕ}
use native.Mathlib.Omega.{arith}
use Rattle.scan.specs.Bools.{Decides}
use Rattle.places.specs.Below.{Below, none_below, one_more}
use Rattle.unanswered.specs.Waiting.{FormedAt}
use Rattle.unanswered.proofs.places_formed.Goals as goal

pub loop-i-preserved : goal.loop-i-preserved
loop-i-preserved c =
    let l = c.loop-i in
    let a = c.args in
    (search rules, one_more (FormedAt a.ours.now a.partners.now a.t.now) l.i l.ok _ l.invariant.1 c.is_formed-ok.ensures)

pub returns : goal.returns
returns c =
    let l = c.loop-i in
    let a = c.args in
    let e : l.i ≡ 16 = omega (arith, l.invariant.0, c.loop-i-test.false) in
    subst (λ (n : ℕ). Decides l.ok (Below (FormedAt a.ours.now a.partners.now a.t.now) n)) e l.invariant.1

pub loop-i-init : goal.loop-i-init
loop-i-init c = (search rules, none_below _)

pub is_formed-ok-requires : goal.is_formed-ok-requires
is_formed-ok-requires c = (c.requires, c.loop-i-test.true)
