use borrow.Author.Rules.{rules}
use mathlib.Core.Path.{◌≡◌, subst}
use Prim.Native.Nat.{ℕ}
use native.Mathlib.Omega.{arith}
use Rattle.scan.specs.Bools.{Decides}
use Rattle.places.specs.Below.{Below, none_below, one_more}
use Rattle.unanswered.specs.Waiting.{place, Apart}
use Rattle.unanswered.specs.Formed.{lent_long, on_places}
use Rattle.unanswered.proofs.apart_from_lower.Goals as goal

pub apart-ok-requires : goal.apart-ok-requires
apart-ok-requires c =
    let T = c.args.t.now in
    (lent_long T c.loop-j.j c.requires.0 (omega (arith, c.loop-j-test.true, c.requires.1)), lent_long T c.args.i c.requires.0 c.requires.1)

pub loop-j-preserved : goal.loop-j-preserved
loop-j-preserved c =
    let l = c.loop-j in
    let a = c.args in
    let T = a.t.now in
    (search rules, one_more (λ k. Apart (place k T) (place a.i T)) l.j l.ok _ l.invariant.1 (on_places T l.j a.i c.apart-ok.ensures))

pub returns : goal.returns
returns c =
    let l = c.loop-j in
    let a = c.args in
    let e : l.j ≡ a.i = omega (arith, l.invariant.0, c.loop-j-test.false) in
    subst (λ (n : ℕ). Decides l.ok (Below (λ k. Apart (place k a.t.now) (place a.i a.t.now)) n)) e l.invariant.1

pub loop-j-init : goal.loop-j-init
loop-j-init c = (search rules, none_below _)
