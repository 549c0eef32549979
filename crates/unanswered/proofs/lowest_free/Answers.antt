use borrow.Author.Rules.{rules}
use mathlib.Core.Path.{sym, ap, ◌∙◌}
use Prim.Native.Nat.{ℕ}
use lib.Dec.{eqb}
use borrow.Author.Tests.{eq-eqb, ne_eqb}
use Rattle.places.specs.Search.{from_first, first_here, first_next, first_none}
use Rattle.unanswered.specs.Waiting.{place}
use Rattle.unanswered.specs.Formed.{first_at}
use Rattle.places.specs.Bytes.{free}
use Rattle.unanswered.proofs.lowest_free.Goals as goal

pub returns-then-t-i-eq0 : goal.returns-then-t-i-eq0
returns-then-t-i-eq0 c =
    let l = c.loop-i in
    let T = c.args.t.now in
    sym (l.invariant.1 ∙ first_here (λ k. free (place k T)) 16 l.i c.loop-i-test.true (ap (λ (x : ℕ). eqb x 0) (first_at T l.i) ∙ eq-eqb _ _ c.if-t-i-eq0.true))

pub loop-i-preserved : goal.loop-i-preserved
loop-i-preserved c =
    let l = c.loop-i in
    let T = c.args.t.now in
    (search rules, l.invariant.1 ∙ first_next (λ k. free (place k T)) 16 l.i c.loop-i-test.true (ap (λ (x : ℕ). eqb x 0) (first_at T l.i) ∙ ne_eqb _ _ c.if-t-i-eq0.false))

pub returns : goal.returns
returns c = let l = c.loop-i in sym (l.invariant.1 ∙ first_none (λ k. free (place k c.args.t.now)) 16 l.i c.loop-i-test.false)

pub loop-i-init : goal.loop-i-init
loop-i-init c = (search rules, from_first _ _)
