-- `unanswered::apart` meets its contract.
use Prim.Native.Nat.{◌+◌, ◌≤◌}
use native.Mathlib.Omega.{arith}
use lib.ListN.{length}
use borrow.Author.Tests.{eq-eqb, ne_eqb}
use Rattle.unanswered.specs.Formed.{used_apart}
use Rattle.places.specs.Bytes.{free_apart, other_free_apart}
use Rattle.unanswered.proofs.apart.Goals as goal

pub returns-then-a-eq0 : goal.returns-then-a-eq0
returns-then-a-eq0 c = let a = c.args in free_apart a.a.now a.b.now (eq-eqb _ _ c.if-a-eq0.true)

pub returns-then-b-eq0 : goal.returns-then-b-eq0
returns-then-b-eq0 c = let a = c.args in other_free_apart a.a.now a.b.now (eq-eqb _ _ c.if-b-eq0.true)

pub returns : goal.returns
returns c =
    let a = c.args in
    used_apart a.a.now a.b.now (ne_eqb _ _ c.if-a-eq0.false) (ne_eqb _ _ c.if-b-eq0.false) _ _ c.number_at.ensures c.number_at-2.ensures

pub number_at-requires : goal.number_at-requires
number_at-requires c = let h : 1 + 2 ≤ length c.args.a.now = omega (arith, c.requires.0) in h

pub number_at-requires-2 : goal.number_at-requires-2
number_at-requires-2 c = let h : 1 + 2 ≤ length c.args.b.now = omega (arith, c.requires.1) in h
