-- `unanswered::text` meets its contract.
use borrow.Author.Rules.{rules}
use Prim.Native.Nat.{◌+◌, ◌-◌, ◌*◌, ◌≤◌}
use native.Mathlib.Omega.{arith}
use lib.ListN.{length, take, drop}
use Rattle.unanswered.specs.Formed.{lent_long, lent_text, lent_short}
use Rattle.unanswered.proofs.text.Goals as goal

pub number_at-e-requires : goal.number_at-e-requires
number_at-e-requires c =
    let a = c.args in
    let h : 3 + 2 ≤ length (take (a.i * 1280 + 1280 - a.i * 1280) (drop (a.i * 1280) a.t.now)) = omega (arith, lent_long a.t.now a.i c.requires.0 c.requires.1) in
    h

pub overflow_add-e : goal.overflow_add-e
overflow_add-e c = let a = c.args in search (rules, lent_short a.t.now a.i _ c.number_at-e.ensures c.requires.2)

pub slice_bounds-result-end : goal.slice_bounds-result-end
slice_bounds-result-end c = let a = c.args in search (rules, lent_short a.t.now a.i _ c.number_at-e.ensures c.requires.2, lent_long a.t.now a.i c.requires.0 c.requires.1)

pub returns : goal.returns
returns c = let a = c.args in lent_text a.t.now a.i _ c.number_at-e.ensures
