-- `asking::is_old` meets its contract.
use Prim.Native.Nat.{◌+◌, ◌-◌, ◌*◌, ◌≤◌}
use native.Mathlib.Omega.{arith}
use lib.ListN.{length, take, drop}
use Rattle.unanswered.specs.Waiting.{waiting_of, place}
use Rattle.unanswered.specs.Formed.{lent_long}
use Rattle.rules.specs.Sending.{too_old}
use Rattle.sending.specs.Asked.{first_free, first_used, free_has_none, used_has, number_most, lent_number, is_old_lem}
use Rattle.sending.proofs.asking.is_old.Goals as goal

pub overflow_mul-a : goal.overflow_mul-a
overflow_mul-a c = omega (arith, c.requires.1)

pub bounds-u-a : goal.bounds-u-a
bounds-u-a c = omega (arith, c.requires.1, c.requires.0.formed.whole)

pub returns-then-u-a-eq0 : goal.returns-then-u-a-eq0
returns-then-u-a-eq0 c = let a = c.args in free_has_none (too_old a.next) a.u.now a.i (first_free a.u.now a.i c.if-u-a-eq0.true)

pub overflow_add-a : goal.overflow_add-a
overflow_add-a c = omega (arith, c.requires.1)

pub slice_bounds-number_at-end : goal.slice_bounds-number_at-end
slice_bounds-number_at-end c = omega (arith, c.requires.1, c.requires.0.formed.whole)

pub number_at-requires : goal.number_at-requires
number_at-requires c =
    let a = c.args in
    let h : 1 + 2 ≤ length (take (a.i * 1280 + 1280 - a.i * 1280) (drop (a.i * 1280) a.u.now)) = omega (arith, lent_long a.u.now a.i c.requires.0.formed.whole c.requires.1) in
    h

pub overflow_sub-d : goal.overflow_sub-d
overflow_sub-d c =
    let a = c.args in
    omega (arith, lent_number a.u.now a.i _ c.number_at.ensures, number_most c.requires.0 a.i c.requires.1 c.if-u-a-eq0.false)

pub returns : goal.returns
returns c =
    let a = c.args in
    used_has (too_old a.next) a.u.now a.i (first_used a.u.now a.i c.if-u-a-eq0.false) _ (is_old_lem a.next _ (waiting_of (place a.i a.u.now)) (lent_number a.u.now a.i _ c.number_at.ensures))
