-- `asking::is_filled` meets its contract.
use native.Mathlib.Omega.{arith}
use borrow.Author.Tests.{not-true, not-false}
use Rattle.deeds.specs.Message.{message_of}
use Rattle.sending.specs.Deciding.{in_use_most, never_filled, filled_by}
use Rattle.sending.proofs.asking.is_filled.Goals as goal

pub returns-then-not-makes : goal.returns-then-not-makes
returns-then-not-makes c =
    let a = c.args in
    never_filled (message_of a.w.now a.r) a.sent.now a.makers _ _ c.deed_of.ensures c.makes.ensures (not-true _ c.if-not-makes.true-raw)

pub overflow_add-result : goal.overflow_add-result
overflow_add-result c =
    omega (arith, c.used.ensures, in_use_most c.args.sent.now, c.requires.2, c.requires.1.most)

pub returns : goal.returns
returns c =
    let a = c.args in
    filled_by (message_of a.w.now a.r) a.sent.now a.makers _ _ c.deed_of.ensures c.makes.ensures (not-false _ c.if-not-makes.false-raw) _ c.used.ensures
