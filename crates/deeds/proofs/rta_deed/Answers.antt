-- `deeds::rta_deed` meets its contract.
use mathlib.Core.Bool.{true, false}
use Rattle.deeds.specs.Message.{message_of}
use Rattle.deeds.specs.Laws.{retracts, turns}
use Rattle.deeds.proofs.rta_deed.Goals as goal

pub returns-then-in_order : goal.returns-then-in_order
returns-then-in_order c = let a = c.args in retracts (message_of a.w.now a.r) _ c.in_order.ensures c.if-in_order.true

pub returns-then-is_turned : goal.returns-then-is_turned
returns-then-is_turned c =
    let a = c.args in
    turns (message_of a.w.now a.r) _ _ true c.in_order.ensures c.if-in_order.false c.is_turned.ensures c.if-is_turned.true

pub returns : goal.returns
returns c =
    let a = c.args in
    turns (message_of a.w.now a.r) _ _ false c.in_order.ensures c.if-in_order.false c.is_turned.ensures c.if-is_turned.false

pub in_order-requires : goal.in_order-requires
in_order-requires c = c.requires

pub is_turned-requires : goal.is_turned-requires
is_turned-requires c = c.requires
