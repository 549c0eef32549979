-- `sending::send_at` meets its contract.
use mathlib.Core.Path.{sym, ap, ◌∙◌}
use Prim.Native.Nat.{◌≤◌}
use native.Mathlib.Omega.{arith}
use borrow.Author.Tests.{not-true, not-false}
use Rattle.flights.specs.Decoded.{flights_in}
use Rattle.deeds.specs.Message.{message_of}
use Rattle.sending.specs.Deciding.{holds, making_most, table_filled}
use Rattle.sending.specs.Sent.{decided_received, sends_far, sends_named, sends_failing, sends_full, sends_no_room, sends}
use Rattle.sending.proofs.send_at.Goals as goal

pub returns-then-too_far_back : goal.returns-then-too_far_back
returns-then-too_far_back c =
    let a = c.args in
    let m = message_of a.w.now a.r in
    sends_far a.i m a.h a.w.now a.sent.now a.received.now a.unanswered.now a.out.now (sym c.too_far_back.ensures ∙ c.if-too_far_back.true)

pub returns-then-x : goal.returns-then-x
returns-then-x c =
    let a = c.args in
    let m = message_of a.w.now a.r in
    sends_named a.i m a.h a.w.now a.sent.now a.received.now a.unanswered.now a.out.now (sym c.too_far_back.ensures ∙ c.if-too_far_back.false) (sym c.requires.6.named ∙ c.if-x.true)

pub returns-then-not-holds : goal.returns-then-not-holds
returns-then-not-holds c =
    let a = c.args in
    let m = message_of a.w.now a.r in
    sends_failing a.i m a.h a.w.now a.sent.now a.received.now a.unanswered.now a.out.now (sym c.too_far_back.ensures ∙ c.if-too_far_back.false) (sym c.requires.6.named ∙ c.if-x.false) (ap holds (sym c.decide-c.ensures) ∙ sym c.holds.ensures ∙ not-true _ c.if-not-holds.true-raw)

pub is_filled-requires : goal.is_filled-requires
is_filled-requires c =
    let n : c.args.x.makers ≤ 16 = omega (arith, c.requires.6.makers, making_most c.args.unanswered.now) in
    (c.requires.1, c.requires.3, n)

pub returns-then-is_filled : goal.returns-then-is_filled
returns-then-is_filled c =
    let a = c.args in
    let m = message_of a.w.now a.r in
    sends_full a.i m a.h a.w.now a.sent.now a.received.now a.unanswered.now a.out.now (sym c.too_far_back.ensures ∙ c.if-too_far_back.false) (sym c.requires.6.named ∙ c.if-x.false) (ap holds (sym c.decide-c.ensures) ∙ sym c.holds.ensures ∙ not-false _ c.if-not-holds.false-raw) (ap (table_filled m a.sent.now) (sym c.requires.6.makers) ∙ sym c.is_filled.ensures ∙ c.if-is_filled.true)

pub returns-then-out-w : goal.returns-then-out-w
returns-then-out-w c =
    let a = c.args in
    let m = message_of a.w.now a.r in
    sends_no_room a.i m a.h a.w.now a.sent.now a.received.now a.unanswered.now a.out.now (sym c.too_far_back.ensures ∙ c.if-too_far_back.false) (sym c.requires.6.named ∙ c.if-x.false) (ap holds (sym c.decide-c.ensures) ∙ sym c.holds.ensures ∙ not-false _ c.if-not-holds.false-raw) (ap (table_filled m a.sent.now) (sym c.requires.6.makers) ∙ sym c.is_filled.ensures ∙ c.if-is_filled.false) c.if-out-w.true

pub hand_over-requires : goal.hand_over-requires
hand_over-requires c =
    let a = c.args in
    let m = message_of a.w.now a.r in
    let h = c.requires in
    (h.0, h.1, h.2, h.4, h.5, c.if-out-w.false, decided_received m (flights_in a.sent.now) (flights_in a.received.now) _ c.decide-c.ensures)

pub returns : goal.returns
returns c =
    let a = c.args in
    let m = message_of a.w.now a.r in
    sends a.i m a.h a.w.now a.sent.now a.received.now a.unanswered.now a.out.now (sym c.too_far_back.ensures ∙ c.if-too_far_back.false) (sym c.requires.6.named ∙ c.if-x.false) (ap holds (sym c.decide-c.ensures) ∙ sym c.holds.ensures ∙ not-false _ c.if-not-holds.false-raw) (ap (table_filled m a.sent.now) (sym c.requires.6.makers) ∙ sym c.is_filled.ensures ∙ c.if-is_filled.false) _ _ _ _ c.requires.3 c.if-out-w.false c.hand_over.ensures
