-- `link::hear` meets its contract.
use borrow.Author.Tests.{not-true, not-false}
use Rattle.memory.specs.End.{lent}
use Rattle.deeds.specs.Message.{message_of}
use Rattle.link.specs.Received.{misdirected, answer_heard, message_heard}
use Rattle.link.proofs.hear.Goals as goal

pub returns-then-not-directed : goal.returns-then-not-directed
returns-then-not-directed c =
    let a = c.args in
    misdirected _ (message_of a.text.now a.r) a.h (lent a.sent.now a.received.now a.unanswered.now a.answers.now) a.out.now _ c.directed.ensures (not-true _ c.if-not-directed.true-raw)

pub returns-then-is_answer : goal.returns-then-is_answer
returns-then-is_answer c =
    let a = c.args in
    answer_heard _ (message_of a.text.now a.r) a.h (lent a.sent.now a.received.now a.unanswered.now a.answers.now) a.out.now _ _ c.directed.ensures (not-false _ c.if-not-directed.false-raw) c.is_answer.ensures c.if-is_answer.true _ _ _
    (c.hear_answer.ensures a.received.now a.answers.now a.out.now c.requires.0)

pub returns : goal.returns
returns c =
    let a = c.args in
    message_heard _ (message_of a.text.now a.r) a.h (lent a.sent.now a.received.now a.unanswered.now a.answers.now) a.out.now _ _ c.directed.ensures (not-false _ c.if-not-directed.false-raw) c.is_answer.ensures c.if-is_answer.false _ _ _
    c.hear_message.ensures
