-- `link::receive` meets its contract.
use borrow.Author.Tests.{not-true, not-false}
use lib.ListN.{length}
use Rattle.memory.specs.End.{lent}
use Rattle.rules.specs.Receiving.{receive}
use Rattle.link.specs.Resending.{not_formed, well_formed}
use Rattle.link.specs.Received.{unread, is_read, read_heard}
use Rattle.link.proofs.receive.Goals as goal

pub returns-then-not-is_sound : goal.returns-then-not-is_sound
returns-then-not-is_sound c =
    let a = c.args in
    not_formed (receive (length a.out.now) a.text.now) a.h (lent a.sent.now a.received.now a.unanswered.now a.answers.now) a.out.now c.is_sound.ensures (not-true _ c.if-not-is_sound.true-raw)

pub hear-requires : goal.hear-requires
hear-requires c =
    let a = c.args in
    (c.is_sound.ensures.yes (not-false _ c.if-not-is_sound.false-raw), is_read (length a.out.now) a.text.now a.h (lent a.sent.now a.received.now a.unanswered.now a.answers.now) a.out.now _ _ c.read-q.ensures c.in-Read.is)

pub returns-in-Refused : goal.returns-in-Refused
returns-in-Refused c =
    let a = c.args in
    let l = lent a.sent.now a.received.now a.unanswered.now a.answers.now in
    well_formed (receive (length a.out.now) a.text.now) a.h l a.out.now _ l a.out.now (c.is_sound.ensures.yes (not-false _ c.if-not-is_sound.false-raw))
    (unread (length a.out.now) a.text.now a.h l a.out.now _ _ c.read-q.ensures _ _ c.in-Refused.is)

pub returns-in-Read : goal.returns-in-Read
returns-in-Read c =
    let a = c.args in
    let l = lent a.sent.now a.received.now a.unanswered.now a.answers.now in
    well_formed (receive (length a.out.now) a.text.now) a.h l a.out.now _ _ _ (c.is_sound.ensures.yes (not-false _ c.if-not-is_sound.false-raw))
    (read_heard (length a.out.now) a.text.now a.h l a.out.now _ _ c.read-q.ensures c.in-Read.is _ _ _ c.hear.ensures)
