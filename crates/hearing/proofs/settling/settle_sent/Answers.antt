-- `hearing::settling::settle_sent` meets its contract.
use Rattle.rules.specs.Reads.{message_in}
use Rattle.hearing.specs.Settles.{sent_applied, sent_left}
use Rattle.hearing.proofs.settling.settle_sent.Goals as goal

pub returns-then-is_good-is_acceptance : goal.returns-then-is_good-is_acceptance
returns-then-is_good-is_acceptance c =
    let a = c.args in
    sent_applied a.k a.d (message_in a.w.now) a.sent.now c.requires.2 c.is_good.ensures c.is_acceptance.ensures c.if-is_good-is_acceptance.true c.apply_kept.ensures

pub returns-else-is_good-is_acceptance : goal.returns-else-is_good-is_acceptance
returns-else-is_good-is_acceptance c =
    let a = c.args in
    sent_left a.k a.d (message_in a.w.now) a.sent.now c.requires.0 c.requires.2 c.is_good.ensures c.is_acceptance.ensures c.if-is_good-is_acceptance.false
