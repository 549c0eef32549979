-- `hearing::hear_first` meets its contract.
use mathlib.Core.Path.{sym, ap, ◌∙◌}
use Rattle.deeds.specs.Message.{message_of}
use Rattle.rules.specs.Answers.{is_acceptance}
use Rattle.hearing.specs.Hearing.{plan_comes}
use Rattle.hearing.proofs.hear_first.Goals as goal

pub hear_acceptance-requires : goal.hear_acceptance-requires
hear_acceptance-requires c =
    let h = c.requires in
    let f = h.0 in
    (h.1, f.sent, f.unanswered, f.answers.whole, f.head.highest, (ap is_acceptance (sym c.deed_of.ensures) ∙ sym c.is_acceptance.ensures ∙ c.if-is_acceptance.true))

pub returns-then-is_acceptance : goal.returns-then-is_acceptance
returns-then-is_acceptance c =
    c.hear_acceptance.ensures c.args.received.now c.requires.0

pub hear_on-requires : goal.hear_on-requires
hear_on-requires c =
    let h = c.requires in
    let f = h.0 in
    (h.1, f.received, f.answers.whole, f.head.highest)

pub returns : goal.returns
returns c =
    let h = c.requires in
    let a = c.args in
    let m = message_of a.w.now a.r in
    plan_comes a.h a.fresh m a.sent.now a.received.now a.unanswered.now a.answers.now a.out.now _ _ _ _ h.0 (ap is_acceptance (sym c.deed_of.ensures) ∙ sym c.is_acceptance.ensures ∙ c.if-is_acceptance.false) c.hear_on.ensures
