-- `beginning::set_up` meets its contract.
use borrow.Author.Tests.{not-true, not-false}
use Rattle.memory.specs.End.{lent}
use Rattle.link.specs.Beginning.{names_long, refused_sizes, refused_names, set_up_done}
use Rattle.link.proofs.beginning.set_up.Goals as goal

pub returns-then-not-are_sizes : goal.returns-then-not-are_sizes
returns-then-not-are_sizes c =
    let a = c.args in
    refused_sizes a.ours.now a.partners.now a.h (lent a.sent.now a.received.now a.unanswered.now a.answers.now) c.are_sizes.ensures (not-true _ c.if-not-are_sizes.true-raw)

pub returns-then-not-are_names : goal.returns-then-not-are_names
returns-then-not-are_names c =
    let a = c.args in
    refused_names a.ours.now a.partners.now a.h (lent a.sent.now a.received.now a.unanswered.now a.answers.now) (c.are_sizes.ensures.yes (not-false _ c.if-not-are_sizes.false-raw)) c.are_names.ensures (not-true _ c.if-not-are_names.true-raw)

pub first_head-requires : goal.first_head-requires
first_head-requires c =
    names_long (c.are_names.ensures.yes (not-false _ c.if-not-are_names.false-raw))

pub returns : goal.returns
returns c =
    let a = c.args in
    set_up_done a.ours.now a.partners.now a.h c.first_head.result a.sent.now a.received.now a.unanswered.now a.answers.now _ _ _ _
    (c.are_sizes.ensures.yes (not-false _ c.if-not-are_sizes.false-raw)) (c.are_names.ensures.yes (not-false _ c.if-not-are_names.false-raw)) c.first_head.ensures c.clear.ensures c.clear-2.ensures c.clear-3.ensures c.clear-4.ensures
