-- `arrivals::hear_again` meets its contract.
use mathlib.Core.Path.{sym, ap, ◌∙◌}
use Rattle.rules.specs.Answers.{is_offering}
use lib.Seq.{length-take-le}
use Rattle.deeds.specs.Message.{message_of}
use Rattle.hearing.specs.Hearing.{again_stale, again_given}
use Rattle.hearing.proofs.arrivals.hear_again.Goals as goal

pub returns-then-v-is_offering : goal.returns-then-v-is_offering
returns-then-v-is_offering c =
    let a = c.args in
    again_stale _ a.v (message_of a.w.now a.r) a.h a.out.now _ (c.is_offering.ensures ∙ ap is_offering c.deed_of.ensures) c.if-v-is_offering.true

pub slice_bounds-give-end : goal.slice_bounds-give-end
slice_bounds-give-end c =
    sym (length-take-le _ _ c.lay_answer-n.ensures.within)

pub returns : goal.returns
returns c =
    let a = c.args in
    again_given a.v _ (message_of a.w.now a.r) a.h _ _ a.out.now _ _ _ (c.is_offering.ensures ∙ ap is_offering c.deed_of.ensures) c.if-v-is_offering.false c.lay_answer-n.ensures c.give.ensures
