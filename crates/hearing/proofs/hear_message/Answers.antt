-- `hearing::hear_message` meets its contract.
use mathlib.Core.Path.{sym, ◌∙◌}
use native.Mathlib.Omega.{arith}
use lib.ListN.{length}
use Rattle.deeds.specs.Message.{message_of}
use Rattle.excerpt.specs.Sizes.{number_small}
use Rattle.memory.specs.End.{lent, end_of}
use Rattle.hearing.specs.Standings.{kept_small, new_comes, old_first, old_again, stale_comes}
use Rattle.hearing.proofs.hear_message.Goals as goal

pub hear_first-requires : goal.hear_first-requires
hear_first-requires c =
    c.requires

pub bounds-answers-n : goal.bounds-answers-n
bounds-answers-n c =
    let h = c.requires in
    let a = c.args in
    omega (arith, number_small a.w.now a.r h.1, h.0.answers.whole)

pub hear_first-requires-then-v-eq0 : goal.hear_first-requires-then-v-eq0
hear_first-requires-then-v-eq0 c =
    c.requires

pub returns-then-v-eq0 : goal.returns-then-v-eq0
returns-then-v-eq0 c =
    let a = c.args in
    let m = message_of a.w.now a.r in
    let e = lent a.sent.now a.received.now a.unanswered.now a.answers.now in
    old_first _ (length a.out.now) m (end_of a.h e) a.h e a.out.now _ _ _ (sym c.judge-s.ensures ∙ c.in-Old.is) c.if-v-eq0.true c.hear_first-then-v-eq0.ensures

pub hear_again-requires : goal.hear_again-requires
hear_again-requires c =
    let h = c.requires in
    let a = c.args in
    (h.1, kept_small a.answers.now a.r.figures.number h.0.answers (number_small a.w.now a.r h.1))

pub returns-in-New : goal.returns-in-New
returns-in-New c =
    let a = c.args in
    let m = message_of a.w.now a.r in
    let e = lent a.sent.now a.received.now a.unanswered.now a.answers.now in
    new_comes _ (length a.out.now) m (end_of a.h e) a.h e a.out.now _ _ _ (sym c.judge-s.ensures ∙ c.in-New.is) c.hear_first.ensures

pub returns-else-v-eq0 : goal.returns-else-v-eq0
returns-else-v-eq0 c =
    let h = c.requires in
    let a = c.args in
    let m = message_of a.w.now a.r in
    let e = lent a.sent.now a.received.now a.unanswered.now a.answers.now in
    old_again _ (length a.out.now) m (end_of a.h e) a.h e a.out.now _ _ _ (sym c.judge-s.ensures ∙ c.in-Old.is) c.if-v-eq0.false (c.hear_again.ensures e h.0)

pub returns-in-Stale : goal.returns-in-Stale
returns-in-Stale c =
    let a = c.args in
    let m = message_of a.w.now a.r in
    let e = lent a.sent.now a.received.now a.unanswered.now a.answers.now in
    stale_comes _ (length a.out.now) m (end_of a.h e) a.h e a.out.now (sym c.judge-s.ensures ∙ c.in-Stale.is)
