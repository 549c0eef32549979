-- `arrivals::hear_on` meets its contract.
use Prim.Native.Nat.{ℕ, ◌<◌}
use mathlib.Core.Path.{refl, sym, subst, ◌∙◌}
use native.Mathlib.Omega.{arith}
use lib.Seq.{length-take-le}
use Rattle.deeds.specs.Message.{message_of}
use Rattle.flights.specs.Decoded.{flights_in}
use Rattle.excerpt.specs.Sizes.{number_small}
use Rattle.deeds.specs.Deeds.{deed_of}
use Rattle.deeds.specs.Applying.{decision}
use Rattle.rules.specs.Answers.{answer_to}
use Rattle.rules.specs.Laws.{answer_small}
use Rattle.hearing.specs.Hearing.{laid_fits, does_none, does_room}
use Rattle.hearing.proofs.arrivals.hear_on.Goals as goal

pub lay_answer-k-requires : goal.lay_answer-k-requires
lay_answer-k-requires c =
    let h = c.requires in
    let a = c.args in
    let m = message_of a.w.now a.r in
    (h.0, omega arith, omega (arith, subst (λ (x : ℕ). x < 100) (sym (c.answer_to-v.ensures ∙ (λ j. answer_to (c.deed_of.ensures j) (c.decide-c.ensures j)))) (answer_small (deed_of m) (decision m (flights_in a.table.now)))))

pub returns-then-room-k : goal.returns-then-room-k
returns-then-room-k c =
    does_none (c.answer_to-v.ensures ∙ (λ j. answer_to (c.deed_of.ensures j) (c.decide-c.ensures j))) c.lay_answer-k.ensures c.if-room-k.true refl

pub slice_bounds-reply-end : goal.slice_bounds-reply-end
slice_bounds-reply-end c =
    sym (length-take-le _ _ c.lay_answer-k.ensures.within)

pub reply-requires : goal.reply-requires
reply-requires c =
    let h = c.requires in
    let a = c.args in
    (h.2, h.3, number_small a.w.now a.r h.0, laid_fits _ c.lay_answer-k.ensures c.if-room-k.false)

pub returns : goal.returns
returns c =
    does_room (c.answer_to-v.ensures ∙ (λ j. answer_to (c.deed_of.ensures j) (c.decide-c.ensures j))) c.lay_answer-k.ensures c.if-room-k.false c.follow.ensures c.reply.ensures
