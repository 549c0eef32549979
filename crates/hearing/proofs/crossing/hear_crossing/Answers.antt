-- `crossing::hear_crossing` meets its contract.
use mathlib.Core.List.{List}
use Prim.Native.Nat.{ℕ, ◌<◌}
use mathlib.Core.Path.{refl, sym, ap, subst, ◌∙◌}
use native.Mathlib.Omega.{arith}
use lib.Seq.{length-take-le}
use Rattle.reader.specs.Reading.{Judged}
use Rattle.message.specs.declared.Verdict.TheVariants.{Read}
use Rattle.unanswered.specs.Waiting.{waiting_of, place}
use Rattle.deeds.specs.Message.{message_of}
use Rattle.flights.specs.Decoded.{flights_in, table_of}
use Rattle.excerpt.specs.Sizes.{number_small}
use Rattle.deeds.specs.Deeds.{deed_of}
use Rattle.deeds.specs.Applying.{decision, applied}
use Rattle.rules.specs.Laws.{answer_small}
use Rattle.hearing.specs.Hearing.{laid_fits, does_none, does_room}
use Rattle.hearing.specs.Crosses.{Crosses, crossing_answer}
use Rattle.hearing.proofs.crossing.hear_crossing.Goals as goal

pub text-t-requires : goal.text-t-requires
text-t-requires c =
    let h = c.requires in
    (h.2, h.3, h.4)

pub decide-first-requires : goal.decide-first-requires
decide-first-requires c =
    let h = c.requires in
    let a = c.args in
    subst (λ (x : List ℕ). Judged x Read a.q) (sym c.text-t.ensures) h.7

pub lay_answer-n-requires : goal.lay_answer-n-requires
lay_answer-n-requires c =
    let h = c.requires in
    let a = c.args in
    let m = message_of a.w.now a.r in
    let t = (waiting_of (place a.i a.unanswered.now)).text in
    let l = flights_in a.sent.now in
    (h.0, omega arith, subst (λ (x : ℕ). x < 100) (sym (crossing_answer _ t a.q m l _ _ _ _ c.text-t.ensures h.8 c.decide-first.ensures c.decide_after-c.ensures c.deed_of.ensures c.answer_to-v.ensures)) (answer_small (deed_of m) (decision m (applied (message_of t a.q) l))))

pub returns-then-out-n : goal.returns-then-out-n
returns-then-out-n c =
    let h = c.requires in
    let a = c.args in
    let m = message_of a.w.now a.r in
    let t = (waiting_of (place a.i a.unanswered.now)).text in
    let l = flights_in a.sent.now in
    does_none (crossing_answer _ t a.q m l _ _ _ _ c.text-t.ensures h.8 c.decide-first.ensures c.decide_after-c.ensures c.deed_of.ensures c.answer_to-v.ensures) c.lay_answer-n.ensures c.if-out-n.true (refl, refl)

pub follow_both-requires : goal.follow_both-requires
follow_both-requires c =
    let h = c.requires in
    let a = c.args in
    let m = message_of a.w.now a.r in
    (subst (λ (x : List ℕ). Judged x Read a.q) (sym c.text-t.ensures) h.7, h.0, h.1, subst (λ (x : List ℕ). Crosses (message_of x a.q) m) (sym c.text-t.ensures) h.8, c.decide-first.ensures, c.decide_after-c.ensures)

pub free-requires : goal.free-requires
free-requires c =
    let h = c.requires in
    (h.2, h.3)

pub slice_bounds-reply-end : goal.slice_bounds-reply-end
slice_bounds-reply-end c =
    sym (length-take-le _ _ c.lay_answer-n.ensures.within)

pub reply-requires : goal.reply-requires
reply-requires c =
    let h = c.requires in
    let a = c.args in
    (h.5, h.6, number_small a.w.now a.r h.0, laid_fits _ c.lay_answer-n.ensures c.if-out-n.false)

pub returns : goal.returns
returns c =
    let h = c.requires in
    let a = c.args in
    let m = message_of a.w.now a.r in
    let t = (waiting_of (place a.i a.unanswered.now)).text in
    let l = flights_in a.sent.now in
    does_room (crossing_answer _ t a.q m l _ _ _ _ c.text-t.ensures h.8 c.decide-first.ensures c.decide_after-c.ensures c.deed_of.ensures c.answer_to-v.ensures) c.lay_answer-n.ensures c.if-out-n.false (c.follow_both.ensures ∙ ap (λ (x : List ℕ). table_of (applied m (applied (message_of x a.q) l))) c.text-t.ensures, c.free.ensures) c.reply.ensures
