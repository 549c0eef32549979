-- `dispatch::send` meets its contract.
use borrow.Author.Tests.{not-true, not-false}
use mathlib.Core.Path.{refl, sym, ◌∙◌}
use mathlib.Core.Bool.{false≢true}
use Prim.Native.Nat.{ℕ}
use native.Mathlib.Omega.{arith}
use Rattle.std.specs.Prelude.{replicate}
use Rattle.memory.specs.End.{lent}
use Rattle.link.specs.Sending.{head_names, none_drawn, one_drawn, drawn_size, drawn_fits, drawn_ruled, sent_damaged, sent_refused, sent_drafted}
use Rattle.link.proofs.dispatch.send.Goals as goal

pub returns-then-not-is_sound_beside : goal.returns-then-not-is_sound_beside
returns-then-not-is_sound_beside c =
    let a = c.args in
    sent_damaged a.d.now a.r a.h (lent a.sent.now a.received.now a.unanswered.now a.answers.now) a.out.now c.is_sound_beside.ensures (not-true _ c.if-not-is_sound_beside.true-raw)

pub returns-then-answer : goal.returns-then-answer
returns-then-answer c =
    let a = c.args in
    let g = c.is_sound_beside.ensures.yes (not-false _ c.if-not-is_sound_beside.false-raw) in
    sent_refused a.d.now a.r a.h (lent a.sent.now a.received.now a.unanswered.now a.answers.now) a.out.now c.refuse.result g c.refuse.ensures (λ k. absurd (false≢true (sym k ∙ sym c.is_answer-answer.ensures ∙ c.if-answer.true)))

pub slice_bounds-draft-end-2 : goal.slice_bounds-draft-end-2
slice_bounds-draft-end-2 c =
    sym (head_names (c.is_sound_beside.ensures.yes (not-false _ c.if-not-is_sound_beside.false-raw)).head).0

pub slice_bounds-draft-end-3 : goal.slice_bounds-draft-end-3
slice_bounds-draft-end-3 c =
    sym (head_names (c.is_sound_beside.ensures.yes (not-false _ c.if-not-is_sound_beside.false-raw)).head).1

pub draft-v-requires : goal.draft-v-requires
draft-v-requires c =
    let g = c.is_sound_beside.ensures.yes (not-false _ c.if-not-is_sound_beside.false-raw) in
    let n = head_names g.head in
    (refl, n.0, n.1, omega (arith, g.head.next, g.head.highest))

pub slice_bounds-text-end : goal.slice_bounds-text-end
slice_bounds-text-end c =
    let k : ℕ = c.in-Written.n in
    drawn_fits _ _ _ _ _ (replicate 1077 0) _ _ c.draft-v.ensures k c.in-Written.is refl

pub slice_bounds-send_draft-end : goal.slice_bounds-send_draft-end
slice_bounds-send_draft-end c =
    let k : ℕ = c.in-Written.n in
    sym (drawn_size _ _ _ _ _ (replicate 1077 0) _ _ c.draft-v.ensures k c.in-Written.is)

pub send_draft-requires : goal.send_draft-requires
send_draft-requires c =
    let k : ℕ = c.in-Written.n in
    let g = c.is_sound_beside.ensures.yes (not-false _ c.if-not-is_sound_beside.false-raw) in
    (drawn_ruled _ _ _ _ _ (replicate 1077 0) _ _ c.draft-v.ensures k c.in-Written.is, g.head, g.sent, g.received)

pub returns-in-Written : goal.returns-in-Written
returns-in-Written c =
    let a = c.args in
    let k : ℕ = c.in-Written.n in
    let g = c.is_sound_beside.ensures.yes (not-false _ c.if-not-is_sound_beside.false-raw) in
    sent_drafted a.d.now a.r a.h (lent a.sent.now a.received.now a.unanswered.now a.answers.now) a.out.now _ c.send_draft.result _ _ (sym c.is_answer-answer.ensures ∙ c.if-answer.false)
    (one_drawn a.h.ours a.h.partners a.h.next a.d.now a.r (replicate 1077 0) _ _ c.draft-v.ensures k c.in-Written.is) (c.send_draft.ensures a.answers.now g.answers)

pub returns-in-BreaksRule : goal.returns-in-BreaksRule
returns-in-BreaksRule c =
    let a = c.args in
    let g = c.is_sound_beside.ensures.yes (not-false _ c.if-not-is_sound_beside.false-raw) in
    sent_refused a.d.now a.r a.h (lent a.sent.now a.received.now a.unanswered.now a.answers.now) a.out.now c.refuse-in-BreaksRule.result g c.refuse-in-BreaksRule.ensures
    (λ k. none_drawn a.h.ours a.h.partners a.h.next a.d.now a.r (replicate 1077 0) _ _ c.draft-v.ensures c.in-BreaksRule.is)
