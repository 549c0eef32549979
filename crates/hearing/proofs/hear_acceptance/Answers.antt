-- `hearing::hear_acceptance` meets its contract.
use mathlib.Core.List.{List}
use Prim.Native.Nat.{ℕ}
use mathlib.Core.Path.{refl, sym, subst, ◌∙◌}
use mathlib.Core.Bool.{true, false}
use Rattle.reader.specs.Reading.{Judged}
use Rattle.message.specs.declared.Verdict.TheVariants.{Read}
use Rattle.unanswered.specs.Waiting.{waiting_of, place}
use Rattle.deeds.specs.Message.{message_of}
use Rattle.hearing.specs.Crosses.{waits_derived, waits_crosses, retires_as, alone_comes, beside_comes, crossing_comes}
use Rattle.hearing.specs.Settles.{found_used}
use Rattle.hearing.proofs.hear_acceptance.Goals as goal

pub find-p-requires : goal.find-p-requires
find-p-requires c =
    c.requires.2.whole

pub text-t-requires : goal.text-t-requires
text-t-requires c =
    let h = c.requires in
    let a = c.args in
    let i : ℕ = c.in-Some.i in
    let w = found_used a.r.figures.reference i h.2 (sym c.find-p.ensures ∙ c.in-Some.is) in
    (h.2.whole, w.below, w.short)

pub kept_record-q-requires : goal.kept_record-q-requires
kept_record-q-requires c =
    let h = c.requires in
    let a = c.args in
    let i : ℕ = c.in-Some.i in
    let w = found_used a.r.figures.reference i h.2 (sym c.find-p.ensures ∙ c.in-Some.is) in
    waits_derived w _ c.text-t.ensures

pub retires-requires : goal.retires-requires
retires-requires c =
    (c.requires.0, c.kept_record-q.ensures)

pub hear_crossing-requires : goal.hear_crossing-requires
hear_crossing-requires c =
    let h = c.requires in
    let a = c.args in
    let m = message_of a.w.now a.r in
    let i : ℕ = c.in-Some.i in
    let w = found_used a.r.figures.reference i h.2 (sym c.find-p.ensures ∙ c.in-Some.is) in
    let q = c.kept_record-q.result in
    let t = (waiting_of (place i a.unanswered.now)).text in
    let j : Judged t Read q = subst (λ (x : List ℕ). Judged x Read q) c.text-t.ensures c.kept_record-q.ensures in
    (h.0, h.1, h.2.whole, w.below, w.short, h.3, h.4, j, waits_crosses w m q j refl h.5 (retires_as m q _ t _ true c.text-t.ensures c.retires.ensures c.if-retires.true))

pub returns-then-retires : goal.returns-then-retires
returns-then-retires c =
    let h = c.requires in
    let a = c.args in
    let m = message_of a.w.now a.r in
    let i : ℕ = c.in-Some.i in
    let q = c.kept_record-q.result in
    let t = (waiting_of (place i a.unanswered.now)).text in
    let j : Judged t Read q = subst (λ (x : List ℕ). Judged x Read q) c.text-t.ensures c.kept_record-q.ensures in
    λ z f. crossing_comes a.h a.fresh m a.sent.now z a.unanswered.now a.answers.now a.out.now _ _ _ _ _ f h.5 i (sym c.find-p.ensures ∙ c.in-Some.is) q j (retires_as m q _ t _ true c.text-t.ensures c.retires.ensures c.if-retires.true) c.hear_crossing.ensures

pub hear_on-requires : goal.hear_on-requires
hear_on-requires c =
    let h = c.requires in
    (h.0, h.1, h.3, h.4)

pub hear_on-requires-in-None : goal.hear_on-requires-in-None
hear_on-requires-in-None c =
    let h = c.requires in
    (h.0, h.1, h.3, h.4)

pub returns-else-retires : goal.returns-else-retires
returns-else-retires c =
    let h = c.requires in
    let a = c.args in
    let m = message_of a.w.now a.r in
    let i : ℕ = c.in-Some.i in
    let q = c.kept_record-q.result in
    let t = (waiting_of (place i a.unanswered.now)).text in
    let j : Judged t Read q = subst (λ (x : List ℕ). Judged x Read q) c.text-t.ensures c.kept_record-q.ensures in
    λ z f. beside_comes a.h a.fresh m a.sent.now z a.unanswered.now a.answers.now a.out.now _ _ _ _ _ f h.5 i (sym c.find-p.ensures ∙ c.in-Some.is) q j (retires_as m q _ t _ false c.text-t.ensures c.retires.ensures c.if-retires.false) refl c.hear_on.ensures

pub returns-in-None : goal.returns-in-None
returns-in-None c =
    let h = c.requires in
    let a = c.args in
    let m = message_of a.w.now a.r in
    λ z f. alone_comes a.h a.fresh m a.sent.now z a.unanswered.now a.answers.now a.out.now _ _ _ _ _ f h.5 (sym c.find-p.ensures ∙ c.in-None.is) refl c.hear_on-in-None.ensures
