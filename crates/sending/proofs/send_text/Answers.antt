-- `sending::send_text` meets its contract.
use borrow.Author.Tests.{not-true, not-false}
use mathlib.Core.Path.{sym, ◌∙◌}
use mathlib.Core.Bool.{false≢true}
use Prim.Native.Nat.{ℕ}
use Rattle.places.specs.Place.{At}
use Rattle.sending.specs.Sent.{place_below, sends_text, sends_nowhere, unanswered_broken, unanswered_formed}
use Rattle.sending.proofs.send_text.Goals as goal

pub returns-then-not-x : goal.returns-then-not-x
returns-then-not-x c =
    let a = c.args in
    λ A f. unanswered_broken a.h a.w.now a.sent.now a.received.now a.unanswered.now a.out.now A (λ u. false≢true (sym (not-true _ c.if-not-x.true) ∙ c.survey-x.ensures.formed.no u))

pub lowest_free-p-requires : goal.lowest_free-p-requires
lowest_free-p-requires c = (c.survey-x.ensures.formed.yes (not-false _ c.if-not-x.false)).whole

pub send_at-requires : goal.send_at-requires
send_at-requires c =
    let v = c.survey-x in
    let h = c.requires in
    let y = not-false _ c.if-not-x.false in
    (place_below c.args.unanswered.now _ c.in-Some.i c.lowest_free-p.ensures c.in-Some.is, h.0, h.1, h.2, h.3, v.ensures.formed.yes y, v.ensures.counted y)

pub returns-in-Some : goal.returns-in-Some
returns-in-Some c =
    let a = c.args in
    let h = c.requires in
    let i : ℕ = c.in-Some.i in
    let u = c.survey-x.ensures.formed.yes (not-false _ c.if-not-x.false) in
    λ A f.
    unanswered_formed a.h a.w.now a.sent.now a.received.now a.unanswered.now a.out.now A _ _ _ _ (record { head = h.1; sent = h.2; received = h.3; answers = f }) u
    (sends_text a.h a.w.now a.r a.sent.now a.received.now a.unanswered.now a.out.now h.0 _ c.lowest_free-p.ensures (At i) _ _ _ _ c.in-Some.is c.send_at.ensures A)

pub returns-in-None : goal.returns-in-None
returns-in-None c =
    let a = c.args in
    let h = c.requires in
    let u = c.survey-x.ensures.formed.yes (not-false _ c.if-not-x.false) in
    λ A f.
    unanswered_formed a.h a.w.now a.sent.now a.received.now a.unanswered.now a.out.now A _ _ _ _ (record { head = h.1; sent = h.2; received = h.3; answers = f }) u
    (sends_nowhere a.h a.w.now a.r a.sent.now a.received.now a.unanswered.now a.out.now h.0 _ c.lowest_free-p.ensures c.in-None.is A)
