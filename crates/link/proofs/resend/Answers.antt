-- `link::resend` meets its contract.
use borrow.Author.Tests.{not-true, not-false}
use mathlib.Core.Path.{sym, ◌∙◌}
use lib.ListN.{length}
use Prim.Native.Nat.{ℕ}
use Rattle.memory.specs.End.{lent}
use Rattle.rules.specs.Sending.{resend}
use Rattle.link.specs.Resending.{not_formed, well_formed, none_kept, kept_at, kept_given}
use Rattle.link.proofs.resend.Goals as goal

pub returns-then-not-is_sound : goal.returns-then-not-is_sound
returns-then-not-is_sound c =
    let a = c.args in
    not_formed (resend (length a.out.now) a.n) a.h (lent a.sent.now a.received.now a.unanswered.now a.answers.now) a.out.now c.is_sound.ensures (not-true _ c.if-not-is_sound.true-raw)

pub find-p-requires : goal.find-p-requires
find-p-requires c = (c.is_sound.ensures.yes (not-false _ c.if-not-is_sound.false-raw)).unanswered.whole

pub text-requires : goal.text-requires
text-requires c =
    let a = c.args in
    let g = c.is_sound.ensures.yes (not-false _ c.if-not-is_sound.false-raw) in
    let i : ℕ = c.in-Some.i in
    let w = kept_at a.n i g (sym c.find-p.ensures ∙ c.in-Some.is) in
    (g.unanswered.whole, w.below, w.short)

pub returns-in-Some : goal.returns-in-Some
returns-in-Some c =
    let a = c.args in
    let m = lent a.sent.now a.received.now a.unanswered.now a.answers.now in
    let g = c.is_sound.ensures.yes (not-false _ c.if-not-is_sound.false-raw) in
    let i : ℕ = c.in-Some.i in
    well_formed (resend (length a.out.now) a.n) a.h m a.out.now c.give.result m _ g
    (kept_given a.h m a.n i _ a.out.now c.give.result _ g (sym c.find-p.ensures ∙ c.in-Some.is) c.text.ensures c.give.ensures)

pub returns-in-None : goal.returns-in-None
returns-in-None c =
    let a = c.args in
    let m = lent a.sent.now a.received.now a.unanswered.now a.answers.now in
    let g = c.is_sound.ensures.yes (not-false _ c.if-not-is_sound.false-raw) in
    well_formed (resend (length a.out.now) a.n) a.h m a.out.now _ m a.out.now g
    (none_kept a.h m a.n (length a.out.now) a.out.now (sym c.find-p.ensures ∙ c.in-None.is))
