-- `hearing::settling::settle` meets its contract.
use mathlib.Core.Path.{sym, ap, ◌∙◌}
use mathlib.Core.List.{List}
use Prim.Native.Nat.{ℕ}
use borrow.Author.Tests.{not-true, not-false}
use Rattle.deeds.specs.Deeds.{deed_of}
use Rattle.rules.specs.Reads.{message_in}
use Rattle.hearing.specs.Settles.{kept_ruled, wrong_answer, right_answer}
use Rattle.hearing.proofs.settling.settle.Goals as goal

pub kept_deed-d-requires : goal.kept_deed-d-requires
kept_deed-d-requires c = kept_ruled c.requires.3 c.text.ensures

pub returns-then-not-proper : goal.returns-then-not-proper
returns-then-not-proper c =
    let a = c.args in
    wrong_answer a.h a.k a.i a.sent.now a.unanswered.now c.requires.3 c.text.ensures c.kept_deed-d.ensures c.proper.ensures (not-true _ c.if-not-proper.true-raw)

pub settle_sent-requires : goal.settle_sent-requires
settle_sent-requires c =
    let h = c.requires in
    (h.0, kept_ruled h.3 c.text-2.ensures, c.kept_deed-d.ensures ∙ ap (λ (x : List ℕ). deed_of (message_in x)) (c.text.ensures ∙ sym c.text-2.ensures))

pub returns : goal.returns
returns c =
    let a = c.args in
    right_answer a.h a.k a.i a.sent.now a.unanswered.now c.requires.3 c.text-2.ensures (c.kept_deed-d.ensures ∙ ap (λ (x : List ℕ). deed_of (message_in x)) (c.text.ensures ∙ sym c.text-2.ensures)) c.proper.ensures c.requires.2 (not-false _ c.if-not-proper.false-raw) c.settle_sent.ensures c.free.ensures
