-- `hearing::settling::hear_answer` meets its contract.
use mathlib.Core.Path.{sym, ◌∙◌}
use Prim.Native.Nat.{ℕ}
use Rattle.hearing.specs.Settles.{found_used, numbered_used, one_waits, none_waits}
use Rattle.hearing.proofs.settling.hear_answer.Goals as goal

pub settle-requires : goal.settle-requires
settle-requires c =
    let i : ℕ = c.in-Some.i in
    let w = found_used c.args.n i c.requires.1 (sym c.find-p.ensures ∙ c.in-Some.is) in
    (c.requires.0, c.requires.1, w.below, numbered_used w)

pub returns-in-Some : goal.returns-in-Some
returns-in-Some c =
    let a = c.args in
    let i : ℕ = c.in-Some.i in
    one_waits a.h a.k a.n i a.sent.now a.unanswered.now _ _ _ (sym c.find-p.ensures ∙ c.in-Some.is) c.settle.ensures

pub returns-in-None : goal.returns-in-None
returns-in-None c =
    let a = c.args in
    none_waits a.h a.k a.n a.sent.now a.unanswered.now (sym c.find-p.ensures ∙ c.in-None.is)
