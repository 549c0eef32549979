-- `unanswered::look` meets its contract.
use borrow.Author.Tests.{not-true, not-false}
use mathlib.Core.Path.{sym, ◌∙◌}
use mathlib.Core.Bool.{false≢true}
use Rattle.unanswered.specs.Formed.{lent_long, on_place}
use Rattle.unanswered.proofs.look.Goals as goal

pub returns-then-not-apart_from_lower : goal.returns-then-not-apart_from_lower
returns-then-not-apart_from_lower c = λ ours partners f. false≢true (sym (not-true _ c.if-not-apart_from_lower.true-raw) ∙ c.apart_from_lower.ensures.no f.1)

pub look_at_place-requires : goal.look_at_place-requires
look_at_place-requires c = lent_long c.args.t.now c.args.i c.requires.0 c.requires.1

pub returns : goal.returns
returns c =
    let a = c.args in
    on_place a.t.now a.i c.look_at_place.result (c.apart_from_lower.ensures.yes (not-false _ c.if-not-apart_from_lower.false-raw)) c.look_at_place.ensures
