-- `dispatch::refuse` meets its contract.
use mathlib.Core.Path.{refl, sym, ◌∙◌}
use mathlib.Core.Bool.{false≢true}
use Rattle.link.proofs.dispatch.refuse.Goals as goal

pub returns-then-is_unanswered : goal.returns-then-is_unanswered
returns-then-is_unanswered c = record { broken = λ n. absurd (n (c.is_unanswered.ensures.yes c.if-is_unanswered.true)); formed = λ u. refl }

pub returns : goal.returns
returns c = record { broken = λ n. refl; formed = λ u. absurd (false≢true (sym c.if-is_unanswered.false ∙ c.is_unanswered.ensures.no u)) }
