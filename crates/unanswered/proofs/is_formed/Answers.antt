-- `unanswered::is_formed` meets its contract.
use mathlib.Core.Path.{◌≡◌, subst}
use mathlib.Core.List.{List}
use Prim.Native.Nat.{ℕ}
use Rattle.reader.specs.Reading.{Judged}
use Rattle.unanswered.specs.declared.Shown.{Shown}
use Rattle.unanswered.specs.declared.Shown.TheVariants.{Broken, Empty, Message}
use Rattle.unanswered.specs.Waiting.{ShowsAt}
use Rattle.unanswered.specs.Formed.{broken_at, empty_at, proper_at}
use Rattle.unanswered.proofs.is_formed.Goals as goal
use Rattle.unanswered.proofs.is_formed.Goals.{After-look-l}

-- what is shown, once it is told which it is
shown_as : (c : After-look-l) (x : Shown) → c.look-l.result ≡ x → ShowsAt c.args.t.now c.args.i x
shown_as c x e = subst (ShowsAt c.args.t.now c.args.i) e c.look-l.ensures

pub text-requires : goal.text-requires
text-requires c = let h = c.requires in (h.0, h.1, (shown_as (goal.at.text-requires c).After-look-l Message c.in-Message.is).0.1)

pub is_proper-requires : goal.is_proper-requires
is_proper-requires c =
    let h = c.requires in
    let q = c.read-q in
    (h.0, h.1, (shown_as (goal.at.is_proper-requires c).After-look-l Message c.in-Message.is).0.1, (q.result.verdict, subst (λ (x : List ℕ). Judged x q.result.verdict q.result.record) c.text.ensures q.ensures))

pub returns-in-Broken : goal.returns-in-Broken
returns-in-Broken c = let a = c.args in broken_at a.ours.now a.partners.now a.t.now a.i (shown_as (goal.at.returns-in-Broken c).After-look-l Broken c.in-Broken.is)

pub returns-in-Empty : goal.returns-in-Empty
returns-in-Empty c = let a = c.args in empty_at a.ours.now a.partners.now a.t.now a.i (shown_as (goal.at.returns-in-Empty c).After-look-l Empty c.in-Empty.is)

pub returns-in-Message : goal.returns-in-Message
returns-in-Message c = let a = c.args in proper_at a.ours.now a.partners.now a.t.now a.i (shown_as (goal.at.returns-in-Message c).After-look-l Message c.in-Message.is) _ c.is_proper.ensures
