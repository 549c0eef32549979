-- `replying::note` meets its contract.
use mathlib.Core.Path.{◌∙◌}
use Rattle.hearing.specs.Hearing.{kept_long, noting}
use Rattle.hearing.proofs.replying.note.Goals as goal

pub returns : goal.returns
returns c =
    let a = c.args in
    noting a.n a.v _ _ (kept_long a.fresh a.highest a.n a.answers.now ∙ c.requires.0) c.requires.2 c.forget_passed.ensures
