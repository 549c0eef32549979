-- `replying::forget_passed` meets its contract.
use Rattle.answers.specs.Given.{forgotten}
use mathlib.Core.Path.{refl}
use Rattle.hearing.specs.Hearing.{if_new, if_old}
use Rattle.hearing.proofs.replying.forget_passed.Goals as goal

pub returns-then-fresh : goal.returns-then-fresh
returns-then-fresh c =
    let a = c.args in
    if_new a.fresh _ a.answers.now _ c.if-fresh.true c.forget.ensures

pub returns-else-fresh : goal.returns-else-fresh
returns-else-fresh c =
    let a = c.args in
    if_old a.fresh (forgotten a.highest a.n a.answers.now) a.answers.now _ c.if-fresh.false refl
