-- `answers::forget` meets its contract.
use Rattle.answers.specs.Forgetting.{forgot_up, forgot_round}
use Rattle.answers.proofs.forget.Goals as goal

pub returns-then-h-n : goal.returns-then-h-n
returns-then-h-n c = forgot_up c.args.h c.args.n c.args.a.now _ _ c.requires.0 c.if-h-n.true c.requires.2 c.fill.ensures

pub returns : goal.returns
returns c =
    forgot_round c.args.h c.args.n c.args.a.now _ _ _ _ c.requires.0 c.if-h-n.false c.requires.1 c.fill-2.ensures c.fill-3.ensures
