-- `crossing::decide_after` meets its contract.
use Rattle.hearing.specs.Crosses.{after_fails, after_full, after_done}
use Rattle.hearing.proofs.crossing.decide_after.Goals as goal

pub returns-in-Fails : goal.returns-in-Fails
returns-in-Fails c =
    after_fails c.args.first _ _ c.in-Fails.is c.decide.ensures

pub returns-in-Full : goal.returns-in-Full
returns-in-Full c =
    after_full c.args.first _ _ c.in-Full.is c.decide-in-Full.ensures

pub returns-in-Done : goal.returns-in-Done
returns-in-Done c =
    after_done c.args.first _ c.in-Done.i c.in-Done.is
