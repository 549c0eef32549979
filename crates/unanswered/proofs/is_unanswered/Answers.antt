-- `unanswered::is_unanswered` meets its contract.
use Rattle.unanswered.specs.Formed.{wrong_length, unanswered_is}
use Rattle.unanswered.proofs.is_unanswered.Goals as goal

pub returns-then-t-ne20480 : goal.returns-then-t-ne20480
returns-then-t-ne20480 c = let a = c.args in wrong_length a.ours.now a.partners.now a.t.now c.if-t-ne20480.true

pub returns : goal.returns
returns c = let a = c.args in unanswered_is a.ours.now a.partners.now a.t.now c.if-t-ne20480.false _ c.places_formed.ensures
