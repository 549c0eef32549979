-- `deeds::is_nowhere` meets its contract.
use borrow.Author.Rules.{rules}
use mathlib.Core.Path.{sym, ap}
use Rattle.deeds.specs.Applying.{nowhere}
use Rattle.deeds.proofs.is_nowhere.Goals as goal

pub enum_known-p : goal.enum_known-p
unfolding nowhere
enum_known-p c = search rules

pub enum_told-1 : goal.enum_told-1
unfolding nowhere
enum_told-1 c = search rules

pub returns-in-Some : goal.returns-in-Some
unfolding nowhere
returns-in-Some c = sym (ap nowhere c.in-Some.is)

pub returns-in-None : goal.returns-in-None
unfolding nowhere
returns-in-None c = sym (ap nowhere c.in-None.is)
