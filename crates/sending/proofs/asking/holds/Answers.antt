-- `asking::holds` meets its contract.
use borrow.Author.Rules.{rules}
use Rattle.sending.specs.Deciding.{holds}
use Rattle.sending.proofs.asking.holds.Goals as goal

pub enum_told-1 : goal.enum_told-1
unfolding holds
enum_told-1 c = search rules

pub enum_told-in-Full : goal.enum_told-in-Full
unfolding holds
enum_told-in-Full c = search rules

pub enum_known-c : goal.enum_known-c
unfolding holds
enum_known-c c = search rules

pub returns-in-Fails : goal.returns-in-Fails
unfolding holds
returns-in-Fails c = search rules

pub returns-in-Full : goal.returns-in-Full
unfolding holds
returns-in-Full c = search rules

pub returns-in-Done : goal.returns-in-Done
unfolding holds
returns-in-Done c = search rules
