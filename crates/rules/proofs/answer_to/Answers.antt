-- `rules::answer_to` meets its contract.
use borrow.Author.Rules.{rules}
use mathlib.Core.Path.{sym, ap, ◌∙◌}
use Rattle.rules.specs.Answers.{answer_to}
use Rattle.rules.proofs.answer_to.Goals as goal

pub enum_told-1 : goal.enum_told-1
unfolding answer_to
enum_told-1 c = search rules

pub enum_told-in-Full : goal.enum_told-in-Full
unfolding answer_to
enum_told-in-Full c = search rules

pub enum_known-c : goal.enum_known-c
unfolding answer_to
enum_known-c c = search rules

pub returns-in-Fails : goal.returns-in-Fails
unfolding answer_to
returns-in-Fails c = sym (ap (answer_to c.args.d) c.in-Fails.is)

pub returns-in-Full : goal.returns-in-Full
unfolding answer_to
returns-in-Full c = sym (ap (answer_to c.args.d) c.in-Full.is)

pub returns-in-Done : goal.returns-in-Done
unfolding answer_to
returns-in-Done c = c.good_answer.ensures ∙ sym (ap (answer_to c.args.d) c.in-Done.is)
