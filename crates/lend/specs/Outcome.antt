-- THE OUTCOME OF A CALL ON A LENT HEAD, as `link` has it: the answer, and the head as it lies there at the end.
use Rattle.head.specs.declared.Head.{Head}
use Rattle.rules.specs.declared.Answer.{Answer}
use Rattle.rules.specs.declared.Outcome.{Outcome}

abbrev pub outcome : Answer → Head → Outcome
outcome a h = record { answer = a; head = h }
