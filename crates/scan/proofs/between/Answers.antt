use borrow.Author.Rules.{rules}
use Rattle.scan.specs.Scanner.{between, between16}
use Rattle.scan.proofs.between.Goals as goal

pub overflow_mul-result : goal.overflow_mul-result
unfolding between between16
overflow_mul-result c = search rules

pub overflow_sub-result : goal.overflow_sub-result
unfolding between between16
overflow_sub-result c = search rules

pub overflow_add-result : goal.overflow_add-result
unfolding between between16
overflow_add-result c = search rules

pub overflow_cast-result : goal.overflow_cast-result
unfolding between between16
overflow_cast-result c = search rules

pub returns-then-b : goal.returns-then-b
unfolding between between16
returns-then-b c = rw c.if-b.true

pub returns : goal.returns
unfolding between between16
returns c = rw c.if-b.false
