use borrow.Author.Tests.{lt-ltb, le-ltb}
use Rattle.scan.specs.Scanner.{leads}
use Rattle.scan.proofs.leads.Goals as goal

pub returns-then-a-b : goal.returns-then-a-b
unfolding leads
returns-then-a-b c = simp (lt-ltb _ _ c.if-a-b.true)

pub returns-then-b-a : goal.returns-then-b-a
unfolding leads
returns-then-b-a c = simp (le-ltb _ _ c.if-a-b.false, lt-ltb _ _ c.if-b-a.true)

pub returns : goal.returns
unfolding leads
returns c = simp (le-ltb _ _ c.if-a-b.false, le-ltb _ _ c.if-b-a.false)
