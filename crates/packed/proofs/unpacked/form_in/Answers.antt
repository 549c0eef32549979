-- `packed::unpacked::form_in` meets its contract.
use borrow.Author.Tests.{eq-eqb, ne_eqb}
use Rattle.packed.proofs.unpacked.form_in.Goals as goal

pub returns-then-n-eq1 : goal.returns-then-n-eq1
returns-then-n-eq1 c = rw (eq-eqb _ 1 c.if-n-eq1.true)

pub returns-then-n-eq2 : goal.returns-then-n-eq2
returns-then-n-eq2 c = rw (ne_eqb _ 1 c.if-n-eq1.false, eq-eqb _ 2 c.if-n-eq2.true)

pub returns-then-n-eq3 : goal.returns-then-n-eq3
returns-then-n-eq3 c = rw (ne_eqb _ 1 c.if-n-eq1.false, ne_eqb _ 2 c.if-n-eq2.false, eq-eqb _ 3 c.if-n-eq3.true)

pub returns-then-n-eq4 : goal.returns-then-n-eq4
returns-then-n-eq4 c = rw (ne_eqb _ 1 c.if-n-eq1.false, ne_eqb _ 2 c.if-n-eq2.false, ne_eqb _ 3 c.if-n-eq3.false, eq-eqb _ 4 c.if-n-eq4.true)

pub returns : goal.returns
returns c = rw (ne_eqb _ 1 c.if-n-eq1.false, ne_eqb _ 2 c.if-n-eq2.false, ne_eqb _ 3 c.if-n-eq3.false, ne_eqb _ 4 c.if-n-eq4.false)
