-- `packed::unpacked::kind_in` meets its contract.
use borrow.Author.Tests.{eq-eqb, ne_eqb}
use Rattle.packed.proofs.unpacked.kind_in.Goals as goal

pub returns-then-n-eq1 : goal.returns-then-n-eq1
returns-then-n-eq1 c = rw (eq-eqb _ 1 c.if-n-eq1.true)

pub returns-then-n-eq2 : goal.returns-then-n-eq2
returns-then-n-eq2 c = rw (ne_eqb _ 1 c.if-n-eq1.false, eq-eqb _ 2 c.if-n-eq2.true)

pub returns-then-n-eq3 : goal.returns-then-n-eq3
returns-then-n-eq3 c = rw (ne_eqb _ 1 c.if-n-eq1.false, ne_eqb _ 2 c.if-n-eq2.false, eq-eqb _ 3 c.if-n-eq3.true)

pub returns-then-n-eq4 : goal.returns-then-n-eq4
returns-then-n-eq4 c = rw (ne_eqb _ 1 c.if-n-eq1.false, ne_eqb _ 2 c.if-n-eq2.false, ne_eqb _ 3 c.if-n-eq3.false, eq-eqb _ 4 c.if-n-eq4.true)

pub returns-then-n-eq5 : goal.returns-then-n-eq5
returns-then-n-eq5 c = rw (ne_eqb _ 1 c.if-n-eq1.false, ne_eqb _ 2 c.if-n-eq2.false, ne_eqb _ 3 c.if-n-eq3.false, ne_eqb _ 4 c.if-n-eq4.false, eq-eqb _ 5 c.if-n-eq5.true)

pub returns-then-n-eq6 : goal.returns-then-n-eq6
returns-then-n-eq6 c = rw (ne_eqb _ 1 c.if-n-eq1.false, ne_eqb _ 2 c.if-n-eq2.false, ne_eqb _ 3 c.if-n-eq3.false, ne_eqb _ 4 c.if-n-eq4.false, ne_eqb _ 5 c.if-n-eq5.false, eq-eqb _ 6 c.if-n-eq6.true)

pub returns-then-n-eq7 : goal.returns-then-n-eq7
returns-then-n-eq7 c = rw (ne_eqb _ 1 c.if-n-eq1.false, ne_eqb _ 2 c.if-n-eq2.false, ne_eqb _ 3 c.if-n-eq3.false, ne_eqb _ 4 c.if-n-eq4.false, ne_eqb _ 5 c.if-n-eq5.false, ne_eqb _ 6 c.if-n-eq6.false, eq-eqb _ 7 c.if-n-eq7.true)

pub returns-then-n-eq8 : goal.returns-then-n-eq8
returns-then-n-eq8 c = rw (ne_eqb _ 1 c.if-n-eq1.false, ne_eqb _ 2 c.if-n-eq2.false, ne_eqb _ 3 c.if-n-eq3.false, ne_eqb _ 4 c.if-n-eq4.false, ne_eqb _ 5 c.if-n-eq5.false, ne_eqb _ 6 c.if-n-eq6.false, ne_eqb _ 7 c.if-n-eq7.false, eq-eqb _ 8 c.if-n-eq8.true)

pub returns-then-n-eq9 : goal.returns-then-n-eq9
returns-then-n-eq9 c = rw (ne_eqb _ 1 c.if-n-eq1.false, ne_eqb _ 2 c.if-n-eq2.false, ne_eqb _ 3 c.if-n-eq3.false, ne_eqb _ 4 c.if-n-eq4.false, ne_eqb _ 5 c.if-n-eq5.false, ne_eqb _ 6 c.if-n-eq6.false, ne_eqb _ 7 c.if-n-eq7.false, ne_eqb _ 8 c.if-n-eq8.false, eq-eqb _ 9 c.if-n-eq9.true)

pub returns-then-n-eq10 : goal.returns-then-n-eq10
returns-then-n-eq10 c = rw (ne_eqb _ 1 c.if-n-eq1.false, ne_eqb _ 2 c.if-n-eq2.false, ne_eqb _ 3 c.if-n-eq3.false, ne_eqb _ 4 c.if-n-eq4.false, ne_eqb _ 5 c.if-n-eq5.false, ne_eqb _ 6 c.if-n-eq6.false, ne_eqb _ 7 c.if-n-eq7.false, ne_eqb _ 8 c.if-n-eq8.false, ne_eqb _ 9 c.if-n-eq9.false, eq-eqb _ 10 c.if-n-eq10.true)

pub returns : goal.returns
returns c = rw (ne_eqb _ 1 c.if-n-eq1.false, ne_eqb _ 2 c.if-n-eq2.false, ne_eqb _ 3 c.if-n-eq3.false, ne_eqb _ 4 c.if-n-eq4.false, ne_eqb _ 5 c.if-n-eq5.false, ne_eqb _ 6 c.if-n-eq6.false, ne_eqb _ 7 c.if-n-eq7.false, ne_eqb _ 8 c.if-n-eq8.false, ne_eqb _ 9 c.if-n-eq9.false, ne_eqb _ 10 c.if-n-eq10.false)
