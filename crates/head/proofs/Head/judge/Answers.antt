-- `head::Head::judge` meets its contract.
use mathlib.Core.Path.{sym}
use Rattle.head.specs.Head.{is_same, is_new, is_stale, is_old_lem}
use Rattle.head.proofs.Head.judge.Goals as goal

pub returns-then-d-eq0 : goal.returns-then-d-eq0
returns-then-d-eq0 c = sym (is_same _ c.if-d-eq0.true)

pub returns-then-d-le400 : goal.returns-then-d-le400
returns-then-d-le400 c = sym (is_new _ c.if-d-eq0.false c.if-d-le400.true)

pub returns-then-d-le600 : goal.returns-then-d-le600
returns-then-d-le600 c = sym (is_stale _ c.if-d-eq0.false c.if-d-le400.false c.if-d-le600.true)

pub returns : goal.returns
returns c = sym (is_old_lem _ c.if-d-eq0.false c.if-d-le400.false c.if-d-le600.false)
