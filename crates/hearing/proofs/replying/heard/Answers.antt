-- `replying::heard` meets its contract.
use Rattle.head.specs.Head.{received}
use mathlib.Core.Path.{refl}
use Rattle.hearing.specs.Hearing.{if_new, if_old}
use Rattle.hearing.proofs.replying.heard.Goals as goal

pub returns-then-fresh : goal.returns-then-fresh
returns-then-fresh c =
    let a = c.args in
    if_new a.fresh _ a.h _ c.if-fresh.true c.receive.ensures

pub returns : goal.returns
returns c =
    let a = c.args in
    if_old a.fresh (received a.h a.n) a.h _ c.if-fresh.false refl
