-- `host::pamiqsun_send` meets its contract.
use mathlib.Core.Path.{refl}
use native.Mathlib.Omega.{arith}
use Rattle.host.specs.Ways.{ran, idle, sent_as}
use Rattle.host.proofs.pamiqsun_send.Goals as goal

pub returns-then-head-ne12 : goal.returns-then-head-ne12
returns-then-head-ne12 c = idle (λ z. c.if-head-ne12.true z.0) (refl, refl, refl)

pub returns-then-content-ne246 : goal.returns-then-content-ne246
returns-then-content-ne246 c = idle (λ z. c.if-content-ne246.true z.1) (refl, refl, refl)

pub returns : goal.returns
returns c =
    ran c.head_in.result c.send-o.result (omega (arith, c.if-head-ne12.false), omega (arith, c.if-content-ne246.false)) c.head_in.ensures
    (sent_as c.take.ensures c.send-o.ensures, c.tell-t.ensures.0, c.tell-t.ensures.1)
    c.put_head.ensures
