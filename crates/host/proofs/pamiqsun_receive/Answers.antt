-- `host::pamiqsun_receive` meets its contract.
use mathlib.Core.Path.{refl}
use native.Mathlib.Omega.{arith}
use Rattle.host.specs.Ways.{ran, idle}
use Rattle.host.proofs.pamiqsun_receive.Goals as goal

pub returns-then-head-ne12 : goal.returns-then-head-ne12
returns-then-head-ne12 c = idle c.if-head-ne12.true (refl, refl, refl, refl, refl)

pub returns : goal.returns
returns c =
    ran c.head_in.result c.receive-o.result (omega (arith, c.if-head-ne12.false)) c.head_in.ensures
    (c.receive-o.ensures, record { number = c.tell-t.ensures.0; size = c.tell-t.ensures.1; place = c.tell-t.ensures.2; hyphens = c.tell-t.ensures.3 })
    c.put_head.ensures
