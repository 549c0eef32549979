-- `host::pamiqsun_set_up` meets its contract.
use mathlib.Core.Path.{refl}
use native.Mathlib.Omega.{arith}
use Rattle.host.specs.Ways.{ran, idle}
use Rattle.host.proofs.pamiqsun_set_up.Goals as goal

pub returns-then-head-ne12 : goal.returns-then-head-ne12
returns-then-head-ne12 c = idle c.if-head-ne12.true refl

pub returns : goal.returns
returns c =
    ran c.head_in.result c.set_up-o.result (omega (arith, c.if-head-ne12.false)) c.head_in.ensures (c.set_up-o.ensures, c.tell-t.ensures.0) c.put_head.ensures
