-- `host::pamiqsun_resend` meets its contract.
use mathlib.Core.Path.{refl}
use native.Mathlib.Omega.{arith}
use Rattle.host.specs.Ways.{resent}
use Rattle.host.proofs.pamiqsun_resend.Goals as goal

pub returns-then-head-ne12 : goal.returns-then-head-ne12
returns-then-head-ne12 c = record { sized = λ z. absurd (c.if-head-ne12.true z); unsized = λ _. (refl, refl, refl) }

pub returns : goal.returns
returns c =
    resent c.head_in.result c.resend-o.result (omega (arith, c.if-head-ne12.false)) c.head_in.ensures.0 c.resend-o.ensures c.tell-t.ensures.0 c.tell-t.ensures.1
