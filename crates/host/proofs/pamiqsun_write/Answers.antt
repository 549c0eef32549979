-- `host::pamiqsun_write` meets its contract.
use mathlib.Core.Path.{refl}
use native.Mathlib.Omega.{arith}
use Rattle.host.specs.Ways.{wrote_from}
use Rattle.host.proofs.pamiqsun_write.Goals as goal

pub returns-then-content-ne246 : goal.returns-then-content-ne246
returns-then-content-ne246 c = record { sized = λ z. absurd (c.if-content-ne246.true z); unsized = λ _. (refl, refl, refl) }

pub returns : goal.returns
returns c =
    wrote_from c.take.result c.write-v.result (omega (arith, c.if-content-ne246.false)) c.take.ensures c.write-v.ensures c.written_number.ensures c.written_size.ensures
