-- `host::pamiqsun_read` meets its contract.
use mathlib.Core.Path.{refl}
use native.Mathlib.Omega.{arith}
use Rattle.host.specs.Ways.{read_into, refused_into}
use Rattle.host.proofs.pamiqsun_read.Goals as goal

pub returns-then-content-ne246 : goal.returns-then-content-ne246
returns-then-content-ne246 c = record { sized = λ z. absurd (c.if-content-ne246.true z); unsized = λ _. (refl, refl, refl, refl) }

pub returns-in-Read : goal.returns-in-Read
returns-in-Read c =
    read_into _ _ (omega (arith, c.if-content-ne246.false)) c.read-q.ensures c.in-Read.is c.put.ensures

pub returns-in-Refused : goal.returns-in-Refused
returns-in-Refused c =
    refused_into _ _ (omega (arith, c.if-content-ne246.false)) c.read-q.ensures _ _ c.in-Refused.is
