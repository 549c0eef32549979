-- `flights::begin` meets its contract: the bytes at the front, the blanks and the zeros were written one behind the other.
use native.Mathlib.Omega.{arith}
use Rattle.splice.specs.Splicing.{then}
use Rattle.flights.proofs.begin.Goals as goal

pub returns : goal.returns
returns c =
    (then (then c.put-texts.ensures c.fill-rest.ensures (omega arith)) c.fill.ensures (omega arith)).bytes
