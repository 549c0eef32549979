-- `flights::set_text` meets its contract: the text was written, and the blanks right behind it.
use Prim.Native.Nat.{ℕ, ◌-◌}
use native.Mathlib.Omega.{arith}
use lib.ListN.{length, length-replicate}
use Rattle.splice.specs.Splicing.{then}
use Rattle.flights.proofs.set_text.Goals as goal

pub returns : goal.returns
returns c =
    let a = c.args in
    (then c.put-n.ensures c.fill.ensures (omega (arith, length-replicate {A = ℕ} (a.width - length a.s.now) 32))).bytes
