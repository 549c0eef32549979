-- `unanswered::store` meets its contract.
use Prim.Native.Nat.{◌*◌}
use native.Mathlib.Omega.{arith}
use Rattle.unanswered.specs.Storing.{stored}
use Rattle.unanswered.proofs.store.Goals as goal

pub returns : goal.returns
returns c =
    let a = c.args in
    stored (a.i * 1280) a.n a.text.now a.t.now _ _ _ _ _ _ c.requires.3 (omega (arith, c.requires.0, c.requires.1)) c.put-at.ensures c.put-end.ensures c.fill.ensures
