-- `host::pamiqsun_is_formed` meets its contract.
use native.Mathlib.Omega.{arith}
use Rattle.head.specs.declared.Head.{Head}
use Rattle.memory.specs.End.{lent, Formed}
use Rattle.host.specs.Ways.{checked_beside, no_head}
use Rattle.host.proofs.pamiqsun_is_formed.Goals as goal

pub returns-then-head-ne12 : goal.returns-then-head-ne12
returns-then-head-ne12 c = no_head c.args.head.now c.if-head-ne12.true

pub returns : goal.returns
returns c =
    let a = c.args in
    checked_beside (λ (h : Head). Formed h (lent a.sent.now a.received.now a.unanswered.now a.answers.now)) a.head.now c.head_in.result c.is_sound.result (omega (arith, c.if-head-ne12.false)) c.head_in.ensures.0 c.is_sound.ensures c.found.ensures
