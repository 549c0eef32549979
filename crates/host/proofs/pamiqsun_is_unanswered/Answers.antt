-- `host::pamiqsun_is_unanswered` meets its contract.
use native.Mathlib.Omega.{arith}
use Rattle.head.specs.declared.Head.{Head}
use Rattle.unanswered.specs.Waiting.{UnansweredFormed}
use Rattle.host.specs.Ways.{checked_beside, no_head}
use Rattle.host.proofs.pamiqsun_is_unanswered.Goals as goal

pub returns-then-head-ne12 : goal.returns-then-head-ne12
returns-then-head-ne12 c = no_head c.args.head.now c.if-head-ne12.true

pub returns : goal.returns
returns c =
    let a = c.args in
    checked_beside (λ (h : Head). UnansweredFormed h.ours h.partners a.unanswered.now) a.head.now c.head_in-h.result c.is_unanswered.result (omega (arith, c.if-head-ne12.false)) c.head_in-h.ensures.0 c.is_unanswered.ensures c.found.ensures
