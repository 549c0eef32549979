use Rattle.scan.specs.Picks.{it, in_seq, then}
use Rattle.types.specs.Messages.{cpl}
use Rattle.types.specs.Scanned.{opened_by, front_of, stops}
use Rattle.types.proofs.cpl.Goals as goal

pub returns-then-not-f : goal.returns-then-not-f
unfolding opened_by cpl front_of
returns-then-not-f c =
    stops (then (then (then (then (then (then (then (then (in_seq it))))))))) c.args.s.now c.front-f.result.end (rw (c.front-f.ensures, c.byte.ensures, c.opened-h.ensures)) c.if-not-f.true c.stopped.ensures
