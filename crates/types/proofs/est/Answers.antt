use Rattle.scan.specs.Picks.{it, in_seq, then}
use Rattle.types.specs.Messages.{est}
use Rattle.types.specs.Scanned.{opened_by, stops}
use Rattle.types.proofs.est.Goals as goal

pub returns-then-not-e3 : goal.returns-then-not-e3
unfolding opened_by est
returns-then-not-e3 c =
    stops (then (then (then (then (in_seq it))))) c.args.s.now c.letters-e3.result (rw (c.letters-e3.ensures, c.byte-e2.ensures, c.field07-i.ensures, c.byte.ensures, c.referring-h.ensures)) c.if-not-e3.true c.stopped.ensures
