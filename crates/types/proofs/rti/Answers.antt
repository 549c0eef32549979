use Rattle.scan.specs.Picks.{it, in_seq, then}
use Rattle.types.specs.Messages.{rti}
use Rattle.types.specs.Scanned.{opened_by, stops}
use Rattle.types.proofs.rti.Goals as goal

pub returns-then-not-e5 : goal.returns-then-not-e5
unfolding opened_by rti
returns-then-not-e5 c =
    stops (then (then (then (then (then (then (in_seq it))))))) c.args.s.now c.letters-e5.result (rw (c.letters-e5.ensures, c.byte-e4.ensures, c.letters-e3.ensures, c.byte-e2.ensures, c.field07-i.ensures, c.byte.ensures, c.referring-h.ensures)) c.if-not-e5.true c.stopped.ensures
