use Rattle.scan.specs.Picks.{it, in_seq, then}
use Rattle.types.specs.Messages.{rta}
use Rattle.types.specs.Scanned.{opened_by, stops}
use Rattle.types.proofs.rta.Goals as goal

pub returns-then-not-e6 : goal.returns-then-not-e6
unfolding opened_by rta
returns-then-not-e6 c =
    stops (then (then (then (then (then (then (in_seq it))))))) c.args.s.now c.letters-e6.result (rw (c.letters-e6.ensures, c.byte-e5.ensures, c.letters-e4.ensures, c.byte-e3.ensures, c.alnums-e2.ensures, c.byte-e1.ensures, c.referring-h.ensures)) c.if-not-e6.true c.stopped.ensures
