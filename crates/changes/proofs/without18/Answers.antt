use Rattle.scan.specs.Scanner.{among, occurs, span_by}
use Rattle.changes.specs.Found.{found22, found_tail}
use Rattle.changes.proofs.without18.Goals as goal

pub returns : goal.returns
unfolding found_tail found22 among occurs span_by
returns c = rw (c.none-2.ensures, c.none.ensures, c.changes-f.ensures)
