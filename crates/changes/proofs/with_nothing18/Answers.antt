use Rattle.scan.specs.Scanner.{among, occurs, span_by}
use Rattle.scan.specs.Grammar.{run}
use Rattle.scan.specs.declared.Class.TheVariants.{Byte}
use Rattle.scan.specs.Bounds.{forth}
use Rattle.changes.specs.Found.{found22, found_tail}
use Rattle.changes.proofs.with_nothing18.Goals as goal

pub between-requires : goal.between-requires
unfolding found_tail found22 among occurs span_by
between-requires c = forth (run (Byte 48) 1 1) _ _ _ c.byte-a.ensures

pub returns : goal.returns
unfolding found_tail found22 among occurs span_by
returns c = rw (c.none.ensures, c.between.ensures, c.changes-f.ensures, c.byte.ensures, c.byte-a.ensures)
