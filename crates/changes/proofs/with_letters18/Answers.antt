use Rattle.scan.specs.Scanner.{among, occurs, span_by}
use Rattle.scan.specs.Grammar.{run, words}
use Rattle.scan.specs.declared.Class.TheVariants.{Letter}
use Rattle.scan.specs.Bounds.{forth}
use Rattle.changes.specs.Changes.{letters18}
use Rattle.changes.specs.Found.{found22, found_tail}
use Rattle.changes.proofs.with_letters18.Goals as goal

pub between-requires : goal.between-requires
between-requires g c = forth (run Letter _ _) _ _ _ c.letters-a.ensures

pub between-requires-2 : goal.between-requires-2
between-requires-2 g c = forth (words _) _ _ _ c.words-c.ensures

pub returns : goal.returns
unfolding found_tail found22 letters18 among occurs span_by
returns g c = rw (c.between-2.ensures, c.between.ensures, c.changes-f.ensures, c.byte.ensures, c.words-c.ensures, c.byte-b.ensures, c.letters-a.ensures)
