use Rattle.scan.specs.Scanner.{among, occurs, span_by}
use Rattle.changes.specs.Changes.{from18}
use Rattle.changes.specs.Found.{found22}
use Rattle.changes.specs.Ascend.{key18, is_amended}
use Rattle.fields.specs.Found.{found18, same18}
use Rattle.changes.proofs.from18.Goals as goal

pub returns : goal.returns
unfolding from18 found22 among occurs span_by
returns c =
    rw (c.no_plan.ensures, is_amended found18 same18 key18 _ _ _ _ c.lit-a.ensures c.field18-f.ensures)
