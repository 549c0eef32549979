-- `packed::put_parts` meets its contract.
use mathlib.Core.Path.{ap}
use Rattle.packed.specs.Packed.{span_numbers}
use Rattle.packed.specs.Laid.{same}
use Rattle.packed.proofs.put_parts.Goals as goal

pub returns : goal.returns
returns c = same (ap span_numbers c.parts_row-row.ensures) c.put_row.ensures
