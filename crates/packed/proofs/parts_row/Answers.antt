-- `packed::parts_row` meets its contract.
use mathlib.Core.Path.{refl}
use Rattle.packed.proofs.parts_row.Goals as goal

pub returns : goal.returns
returns c = refl
