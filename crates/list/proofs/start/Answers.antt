-- `list::start` meets its contract: there is no line yet. Assumes nothing.
use mathlib.Core.Path.{refl}
use native.Mathlib.Omega.{arith}
use Rattle.lines.specs.Listing.{ended_from, unfinished_from, lines_from, read_of}
use Rattle.list.proofs.start.Goals as goal

pub returns : goal.returns
unfolding ended_from unfinished_from lines_from read_of
returns c = λ line. record { said = refl; counted = refl; good = refl; holds = record { bytes = refl; size = refl }; within = omega arith }
