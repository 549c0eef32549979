-- What is left of the piece falls with each step.
use Rattle.std.proofs.Common.{length}
use Rattle.readlist.proofs.Listing.list_piece.Given as goal

abbrev pub decreases-loop-rest : goal.decreases-loop-rest
decreases-loop-rest g l = length l.rest
