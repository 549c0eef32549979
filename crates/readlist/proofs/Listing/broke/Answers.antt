-- What broke writes fits, of whatever line it is asked.
use Rattle.std.proofs.Common.{[], arith}
use Rattle.readlist.proofs.Listing.broke.Goals as goal

pub shared_ref_as_front-write_all : goal.shared_ref_as_front-write_all
shared_ref_as_front-write_all g c = omega (arith, (c.broke-n.ensures []).fits)
