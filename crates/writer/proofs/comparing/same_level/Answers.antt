-- `writer::comparing::same_level` meets its contract.
use Rattle.scan.specs.Bools.{decides_by}
use Rattle.writer.specs.Comparing.{level_same}
use Rattle.writer.proofs.comparing.same_level.Goals as goal

pub returns : goal.returns
returns c = let a = c.args in decides_by (rw (c.level_number.ensures, c.level_number-2.ensures)) (level_same a.a a.b)
