-- those passed and those left are all
use Rattle.std.specs.Prelude.{◌≡◌, ◌+◌}
use Rattle.std.specs.Slice.Iter.{chunks_rest, chunks_size}
use Rattle.reader.specs.Reading.{hyphens}
use Rattle.reader.proofs.hyphens.Given as goal

abbrev pub invariant-loop-block : goal.invariant-loop-block
invariant-loop-block l = (chunks_size l.block-iterator ≡ 224) × (l.n + hyphens (chunks_rest l.block-iterator) ≡ hyphens l.s)
