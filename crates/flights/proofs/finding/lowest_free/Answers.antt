-- `flights::finding::lowest_free` meets its contract.
use Rattle.std.proofs.Common.{rules, ◌∙◌, length, ◌/◌}
use borrow.Author.Tests.{tests}
use Rattle.std.specs.Simd.{first_chunks}
use Rattle.std.proofs.lemmas.Iterator.{YieldsList-from_slice}
use Rattle.std.proofs.lemmas.Iterator.Search.{position_from_yields_List}
use Rattle.places.specs.Bytes.{free}
use Rattle.places.specs.Chunks.{found_chunk}
use Rattle.flights.proofs.finding.lowest_free.Goals as goal

pub returns : goal.returns
returns c =
    let t = c.args.table.now in
    position_from_yields_List free _ _ _ c.position.ensures.ran (YieldsList-from_slice (first_chunks 768 (length t / 768) t) (c.iter.ensures.rest ∙ c.as_chunks.ensures.front)) (λ x b q k. search (rules, tests)) ∙ found_chunk 768 free (length t / 768) t
