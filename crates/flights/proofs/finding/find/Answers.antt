-- `flights::finding::find` meets its contract.
use Rattle.std.proofs.Common.{rules, ◌∙◌, length, List, ℕ, ◌/◌, Bool}
use borrow.Author.Tests.{tests}
use Rattle.std.specs.Simd.{first_chunks}
use Rattle.std.proofs.lemmas.Iterator.{YieldsList-from_slice}
use Rattle.std.proofs.lemmas.Iterator.Search.{position_from_yields_List}
use Rattle.places.specs.Chunks.{found_chunk}
use Rattle.flights.specs.Table.{has_key}
use Rattle.flights.proofs.finding.find.Goals as goal

pub returns : goal.returns
returns c =
    let a = c.args in
    let t = a.table.now in
    let p : List ℕ → Bool = has_key a.aircraft.now a.departure.now a.destination.now in
    position_from_yields_List p _ _ _ c.position.ensures.ran (YieldsList-from_slice (first_chunks 768 (length t / 768) t) (c.iter.ensures.rest ∙ c.as_chunks.ensures.front)) (λ x b q k. search (rules, tests)) ∙ found_chunk 768 p (length t / 768) t
