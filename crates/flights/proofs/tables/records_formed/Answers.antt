-- `flights::tables::records_formed` meets its contract.
use Rattle.std.proofs.Common.{rules, List, [], ℕ, take}
use Rattle.std.specs.List.{All}
use borrow.Author.Tests.{tests}
use Rattle.std.proofs.lemmas.Iterator.{YieldsList-from_slice, cases_from_all}
use Rattle.std.proofs.lemmas.Iterator.Consumers.{YieldsList-from_enumerate, YieldsList-at}
use Rattle.scan.specs.Bools.{decides_and}
use Rattle.places.specs.Below.{all_enumerated}
use Rattle.flights.specs.Flight.{WellFormed}
use Rattle.flights.specs.Formed.{Apart}
use Rattle.flights.proofs.tables.records_formed.Goals as goal

pub returns : goal.returns
returns c =
    let l = c.args.records.now in
    let P : ℕ → List ℕ → Type 0 = λ i b. WellFormed b × All (λ a. Apart a b) (take i l) in
    all_enumerated P l [] c.all.result
    (cases_from_all _ _ _ (λ q. P q.0 q.1) (λ q. P q.0 q.1 → ⊥) c.all.ensures.ran
    (YieldsList-from_enumerate (YieldsList-at c.enumerate.ensures.source (YieldsList-from_slice l c.iter.ensures.rest)) c.enumerate.ensures.count)
    (λ x q k. search (rules, tests, decides_and)) (λ x q k. search (rules, tests, decides_and)))
