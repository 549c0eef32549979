-- `flights::tables::is_table` meets its contract.
use Rattle.std.proofs.Common.{◌≡◌, ◌*◌, ◌≤◌, length, rules}
use borrow.Author.Tests.{tests}
use Rattle.flights.specs.Table.{places}
use Rattle.flights.specs.Formed.{records_are}
use Rattle.flights.proofs.tables.is_table.Goals as goal

pub returns : goal.returns
returns c =
    let t = c.args.table.now in
    let s : 1 ≤ places t = search (rules, tests) in
    let m : places t ≤ 32 = search (rules, tests) in
    let w : length t ≡ places t * 768 = search (rules, tests) in
    records_are t c.as_chunks.result.0.now c.as_chunks.ensures.front c.as_chunks.ensures.front_len _ s m w c.records_formed.ensures
