-- `flights::finding::used` meets its contract.
use Rattle.std.proofs.Common.{rules, ◌≡◌, ◌∙◌, not, length, count_by, ◌/◌}
use Rattle.std.specs.Simd.{first_chunks}
use Rattle.places.specs.Bytes.{free}
use Rattle.places.specs.Chunks.{counted_chunks}
use Rattle.flights.proofs.finding.used.Goals as goal

pub returns : goal.returns
returns c =
    let t = c.args.table.now in
    let e : c.count.result ≡ count_by (λ b. not (free b)) (first_chunks 768 (length t / 768) t) = search rules in
    e ∙ counted_chunks 768 (λ b. not (free b)) (length t / 768) t
