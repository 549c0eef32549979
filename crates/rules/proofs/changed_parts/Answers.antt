-- `rules::changed_parts` meets its contract.
use Rattle.rules.proofs.changed_parts.Goals as goal

pub returns : goal.returns
returns c =
    let x = c.or_part-a.ensures in
    let y = c.or_part-d.ensures in
    let z = c.or_part-e.ensures in
    λ k. record { aircraft = x k; departure = y k; destination = z k }
