-- `head::Head::give` meets its contract.
use Rattle.head.proofs.Head.give.Goals as goal

pub returns : goal.returns
returns c = let h = c.args.self in λ i. record { number = h.next; head = record { ours = h.ours; partners = h.partners; next = c.following.ensures i; highest = h.highest } }
