-- `head::Head::is_sound` meets its contract.
use borrow.Author.Rules.{rules}
use mathlib.Core.Path.{◌≡◌}
use lib.ListN.{length}
use Rattle.head.specs.Sound.{other_four, head_is}
use Rattle.head.proofs.Head.is_sound.Goals as goal

pub returns : goal.returns
returns c =
    let h = c.args.self in
    let m : length h.ours ≡ 4 = search rules in
    let n : length h.partners ≡ 4 = search rules in
    head_is h _ _ _ c.is_name-ours.ensures c.is_name-partners.ensures (other_four h.ours h.partners m n)
