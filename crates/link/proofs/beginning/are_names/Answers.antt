-- `beginning::are_names` meets its contract.
use Rattle.link.specs.Beginning.{ours_odd, partners_odd, names_are}
use Rattle.link.proofs.beginning.are_names.Goals as goal

pub returns-then-ours-ne4 : goal.returns-then-ours-ne4
returns-then-ours-ne4 c = let a = c.args in ours_odd a.ours.now a.partners.now c.if-ours-ne4.true

pub returns-then-partners-ne4 : goal.returns-then-partners-ne4
returns-then-partners-ne4 c = let a = c.args in partners_odd a.ours.now a.partners.now c.if-partners-ne4.true

pub returns : goal.returns
returns c =
    let a = c.args in
    names_are a.ours.now a.partners.now c.first_head-h.result c.first_head-h.ensures c.is_sound.ensures

pub first_head-h-requires : goal.first_head-h-requires
first_head-h-requires c = (c.if-ours-ne4.false, c.if-partners-ne4.false)
