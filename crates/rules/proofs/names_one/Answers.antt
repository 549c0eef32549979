-- `rules::names_one` meets its contract.
use mathlib.Core.Path.{sym, ap, ◌∙◌, subst}
use mathlib.Core.Bool.{◌&&◌, ◌||◌}
use Rattle.deeds.specs.Message.{message_of}
use Rattle.deeds.specs.Deeds.{Key}
use Rattle.rules.specs.Answers.{is_acceptance}
use Rattle.rules.specs.Keys.{key_of, KeyInside, old_inside, new_inside, new_key}
use Rattle.rules.specs.Sending.{one_of, names_one}
use Rattle.scan.specs.Bools.{same_bool}
use Rattle.rules.proofs.names_one.Goals as goal

pub one_of-requires : goal.one_of-requires
one_of-requires c =
    let a = c.args in
    (subst (KeyInside a.w.now) (sym c.old_parts.ensures) (old_inside a.w.now a.r c.requires.0), c.requires.1)

pub one_of-requires-2 : goal.one_of-requires-2
one_of-requires-2 c =
    let a = c.args in
    (subst (KeyInside a.w.now) (sym c.new_parts.ensures) (new_inside a.w.now a.r c.requires.0), c.requires.1)

pub returns : goal.returns
unfolding names_one
returns c =
    let a = c.args in
    let n = message_of a.x.now a.q in
    let x = c.is_acceptance-a.ensures ∙ ap is_acceptance c.deed_of.ensures in
    let y = c.is_acceptance-b.ensures ∙ ap is_acceptance c.deed_of-2.ensures in
    let z = c.same_side.ensures ∙ (λ k. same_bool (x k) (y k)) in
    let u = c.one_of.ensures ∙ ap (λ (k : Key). one_of k n) (ap (key_of a.w.now) c.old_parts.ensures) in
    let v = c.one_of-2.ensures ∙ ap (λ (k : Key). one_of k n) (ap (key_of a.w.now) c.new_parts.ensures ∙ new_key a.w.now a.r c.requires.0) in
    λ k. z k && (u k || v k)

pub deed_of-requires : goal.deed_of-requires
deed_of-requires c = c.requires.0

pub deed_of-requires-2 : goal.deed_of-requires-2
deed_of-requires-2 c = c.requires.1
