-- `rules::same_flight` meets its contract.
use mathlib.Core.Path.{sym, ◌∙◌, subst}
use Rattle.deeds.specs.Deeds.{same_key}
use Rattle.rules.specs.Keys.{key_of, KeyInside, old_inside}
use Rattle.rules.proofs.same_flight.Goals as goal

pub same_keys-requires : goal.same_keys-requires
same_keys-requires c =
    let a = c.args in (
      subst (KeyInside a.w.now) (sym c.old_parts.ensures) (old_inside a.w.now a.r c.requires.0),
      subst (KeyInside a.x.now) (sym c.old_parts-2.ensures) (old_inside a.x.now a.q c.requires.1),
    )

pub returns : goal.returns
returns c =
    let a = c.args in
    c.same_keys.ensures ∙ (λ k. same_key (key_of a.w.now (c.old_parts.ensures k)) (key_of a.x.now (c.old_parts-2.ensures k)))
