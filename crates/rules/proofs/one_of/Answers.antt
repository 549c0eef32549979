-- `rules::one_of` meets its contract.
use mathlib.Core.Path.{sym, ap, ◌∙◌, subst}
use mathlib.Core.Bool.{◌||◌}
use Rattle.deeds.specs.Deeds.{same_key}
use Rattle.rules.specs.declared.KeyParts.{KeyParts}
use Rattle.rules.specs.Keys.{key_of, KeyInside, old_inside, new_inside, new_key}
use Rattle.rules.specs.Sending.{one_of}
use Rattle.rules.proofs.one_of.Goals as goal

pub same_keys-requires : goal.same_keys-requires
same_keys-requires c =
    let a = c.args in
    (c.requires.0, subst (KeyInside a.x.now) (sym c.old_parts.ensures) (old_inside a.x.now a.q c.requires.1))

pub same_keys-requires-2 : goal.same_keys-requires-2
same_keys-requires-2 c =
    let a = c.args in
    (c.requires.0, subst (KeyInside a.x.now) (sym c.new_parts.ensures) (new_inside a.x.now a.q c.requires.1))

pub returns : goal.returns
unfolding one_of
returns c =
    let a = c.args in
    let x = c.same_keys.ensures ∙ ap (λ (p : KeyParts). same_key (key_of a.w.now a.k) (key_of a.x.now p)) c.old_parts.ensures in
    let y = c.same_keys-2.ensures ∙ ap (same_key (key_of a.w.now a.k)) (ap (key_of a.x.now) c.new_parts.ensures ∙ new_key a.x.now a.q c.requires.1) in
    λ k. x k || y k
