-- `packed::unpacked::kind_of` meets its contract.
use mathlib.Core.Path.{sym, ap, ◌∙◌}
use mathlib.Core.Bool.{Bool, cond}
use Rattle.message.specs.declared.Kind.TheVariants.{None}
use Rattle.packed.specs.Numbers.{held}
use Rattle.packed.specs.Packed.{kind_by}
use Rattle.message.specs.Numbered.{numbered_kind}
use Rattle.packed.proofs.unpacked.kind_of.Goals as goal

pub returns-then-are_known : goal.returns-then-are_known
unfolding kind_by
returns-then-are_known c =
    let b = c.args.b.now in
    c.kind_in.ensures ∙ ap numbered_kind c.figure_in.ensures ∙ sym (ap (λ (x : Bool). cond x (numbered_kind (held b 0)) None) (sym c.are_known.ensures ∙ c.if-are_known.true))

pub returns : goal.returns
unfolding kind_by
returns c =
    let b = c.args.b.now in
    sym (ap (λ (x : Bool). cond x (numbered_kind (held b 0)) None) (sym c.are_known.ensures ∙ c.if-are_known.false))
