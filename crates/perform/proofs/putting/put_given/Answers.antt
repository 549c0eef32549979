-- `putting::put_given` meets its contract.
use mathlib.Core.Path.{◌∙◌}
use Rattle.perform.specs.Changing.{kept_where_none, written_where_some}
use Rattle.perform.proofs.putting.put_given.Goals as goal

pub returns-then-s-eq0 : goal.returns-then-s-eq0
returns-then-s-eq0 c = kept_where_none c.args.s.now _ _ c.if-s-eq0.true

pub returns : goal.returns
returns c =
    c.set_text.ensures ∙ written_where_some c.args.s.now _ _ c.if-s-eq0.false
