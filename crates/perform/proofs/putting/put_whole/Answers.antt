-- `putting::put_whole` meets its contract.
use mathlib.Core.Path.{ap, ◌∙◌}
use Prim.Native.Nat.{◌+◌, ◌*◌}
use Rattle.splice.specs.Splice.{splice}
use Rattle.flights.specs.Padding.{padded}
use Rattle.perform.specs.Changing.{kept_where_none, written_where_some}
use Rattle.perform.proofs.putting.put_whole.Goals as goal

pub returns-then-given-eq0 : goal.returns-then-given-eq0
returns-then-given-eq0 c = kept_where_none c.args.lead.now _ _ c.if-given-eq0.true

pub returns : goal.returns
returns c =
    let a = c.args in
    c.set_text-2.ensures ∙ ap (splice (a.i * 768 + a.at2) (padded a.width2 a.rest.now)) c.set_text.ensures ∙ written_where_some a.lead.now _ _ c.if-given-eq0.false
