-- `rules::same_side` meets its contract.
use mathlib.Core.Path.{sym, ap}
use mathlib.Core.Bool.{Bool}
use Rattle.scan.specs.Bools.{same_bool}
use Rattle.rules.proofs.same_side.Goals as goal

pub returns-then-a : goal.returns-then-a
unfolding same_bool
returns-then-a c = sym (ap (λ (x : Bool). same_bool x c.args.b) c.if-a.true)

pub returns : goal.returns
unfolding same_bool
returns c = sym (ap (λ (x : Bool). same_bool x c.args.b) c.if-a.false)
