use Rattle.std.proofs.Common.{rules}
use borrow.Author.Tests.{not-true, not-false}
use Rattle.changes.specs.Numbers.{number13}
use Rattle.changes.proofs.from13.Goals as goal

pub returns-then-not-a : goal.returns-then-not-a
returns-then-not-a c = number13.missed _ _ _ _ _ c.lit-a.ensures (not-true _ c.if-not-a.true) c.from15.ensures c.past.ensures

pub returns : goal.returns
returns c = number13.there _ _ _ _ _ c.lit-a.ensures (not-false _ c.if-not-a.false) c.field13-f.ensures (c.after-t.ensures _ (λ t p. search rules))
