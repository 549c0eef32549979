use Rattle.std.proofs.Common.{rules}
use borrow.Author.Tests.{not-true, not-false}
use Rattle.changes.specs.Numbers.{number16}
use Rattle.changes.proofs.from16.Goals as goal

pub returns-then-not-a : goal.returns-then-not-a
returns-then-not-a c = number16.missed _ _ _ _ _ c.lit-a.ensures (not-true _ c.if-not-a.true) c.from18.ensures c.past.ensures

pub returns : goal.returns
returns c = number16.there _ _ _ _ _ c.lit-a.ensures (not-false _ c.if-not-a.false) c.field16-f.ensures (c.after-t.ensures _ (λ t p. search rules))
