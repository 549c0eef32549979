-- `excerpt::text_18` meets its contract.
use mathlib.Core.Path.{refl}
use mathlib.Core.List.{append-nil}
use native.Mathlib.Omega.{arith}
use borrow.Author.Rules.{rules}
use Rattle.excerpt.specs.Excerpt.{texts_of}
use Rattle.excerpt.proofs.Fitting.{stretch, laid}
use Rattle.changes.specs.Found.{plan_spans}
use Rattle.excerpt.proofs.text_18.Goals as goal

pub returns : goal.returns
returns c =
    let a = c.args in
    let h = c.requires in
    let p = c.start-sheet.ensures in
    laid (texts_of a.w.now a.p).field18 (append-nil (texts_of a.w.now a.p).field18) (omega (arith, h.0.short.field18, h.1)) (stretch a.w.now (plan_spans a.p) 18 2 h.0.inside)
    p.source p.text p.end c.add_18.ensures (search rules) refl c.unwrap_or.ensures
