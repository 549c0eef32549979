-- `excerpt::text_14` meets its contract.
use mathlib.Core.Path.{refl}
use mathlib.Core.List.{append-nil}
use native.Mathlib.Omega.{arith}
use borrow.Author.Rules.{rules}
use Rattle.excerpt.specs.Excerpt.{field14_of}
use Rattle.excerpt.proofs.Fitting.{laid}
use Rattle.excerpt.proofs.text_14.Goals as goal

pub returns : goal.returns
returns c =
    let a = c.args in
    let h = c.requires in
    let p = c.start-sheet.ensures in
    laid (field14_of a.w.now a.e) (append-nil (field14_of a.w.now a.e)) (omega (arith, h.0.short, h.1)) h.0.inside
    p.source p.text p.end c.add_14.ensures (search rules) refl c.unwrap_or.ensures
