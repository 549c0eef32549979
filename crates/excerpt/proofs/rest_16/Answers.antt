-- `excerpt::rest_16` meets its contract.
use mathlib.Core.Path.{ap, refl}
use mathlib.Core.List.{List, [], ◌++◌, append-nil}
use Prim.Native.Nat.{ℕ}
use native.Mathlib.Omega.{arith}
use borrow.Author.Rules.{rules}
use Rattle.pen.specs.Laying.{led_by, text_alternates, lays_then}
use Rattle.excerpt.specs.Excerpt.{texts_of}
use Rattle.excerpt.proofs.Fitting.{stretch, laid}
use Rattle.changes.specs.Found.{plan_spans}
use Rattle.excerpt.proofs.rest_16.Goals as goal

pub returns : goal.returns
returns c =
    let a = c.args in
    let h = c.requires in
    let p = c.start-sheet.ensures in
    let w = a.w.now in
    let q = a.p in
    laid (texts_of w q).rest16 (ap (λ (z : List ℕ). led_by [] w q.elapsed ++ z) (append-nil (text_alternates w q.alternate q.alternate2))) (omega (arith, h.0.short.rest16, h.1)) (stretch w (plan_spans q) 15 3 h.0.inside)
    p.source p.text p.end (lays_then c.add_led.ensures c.add_alternates.ensures) (search rules) refl c.unwrap_or.ensures
