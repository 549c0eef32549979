-- `writer::write` meets its contract.
use mathlib.Core.Path.{ap, refl, sym}
use native.Mathlib.Omega.{arith}
use borrow.Author.Tests.{not-true, not-false}
use Rattle.pen.specs.Laying.{end_of, fitted}
use Rattle.writer.specs.Written.{breaks_laid, breaks_back, text_back, laid_fits, laid_size, at_front}
use Rattle.writer.proofs.write.Goals as goal

pub returns-in_default : goal.returns-in_default
returns-in_default c = let a = c.args in (breaks_laid a.d.now a.r _ _ _ refl c.lay.ensures (ap (λ o. (end_of o).ok) c.in_default.is), refl)

pub slice_bounds-text-end : goal.slice_bounds-text-end
slice_bounds-text-end c = let a = c.args in laid_fits a.d.now a.r _ _ _ refl (fitted _ c.in-Some.is c.lay.ensures) refl

pub slice_bounds-reads_back-end : goal.slice_bounds-reads_back-end
slice_bounds-reads_back-end c = let a = c.args in sym (laid_size a.d.now a.r _ _ _ refl (fitted _ c.in-Some.is c.lay.ensures) refl)

pub returns-then-not-reads_back : goal.returns-then-not-reads_back
returns-then-not-reads_back c = let a = c.args in (breaks_back a.d.now a.r _ _ _ refl (fitted _ c.in-Some.is c.lay.ensures) refl _ c.reads_back.ensures (not-true _ c.if-not-reads_back.true-raw), refl)

pub returns-then-out-n : goal.returns-then-out-n
returns-then-out-n c =
    let a = c.args in
    (_, text_back a.d.now a.r _ _ _ refl (fitted _ c.in-Some.is c.lay.ensures) refl _ c.reads_back.ensures (not-false _ c.if-not-reads_back.false-raw), omega (arith, laid_size a.d.now a.r _ _ _ refl (fitted _ c.in-Some.is c.lay.ensures) refl), refl)

pub slice_bounds-text-end-2 : goal.slice_bounds-text-end-2
slice_bounds-text-end-2 c = let a = c.args in laid_fits a.d.now a.r _ _ _ refl (fitted _ c.in-Some.is c.lay.ensures) refl

pub slice_bounds-put-end : goal.slice_bounds-put-end
slice_bounds-put-end c = let a = c.args in sym (laid_size a.d.now a.r _ _ _ refl (fitted _ c.in-Some.is c.lay.ensures) refl)

pub put-requires : goal.put-requires
put-requires c = let a = c.args in omega (arith, laid_size a.d.now a.r _ _ _ refl (fitted _ c.in-Some.is c.lay.ensures) refl)

pub returns : goal.returns
returns c =
    let a = c.args in
    let f = at_front c.put.ensures in
    (_, text_back a.d.now a.r _ _ _ refl (fitted _ c.in-Some.is c.lay.ensures) refl _ c.reads_back.ensures (not-false _ c.if-not-reads_back.false-raw), f.0, omega (arith, f.0, laid_size a.d.now a.r _ _ _ refl (fitted _ c.in-Some.is c.lay.ensures) refl), f.1)
