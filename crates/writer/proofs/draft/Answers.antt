-- `writer::draft` meets its contract.
use mathlib.Core.Path.{ap, refl, sym}
use borrow.Author.Tests.{not-true, not-false}
use Rattle.pen.specs.Laying.{end_of, fitted}
use Rattle.writer.specs.Drawn.{unlaid, draft_fits, draft_size, unread, drawn}
use Rattle.writer.proofs.draft.Goals as goal

pub returns-in_default : goal.returns-in_default
returns-in_default c =
    let a = c.args in
    let h = c.requires in
    unlaid a.ours.now a.partners.now a.n a.d.now a.r _ _ _ _ h.0 h.1 h.2 c.number_bytes-number.ensures c.lay_as.ensures (ap (λ o. (end_of o).ok) c.in_default.is)

pub slice_bounds-reads_back-end : goal.slice_bounds-reads_back-end
slice_bounds-reads_back-end c =
    let a = c.args in
    let h = c.requires in
    draft_fits a.ours.now a.partners.now a.n a.d.now a.r _ _ _ _ h.0 h.1 h.2 c.number_bytes-number.ensures (fitted _ c.in-Some.is c.lay_as.ensures) refl

pub slice_bounds-reads_back-end-2 : goal.slice_bounds-reads_back-end-2
slice_bounds-reads_back-end-2 c =
    let a = c.args in
    let h = c.requires in
    sym (draft_size a.ours.now a.partners.now a.n a.d.now a.r _ _ _ _ h.0 h.1 h.2 c.number_bytes-number.ensures (fitted _ c.in-Some.is c.lay_as.ensures) refl)

pub returns-then-not-reads_back : goal.returns-then-not-reads_back
returns-then-not-reads_back c =
    let a = c.args in
    let h = c.requires in
    unread a.ours.now a.partners.now a.n a.d.now a.r _ _ _ _ h.0 h.1 h.2 c.number_bytes-number.ensures (fitted _ c.in-Some.is c.lay_as.ensures) refl _ c.with_number-q.ensures _ c.reads_back.ensures (not-true _ c.if-not-reads_back.true-raw)

pub returns : goal.returns
returns c =
    let a = c.args in
    let h = c.requires in
    drawn a.ours.now a.partners.now a.n a.d.now a.r _ _ _ _ h.0 h.1 h.2 c.number_bytes-number.ensures (fitted _ c.in-Some.is c.lay_as.ensures) refl _ c.with_number-q.ensures _ c.reads_back.ensures (not-false _ c.if-not-reads_back.false-raw)
