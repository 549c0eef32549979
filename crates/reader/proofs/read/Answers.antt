use mathlib.Core.Path.{◌∙◌}
use Rattle.types.specs.Messages.{message}
use Rattle.types.specs.Scanned.{found_by, ends}
use Rattle.message.specs.Record.{figures_of}
use Rattle.reader.specs.Reader.{all_found, refused_judged, place_within}
use Rattle.reader.proofs.Judging.{read_judged}
use Rattle.reader.proofs.read.Goals as goal

pub returns-then-end-place : goal.returns-then-end-place
unfolding found_by
returns-then-end-place c =
    let h = c.scan_any-q.ensures in
    let s = c.args.s.now in
    let q = all_found s _ h c.if-end-place.true in
    read_judged s _ _ (ends message s h) c.if-end-place.true
    (λ i. record { kind = c.kind_in-its.ensures i; parts = (q i).parts; figures = (c.decoded-figures.ensures ∙ (λ j. figures_of s (q j).parts)) i })

pub slice_bounds-hyphens-end : goal.slice_bounds-hyphens-end
slice_bounds-hyphens-end c =
    let s = c.args.s.now in
    place_within s _ (ends message s c.scan_any-q.ensures)

pub returns : goal.returns
returns c =
    let s = c.args.s.now in
    refused_judged s _ _ _ (ends message s c.scan_any-q.ensures) c.if-end-place.false c.hyphens-before.ensures c.blank.ensures
