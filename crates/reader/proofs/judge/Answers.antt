use Rattle.types.specs.Messages.{message}
use Rattle.types.specs.Scanned.{ends}
use Rattle.message.specs.Record.{blank}
use Rattle.reader.specs.Reader.{read_verdict, refused_judged, place_within}
use Rattle.reader.proofs.Judging.{verdict_only}
use mathlib.Core.Path.{refl}
use Rattle.reader.proofs.judge.Goals as goal

pub returns-then-end-place : goal.returns-then-end-place
returns-then-end-place c =
    let s = c.args.s.now in
    read_verdict s _ (ends message s c.scan_any-q.ensures) c.if-end-place.true

pub slice_bounds-hyphens-end : goal.slice_bounds-hyphens-end
slice_bounds-hyphens-end c =
    let s = c.args.s.now in
    place_within s _ (ends message s c.scan_any-q.ensures)

pub returns : goal.returns
returns c =
    let s = c.args.s.now in
    verdict_only s _ blank (refused_judged s _ _ blank (ends message s c.scan_any-q.ensures) c.if-end-place.false c.hyphens.ensures refl)
