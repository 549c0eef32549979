use mathlib.Core.Path.{ap, ◌∙◌, subst, sym}
use Prim.Native.Nat.{◌+◌, ◌≤◌}
use lib.ListN.{length}
use Rattle.scan.specs.Grammar.{place_of, size_of, Span}
use Rattle.reader.specs.Reading.{cut, other}
use Rattle.reader.proofs.Judging.{other_within, words_of}
use Rattle.reader.proofs.other.Goals as goal

pub part_of-requires : goal.part_of-requires
part_of-requires c =
    subst (λ (p : Span). place_of p + size_of p ≤ length c.args.s.now) (sym c.other_in-p.ensures) (other_within c.args.s.now c.read-q.result.verdict c.read-q.result.record c.read-q.ensures)

pub returns : goal.returns
returns c =
    let s = c.args.s.now in
    words_of other s _ c.read-q.result.verdict c.read-q.result.record c.read-q.ensures (c.part_of.ensures ∙ ap (cut s) c.other_in-p.ensures)
