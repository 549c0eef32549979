-- `deeds::or_own` meets its contract.
use mathlib.Core.Path.{◌∙◌}
use Rattle.reader.specs.Reading.{cut}
use Rattle.deeds.specs.Laws.{none_given, one_given}
use Rattle.deeds.proofs.or_own.Goals as goal

pub returns-then-c-eq0 : goal.returns-then-c-eq0
returns-then-c-eq0 c = let a = c.args in c.part_of.ensures ∙ none_given a.w.now a.c (cut a.w.now a.own) c.if-c-eq0.true

pub returns : goal.returns
returns c =
    let a = c.args in
    c.part_of-2.ensures ∙ one_given a.w.now a.c (cut a.w.now a.own) c.requires.0 c.if-c-eq0.false

pub part_of-requires : goal.part_of-requires
part_of-requires c = c.requires.1

pub part_of-requires-2 : goal.part_of-requires-2
part_of-requires-2 c = c.requires.0
