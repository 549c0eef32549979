-- `deeds::code_fits` meets its contract.
use mathlib.Core.Path.{◌∙◌}
use Rattle.flights.specs.Flight.{flight_of}
use Rattle.deeds.specs.Laws.{same_on, code_in, no_code, code_given}
use Rattle.deeds.proofs.code_fits.Goals as goal

pub returns-then-c-eq0 : goal.returns-then-c-eq0
returns-then-c-eq0 c = let a = c.args in no_code a.w.now a.r.parts.own.code (flight_of a.b.now).code c.if-c-eq0.true

pub returns : goal.returns
returns c =
    let a = c.args in
    same_on c.same.ensures c.part_of.ensures c.text_at.ensures
    ∙ code_given a.w.now a.r.parts.own.code (flight_of a.b.now).code (code_in a.w.now a.r c.requires.1) c.if-c-eq0.false

pub part_of-requires : goal.part_of-requires
part_of-requires c = let a = c.args in code_in a.w.now a.r c.requires.1
