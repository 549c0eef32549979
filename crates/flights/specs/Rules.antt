-- The field rules of a record's texts pass the test of the scanner.
use Rattle.std.specs.Prelude.{◌≡◌, refl, true}
use Rattle.scan.specs.declared.Class.TheVariants.{Octal, Alnum}
use Rattle.scan.specs.Grammar.{run}
use Rattle.scan.specs.Texts.{opt}
use Rattle.scan.specs.Tests.{some, good, good_test}
use Rattle.fields.specs.Fields.{in08, in09, in10, timed, in14, in15, rest16, in18, field_rules}

pub good_aircraft : good (run Alnum 2 7) ≡ true
unfolding some good
good_aircraft = refl

pub good_code : good (opt (run Octal 4 4)) ≡ true
unfolding some good
good_code = refl

pub good_time : good timed ≡ true
unfolding field_rules good_test
good_time = refl

pub good_08 : good (in08 0) ≡ true
unfolding field_rules good_test
good_08 = refl

pub good_09 : good (in09 0) ≡ true
unfolding field_rules good_test
good_09 = refl

pub good_10 : good (in10 0) ≡ true
unfolding field_rules good_test
good_10 = refl

pub good_14 : good in14 ≡ true
unfolding field_rules good_test
good_14 = refl

pub good_rest16 : good (rest16 0) ≡ true
unfolding field_rules good_test
good_rest16 = refl

pub good_15 : good (in15 0) ≡ true
unfolding field_rules good_test
good_15 = refl

pub good_18 : good (in18 0) ≡ true
unfolding field_rules good_test
good_18 = refl
