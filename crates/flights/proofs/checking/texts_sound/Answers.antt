-- `flights::checking::texts_sound` meets its contract.
use Prim.Native.Nat.{◌+◌, ◌≤◌}
use native.Mathlib.Omega.{arith}
use lib.ListN.{length}
use Rattle.scan.specs.Bools.{decides_and}
use Rattle.scan.specs.declared.Class.TheVariants.{Letter, Octal, Alnum}
use Rattle.scan.specs.Grammar.{run}
use Rattle.scan.specs.Texts.{opt}
use Rattle.fields.specs.Fields.{in08, in09, in10, in15, rest16, in18}
use Rattle.flights.specs.Checked.{on}
use Rattle.flights.proofs.checking.texts_sound.Goals as goal

pub returns : goal.returns
returns c =
    (decides_and (decides_and (decides_and (decides_and (decides_and (decides_and (decides_and (decides_and (decides_and (on (run Alnum 2 7) c.text_at.ensures c.is_aircraft.ensures)
    (on (opt (run Octal 4 4)) c.text_at-2.ensures c.is_code.ensures))
    (on (run Letter 4 4) c.text_at-3.ensures c.is_name.ensures))
    (on (run Letter 4 4) c.text_at-4.ensures c.is_name-2.ensures))
    (on (in08 0) c.text_at-5.ensures c.is_08.ensures))
    (on (in09 0) c.text_at-6.ensures c.is_09.ensures))
    (on (in10 0) c.text_at-7.ensures c.is_10.ensures))
    (on (rest16 0) c.text_at-8.ensures c.is_rest16.ensures))
    (on (in15 0) c.text_at-9.ensures c.is_15.ensures))
    (on (in18 0) c.text_at-10.ensures c.is_18.ensures))

pub text_at-requires : goal.text_at-requires
text_at-requires c = let h : 6 + 7 ≤ length c.args.b.now = omega (arith, c.requires) in h

pub text_at-requires-2 : goal.text_at-requires-2
text_at-requires-2 c = let h : 13 + 4 ≤ length c.args.b.now = omega (arith, c.requires) in h

pub text_at-requires-3 : goal.text_at-requires-3
text_at-requires-3 c = let h : 17 + 4 ≤ length c.args.b.now = omega (arith, c.requires) in h

pub text_at-requires-4 : goal.text_at-requires-4
text_at-requires-4 c = let h : 25 + 4 ≤ length c.args.b.now = omega (arith, c.requires) in h

pub text_at-requires-5 : goal.text_at-requires-5
text_at-requires-5 c = let h : 29 + 2 ≤ length c.args.b.now = omega (arith, c.requires) in h

pub text_at-requires-6 : goal.text_at-requires-6
text_at-requires-6 c = let h : 31 + 8 ≤ length c.args.b.now = omega (arith, c.requires) in h

pub text_at-requires-7 : goal.text_at-requires-7
text_at-requires-7 c = let h : 39 + 61 ≤ length c.args.b.now = omega (arith, c.requires) in h

pub text_at-requires-8 : goal.text_at-requires-8
text_at-requires-8 c = let h : 127 + 14 ≤ length c.args.b.now = omega (arith, c.requires) in h

pub text_at-requires-9 : goal.text_at-requires-9
text_at-requires-9 c = let h : 141 + 300 ≤ length c.args.b.now = omega (arith, c.requires) in h

pub text_at-requires-10 : goal.text_at-requires-10
text_at-requires-10 c = let h : 441 + 300 ≤ length c.args.b.now = omega (arith, c.requires) in h
