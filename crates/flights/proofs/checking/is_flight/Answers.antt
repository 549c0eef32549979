-- `flights::checking::is_flight` meets its contract.
use native.Mathlib.Omega.{arith}
use Prim.Native.Nat.{◌<◌}
use lib.ListN.{get_or}
use Rattle.scan.specs.Bools.{decides_and}
use Rattle.places.specs.Bytes.{at_most_on}
use Rattle.flights.specs.Checked.{used_is}
use Rattle.flights.specs.Deciding.{rest_on, filed_is, active_is, other_status}
use Rattle.flights.proofs.checking.is_flight.Goals as goal

pub returns-then-status-eq1 : goal.returns-then-status-eq1
returns-then-status-eq1 c =
    let b = c.args.b.now in
    let n = c.requires in
    let lo : get_or b 3 0 < 256 = omega (arith, c.shared_slice_known-1.given 3) in
    let lu : get_or b 5 0 < 256 = omega (arith, c.shared_slice_known-1.given 5) in
    used_is b n lo lu _ (filed_is b c.if-status-eq1.true _ (decides_and (decides_and (decides_and (at_most_on 999 c.number_at-first.ensures) c.texts_sound-texts.ensures) (rest_on b n _ c.all_are-rest.ensures)) c.filed_sound.ensures))

pub returns-then-status-eq2 : goal.returns-then-status-eq2
returns-then-status-eq2 c =
    let b = c.args.b.now in
    let n = c.requires in
    let lo : get_or b 3 0 < 256 = omega (arith, c.shared_slice_known-1.given 3) in
    let lu : get_or b 5 0 < 256 = omega (arith, c.shared_slice_known-1.given 5) in
    used_is b n lo lu _ (active_is b c.if-status-eq2.true _ (decides_and (decides_and (decides_and (at_most_on 999 c.number_at-first.ensures) c.texts_sound-texts.ensures) (rest_on b n _ c.all_are-rest.ensures)) c.active_sound.ensures))

pub returns : goal.returns
returns c = other_status c.args.b.now c.if-status-eq1.false c.if-status-eq2.false
