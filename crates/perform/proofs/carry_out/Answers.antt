-- `perform::carry_out` meets its contract.
use mathlib.Core.Path.{refl}
use Rattle.excerpt.specs.ByKind.{own_paired}
use Rattle.excerpt.proofs.Fitting.{own_fits, changes_fits, estimate_fits}
use Rattle.flights.specs.Flight as f
use Rattle.flights.specs.Flight.{filed, accepted}
use Rattle.flights.specs.Made.{byte_filed, byte_none, byte_accepted}
use Rattle.deeds.specs.Message.{message_of}
use Rattle.excerpt.specs.Sizes.{number_small}
use Rattle.perform.specs.Changing.{handoff_changes}
use Rattle.perform.specs.Performed.{filed_written, entered_written, amended_written, estimated_written, cancelled_written, offered_written, retracted_written, accepted_written, nothing_written}
use Rattle.perform.proofs.carry_out.Goals as goal

pub file-requires : goal.file-requires
file-requires c =
    let a = c.args in
    let h = c.requires in
    (h.1, own_fits a.w.now a.r h.0, own_paired a.w.now a.r h.0, number_small a.w.now a.r h.0)

pub enter-requires : goal.enter-requires
enter-requires c =
    let a = c.args in
    let h = c.requires in
    (h.1, own_fits a.w.now a.r h.0, own_paired a.w.now a.r h.0, estimate_fits a.w.now a.r h.0, number_small a.w.now a.r h.0)

pub amend-requires : goal.amend-requires
amend-requires c =
    let a = c.args in
    let h = c.requires in
    (h.1, changes_fits a.w.now a.r h.0)

pub estimate-requires : goal.estimate-requires
estimate-requires c =
    let a = c.args in
    let h = c.requires in
    (h.1, estimate_fits a.w.now a.r h.0)

pub offer-requires : goal.offer-requires
offer-requires c =
    let a = c.args in
    let h = c.requires in
    (h.1, number_small a.w.now a.r h.0)

pub returns-in-Files : goal.returns-in-Files
returns-in-Files c =
    let a = c.args in
    let h = c.requires in
    filed_written a.i (message_of a.w.now a.r) a.table.now _ a.d h.1 h.2 h.3 c.in-Files.is (c.file.ensures filed byte_filed)

pub returns-in-Enters : goal.returns-in-Enters
returns-in-Enters c =
    let a = c.args in
    let h = c.requires in
    entered_written a.i (message_of a.w.now a.r) a.table.now _ a.d h.1 h.2 h.3 c.in-Enters.is c.enter.ensures

pub returns-in-Amends : goal.returns-in-Amends
returns-in-Amends c =
    let a = c.args in
    let h = c.requires in
    amended_written a.i (message_of a.w.now a.r) a.table.now _ a.d h.1 h.2 h.3 c.in-Amends.is c.amend.ensures

pub returns-in-Estimates : goal.returns-in-Estimates
returns-in-Estimates c =
    let a = c.args in
    let h = c.requires in
    estimated_written a.i (message_of a.w.now a.r) a.table.now _ a.d h.1 h.2 h.3 c.in-Estimates.is c.estimate.ensures

pub returns-in-Cancels : goal.returns-in-Cancels
returns-in-Cancels c =
    let a = c.args in
    let h = c.requires in
    cancelled_written a.i (message_of a.w.now a.r) a.table.now _ a.d h.1 h.2 h.3 c.in-Cancels.is c.free.ensures

pub returns-in-Offers : goal.returns-in-Offers
returns-in-Offers c =
    let a = c.args in
    let h = c.requires in
    offered_written a.i (message_of a.w.now a.r) a.table.now _ a.d h.1 h.2 h.3 c.in-Offers.is c.offer.ensures

pub returns-in-Retracts : goal.returns-in-Retracts
returns-in-Retracts c =
    let a = c.args in
    let h = c.requires in
    retracted_written a.i (message_of a.w.now a.r) a.table.now _ a.d h.1 h.2 h.3 c.in-Retracts.is (handoff_changes a.i 0 f.none a.table.now _ byte_none h.1 c.set_byte.ensures)

pub returns-in-Accepts : goal.returns-in-Accepts
returns-in-Accepts c =
    let a = c.args in
    let h = c.requires in
    accepted_written a.i (message_of a.w.now a.r) a.table.now _ a.d h.1 h.2 h.3 c.in-Accepts.is (handoff_changes a.i 2 accepted a.table.now _ byte_accepted h.1 c.set_byte-in-Accepts.ensures)

pub returns-in-Nothing : goal.returns-in-Nothing
returns-in-Nothing c =
    let a = c.args in
    let h = c.requires in
    nothing_written a.i (message_of a.w.now a.r) a.table.now _ a.d h.1 h.2 h.3 c.in-Nothing.is refl
