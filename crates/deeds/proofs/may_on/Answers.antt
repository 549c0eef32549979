-- `deeds::may_on` meets its contract.
use borrow.Author.Rules.{rules}
use mathlib.Core.Path.{sym, ◌∙◌}
use Rattle.flights.specs.Table.{place, lent, lent_long}
use Rattle.flights.specs.Decoded.{flights_in}
use Rattle.deeds.specs.Message.{message_of}
use Rattle.deeds.specs.Applying.{other}
use Rattle.deeds.specs.Laws.{amends_chg, may_file, may_enter, may_nothing, may_amend, may_estimate, may_cancel, may_offer, may_retract, may_accept}
use Rattle.deeds.proofs.may_on.Goals as goal

pub key_unused-requires : goal.key_unused-requires
key_unused-requires c =
    let a = c.args in
    (c.requires.1, amends_chg a.r.kind (message_of a.w.now a.r) (sym c.requires.2 ∙ c.in-Amends.is))

pub returns-in-Files : goal.returns-in-Files
returns-in-Files c =
    let a = c.args in
    let m = message_of a.w.now a.r in
    may_file a.d m (place a.i a.table.now) _ (lent a.table.now a.i) (other m (flights_in a.table.now)) c.in-Files.is

pub returns-in-Enters : goal.returns-in-Enters
returns-in-Enters c =
    let a = c.args in
    let m = message_of a.w.now a.r in
    may_enter a.d m (place a.i a.table.now) _ (lent a.table.now a.i) (other m (flights_in a.table.now)) c.in-Enters.is

pub returns-in-Amends : goal.returns-in-Amends
returns-in-Amends c =
    let a = c.args in
    let m = message_of a.w.now a.r in
    may_amend a.d m (place a.i a.table.now) _ (lent a.table.now a.i) (other m (flights_in a.table.now)) c.in-Amends.is _ _ c.refers.ensures c.key_unused.ensures

pub returns-in-Estimates : goal.returns-in-Estimates
returns-in-Estimates c =
    let a = c.args in
    let m = message_of a.w.now a.r in
    may_estimate a.d m (place a.i a.table.now) _ (lent a.table.now a.i) (other m (flights_in a.table.now)) c.in-Estimates.is _ _ c.refers-in-Estimates.ensures c.code_fits.ensures

pub returns-in-Cancels : goal.returns-in-Cancels
returns-in-Cancels c =
    let a = c.args in
    let m = message_of a.w.now a.r in
    may_cancel a.d m (place a.i a.table.now) _ (lent a.table.now a.i) (other m (flights_in a.table.now)) c.in-Cancels.is _ c.refers-in-Cancels.ensures

pub returns-in-Offers : goal.returns-in-Offers
returns-in-Offers c =
    let a = c.args in
    let m = message_of a.w.now a.r in
    may_offer a.d m (place a.i a.table.now) _ (lent a.table.now a.i) (other m (flights_in a.table.now)) c.in-Offers.is _ _ c.refers-in-Offers.ensures c.code_fits-in-Offers.ensures

pub returns-in-Retracts : goal.returns-in-Retracts
returns-in-Retracts c =
    let a = c.args in
    let m = message_of a.w.now a.r in
    may_retract a.d m (place a.i a.table.now) _ (lent a.table.now a.i) (other m (flights_in a.table.now)) c.in-Retracts.is _ c.is_offer.ensures

pub returns-in-Accepts : goal.returns-in-Accepts
returns-in-Accepts c =
    let a = c.args in
    let m = message_of a.w.now a.r in
    may_accept a.d m (place a.i a.table.now) _ (lent a.table.now a.i) (other m (flights_in a.table.now)) c.in-Accepts.is _ c.is_offer-in-Accepts.ensures

pub returns-in-Nothing : goal.returns-in-Nothing
returns-in-Nothing c =
    let a = c.args in
    let m = message_of a.w.now a.r in
    may_nothing a.d m (place a.i a.table.now) _ (lent a.table.now a.i) (other m (flights_in a.table.now)) c.in-Nothing.is

pub bounds-b-0 : goal.bounds-b-0
bounds-b-0 c = let a = c.args in search (rules, lent_long a.table.now a.i c.requires.0)

pub refers-requires : goal.refers-requires
refers-requires c = let a = c.args in (lent_long a.table.now a.i c.requires.0, c.requires.1)

pub bounds-b-0-in-Estimates : goal.bounds-b-0-in-Estimates
bounds-b-0-in-Estimates c = let a = c.args in search (rules, lent_long a.table.now a.i c.requires.0)

pub refers-requires-in-Estimates : goal.refers-requires-in-Estimates
refers-requires-in-Estimates c = let a = c.args in (lent_long a.table.now a.i c.requires.0, c.requires.1)

pub code_fits-requires : goal.code_fits-requires
code_fits-requires c = let a = c.args in (lent_long a.table.now a.i c.requires.0, c.requires.1)

pub bounds-b-1 : goal.bounds-b-1
bounds-b-1 c = let a = c.args in search (rules, lent_long a.table.now a.i c.requires.0)

pub refers-requires-in-Cancels : goal.refers-requires-in-Cancels
refers-requires-in-Cancels c = let a = c.args in (lent_long a.table.now a.i c.requires.0, c.requires.1)

pub bounds-b-0-in-Offers : goal.bounds-b-0-in-Offers
bounds-b-0-in-Offers c = let a = c.args in search (rules, lent_long a.table.now a.i c.requires.0)

pub bounds-b-1-in-Offers : goal.bounds-b-1-in-Offers
bounds-b-1-in-Offers c = let a = c.args in search (rules, lent_long a.table.now a.i c.requires.0)

pub refers-requires-in-Offers : goal.refers-requires-in-Offers
refers-requires-in-Offers c = let a = c.args in (lent_long a.table.now a.i c.requires.0, c.requires.1)

pub code_fits-requires-in-Offers : goal.code_fits-requires-in-Offers
code_fits-requires-in-Offers c = let a = c.args in (lent_long a.table.now a.i c.requires.0, c.requires.1)

pub is_offer-requires : goal.is_offer-requires
is_offer-requires c = let a = c.args in lent_long a.table.now a.i c.requires.0

pub is_offer-requires-in-Accepts : goal.is_offer-requires-in-Accepts
is_offer-requires-in-Accepts c = let a = c.args in lent_long a.table.now a.i c.requires.0
