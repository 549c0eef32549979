-- `perform::follow` meets its contract.
use mathlib.Core.Path.{sym, ap, ◌∙◌}
use Prim.Native.Nat.{ℕ}
use Rattle.deeds.specs.Message.{message_of}
use Rattle.deeds.specs.Deeds.{makes}
use Rattle.flights.specs.Table.{place}
use Rattle.perform.specs.Performed.{formed_held}
use Rattle.perform.specs.Ready.{ready, followed, left_failing, left_full}
use Rattle.perform.proofs.follow.Goals as goal

pub carry_out-requires : goal.carry_out-requires
carry_out-requires c =
    let h = c.requires in
    let a = c.args in
    let m = message_of a.w.now a.r in
    let i : ℕ = c.in-Done.i in
    let q = ready m a.table.now i (sym h.2 ∙ c.in-Done.is) in
    (h.0, q.within, formed_held (place i a.table.now) (h.1.each i q.within), ap makes c.deed_of.ensures ∙ q.free_or_not)

pub returns-in-Fails : goal.returns-in-Fails
returns-in-Fails c = let h = c.requires in let a = c.args in left_failing (message_of a.w.now a.r) a.table.now a.c h.1 h.2 c.in-Fails.is

pub returns-in-Full : goal.returns-in-Full
returns-in-Full c = let h = c.requires in let a = c.args in left_full (message_of a.w.now a.r) a.table.now a.c h.1 h.2 c.in-Full.is

pub returns-in-Done : goal.returns-in-Done
returns-in-Done c =
    let h = c.requires in
    let a = c.args in
    let m = message_of a.w.now a.r in
    let i : ℕ = c.in-Done.i in
    followed m a.table.now a.c i h.1 h.2 c.in-Done.is c.deed_of.ensures c.carry_out.ensures
