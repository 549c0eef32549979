-- ANSWERS: which is given to a message, and which a message may get.
use Rattle.std.specs.Prelude.{Bool, true, false, not, ℕ}
use Rattle.message.specs.declared.Kind.{Kind}
use Rattle.message.specs.declared.Kind.TheVariants.{None, Fpl, Cpl, Est, Chg, Cnl, Rti, Rta, Rla, Lam, Lrm}
use Rattle.deeds.specs.declared.Deed.{Deed}
use Rattle.deeds.specs.declared.Deed.TheVariants.{Files, Enters, Amends, Estimates, Cancels, Offers, Retracts, Accepts, Nothing}
use Rattle.deeds.specs.declared.Decision.{Decision}
use Rattle.deeds.specs.declared.Decision.TheVariants.{Fails, Full, Done}

-- given answers: 0 none, 1 LAM, 2 RLA, 57 or 62 that LRM

-- what is answered where a message was applied: LAM, to an RTI RLA
unfoldable pub good_answer : Deed → ℕ
good_answer Files = 1
good_answer Enters = 1
good_answer Amends = 1
good_answer Estimates = 1
good_answer Cancels = 1
good_answer Offers = 2
good_answer Retracts = 1
good_answer Accepts = 1
good_answer Nothing = 1

-- if the condition fails LRM 57; if its table is full, LRM 62
unfoldable pub answer_to : Deed → Decision → ℕ
answer_to d Fails = 57
answer_to d Full = 62
answer_to d (Done i) = good_answer d

unfoldable pub is_offering : Deed → Bool
is_offering Files = false
is_offering Enters = false
is_offering Amends = false
is_offering Estimates = false
is_offering Cancels = false
is_offering Offers = true
is_offering Retracts = false
is_offering Accepts = false
is_offering Nothing = false

unfoldable pub is_acceptance : Deed → Bool
is_acceptance Files = false
is_acceptance Enters = false
is_acceptance Amends = false
is_acceptance Estimates = false
is_acceptance Cancels = false
is_acceptance Offers = false
is_acceptance Retracts = false
is_acceptance Accepts = true
is_acceptance Nothing = false

-- refusal 6: LAM to an RTI, RLA to another, LRM to an acceptance
unfoldable pub proper : Kind → Deed → Bool
proper None d = false
proper Fpl d = false
proper Cpl d = false
proper Est d = false
proper Chg d = false
proper Cnl d = false
proper Rti d = false
proper Rta d = false
proper Rla d = is_offering d
proper Lam d = not (is_offering d)
proper Lrm d = not (is_acceptance d)

-- LAM and RLA say that the message was applied
unfoldable pub is_good : Kind → Bool
is_good None = false
is_good Fpl = false
is_good Cpl = false
is_good Est = false
is_good Chg = false
is_good Cnl = false
is_good Rti = false
is_good Rta = false
is_good Rla = true
is_good Lam = true
is_good Lrm = false
