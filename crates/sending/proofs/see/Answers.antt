-- `sending::see` meets its contract.
use borrow.Author.Tests.{not-true, not-false}
use mathlib.Core.Path.{◌≡◌, sym, subst}
use mathlib.Core.Bool.{Bool, true}
use mathlib.Core.List.{List}
use Prim.Native.Nat.{ℕ}
use Rattle.scan.specs.Bools.{Decides}
use Rattle.message.specs.declared.Verdict.TheVariants.{Read}
use Rattle.reader.specs.Reading.{Judged}
use Rattle.unanswered.specs.declared.Shown.{Shown}
use Rattle.unanswered.specs.declared.Shown.TheVariants.{Broken, Empty, Message}
use Rattle.unanswered.specs.Waiting.{waiting_of, place, FormedAt, ShowsAt}
use Rattle.unanswered.specs.Deciding.{proper_read}
use Rattle.unanswered.specs.Formed.{broken_at, proper_at}
use Rattle.deeds.specs.Message.{message_of}
use Rattle.sending.specs.Asked.{is_naming, is_making}
use Rattle.sending.specs.Survey.{sees_broken, sees_empty, sees_message}
use Rattle.sending.proofs.see.Goals as goal
use Rattle.sending.proofs.see.Goals.{After-look-l, After-is_proper}

-- what is shown, once it is told which it is
shown_as : (c : After-look-l) (x : Shown) → c.look-l.result ≡ x → ShowsAt c.args.u.now c.args.i x
shown_as c x e = subst (ShowsAt c.args.u.now c.args.i) e c.look-l.ensures

-- a place that shows a message, once its text is read
module _ (c : After-is_proper) where
  message : ShowsAt c.args.u.now c.args.i Message
  message = subst (ShowsAt c.args.u.now c.args.i) c.in-Message.is c.look-l.ensures

  formed : Decides c.is_proper.result (FormedAt c.args.ours.now c.args.partners.now c.args.u.now c.args.i)
  formed = proper_at c.args.ours.now c.args.partners.now c.args.u.now c.args.i message _ c.is_proper.ensures

  kept : c.is_proper.result ≡ true → Judged c.text-s.result.now Read c.read-q.result.record
  kept y =
      let a = c.args in
      let q = c.read-q in
      let e = c.text-s.ensures in
      let j = subst (λ (x : List ℕ). Judged x q.result.verdict q.result.record) e q.ensures in
      subst (λ (x : List ℕ). Judged x Read q.result.record) (sym e) (proper_read a.ours.now a.partners.now (waiting_of (place a.i a.u.now)) q.result.verdict q.result.record j (c.is_proper.ensures.yes y))

pub text-s-requires : goal.text-s-requires
text-s-requires c = let h = c.requires in (h.0, h.1, (shown_as (goal.at.text-s-requires c).After-look-l Message c.in-Message.is).0.1)

pub is_proper-requires : goal.is_proper-requires
is_proper-requires c =
    let h = c.requires in
    let q = c.read-q in
    (h.0, h.1, (shown_as (goal.at.is_proper-requires c).After-look-l Message c.in-Message.is).0.1, (q.result.verdict, subst (λ (x : List ℕ). Judged x q.result.verdict q.result.record) c.text-s.ensures q.ensures))

pub names_one-requires : goal.names_one-requires
names_one-requires c = (c.requires.2, kept (goal.at.names_one-requires c).After-is_proper (not-false _ c.if-not-is_proper.false-raw))

pub returns-then-not-is_proper : goal.returns-then-not-is_proper
returns-then-not-is_proper c =
    let a = c.args in
    sees_broken a.ours.now a.partners.now (message_of a.w.now a.r) a.u.now a.i (subst (λ (b : Bool). Decides b (FormedAt a.ours.now a.partners.now a.u.now a.i)) (not-true _ c.if-not-is_proper.true-raw) (formed (goal.at.returns-then-not-is_proper c).After-is_proper))

pub returns-in-Broken : goal.returns-in-Broken
returns-in-Broken c =
    let a = c.args in
    sees_broken a.ours.now a.partners.now (message_of a.w.now a.r) a.u.now a.i (broken_at a.ours.now a.partners.now a.u.now a.i (shown_as (goal.at.returns-in-Broken c).After-look-l Broken c.in-Broken.is))

pub returns-in-Empty : goal.returns-in-Empty
returns-in-Empty c = let a = c.args in sees_empty a.ours.now a.partners.now (message_of a.w.now a.r) a.u.now a.i (shown_as (goal.at.returns-in-Empty c).After-look-l Empty c.in-Empty.is)

pub returns-else-not-is_proper : goal.returns-else-not-is_proper
returns-else-not-is_proper c =
    let a = c.args in
    let m = message_of a.w.now a.r in
    let q = waiting_of (place a.i a.u.now) in
    let e = c.text-s.ensures in
    let y = not-false _ c.if-not-is_proper.false-raw in
    sees_message a.ours.now a.partners.now m a.u.now a.i (message (goal.at.returns-else-not-is_proper c).After-is_proper) (subst (λ (b : Bool). Decides b (FormedAt a.ours.now a.partners.now a.u.now a.i)) y (formed (goal.at.returns-else-not-is_proper c).After-is_proper)) _ _
    (is_naming m _ _ _ q (kept (goal.at.returns-else-not-is_proper c).After-is_proper y) e c.names_one.ensures) (is_making _ _ _ _ q (kept (goal.at.returns-else-not-is_proper c).After-is_proper y) e c.deed_of.ensures c.makes.ensures)

pub deed_of-requires : goal.deed_of-requires
deed_of-requires c = kept (goal.at.deed_of-requires c).After-is_proper (not-false _ c.if-not-is_proper.false-raw)
