-- `unanswered::look_at_place` meets its contract.
use borrow.Author.Tests.{not-true, not-false}
use mathlib.Core.Path.{sym, ◌∙◌}
use mathlib.Core.Bool.{false≢true}
use Prim.Native.Nat.{◌≤◌, ◌<◌}
use native.Mathlib.Omega.{arith}
use lib.ListN.{get_or}
use Rattle.places.specs.Bytes.{number_at}
use Rattle.unanswered.specs.Deciding.{rest_on, is_empty, not_empty, not_shaped, is_shaped}
use Rattle.unanswered.proofs.look_at_place.Goals as goal

pub returns-then-all_are : goal.returns-then-all_are
returns-then-all_are c = is_empty c.args.b.now c.requires _ c.all_are.ensures c.if-all_are.true

pub returns-then-b-eq0 : goal.returns-then-b-eq0
returns-then-b-eq0 c = not_empty c.args.b.now c.requires _ c.all_are.ensures c.if-b-eq0.true c.if-all_are.false

pub returns-then-b-ne1 : goal.returns-then-b-ne1
returns-then-b-ne1 c = not_shaped c.args.b.now c.if-b-eq0.false (λ s. c.if-b-ne1.true s.first)

pub returns-then-n-gt1275 : goal.returns-then-n-gt1275
returns-then-n-gt1275 c = not_shaped c.args.b.now c.if-b-eq0.false (λ s. omega (arith, s.short, c.number_at-n.ensures, c.if-n-gt1275.true))

pub returns-then-not-all_are : goal.returns-then-not-all_are
returns-then-not-all_are c =
    let b = c.args.b.now in
    let k = c.number_at-n in
    let d = rest_on b k.result c.requires k.ensures c.if-n-gt1275.false _ c.all_are-2.ensures in
    not_shaped b c.if-b-eq0.false (λ x. false≢true (sym (not-true _ c.if-not-all_are.true-raw) ∙ d.no x.rest))

pub returns : goal.returns
returns c =
    let b = c.args.b.now in
    let k = c.number_at-n in
    let d = rest_on b k.result c.requires k.ensures c.if-n-gt1275.false _ c.all_are-2.ensures in
    let lo : get_or b 2 0 < 256 = omega (arith, c.shared_slice_known-1.given 2) in
    let lu : get_or b 4 0 < 256 = omega (arith, c.shared_slice_known-1.given 4) in
    let short : number_at 3 b ≤ 1275 = omega (arith, k.ensures, c.if-n-gt1275.false) in
    is_shaped b c.requires lo lu (record { first = c.if-b-ne1.false; short = short; rest = d.yes (not-false _ c.if-not-all_are.false-raw) })
