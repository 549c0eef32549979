-- `flights::tables::apart` meets its contract.
use Rattle.std.proofs.Common.{rules, ◌≡◌, length}
use borrow.Author.Tests.{ne_eqb}
use native.Mathlib.Omega.{arith}
use Rattle.flights.specs.Formed.{word_apart, raw_apart}
use Rattle.flights.proofs.tables.apart.Goals as goal

pub returns-then-word_at : goal.returns-then-word_at
returns-then-word_at c =
    let a = c.args.a.now in
    let b = c.args.b.now in
    let m : length a ≡ 768 = search rules in
    let n : length b ≡ 768 = search rules in
    word_apart a b m n 6 (omega arith) (omega arith) c.word_at.ensures c.word_at-2.ensures c.if-word_at.true

pub returns-then-word_at-2 : goal.returns-then-word_at-2
returns-then-word_at-2 c =
    let a = c.args.a.now in
    let b = c.args.b.now in
    let m : length a ≡ 768 = search rules in
    let n : length b ≡ 768 = search rules in
    word_apart a b m n 9 (omega arith) (omega arith) c.word_at-3.ensures c.word_at-4.ensures c.if-word_at-2.true

pub returns : goal.returns
returns c =
    let a = c.args.a.now in
    let b = c.args.b.now in
    let m : length a ≡ 768 = search rules in
    let n : length b ≡ 768 = search rules in
    raw_apart a b m n (ne_eqb _ _ c.if-a-eq0.false) (ne_eqb _ _ c.if-b-eq0.false) _ _ _ c.same-aircraft.ensures c.same-departure.ensures c.same-destination.ensures
