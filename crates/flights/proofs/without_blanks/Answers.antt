use Rattle.std.proofs.Common.{rules, ◌≡◌, length, [], ◌∷◌, ◌++◌, sym, ◌∙◌}
use Rattle.flights.specs.Trimming.{passed_blanks, passed_blank, stopped, none_left}
use Rattle.flights.proofs.without_blanks.Goals as goal

pub loop-front-preserved : goal.loop-front-preserved
loop-front-preserved c =
    let e = c.in-Some.ensures.cases in
    passed_blanks c.loop-front.text.now c.in-Some.front.now c.in-Some.last.now _ e.0 e.1 (sym c.all_are.ensures ∙ c.if-not-all_are.false) ∙ c.loop-front.invariant

pub loop-front-2-preserved : goal.loop-front-2-preserved
loop-front-2-preserved c =
    let h = c.in-Some-eq32-default in
    passed_blank c.loop-front-2.text.now h.front.now _ h.ensures.cases.0 h.field-0-0-test ∙ c.loop-front-2.invariant

pub returns-in_default-split_last : goal.returns-in_default-split_last
returns-in_default-split_last c =
    let p = c.in_default-split_last.field-0 in
    let e : c.loop-front-2.text.now ≡ p.1.now ++ (p.0.now ∷ []) = search rules in
    let n : p.0.now ≡ 32 → ⊥ = search rules in
    sym (stopped c.loop-front-2.text.now p.1.now p.0.now e n) ∙ c.loop-front-2.invariant

pub returns-in_default-split_last-2 : goal.returns-in_default-split_last-2
returns-in_default-split_last-2 c =
    let n : length c.loop-front-2.text.now ≡ 0 = search rules in
    sym (none_left c.loop-front-2.text.now n) ∙ c.loop-front-2.invariant
