-- `unanswered::is_proper` meets its contract.
use mathlib.Core.Path.{sym, ap, ◌∙◌, subst}
use mathlib.Core.List.{List}
use Prim.Native.Nat.{ℕ, ◌+◌, ◌-◌, ◌*◌, ◌≤◌}
use native.Mathlib.Omega.{arith}
use lib.ListN.{length, take, drop}
use Rattle.scan.specs.Bools.{decides_and, equals, at_most}
use Rattle.reader.specs.Reading.{Judged}
use Rattle.places.specs.Bytes.{number_at}
use Rattle.unanswered.specs.Waiting.{waiting, place}
use Rattle.unanswered.specs.Deciding.{sender_within, receiver_within, proper_is, no_answer, read_off}
use Rattle.unanswered.specs.Formed.{lent, lent_long}
use Rattle.unanswered.proofs.is_proper.Goals as goal
use Rattle.unanswered.proofs.is_proper.Goals.{After-text-s}

pub number_at-n-requires : goal.number_at-n-requires
number_at-n-requires c =
    let a = c.args in
    let h : 1 + 2 ≤ length (take (a.i * 1280 + 1280 - a.i * 1280) (drop (a.i * 1280) a.t.now)) = omega (arith, lent_long a.t.now a.i c.requires.0 c.requires.1) in
    h

-- the text is judged as the place's is
judged : (c : After-text-s) → Judged c.text-s.result.now c.requires.3.0 c.args.its
judged c = subst (λ (x : List ℕ). Judged x c.requires.3.0 c.args.its) (sym c.text-s.ensures) c.requires.3.1

pub is_part-requires : goal.is_part-requires
is_part-requires c = sender_within c.text-s.result.now c.requires.3.0 c.args.its (judged (goal.at.is_part-requires c).After-text-s)

pub is_part-requires-2 : goal.is_part-requires-2
is_part-requires-2 c = receiver_within c.text-s.result.now c.requires.3.0 c.args.its (judged (goal.at.is_part-requires-2 c).After-text-s)

pub returns : goal.returns
returns c =
    let n = c.number_at-n in
    let a = c.args in
    let w = waiting n.result c.text-s.result.now in
    read_off a.ours.now a.partners.now (place a.i a.t.now) _ _ _ (n.ensures ∙ ap (number_at 1) (lent a.t.now a.i)) c.text-s.ensures
    (proper_is a.ours.now a.partners.now w c.requires.3.0 a.its (judged (goal.at.returns c).After-text-s) _
    (decides_and (decides_and (decides_and (decides_and (no_answer _ _ c.is_answer.ensures) (equals a.its.figures.number n.result)) (at_most n.result 999)) c.is_part.ensures) c.is_part-2.ensures))
