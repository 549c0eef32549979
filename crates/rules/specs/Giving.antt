-- A text that was put at the start of a buffer.
use Rattle.std.specs.Prelude.{◌≡◌, List, ◌++◌, ℕ, ◌+◌, ◌≤◌, ◌<◌, length, drop}
use Rattle.std.proofs.Common.{ap, ◌∙◌, arith}
use Rattle.head.specs.declared.Head.{Head}
use Rattle.splice.specs.Splice.{splice, Spliced}
use Rattle.rules.specs.declared.Answer.TheVariants.{Done, NoRoom}
use Rattle.rules.specs.Calls.{Gives}

pub gave : (h : Head) (t out e : List ℕ) (n : ℕ) → length t ≤ length out → Spliced 0 t out e n → Gives h t out (record { answer = Done n; head = h }) e
unfolding splice
gave h t out e n k p =
    let z : n ≡ length t = omega (arith, p.place) in
    let y : 0 + length t ≡ length t = omega arith in
    (λ i. h, (λ l. (ap Done z, p.bytes ∙ ap (λ (x : ℕ). t ++ drop x out) y), λ l. absurd (omega arith)))

pub gave_none : (h : Head) (t out : List ℕ) → length out < length t → Gives h t out (record { answer = NoRoom; head = h }) out
gave_none h t out k = (λ i. h, (λ l. absurd (omega arith), λ l. (λ i. NoRoom, λ i. out)))
