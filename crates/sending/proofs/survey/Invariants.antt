-- `sending::survey` meets its contract. The invariant: what was found up to i, and what is from i on, is all.
use mathlib.Core.Path.{◌≡◌}
use mathlib.Core.Bool.{◌||◌}
use Prim.Native.Nat.{◌+◌, ◌≤◌, ◌-◌}
use Rattle.places.specs.Below.{Below}
use Rattle.unanswered.specs.Waiting.{FormedAt}
use Rattle.deeds.specs.Message.{message_of}
use Rattle.memory.specs.End.{waiting_in}
use Rattle.rules.specs.Sending.{any_waiting, count_waiting, naming, making}
use Rattle.sending.specs.Asked.{rest_of}
use Rattle.sending.proofs.survey.Given as goal

abbrev pub invariant-loop-i : goal.invariant-loop-i
invariant-loop-i l =
    (l.i ≤ 16) × (l.makers ≤ l.i) × Below (FormedAt l.ours l.partners l.u) l.i
    × (any_waiting (naming (message_of l.w l.r)) (waiting_in l.u) ≡ (l.named || any_waiting (naming (message_of l.w l.r)) (rest_of l.i l.u)))
    × (count_waiting making (waiting_in l.u) ≡ l.makers + count_waiting making (rest_of l.i l.u))

abbrev pub decreases-loop-i : goal.decreases-loop-i
decreases-loop-i l = 16 - l.i
