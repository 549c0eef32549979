-- DEMAND 3: two fresh ends over a channel that loses, repeats and reorders (within 400 messages) agree on every flight, or one
-- holds an unanswered message naming it. World says what the ends and the channel are, Claims what is claimed of them.
use Rattle.std.specs.Prelude.{◌≡◌, ◌⊎◌, true, List, length, ℕ, ◌≤◌}
use Rattle.std.proofs.Math.Option.{some}
use Rattle.message.specs.declared.Kind.TheVariants.{Lam}
use Rattle.deeds.specs.Deeds.{Key, deed_of}
use Rattle.memory.specs.End.{Memory, Formed}
use Rattle.rules.specs.Reads.{message_in}
use Rattle.rules.specs.Answers.{is_acceptance}
use Rattle.rules.specs.Receiving.{receive}
use Rattle.rules.specs.declared.Outcome.{Outcome}
use Rattle.rules.specs.Calls.{Called}
use Rattle.pair.specs.World.{Copy, Among, Side, InTime, number, given, changed, answered, hears, Reach, begin, left, right, Run}
use Rattle.pair.specs.Claims.{Agrees, Unanswered}
use Rattle.pair.specs.Followed.{followed, turned}
use Rattle.pair.specs.Agreeing.{agreeing}
use Rattle.pair.specs.Arriving.{message_taken, message_answered, acceptance_taken_lem, answer_taken}
use Rattle.pair.specs.NoMore.{ran, given_stays, answers_stay, gone}

-- either of two partners may be called the first
pub partners : {a b : List ℕ} {X Y : Side} → Reach a b X Y → Reach b a Y X
partners (begin B C) = begin C B
partners (left R t) = right (partners R) t
partners (right R t) = left (partners R) t

-- STATEMENT 1: for each key and each direction the record of the flight is the same at both ends, or one end holds an unanswered
-- message that names the flight
pub same_or_waiting : {a b : List ℕ} {X Y : Side} → Reach a b X Y → (k : Key) → Agrees X Y k × Agrees Y X k
same_or_waiting R k = (agreeing (followed R) k, agreeing (turned (followed R)) k)

-- STATEMENT 2: a copy of a message of X has arrived in time, and s was given as its answer; then, after whatever else, that answer
-- has arrived in time: the message is unanswered no more, then and ever after
pub no_more : {a b : List ℕ} {X Y X₁ Y₁ X₂ Y₂ : Side} → Reach a b X Y
    → (c : Copy) → Among c X.messages → InTime X c
    → (out out' : List ℕ) (o : Outcome) (m : Memory) → Called (receive (length out) c.text) Y.head Y.memory out o m out'
    → (s : List ℕ) → given o out' ≡ some s
    → Run (answered c.index (given o out') X) (changed o m Y) X₁ Y₁
    → InTime X₁ c
    → (out₁ out₁' : List ℕ) (o₁ : Outcome) (m₁ : Memory) → Called (receive (length out₁) s) X₁.head X₁.memory out₁ o₁ m₁ out₁'
    → Run (changed o₁ m₁ X₁) Y₁ X₂ Y₂
    → Unanswered X₂ c.index → ⊥
no_more {X = X} R c l t out out' o m q s g before t₁ out₁ out₁' o₁ m₁ q₁ after =
    let d : Copy = record { index = c.index; text = s } in
    gone (ran (left R (hears c out out' o m l t q)) before) d (answers_stay d before (given_stays X c.index (given o out') s g)) t₁ out₁ out₁' o₁ m₁ q₁ after

-- A COPY THAT ARRIVES IN TIME IS ALWAYS ANSWERED, or the room lent is too small: never 1, 3, 4, 5, 6 or 12
pub always_answered : {a b : List ℕ} {X Y : Side} → Reach a b X Y
    → (c : Copy) → Among c X.messages → InTime X c
    → (out out' : List ℕ) (o : Outcome) (m : Memory) → Called (receive (length out) c.text) Y.head Y.memory out o m out'
    → (number o ≡ 0) ⊎ (number o ≡ 2)
always_answered R c l t out out' o m q = message_taken (followed R) c l t out out' o m q

-- WITH ROOM FOR THE LONGEST TEXT THAT IS READ it is never refused
pub answered_with_room : {a b : List ℕ} {X Y : Side} → Reach a b X Y
    → (c : Copy) → Among c X.messages → InTime X c
    → (out out' : List ℕ) (o : Outcome) (m : Memory) → Called (receive (length out) c.text) Y.head Y.memory out o m out'
    → 1077 ≤ length out → number o ≡ 0
answered_with_room R c l t out out' o m q h = message_answered (followed R) c l t out out' o m q h

-- AN ACCEPTANCE IS NEVER ANSWERED LRM, but always LAM
pub acceptance_stands : {a b : List ℕ} {X Y : Side} → Reach a b X Y
    → (c : Copy) → Among c X.messages → InTime X c
    → (out out' : List ℕ) (o : Outcome) (m : Memory) → Called (receive (length out) c.text) Y.head Y.memory out o m out'
    → (s : List ℕ) → given o out' ≡ some s → is_acceptance (deed_of (message_in c.text)) ≡ true → (message_in s).kind ≡ Lam
acceptance_stands R c l t out out' o m q s g a = acceptance_taken_lem (followed R) c l t out out' o m q s g a

-- AN ANSWER THAT ARRIVES IN TIME IS TAKEN, or its message was answered already: never 1, 2, 3, 4, 6 or 12
pub always_settled : {a b : List ℕ} {X Y : Side} → Reach a b X Y
    → (c : Copy) → Among c X.answers → InTime X c
    → (out out' : List ℕ) (o : Outcome) (m : Memory) → Called (receive (length out) c.text) X.head X.memory out o m out'
    → (number o ≡ 0) ⊎ (number o ≡ 5)
always_settled R c l t out out' o m q = answer_taken (followed R) c l t out out' o m q

-- THE MEMORY OF BOTH STAYS WELL FORMED, so that no call on them is ever refused by 12
pub always_formed : {a b : List ℕ} {X Y : Side} → Reach a b X Y → Formed X.head X.memory × Formed Y.head Y.memory
always_formed R = let F = followed R in (F.here.formed, F.there.formed)
