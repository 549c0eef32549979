-- UNANSWERED NO MORE: once a copy of a message and then a copy of the answer given to it have arrived, and ever after.
use Rattle.std.specs.Prelude.{◌≡◌, refl, List, ℕ, ◌<◌, length}
use Rattle.std.proofs.Common.{sym, ap, ◌∙◌, subst, arith}
use Rattle.std.proofs.Math.Option.{Option, none, some}
use Rattle.memory.specs.End.{End, Memory, waiting_in}
use Rattle.rules.specs.Replies.{Reply, number as by}
use Rattle.rules.specs.Receiving.{receive}
use Rattle.rules.specs.declared.Outcome.{Outcome}
use Rattle.rules.specs.Calls.{Called, Comes}
use Rattle.pair.specs.kinds.Tools.{none_some}
use Rattle.pair.specs.kinds.Kinds.{Content}
use Rattle.pair.specs.kinds.Views.{View}
use Rattle.pair.specs.kinds.Ends.{waits_in}
use Rattle.pair.specs.exchange.Runs as run
use Rattle.pair.specs.exchange.Runs.{num}
use Rattle.pair.specs.exchange.Agreement as agreement
use Rattle.pair.specs.keeping.Memory.{sound_of}
use Rattle.pair.specs.keeping.Calls.{receive_sound}
use Rattle.pair.specs.World.{Copy, Among, here, there, Side, InTime, latest, given, copied, changed, Turn, sends, resends, hears, learns, Reach, left, right, Run, rest, then_left, then_right}
use Rattle.pair.specs.Claims.{Unanswered}
use Rattle.pair.specs.Came.{came_refused, came_done}
use Rattle.pair.specs.Parts.{waits_held, latest_at, learn_seen}
use Rattle.pair.specs.Follows.{script, text_at, Spells, end_in, next_end}
use Rattle.pair.specs.Followed.{Follows, Onto, follow, run_on, run_back, run_back_other}
use Rattle.pair.specs.Arriving.{reply, heard, answer_waited, answer_late}

-- WHAT THE CHANNEL HAS, it keeps

copies_stay : (d : Copy) (i : ℕ) (g : Option (List ℕ)) (l : List Copy) → Among d l → Among d (copied i g l)
unfolding copied
copies_stay d i none l m = m
copies_stay d i (some w) l m = there m

turn_stays : {X Y X' Y' : Side} (d : Copy) → Turn X Y X' Y' → Among d X.answers → Among d X'.answers
turn_stays d (sends e r out out' o m ask c) k = k
turn_stays d (resends n out out' o m c) k = k
turn_stays d (hears {X} c out out' o m l t q) k = copies_stay d c.index (given o out') X.answers k
turn_stays d (learns c out out' o m l t q) k = k

turn_stays_other : {X Y X' Y' : Side} (d : Copy) → Turn X Y X' Y' → Among d Y.answers → Among d Y'.answers
turn_stays_other d (sends e r out out' o m ask c) k = k
turn_stays_other d (resends n out out' o m c) k = k
turn_stays_other d (hears c out out' o m l t q) k = k
turn_stays_other d (learns c out out' o m l t q) k = k

pub answers_stay : {X Y X' Y' : Side} (d : Copy) → Run X Y X' Y' → Among d X.answers → Among d X'.answers
answers_stay d rest k = k
answers_stay d (then_left R u) k = turn_stays d u (answers_stay d R k)
answers_stay d (then_right R u) k = turn_stays_other d u (answers_stay d R k)

pub given_stays : (X : Side) (i : ℕ) (g : Option (List ℕ)) (s : List ℕ) → g ≡ some s → Among (record { index = i; text = s }) (copied i g X.answers)
unfolding copied
given_stays X i g s e = subst (λ (u : Option (List ℕ)). Among (record { index = i; text = s }) (copied i u X.answers)) (sym e) here

pub ran : {a b : List ℕ} {X Y X' Y' : Side} → Reach a b X Y → Run X Y X' Y' → Reach a b X' Y'
ran R rest = R
ran R (then_left q u) = left (ran R q) u
ran R (then_right q u) = right (ran R q) u

-- ONCE THE ANSWER HAS ARRIVED, the message does not wait
module _ {a b : List ℕ} {σ τ : ℕ → List ℕ} {X Y : Side} (F : Follows a b σ τ X Y) (c : Copy) (l : Among c X.answers) (t : InTime X c) (out out' : List ℕ) (o : Outcome) (m : Memory) (q : Called (receive (length out) c.text) X.head X.memory out o m out') where
  left_so : Comes (receive (length out) c.text (end_in X)) X.head X.memory out o m out'
  left_so = q.formed F.here.formed

  waits_no_more : waits_in (waiting_in m.unanswered) (num c.index) ≡ none
  waits_no_more = go (waits_in (end_in X).unanswered (num c.index)) refl
    where
      go : (w : Option Content) → waits_in (end_in X).unanswered (num c.index) ≡ w → waits_in (waiting_in m.unanswered) (num c.index) ≡ none
      go none p =
          let r = came_refused X.head X.memory out o m out' (by 5) (omega arith) (subst (λ (y : Reply). Comes y X.head X.memory out o m out') (answer_late F c l t (length out) p) left_so) in
          ap (λ (u : Memory). waits_in (waiting_in u.unanswered) (num c.index)) r.memory ∙ p
      go (some w) p =
          let d = answer_waited F c l t (length out) w p in
          let g = came_done X.head X.memory out o m out' d.0 d.1 (subst (λ (y : Reply). Comes y X.head X.memory out o m out') d.2 left_so) in
          let s = sound_of X.head X.memory F.here.formed in
          let h = heard F c l t in
          let n = learn_seen (end_in X) s c.text h.read h.directed h.answer (reply F c l t).1.value h.kind (length out) d.0 d.1 d.2 in
          let e = next_end X d.0 (receive_sound (length out) c.text (end_in X) d.0 d.1 s d.2).sound o.head m g.head g.memory in
          ap (λ (u : End). waits_in u.unanswered (num c.index)) e ∙ ap (waits_in d.0.unanswered) (sym h.number) ∙ agreement.settled_now n

-- AN UNANSWERED MESSAGE is one that waits in the run that is followed
waits_so : {a b : List ℕ} {σ τ : ℕ → List ℕ} {X Y : Side} (F : Follows a b σ τ X Y) (i : ℕ) → Unanswered X i → agreement.Awaits (script σ) F.first i
waits_so {σ = σ} {X = X} F i u = go (waits_in (end_in X).unanswered u.message.number) refl
  where
    go : (w : Option Content) → waits_in (end_in X).unanswered u.message.number ≡ w → agreement.Awaits (script σ) F.first i
    go none p = absurd (waits_held (end_in X).unanswered u.spot u.message u.message.number u.held refl p)
    go (some w) p =
        let e : F.first.view.waits u.message.number ≡ some w = ap (λ (v : View). v.waits u.message.number) F.here.view ∙ p in
        let k = agreement.numbered F.reach u.message.number w e in
        let j : k.0 ≡ i = sym (latest_at F.first.len k.0 k.1 k.2) ∙ (λ z. latest (F.here.len z) (sym k.3 z)) ∙ u.index in
        subst (agreement.Awaits (script σ) F.first) j (k.1, k.2, ap F.first.view.waits (sym k.3) ∙ e ∙ ap (λ (v : Content). some v) k.4)

-- FOR GOOD
pub gone : {a b : List ℕ} {X Y X' Y' : Side} → Reach a b X Y → (c : Copy) → Among c X.answers → InTime X c → (out out' : List ℕ) (o : Outcome) (m : Memory) → Called (receive (length out) c.text) X.head X.memory out o m out' → Run (changed o m X) Y X' Y' → Unanswered X' c.index → ⊥
gone {a} {b} {X} {Y} {X'} {Y'} R c l t out out' o m q after u = (agreement.for_good G.reach N.ran c.index below un).1 (waits_so E c.index u)
  where
    σ : ℕ → List ℕ
    σ i = text_at i X'.log

    τ : ℕ → List ℕ
    τ i = text_at i Y'.log

    here_σ : Spells σ (changed o m X)
    here_σ = run_back σ after (λ i h. refl)

    there_τ : Spells τ Y
    there_τ = run_back_other τ after (λ i h. refl)

    F : Follows a b σ τ X Y
    F = follow R σ τ here_σ there_τ

    G : Follows a b σ τ (changed o m X) Y
    G = follow (left R (learns c out out' o m l t q)) σ τ here_σ there_τ

    N : Onto a b σ τ G.first G.second X' Y'
    N = run_on G after (λ i h. refl) (λ i h. refl)

    E : Follows a b σ τ X' Y'
    E = record { first = N.first; second = N.second; reach = run.further G.reach N.ran; here = N.here; there = N.there }

    below : c.index < G.first.len
    below = omega (arith, (reply F c l t).0, G.here.len)

    un : agreement.Awaits (script σ) G.first c.index → ⊥
    un w = none_some (ap (λ (v : View). v.waits (num c.index)) G.here.view ∙ waits_no_more F c l t out out' o m q) w.2
