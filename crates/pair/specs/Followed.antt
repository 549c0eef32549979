-- EVERY WORLD FOLLOWS A RUN, whose scripts are what its ends have sent.
use Rattle.std.specs.Prelude.{◌≡◌, refl, List, [], ℕ, ◌<◌}
use Rattle.std.proofs.Math.Path.{sym, ap}
use Rattle.std.proofs.Common.{◌∙◌, subst, arith}
use Rattle.std.proofs.Math.Option.{Option, none, some}
use Rattle.std.proofs.Math.ListN.{length}
use Rattle.flights.specs.Table.{places}
use Rattle.memory.specs.End.{End}
use Rattle.rules.specs.Sending.{fresh}
use Rattle.pair.specs.kinds.Views.{Fresh}
use Rattle.pair.specs.kinds.Ends.{view_of, SoundEnd}
use Rattle.pair.specs.exchange.Runs as run
use Rattle.pair.specs.exchange.Runs.{Script}
use Rattle.pair.specs.exchange.Agreement.{mirrored, mirrored_run, numbered, next_number}
use Rattle.pair.specs.keeping.Memory.{fresh_sound}
use Rattle.pair.specs.views.Sent.{fresh_seen}
use Rattle.pair.specs.World.{Copy, Among, Side, count, given, logged, Turn, sends, resends, hears, learns, Begun, Reach, begin, left, right, Run, rest, then_left, then_right}
use Rattle.pair.specs.Follows.{script, text_at, text_older, Spells, Kept, next_formed, next_end}
use Rattle.pair.specs.Steps.{Onward, stays, turns, Next, sends_on, resends_on, hears_on, learns_on}

pub record Follows (a b : List ℕ) (σ τ : ℕ → List ℕ) (X Y : Side) : Type 0 where
  pub first : run.Side
  pub second : run.Side
  pub reach : run.Reach (script σ) (script τ) first second
  pub here : Kept a b σ X first
  pub there : Kept b a τ Y second

abbrev pub turned : {a b : List ℕ} {σ τ : ℕ → List ℕ} {X Y : Side} → Follows a b σ τ X Y → Follows b a τ σ Y X
turned F = record { first = F.second; second = F.first; reach = mirrored F.reach; here = F.there; there = F.here }

-- AT THE START

no_copy : {A : Type 0} {c : Copy} (l : List Copy) → l ≡ [] → Among c l → A
no_copy {A} {c} l e m = go (subst (Among c) e m)
  where
    go : Among c [] → A
    go m = elim m [ ]

module _ {a b : List ℕ} {X : Side} (B : Begun a b X) (σ : ℕ → List ℕ) where
  first_end_lem : End
  first_end_lem = fresh a b (places B.memory_before.sent) (places B.memory_before.received)

  first_sound : SoundEnd first_end_lem
  unfolding first_end_lem
  first_sound =
      let n = B.names in
      let s = B.sizes in
      fresh_sound a b (places B.memory_before.sent) (places B.memory_before.received) n s.sent.some s.sent.most s.received.some s.received.most

  first_fresh : Fresh (view_of first_end_lem)
  unfolding first_end_lem
  first_fresh = (fresh_seen a b (places B.memory_before.sent) (places B.memory_before.received)).0

  first_kept : Kept a b σ X (run.start (view_of first_end_lem))
  unfolding first_end_lem
  first_kept =
      let c = B.set_up.begun B.sizes B.names in
      let h = B.head ∙ c.1 in
      let z : count X ≡ 0 = ap length B.log in
      record {
        formed = next_formed X first_end_lem first_sound X.head X.memory h c.2;
        ours = ap (λ (u : _). u.ours) h;
        partners = ap (λ (u : _). u.partners) h;
        view = ap view_of (sym (next_end X first_end_lem first_sound X.head X.memory h c.2));
        len = sym z;
        told = λ i l. absurd (omega arith);
        copies = λ u m. no_copy X.messages B.messages m;
        waiting = λ p q i g l. absurd (omega arith);
        answers = λ u m. no_copy X.answers B.answers m;
      }

-- WHAT HAS BEEN SENT

spells_sent : (σ : ℕ → List ℕ) (g : Option (List ℕ)) (l : List (List ℕ)) → ((i : ℕ) → i < length (logged g l) → σ i ≡ text_at i (logged g l)) → (i : ℕ) → i < length l → σ i ≡ text_at i l
unfolding logged
spells_sent σ none l s i h = s i h
spells_sent σ (some w) l s i h = s i (omega arith) ∙ text_older i w l h

spells_back : {X Y X' Y' : Side} (σ : ℕ → List ℕ) → Turn X Y X' Y' → Spells σ X' → Spells σ X
spells_back σ (sends {X} {Y} d r out out' o m ask c) s = spells_sent σ (given o out') X.log s
spells_back σ (resends n out out' o m c) s = s
spells_back σ (hears c out out' o m l t q) s = s
spells_back σ (learns c out out' o m l t q) s = s

spells_other : {X Y X' Y' : Side} (τ : ℕ → List ℕ) → Turn X Y X' Y' → Spells τ Y' → Spells τ Y
spells_other τ (sends d r out out' o m ask c) s = s
spells_other τ (resends n out out' o m c) s = s
spells_other τ (hears c out out' o m l t q) s = s
spells_other τ (learns c out out' o m l t q) s = s

-- ONE TURN

turn_on : {a b : List ℕ} {σ τ : ℕ → List ℕ} {X Y X' Y' : Side} (F : Follows a b σ τ X Y) → Turn X Y X' Y' → Spells σ X' → Next a b σ τ F.first F.second X' Y'
turn_on F (sends d r out out' o m ask c) s = sends_on F.here F.there d r out out' o m c ask (next_number F.reach) s
turn_on F (resends n out out' o m c) s =
    resends_on F.here F.there n out out' o m (λ k u e. let v = numbered F.reach k u e in (v.0, v.1, v.2, v.3)) c
turn_on F (hears c out out' o m l t q) s = hears_on F.here F.there c out out' o m l t q
turn_on F (learns c out out' o m l t q) s = learns_on F.here F.there c out out' o m l t q

-- the run from x and y has come to x' and y'
pub record Onto (a b : List ℕ) (σ τ : ℕ → List ℕ) (x y : run.Side) (X' Y' : Side) : Type 0 where
  pub first : run.Side
  pub second : run.Side
  pub ran : run.Run (script σ) (script τ) x y first second
  pub here : Kept a b σ X' first
  pub there : Kept b a τ Y' second

onward_run : {s t : Script} {x y x₁ y₁ x₂ y₂ : run.Side} → run.Run s t x y x₁ y₁ → Onward s x₁ y₁ x₂ y₂ → run.Run s t x y x₂ y₂
onward_run R stays = R
onward_run R (turns t) = run.then_left R t

onto : {a b : List ℕ} {σ τ : ℕ → List ℕ} {x y x₁ y₁ : run.Side} {X Y : Side} → run.Run (script σ) (script τ) x y x₁ y₁ → Next a b σ τ x₁ y₁ X Y → Onto a b σ τ x y X Y
onto R N = record { first = N.first; second = N.second; ran = onward_run R N.onward; here = N.here; there = N.there }

-- where it has come to
abbrev came_to : {a b : List ℕ} {σ τ : ℕ → List ℕ} {X Y X' Y' : Side} (F : Follows a b σ τ X Y) → Onto a b σ τ F.first F.second X' Y' → Follows a b σ τ X' Y'
came_to F N = record { first = N.first; second = N.second; reach = run.further F.reach N.ran; here = N.here; there = N.there }

onto_turned : {a b : List ℕ} {σ τ : ℕ → List ℕ} {x y : run.Side} {X Y : Side} → Onto a b σ τ x y X Y → Onto b a τ σ y x Y X
onto_turned N = record { first = N.second; second = N.first; ran = mirrored_run N.ran; here = N.there; there = N.here }

-- A RUN

pub run_on : {a b : List ℕ} {σ τ : ℕ → List ℕ} {X Y X' Y' : Side} (F : Follows a b σ τ X Y) → Run X Y X' Y' → Spells σ X' → Spells τ Y' → Onto a b σ τ F.first F.second X' Y'
run_on F rest s t = record { first = F.first; second = F.second; ran = run.rest; here = F.here; there = F.there }
run_on {σ = σ} {τ = τ} F (then_left R u) s t =
    let N = run_on F R (spells_back σ u s) (spells_other τ u t) in
    onto N.ran (turn_on (came_to F N) u s)
run_on {σ = σ} {τ = τ} F (then_right R u) s t =
    let N = run_on F R (spells_other σ u s) (spells_back τ u t) in
    onto_turned (onto (mirrored_run N.ran) (turn_on (turned (came_to F N)) u t))

-- AND FROM THE START
pub follow : {a b : List ℕ} {X Y : Side} → Reach a b X Y → (σ τ : ℕ → List ℕ) → Spells σ X → Spells τ Y → Follows a b σ τ X Y
follow {a} {b} {X} {Y} (begin B C) σ τ s t = record {
  first = run.start (view_of (first_end_lem B σ));
  second = run.start (view_of (first_end_lem C τ));
  reach = run.begin (first_fresh B σ) (first_fresh C τ);
  here = first_kept B σ;
  there = first_kept C τ;
}
follow (left R u) σ τ s t =
    let F = follow R σ τ (spells_back σ u s) (spells_other τ u t) in
    came_to F (onto run.rest (turn_on F u s))
follow (right R u) σ τ s t =
    let F = follow R σ τ (spells_other σ u s) (spells_back τ u t) in
    came_to F (onto_turned (onto run.rest (turn_on (turned F) u t)))

-- the scripts are what was sent
pub followed : {a b : List ℕ} {X Y : Side} → Reach a b X Y → Follows a b (λ i. text_at i X.log) (λ i. text_at i Y.log) X Y
followed {X = X} {Y = Y} R = follow R (λ i. text_at i X.log) (λ i. text_at i Y.log) (λ i h. refl) (λ i h. refl)

-- what was sent before a run
pub run_back : {X Y X' Y' : Side} (σ : ℕ → List ℕ) → Run X Y X' Y' → Spells σ X' → Spells σ X
run_back σ rest s = s
run_back σ (then_left R u) s = run_back σ R (spells_back σ u s)
run_back σ (then_right R u) s = run_back σ R (spells_other σ u s)

pub run_back_other : {X Y X' Y' : Side} (τ : ℕ → List ℕ) → Run X Y X' Y' → Spells τ Y' → Spells τ Y
run_back_other τ rest s = s
run_back_other τ (then_left R u) s = run_back_other τ R (spells_other τ u s)
run_back_other τ (then_right R u) s = run_back_other τ R (spells_back τ u s)
