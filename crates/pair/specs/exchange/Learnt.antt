-- AN ANSWER COMES BACK to the sender.
use Rattle.std.specs.Prelude.{◌≡◌, ◌≢◌, Bool, true, false, List, [], ◌∷◌, ℕ, ◌+◌, ◌≤◌, ◌<◌}
use Rattle.std.proofs.Math.Path.{refl, sym, subst}
use Rattle.std.proofs.Common.{◌∙◌, ap, arith}
use Rattle.std.proofs.Math.Option.{none, some}
use Rattle.deeds.specs.Message.{Message}
use Rattle.deeds.specs.Deeds.{old}
use Rattle.pair.specs.kinds.Tools.{upd, true_false, none_some, some_inj}
use Rattle.pair.specs.kinds.Kinds.{Content, own, near, Table, put, grown, takes, is_yes}
use Rattle.pair.specs.kinds.Views.{View, Settles, Learns}
use Rattle.pair.specs.exchange.KindFacts.{own_near, takes_one, needs_place, room_kept, stored_is}
use Rattle.pair.specs.exchange.Runs.{Script, num, Side, Mem, become}
use Rattle.pair.specs.exchange.Numbers.{newest}
use Rattle.pair.specs.exchange.Waits.{Waiting, is_waiting, pull_on, pull_back, pulled}
use Rattle.pair.specs.exchange.Flights.{Done, yesed, alike, reframe, drop_own, apply_own, drop_near}
use Rattle.pair.specs.exchange.Halves.{Own, Shared, Half}

pub newest_yesed : (l : List ℕ) (x : ℕ) → newest l ≡ some x → yesed l ≡ is_yes x
unfolding newest yesed
newest_yesed [] x e = absurd (none_some refl e)
newest_yesed (y ∷ l) x e = ap is_yes (some_inj {o = some y} refl e)

pub newest_not_nil : (l : List ℕ) (x : ℕ) → newest l ≡ some x → l ≡ [] → ⊥
unfolding newest
newest_not_nil l x e q = none_some (ap newest q) e

module _ (s t : Script) (X Y : Side) (H : Half s t X Y) (G : Half t s Y X)
    (i x : ℕ) (lt : i < X.len) (in_time : X.len ≤ i + 400) (m : Mem x (X.given i)) {v : View} (C : Learns (num i) x X.view v) where
  o : Waiting s X.view.waits X.len i
  o = is_waiting H.waiting i C.what lt in_time C.held

  what_is : s i ≡ C.what
  what_is = some_inj o.2 C.held

  newest_x : newest (X.given i) ≡ some x
  newest_x = H.nums.agree i x m

  answered : X.given i ≡ [] → ⊥
  answered = newest_not_nil (X.given i) x newest_x

  -- the sender's flights, and the places for them
  After : Type 0
  After =
      Shared s (upd X.view.waits (num i) none) X.len X.given t Y.view.waits Y.len Y.given v.sent Y.view.received
      × (v.used + v.makers ≤ X.view.room)

  own_after : (c : Content) → s i ≡ c → Settles c x X.view v → v.makers + takes c ≡ X.view.makers → After
  unfolding After
  own_after (near c) e st mk = rw (st.0, st.1) (
    reframe H.flights (λ j p b. ((pull_back H.waiting i lt in_time j b.0).0, b.1))
        (λ j p b. (pull_on H.waiting i lt in_time j b.0 (λ q. own_near b.1 (ap s q ∙ e)), b.1)) (λ j p b. alike refl) (λ j d b. b) (λ j d b. b) (λ j d b. alike refl),
    omega (arith, H.places, mk),
  )
  own_after (own p) e st mk = go (is_yes x) refl
    where
      fwd : (j : ℕ) (q : Message) → Own s (upd X.view.waits (num i) none) X.len j q → Own s X.view.waits X.len j q × (j ≢ i)
      fwd j q b = let u = pull_back H.waiting i lt in_time j b.0 in ((u.0, b.1), u.1)

      bwd : (j : ℕ) (q : Message) → Own s X.view.waits X.len j q × (j ≢ i) → Own s (upd X.view.waits (num i) none) X.len j q
      bwd j q b = (pull_on H.waiting i lt in_time j b.0.0 b.1, b.0.1)

      go : (b : Bool) → is_yes x ≡ b
          → Shared s (upd X.view.waits (num i) none) X.len X.given t Y.view.waits Y.len Y.given v.sent Y.view.received
          × (v.used + v.makers ≤ X.view.room)
      -- a positive answer: it can be applied, and there is a place
      go true g = (
        subst (λ (S : Table). Shared s (upd X.view.waits (num i) none) X.len X.given t Y.view.waits Y.len Y.given S Y.view.received) (sym is.0)
            (reframe (apply_own H.flights i p d.0 (o, e) y d.1) fwd bwd (λ j q b. alike refl) (λ j q b. b) (λ j q b. b) (λ j q b. alike refl)),
        subst (λ (n : ℕ). n + v.makers ≤ X.view.room) (sym is.1)
            (room_kept (X.view.sent (old p)) d.0 X.view.used X.view.makers v.makers X.view.room spare (omega (arith, mk)) H.places),
      )
        where
          y : yesed (X.given i) ≡ true
          y = newest_yesed (X.given i) x newest_x ∙ g

          d : Done p X.view.sent H.flights.via
          d = H.flights.done_own i p (o, e) y

          spare : X.view.sent (old p) ≡ none → v.makers + 1 ≤ X.view.makers
          spare q = omega (arith, mk, takes_one p (needs_place p X.view.sent d.0 d.1 q))

          is : (v.sent ≡ put p d.0 X.view.sent) × (v.used ≡ grown (X.view.sent (old p)) d.0 X.view.used)
          is = stored_is (st.0 g) d.1 (λ q. omega (arith, spare q, H.places))
      go false g = rw ((st.1 g).0, (st.1 g).1) (
        reframe (drop_own H.flights i (λ y. true_false (sym (newest_yesed (X.given i) x newest_x) ∙ y) g)) fwd bwd (λ j q b. alike refl) (λ j q b. b) (λ j q b. b) (λ j q b. alike refl),
        omega (arith, H.places, mk),
      )

  -- the end afterwards, field by field
  learnt_view : View
  learnt_view = record {
    next = X.view.next;
    high = X.view.high;
    sent = v.sent;
    received = X.view.received;
    used = v.used;
    room = X.view.room;
    waits = upd X.view.waits (num i) none;
    makers = v.makers;
    kept = X.view.kept;
  }

  learnt_is : learnt_view ≡ v
  unfolding learnt_view
  learnt_is = sym (λ k. record {
    next = C.next k;
    high = C.high k;
    sent = v.sent;
    received = C.received k;
    used = v.used;
    room = C.room k;
    waits = C.waits k;
    makers = v.makers;
    kept = C.kept k;
  })

  pub learnt_own : Half s t (become v X) Y
  unfolding learnt_view After
  learnt_own = subst (λ (u : View). Half s t (become u X) Y) learnt_is (record {
    nums = H.nums;
    waiting = pulled H.waiting i lt in_time answered;
    flights = (own_after C.what what_is C.settles C.makers).0;
    places = (own_after C.what what_is C.settles C.makers).1;
  })

  pub learnt_near : Half t s Y (become v X)
  unfolding learnt_view
  learnt_near = subst (λ (u : View). Half t s Y (become u X)) learnt_is (record {
    nums = G.nums;
    waiting = G.waiting;
    flights = reframe (drop_near G.flights i answered) (λ j q b. b) (λ j q b. b) (λ j q b. alike refl)
        (λ j q b. let u = pull_back H.waiting i lt in_time j b.0 in ((u.0, b.1), u.1))
        (λ j q b. (pull_on H.waiting i lt in_time j b.0.0 b.1, b.0.1)) (λ j q b. alike refl);
    places = G.places;
  })
