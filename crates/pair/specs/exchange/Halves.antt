-- THE INVARIANT OF TWO PARTNERS, one direction at a time; and that sending keeps it.
use Rattle.std.specs.Prelude.{◌≡◌, ◌⊎◌, Bool, true, false, List, ℕ, ◌+◌, ◌%◌, ◌≤◌}
use Rattle.std.proofs.Math.Path.{refl, sym, subst}
use Rattle.std.proofs.Common.{◌∙◌, ap, inl, inr, arith}
use Rattle.std.proofs.Math.Option.{Option, some}
use Rattle.deeds.specs.Message.{Message}
use Rattle.deeds.specs.Deeds.{deed_of, makes}
use Rattle.pair.specs.kinds.Tools.{upd}
use Rattle.pair.specs.kinds.Kinds.{Content, own, near, Table, takes, clash}
use Rattle.pair.specs.kinds.Views.{View, Opening, Sends}
use Rattle.pair.specs.exchange.KindFacts.{own_near, own_own, near_near, clash_own, clash_near, takes_one, takes_none, takes_near}
use Rattle.pair.specs.exchange.Runs.{Script, num, Side, grow}
use Rattle.pair.specs.exchange.Numbers.{Nums, nums_sent}
use Rattle.pair.specs.exchange.Waits.{Open, Waiting, Unanswered, seen_in_time, push_old, push_new, push_back, pushed}
use Rattle.pair.specs.exchange.Flights.{Flights, alike, reframe, send_own, send_near}

-- the unanswered messages of an end about its own flights, and about its partner's
abbrev pub Own : Script → Open → ℕ → ℕ → Message → Type 0
Own s w len i p = Waiting s w len i × (s i ≡ own p)

abbrev pub Near : Script → Open → ℕ → ℕ → Message → Type 0
Near s w len i c = Waiting s w len i × (s i ≡ near c)

-- the flights of the end with the messages s, m of them sent, w unanswered and g the answers to them; its partner's are t, n, v, h
abbrev pub Shared : Script → Open → ℕ → (ℕ → List ℕ) → Script → Open → ℕ → (ℕ → List ℕ) → Table → Table → Type 0
Shared s w m g t v n h S R = Flights (Own s w m) g (Near t v n) h S R

-- the messages of X, and X's flights; each unanswered message that makes a flight has a place
pub record Half (s t : Script) (X Y : Side) : Type 0 where
  pub nums : Nums s X.view.next X.len X.given Y.view.high Y.view.kept
  pub waiting : Unanswered s X.view.waits X.len X.given
  pub flights : Shared s X.view.waits X.len X.given t Y.view.waits Y.len Y.given X.view.sent Y.view.received
  pub places : X.view.used + X.view.makers ≤ X.view.room

-- the first message that the partner has not seen was sent in time
pub in_window : {s t : Script} {X Y : Side} (H : Half s t X Y) → X.len ≤ H.nums.seen + 400
in_window H = seen_in_time H.waiting H.nums.seen H.nums.seen_le (H.nums.unseen H.nums.seen (native.Mathlib.Nat.le_refl H.nums.seen))

-- what is unanswered once X has sent its next
abbrev longer : Script → Side → Open
longer s X = upd X.view.waits X.view.next (some (s X.len))

pub found : {o : Option Content} {c d : Content} → o ≡ some c → c ≡ d → o ≡ some d
found a e = a ∙ ap {B = Option Content} some e

module _ (s t : Script) (X Y : Side) (H : Half s t X Y) (G : Half t s Y X) {v : View} (C : Sends (s X.len) X.view v) where
  old_on : (i : ℕ) → Waiting s X.view.waits X.len i → Waiting s (longer s X) (X.len + 1) i
  old_on = push_old H.waiting X.view.next H.nums.next_is C.young

  new_on : Waiting s (longer s X) (X.len + 1) X.len
  new_on = push_new H.waiting X.view.next H.nums.next_is C.young

  back_on : (i : ℕ) → Waiting s (longer s X) (X.len + 1) i → Waiting s X.view.waits X.len i ⊎ (i ≡ X.len)
  back_on = push_back H.waiting X.view.next H.nums.next_is C.young

  -- the sender's flights
  own_after : (c : Content) → s X.len ≡ c → Opening c X.view v → ((n : ℕ) (d : Content) → X.view.waits n ≡ some d → clash c d ≡ false)
      → Shared s (longer s X) (X.len + 1) X.given t Y.view.waits Y.len Y.given X.view.sent Y.view.received
  own_after (own p) e op fr =
      reframe (send_own H.flights X.len p (H.nums.unseen X.len H.nums.seen_le) op.0
      (λ q o. omega (arith, o.0.0))
      (λ j q k o m n. clash_own p q k (fr (num j) (own q) (found o.0.2 o.1)) m n))
      fwd bwd (λ i q o. alike refl) (λ j c o. o) (λ j c o. o) (λ j c o. alike refl)
    where
      fwd : (i : ℕ) (q : Message) → Own s (longer s X) (X.len + 1) i q → Own s X.view.waits X.len i q ⊎ ((i ≡ X.len) × (q ≡ p))
      fwd i q o = elim (back_on i o.0) [ inl u ↦ inl (u, o.1) | inr u ↦ inr (u, own_own o.1 (ap s u ∙ e)) ]

      bwd : (i : ℕ) (q : Message) → Own s X.view.waits X.len i q ⊎ ((i ≡ X.len) × (q ≡ p)) → Own s (longer s X) (X.len + 1) i q
      bwd i q (inl o) = (old_on i o.0, o.1)
      bwd i q (inr u) = rw (u.0, u.1) (new_on, e)
  own_after (near c) e op fr =
      reframe H.flights fwd (λ i q o. (old_on i o.0, o.1)) (λ i q o. alike refl) (λ j c o. o) (λ j c o. o) (λ j c o. alike refl)
    where
      fwd : (i : ℕ) (q : Message) → Own s (longer s X) (X.len + 1) i q → Own s X.view.waits X.len i q
      fwd i q o = elim (back_on i o.0) [ inl u ↦ (u, o.1) | inr u ↦ absurd (own_near o.1 (ap s u ∙ e)) ]

  room_after : (c : Content) → Opening c X.view v → X.view.used + (takes c + X.view.makers) ≤ X.view.room
  room_after (near c) op = omega (arith, H.places, takes_near c)
  room_after (own p) op = go (makes (deed_of p)) refl
    where
      go : (b : Bool) → makes (deed_of p) ≡ b → X.view.used + (takes (own p) + X.view.makers) ≤ X.view.room
      go true e = omega (arith, op.1 e, takes_one p e)
      go false e = omega (arith, H.places, takes_none p e)

  -- the partner's flights
  near_after : (c : Content) → s X.len ≡ c → Opening c X.view v → ((n : ℕ) (d : Content) → X.view.waits n ≡ some d → clash c d ≡ false)
      → Shared t Y.view.waits Y.len Y.given s (longer s X) (X.len + 1) X.given Y.view.sent v.received
  near_after (own p) e op fr = rw op.2
      (reframe G.flights (λ i q o. o) (λ i q o. o) (λ i q o. alike refl) fwd (λ i c o. (old_on i o.0, o.1)) (λ i c o. alike refl))
    where
      fwd : (i : ℕ) (c : Message) → Near s (longer s X) (X.len + 1) i c → Near s X.view.waits X.len i c
      fwd i c o = elim (back_on i o.0) [ inl u ↦ (u, o.1) | inr u ↦ absurd (own_near (ap s u ∙ e) o.1) ]
  near_after (near c) e op fr = rw op.2
      (reframe (send_near G.flights X.len c op.0 (H.nums.unseen X.len H.nums.seen_le) op.1
      (λ d o. omega (arith, o.0.0))
      (λ j d o. clash_near c d (fr (num j) (near d) (found o.0.2 o.1))))
      (λ i q o. o) (λ i q o. o) (λ i q o. alike refl) fwd bwd (λ j d o. alike refl))
    where
      fwd : (i : ℕ) (d : Message) → Near s (longer s X) (X.len + 1) i d → Near s X.view.waits X.len i d ⊎ ((i ≡ X.len) × (d ≡ c))
      fwd i d o = elim (back_on i o.0) [ inl u ↦ inl (u, o.1) | inr u ↦ inr (u, near_near o.1 (ap s u ∙ e)) ]

      bwd : (i : ℕ) (d : Message) → Near s X.view.waits X.len i d ⊎ ((i ≡ X.len) × (d ≡ c)) → Near s (longer s X) (X.len + 1) i d
      bwd i d (inl o) = (old_on i o.0, o.1)
      bwd i d (inr u) = rw (u.0, u.1) (new_on, e)

  -- the end afterwards, field by field
  sent_view : View
  sent_view = record {
    next = (X.view.next + 1) % 1000;
    high = X.view.high;
    sent = X.view.sent;
    received = v.received;
    used = X.view.used;
    room = X.view.room;
    waits = upd X.view.waits X.view.next (some (s X.len));
    makers = takes (s X.len) + X.view.makers;
    kept = X.view.kept;
  }

  sent_is : sent_view ≡ v
  unfolding sent_view
  sent_is = sym (λ i. record {
    next = C.next i;
    high = C.high i;
    sent = C.sent i;
    received = v.received;
    used = C.used i;
    room = C.room i;
    waits = C.waits i;
    makers = C.makers i;
    kept = C.kept i;
  })

  pub sent_own : Half s t (grow v X) Y
  unfolding sent_view
  sent_own = subst (λ (u : View). Half s t (grow u X) Y) sent_is (record {
    nums = nums_sent H.nums C.number;
    waiting = pushed H.waiting X.view.next H.nums.next_is C.young;
    flights = own_after (s X.len) refl C.opening C.apart;
    places = room_after (s X.len) C.opening;
  })

  pub sent_near : Half t s Y (grow v X)
  unfolding sent_view
  sent_near = subst (λ (u : View). Half t s Y (grow u X)) sent_is (record {
    nums = G.nums;
    waiting = G.waiting;
    flights = near_after (s X.len) refl C.opening C.apart;
    places = G.places;
  })
