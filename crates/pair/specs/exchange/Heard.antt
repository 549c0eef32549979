-- A MESSAGE ARRIVES at the partner.
use Rattle.std.specs.Prelude.{◌≡◌, ◌⊎◌, ◌≢◌, Bool, true, false, cond, ◌&&◌, ℕ, ◌+◌, ◌≤◌, ◌<◌}
use Rattle.std.proofs.Math.Path.{refl, sym, ap}
use Rattle.std.proofs.Common.{◌∙◌, subst, arith}
use Rattle.std.proofs.Math.Logic.{inl, inr}
use Rattle.std.proofs.Math.Option.{Option, none, some}
use mathlib.Core.List.{List, [], ◌∷◌}
use Rattle.std.proofs.Math.Decide.{dec_lt}
use Rattle.head.specs.declared.Standing.TheVariants.{New, Old}
use Rattle.head.specs.Head.{standing}
use Rattle.answers.specs.Given.{after}
use Rattle.flights.specs.Flight.{Flight}
use Rattle.deeds.specs.Message.{Message}
use Rattle.deeds.specs.Deeds.{Key, same_key, old}
use Rattle.rules.specs.Sending.{one_of}
use Rattle.pair.specs.kinds.Tools.{upd, under, upd_same, upd_other, same?, key_yes, true_false, none_some, some_inj, cons_nil}
use Rattle.pair.specs.kinds.Kinds.{Content, own, near, Table, other, eff, put, grown, close, retires, is_yes, proper_to}
use Rattle.pair.specs.kinds.Views.{View, RetiresOne, Retires, TakesOwn, TakesNear, Takes, Hears, first, late, again}
use Rattle.pair.specs.exchange.Laws.{law_retires, law_retires_late, law_retires_live}
use Rattle.pair.specs.exchange.KindFacts.{Names, own_near, number_own, one_of_lem, of_one, needs_place, room_kept, stored_is, failed_is}
use Rattle.pair.specs.exchange.Runs.{Script, num, Side, more, tell, become}
use Rattle.pair.specs.exchange.Numbers.{Fits, Nums, newest, newest_none, nums_new, nums_old, nums_first, nums_late, nums_again}
use Rattle.pair.specs.exchange.Waits.{Open, Waiting, Unanswered, pull_on, pull_back, pulled, told, decide}
use Rattle.pair.specs.exchange.Flights.{Flights, Done, Closed, yesed, not_yesed, Alike, alike, reframe, drop_own, apply_own, hear_own_no, hear_own_yes, hear_near, Pend, NoPend, Good, NoGood}
use Rattle.pair.specs.exchange.Halves.{Own, Near, Shared, Half, in_window, found}
use Rattle.pair.specs.exchange.Learnt.{newest_yesed, newest_not_nil}
use Rattle.compose.specs.Layout.{is_nil}
use Rattle.scan.specs.Bools.{both, and_yes}
use Rattle.deeds.specs.Tests.{same_key_lem as key_eq}

-- WHAT IS UNDER WAY CAN BE FOUND OUT

nil_yes : (l : List ℕ) → is_nil l ≡ true → l ≡ []
unfolding is_nil
nil_yes [] e = refl
nil_yes (x ∷ l) e = absurd (true_false e refl)

nil_is : (l : List ℕ) → l ≡ [] → is_nil l ≡ true
unfolding is_nil
nil_is l e = ap is_nil e

-- a neighbour's message about the key k
near_on : Key → Content → Bool
near_on k (own p) = false
near_on k (near c) = same_key (old c) k

near_on_lem : (k : Key) (d : Content) → near_on k d ≡ true → (c : Message) × (d ≡ near c) × (old c ≡ k)
unfolding near_on
near_on_lem k (own p) e = absurd (true_false e refl)
near_on_lem k (near c) e = (c, refl, key_eq (old c) k e)

on_near : (k : Key) (d : Content) (c : Message) → d ≡ near c → old c ≡ k → near_on k d ≡ true
unfolding near_on
on_near k d c e q = ap (near_on k) e ∙ key_yes (old c) k q

-- an owner's message that names the key k
own_on : Key → Content → Bool
own_on k (own p) = one_of k p
own_on k (near c) = false

own_on_lem : (k : Key) (d : Content) → own_on k d ≡ true → (p : Message) × (d ≡ own p) × Names p k
unfolding own_on
own_on_lem k (own p) e = (p, refl, of_one p k e)
own_on_lem k (near c) e = absurd (true_false e refl)

on_own : (k : Key) (d : Content) (p : Message) → d ≡ own p → Names p k → own_on k d ≡ true
unfolding own_on
on_own k d p e n = ap (own_on k) e ∙ one_of_lem p k n

pub pend? : {A : ℕ → Message → Type 0} {g : ℕ → List ℕ} {t : Script} {w : Open} {len : ℕ} {given : ℕ → List ℕ} {S R : Table}
    → Unanswered t w len given → (F : Flights A g (Near t w len) given S R) (k : Key) → Pend F k ⊎ NoPend F k
pend? {t = t} {given = given} U F k = elim (decide U (λ (j : ℕ). near_on k (t j) && is_nil (given j))) [
  | inl f ↦ (let e = and_yes (near_on k (t f.0)) (is_nil (given f.0)) f.2 in
      let c = near_on_lem k (t f.0) e.0 in inl (f.0, c.0, (f.1, c.1), c.2, nil_yes (given f.0) e.1))
  | inr f ↦ inr (λ j c b q u. true_false (both _ _ (on_near k (t j) c b.1 q) (nil_is (given j) u)) (f j b.0))
]

pub good? : {s : Script} {w : Open} {len : ℕ} {given : ℕ → List ℕ} {B : ℕ → Message → Type 0} {h : ℕ → List ℕ} {S R : Table}
    → Unanswered s w len given → (F : Flights (Own s w len) given B h S R) (k : Key) → Good F k ⊎ NoGood F k
good? {s = s} {given = given} U F k = elim (decide U (λ (j : ℕ). own_on k (s j) && yesed (given j))) [
  | inl f ↦ (let e = and_yes (own_on k (s f.0)) (yesed (given f.0)) f.2 in
      let c = own_on_lem k (s f.0) e.0 in inl (f.0, c.0, (f.1, c.1), c.2, e.1))
  | inr f ↦ inr (λ j p b n y. true_false (both _ _ (on_own k (s j) p b.1 n) y) (f j b.0))
]

-- an end with the highest number h and the kept answers k
abbrev marked : ℕ → (ℕ → Option ℕ) → View → View
marked h k u = record {
  next = u.next;
  high = h;
  sent = u.sent;
  received = u.received;
  used = u.used;
  room = u.room;
  waits = u.waits;
  makers = u.makers;
  kept = k;
}

module _ (s t : Script) (X Y : Side) (H : Half s t X Y) (G : Half t s Y X)
    (i x : ℕ) (lt : i < X.len) (in_time : X.len ≤ i + 400) where
  -- answers to a message of the other sort do not matter
  off_near : (p : Message) → s i ≡ own p → (j : ℕ) (c : Message) → Near s X.view.waits X.len j c → Alike (more X.given i x j) (X.given j)
  off_near p e j c b = alike (upd_other X.given i (x ∷ X.given i) j (λ q. own_near (ap s q ∙ e) b.1))

  off_own : (c : Message) → s i ≡ near c → (j : ℕ) (p : Message) → Own s X.view.waits X.len j p → Alike (more X.given i x j) (X.given j)
  off_own c e j p b = alike (upd_other X.given i (x ∷ X.given i) j (λ q. own_near b.1 (ap s q ∙ e)))

  -- THE FIRST COPY. What the partner is after taking it, when its highest was made h and k was kept
  module _ (fresh : X.given i ≡ []) (h : ℕ) (k : ℕ → Option ℕ) where
    record First (v : View) : Type 0 where
      next : v.next ≡ Y.view.next
      high : v.high ≡ h
      kept : v.kept ≡ upd k (num i) (some x)
      forth : Shared s X.view.waits X.len (more X.given i x) t v.waits Y.len Y.given X.view.sent v.received
      back : Shared t v.waits Y.len Y.given s X.view.waits X.len (more X.given i x) v.sent X.view.received
      opened : Unanswered t v.waits Y.len Y.given
      rooms : v.used + v.makers ≤ v.room
      right : Fits (s i) x

    o : Waiting s X.view.waits X.len i
    o = H.waiting.waits i lt fresh

    -- an owner's message
    first_own : (p : Message) {v : View} → s i ≡ own p → TakesOwn (num i) p x (marked h k Y.view) v → First v
    first_own p {v} e K = subst First taken_is (record {
      next = refl;
      high = refl;
      kept = refl;
      forth = received_by (is_yes x) refl;
      back = reframe G.flights (λ j q b. b) (λ j q b. b) (λ j q b. alike refl) (λ j q b. b) (λ j q b. b) (off_near p e);
      opened = G.waiting;
      rooms = G.places;
      right = (ap (λ (c : Content). proper_to c x) e ∙ K.right, λ d q. absurd (own_near e q));
    })
      where
        taken_is : record {
          next = Y.view.next;
          high = h;
          sent = Y.view.sent;
          received = v.received;
          used = Y.view.used;
          room = Y.view.room;
          waits = Y.view.waits;
          makers = Y.view.makers;
          kept = upd k (num i) (some x);
        } ≡ v
        taken_is = sym (λ j. record {
          next = K.next j;
          high = K.high j;
          sent = K.sent j;
          received = v.received;
          used = K.used j;
          room = K.room j;
          waits = K.waits j;
          makers = K.makers j;
          kept = K.kept j;
        })

        received_by : (b : Bool) → is_yes x ≡ b
            → Shared s X.view.waits X.len (more X.given i x) t Y.view.waits Y.len Y.given X.view.sent v.received
        received_by true g = let y = K.yes g in
            subst (λ (R : Table). Shared s X.view.waits X.len (more X.given i x) t Y.view.waits Y.len Y.given X.view.sent R)
            (sym y.2) (hear_own_yes H.flights i p x y.0 (o, e) g fresh y.1 (pend? G.waiting H.flights))
        received_by false g =
            subst (λ (R : Table). Shared s X.view.waits X.len (more X.given i x) t Y.view.waits Y.len Y.given X.view.sent R)
            (sym (K.no g)) (hear_own_no H.flights i x g fresh)

    -- a neighbour's: the offer that it names is retired first
    module _ (c : Message) (e : s i ≡ near c) where
      record Stage (u : View) : Type 0 where
        next : u.next ≡ Y.view.next
        high : u.high ≡ h
        kept : u.kept ≡ k
        received : u.received ≡ Y.view.received
        un : Unanswered t u.waits Y.len Y.given
        fl : Shared t u.waits Y.len Y.given s X.view.waits X.len X.given u.sent X.view.received
        rm : u.used + u.makers ≤ u.room
        unret : (j : ℕ) (p : Message) → Own t u.waits Y.len j p → retires c p ≡ true → ⊥
        fwd : (j : ℕ) (d : Message) → Near t u.waits Y.len j d → Near t Y.view.waits Y.len j d
        bwd : (j : ℕ) (d : Message) → Near t Y.view.waits Y.len j d → Near t u.waits Y.len j d

      -- what it retires has the number that it refers to
      named : (j : ℕ) (p : Message) → j < Y.len → t j ≡ own p → retires c p ≡ true → num j ≡ c.reference
      named j p l q r = sym (number_own q (G.nums.carried j l)) ∙ (law_retires c p r).3

      -- nothing is retired
      plain : ((p : Message) → Y.view.waits c.reference ≡ some (own p) → retires c p ≡ true → ⊥) → Stage (marked h k Y.view)
      plain nothing = record {
        next = refl;
        high = refl;
        kept = refl;
        received = refl;
        un = G.waiting;
        fl = G.flights;
        rm = G.places;
        unret = λ j p b r. nothing p (ap Y.view.waits (sym (named j p b.0.0 b.1 r)) ∙ found b.0.2 b.1) r;
        fwd = λ j d b. b;
        bwd = λ j d b. b;
      }

      -- an offer is retired
      module _ {u : View} (K : RetiresOne c (marked h k Y.view) u) where
        kn : (j : ℕ) × Waiting t Y.view.waits Y.len j × (c.reference ≡ num j)
        kn = G.waiting.known c.reference (own K.offer) K.held

        tj : t kn.0 ≡ own K.offer
        tj = some_inj kn.1.2 (ap Y.view.waits (sym kn.2) ∙ K.held)

        w : Closed c G.flights.via X.view.received
        w = G.flights.wait_near i c (o, e) fresh

        -- if the partner has not applied it, the closing was possible without it
        without : (yesed (Y.given kn.0) ≡ true → ⊥) → close c (Y.view.sent (old K.offer)) ≡ some w.0
        without bad = ap (λ (v : Key). close c (Y.view.sent v)) same_key_lem
            ∙ ap (close c) (sym (G.flights.calm_own (old c) (λ j' p' b n y.
            bad (ap (λ (v : ℕ). yesed (Y.given v)) (sym (G.flights.one_own j' kn.0 p' K.offer (old c) b (kn.1, tj) n (inl (sym same_key_lem))).0) ∙ y))))
            ∙ w.1
          where
            same_key_lem : old K.offer ≡ old c
            same_key_lem = (law_retires c K.offer K.named).0

        stage_of : (Y.given kn.0 ≡ [] → ⊥)
            → Flights (λ j p. Own t Y.view.waits Y.len j p × (j ≢ kn.0)) Y.given (Near s X.view.waits X.len) X.given u.sent X.view.received
            → u.used + Y.view.makers ≤ Y.view.room → Stage u
        stage_of ans f rm = subst Stage retired_is (record {
          next = refl;
          high = refl;
          kept = refl;
          received = refl;
          un = pulled G.waiting kn.0 kn.1.0 kn.1.1 ans;
          fl = reframe f (λ j q b. let v = back_on j b.0 in ((v.0, b.1), v.1)) (λ j q b. (on j b.0.0 b.1, b.0.1))
              (λ j q b. alike refl) (λ j q b. b) (λ j q b. b) (λ j q b. alike refl);
          rm = rm;
          unret = λ j p b r. none_some (upd_same Y.view.waits (num kn.0) none (num j) (named j p b.0.0 b.1 r ∙ kn.2)) b.0.2;
          fwd = λ j d b. ((back_on j b.0).0, b.1);
          bwd = λ j d b. (on j b.0 (λ q. own_near (ap t q ∙ tj) b.1), b.1);
        })
          where
            back_on : (j : ℕ) → Waiting t (upd Y.view.waits (num kn.0) none) Y.len j → Waiting t Y.view.waits Y.len j × (j ≢ kn.0)
            back_on = pull_back G.waiting kn.0 kn.1.0 kn.1.1

            on : (j : ℕ) → Waiting t Y.view.waits Y.len j → j ≢ kn.0 → Waiting t (upd Y.view.waits (num kn.0) none) Y.len j
            on = pull_on G.waiting kn.0 kn.1.0 kn.1.1

            waits_is : u.waits ≡ upd Y.view.waits (num kn.0) none
            waits_is = K.waits ∙ ap (λ (n : ℕ). upd Y.view.waits n none) kn.2

            retired_is : record {
              next = Y.view.next;
              high = h;
              sent = u.sent;
              received = Y.view.received;
              used = u.used;
              room = Y.view.room;
              waits = upd Y.view.waits (num kn.0) none;
              makers = Y.view.makers;
              kept = k;
            } ≡ u
            retired_is = sym (λ j. record {
              next = K.next j;
              high = K.high j;
              sent = u.sent;
              received = K.received j;
              used = u.used;
              room = K.room j;
              waits = waits_is j;
              makers = K.makers j;
              kept = K.kept j;
            })

        -- the partner has applied it: it is applied here too
        stage_yes : yesed (Y.given kn.0) ≡ true → Stage u
        stage_yes y = stage_of (λ q. not_yesed (Y.given kn.0) q y)
            (subst (λ (S : Table). Flights (λ j p. Own t Y.view.waits Y.len j p × (j ≢ kn.0)) Y.given (Near s X.view.waits X.len) X.given S X.view.received)
            (sym is.0) (apply_own G.flights kn.0 K.offer d.0 (kn.1, tj) y d.1))
            (subst (λ (n : ℕ). n + Y.view.makers ≤ Y.view.room) (sym is.1)
            (room_kept (Y.view.sent (old K.offer)) d.0 Y.view.used Y.view.makers Y.view.makers Y.view.room (λ q. absurd (has q)) (omega arith) G.places))
          where
            d : Done K.offer Y.view.sent G.flights.via
            d = G.flights.done_own kn.0 K.offer (kn.1, tj) y

            has : Y.view.sent (old K.offer) ≡ none → ⊥
            has q = true_false (needs_place K.offer Y.view.sent d.0 d.1 q) (law_retires c K.offer K.named).2

            is : (u.sent ≡ put K.offer d.0 Y.view.sent) × (u.used ≡ grown (Y.view.sent (old K.offer)) d.0 Y.view.used)
            is = stored_is K.settles d.1 (λ q. absurd (has q))

        -- the partner has refused it: it cannot be applied here
        stage_no : (yesed (Y.given kn.0) ≡ true → ⊥) → Stage u
        unfolding eff
        stage_no bad = go (eff K.offer Y.view.sent) refl
          where
            ans : Y.given kn.0 ≡ [] → ⊥
            ans q = elim (G.flights.ready_own kn.0 K.offer (kn.1, tj) q) [
              | inl z ↦ law_retires_late c K.offer (Y.view.sent (old K.offer)) (other K.offer Y.view.sent) z.0 w.0 K.named (without bad) z.1
              | inr d ↦ law_retires_live c K.offer (Y.view.sent (old K.offer)) K.named d
            ]

            go : (z : Option (Option Flight)) → eff K.offer Y.view.sent ≡ z → Stage u
            go (some z) q = absurd (law_retires_late c K.offer (Y.view.sent (old K.offer)) (other K.offer Y.view.sent) z w.0 K.named (without bad) q)
            go none q =
                let is = failed_is K.settles q in
                stage_of ans
                (subst (λ (S : Table). Flights (λ j p. Own t Y.view.waits Y.len j p × (j ≢ kn.0)) Y.given (Near s X.view.waits X.len) X.given S X.view.received)
                (sym is.0) (drop_own G.flights kn.0 bad))
                (subst (λ (n : ℕ). n + Y.view.makers ≤ Y.view.room) (sym is.1) G.places)

        retired : Stage u
        retired = go (yesed (Y.given kn.0)) refl
          where
            go : (b : Bool) → yesed (Y.given kn.0) ≡ b → Stage u
            go true y = stage_yes y
            go false y = stage_no (λ z. true_false z y)

      stage : {u : View} → Retires c (marked h k Y.view) u → Stage u
      stage (inl a) = subst Stage (sym a.0) (plain a.1)
      stage (inr K) = retired K

      -- then it is always applied
      taken : {u v : View} → Stage u → TakesNear (num i) c x u v → First v
      taken {u} {v} st K = subst First taken_is (record {
        next = st.next;
        high = st.high;
        kept = ap (λ (f : ℕ → Option ℕ). upd f (num i) (some x)) st.kept;
        forth = subst (λ (R : Table). Shared s X.view.waits X.len (more X.given i x) t u.waits Y.len Y.given X.view.sent R)
            (sym st.received) (reframe H.flights (λ j q b. b) (λ j q b. b) (off_own c e) st.fwd st.bwd (λ j q b. alike refl));
        back = hn.2;
        opened = st.un;
        rooms = st.rm;
        right = (ap (λ (d : Content). proper_to d x) e ∙ y.0, λ d q. y.1);
      })
        where
          hn : (r : Flight) × (close c (u.sent (old c)) ≡ some r)
              × Shared t u.waits Y.len Y.given s X.view.waits X.len (more X.given i x) (under u.sent (old c) (some r)) X.view.received
          hn = hear_near st.fl i c x (o, e) fresh st.unret (good? st.un st.fl (old c))

          y : (proper_to (near c) x ≡ true) × (is_yes x ≡ true) × (v.sent ≡ under u.sent (old c) (some hn.0))
          y = K.yes hn.0 hn.1

          taken_is : record {
            next = u.next;
            high = u.high;
            sent = under u.sent (old c) (some hn.0);
            received = u.received;
            used = u.used;
            room = u.room;
            waits = u.waits;
            makers = u.makers;
            kept = upd u.kept (num i) (some x);
          } ≡ v
          taken_is = sym (λ j. record {
            next = K.next j;
            high = K.high j;
            sent = y.2 j;
            received = K.received j;
            used = K.used j;
            room = K.room j;
            waits = K.waits j;
            makers = K.makers j;
            kept = K.kept j;
          })

    taken_first : (c : Content) {v : View} → s i ≡ c → Takes (num i) c x (marked h k Y.view) v → First v
    taken_first (own p) e K = first_own p e K
    taken_first (near c) e K = taken c e (stage c e K.1) K.2

  -- THE THREE WAYS TO BE HEARD

  abbrev Then : View → Type 0
  Then v = Half s t (tell i x X) (become v Y) × Half t s (become v Y) (tell i x X)

  when_first : (fresh : X.given i ≡ []) (h : ℕ) (k : ℕ → Option ℕ) {v : View} → First fresh h k v
      → Nums s X.view.next X.len (more X.given i x) h (upd k (num i) (some x)) → Then v
  when_first fresh h k {v} f N = (
    record {
      nums = subst (λ (n : ℕ). Nums s X.view.next X.len (more X.given i x) n v.kept) (sym f.high)
          (subst (λ (a : ℕ → Option ℕ). Nums s X.view.next X.len (more X.given i x) h a) (sym f.kept) N);
      waiting = told H.waiting i x;
      flights = f.forth;
      places = H.places;
    },
    record {
      nums = subst (λ (n : ℕ). Nums t n Y.len Y.given X.view.high X.view.kept) (sym f.next) G.nums;
      waiting = f.opened;
      flights = f.back;
      places = f.rooms;
    },
  )

  when_again : i < H.nums.seen → newest (X.given i) ≡ some x → Then Y.view
  unfolding yesed
  when_again l e = (
    record {
      nums = nums_again H.nums i lt in_time x (inl e) l e;
      waiting = told H.waiting i x;
      flights = reframe H.flights (λ j q b. b) (λ j q b. b) (λ j q b. al j) (λ j q b. b) (λ j q b. b) (λ j q b. alike refl);
      places = H.places;
    },
    record {
      nums = G.nums;
      waiting = G.waiting;
      flights = reframe G.flights (λ j q b. b) (λ j q b. b) (λ j q b. alike refl) (λ j q b. b) (λ j q b. b) (λ j q b. al j);
      places = G.places;
    },
  )
    where
      al : (j : ℕ) → Alike (more X.given i x j) (X.given j)
      al j = elim (same? j i) [
        | inl q ↦ (
          ap yesed (upd_same X.given i (x ∷ X.given i) j q) ∙ sym (ap (λ (v : ℕ). yesed (X.given v)) q ∙ newest_yesed (X.given i) x e),
          (λ u. absurd (cons_nil (upd_same X.given i (x ∷ X.given i) j q) u)),
          (λ u. absurd (newest_not_nil (X.given i) x e (ap X.given (sym q) ∙ u))),
        )
        | inr q ↦ alike (upd_other X.given i (x ∷ X.given i) j q)
      ]

  new_old : standing Y.view.high (num i) ≡ New → standing Y.view.high (num i) ≡ Old → ⊥
  new_old a b = let z : ◌≡◌ {A = ℕ} 0 1 = cc in omega arith

  -- a new number was never seen, an old one was
  not_seen : standing Y.view.high (num i) ≡ New → H.nums.seen ≤ i
  not_seen a = elim (dec_lt i H.nums.seen) [ yes l ↦ absurd (new_old a (nums_old H.nums i lt in_time l)) | no l ↦ (omega arith) ]

  was_seen : standing Y.view.high (num i) ≡ Old → i < H.nums.seen
  was_seen a = elim (dec_lt i H.nums.seen) [ yes l ↦ l | no l ↦ absurd (new_old (nums_new H.nums i lt in_time (in_window H) (omega arith)) a) ]

  kept_newest : i < H.nums.seen → Y.view.kept (num i) ≡ newest (X.given i)
  kept_newest l = H.nums.kept_is i l (omega (arith, H.nums.seen_le))

  pub heard : {v : View} → Hears (num i) (s i) x Y.view v → Half s t (tell i x X) (become v Y) × Half t s (become v Y) (tell i x X)
  heard (first a K) =
      let l = not_seen a in
      let fresh = H.nums.unseen i l in
      let f = taken_first fresh (num i) (λ n. cond (after Y.view.high (num i) n) none (Y.view.kept n)) (s i) refl K in
      when_first fresh (num i) (λ n. cond (after Y.view.high (num i) n) none (Y.view.kept n)) f
      (nums_first H.nums i lt in_time x (inr fresh) (in_window H) l f.right)
  heard (late a q K) =
      let l = was_seen a in
      let fresh = newest_none (X.given i) (sym (kept_newest l) ∙ q) in
      let f = taken_first fresh Y.view.high Y.view.kept (s i) refl K in
      when_first fresh Y.view.high Y.view.kept f (nums_late H.nums i lt in_time x (inr fresh) l f.right)
  heard {v} (again a q e) =
      let l = was_seen a in
      subst (λ (u : View). Half s t (tell i x X) (become u Y) × Half t s (become u Y) (tell i x X)) (sym e) (when_again l (sym (kept_newest l) ∙ q))
