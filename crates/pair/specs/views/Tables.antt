-- A MESSAGE APPLIED TO A TABLE OF FLIGHTS, as it is seen by key: it does there what its kind says, and the places are not seen.
use Rattle.std.specs.Prelude.{◌≡◌, ◌⊎◌, ◌≢◌, Bool, ◌&&◌, ◌||◌, [], ◌∷◌, ℕ, zero, suc, ◌+◌, ◌≤◌, ◌<◌, length, ltb}
use Rattle.std.proofs.Math.Path.{refl, sym, ap, subst, fun_ext}
use Rattle.std.proofs.Common.{◌∙◌, arith, ltb-true, ltb-false}
use Rattle.std.proofs.Math.Logic.{inl, inr}
use Rattle.std.proofs.Math.Bool.{true, false, not, cond}
use Rattle.std.proofs.lemmas.Bool.{false≢true}
use Rattle.std.proofs.Math.Option.{Option, none, some}
use Rattle.pair.specs.kinds.Tools.{key_of, amended_key, guard, under, same?, true_false, none_some, some_inj, key_yes, key_no, key?, under_same, under_other, get_below, free_none}
use Rattle.message.specs.declared.Kind.{Kind}
use Rattle.message.specs.declared.Kind.TheVariants.{None, Fpl, Cpl, Est, Chg, Cnl, Rti, Rta, Rla, Lam, Lrm}
use Rattle.message.specs.Record.{is_chg}
use Rattle.places.specs.Place.{Place, At, Nowhere}
use Rattle.places.specs.Places.{Places, is_free, get, set, first_of, used, empty, length_set, get_set, get_other, every_get, found_below, found_has, found_none}
use Rattle.flights.specs.Flight.{Flight, Status, filed, active, Handoff, Sound, Offered}
use Rattle.flights.specs.Decoded.{SoundPlace}
use Rattle.flights.specs.Holding.{ApartPlaces, FlightsFormed}
use Rattle.deeds.specs.declared.Deed.{Deed}
use Rattle.deeds.specs.declared.Deed.TheVariants.{Files, Enters, Amends, Estimates, Cancels, Offers, Retracts, Accepts, Nothing}
use Rattle.deeds.specs.declared.Decision.{Decision}
use Rattle.deeds.specs.declared.Decision.TheVariants.{Fails, Full, Done}
use Rattle.deeds.specs.Message.{Message}
use Rattle.deeds.specs.Deeds.{Key, in_order, turned, rta_deed, deed_by, deed_of, old, changed_key, new, is_filed, is_calm, refers, may_on, makes, may, becomes_on, begins, becomes}
use Rattle.deeds.specs.Applying.{where_is, lowest_free, held_at, flight_under, other, or_free, allowed, decided_at, decision, after, applied, asked}
use Rattle.rules.specs.Answers.{good_answer, answer_to, is_offering, is_acceptance, proper}
use Rattle.rules.specs.Laws.{accepts}
use Rattle.pair.specs.kinds.Kinds as kind
use Rattle.pair.specs.kinds.Kinds.{own, near, message_of, orderly, effect, close, is_yes, answer_kind, proper_to, Table, eff, put, grown}
use Rattle.pair.specs.kinds.Views.{Applied, fails, full, stored}
use Rattle.pair.specs.kinds.Ends.{by_key}
use Rattle.scan.specs.Bools.{and_yes}
use Rattle.deeds.specs.Tests.{same_key_lem as key_eq}

-- PLACES

-- no place is free: all are used
all_used : {A : Type 0} (i : ℕ) (l : Places A) → first_of is_free i l ≡ Nowhere → length l ≤ used l
unfolding first_of used
all_used i [] e = omega arith
all_used i (none ∷ l) e = let z : ◌≡◌ {A = ℕ} 0 1 = cc in absurd (omega arith)
all_used i (some a ∷ l) e = omega (arith, all_used (i + 1) l e)

-- how many places it takes
count : {A : Type 0} → Option A → ℕ
count none = 0
count (some a) = 1

count_set : {A : Type 0} (i : ℕ) (y : Option A) (l : Places A) → i < length l → used (set i y l) + count (get i l) ≡ used l + count y
unfolding used set get count
count_set i y [] h = absurd (omega arith)
count_set zero none (none ∷ l) h = refl
count_set zero none (some a ∷ l) h = omega arith
count_set zero (some b) (none ∷ l) h = omega arith
count_set zero (some b) (some a ∷ l) h = refl
count_set (suc i) y (none ∷ l) h = count_set i y l (omega arith)
count_set (suc i) y (some a ∷ l) h = omega (arith, count_set i y l (omega arith))

grown_is : (x z : Option Flight) (u v : ℕ) → v + count x ≡ u + count z → v ≡ grown x z u
unfolding count grown
grown_is none none u v e = omega arith
grown_is none (some z) u v e = omega arith
grown_is (some x) none u v e = omega arith
grown_is (some x) (some z) u v e = omega arith

-- WHERE A KEY IS

module _ (k : Key) (l : Places Flight) where
  -- what it says that the key is at the place p
  abbrev pub Found : Place → Type 0
  Found (At i) = (by_key l k ≡ get i l) × ((x : Flight) × (get i l ≡ some x) × (key_of x ≡ k))
  Found Nowhere = (by_key l k ≡ none) × ((i : ℕ) (x : Flight) → get i l ≡ some x → key_of x ≡ k → ⊥)

  has_key_lem : (o : Option Flight) → asked k o ≡ true → (x : Flight) × (o ≡ some x) × (key_of x ≡ k)
  has_key_lem none e = absurd (false≢true e)
  has_key_lem (some x) e = (x, refl, key_eq (key_of x) k e)

  pub under_is : (p : Place) → where_is k l ≡ p → Found p
  unfolding by_key
  under_is (At i) e = (ap (λ (p : Place). held_at p l) e, has_key_lem (get i l) (found_has (asked k) i l e))
  under_is Nowhere e = (
    ap (λ (p : Place). held_at p l) e,
    λ i x g q. true_false (ap (asked k) g ∙ key_yes (key_of x) k q) (found_none (asked k) 0 i l e (get_below i l x g)),
  )

-- what stands under a key: a flight that some place has, or nothing where none has one
abbrev Stands : Places Flight → Key → Option Flight → Type 0
Stands l k none = (i : ℕ) (x : Flight) → get i l ≡ some x → key_of x ≡ k → ⊥
Stands l k (some x) = (i : ℕ) × (get i l ≡ some x) × (key_of x ≡ k)

stands : (l : Places Flight) (k : Key) → Stands l k (by_key l k)
stands l k = go (where_is k l) (under_is k l (where_is k l) refl)
  where
    go : (p : Place) → Found k l p → Stands l k (by_key l k)
    go (At i) w = subst (Stands l k) (sym (w.0 ∙ w.1.1)) (i, w.1.1, w.1.2)
    go Nowhere w = subst (Stands l k) (sym w.0) w.1

-- a flight has the key that it stands under
under_key : (l : Places Flight) (k : Key) (x : Flight) → by_key l k ≡ some x → key_of x ≡ k
under_key l k x e = (subst (Stands l k) e (stands l k)).2

-- no key twice
abbrev pub Single : Places Flight → Type 0
Single l = (i j : ℕ) (x y : Flight) → get i l ≡ some x → get j l ≡ some y → key_of x ≡ key_of y → i ≡ j

module _ (l : Places Flight) (u : Single l) (k : Key) where
  found_some : (x : Flight) → Stands l k (some x) → (p : Place) → Found k l p → by_key l k ≡ some x
  found_some x s (At j) w =
      let y = w.1.0 in
      let e : j ≡ s.0 = u j s.0 y x w.1.1 s.1 (w.1.2 ∙ sym s.2) in
      w.0 ∙ ap (λ (i : ℕ). get i l) e ∙ s.1
  found_some x s Nowhere w = absurd (w.1 s.0 x s.1 s.2)

  found_nowhere : Stands l k none → (p : Place) → Found k l p → by_key l k ≡ none
  found_nowhere s (At j) w = absurd (s j w.1.0 w.1.1 w.1.2)
  found_nowhere s Nowhere w = w.0

  by_standing : (o : Option Flight) → Stands l k o → by_key l k ≡ o
  by_standing none s = found_nowhere s (where_is k l) (under_is k l (where_is k l) refl)
  by_standing (some x) s = found_some x s (where_is k l) (under_is k l (where_is k l) refl)

-- A PLACE IS CHANGED: i, which has what stands under the key a, gets y, whose key is b

module _ (l : Places Flight) (u : Single l) (i : ℕ) (h : i < length l) (a b : Key) (y : Option Flight) (here : by_key l a ≡ get i l) (unused : (b ≡ a) ⊎ (by_key l b ≡ none)) (key : (g : Flight) → y ≡ some g → key_of g ≡ b) where
  -- no other place has one of the two keys
  old_only : (p : ℕ) (x : Flight) → get p l ≡ some x → key_of x ≡ a → p ≡ i
  old_only p x g e = u p i x x g (sym here ∙ by_standing l u a (some x) (p, g, e)) refl

  new_only : (p : ℕ) (x : Flight) → get p l ≡ some x → key_of x ≡ b → p ≡ i
  new_only p x g e = elim unused [
    | inl q ↦ old_only p x g (e ∙ q)
    | inr q ↦ absurd (none_some q (by_standing l u b (some x) (p, g, e)))
  ]

  -- a flight in the table afterwards is the new one, or one from another place
  Whence : ℕ → Flight → Type 0
  Whence p x = ((p ≡ i) × (y ≡ some x)) ⊎ ((p ≢ i) × (get p l ≡ some x))

  whence : (p : ℕ) (x : Flight) → get p (set i y l) ≡ some x → Whence p x
  unfolding Whence
  whence p x g = elim (same? p i) [
    | inl e ↦ inl (e, sym (get_set i y l h) ∙ ap (λ (q : ℕ). get q (set i y l)) (sym e) ∙ g)
    | inr n ↦ inr (n, sym (get_other i p y l n) ∙ g)
  ]

  single_after : Single (set i y l)
  unfolding Whence
  single_after p q x z g r e = go (whence p x g) (whence q z r)
    where
      go : Whence p x → Whence q z → p ≡ q
      go (inl s) (inl t) = s.0 ∙ sym t.0
      go (inl s) (inr t) = absurd (t.0 (new_only q z t.1 (sym e ∙ key x s.1)))
      go (inr s) (inl t) = absurd (s.0 (new_only p x s.1 (e ∙ key z t.1)))
      go (inr s) (inr t) = u p q x z s.1 t.1 e

  -- under the new key
  new_stands : (o : Option Flight) → y ≡ o → Stands (set i y l) b o
  unfolding Whence
  new_stands none e = λ p x g q. go p x q (whence p x g)
    where
      go : (p : ℕ) (x : Flight) → key_of x ≡ b → Whence p x → ⊥
      go p x q (inl s) = none_some e s.1
      go p x q (inr s) = s.0 (new_only p x s.1 q)
  new_stands (some x) e = (i, get_set i y l h ∙ e, key x e)

  -- under the old key, if that is another
  old_stands : a ≢ b → Stands (set i y l) a none
  unfolding Whence
  old_stands n = λ p x g q. go p x q (whence p x g)
    where
      go : (p : ℕ) (x : Flight) → key_of x ≡ a → Whence p x → ⊥
      go p x q (inl s) = n (sym q ∙ key x s.1)
      go p x q (inr s) = s.0 (old_only p x s.1 q)

  -- and under any other
  rest_stands : (j : Key) → j ≢ a → j ≢ b → (o : Option Flight) → Stands l j o → Stands (set i y l) j o
  unfolding Whence
  rest_stands j m n none w = λ p x g q. go p x q (whence p x g)
    where
      go : (p : ℕ) (x : Flight) → key_of x ≡ j → Whence p x → ⊥
      go p x q (inl s) = n (sym q ∙ key x s.1)
      go p x q (inr s) = w p x s.1 q
  rest_stands j m n (some x) w = (w.0, get_other i w.0 y l away ∙ w.1, w.2)
    where
      away : w.0 ≢ i
      away e = m (sym w.2 ∙ under_key l a x (here ∙ ap (λ (q : ℕ). get q l) (sym e) ∙ w.1))

  seen_after : (j : Key) → by_key (set i y l) j ≡ under (under (by_key l) a none) b y j
  seen_after j = elim (key? j b) [
    | inl p ↦ ap (by_key (set i y l)) p ∙ by_standing (set i y l) single_after b y (new_stands y refl) ∙ sym (under_same (under (by_key l) a none) b y j p)
    | inr n ↦ elim (key? j a) [
      | inl p ↦ ap (by_key (set i y l)) p ∙ by_standing (set i y l) single_after a none (old_stands (λ q. n (p ∙ q))) ∙ sym (under_other (under (by_key l) a none) b y j n ∙ under_same (by_key l) a none j p)
      | inr m ↦ by_standing (set i y l) single_after j (by_key l j) (rest_stands j m n (by_key l j) (stands l j)) ∙ sym (under_other (under (by_key l) a none) b y j n ∙ under_other (by_key l) a none j m)
    ]
  ]

-- A WELL FORMED TABLE

orderly_by : (s : Status) (h : Handoff) (n : ℕ) → Offered s h n → not (is_filed s) || is_calm h ≡ true
unfolding is_filed is_calm
orderly_by filed h n o = ap is_calm o.0
orderly_by active h n o = refl

module _ (l : Places Flight) (f : FlightsFormed l) where
  apart : (i j : ℕ) (x y : Flight) → get i l ≡ some x → get j l ≡ some y → key_of x ≡ key_of y → i < j → ⊥
  apart i j x y p q e h =
      let z : ApartPlaces (get i l) (get j l) = f.keys j (get_below j l y q) i h in
      let w : ApartPlaces (some x) (some y) = subst (λ (o : Option Flight). ApartPlaces o (some y)) p (subst (ApartPlaces (get i l)) q z) in
      w (record { aircraft = ap (λ (k : Key). k.aircraft) e; departure = ap (λ (k : Key). k.departure) e; destination = ap (λ (k : Key). k.destination) e })

  single : Single l
  single i j x y p q e = go (ltb i j) (ltb j i) refl refl
    where
      go : (a b : Bool) → ltb i j ≡ a → ltb j i ≡ b → i ≡ j
      go true b s t = absurd (apart i j x y p q e (ltb-true i j s))
      go false true s t = absurd (apart j i y x q p (sym e) (ltb-true j i t))
      go false false s t = omega (arith, ltb-false i j s, ltb-false j i t)

  orderly_at : (i : ℕ) (x : Flight) → get i l ≡ some x → orderly (some x) ≡ true
  unfolding orderly
  orderly_at i x e =
      let s : Sound x = subst SoundPlace e (every_get SoundPlace i l f.each (get_below i l x e)) in
      orderly_by x.status x.handoff x.offer s.offer

  orderly_under : (k : Key) → orderly (by_key l k) ≡ true
  unfolding orderly
  orderly_under k = go (where_is k l) (under_is k l (where_is k l) refl)
    where
      go : (p : Place) → Found k l p → orderly (by_key l k) ≡ true
      go (At i) w = ap orderly (w.0 ∙ w.1.1) ∙ orderly_at i w.1.0 w.1.1
      go Nowhere w = ap orderly w.0

-- THE KEYS OF A MESSAGE

-- only a CHG gives its flight another key
renames : Deed → Bool
renames Files = false
renames Enters = false
renames Amends = true
renames Estimates = false
renames Cancels = false
renames Offers = false
renames Retracts = false
renames Accepts = false
renames Nothing = false

rta_renames : (a b : Bool) → renames (cond a Retracts (cond b Accepts Nothing)) ≡ false
unfolding renames
rta_renames true b = refl
rta_renames false true = refl
rta_renames false false = refl

renames_chg : (k : Kind) (m : Message) → renames (deed_by k m) ≡ is_chg k
unfolding renames deed_by rta_deed is_chg
renames_chg None m = refl
renames_chg Fpl m = refl
renames_chg Cpl m = refl
renames_chg Est m = refl
renames_chg Chg m = refl
renames_chg Cnl m = refl
renames_chg Rti m = refl
renames_chg Rta m = rta_renames (in_order m) (turned m)
renames_chg Rla m = refl
renames_chg Lam m = refl
renames_chg Lrm m = refl

-- the key after the deed d
abbrev key_after : Deed → Message → Key
key_after d m = cond (renames d) (changed_key m) (old m)

new_is : (m : Message) → key_after (deed_of m) m ≡ new m
unfolding new
new_is m = ap (λ (b : Bool). cond b (changed_key m) (old m)) (renames_chg m.kind m)

module _ (m : Message) (g : Flight) where
  -- a flight that keeps its key
  kept_key : (x y : Flight) → key_of x ≡ old m → key_of y ≡ key_of x → some y ≡ some g → key_of g ≡ old m
  kept_key x y q p e = ap key_of (sym (some_inj refl e)) ∙ p ∙ q

  key_on : (d : Deed) (x : Flight) → key_of x ≡ old m → becomes_on d m x ≡ some g → key_of g ≡ key_after d m
  unfolding becomes_on renames
  key_on Files x q e = kept_key x _ q refl e
  key_on Enters x q e = kept_key x _ q refl e
  key_on Amends x q e =
      ap key_of (sym (some_inj refl e)) ∙ amended_key m x q
  key_on Estimates x q e = kept_key x _ q refl e
  key_on Cancels x q e = absurd (none_some refl e)
  key_on Offers x q e = kept_key x _ q refl e
  key_on Retracts x q e = kept_key x _ q refl e
  key_on Accepts x q e = kept_key x _ q refl e
  key_on Nothing x q e = kept_key x _ q refl e

  key_made : (d : Deed) → begins d m ≡ some g → key_of g ≡ key_after d m
  unfolding begins renames
  key_made Files e = ap key_of (sym (some_inj refl e))
  key_made Enters e = ap key_of (sym (some_inj refl e))
  key_made Amends e = absurd (none_some refl e)
  key_made Estimates e = absurd (none_some refl e)
  key_made Cancels e = absurd (none_some refl e)
  key_made Offers e = absurd (none_some refl e)
  key_made Retracts e = absurd (none_some refl e)
  key_made Accepts e = absurd (none_some refl e)
  key_made Nothing e = absurd (none_some refl e)

  pub key_after_lem : (x : Option Flight) → ((w : Flight) → x ≡ some w → key_of w ≡ old m) → becomes (deed_of m) m x ≡ some g → key_of g ≡ new m
  unfolding becomes
  key_after_lem none q e = key_made (deed_of m) e ∙ new_is m
  key_after_lem (some x) q e = key_on (deed_of m) x (q x refl) e ∙ new_is m

-- it may not be done where another flight has the new key
may_free : (d : Deed) (m : Message) (x : Option Flight) (y : Flight) → renames d ≡ true → may d m x (some y) ≡ true → ⊥
unfolding renames may may_on makes
may_free Files m x y r e = false≢true r
may_free Enters m x y r e = false≢true r
may_free Amends m none y r e = false≢true e
may_free Amends m (some x) y r e = false≢true (and_yes (is_filed x.status && refers m x) false e).1
may_free Estimates m x y r e = false≢true r
may_free Cancels m x y r e = false≢true r
may_free Offers m x y r e = false≢true r
may_free Retracts m x y r e = false≢true r
may_free Accepts m x y r e = false≢true r
may_free Nothing m x y r e = false≢true r

-- so the new key is the old one, or is unused
new_unused : (m : Message) (l : Places Flight) → allowed m l ≡ true → (new m ≡ old m) ⊎ (by_key l (new m) ≡ none)
unfolding by_key other
new_unused m l e = elim (key? (new m) (old m)) [ inl p ↦ inl p | inr n ↦ inr (go n (renames (deed_of m)) (flight_under (new m) l) refl refl) ]
  where
    go : new m ≢ old m → (b : Bool) (y : Option Flight) → renames (deed_of m) ≡ b → flight_under (new m) l ≡ y → y ≡ none
    go n false y r w = absurd (n (sym (new_is m) ∙ ap (λ (b : Bool). cond b (changed_key m) (old m)) r))
    go n true none r w = refl
    go n true (some y) r w =
        let o : other m l ≡ some y = ap (λ (b : Bool). cond b none (flight_under (new m) l)) (key_no (new m) (old m) n) ∙ w in
        absurd (may_free (deed_of m) m (flight_under (old m) l) y r (ap (may (deed_of m) m (flight_under (old m) l)) (sym o) ∙ e))

-- THE DECISION: its condition fails; no place is free for its new flight; or it is done at the place i

data Decided (m : Message) (l : Places Flight) : Type 0 where
  refused : allowed m l ≡ false → decision m l ≡ Fails → Decided m l
  crowded : allowed m l ≡ true → decision m l ≡ Full → by_key l (old m) ≡ none → length l ≤ used l → Decided m l
  placed : (i : ℕ) → allowed m l ≡ true → decision m l ≡ Done i → i < length l → by_key l (old m) ≡ get i l → Decided m l

module _ (m : Message) (l : Places Flight) where
  decided_by : (p : Place) → where_is (old m) l ≡ p → allowed m l ≡ true → decision m l ≡ decided_at (or_free p l)
  unfolding decision
  decided_by p w a = λ i. cond (a i) (decided_at (or_free (w i) l)) Fails

  decided : Decided m l
  unfolding decision
  decided = go (allowed m l) (where_is (old m) l) (lowest_free l) refl refl refl
    where
      go : (b : Bool) (p q : Place) → allowed m l ≡ b → where_is (old m) l ≡ p → lowest_free l ≡ q → Decided m l
      go false p q a w v = refused a (ap (λ (b : Bool). cond b (decided_at (or_free (where_is (old m) l) l)) Fails) a)
      go true (At i) q a w v = placed i a (decided_by (At i) w a) (omega (arith, found_below (asked (old m)) 0 i l w)) (under_is (old m) l (At i) w).0
      go true Nowhere (At i) a w v =
          placed i a (decided_by Nowhere w a ∙ ap decided_at v) (omega (arith, found_below is_free 0 i l v))
          ((under_is (old m) l Nowhere w).0 ∙ sym (free_none (get i l) (found_has is_free i l v)))
      go true Nowhere Nowhere a w v = crowded a (decided_by Nowhere w a ∙ ap decided_at v) (under_is (old m) l Nowhere w).0 (all_used 0 l v)

  applied_fails : decision m l ≡ Fails → applied m l ≡ l
  unfolding after
  applied_fails d = ap (λ (c : Decision). after c m l) d

  applied_full : decision m l ≡ Full → applied m l ≡ l
  unfolding after
  applied_full d = ap (λ (c : Decision). after c m l) d

  -- what stands under its new key once it is done
  abbrev outcome : Option Flight
  outcome = becomes (deed_of m) m (by_key l (old m))

  applied_done : (i : ℕ) → decision m l ≡ Done i → by_key l (old m) ≡ get i l → applied m l ≡ set i outcome l
  unfolding after
  applied_done i d w = ap (λ (c : Decision). after c m l) d ∙ ap (λ (o : Option Flight). set i (becomes (deed_of m) m o) l) (sym w)

  long_after : (c : Decision) → length (after c m l) ≡ length l
  unfolding after
  long_after Fails = refl
  long_after Full = refl
  long_after (Done i) = length_set i (becomes (deed_of m) m (get i l)) l

  pub applied_long : length (applied m l) ≡ length l
  applied_long = long_after (decision m l)

-- ANSWERS

good_yes : (d : Deed) → is_yes (good_answer d) ≡ true
unfolding is_yes good_answer
good_yes Files = refl
good_yes Enters = refl
good_yes Amends = refl
good_yes Estimates = refl
good_yes Cancels = refl
good_yes Offers = refl
good_yes Retracts = refl
good_yes Accepts = refl
good_yes Nothing = refl

good_proper : (d : Deed) → proper (answer_kind (good_answer d)) d ≡ true
unfolding answer_kind good_answer proper is_offering
good_proper Files = refl
good_proper Enters = refl
good_proper Amends = refl
good_proper Estimates = refl
good_proper Cancels = refl
good_proper Offers = refl
good_proper Retracts = refl
good_proper Accepts = refl
good_proper Nothing = refl

module _ (d : Deed) (c : Decision) (x : ℕ) (e : x ≡ answer_to d c) where
  yes_done : (i : ℕ) → c ≡ Done i → (is_yes x ≡ true) × (proper (answer_kind x) d ≡ true)
  unfolding answer_to
  yes_done i h =
      let v : x ≡ good_answer d = e ∙ ap (answer_to d) h in
      (ap is_yes v ∙ good_yes d, ap (λ (z : ℕ). proper (answer_kind z) d) v ∙ good_proper d)

  -- an LRM
  abbrev Denied : Type 0
  Denied = (is_yes x ≡ false) × (is_acceptance d ≡ false → proper (answer_kind x) d ≡ true)

  denied : (v : ℕ) → answer_to d c ≡ v → is_yes v ≡ false → answer_kind v ≡ Lrm → Denied
  unfolding proper
  denied v h y k = (ap is_yes (e ∙ h) ∙ y, λ n. ap (λ (z : Kind). proper z d) (ap answer_kind (e ∙ h) ∙ k) ∙ ap not n)

  no_fails : c ≡ Fails → Denied
  unfolding answer_to is_yes answer_kind
  no_fails h = denied 57 (ap (answer_to d) h) refl refl

  no_full : c ≡ Full → Denied
  unfolding answer_to is_yes answer_kind
  no_full h = denied 62 (ap (answer_to d) h) refl refl

-- AN ACCEPTANCE

may_accept : (m : Message) (x y : Option Flight) → may Accepts m x y ≡ may Accepts m x none
unfolding may may_on
may_accept m none y = refl
may_accept m (some x) y = refl

accept_there : (m : Message) (x y : Option Flight) → may Accepts m x y ≡ true → ((w : Flight) × (x ≡ some w)) × ((r : Flight) × (becomes Accepts m x ≡ some r))
unfolding may makes becomes becomes_on
accept_there m none y e = absurd (false≢true e)
accept_there m (some x) y e = ((x, refl), (_, refl))

module _ (m : Message) (n : is_acceptance (deed_of m) ≡ true) where
  -- no other key counts
  may_near : (x y : Option Flight) → may (deed_of m) m x y ≡ may (deed_of m) m x none
  may_near x y = subst (λ (d : Deed). may d m x y ≡ may d m x none) (sym (accepts (deed_of m) n)) (may_accept m x y)

  -- there is a flight, and afterwards too
  near_there : (x y : Option Flight) → may (deed_of m) m x y ≡ true → ((w : Flight) × (x ≡ some w)) × ((r : Flight) × (becomes (deed_of m) m x ≡ some r))
  near_there x y =
      subst (λ (d : Deed). may d m x y ≡ true → ((w : Flight) × (x ≡ some w)) × ((r : Flight) × (becomes d m x ≡ some r))) (sym (accepts (deed_of m) n)) (accept_there m x y)

  near_key : new m ≡ old m
  unfolding renames
  near_key = sym (new_is m) ∙ ap (λ (d : Deed). key_after d m) (accepts (deed_of m) n)

under_twice : (g : Table) (k : Key) (z : Option Flight) → under (under g k none) k z ≡ under g k z
under_twice g k z = fun_ext (λ j. elim (key? j k) [
  | inl p ↦ under_same (under g k none) k z j p ∙ sym (under_same g k z j p)
  | inr n ↦ under_other (under g k none) k z j n ∙ under_other g k none j n ∙ sym (under_other g k z j n)
])

-- A MESSAGE THAT IS DONE

module _ (m : Message) (l : Places Flight) (f : FlightsFormed l) where
  module _ (i : ℕ) (a : allowed m l ≡ true) (d : decision m l ≡ Done i) (h : i < length l) (w : by_key l (old m) ≡ get i l) where
    seen_done : by_key (applied m l) ≡ put m (outcome m l) (by_key l)
    unfolding put
    seen_done =
        ap by_key (applied_done m l i d w)
        ∙ fun_ext (seen_after l (single l f) i h (old m) (new m) (outcome m l) w (new_unused m l a) (λ g. key_after_lem m g (by_key l (old m)) (under_key l (old m))))

    used_done : used (applied m l) ≡ grown (by_key l (old m)) (outcome m l) (used l)
    used_done =
        ap used (applied_done m l i d w)
        ∙ grown_is (by_key l (old m)) (outcome m l) (used l) (used (set i (outcome m l) l)) (ap (λ (o : Option Flight). used (set i (outcome m l) l) + count o) w ∙ count_set i (outcome m l) l h)

  -- AN OWNER'S

  eff_by : (b : Bool) → is_acceptance (deed_of m) ≡ false → allowed m l ≡ b → eff m (by_key l) ≡ guard b (some (outcome m l))
  unfolding by_key other kind.other eff effect
  eff_by b n a =
      let s : orderly (flight_under (old m) l) ≡ true = orderly_under l f (old m) in
      λ j. guard ((not (n j) && s j) && a j) (some (becomes (deed_of m) m (flight_under (old m) l)))

  pub eff_is : is_acceptance (deed_of m) ≡ false → (allowed m l ≡ true → eff m (by_key l) ≡ some (becomes (deed_of m) m (by_key l (old m)))) × (allowed m l ≡ false → eff m (by_key l) ≡ none)
  unfolding guard
  eff_is n = (eff_by true n, eff_by false n)

  pub applied_own : is_acceptance (deed_of m) ≡ false → Applied m (by_key l) (used l) (length l) (by_key (applied m l)) (used (applied m l))
  applied_own n = go (decided m l)
    where
      go : Decided m l → Applied m (by_key l) (used l) (length l) (by_key (applied m l)) (used (applied m l))
      go (refused a d) = fails ((eff_is n).1 a) (ap by_key (applied_fails m l d)) (ap used (applied_fails m l d))
      go (crowded a d w h) = full (outcome m l) ((eff_is n).0 a) w h (ap by_key (applied_full m l d)) (ap used (applied_full m l d))
      go (placed i a d h w) = stored (outcome m l) ((eff_is n).0 a) (seen_done i a d h w) (used_done i a d h w)

  pub answered_own : is_acceptance (deed_of m) ≡ false → (x : ℕ) → x ≡ answer_to (deed_of m) (decision m l)
      → (is_yes x ≡ false → by_key (applied m l) ≡ by_key l) × (is_yes x ≡ true → (z : Option Flight) × (eff m (by_key l) ≡ some z) × (by_key (applied m l) ≡ put m z (by_key l))) × (proper_to (own m) x ≡ true)
  unfolding proper_to message_of
  answered_own n x e = go (decided m l)
    where
      go : Decided m l → (is_yes x ≡ false → by_key (applied m l) ≡ by_key l) × (is_yes x ≡ true → (z : Option Flight) × (eff m (by_key l) ≡ some z) × (by_key (applied m l) ≡ put m z (by_key l))) × (proper (answer_kind x) (deed_of m) ≡ true)
      go (refused a d) = let v = no_fails (deed_of m) (decision m l) x e d in (λ y. ap by_key (applied_fails m l d), λ y. absurd (true_false y v.0), v.1 n)
      go (crowded a d w h) = let v = no_full (deed_of m) (decision m l) x e d in (λ y. ap by_key (applied_full m l d), λ y. absurd (true_false y v.0), v.1 n)
      go (placed i a d h w) =
          let v = yes_done (deed_of m) (decision m l) x e i d in
          (λ y. absurd (true_false v.0 y), λ y. (outcome m l, (eff_is n).0 a, seen_done i a d h w), v.1)

  -- A NEIGHBOUR'S

  close_by : (b : Bool) → is_acceptance (deed_of m) ≡ true → allowed m l ≡ b → close m (by_key l (old m)) ≡ guard b (outcome m l)
  unfolding by_key close
  close_by b n a =
      let x = flight_under (old m) l in
      let s : may (deed_of m) m x none ≡ b = sym (may_near m n x (other m l)) ∙ a in
      λ j. guard (n j && s j) (becomes (deed_of m) m x)

  -- its flight is there
  near_flight : is_acceptance (deed_of m) ≡ true → allowed m l ≡ true → ((w : Flight) × (by_key l (old m) ≡ some w)) × ((r : Flight) × (outcome m l ≡ some r))
  unfolding by_key
  near_flight n a = near_there m n (flight_under (old m) l) (other m l) a

  pub close_is : is_acceptance (deed_of m) ≡ true → (allowed m l ≡ true → (r : Flight) × (close m (by_key l (old m)) ≡ some r)) × (allowed m l ≡ false → close m (by_key l (old m)) ≡ none)
  unfolding guard
  close_is n = (λ a. let r = (near_flight n a).1 in (r.0, close_by true n a ∙ r.1), close_by false n)

  -- it is done where its condition holds: its flight has a place
  near_placed : is_acceptance (deed_of m) ≡ true → (r : Flight) → close m (by_key l (old m)) ≡ some r → (i : ℕ) × (allowed m l ≡ true) × (decision m l ≡ Done i) × (i < length l) × (by_key l (old m) ≡ get i l)
  near_placed n r c = go (decided m l)
    where
      go : Decided m l → (i : ℕ) × (allowed m l ≡ true) × (decision m l ≡ Done i) × (i < length l) × (by_key l (old m) ≡ get i l)
      go (refused a d) = absurd (none_some ((close_is n).1 a) c)
      go (crowded a d w h) = absurd (none_some w (near_flight n a).0.1)
      go (placed i a d h w) = (i, a, d, h, w)

  pub applied_near : is_acceptance (deed_of m) ≡ true → (r : Flight) → close m (by_key l (old m)) ≡ some r → (by_key (applied m l) ≡ under (by_key l) (old m) (some r)) × (used (applied m l) ≡ used l)
  unfolding guard put grown
  applied_near n r c =
      let (i, a, d, h, w) = near_placed n r c in
      let z : outcome m l ≡ some r = sym (close_by true n a) ∙ c in
      let x = (near_flight n a).0 in (
        seen_done i a d h w ∙ (λ j. under (under (by_key l) (old m) none) (near_key m n j) (z j)) ∙ under_twice (by_key l) (old m) (some r),
        used_done i a d h w ∙ (λ j. grown (x.1 j) (z j) (used l)),
      )

  pub answered_near : is_acceptance (deed_of m) ≡ true → (x : ℕ) → x ≡ answer_to (deed_of m) (decision m l)
      → (close m (by_key l (old m)) ≡ none → is_yes x ≡ false) × ((r : Flight) → close m (by_key l (old m)) ≡ some r → (proper_to (near m) x ≡ true) × (is_yes x ≡ true))
  unfolding proper_to message_of
  answered_near n x e = (λ c. go c (decided m l), λ r c. let p = near_placed n r c in let v = yes_done (deed_of m) (decision m l) x e p.0 p.2 in (v.1, v.0))
    where
      go : close m (by_key l (old m)) ≡ none → Decided m l → is_yes x ≡ false
      go c (refused a d) = (no_fails (deed_of m) (decision m l) x e d).0
      go c (crowded a d w h) = (no_full (deed_of m) (decision m l) x e d).0
      go c (placed i a d h w) = absurd (none_some c ((close_is n).0 a).1)

-- AN EMPTY TABLE

nowhere_empty : (p : Option Flight → Bool) → p none ≡ false → (n i : ℕ) → first_of p i (empty n) ≡ Nowhere
unfolding first_of empty
nowhere_empty p e zero i = refl
nowhere_empty p e (suc n) i = ap (λ (b : Bool). cond b (At i) (first_of p (i + 1) (empty n))) e ∙ nowhere_empty p e n (i + 1)

used_empty : (n : ℕ) → used (empty {A = Flight} n) ≡ 0
unfolding used empty
used_empty zero = refl
used_empty (suc n) = used_empty n

pub table_empty : (n : ℕ) → ((k : Key) → by_key (empty n) k ≡ none) × (used (empty {A = Flight} n) ≡ 0)
table_empty n = (λ k. (under_is k (empty n) Nowhere (nowhere_empty (asked k) refl n 0)).0, used_empty n)
