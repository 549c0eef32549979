-- THE FLIGHTS OF ONE END (the owner): its own table S and its partner's table R of the same flights, while messages are under way.
-- A i p: the owner's message i is unanswered there, and is p; g i: the answers that the partner has given to it.
-- B j c: the partner's message j is unanswered there, and is c, about a flight of the owner; h j: the answers that the owner has
-- given to it.
use Rattle.std.specs.Prelude.{◌≡◌, refl, ◌⊎◌, ◌≢◌, Bool, true, false, cond}
use Rattle.std.proofs.Math.Path.{sym}
use Rattle.std.proofs.Common.{◌∙◌, ap, subst, inl, inr}
use Rattle.std.proofs.Math.Option.{Option, none, some}
use mathlib.Core.List.{List, [], ◌∷◌}
use Prim.Native.Nat.{ℕ}
use Rattle.flights.specs.Flight.{Flight}
use Rattle.deeds.specs.Message.{Message}
use Rattle.deeds.specs.Deeds.{Key, same_key, old, new}
use Rattle.pair.specs.kinds.Tools.{under, upd_same, upd_other, under_same, under_other, same?, key?, key_yes, key_no, true_false, some_inj, cons_nil}
use Rattle.pair.specs.kinds.Kinds.{effect, close, retires, Dead, is_yes, Table, other, eff, put}
use Rattle.pair.specs.exchange.KindFacts.{Names, names?}
use Rattle.pair.specs.exchange.Runs.{more}
use Rattle.pair.specs.exchange.Laws.{law_none, law_dead, law_dead_on, law_after, law_commute, law_unused, law_opened}

-- ONE MESSAGE ON A TABLE

put_out : (p : Message) (z : Option Flight) (g : Table) (k : Key) → (Names p k → ⊥) → put p z g k ≡ g k
unfolding put
put_out p z g k n = under_other (under g (old p) none) (new p) z k (λ e. n (inr e)) ∙ under_other g (old p) none k (λ e. n (inl e))

put_new : (p : Message) (z : Option Flight) (g : Table) (k : Key) → k ≡ new p → put p z g k ≡ z
unfolding put
put_new p z g k e = under_same (under g (old p) none) (new p) z k e

put_old : (p : Message) (z : Option Flight) (g : Table) (k : Key) → k ≡ old p → k ≢ new p → put p z g k ≡ none
unfolding put
put_old p z g k e n = under_other (under g (old p) none) (new p) z k n ∙ under_same g (old p) none k e

-- what stands under a key that the message names does not depend on the table
put_same : (p : Message) (z : Option Flight) (g h : Table) (k : Key) → Names p k → put p z g k ≡ put p z h k
put_same p z g h k n = elim (key? k (new p)) [ inl e ↦ put_new p z g k e ∙ sym (put_new p z h k e) | inr m ↦ go m n ]
  where
    go : k ≢ new p → Names p k → put p z g k ≡ put p z h k
    go m (inl e) = put_old p z g k e m ∙ sym (put_old p z h k e m)
    go m (inr e) = absurd (m e)

eff_local : (p : Message) (g h : Table) → g (old p) ≡ h (old p) → g (new p) ≡ h (new p) → eff p g ≡ eff p h
unfolding eff other
eff_local p g h a b =
    ap (λ (v : Option Flight). effect p v (other p g)) a ∙ ap (λ (v : Option Flight). effect p (h (old p)) (cond (same_key (new p) (old p)) none v)) b

other_one : (p : Message) (g : Table) → new p ≡ old p → other p g ≡ none
unfolding other
other_one p g e = ap (λ (b : Bool). cond b none (g (new p))) (key_yes (new p) (old p) e)

other_two : (p : Message) (g : Table) → new p ≢ old p → other p g ≡ g (new p)
unfolding other
other_two p g e = ap (λ (b : Bool). cond b none (g (new p))) (key_no (new p) (old p) e)

-- the partner applied the message
unfoldable pub yesed : List ℕ → Bool
yesed [] = false
yesed (x ∷ l) = is_yes x

pub not_yesed : (l : List ℕ) → l ≡ [] → yesed l ≡ true → ⊥
unfolding yesed
not_yesed l e y = true_false y (ap yesed e)

-- the message can be applied at its sender, or never will be at either end
abbrev Ready : Message → Table → Type 0
Ready p S = ((z : Option Flight) × (eff p S ≡ some z)) ⊎ Dead p (S (old p))

-- p can be applied to S, and T has under its keys what that gives
abbrev pub Done : Message → Table → Table → Type 0
Done p S T = (z : Option Flight) × (eff p S ≡ some z) × ((k : Key) → Names p k → T k ≡ put p z S k)

-- c can close its flight in T, and R has what that gives
abbrev pub Closed : Message → Table → Table → Type 0
Closed c T R = (r : Flight) × (close c (T (old c)) ≡ some r) × (R (old c) ≡ some r)

-- THE INVARIANT. Two unanswered messages of one end name different keys. `via` is S with every message applied that the partner
-- has applied: it is S but for those, and what they give under their keys; a message that was never answered can still be applied
-- to S, or never again at either end. R is via with every neighbour's message closed that the owner has not answered
pub record Flights (A : ℕ → Message → Type 0) (g : ℕ → List ℕ) (B : ℕ → Message → Type 0) (h : ℕ → List ℕ) (S R : Table) : Type 0 where
  pub one_own : (i j : ℕ) (p q : Message) (k : Key) → A i p → A j q → Names p k → Names q k → (i ≡ j) × (p ≡ q)
  pub one_near : (i j : ℕ) (c d : Message) → B i c → B j d → old c ≡ old d → (i ≡ j) × (c ≡ d)
  pub fun_own : (i : ℕ) (p q : Message) → A i p → A i q → p ≡ q
  pub fun_near : (i : ℕ) (c d : Message) → B i c → B i d → c ≡ d
  pub via : Table
  pub calm_own : (k : Key) → ((i : ℕ) (p : Message) → A i p → Names p k → yesed (g i) ≡ true → ⊥) → via k ≡ S k
  pub done_own : (i : ℕ) (p : Message) → A i p → yesed (g i) ≡ true → Done p S via
  pub ready_own : (i : ℕ) (p : Message) → A i p → g i ≡ [] → Ready p S
  pub calm_near : (k : Key) → ((j : ℕ) (c : Message) → B j c → old c ≡ k → h j ≡ [] → ⊥) → R k ≡ via k
  pub wait_near : (j : ℕ) (c : Message) → B j c → h j ≡ [] → Closed c via R

-- two lists of answers that say the same
abbrev pub Alike : List ℕ → List ℕ → Type 0
Alike m l = (yesed m ≡ yesed l) × (m ≡ [] → l ≡ []) × (l ≡ [] → m ≡ [])

pub alike : {m l : List ℕ} → m ≡ l → Alike m l
alike e = (ap yesed e, λ q. sym e ∙ q, λ q. e ∙ q)

-- only what is unanswered, and the answers to that, matter
pub reframe : {A A' : ℕ → Message → Type 0} {g g' : ℕ → List ℕ} {B B' : ℕ → Message → Type 0} {h h' : ℕ → List ℕ} {S R : Table}
    → Flights A g B h S R
    → ((i : ℕ) (p : Message) → A' i p → A i p) → ((i : ℕ) (p : Message) → A i p → A' i p) → ((i : ℕ) (p : Message) → A i p → Alike (g' i) (g i))
    → ((j : ℕ) (c : Message) → B' j c → B j c) → ((j : ℕ) (c : Message) → B j c → B' j c) → ((j : ℕ) (c : Message) → B j c → Alike (h' j) (h j))
    → Flights A' g' B' h' S R
reframe F a a' ga b b' hb = record {
  one_own = λ i j p q k x y m n. F.one_own i j p q k (a i p x) (a j q y) m n;
  one_near = λ i j c d x y e. F.one_near i j c d (b i c x) (b j d y) e;
  fun_own = λ i p q x y. F.fun_own i p q (a i p x) (a i q y);
  fun_near = λ i c d x y. F.fun_near i c d (b i c x) (b i d y);
  via = F.via;
  calm_own = λ k un. F.calm_own k (λ i p x n y. un i p (a' i p x) n ((ga i p x).0 ∙ y));
  done_own = λ i p x y. F.done_own i p (a i p x) (sym (ga i p (a i p x)).0 ∙ y);
  ready_own = λ i p x e. F.ready_own i p (a i p x) ((ga i p (a i p x)).1 e);
  calm_near = λ k un. F.calm_near k (λ j c x e y. un j c (b' j c x) e ((hb j c x).2 y));
  wait_near = λ j c x e. F.wait_near j c (b j c x) ((hb j c (b j c x)).1 e);
}

module _ {A : ℕ → Message → Type 0} {g : ℕ → List ℕ} {B : ℕ → Message → Type 0} {h : ℕ → List ℕ} {S R : Table} (F : Flights A g B h S R) where
  -- two unanswered messages name different keys
  apart : (i j : ℕ) (p q : Message) → A i p → A j q → i ≢ j → (k : Key) → Names p k → Names q k → ⊥
  apart i j p q x y n k m m' = n (F.one_own i j p q k x y m m').0

  -- what one does to a table is not seen by another
  unmoved : (T : Table) (i j : ℕ) (p q : Message) (z : Option Flight) → A i p → A j q → i ≢ j → (k : Key) → Names p k → put q z T k ≡ T k
  unmoved T i j p q z x y n k m = put_out q z T k (apart i j p q x y n k m)

  -- the owner sends a message
  pub send_own : (i₀ : ℕ) (p₀ : Message) → g i₀ ≡ [] → (z : Option Flight) × (eff p₀ S ≡ some z)
      → ((q : Message) → A i₀ q → ⊥) → ((j : ℕ) (q : Message) (k : Key) → A j q → Names p₀ k → Names q k → ⊥)
      → Flights (λ i p. A i p ⊎ ((i ≡ i₀) × (p ≡ p₀))) g B h S R
  send_own i₀ p₀ gi ok new₀ free = record {
    one_own = one;
    one_near = F.one_near;
    fun_own = fn;
    fun_near = F.fun_near;
    via = F.via;
    calm_own = λ k no. F.calm_own k (λ i p x n y. no i p (inl x) n y);
    done_own = done;
    ready_own = rdy;
    calm_near = F.calm_near;
    wait_near = F.wait_near;
  }
    where
      A' : ℕ → Message → Type 0
      A' i p = A i p ⊎ ((i ≡ i₀) × (p ≡ p₀))

      one : (i j : ℕ) (p q : Message) (k : Key) → A' i p → A' j q → Names p k → Names q k → (i ≡ j) × (p ≡ q)
      one i j p q k (inl x) (inl y) m n = F.one_own i j p q k x y m n
      one i j p q k (inl x) (inr e) m n = absurd (free i p k x (subst (λ (r : Message). Names r k) e.1 n) m)
      one i j p q k (inr e) (inl y) m n = absurd (free j q k y (subst (λ (r : Message). Names r k) e.1 m) n)
      one i j p q k (inr e) (inr f) m n = (e.0 ∙ sym f.0, e.1 ∙ sym f.1)

      fn : (i : ℕ) (p q : Message) → A' i p → A' i q → p ≡ q
      fn i p q (inl x) (inl y) = F.fun_own i p q x y
      fn i p q (inl x) (inr e) = absurd (new₀ p (subst (λ (j : ℕ). A j p) e.0 x))
      fn i p q (inr e) (inl y) = absurd (new₀ q (subst (λ (j : ℕ). A j q) e.0 y))
      fn i p q (inr e) (inr f) = e.1 ∙ sym f.1

      done : (i : ℕ) (p : Message) → A' i p → yesed (g i) ≡ true → Done p S F.via
      done i p (inl x) y = F.done_own i p x y
      done i p (inr e) y = absurd (not_yesed (g i) (ap g e.0 ∙ gi) y)

      rdy : (i : ℕ) (p : Message) → A' i p → g i ≡ [] → Ready p S
      rdy i p (inl x) e = F.ready_own i p x e
      rdy i p (inr e) _ = rw e.1 (inl ok)

  -- a message that the partner did not apply is dropped
  pub drop_own : (i₀ : ℕ) → (yesed (g i₀) ≡ true → ⊥) → Flights (λ i p. A i p × (i ≢ i₀)) g B h S R
  drop_own i₀ bad = record {
    one_own = λ i j p q k x y m n. F.one_own i j p q k x.0 y.0 m n;
    one_near = F.one_near;
    fun_own = λ i p q x y. F.fun_own i p q x.0 y.0;
    fun_near = F.fun_near;
    via = F.via;
    calm_own = λ k un. F.calm_own k (λ i p x n y. un i p (x, λ e. bad (ap (λ (j : ℕ). yesed (g j)) (sym e) ∙ y)) n y);
    done_own = λ i p x y. F.done_own i p x.0 y;
    ready_own = λ i p x e. F.ready_own i p x.0 e;
    calm_near = F.calm_near;
    wait_near = F.wait_near;
  }

  -- one that it did apply is applied
  pub apply_own : (i₀ : ℕ) (p₀ : Message) (z : Option Flight) → A i₀ p₀ → yesed (g i₀) ≡ true → eff p₀ S ≡ some z
      → Flights (λ i p. A i p × (i ≢ i₀)) g B h (put p₀ z S) R
  apply_own i₀ p₀ z a y e = record {
    one_own = λ i j p q k x y m n. F.one_own i j p q k x.0 y.0 m n;
    one_near = F.one_near;
    fun_own = λ i p q x y. F.fun_own i p q x.0 y.0;
    fun_near = F.fun_near;
    via = F.via;
    calm_own = calm;
    done_own = done;
    ready_own = rdy;
    calm_near = F.calm_near;
    wait_near = F.wait_near;
  }
    where
      S' : Table
      S' = put p₀ z S

      was : Done p₀ S F.via
      was = F.done_own i₀ p₀ a y

      same_eff : (i : ℕ) (p : Message) → A i p × (i ≢ i₀) → eff p S' ≡ eff p S
      same_eff i p x =
          eff_local p S' S (unmoved S i i₀ p p₀ z x.0 a x.1 (old p) (inl refl)) (unmoved S i i₀ p p₀ z x.0 a x.1 (new p) (inr refl))

      calm : (k : Key) → ((i : ℕ) (p : Message) → A i p × (i ≢ i₀) → Names p k → yesed (g i) ≡ true → ⊥) → F.via k ≡ S' k
      calm k un = elim (names? p₀ k) [
        | inl n ↦ was.2 k n ∙ ap (λ (v : Option Flight). put p₀ v S k) (some_inj was.1 e)
        | inr n ↦ F.calm_own k (λ i p x m v. un i p (x, λ q. n (subst (λ (r : Message). Names r k) (F.fun_own i₀ p p₀ (subst (λ (j : ℕ). A j p) q x) a) m)) m v) ∙ sym (put_out p₀ z S k n)
      ]

      done : (i : ℕ) (p : Message) → A i p × (i ≢ i₀) → yesed (g i) ≡ true → Done p S' F.via
      done i p x v = let d = F.done_own i p x.0 v in (d.0, same_eff i p x ∙ d.1, λ k n. d.2 k n ∙ put_same p d.0 S S' k n)

      rdy : (i : ℕ) (p : Message) → A i p × (i ≢ i₀) → g i ≡ [] → Ready p S'
      rdy i p x v = go (F.ready_own i p x.0 v)
        where
          go : Ready p S → Ready p S'
          go (inl w) = inl (w.0, same_eff i p x ∙ w.1)
          go (inr d) = inr (subst (λ (v : Option Flight). Dead p v) (sym (unmoved S i i₀ p p₀ z x.0 a x.1 (old p) (inl refl))) d)

  -- the partner has refused a message
  pub hear_own_no : (i₀ x : ℕ) → is_yes x ≡ false → g i₀ ≡ [] → Flights A (more g i₀ x) B h S R
  unfolding yesed
  hear_own_no i₀ x bad e = record {
    one_own = F.one_own;
    one_near = F.one_near;
    fun_own = F.fun_own;
    fun_near = F.fun_near;
    via = F.via;
    calm_own = λ k un. F.calm_own k (λ i p a n y. un i p a n (other_way i y));
    done_own = λ i p a y. F.done_own i p a (this_way i y);
    ready_own = λ i p a y. F.ready_own i p a (empty_way i y);
    calm_near = F.calm_near;
    wait_near = F.wait_near;
  }
    where
      g' : ℕ → List ℕ
      g' = more g i₀ x

      this_way : (i : ℕ) → yesed (g' i) ≡ true → yesed (g i) ≡ true
      this_way i y = elim (same? i i₀) [
        | inl q ↦ absurd (true_false y (ap yesed (upd_same g i₀ (x ∷ g i₀) i q) ∙ bad))
        | inr q ↦ sym (ap yesed (upd_other g i₀ (x ∷ g i₀) i q)) ∙ y
      ]

      other_way : (i : ℕ) → yesed (g i) ≡ true → yesed (g' i) ≡ true
      other_way i y = elim (same? i i₀) [ inl q ↦ absurd (not_yesed (g i) (ap g q ∙ e) y) | inr q ↦ ap yesed (upd_other g i₀ (x ∷ g i₀) i q) ∙ y ]

      empty_way : (i : ℕ) → g' i ≡ [] → g i ≡ []
      empty_way i y = elim (same? i i₀) [ inl q ↦ ap g q ∙ e | inr q ↦ sym (upd_other g i₀ (x ∷ g i₀) i q) ∙ y ]

  -- the partner sends a message about a flight of the owner, and applies it at once
  pub send_near : (j₀ : ℕ) (c₀ : Message) (r : Flight) → h j₀ ≡ [] → close c₀ (R (old c₀)) ≡ some r
      → ((d : Message) → B j₀ d → ⊥) → ((j : ℕ) (d : Message) → B j d → old d ≢ old c₀)
      → Flights A g (λ j c. B j c ⊎ ((j ≡ j₀) × (c ≡ c₀))) h S (under R (old c₀) (some r))
  send_near j₀ c₀ r hj e new₀ free = record {
    one_own = F.one_own;
    one_near = one;
    fun_own = F.fun_own;
    fun_near = fn;
    via = F.via;
    calm_own = F.calm_own;
    done_own = F.done_own;
    ready_own = F.ready_own;
    calm_near = calm;
    wait_near = wait;
  }
    where
      R' : Table
      R' = under R (old c₀) (some r)

      B' : ℕ → Message → Type 0
      B' j c = B j c ⊎ ((j ≡ j₀) × (c ≡ c₀))

      one : (i j : ℕ) (c d : Message) → B' i c → B' j d → old c ≡ old d → (i ≡ j) × (c ≡ d)
      one i j c d (inl x) (inl y) q = F.one_near i j c d x y q
      one i j c d (inl x) (inr f) q = absurd (free i c x (q ∙ ap old f.1))
      one i j c d (inr f) (inl y) q = absurd (free j d y (sym q ∙ ap old f.1))
      one i j c d (inr f) (inr f') q = (f.0 ∙ sym f'.0, f.1 ∙ sym f'.1)

      fn : (i : ℕ) (c d : Message) → B' i c → B' i d → c ≡ d
      fn i c d (inl x) (inl y) = F.fun_near i c d x y
      fn i c d (inl x) (inr f) = absurd (new₀ c (subst (λ (j : ℕ). B j c) f.0 x))
      fn i c d (inr f) (inl y) = absurd (new₀ d (subst (λ (j : ℕ). B j d) f.0 y))
      fn i c d (inr f) (inr f') = f.1 ∙ sym f'.1

      same : R (old c₀) ≡ F.via (old c₀)
      same = F.calm_near (old c₀) (λ j d x q u. free j d x q)

      calm : (k : Key) → ((j : ℕ) (c : Message) → B' j c → old c ≡ k → h j ≡ [] → ⊥) → R' k ≡ F.via k
      calm k un = elim (key? k (old c₀)) [
        | inl q ↦ absurd (un j₀ c₀ (inr (refl, refl)) (sym q) hj)
        | inr q ↦ under_other R (old c₀) (some r) k q ∙ F.calm_near k (λ j c x w u. un j c (inl x) w u)
      ]

      wait : (j : ℕ) (c : Message) → B' j c → h j ≡ [] → Closed c F.via R'
      wait j c (inl x) u = let w = F.wait_near j c x u in (w.0, w.1, under_other R (old c₀) (some r) (old c) (free j c x) ∙ w.2)
      wait j c (inr f) u =
          (r, rw f.1 (ap (close c₀) (sym same) ∙ e), under_same R (old c₀) (some r) (old c) (ap old f.1))

  -- the owner's answer has come back to the partner
  pub drop_near : (j₀ : ℕ) → (h j₀ ≡ [] → ⊥) → Flights A g (λ j c. B j c × (j ≢ j₀)) h S R
  drop_near j₀ ans = record {
    one_own = F.one_own;
    one_near = λ i j c d x y q. F.one_near i j c d x.0 y.0 q;
    fun_own = F.fun_own;
    fun_near = λ i c d x y. F.fun_near i c d x.0 y.0;
    via = F.via;
    calm_own = F.calm_own;
    done_own = F.done_own;
    ready_own = F.ready_own;
    calm_near = λ k un. F.calm_near k (λ j c x q u. un j c (x, λ w. ans (ap h (sym w) ∙ u)) q u);
    wait_near = λ j c x u. F.wait_near j c x.0 u;
  }

  -- a neighbour's message that waits for the owner, about the key k
  abbrev pub Pend : Key → Type 0
  Pend k = (j : ℕ) × (c : Message) × B j c × (old c ≡ k) × (h j ≡ [])

  abbrev pub NoPend : Key → Type 0
  NoPend k = (j : ℕ) (c : Message) → B j c → old c ≡ k → h j ≡ [] → ⊥

  -- an owner's message about the key k that the partner has applied
  abbrev pub Good : Key → Type 0
  Good k = (i : ℕ) × (p : Message) × A i p × Names p k × (yesed (g i) ≡ true)

  abbrev pub NoGood : Key → Type 0
  NoGood k = (i : ℕ) (p : Message) → A i p → Names p k → yesed (g i) ≡ true → ⊥

  -- where an unanswered message is not yet handled, nothing else about its keys is under way from the owner
  via_own : (i : ℕ) (p : Message) → A i p → g i ≡ [] → (k : Key) → Names p k → F.via k ≡ S k
  via_own i p a e k n = F.calm_own k (λ i' p' a' n' y. not_yesed (g i') (ap g (F.one_own i' i p' p k a' a n' n).0 ∙ e) y)

  -- a second key has no neighbour's message on it
  no_second : (i : ℕ) (p : Message) (z : Option Flight) (j : ℕ) (c : Message) → A i p → g i ≡ [] → eff p S ≡ some z → new p ≢ old p → B j c → old c ≡ new p → h j ≡ [] → ⊥
  unfolding eff
  no_second i p z j c a e s n b q u =
      let w = F.wait_near j c b u in
      law_none c w.0 (ap (close c) (sym (ap F.via q ∙ via_own i p a e (new p) (inr refl) ∙ sym (other_two p S n) ∙ law_unused p (S (old p)) (other p S) z n s)) ∙ w.1)

  -- what the partner found when it applied the message p₀: what the owner has, or that after one of its own
  Meet : Message → Option Flight → Option Flight → Type 0
  Meet p₀ z z' =
      ((z ≡ z') × ((k : Key) → Names p₀ k → NoPend k))
      ⊎ ((new p₀ ≡ old p₀) × ((j : ℕ) × (c : Message) × (r : Flight) × B j c × (old c ≡ old p₀) × (h j ≡ []) × (close c z ≡ some r) × (z' ≡ some r)))

  meet : (i₀ : ℕ) (p₀ : Message) (z' : Option Flight) → A i₀ p₀ → g i₀ ≡ [] → eff p₀ R ≡ some z' → ((k : Key) → Pend k ⊎ NoPend k)
      → (z : Option Flight) × (eff p₀ S ≡ some z) × Meet p₀ z z'
  unfolding eff Meet
  meet i₀ p₀ z' a e eR near? = on_old (near? o) (F.ready_own i₀ p₀ a e)
    where
      o : Key
      o = old p₀

      vs : (k : Key) → Names p₀ k → F.via k ≡ S k
      vs = via_own i₀ p₀ a e

      second : (z : Option Flight) → eff p₀ S ≡ some z → other p₀ R ≡ other p₀ S
      second z s = elim (key? (new p₀) o) [
        | inl q ↦ other_one p₀ R q ∙ sym (other_one p₀ S q)
        | inr q ↦ other_two p₀ R q ∙ F.calm_near (new p₀) (λ j c b w u. no_second i₀ p₀ z j c a e s q b w u) ∙ vs (new p₀) (inr refl) ∙ sym (other_two p₀ S q)
      ]

      on_old : Pend o ⊎ NoPend o → Ready p₀ S → (z : Option Flight) × (eff p₀ S ≡ some z) × Meet p₀ z z'
      on_old (inr un) (inr d) = absurd (law_dead p₀ (R o) (other p₀ R) z' (subst (λ (v : Option Flight). Dead p₀ v) (sym (F.calm_near o un ∙ vs o (inl refl))) d) eR)
      on_old (inr un) (inl s) = (
        s.0,
        s.1,
        inl (
          some_inj s.1 (ap (λ (v : Option Flight). effect p₀ v (other p₀ S)) (sym (F.calm_near o un ∙ vs o (inl refl))) ∙ ap (effect p₀ (R o)) (sym (second s.0 s.1)) ∙ eR),
          none_near,
        ),
      )
        where
          none_near : (k : Key) → Names p₀ k → NoPend k
          none_near k (inl q) j c b w u = un j c b (w ∙ q) u
          none_near k (inr q) j c b w u = elim (key? (new p₀) o) [
            | inl q' ↦ un j c b (w ∙ q ∙ q') u
            | inr q' ↦ no_second i₀ p₀ s.0 j c a e s.1 q' b (w ∙ q) u
          ]
      on_old (inl pd) rdy = go rdy
        where
          c : Message
          c = pd.1

          w : Closed c F.via R
          w = F.wait_near pd.0 c pd.2 pd.4

          r : Flight
          r = w.0

          cl : close c (S o) ≡ some r
          cl = ap (close c) (sym (ap F.via pd.3 ∙ vs o (inl refl))) ∙ w.1

          Ro : R o ≡ some r
          Ro = ap R (sym pd.3) ∙ w.2

          go : Ready p₀ S → (z : Option Flight) × (eff p₀ S ≡ some z) × Meet p₀ z z'
          go (inr d) = absurd (law_dead p₀ (R o) (other p₀ R) z' (subst (λ (v : Option Flight). Dead p₀ v) (sym Ro) (law_dead_on p₀ c (S o) r d cl)) eR)
          go (inl s) =
              let m = law_commute p₀ c (S o) (other p₀ S) s.0 z' r s.1 cl
              (ap (λ (v : Option Flight). effect p₀ v (other p₀ S)) (sym Ro) ∙ ap (effect p₀ (R o)) (sym (second s.0 s.1)) ∙ eR) in
              (s.0, s.1, inr (m.0, (pd.0, c, m.1.0, pd.2, pd.3, pd.4, m.1.1, m.1.2)))

  -- the partner has applied a message
  pub hear_own_yes : (i₀ : ℕ) (p₀ : Message) (x : ℕ) (z' : Option Flight) → A i₀ p₀ → is_yes x ≡ true → g i₀ ≡ [] → eff p₀ R ≡ some z'
      → ((k : Key) → Pend k ⊎ NoPend k) → Flights A (more g i₀ x) B h S (put p₀ z' R)
  unfolding yesed Meet
  hear_own_yes i₀ p₀ x z' a ok e eR near? = record {
    one_own = F.one_own;
    one_near = F.one_near;
    fun_own = F.fun_own;
    fun_near = F.fun_near;
    via = V';
    calm_own = calm;
    done_own = done;
    ready_own = λ i p b y. F.ready_own i p b (empty_way i y);
    calm_near = calm_n M.2;
    wait_near = wait_n M.2;
  }
    where
      g' : ℕ → List ℕ
      g' = more g i₀ x

      M : (z : Option Flight) × (eff p₀ S ≡ some z) × Meet p₀ z z'
      M = meet i₀ p₀ z' a e eR near?

      z : Option Flight
      z = M.0

      V' : Table
      V' = put p₀ z F.via

      R' : Table
      R' = put p₀ z' R

      good₀ : yesed (g' i₀) ≡ true
      good₀ = ap yesed (upd_same g i₀ (x ∷ g i₀) i₀ refl) ∙ ok

      up : (i : ℕ) → yesed (g i) ≡ true → yesed (g' i) ≡ true
      up i y = elim (same? i i₀) [ inl q ↦ absurd (not_yesed (g i) (ap g q ∙ e) y) | inr q ↦ ap yesed (upd_other g i₀ (x ∷ g i₀) i q) ∙ y ]

      empty_way : (i : ℕ) → g' i ≡ [] → g i ≡ []
      empty_way i y = elim (same? i i₀) [ inl q ↦ ap g q ∙ e | inr q ↦ sym (upd_other g i₀ (x ∷ g i₀) i q) ∙ y ]

      calm : (k : Key) → ((i : ℕ) (p : Message) → A i p → Names p k → yesed (g' i) ≡ true → ⊥) → V' k ≡ S k
      calm k un = elim (names? p₀ k) [
        | inl n ↦ absurd (un i₀ p₀ a n good₀)
        | inr n ↦ put_out p₀ z F.via k n ∙ F.calm_own k (λ i p b m y. un i p b m (up i y))
      ]

      done : (i : ℕ) (p : Message) → A i p → yesed (g' i) ≡ true → Done p S V'
      done i p b y = elim (same? i i₀) [
        | inl q ↦ rw (F.fun_own i₀ p p₀ (subst (λ (j : ℕ). A j p) q b) a) (z, M.1, λ k n. put_same p₀ z F.via S k n)
        | inr q ↦ (let d = F.done_own i p b (sym (ap yesed (upd_other g i₀ (x ∷ g i₀) i q)) ∙ y) in
            (d.0, d.1, λ k n. unmoved F.via i i₀ p p₀ z b a q k n ∙ d.2 k n))
      ]

      calm_n : Meet p₀ z z' → (k : Key) → NoPend k → R' k ≡ V' k
      calm_n mt k un = go (names? p₀ k) mt
        where
          go : Names p₀ k ⊎ (Names p₀ k → ⊥) → Meet p₀ z z' → R' k ≡ V' k
          go (inr n) _ = put_out p₀ z' R k n ∙ F.calm_near k un ∙ sym (put_out p₀ z F.via k n)
          go (inl n) (inl m) = ap (λ (v : Option Flight). put p₀ v R k) (sym m.0) ∙ put_same p₀ z R F.via k n
          go (inl (inl q)) (inr m) = absurd (un m.1.0 m.1.1 m.1.3 (m.1.4 ∙ sym q) m.1.5)
          go (inl (inr q)) (inr m) = absurd (un m.1.0 m.1.1 m.1.3 (m.1.4 ∙ sym m.0 ∙ sym q) m.1.5)

      wait_n : Meet p₀ z z' → (j : ℕ) (c : Message) → B j c → h j ≡ [] → Closed c V' R'
      wait_n mt j c b u = go (names? p₀ (old c)) mt
        where
          go : Names p₀ (old c) ⊎ (Names p₀ (old c) → ⊥) → Meet p₀ z z' → Closed c V' R'
          go (inr n) _ = let w = F.wait_near j c b u in
              (w.0, ap (close c) (put_out p₀ z F.via (old c) n) ∙ w.1, put_out p₀ z' R (old c) n ∙ w.2)
          go (inl n) (inl m) = absurd (m.1 (old c) n j c b refl u)
          go (inl n) (inr m) = (
            m.1.2,
            ap (close c) (put_new p₀ z F.via (old c) at_new) ∙ ap (λ (d : Message). close d z) same_c ∙ m.1.6,
            put_new p₀ z' R (old c) at_new ∙ m.1.7,
          )
            where
              at_new : old c ≡ new p₀
              at_new = elim n [ inl q ↦ q ∙ sym m.0 | inr q ↦ q ]

              same_c : c ≡ m.1.1
              same_c = (F.one_near j m.1.0 c m.1.1 b m.1.3 (at_new ∙ m.0 ∙ sym m.1.4)).1

  -- what the owner finds when the neighbour's message c₀ comes, with r what the partner has made of the flight
  Tie : Message → Flight → Flight → Type 0
  Tie c₀ r x' =
      (NoGood (old c₀) × (x' ≡ r))
      ⊎ ((i : ℕ) × (p : Message) × A i p × (yesed (g i) ≡ true) × (new p ≡ old p) × (old c₀ ≡ old p) × (effect p (some x') (other p S) ≡ some (some r)))

  tie : (j₀ : ℕ) (c₀ : Message) → B j₀ c₀ → h j₀ ≡ [] → ((i : ℕ) (p : Message) → A i p → retires c₀ p ≡ true → ⊥) → Good (old c₀) ⊎ NoGood (old c₀)
      → (r : Flight) × (R (old c₀) ≡ some r) × ((x' : Flight) × (close c₀ (S (old c₀)) ≡ some x') × Tie c₀ r x')
  unfolding eff Tie
  tie j₀ c₀ b u unret own? = go own?
    where
      k₀ : Key
      k₀ = old c₀

      w : (r : Flight) × (close c₀ (F.via k₀) ≡ some r) × (R k₀ ≡ some r)
      w = F.wait_near j₀ c₀ b u

      go : Good k₀ ⊎ NoGood k₀ → (r : Flight) × (R k₀ ≡ some r) × ((x' : Flight) × (close c₀ (S k₀) ≡ some x') × Tie c₀ r x')
      go (inr un) = (w.0, w.2, (w.0, ap (close c₀) (sym (F.calm_own k₀ un)) ∙ w.1, inl (un, refl)))
      go (inl gd) = fin (law_opened p c₀ (S (old p)) (other p S) d.0 w.0 d.1 gd.3 (ap (close c₀) (sym via_z) ∙ w.1))
        where
          i : ℕ
          i = gd.0

          p : Message
          p = gd.1

          d : Done p S F.via
          d = F.done_own i p gd.2 gd.4

          via_z : F.via k₀ ≡ d.0
          via_z = elim (key? k₀ (new p)) [
            | inl q ↦ d.2 k₀ gd.3 ∙ put_new p d.0 S k₀ q
            | inr q ↦ absurd (law_none c₀ w.0 (ap (close c₀) (sym (d.2 k₀ gd.3 ∙ put_old p d.0 S k₀ (first_key q gd.3) q)) ∙ w.1))
          ]
            where
              first_key : k₀ ≢ new p → Names p k₀ → k₀ ≡ old p
              first_key q (inl e) = e
              first_key q (inr e) = absurd (q e)

          at_old : new p ≡ old p → Names p k₀ → k₀ ≡ old p
          at_old q (inl e) = e
          at_old q (inr e) = e ∙ q

          fin : (new p ≡ old p) × ((retires c₀ p ≡ true) ⊎ ((retires c₀ p ≡ false) × ((x' : Flight) × (close c₀ (S (old p)) ≡ some x') × (effect p (some x') (other p S) ≡ some (some w.0)))))
              → (r : Flight) × (R k₀ ≡ some r) × ((x' : Flight) × (close c₀ (S k₀) ≡ some x') × Tie c₀ r x')
          fin m = elim m.1 [
            | inl t ↦ absurd (unret i p gd.2 t)
            | inr t ↦ (w.0, w.2, (t.1.0, ap (λ (k : Key). close c₀ (S k)) (at_old m.0 gd.3) ∙ t.1.1, inr (i, p, gd.2, gd.4, m.0, at_old m.0 gd.3, t.1.2)))
          ]

  -- the owner applies a neighbour's message, no unanswered offer being left that it retires
  pub hear_near : (j₀ : ℕ) (c₀ : Message) (x : ℕ) → B j₀ c₀ → h j₀ ≡ [] → ((i : ℕ) (p : Message) → A i p → retires c₀ p ≡ true → ⊥)
      → Good (old c₀) ⊎ NoGood (old c₀)
      → (x' : Flight) × (close c₀ (S (old c₀)) ≡ some x') × Flights A g B (more h j₀ x) (under S (old c₀) (some x')) R
  unfolding Tie eff
  hear_near j₀ c₀ x b u unret own? = (
    x',
    T.2.1,
    record {
      one_own = F.one_own;
      one_near = F.one_near;
      fun_own = F.fun_own;
      fun_near = F.fun_near;
      via = V';
      calm_own = calm T.2.2;
      done_own = done T.2.2;
      ready_own = rdy T.2.2;
      calm_near = calm_n;
      wait_near = wait_n;
    },
  )
    where
      k₀ : Key
      k₀ = old c₀

      T : (r : Flight) × (R k₀ ≡ some r) × ((x' : Flight) × (close c₀ (S k₀) ≡ some x') × Tie c₀ r x')
      T = tie j₀ c₀ b u unret own?

      r : Flight
      r = T.0

      x' : Flight
      x' = T.2.0

      cl : close c₀ (S k₀) ≡ some x'
      cl = T.2.1

      S' : Table
      S' = under S k₀ (some x')

      V' : Table
      V' = under F.via k₀ (some r)

      h' : ℕ → List ℕ
      h' = more h j₀ x

      off : (p : Message) → (Names p k₀ → ⊥) → (k : Key) → Names p k → k ≢ k₀
      off p n k m q = n (subst (λ (v : Key). Names p v) q m)

      eff_off : (p : Message) → (Names p k₀ → ⊥) → eff p S' ≡ eff p S
      eff_off p m = eff_local p S' S (under_other S k₀ (some x') (old p) (off p m (old p) (inl refl))) (under_other S k₀ (some x') (new p) (off p m (new p) (inr refl)))

      calm : Tie c₀ r x' → (k : Key) → NoGood k → V' k ≡ S' k
      calm t k un = go (key? k k₀) t
        where
          go : (k ≡ k₀) ⊎ (k ≢ k₀) → Tie c₀ r x' → V' k ≡ S' k
          go (inr q) _ = under_other F.via k₀ (some r) k q ∙ F.calm_own k un ∙ sym (under_other S k₀ (some x') k q)
          go (inl q) (inl m) = under_same F.via k₀ (some r) k q ∙ sym (ap {B = Option Flight} some m.1) ∙ sym (under_same S k₀ (some x') k q)
          go (inl q) (inr m) = absurd (un m.0 m.1 m.2 (inl (q ∙ m.5)) m.3)

      done : Tie c₀ r x' → (i : ℕ) (p : Message) → A i p → yesed (g i) ≡ true → Done p S' V'
      done t i p a y = go (names? p k₀) t
        where
          go : Names p k₀ ⊎ (Names p k₀ → ⊥) → Tie c₀ r x' → Done p S' V'
          go (inr n) _ = let d = F.done_own i p a y in
              (d.0, eff_off p n ∙ d.1, λ k m. under_other F.via k₀ (some r) k (off p n k m) ∙ d.2 k m ∙ put_same p d.0 S S' k m)
          go (inl n) (inl m) = absurd (m.0 i p a n y)
          go (inl n) (inr m) = rw one.1 (some r, e₁, at₁)
            where
              i₁ : ℕ
              i₁ = m.0

              p₁ : Message
              p₁ = m.1

              one : (i ≡ i₁) × (p ≡ p₁)
              one = F.one_own i i₁ p p₁ k₀ a m.2 n (inl m.5)

              e₁ : eff p₁ S' ≡ some (some r)
              e₁ = ap (λ (v : Option Flight). effect p₁ v (other p₁ S')) (under_same S k₀ (some x') (old p₁) (sym m.5))
                  ∙ ap (effect p₁ (some x')) (other_one p₁ S' m.4 ∙ sym (other_one p₁ S m.4)) ∙ m.6

              at₁ : (k : Key) → Names p₁ k → V' k ≡ put p₁ (some r) S' k
              at₁ k (inl q) = under_same F.via k₀ (some r) k (q ∙ sym m.5) ∙ sym (put_new p₁ (some r) S' k (q ∙ sym m.4))
              at₁ k (inr q) = under_same F.via k₀ (some r) k (q ∙ m.4 ∙ sym m.5) ∙ sym (put_new p₁ (some r) S' k q)

      rdy : Tie c₀ r x' → (i : ℕ) (p : Message) → A i p → g i ≡ [] → Ready p S'
      rdy t i p a e = go (names? p k₀) t (F.ready_own i p a e)
        where
          go : Names p k₀ ⊎ (Names p k₀ → ⊥) → Tie c₀ r x' → Ready p S → Ready p S'
          go (inr n) _ (inl z) = inl (z.0, eff_off p n ∙ z.1)
          go (inr n) _ (inr d) = inr (subst (λ (v : Option Flight). Dead p v) (sym (under_other S k₀ (some x') (old p) (off p n (old p) (inl refl)))) d)
          go (inl n) (inr m) _ = absurd (not_yesed (g i) e (ap (λ (j : ℕ). yesed (g j)) (F.one_own i m.0 p m.1 k₀ a m.2 n (inl m.5)).0 ∙ m.3))
          go (inl n) (inl m) rd = on_key (key? k₀ (old p)) rd
            where
              on_key : (k₀ ≡ old p) ⊎ (k₀ ≢ old p) → Ready p S → Ready p S'
              on_key (inl q) (inr d) =
                  inr (subst (λ (v : Option Flight). Dead p v) (sym (under_same S k₀ (some x') (old p) (sym q))) (law_dead_on p c₀ (S (old p)) x' d (ap (λ (k : Key). close c₀ (S k)) (sym q) ∙ cl)))
              on_key (inl q) (inl z) = fin (law_after p c₀ (S (old p)) (other p S) z.0 x' z.1 (ap (λ (k : Key). close c₀ (S k)) (sym q) ∙ cl))
                where
                  same_other : other p S' ≡ other p S
                  same_other = elim (key? (new p) (old p)) [
                    | inl v ↦ other_one p S' v ∙ sym (other_one p S v)
                    | inr v ↦ other_two p S' v ∙ under_other S k₀ (some x') (new p) (λ v'. v (v' ∙ q)) ∙ sym (other_two p S v)
                  ]

                  fin : ((z' : Option Flight) × (effect p (some x') (other p S) ≡ some z')) ⊎ Dead p (some x') → Ready p S'
                  fin (inl v) = inl (v.0, ap (λ (v : Option Flight). effect p v (other p S')) (under_same S k₀ (some x') (old p) (sym q)) ∙ ap (effect p (some x')) same_other ∙ v.1)
                  fin (inr d) = inr (subst (λ (v : Option Flight). Dead p v) (sym (under_same S k₀ (some x') (old p) (sym q))) d)
              on_key (inr q) (inr d) = inr (subst (λ (v : Option Flight). Dead p v) (sym (under_other S k₀ (some x') (old p) (λ v. q (sym v)))) d)
              on_key (inr q) (inl z) = absurd (no_second i p z.0 j₀ c₀ a e z.1 (λ v. q (at_new n ∙ v)) b (at_new n) u)
                where
                  at_new : Names p k₀ → k₀ ≡ new p
                  at_new (inl v) = absurd (q v)
                  at_new (inr v) = v

      calm_n : (k : Key) → ((j : ℕ) (c : Message) → B j c → old c ≡ k → h' j ≡ [] → ⊥) → R k ≡ V' k
      calm_n k un = elim (key? k k₀) [
        | inl q ↦ ap R q ∙ T.1 ∙ sym (under_same F.via k₀ (some r) k q)
        | inr q ↦ F.calm_near k (λ j c y v e. un j c y v (upd_other h j₀ (x ∷ h j₀) j (λ j≡. q (sym v ∙ ap old (F.fun_near j₀ c c₀ (subst (λ (l : ℕ). B l c) j≡ y) b))) ∙ e))
            ∙ sym (under_other F.via k₀ (some r) k q)
      ]

      wait_n : (j : ℕ) (c : Message) → B j c → h' j ≡ [] → Closed c V' R
      wait_n j c y e = elim (same? j j₀) [
        | inl q ↦ absurd (cons_nil (upd_same h j₀ (x ∷ h j₀) j q) e)
        | inr q ↦ (let v = F.wait_near j c y (sym (upd_other h j₀ (x ∷ h j₀) j q) ∙ e) in
            (v.0, ap (close c) (under_other F.via k₀ (some r) (old c) (λ k≡. q (F.one_near j j₀ c c₀ y b k≡).0)) ∙ v.1, v.2))
      ]
