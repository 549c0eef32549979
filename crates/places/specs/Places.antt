-- Places, each free or with what it holds.
use Rattle.std.proofs.Math.Path.{◌≡◌, refl, ap}
use Rattle.std.proofs.Common.{◌∙◌, sym}
use Rattle.std.specs.Prelude.{Bool, cond, length}
use Rattle.std.proofs.Math.Bool.{true, false}
use mathlib.Core.List.{List, [], ◌∷◌}
use Rattle.std.proofs.Math.Option.{Option, none, some}
use Prim.Native.Nat.{ℕ, zero, suc, ◌+◌, ◌-◌, ◌≤◌, ◌<◌}
use Rattle.std.proofs.Math.Nat.{sub-zero}
use native.Mathlib.Omega.{arith}
use Rattle.places.specs.Place.{Place, At, Nowhere}

abbrev pub Places : Type 0 → Type 0
Places A = List (Option A)

abbrev pub is_free : {A : Type 0} → Option A → Bool
is_free none = true
is_free (some a) = false

-- what place i holds; past the end, nothing
unfoldable pub get : {A : Type 0} → ℕ → Places A → Option A
get i [] = none
get zero (x ∷ l) = x
get (suc i) (x ∷ l) = get i l

-- place i holds y
unfoldable pub set : {A : Type 0} → ℕ → Option A → Places A → Places A
set i y [] = []
set zero y (x ∷ l) = y ∷ l
set (suc i) y (x ∷ l) = x ∷ set i y l

-- the first place with what p asks, where the places are counted from i on
unfoldable pub first_of : {A : Type 0} → (Option A → Bool) → ℕ → Places A → Place
first_of p i [] = Nowhere
first_of p i (x ∷ l) = cond (p x) (At i) (first_of p (i + 1) l)

-- how many are not free
unfoldable pub used : {A : Type 0} → Places A → ℕ
used [] = 0
used (x ∷ l) = cond (is_free x) (used l) (1 + used l)

-- every place has P
abbrev pub Every : {A : Type 0} → (Option A → Type 0) → Places A → Type 0
Every P [] = Unit
Every P (x ∷ l) = P x × Every P l

-- k free places
unfoldable pub empty : {A : Type 0} → ℕ → Places A
empty zero = []
empty (suc k) = none ∷ empty k

module _ {A : Type 0} where
  -- ONE PLACE

  pub length_set : (i : ℕ) (y : Option A) (l : Places A) → length (set i y l) ≡ length l
  unfolding set
  length_set i y [] = refl
  length_set zero y (x ∷ l) = refl
  length_set (suc i) y (x ∷ l) = ap suc (length_set i y l)

  pub get_set : (i : ℕ) (y : Option A) (l : Places A) → i < length l → get i (set i y l) ≡ y
  unfolding get set
  get_set i y [] h = absurd (omega arith)
  get_set zero y (x ∷ l) h = refl
  get_set (suc i) y (x ∷ l) h = get_set i y l (omega arith)

  pub get_other : (i j : ℕ) (y : Option A) (l : Places A) → (j ≡ i → ⊥) → get j (set i y l) ≡ get j l
  unfolding get set
  get_other i j y [] n = refl
  get_other zero zero y (x ∷ l) n = absurd (n refl)
  get_other zero (suc j) y (x ∷ l) n = refl
  get_other (suc i) zero y (x ∷ l) n = refl
  get_other (suc i) (suc j) y (x ∷ l) n = get_other i j y l (λ e. n (ap suc e))

  pub set_set : (i : ℕ) (y z : Option A) (l : Places A) → set i y (set i z l) ≡ set i y l
  unfolding set
  set_set i y z [] = refl
  set_set zero y z (x ∷ l) = refl
  set_set (suc i) y z (x ∷ l) = ap (λ (m : Places A). x ∷ m) (set_set i y z l)

  -- EVERY PLACE

  module _ (P : Option A → Type 0) where
    pub every_get : (i : ℕ) (l : Places A) → Every P l → i < length l → P (get i l)
    unfolding get
    every_get i [] e h = absurd (omega arith)
    every_get zero (x ∷ l) e h = e.0
    every_get (suc i) (x ∷ l) e h = every_get i l e.1 (omega arith)

    pub every_set : (i : ℕ) (y : Option A) (l : Places A) → P y → Every P l → Every P (set i y l)
    unfolding set
    every_set i y [] p e = tt
    every_set zero y (x ∷ l) p e = (p, e.1)
    every_set (suc i) y (x ∷ l) p e = (e.0, every_set i y l p e.1)

    pub every_of : (l : Places A) → ((i : ℕ) → i < length l → P (get i l)) → Every P l
    unfolding get
    every_of [] e = tt
    every_of (x ∷ l) e = (e 0 (omega arith), every_of l (λ i h. e (suc i) (omega arith)))

  pub every_as : {P Q : Option A → Type 0} → ((x : Option A) → P x → Q x) → (l : Places A) → Every P l → Every Q l
  every_as f [] e = tt
  every_as f (x ∷ l) e = (f x e.0, every_as f l e.1)

  -- a place that was found is one of them, and has what was asked
  module _ (p : Option A → Bool) where
    first_below : (b : Bool) (f : Place) (i j n : ℕ) → cond b (At i) f ≡ At j → (f ≡ At j → j < i + 1 + n) → j < i + suc n
    first_below true f i j n e r = let v : i ≡ j = cc in omega arith
    first_below false f i j n e r = let v : j < i + 1 + n = r e in omega arith

    pub found_below : (i j : ℕ) (l : Places A) → first_of p i l ≡ At j → j < i + length l
    unfolding first_of
    found_below i j [] e = let z : ◌≡◌ {A = ℕ} 0 1 = cc in absurd (omega arith)
    found_below i j (x ∷ l) e = first_below (p x) (first_of p (i + 1) l) i j (length l) e (found_below (i + 1) j l)

    first_from_lem : (b : Bool) (f : Place) (i j : ℕ) → cond b (At i) f ≡ At j → (f ≡ At j → i + 1 ≤ j) → i ≤ j
    first_from_lem true f i j e r = let v : i ≡ j = cc in omega arith
    first_from_lem false f i j e r = let v : i + 1 ≤ j = r e in omega arith

    found_from : (i j : ℕ) (l : Places A) → first_of p i l ≡ At j → i ≤ j
    unfolding first_of
    found_from i j [] e = let z : ◌≡◌ {A = ℕ} 0 1 = cc in absurd (omega arith)
    found_from i j (x ∷ l) e = first_from_lem (p x) (first_of p (i + 1) l) i j e (found_from (i + 1) j l)

    first_has : (b : Bool) (f : Place) (i j : ℕ) (x : Option A) (l : Places A) → p x ≡ b → cond b (At i) f ≡ At j → (f ≡ At j → i + 1 ≤ j) → (f ≡ At j → p (get (j - (i + 1)) l) ≡ true) → p (get (j - i) (x ∷ l)) ≡ true
    unfolding get
    first_has true f i j x l q e m r = let v : i ≡ j = cc in let z : j - i ≡ 0 = omega arith in rw z q
    first_has false f i j x l q e m r = let v : i + 1 ≤ j = m e in let z : j - i ≡ suc (j - (i + 1)) = omega arith in rw z (r e)

    found_on : (i j : ℕ) (l : Places A) → first_of p i l ≡ At j → p (get (j - i) l) ≡ true
    unfolding first_of
    found_on i j [] e = let z : ◌≡◌ {A = ℕ} 0 1 = cc in absurd (omega arith)
    found_on i j (x ∷ l) e = first_has (p x) (first_of p (i + 1) l) i j x l refl e (found_from (i + 1) j l) (found_on (i + 1) j l)

    pub found_has : (j : ℕ) (l : Places A) → first_of p 0 l ≡ At j → p (get j l) ≡ true
    found_has j l e = ap (λ (k : ℕ). p (get k l)) (sym (sub-zero j)) ∙ found_on 0 j l e

    -- and where none was found, none has it
    first_none : (b : Bool) (f : Place) (i : ℕ) → cond b (At i) f ≡ Nowhere → (b ≡ false) × (f ≡ Nowhere)
    first_none true f i e = let z : ◌≡◌ {A = ℕ} 0 1 = cc in absurd (omega arith)
    first_none false f i e = (refl, e)

    pub found_none : (i k : ℕ) (l : Places A) → first_of p i l ≡ Nowhere → k < length l → p (get k l) ≡ false
    unfolding first_of get
    found_none i k [] e h = absurd (omega arith)
    found_none i zero (x ∷ l) e h = (first_none (p x) (first_of p (i + 1) l) i e).0
    found_none i (suc k) (x ∷ l) e h = found_none (i + 1) k l (first_none (p x) (first_of p (i + 1) l) i e).1 (omega arith)

-- what a place is asked for stays, so the same place is found
pub first_set : {A : Type 0} (p : Option A → Bool) (i j : ℕ) (y : Option A) (l : Places A) → p y ≡ p (get i l) → first_of p j (set i y l) ≡ first_of p j l
unfolding first_of get set
first_set p i j y [] e = refl
first_set p zero j y (x ∷ l) e = ap (λ (b : Bool). cond b (At j) (first_of p (j + 1) l)) e
first_set p (suc i) j y (x ∷ l) e = ap (λ (f : Place). cond (p x) (At j) f) (first_set p i (j + 1) y l e)
