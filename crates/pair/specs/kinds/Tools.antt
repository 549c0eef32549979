-- Small tools: guards, and functions that are changed at one number or under one key.
use Rattle.std.specs.Prelude.{◌≡◌, refl, ◌⊎◌, ◌≢◌, List, [], ◌∷◌, ℕ, zero, suc, ◌<◌, eqb, length}
use Rattle.std.proofs.Common.{sym, ◌∙◌, ap, subst, inl, inr, eq-eqb, ne_eqb, arith}
use mathlib.Core.Bool.{Bool, true, false, cond, ◌&&◌}
use mathlib.Core.Option.{Option, none, some}
use Rattle.std.proofs.Math.Decide.{ℕ_discrete}
use Rattle.flights.specs.Flight.{Flight}
use Rattle.places.specs.Places.{Places, get, is_free}
use Rattle.deeds.specs.Message.{Message}
use Rattle.deeds.specs.Deeds.{Key, same_key, or_held, old, changed_key, amended}
use Rattle.places.specs.Bytes.{same_is}
use Rattle.deeds.specs.Tests.{same_key_lem as key_eq}

-- x stands where the test passes
unfoldable pub guard : {A : Type 0} → Bool → Option A → Option A
guard true x = x
guard false x = none

-- f with the value v at the number k
unfoldable pub upd : {A : Type 0} → (ℕ → A) → ℕ → A → ℕ → A
upd f k v j = cond (eqb j k) v (f j)

-- f with the value v under the key k
unfoldable pub under : {A : Type 0} → (Key → A) → Key → A → Key → A
under f k v j = cond (same_key j k) v (f j)

pub same? : (a b : ℕ) → (a ≡ b) ⊎ (a ≢ b)
same? a b = elim (ℕ_discrete a b) [ yes p ↦ inl p | no p ↦ inr p ]

pub upd_same : {A : Type 0} (f : ℕ → A) (k : ℕ) (v : A) (j : ℕ) → j ≡ k → upd f k v j ≡ v
unfolding upd
upd_same f k v j p = rw (eq-eqb j k p) refl

pub upd_other : {A : Type 0} (f : ℕ → A) (k : ℕ) (v : A) (j : ℕ) → j ≢ k → upd f k v j ≡ f j
unfolding upd
upd_other f k v j p = rw (ne_eqb j k p) refl

pub guard_yes : {A : Type 0} (b : Bool) (x : Option A) (a : A) → guard b x ≡ some a → (b ≡ true) × (x ≡ some a)
unfolding guard
guard_yes true x a e = (refl, e)
guard_yes false x a e = absurd (mathlib.Core.Option.none-ne-some a e)

pub true_false : {b : Bool} → b ≡ true → b ≡ false → ⊥
true_false p q = mathlib.Core.Bool.true≢false (sym p ∙ q)

pub none_some : {A : Type 0} {o : Option A} {a : A} → o ≡ none → o ≡ some a → ⊥
none_some {A} {o} {a} p q = mathlib.Core.Option.none-ne-some a (sym p ∙ q)

pub some_inj : {A : Type 0} {o : Option A} {a b : A} → o ≡ some a → o ≡ some b → a ≡ b
some_inj {A} {o} {a} {b} p q = mathlib.Core.Option.some-injective a b (sym p ∙ q)

pub cons_nil : {A : Type 0} {x : A} {l m : List A} → m ≡ (x ∷ l) → m ≡ [] → ⊥
cons_nil p q = omega (arith, ap length p, ap length q)

-- a place that holds something is one of them
pub get_below : {A : Type 0} (i : ℕ) (l : Places A) (a : A) → get i l ≡ some a → i < length l
unfolding get
get_below i [] a e = absurd (none_some refl e)
get_below zero (x ∷ l) a e = omega arith
get_below (suc i) (x ∷ l) a e = let h : i < length l = get_below i l a e in omega arith

-- a place that is free holds nothing
pub free_none : {A : Type 0} (o : Option A) → is_free o ≡ true → o ≡ none
free_none none e = refl
free_none (some a) e = absurd (true_false e refl)

-- KEYS

-- the key under which a flight stands
abbrev pub key_of : Flight → Key
key_of x = record { aircraft = x.aircraft; departure = x.departure; destination = x.destination }

-- what a CHG makes of a flight under its old key stands under its new one
pub amended_key : (m : Message) (x : Flight) → key_of x ≡ old m → key_of (amended m.changes x) ≡ changed_key m
amended_key m x k = λ i. record {
  aircraft = or_held m.changes.aircraft (k i).aircraft;
  departure = or_held m.changes.departure (k i).departure;
  destination = or_held m.changes.destination (k i).destination;
}

pub key_self : (a : Key) → same_key a a ≡ true
key_self a =
    rw ((same_is a.aircraft a.aircraft).no refl, (same_is a.departure a.departure).no refl, (same_is a.destination a.destination).no refl) refl

pub key_yes : (a b : Key) → a ≡ b → same_key a b ≡ true
key_yes a b p = subst (λ (c : Key). same_key a c ≡ true) p (key_self a)

pub key_no : (a b : Key) → a ≢ b → same_key a b ≡ false
key_no a b n = go (same_key a b) refl
  where
    go : (c : Bool) → same_key a b ≡ c → same_key a b ≡ false
    go true e = absurd (n (key_eq a b e))
    go false e = e

pub key? : (a b : Key) → (a ≡ b) ⊎ (a ≢ b)
key? a b = go (same_key a b) refl
  where
    go : (c : Bool) → same_key a b ≡ c → (a ≡ b) ⊎ (a ≢ b)
    go true e = inl (key_eq a b e)
    go false e = inr (λ p. true_false (key_yes a b p) e)

pub under_same : {A : Type 0} (f : Key → A) (k : Key) (v : A) (j : Key) → j ≡ k → under f k v j ≡ v
unfolding under
under_same f k v j p = ap (λ (b : Bool). cond b v (f j)) (key_yes j k p)

pub under_other : {A : Type 0} (f : Key → A) (k : Key) (v : A) (j : Key) → j ≢ k → under f k v j ≡ f j
unfolding under
under_other f k v j p = ap (λ (b : Bool). cond b v (f j)) (key_no j k p)
