-- Laws of Bool that every crate's proofs use, and what it is that a test decides.
use Rattle.std.specs.Prelude.{◌≡◌, refl, ◌⊎◌, Bool, true, false, ◌&&◌, ◌||◌, not, ℕ, ◌≤◌, eqb, leb}
use Rattle.std.proofs.Common.{sym, ◌∙◌, inl, inr, ⊎_elim, eqb-true, eq-eqb, leb-true, le-leb}
use Rattle.std.proofs.lemmas.Bool.{false≢true, not-true}

pub and_l : (a b : Bool) → a && b ≡ true → a ≡ true
and_l true b e = refl
and_l false b e = e

pub and_r : (a b : Bool) → a && b ≡ true → b ≡ true
and_r true b e = e
and_r false b e = absurd (false≢true e)

pub and_yes : (a b : Bool) → a && b ≡ true → (a ≡ true) × (b ≡ true)
and_yes a b e = (and_l a b e, and_r a b e)

pub both : (a b : Bool) → a ≡ true → b ≡ true → a && b ≡ true
both a b p q = rw (p, q)

pub or_split : (a b : Bool) → a || b ≡ true → (a ≡ true) ⊎ (b ≡ true)
or_split true b e = inl refl
or_split false b e = inr e

pub or_l : (a b : Bool) → a ≡ true → a || b ≡ true
or_l a b p = rw p

pub or_r : (a b : Bool) → b ≡ true → a || b ≡ true
or_r true b p = refl
or_r false b p = p

pub neither : (a b : Bool) → a || b ≡ false → (a ≡ false) × (b ≡ false)
neither true b e = absurd (false≢true (sym e))
neither false b e = (refl, e)

-- a test, with the equation of how it came out
pub known : (b : Bool) → (b ≡ true) ⊎ (b ≡ false)
known true = inl refl
known false = inr refl

-- a test says whether something holds
pub record Decides (b : Bool) (P : Type 0) : Type 0 where
  pub yes : b ≡ true → P
  pub no : P → b ≡ true

pub decides_and : {b c : Bool} {P Q : Type 0} → Decides b P → Decides c Q → Decides (b && c) (P × Q)
decides_and {b} {c} x y = record { yes = λ e. (x.yes (and_l b c e), y.yes (and_r b c e)); no = λ p. both b c (x.no p.0) (y.no p.1) }

pub decides_or : {b c : Bool} {P Q : Type 0} → Decides b P → Decides c Q → Decides (b || c) (P ⊎ Q)
decides_or {b} {c} x y = record { yes = λ e. ⊎_elim (λ h. inl (x.yes h)) (λ h. inr (y.yes h)) (or_split b c e); no = λ p. ⊎_elim (λ h. or_l b c (x.no h)) (λ h. or_r b c (y.no h)) p }

pub decides_as : {b : Bool} {P Q : Type 0} → (P → Q) → (Q → P) → Decides b P → Decides b Q
decides_as f g x = record { yes = λ e. f (x.yes e); no = λ q. x.no (g q) }

pub decides_by : {b c : Bool} {P : Type 0} → b ≡ c → Decides c P → Decides b P
decides_by e x = record { yes = λ h. x.yes (sym e ∙ h); no = λ p. e ∙ x.no p }

pub equals : (m n : ℕ) → Decides (eqb m n) (m ≡ n)
equals m n = record { yes = eqb-true m n; no = eq-eqb m n }

pub at_most : (m n : ℕ) → Decides (leb m n) (m ≤ n)
at_most m n = record { yes = leb-true m n; no = le-leb m n }

-- both or neither
unfoldable pub same_bool : Bool → Bool → Bool
same_bool true b = b
same_bool false b = not b

pub same_bool_lem : (a b : Bool) → same_bool a b ≡ true → a ≡ b
unfolding same_bool
same_bool_lem true b e = sym e
same_bool_lem false b e = sym (not-true b e)
