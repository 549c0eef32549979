-- Laws of the numbers that parts stand for.
use Rattle.std.specs.Prelude.{◌≡◌, refl, ◌⊎◌, Bool, true, false, ◌&&◌, List, [], ◌∷◌, ℕ, zero, suc, ◌+◌, ◌-◌, ◌*◌, ◌≤◌, ◌<◌, length, get_or, leb, eqb}
use Rattle.std.proofs.Common.{sym, ◌∙◌, inl, inr, arith}
use borrow.Author.Tests.{leb-true, eqb-true, ne_eqb}
use Rattle.scan.specs.Grammar.{place_of, size_of, Span}
use Rattle.scan.specs.Bools.{known, and_l, and_r, both}
use Rattle.changes.specs.declared.Plan.{Plan}
use Rattle.types.specs.declared.Parts.{Parts}
use Rattle.types.specs.Picking.{letters_of}
use Rattle.message.specs.Record.{figure, figure_at, figure_in, level_in, form_in, plan_figures_of, figures_of, kind_of}
use Rattle.message.specs.declared.Kind.TheVariants.{None}
use Rattle.message.specs.declared.LevelKind.TheVariants.{Absent}
use Rattle.message.specs.declared.PointForm.TheVariants.{NoPoint}

pub get_d_past : (s : List ℕ) (i : ℕ) → length s ≤ i → get_or s i 0 ≡ 0
get_d_past [] i h = refl
get_d_past (x ∷ s) zero h = absurd (omega arith)
get_d_past (x ∷ s) (suc i) h = get_d_past s i (omega arith)

module _ (s : List ℕ) (at : ℕ) where
  at_itself : get_or s (at + 0) 0 ≡ get_or s at 0
  at_itself = let z : at + 0 ≡ at = omega arith in rw z

  pub figure_1 : (a : ℕ) → a ≡ get_or s at 0 - 48 → a ≡ figure_at 1 s at
  unfolding figure
  figure_1 a e = rw at_itself (omega arith)

  pub figure_2 : (a b : ℕ) → a ≡ get_or s at 0 - 48 → b ≡ get_or s (at + 1) 0 - 48 → a * 10 + b ≡ figure_at 2 s at
  unfolding figure
  figure_2 a b e f = rw at_itself (omega arith)

  pub figure_3 : (a b c : ℕ) → a ≡ get_or s at 0 - 48 → b ≡ get_or s (at + 1) 0 - 48 → c ≡ get_or s (at + 2) 0 - 48 → (a * 10 + b) * 10 + c ≡ figure_at 3 s at
  unfolding figure
  figure_3 a b c e f g = rw at_itself (omega arith)

  pub figure_4 : (a b c d : ℕ) → a ≡ get_or s at 0 - 48 → b ≡ get_or s (at + 1) 0 - 48 → c ≡ get_or s (at + 2) 0 - 48 → d ≡ get_or s (at + 3) 0 - 48 → ((a * 10 + b) * 10 + c) * 10 + d ≡ figure_at 4 s at
  unfolding figure
  figure_4 a b c d e f g h = rw at_itself (omega arith)

  pub figure_no : (k : ℕ) → (k ≡ 1 → ⊥) → (k ≡ 2 → ⊥) → (k ≡ 3 → ⊥) → (k ≡ 4 → ⊥) → 0 ≡ figure_at k s at
  unfolding figure
  figure_no k n₁ n₂ n₃ n₄ = go (known (leb k 4))
    where
      go : (leb k 4 ≡ true) ⊎ (leb k 4 ≡ false) → 0 ≡ figure_at k s at
      go (inl e) = let z : k ≡ 0 = omega (arith, leb-true k 4 e) in rw z
      go (inr e) = rw e

pub ruleset figures = (figure_1, figure_2, figure_3, figure_4, figure_no)

-- what an absent part says
module _ (s : List ℕ) (p : Span) (h : eqb (size_of p) 0 ≡ true) where
  pub absent_figure : 0 ≡ figure_in s p
  absent_figure =
      let z = eqb-true (size_of p) 0 h in
      figure_no s (place_of p) (size_of p) (λ e. omega (arith, e, z)) (λ e. omega (arith, e, z)) (λ e. omega (arith, e, z)) (λ e. omega (arith, e, z))

  absent_level : record { kind = Absent; figure = 0 } ≡ level_in s p
  unfolding level_in
  absent_level = rw h

  absent_form : NoPoint ≡ form_in s p
  unfolding form_in
  absent_form = rw h

-- absent count and level
pub no_plan_figures : (s : List ℕ) (p : Plan) (a b : Bool) → a ≡ eqb (size_of p.count) 0 → b ≡ eqb (size_of p.level) 0 → a && b ≡ true → record { count = 0; level = record { kind = Absent; figure = 0 } } ≡ plan_figures_of s p
no_plan_figures s p a b a' b' e = λ i. record { count = absent_figure s p.count (sym a' ∙ and_l a b e) i; level = absent_level s p.level (sym b' ∙ and_r a b e) i }

pub plain_figures : (s : List ℕ) (p : Parts) (a b c d e f g : Bool) → a ≡ eqb (size_of p.own.count) 0 → b ≡ eqb (size_of p.own.level) 0 → c ≡ eqb (size_of p.changes.count) 0 → d ≡ eqb (size_of p.changes.level) 0 → e ≡ eqb (size_of p.estimate.point) 0 → f ≡ eqb (size_of p.estimate.crossing) 0 → g ≡ eqb (size_of p.estimate.second) 0 → (a && b && c && d) && (e && f && g) ≡ true → (x y z : ℕ) → x ≡ figure_in s p.number.digits → y ≡ figure_in s p.reference.digits → z ≡ figure_in s p.reason → record { number = x; reference = y; own = record { count = 0; level = record { kind = Absent; figure = 0 } }; form = NoPoint; crossing = record { kind = Absent; figure = 0 }; second = record { kind = Absent; figure = 0 }; changes = record { count = 0; level = record { kind = Absent; figure = 0 } }; reason = z } ≡ figures_of s p
plain_figures s p a b c d e f g a' b' c' d' e' f' g' h x y z x' y' z' =
    let l = and_l (a && b && c && d) (e && f && g) h in
    let m = and_r (a && b && c && d) (e && f && g) h in
    let k = and_l (a && b && c) d l in
    let j = and_l (a && b) c k in
    let n = and_l (e && f) g m in
    λ i. record {
      number = x' i;
      reference = y' i;
      own = no_plan_figures s p.own a b a' b' j i;
      form = absent_form s p.estimate.point (sym e' ∙ and_l e f n) i;
      crossing = absent_level s p.estimate.crossing (sym f' ∙ and_r e f n) i;
      second = absent_level s p.estimate.second (sym g' ∙ and_r (e && f) g m) i;
      changes = no_plan_figures s p.changes c d c' d' (both c d (and_r (a && b) c k) (and_r (a && b && c) d l)) i;
      reason = z' i;
    }

-- a number that is of none of the types' letters
pub no_kind : (w : ℕ) → (w ≡ 4608076 → ⊥) → (w ≡ 4411468 → ⊥) → (w ≡ 4543316 → ⊥) → (w ≡ 4409415 → ⊥) → (w ≡ 4410956 → ⊥) → (w ≡ 5395529 → ⊥) → (w ≡ 5395521 → ⊥) → (w ≡ 5393473 → ⊥) → (w ≡ 4997453 → ⊥) → (w ≡ 5001805 → ⊥) → None ≡ kind_of w
unfolding kind_of
no_kind w a b c d e f g h i j =
    rw (ne_eqb w 4608076 a, ne_eqb w 4411468 b, ne_eqb w 4543316 c, ne_eqb w 4409415 d, ne_eqb w 4410956 e, ne_eqb w 5395529 f, ne_eqb w 5395521 g, ne_eqb w 5393473 h, ne_eqb w 4997453 i, ne_eqb w 5001805 j)

-- a text of fewer than four bytes names no type
pub short_kind : (s : List ℕ) → length s < 4 → None ≡ kind_of (letters_of s)
short_kind s h =
    let z : get_or s 3 0 ≡ 0 = get_d_past s 3 (omega arith) in
    no_kind (letters_of s) (λ e. omega arith) (λ e. omega arith) (λ e. omega arith) (λ e. omega arith) (λ e. omega arith) (λ e. omega arith) (λ e. omega arith) (λ e. omega arith) (λ e. omega arith) (λ e. omega arith)
