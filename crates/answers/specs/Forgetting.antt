-- Laws of the given answers: what is tested, and what is forgotten.
use Rattle.std.specs.Prelude.{◌≡◌, ◌⊎◌, Bool, cond, ◌&&◌, ◌||◌, ℕ, zero, suc, ◌+◌, ◌-◌, ◌≤◌, ◌<◌, take, eqb}
use Rattle.std.proofs.Math.Path.{refl, ap}
use Rattle.std.proofs.Common.{sym, ◌∙◌, inl, inr, arith, length-append, ext_get_or}
use Rattle.std.proofs.Math.Bool.{true, false}
use Rattle.std.proofs.lemmas.Bool.{false≢true}
use mathlib.Core.List.{List, [], ◌∷◌, ◌++◌}
use Rattle.std.proofs.Math.ListN.{length, get_or, drop, replicate, length-replicate, get_or-replicate, get_or-append}
use Rattle.std.proofs.Math.Seq.{length-take-le, get_or-take, get_or-drop, get_or-append-add}
use Rattle.std.proofs.Math.Dec.{leb}
use borrow.Author.Tests.{leb-true, leb-false, le-leb, lt-leb}
use Rattle.scan.specs.Bools.{Decides, decides_as, known}
use Rattle.splice.specs.Splice.{splice, Spliced}
use Rattle.splice.specs.Splicing.{kept_length}
use Rattle.places.specs.Below.{Below}
use Rattle.answers.specs.Given.{is_value, AnswersFormed, past, after, forgotten_from, forgotten}

-- WHAT IS TESTED

pub value_is : (b : ℕ) → Decides ((((eqb b 0 || eqb b 1) || eqb b 2) || eqb b 57) || eqb b 62) (is_value b ≡ true)
unfolding is_value
value_is b = record { yes = λ e. e; no = λ e. e }

pub wrong_length : (a : List ℕ) → (length a ≡ 1000 → ⊥) → Decides false (AnswersFormed a)
wrong_length a n = record { yes = λ e. absurd (false≢true e); no = λ f. absurd (n f.whole) }

pub answers_are : (a : List ℕ) (t : Bool) → length a ≡ 1000 → Decides t (Below (λ i. is_value (get_or a i 0) ≡ true) 1000) → Decides t (AnswersFormed a)
answers_are a t n = decides_as (λ p. record { whole = n; values = p }) (λ f. f.values)

-- WHAT IS FORGOTTEN, number by number

pub forgotten_long : (h n k : ℕ) (a : List ℕ) → length (forgotten_from h n k a) ≡ length a
unfolding forgotten_from
forgotten_long h n k [] = refl
forgotten_long h n k (x ∷ a) = ap suc (forgotten_long h n (k + 1) a)

pub forgotten_from_lem : (h n k j : ℕ) (a : List ℕ) → j < length a → get_or (forgotten_from h n k a) j 0 ≡ cond (after h n (k + j)) 0 (get_or a j 0)
unfolding forgotten_from
forgotten_from_lem h n k j [] b = absurd (omega arith)
forgotten_from_lem h n k zero (x ∷ a) b = let e : k + 0 ≡ k = omega arith in rw e
forgotten_from_lem h n k (suc j) (x ∷ a) b = let e : k + 1 + j ≡ k + suc j = omega arith in forgotten_from_lem h n (k + 1) j a (omega arith) ∙ ap (λ (m : ℕ). cond (after h n m) 0 (get_or a j 0)) e

pub forgotten_at : (h n k : ℕ) (a : List ℕ) → k < length a → get_or (forgotten h n a) k 0 ≡ cond (after h n k) 0 (get_or a k 0)
forgotten_at h n k a b = forgotten_from_lem h n 0 k a b ∙ ap (λ (m : ℕ). cond (after h n m) 0 (get_or a k 0)) (let e : 0 + k ≡ k = omega arith in e)

-- how far a number lies past another
past_above : (h k : ℕ) → h ≤ k → k ≤ 999 → past h k ≡ k - h
past_above h k b c = omega arith

past_below : (h k : ℕ) → k < h → h ≤ 999 → past h k ≡ k + 1000 - h
past_below h k b c = omega arith

module _ (h n k : ℕ) where
  is_after : 1 ≤ past h k → past h k ≤ past h n → after h n k ≡ true
  unfolding after
  is_after b c = rw (le-leb 1 (past h k) b, le-leb (past h k) (past h n) c)

  itself : past h k < 1 → after h n k ≡ false
  unfolding after
  itself b = rw (lt-leb 1 (past h k) b)

  beyond : past h n < past h k → after h n k ≡ false
  unfolding after
  beyond b = go (leb 1 (past h k))
    where
      go : (t : Bool) → t && leb (past h k) (past h n) ≡ false
      go true = lt-leb (past h k) (past h n) b
      go false = refl

-- the numbers at or below h, those above, and those that are not reached
module _ (h n k : ℕ) (a : h ≤ 999) (b : n ≤ 999) (c : k ≤ 999) where
  pub up_below : h ≤ n → k ≤ h → after h n k ≡ false
  up_below d e = go (known (leb h k))
    where
      go : (leb h k ≡ true) ⊎ (leb h k ≡ false) → after h n k ≡ false
      go (inl f) = itself h n k (omega (arith, leb-true h k f, past_above h k (leb-true h k f) c))
      go (inr f) = beyond h n k (omega (arith, leb-false h k f, past_below h k (leb-false h k f) a, past_above h n d b))

  pub up_within : h < k → k ≤ n → after h n k ≡ true
  up_within d e =
      let f : h ≤ k = omega arith in
      let g : h ≤ n = omega arith in
      is_after h n k (omega (arith, past_above h k f c)) (omega (arith, past_above h k f c, past_above h n g b))

  pub up_above : h ≤ n → n < k → after h n k ≡ false
  up_above d e =
      let f : h ≤ k = omega arith in
      beyond h n k (omega (arith, past_above h k f c, past_above h n d b))

  pub round_low : n < h → k ≤ n → after h n k ≡ true
  round_low d e =
      let f : k < h = omega arith in
      is_after h n k (omega (arith, past_below h k f a)) (omega (arith, past_below h k f a, past_below h n d a))

  pub round_high : n < h → h < k → after h n k ≡ true
  round_high d e =
      let f : h ≤ k = omega arith in
      is_after h n k (omega (arith, past_above h k f c)) (omega (arith, past_above h k f c, past_below h n d a))

  pub round_between : n < h → n < k → k ≤ h → after h n k ≡ false
  round_between d e f = go (known (leb h k))
    where
      go : (leb h k ≡ true) ⊎ (leb h k ≡ false) → after h n k ≡ false
      go (inl g) = itself h n k (omega (arith, leb-true h k g, past_above h k (leb-true h k g) c))
      go (inr g) = beyond h n k (omega (arith, leb-false h k g, past_below h k (leb-false h k g) a, past_below h n d a))

-- ZEROS THAT ARE WRITTEN, byte by byte

module _ (at m : ℕ) (d e : List ℕ) (r : ℕ) (p : Spliced at (replicate m 0) d e r) (b : at + m ≤ length d) where
  front_long : length (take at d ++ replicate m 0) ≡ at + m
  front_long = omega (arith, length-append (take at d) (replicate m 0), length-take-le at d (omega arith), length-replicate {A = ℕ} m 0)

  pub zeros_long : length e ≡ length d
  zeros_long = kept_length p (omega (arith, p.place, length-replicate {A = ℕ} m 0))

  pub before_them : (k : ℕ) → k < at → get_or e k 0 ≡ get_or d k 0
  unfolding splice
  before_them k c =
      ap (λ (x : List ℕ). get_or x k 0) p.bytes
      ∙ get_or-append (take at d ++ replicate m 0) (drop (at + length {A = ℕ} (replicate m 0)) d) 0 k (omega (arith, front_long))
      ∙ get_or-append (take at d) (replicate m 0) 0 k (omega (arith, length-take-le at d (omega arith)))
      ∙ get_or-take at d k 0 c

  pub among_them : (k : ℕ) → at ≤ k → k < at + m → get_or e k 0 ≡ 0
  unfolding splice
  among_them k c f =
      let i : k ≡ length (take at d) + (k - at) = omega (arith, length-take-le at d (omega arith)) in
      ap (λ (x : List ℕ). get_or x k 0) p.bytes
      ∙ get_or-append (take at d ++ replicate m 0) (drop (at + length {A = ℕ} (replicate m 0)) d) 0 k (omega (arith, front_long))
      ∙ ap (λ (x : ℕ). get_or (take at d ++ replicate m 0) x 0) i
      ∙ get_or-append-add (take at d) (replicate m 0) (k - at) 0
      ∙ get_or-replicate m (k - at) 0 0 (omega arith)

  pub behind_them : (k : ℕ) → at + m ≤ k → get_or e k 0 ≡ get_or d k 0
  unfolding splice
  behind_them k c =
      let i : k ≡ length (take at d ++ replicate m 0) + (k - (at + m)) = omega (arith, front_long) in
      let j : at + length {A = ℕ} (replicate m 0) + (k - (at + m)) ≡ k = omega (arith, length-replicate {A = ℕ} m 0) in
      ap (λ (x : List ℕ). get_or x k 0) p.bytes
      ∙ ap (λ (x : ℕ). get_or ((take at d ++ replicate m 0) ++ drop (at + length {A = ℕ} (replicate m 0)) d) x 0) i
      ∙ get_or-append-add (take at d ++ replicate m 0) (drop (at + length {A = ℕ} (replicate m 0)) d) (k - (at + m)) 0
      ∙ get_or-drop (at + length {A = ℕ} (replicate m 0)) d (k - (at + m)) 0
      ∙ ap (λ (x : ℕ). get_or d x 0) j

-- ALL OF THEM

picked : (t : Bool) (x y : ℕ) → t ≡ true → y ≡ 0 → y ≡ cond t 0 x
picked t x y e f = rw e f

kept : (t : Bool) (x y : ℕ) → t ≡ false → y ≡ x → y ≡ cond t 0 x
kept t x y e f = rw e f

pub forgot_up : (h n : ℕ) (a e : List ℕ) (r : ℕ) → length a ≡ 1000 → h ≤ n → n ≤ 999 → Spliced (h + 1) (replicate (n - h) 0) a e r → e ≡ forgotten h n a
forgot_up h n a e r w u v p =
    let s : h + 1 + (n - h) ≤ length a = omega arith in
    let l : length e ≡ length a = zeros_long (h + 1) (n - h) a e r p s in
    ext_get_or 0 e (forgotten h n a) (l ∙ sym (forgotten_long h n 0 a)) (λ k b. go k (omega (arith, l, b)) s (known (leb k h)) (known (leb k n)) ∙ sym (forgotten_at h n k a (omega (arith, l, b))))
  where
    go : (k : ℕ) → k ≤ 999 → h + 1 + (n - h) ≤ length a → (leb k h ≡ true) ⊎ (leb k h ≡ false) → (leb k n ≡ true) ⊎ (leb k n ≡ false) → get_or e k 0 ≡ cond (after h n k) 0 (get_or a k 0)
    go k c s (inl x) y = kept (after h n k) (get_or a k 0) (get_or e k 0) (up_below h n k (omega arith) v c u (leb-true k h x)) (before_them (h + 1) (n - h) a e r p s k (omega (arith, leb-true k h x)))
    go k c s (inr x) (inl y) =
        picked (after h n k) (get_or a k 0) (get_or e k 0) (up_within h n k (omega arith) v c (leb-false k h x) (leb-true k n y)) (among_them (h + 1) (n - h) a e r p s k (omega (arith, leb-false k h x)) (omega (arith, leb-true k n y)))
    go k c s (inr x) (inr y) = kept (after h n k) (get_or a k 0) (get_or e k 0) (up_above h n k (omega arith) v c u (leb-false k n y)) (behind_them (h + 1) (n - h) a e r p s k (omega (arith, leb-false k n y)))

pub forgot_round : (h n : ℕ) (a e f : List ℕ) (r q : ℕ) → length a ≡ 1000 → n < h → h ≤ 999 → Spliced (h + 1) (replicate (999 - h) 0) a e r → Spliced 0 (replicate (n + 1) 0) e f q → f ≡ forgotten h n a
forgot_round h n a e f r q w u v p p₂ =
    let s : h + 1 + (999 - h) ≤ length a = omega arith in
    let l : length e ≡ length a = zeros_long (h + 1) (999 - h) a e r p s in
    let s₂ : 0 + (n + 1) ≤ length e = omega (arith, l) in
    let l₂ : length f ≡ length e = zeros_long 0 (n + 1) e f q p₂ s₂ in
    ext_get_or 0 f (forgotten h n a) (l₂ ∙ l ∙ sym (forgotten_long h n 0 a)) (λ k b. go k (omega (arith, l, l₂, b)) s s₂ (known (leb k n)) (known (leb k h)) ∙ sym (forgotten_at h n k a (omega (arith, l, l₂, b))))
  where
    go : (k : ℕ) → k ≤ 999 → h + 1 + (999 - h) ≤ length a → 0 + (n + 1) ≤ length e → (leb k n ≡ true) ⊎ (leb k n ≡ false) → (leb k h ≡ true) ⊎ (leb k h ≡ false) → get_or f k 0 ≡ cond (after h n k) 0 (get_or a k 0)
    go k c s s₂ (inl x) y =
        picked (after h n k) (get_or a k 0) (get_or f k 0) (round_low h n k v (omega arith) c u (leb-true k n x)) (among_them 0 (n + 1) e f q p₂ s₂ k (omega arith) (omega (arith, leb-true k n x)))
    go k c s s₂ (inr x) (inl y) =
        kept (after h n k) (get_or a k 0) (get_or f k 0) (round_between h n k v (omega arith) c u (leb-false k n x) (leb-true k h y))
        (behind_them 0 (n + 1) e f q p₂ s₂ k (omega (arith, leb-false k n x)) ∙ before_them (h + 1) (999 - h) a e r p s k (omega (arith, leb-true k h y)))
    go k c s s₂ (inr x) (inr y) =
        picked (after h n k) (get_or a k 0) (get_or f k 0) (round_high h n k v (omega arith) c u (leb-false k h y))
        (behind_them 0 (n + 1) e f q p₂ s₂ k (omega (arith, leb-false k n x)) ∙ among_them (h + 1) (999 - h) a e r p s k (omega (arith, leb-false k h y)) (omega arith))
