-- No text of a field ends with a blank, so a text can be told from the blanks behind it.
use Rattle.std.specs.Prelude.{◌≡◌, refl, ◌⊎◌, Bool, true, false, not, ◌&&◌, ◌||◌, ℕ, leb, eqb}
use Rattle.std.proofs.Common.{sym, ap, ◌∙◌, subst, inl, inr, ⊎_elim, arith, leb-true, eqb-true}
use Rattle.std.proofs.lemmas.Bool.{false≢true, not-true}
use mathlib.Core.List.{List, [], ◌∷◌, ◌++◌, append-nil, append_assoc, head-eq_of_cons-eq, tail-eq_of_cons-eq, nil≢cons}
use Rattle.scan.specs.Bools.{and_l, and_r, or_split, known}
use Rattle.scan.specs.declared.Class.{Class}
use Rattle.scan.specs.declared.Class.TheVariants.{Word, Byte}
use Rattle.scan.specs.Grammar.{is_in, all, text, G, eps, run, words, seq, alt, part, field, Derives}
use Rattle.scan.specs.Tests.{nullable, longest}
use Rattle.scan.specs.Theory.{null_sound}
use Rattle.scan.specs.Bounds.{derives_short}
use Rattle.flights.specs.Padding.{blank, trimmed, Neat}

-- THE TEST: no text ends with a blank
unfoldable pub unblank : G → Bool
unblank eps = true
unblank (run c lo hi) = not (is_in c 32)
unblank (words k) = true
unblank (seq a b) = unblank b && (not (nullable b) || unblank a)
unblank (alt a b) = unblank a && unblank b
unblank (part n g) = unblank g
unblank (field ns g) = unblank g

-- a list is empty or has a last
data Snoc : List ℕ → Type 0 where
  none : Snoc []
  last : (s : List ℕ) (x : ℕ) → Snoc (s ++ (x ∷ []))

snoc : (s : List ℕ) → Snoc s
snoc [] = none
snoc (x ∷ s) = go (snoc s)
  where
    go : {u : List ℕ} → Snoc u → Snoc (x ∷ u)
    go none = last [] x
    go (last v y) = last (x ∷ v) y

last_one : (s t : List ℕ) (x y : ℕ) → s ++ (x ∷ []) ≡ t ++ (y ∷ []) → x ≡ y
last_one [] [] x y e = head-eq_of_cons-eq e
last_one [] (z ∷ []) x y e = absurd (nil≢cons (tail-eq_of_cons-eq e))
last_one [] (z ∷ w ∷ t) x y e = absurd (nil≢cons (tail-eq_of_cons-eq e))
last_one (z ∷ []) [] x y e = absurd (nil≢cons (sym (tail-eq_of_cons-eq e)))
last_one (z ∷ w ∷ s) [] x y e = absurd (nil≢cons (sym (tail-eq_of_cons-eq e)))
last_one (z ∷ s) (w ∷ t) x y e = last_one s t x y (tail-eq_of_cons-eq e)

all_last : (c : Class) (s : List ℕ) (x : ℕ) → all c (s ++ (x ∷ [])) ≡ true → is_in c x ≡ true
unfolding all
all_last c [] x e = and_l (is_in c x) true e
all_last c (y ∷ s) x e = all_last c s x (and_r (is_in c y) (all c (s ++ (x ∷ []))) e)

text_last : (m : Bool) (s : List ℕ) (x : ℕ) → text m (s ++ (x ∷ [])) ≡ true → is_in Word x ≡ true
unfolding text
text_last m [] x e = go (known (is_in Word x))
  where
    go : (is_in Word x ≡ true) ⊎ (is_in Word x ≡ false) → is_in Word x ≡ true
    go (inl h) = h
    go (inr h) = absurd (false≢true (and_r (m && is_in (Byte 32) x) false (rw h at e)))
text_last m (y ∷ s) x e = go (known (is_in Word y)) (text_last true s x) (text_last false s x)
  where
    go : (is_in Word y ≡ true) ⊎ (is_in Word y ≡ false) → (text true (s ++ (x ∷ [])) ≡ true → is_in Word x ≡ true) → (text false (s ++ (x ∷ [])) ≡ true → is_in Word x ≡ true) → is_in Word x ≡ true
    go (inl h) r t = r (rw h at e)
    go (inr h) r t = t (and_r (m && is_in (Byte 32) y) (text false (s ++ (x ∷ []))) (rw h at e))

-- in a class without the blank no byte is one
not_blank : (c : Class) (x : ℕ) → is_in c 32 ≡ false → is_in c x ≡ true → eqb x 32 ≡ false
not_blank c x n h = ⊎_elim (λ e. absurd (false≢true (sym n ∙ ap (is_in c) (sym (eqb-true x 32 e)) ∙ h))) (λ e. e) (known (eqb x 32))

ends_unblank : (g : G) → unblank g ≡ true → (s : List ℕ) (x : ℕ) → Derives g (s ++ (x ∷ [])) → eqb x 32 ≡ false
unfolding unblank
ends_unblank eps e [] x d = absurd (nil≢cons (sym d))
ends_unblank eps e (y ∷ s) x d = absurd (nil≢cons (sym d))
ends_unblank (run c lo hi) e s x d = not_blank c x (not-true (is_in c 32) e) (all_last c s x d.0)
ends_unblank (words k) e s x d = not_blank Word x refl (text_last false s x d.0)
ends_unblank (seq a b) e s x d = go (snoc d.1) refl (ends_unblank a) (ends_unblank b)
  where
    go : {v : List ℕ} → Snoc v → d.1 ≡ v → (unblank a ≡ true → (s : List ℕ) (x : ℕ) → Derives a (s ++ (x ∷ [])) → eqb x 32 ≡ false) → (unblank b ≡ true → (s : List ℕ) (x : ℕ) → Derives b (s ++ (x ∷ [])) → eqb x 32 ≡ false) → eqb x 32 ≡ false
    go none h ra rb =
        let n : nullable b ≡ true = null_sound b (subst (Derives b) h d.4) in
        let u : d.0 ≡ s ++ (x ∷ []) = sym (append-nil d.0) ∙ ap (λ (z : List ℕ). d.0 ++ z) (sym h) ∙ sym d.2 in
        let o = ⊎_elim (λ m. absurd (false≢true (sym (not-true (nullable b) m) ∙ n))) (λ m. m) (or_split (not (nullable b)) (unblank a) (and_r (unblank b) (not (nullable b) || unblank a) e)) in
        ra o s x (subst (Derives a) u d.3)
    go (last w y) h ra rb =
        let q : s ++ (x ∷ []) ≡ (d.0 ++ w) ++ (y ∷ []) = d.2 ∙ ap (λ (z : List ℕ). d.0 ++ z) h ∙ sym (append_assoc d.0 w (y ∷ [])) in
        let z : x ≡ y = last_one s (d.0 ++ w) x y q in
        ap (λ (k : ℕ). eqb k 32) z ∙ rb (and_l (unblank b) (not (nullable b) || unblank a) e) w y (subst (Derives b) h d.4)
ends_unblank (alt a b) e s x d = ⊎_elim (ends_unblank a (and_l (unblank a) (unblank b) e) s x) (ends_unblank b (and_r (unblank a) (unblank b) e) s x) d
ends_unblank (part n g) e s x d = ends_unblank g e s x d
ends_unblank (field ns g) e s x d = ends_unblank g e s x d

-- what ends with another byte has nothing to trim
blank_last : (s : List ℕ) (x : ℕ) → eqb x 32 ≡ false → blank (s ++ (x ∷ [])) ≡ false
unfolding blank
blank_last [] x e = rw e
blank_last (y ∷ s) x e = go (eqb y 32) (blank_last s x e)
  where
    go : (b : Bool) → blank (s ++ (x ∷ [])) ≡ false → b && blank (s ++ (x ∷ [])) ≡ false
    go true r = r
    go false r = refl

pub trimmed_last : (s : List ℕ) (x : ℕ) → eqb x 32 ≡ false → trimmed (s ++ (x ∷ [])) ≡ s ++ (x ∷ [])
unfolding trimmed
trimmed_last [] x e = rw (blank_last [] x e)
trimmed_last (y ∷ s) x e = rw (blank_last (y ∷ s) x e) (ap (λ (z : List ℕ). y ∷ z) (trimmed_last s x e))

untrimmed : (g : G) → unblank g ≡ true → (t : List ℕ) → Derives g t → trimmed t ≡ t
unfolding trimmed
untrimmed g e t d = go (snoc t) d
  where
    go : {u : List ℕ} → Snoc u → Derives g u → trimmed u ≡ u
    go none x = refl
    go (last s y) x = trimmed_last s y (ends_unblank g e s y x)

-- A TEXT OF A FIELD FITS AND IS TOLD FROM THE BLANKS
pub neat : (g : G) (w : ℕ) → unblank g ≡ true → leb (longest g) w ≡ true → (t : List ℕ) → Derives g t → Neat w t
neat g w e l t d = (omega (arith, leb-true (longest g) w l, derives_short g t d), untrimmed g e t d)
