-- Texts padded with blanks, and numbers of two bytes.
use Rattle.std.specs.Prelude.{◌≡◌, refl, ◌⊎◌, Bool, true, false, cond, ◌&&◌, List, [], ◌∷◌, ◌++◌, ℕ, zero, suc, ◌+◌, ◌-◌, ◌≤◌, length, take, drop, replicate, eqb}
use Rattle.std.proofs.Common.{sym, ap, ◌∙◌, inl, inr, append_assoc, arith, length-append, length-drop, length-take-le, take-add, drop-drop, eqb-true}
use Rattle.std.proofs.lemmas.List.{length-replicate}
use Rattle.std.proofs.Math.Seq.{take-append_seam, drop-append_seam}
use Rattle.scan.specs.Bools.{and_l, and_r, known}
use Rattle.splice.specs.Splice.{total}

-- a text at the left of w bytes, the rest blank (32)
abbrev pub padded : ℕ → List ℕ → List ℕ
padded w t = t ++ replicate (w - length t) 32

unfoldable pub blank : List ℕ → Bool
blank [] = true
blank (x ∷ s) = eqb x 32 && blank s

-- a text without the blanks at its right
unfoldable pub trimmed : List ℕ → List ℕ
trimmed [] = []
trimmed (x ∷ s) = cond (blank (x ∷ s)) [] (x ∷ trimmed s)

-- several texts, each in its width
abbrev pub in_row : List ℕ → List (List ℕ) → List ℕ
in_row [] ts = []
in_row (w ∷ ws) [] = []
in_row (w ∷ ws) (t ∷ ts) = padded w t ++ in_row ws ts

-- and cut out of the row again
abbrev pub from_row : List ℕ → List ℕ → List (List ℕ)
from_row [] b = []
from_row (w ∷ ws) b = trimmed (take w b) ∷ from_row ws (drop w b)

-- the same, each where it stands: the first at `at`
abbrev pub cut_row : List ℕ → ℕ → List ℕ → List (List ℕ)
cut_row [] at b = []
cut_row (w ∷ ws) at b = trimmed (take w (drop at b)) ∷ cut_row ws (at + w) b

pub cut_row_lem : (ws : List ℕ) (at : ℕ) (b : List ℕ) → cut_row ws at b ≡ from_row ws (drop at b)
cut_row_lem [] at b = refl
cut_row_lem (w ∷ ws) at b =
    let e : drop (at + w) b ≡ drop w (drop at b) = sym (drop-drop w at b ∙ ap (λ (k : ℕ). drop k b) (let z : at + w ≡ at + w = refl in z)) in
    λ i. trimmed (take w (drop at b)) ∷ (cut_row_lem ws (at + w) b ∙ ap (from_row ws) e) i

-- a text fits, and has no blank at its right
abbrev pub Neat : ℕ → List ℕ → Type 0
Neat w t = (length t ≤ w) × (trimmed t ≡ t)

abbrev pub AllNeat : List ℕ → List (List ℕ) → Type 0
AllNeat [] [] = Unit
AllNeat [] (t ∷ ts) = ⊥
AllNeat (w ∷ ws) [] = ⊥
AllNeat (w ∷ ws) (t ∷ ts) = Neat w t × AllNeat ws ts

blank_replicate : (k : ℕ) → blank (replicate k 32) ≡ true
unfolding blank
blank_replicate zero = refl
blank_replicate (suc k) = blank_replicate k

blank_append : (s : List ℕ) (k : ℕ) → blank (s ++ replicate k 32) ≡ blank s
unfolding blank
blank_append [] k = blank_replicate k
blank_append (x ∷ s) k = ap (λ (b : Bool). eqb x 32 && b) (blank_append s k)

pub blank_trimmed : (s : List ℕ) → blank s ≡ true → trimmed s ≡ []
unfolding trimmed
blank_trimmed [] e = refl
blank_trimmed (x ∷ s) e = rw e

pub trimmed_append : (s : List ℕ) (k : ℕ) → trimmed (s ++ replicate k 32) ≡ trimmed s
unfolding trimmed
trimmed_append [] k = blank_trimmed (replicate k 32) (blank_replicate k)
trimmed_append (x ∷ s) k = λ i. cond (blank_append (x ∷ s) k i) [] (x ∷ trimmed_append s k i)

pub unpadded : (w : ℕ) (t : List ℕ) → trimmed t ≡ t → trimmed (padded w t) ≡ t
unpadded w t e = trimmed_append t (w - length t) ∙ e

pub padded_length : (w : ℕ) (t : List ℕ) → length t ≤ w → length (padded w t) ≡ w
padded_length w t h = omega (arith, length-append t (replicate (w - length t) 32), length-replicate {A = ℕ} (w - length t) 32)

-- DECODING AFTER ENCODING, for any row
pub row_back : (ws : List ℕ) (ts : List (List ℕ)) (z : List ℕ) → AllNeat ws ts → from_row ws (in_row ws ts ++ z) ≡ ts
row_back [] [] z h = refl
row_back [] (t ∷ ts) z h = absurd h
row_back (w ∷ ws) [] z h = absurd h
row_back (w ∷ ws) (t ∷ ts) z h =
    let l = padded_length w t h.0.0 in
    let a : (padded w t ++ in_row ws ts) ++ z ≡ padded w t ++ (in_row ws ts ++ z) = append_assoc (padded w t) (in_row ws ts) z in
    let x : take w ((padded w t ++ in_row ws ts) ++ z) ≡ padded w t = (λ i. take (sym l i) (a i)) ∙ take-append_seam (padded w t) (in_row ws ts ++ z) in
    let y : drop w ((padded w t ++ in_row ws ts) ++ z) ≡ in_row ws ts ++ z = (λ i. drop (sym l i) (a i)) ∙ drop-append_seam (padded w t) (in_row ws ts ++ z) in
    λ i. (ap trimmed x ∙ unpadded w t h.0.1) i ∷ (ap (from_row ws) y ∙ row_back ws ts z h.1) i

pub row_length : (ws : List ℕ) (ts : List (List ℕ)) → AllNeat ws ts → length (in_row ws ts) ≡ total ws
row_length [] [] h = refl
row_length [] (t ∷ ts) h = absurd h
row_length (w ∷ ws) [] h = absurd h
row_length (w ∷ ws) (t ∷ ts) h = omega (arith, length-append (padded w t) (in_row ws ts), padded_length w t h.0.0, row_length ws ts h.1)

-- ENCODING AFTER DECODING

blanks : (u : List ℕ) → blank u ≡ true → replicate (length u) 32 ≡ u
unfolding blank
blanks [] e = refl
blanks (y ∷ u) e = let z : 32 ≡ y = sym (eqb-true y 32 (and_l (eqb y 32) (blank u) e)) in λ i. z i ∷ blanks u (and_r (eqb y 32) (blank u) e) i

trimmed_blanks : (s : List ℕ) → trimmed s ++ replicate (length s - length (trimmed s)) 32 ≡ s
unfolding trimmed
trimmed_blanks [] = refl
trimmed_blanks (x ∷ s) = go (known (blank (x ∷ s))) (trimmed_blanks s)
  where
    go : (blank (x ∷ s) ≡ true) ⊎ (blank (x ∷ s) ≡ false) → trimmed s ++ replicate (length s - length (trimmed s)) 32 ≡ s → cond (blank (x ∷ s)) [] (x ∷ trimmed s) ++ replicate (length (x ∷ s) - length (cond (blank (x ∷ s)) [] (x ∷ trimmed s))) 32 ≡ x ∷ s
    go (inl e) r = let n : suc (length s) - 0 ≡ suc (length s) = omega arith in rw (e, n) (blanks (x ∷ s) e)
    go (inr e) r =
        let n : suc (length s) - suc (length (trimmed s)) ≡ length s - length (trimmed s) = omega arith in
        rw (e, n) (ap (λ (u : List ℕ). x ∷ u) r)

pub padded_back : (w : ℕ) (s : List ℕ) → length s ≡ w → padded w (trimmed s) ≡ s
padded_back w s e = ap (λ (k : ℕ). trimmed s ++ replicate (k - length (trimmed s)) 32) (sym e) ∙ trimmed_blanks s

-- ENCODING AFTER DECODING, for any row, which may go on
pub row_take : (ws : List ℕ) (b : List ℕ) → total ws ≤ length b → in_row ws (from_row ws b) ≡ take (total ws) b
row_take [] b h = refl
row_take (w ∷ ws) b h =
    let l : length (take w b) ≡ w = length-take-le w b (omega arith) in
    let m : total ws ≤ length (drop w b) = omega (arith, length-drop w b) in
    (λ i. padded_back w (take w b) l i ++ row_take ws (drop w b) m i) ∙ sym (take-add w (total ws) b)
