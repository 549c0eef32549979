-- Stretches of one byte, texts that are the same, and numbers of two bytes.
use Rattle.std.specs.Prelude.{◌≡◌, refl, Bool, true, false, ◌&&◌, List, [], ◌∷◌, ℕ, zero, suc, ◌+◌, ◌*◌, ◌/◌, ◌%◌, ◌≤◌, ◌<◌, length, drop, get_or, replicate, eqb, leb}
use Rattle.std.specs.Cmp.Lexicographic.{pointwise, bytes_decides}
use Rattle.std.proofs.Common.{sym, ◌∙◌, subst, arith, add-one, drop-cons, eqb-true, eq-eqb}
use Rattle.std.proofs.lemmas.Bool.{false≢true}
use Rattle.std.proofs.Math.Seq.{drop-length}
use Rattle.scan.specs.Bools.{and_l, and_r, both, Decides, equals, at_most}

-- every byte is v
unfoldable pub each : ℕ → List ℕ → Bool
each v [] = true
each v (x ∷ s) = eqb x v && each v s

pub each_next : (v : ℕ) (s : List ℕ) (i : ℕ) → i < length s → each v (drop i s) ≡ (eqb (get_or s i 0) v && each v (drop (i + 1) s))
unfolding each
each_next v s i h = rw (drop-cons s i 0 h, add-one i)

pub each_end : (v : ℕ) (s : List ℕ) (i : ℕ) → i ≤ length s → length s ≤ i → each v (drop i s) ≡ true
unfolding each
each_end v s i h k = let e : i ≡ length s = omega arith in rw (e, drop-length s)

-- one byte more, with the flag that is kept; and at the end
pub each_more : (v : ℕ) (s : List ℕ) (i : ℕ) (ok b : Bool) → i < length s → b ≡ (ok && each v (drop i s)) → b ≡ ((ok && eqb (get_or s i 0) v) && each v (drop (i + 1) s))
each_more v s i true b h e = e ∙ each_next v s i h
each_more v s i false b h e = e

pub each_done : (v : ℕ) (s : List ℕ) (i : ℕ) (ok b : Bool) → i ≤ length s → length s ≤ i → b ≡ (ok && each v (drop i s)) → ok ≡ b
each_done v s i true b h k e = sym (e ∙ each_end v s i h k)
each_done v s i false b h k e = sym e

-- A STRETCH is one byte repeated
pub each_is : (v : ℕ) (s : List ℕ) → Decides (each v s) (s ≡ replicate (length s) v)
unfolding each
each_is v s = record { yes = yes s; no = λ e. subst (λ (t : List ℕ). each v t ≡ true) (sym e) (repeated (length s)) }
  where
    yes : (t : List ℕ) → each v t ≡ true → t ≡ replicate (length t) v
    yes [] e = refl
    yes (x ∷ t) e = let z : x ≡ v = eqb-true x v (and_l (eqb x v) (each v t) e) in λ i. z i ∷ yes t (and_r (eqb x v) (each v t) e) i

    repeated : (n : ℕ) → each v (replicate n v) ≡ true
    repeated zero = refl
    repeated (suc n) = both (eqb v v) (each v (replicate n v)) (eq-eqb v v refl) (repeated n)

-- of this length
pub stretch_is : (v : ℕ) (s : List ℕ) (k : ℕ) → length s ≡ k → Decides (each v s) (s ≡ replicate k v)
stretch_is v s k e = subst (λ (x : ℕ). Decides (each v s) (s ≡ replicate x v)) e (each_is v s)

-- THE SAME BYTES

unfoldable pub same : List ℕ → List ℕ → Bool
same a b = pointwise eqb a b

pub same_is : (a b : List ℕ) → Decides (same a b) (a ≡ b)
unfolding same
same_is a b = let d = bytes_decides a b in record { yes = d.0; no = d.1 }

-- NUMBERS, high byte first

abbrev pub high : ℕ → ℕ
high n = n / 256

abbrev pub low : ℕ → ℕ
low n = n % 256

pub two_bytes : (n : ℕ) → high n * 256 + low n ≡ n
two_bytes n = omega arith

pub high_of : (a b : ℕ) → b < 256 → high (a * 256 + b) ≡ a
high_of a b h = omega arith

pub low_of : (a b : ℕ) → b < 256 → low (a * 256 + b) ≡ b
low_of a b h = omega arith

abbrev pub number_at : ℕ → List ℕ → ℕ
number_at at b = get_or b at 0 * 256 + get_or b (at + 1) 0

-- four bytes as one number, the first counting least
abbrev pub word_at : ℕ → List ℕ → ℕ
word_at at b = get_or b at 0 + get_or b (at + 1) 0 * 256 + get_or b (at + 2) 0 * 65536 + get_or b (at + 3) 0 * 16777216

-- TESTS OF NUMBERS

pub equals_on : (k : ℕ) {m n : ℕ} → m ≡ n → Decides (eqb m k) (n ≡ k)
equals_on k {m} e = subst (λ (x : ℕ). Decides (eqb m k) (x ≡ k)) e (equals m k)

pub at_most_on : (k : ℕ) {m n : ℕ} → m ≡ n → Decides (leb m k) (n ≤ k)
at_most_on k {m} e = subst (λ (x : ℕ). Decides (leb m k) (x ≤ k)) e (at_most m k)

-- A PLACE IS FREE where its first byte is 0

abbrev pub free : List ℕ → Bool
free b = eqb (get_or b 0 0) 0

-- and then nothing is said of it and another one
pub free_apart : {K : Type 0} (a b : List ℕ) → free a ≡ true → Decides true (free a ≡ false → free b ≡ false → K → ⊥)
free_apart a b e = record { yes = λ q u v k. false≢true (sym u ∙ e); no = λ p. refl }

pub other_free_apart : {K : Type 0} (a b : List ℕ) → free b ≡ true → Decides true (free a ≡ false → free b ≡ false → K → ⊥)
other_free_apart a b e = record { yes = λ q u v k. false≢true (sym v ∙ e); no = λ p. refl }
