-- Words by blocks: a block whose bytes are all word bytes, or blanks after a byte that is none, is passed at once.
-- The code's loops use it; nothing public cites it.
use Rattle.std.specs.Prelude.{◌≡◌, refl, ◌⊎◌, Bool, true, false, not, ◌&&◌, ◌||◌, List, [], ◌∷◌, ℕ, zero, suc, ◌+◌, ◌-◌, ◌/◌, ◌%◌, ◌^◌, ◌≤◌, ◌<◌, leb, ltb, eqb, length, get_or, take, drop}
use Rattle.std.proofs.Common.{sym, ap, ◌∙◌, inl, inr, ⊎_elim, arith, add-one, drop_of_length-le, drop-cons, lt-ltb, leb-true, le-leb, eqb-true}
use Rattle.std.proofs.lemmas.Bool.{false≢true, lt-leb, eqb-false}
use Rattle.scan.specs.declared.Class.TheVariants.{Word, Byte}
use Rattle.scan.specs.Grammar.{is_in}
use Rattle.scan.specs.Scanner.{words_at}
use Rattle.scan.specs.Bools.{and_l, and_r, both, known, same_bool, same_bool_lem}
use Rattle.scan.specs.Laws.{words_on, words_gap}

-- whether a byte may follow another
unfoldable pub follows : ℕ → ℕ → Bool
follows p x = is_in Word x || (not (is_in (Byte 32) p) && is_in (Byte 32) x)

pub follows_is : (p x : ℕ) (w b q : Bool) → w ≡ is_in Word x → b ≡ is_in (Byte 32) x → q ≡ is_in (Byte 32) p → follows p x ≡ (w || (not q && b))
unfolding follows
follows_is p x w b q e f g = rw (e, f, g)

-- every byte of w may follow the one before it, the first one p
unfoldable pub clean : ℕ → List ℕ → Bool
clean p [] = true
clean p (x ∷ w) = follows p x && clean x w

-- the same of the bytes from index j on
unfoldable pub clean_from : List ℕ → ℕ → Bool
clean_from t j = clean (get_or t (j - 1) 0) (drop j t)

-- THE TEST, BYTE BY BYTE

-- ok: whether the bytes before j are clean, all: whether every byte is
pub clean_next : (t : List ℕ) (j : ℕ) (ok f all : Bool) → j < length t → follows (get_or t (j - 1) 0) (get_or t j 0) ≡ f → all ≡ (ok && clean_from t j) → all ≡ ((ok && f) && clean_from t (j + 1))
unfolding clean clean_from
clean_next t j true f all h q e = let n : j + 1 - 1 ≡ j = omega arith in e ∙ rw (drop-cons t j 0 h, q, n, add-one)
clean_next t j false f all h q e = e

pub clean_end : (t : List ℕ) (j : ℕ) (ok all : Bool) → length t ≤ j → all ≡ (ok && clean_from t j) → ok ≡ all
unfolding clean clean_from
clean_end t j true all h e = sym (e ∙ rw (drop_of_length-le t h))
clean_end t j false all h e = sym e

-- WHAT A CLEAN BLOCK SAYS OF THE WORDS

-- a word byte is no blank
pub no_blank : (x : ℕ) → is_in Word x ≡ true → is_in (Byte 32) x ≡ false
no_blank x e = ⊎_elim (λ b. absurd (no b)) (λ b. b) (known (is_in (Byte 32) x))
  where
    no : is_in (Byte 32) x ≡ true → ⊥
    no b =
        let n : x ≡ 32 = omega (arith, leb-true 32 x (and_l (leb 32 x) (leb x 32) b), leb-true x 32 (and_r (leb 32 x) (leb x 32) b)) in
        false≢true (rw n at e)

-- WORD BYTES AS THE BITS OF A NUMBER

-- a test passes at each number below n
unfoldable below : (ℕ → Bool) → ℕ → Bool
below f zero = true
below f (suc n) = f n && below f n

each_below : (f : ℕ → Bool) (n : ℕ) → below f n ≡ true → (k : ℕ) → k < n → f k ≡ true
unfolding below
each_below f zero e k h = absurd (omega arith)
each_below f (suc n) e k h = go (eqb k n) refl (each_below f n (and_r (f n) (below f n) e) k)
  where
    go : (b : Bool) → eqb k n ≡ b → (k < n → f k ≡ true) → f k ≡ true
    go true q r = ap f (eqb-true k n q) ∙ and_l (f n) (below f n) e
    go false q r = r (omega (arith, eqb-false k n q))

-- bit k of the number, and whether k + 39 is a word byte
abbrev pub word_bit : ℕ → Bool
word_bit k = eqb (4503599578087345 / 2 ^ k % 2) 1

bits_right : below (λ k. same_bool (word_bit k) (is_in Word (k + 39))) 52 ≡ true
unfolding below same_bool
bits_right = refl

pub word_bit_lem : (x : ℕ) → 39 ≤ x → x ≤ 90 → word_bit (x - 39) ≡ is_in Word x
word_bit_lem x h l =
    let n : x - 39 + 39 ≡ x = omega arith in
    same_bool_lem (word_bit (x - 39)) (is_in Word (x - 39 + 39)) (each_below (λ k. same_bool (word_bit k) (is_in Word (k + 39))) 52 bits_right (x - 39) (omega arith)) ∙ ap (is_in Word) n

pub word_low : (x : ℕ) → x < 39 → false ≡ is_in Word x
word_low x h = rw (lt-leb 63 x (omega arith), lt-leb 39 x (omega arith), lt-leb 43 x (omega arith), lt-leb 46 x (omega arith), lt-leb 65 x (omega arith))

pub word_high : (x : ℕ) → 90 < x → false ≡ is_in Word x
word_high x h =
    rw (le-leb 63 x (omega arith), le-leb 39 x (omega arith), le-leb 43 x (omega arith), le-leb 46 x (omega arith), le-leb 65 x (omega arith), lt-leb x 63 (omega arith), lt-leb x 39 (omega arith), lt-leb x 44 (omega arith), lt-leb x 58 (omega arith), lt-leb x 90 (omega arith))

-- from 65 on only letters are
pub word_letter : (x : ℕ) → 65 ≤ x → leb x 90 ≡ is_in Word x
word_letter x h =
    rw (le-leb 63 x (omega arith), le-leb 39 x (omega arith), le-leb 43 x (omega arith), le-leb 46 x (omega arith), le-leb 65 x h, lt-leb x 63 (omega arith), lt-leb x 39 (omega arith), lt-leb x 44 (omega arith), lt-leb x 58 (omega arith))

-- where the byte j is a word byte or a blank, whether it is a word byte is whether it is no blank
abbrev pub mid : List ℕ → ℕ → Bool
mid s j = not (is_in (Byte 32) (get_or s j 0))

step : (s : List ℕ) (j k : ℕ) → 1 < k → j + 1 < length s → follows (get_or s j 0) (get_or s (j + 1) 0) ≡ true → words_at k (mid s j) s (j + 1) ≡ words_at (k - 1) (mid s (j + 1)) s (j + 1 + 1)
unfolding follows
step s j k z h f = go (known (is_in Word (get_or s (j + 1) 0)))
  where
    x : ℕ
    x = get_or s (j + 1) 0

    goal : Type 0
    goal = words_at k (mid s j) s (j + 1) ≡ words_at (k - 1) (mid s (j + 1)) s (j + 1 + 1)

    go : (is_in Word x ≡ true) ⊎ (is_in Word x ≡ false) → goal
    go (inl w) = words_on s (j + 1) (mid s j) k (omega arith) h w ∙ ap (λ (b : Bool). words_at (k - 1) (not b) s (j + 1 + 1)) (sym (no_blank x w))
    go (inr w) =
        let g : mid s j && is_in (Byte 32) x ≡ true = rw w at f in
        let b = and_r (mid s j) (is_in (Byte 32) x) g in
        words_gap s (j + 1) (mid s j) k (omega arith) h w (both (mid s j && is_in (Byte 32) x) (ltb 1 k) g (lt-ltb 1 k z)) ∙ ap (λ (b : Bool). words_at (k - 1) (not b) s (j + 1 + 1)) (sym b)

steps : (n : ℕ) (s : List ℕ) (j k : ℕ) → n < k → j + 1 + n ≤ length s → clean (get_or s j 0) (take n (drop (j + 1) s)) ≡ true → words_at k (mid s j) s (j + 1) ≡ words_at (k - n) (mid s (j + n)) s (j + n + 1)
unfolding clean
steps zero s j k z h e =
    let a : k - 0 ≡ k = omega arith in
    let b : j + 0 ≡ j = omega arith in
    rw (a, b)
steps (suc n) s j k z h e =
    let l : j + 1 < length s = omega arith in
    let d : drop (j + 1) s ≡ get_or s (j + 1) 0 ∷ drop (j + 1 + 1) s = rw (add-one (j + 1)) (drop-cons s (j + 1) 0 l) in
    let f : Bool = follows (get_or s j 0) (get_or s (j + 1) 0) in
    let g : Bool = clean (get_or s (j + 1) 0) (take n (drop (j + 1 + 1) s)) in
    let p : f && g ≡ true = rw d at e in
    let r = steps n s (j + 1) (k - 1) (omega arith) (omega arith) (and_r f g p) in
    let a : k - 1 - n ≡ k - suc n = omega arith in
    let b : j + 1 + n ≡ j + suc n = omega arith in
    step s j k (omega arith) l (and_l f g p) ∙ r ∙ rw (a, b)

-- THE LAW: over a block, with the byte before it
pub block : (s : List ℕ) (j k : ℕ) → 16 < k → j + 17 ≤ length s → clean_from (take (j + 17 - j) (drop j s)) 1 ≡ true → words_at k (mid s j) s (j + 1) ≡ words_at (k - 16) (mid s (j + 16)) s (j + 16 + 1)
unfolding clean_from
block s j k z h e =
    let n : j + 17 - j ≡ 17 = omega arith in
    let d : drop j s ≡ get_or s j 0 ∷ drop (j + 1) s = rw (add-one j) (drop-cons s j 0 (omega arith)) in
    steps 16 s j k z (omega arith) (rw (n, d) at e)

-- the first byte, which no blank may be
pub first : (s : List ℕ) (j k : ℕ) → 0 < k → j < length s → is_in Word (get_or s j 0) ≡ true → words_at (k - 1) (mid s j) s (j + 1) ≡ words_at k false s j
first s j k z h w = sym (words_on s j false k z h w ∙ ap (λ (b : Bool). words_at (k - 1) (not b) s (j + 1)) (sym (no_blank (get_or s j 0) w)))
