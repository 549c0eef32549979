-- What the loops of the code need of the scanner: how it stops, and one step of it.
use Rattle.std.specs.Prelude.{◌≡◌, ◌⊎◌, Bool, cond, ◌&&◌, ◌||◌, List, [], ◌∷◌, length, get_or, take, drop}
use Rattle.std.proofs.Math.Path.{refl, sym}
use Rattle.std.proofs.Common.{ap, ◌∙◌, inl, inr, add-one, drop_of_length-le, drop-cons}
use Rattle.std.proofs.Math.Bool.{true, false}
use Rattle.std.proofs.lemmas.Bool.{false≢true}
use Prim.Native.Nat.{ℕ, zero, suc, ◌+◌, ◌-◌, ◌≤◌, ◌<◌}
use native.Mathlib.Omega.{arith}
use Rattle.scan.specs.Texts.{lit, byte}
use Rattle.std.proofs.Math.Dec.{leb, ltb, eqb, leb-suc-suc}
use borrow.Author.Tests.{lt-ltb, le-ltb, le-leb, lt-leb, ne_eqb, leb-true, ltb-true, ltb-false}
use Rattle.scan.specs.declared.Scan.{Scan}
use Rattle.scan.specs.declared.Class.{Class}
use Rattle.scan.specs.declared.Class.TheVariants.{Word, Byte, Range, Two}
use Rattle.scan.specs.Grammar.{is_in, all}
use Rattle.scan.specs.Bools.{and_l, and_r, both, known, or_r}
use Rattle.scan.specs.Scanner.{scan, run_at, run_scan, words_at, words_scan}

module _ (c : Class) (s : List ℕ) (i : ℕ) where
  pub run_none : (k : ℕ) → k ≤ 0 → run_at c k s i ≡ i
  unfolding run_at
  run_none zero h = refl
  run_none (suc k) h = absurd (omega arith)

  pub run_past : (k : ℕ) → length s ≤ i → run_at c k s i ≡ i
  unfolding run_at
  run_past zero h = refl
  run_past (suc k) h = rw (le-ltb i (length s) h)

  pub run_off : (k : ℕ) → i < length s → is_in c (get_or s i 0) ≡ false → run_at c k s i ≡ i
  unfolding run_at
  run_off zero h e = refl
  run_off (suc k) h e = rw (lt-ltb i (length s) h, e)

  pub run_on : (k : ℕ) → 0 < k → i < length s → is_in c (get_or s i 0) ≡ true → run_at c k s i ≡ run_at c (k - 1) s (i + 1)
  unfolding run_at
  run_on zero z h e = absurd (omega arith)
  run_on (suc k) z h e = let n : suc k - 1 ≡ k = omega arith in rw (lt-ltb i (length s) h, e, n)

-- a block of a run
pub run_block : (c : Class) (m k : ℕ) (s : List ℕ) (at : ℕ) → m ≤ k → at + m ≤ length s → all c (take m (drop at s)) ≡ true → run_at c k s at ≡ run_at c (k - m) s (at + m)
unfolding all
run_block c zero k s at z h e =
    let a : k - 0 ≡ k = omega arith in
    let b : at + 0 ≡ at = omega arith in
    rw (a, b)
run_block c (suc m) k s at z h e =
    let l : at < length s = omega arith in
    let d : drop at s ≡ get_or s at 0 ∷ drop (at + 1) s = rw (add-one at) (drop-cons s at 0 l) in
    let p : is_in c (get_or s at 0) && all c (take m (drop (at + 1) s)) ≡ true = rw d at e in
    let a : k - 1 - m ≡ k - suc m = omega arith in
    let b : at + 1 + m ≡ at + suc m = omega arith in
    run_on c s at k (omega arith) l (and_l (is_in c (get_or s at 0)) (all c (take m (drop (at + 1) s))) p) ∙ run_block c m (k - 1) s (at + 1) (omega arith) (omega arith) (and_r (is_in c (get_or s at 0)) (all c (take m (drop (at + 1) s))) p) ∙ rw (a, b)

-- the block that a loop looked at
pub run_blocks : (c : Class) (m k : ℕ) (s : List ℕ) (at : ℕ) → m ≤ k → at + m ≤ length s → all c (take (at + m - at) (drop at s)) ≡ true → run_at c k s at ≡ run_at c (k - m) s (at + m)
run_blocks c m k s at z h e = let n : at + m - at ≡ m = omega arith in run_block c m k s at z h (rw n at e)

-- a whole run
run_all : (c : Class) (k : ℕ) (s : List ℕ) (at : ℕ) → at + k ≤ length s → all c (take k (drop at s)) ≡ true → run_at c k s at ≡ at + k
run_all c k s at h e = run_block c k k s at (omega arith) h e ∙ run_none c s (at + k) (k - k) (omega arith)

-- and the other way round
whole_run : (c : Class) (k : ℕ) (s : List ℕ) (at : ℕ) → at + k ≤ run_at c k s at → (all c (take k (drop at s)) ≡ true) × (0 < k → at + k ≤ length s)
unfolding run_at all
whole_run c zero s at h = (refl, λ z. absurd (omega arith))
whole_run c (suc k) s at h = go (known (ltb at (length s) && is_in c (get_or s at 0))) (whole_run c k s (at + 1)) (last k (whole_run c k s (at + 1)))
  where
    b : Bool
    b = ltb at (length s) && is_in c (get_or s at 0)

    last : (k : ℕ) → (at + 1 + k ≤ run_at c k s (at + 1) → (all c (take k (drop (at + 1) s)) ≡ true) × (0 < k → at + 1 + k ≤ length s)) → at < length s → at + 1 + k ≤ run_at c k s (at + 1) → at + suc k ≤ length s
    last zero f l m = omega arith
    last (suc k) f l m = omega (arith, (f m).1 (omega arith))

    go : (b ≡ true) ⊎ (b ≡ false) → (at + 1 + k ≤ run_at c k s (at + 1) → (all c (take k (drop (at + 1) s)) ≡ true) × (0 < k → at + 1 + k ≤ length s)) → (at < length s → at + 1 + k ≤ run_at c k s (at + 1) → at + suc k ≤ length s) → (all c (take (suc k) (drop at s)) ≡ true) × (0 < suc k → at + suc k ≤ length s)
    go (inr e) f g = let m : at + suc k ≤ at = rw e at h in absurd (omega arith)
    go (inl e) f g =
        let l : at < length s = ltb-true at (length s) (and_l (ltb at (length s)) (is_in c (get_or s at 0)) e) in
        let d : drop at s ≡ get_or s at 0 ∷ drop (at + 1) s = rw (add-one at) (drop-cons s at 0 l) in
        let m : at + suc k ≤ run_at c k s (at + 1) = rw e at h in
        let n : at + 1 + k ≤ run_at c k s (at + 1) = omega arith in
        (rw d (both (is_in c (get_or s at 0)) (all c (take k (drop (at + 1) s))) (and_r (ltb at (length s)) (is_in c (get_or s at 0)) e) (f n).0), λ z. g l n)

-- b says whether a run of k bytes is whole; for none it may say that it is not
unfoldable pub Whole : Class → ℕ → List ℕ → ℕ → Bool → Type 0
Whole c k s at b = (b ≡ true → (run_at c k s at ≡ at + k) × (at + k ≤ length s)) × (b ≡ false → 0 < k → run_at c k s at < at + k)

module _ (c : Class) (k : ℕ) (s : List ℕ) (at : ℕ) where
  short : (at + k ≤ length s → all c (take k (drop at s)) ≡ false) → 0 < k → (b : Bool) → ltb (run_at c k s at) (at + k) ≡ b → run_at c k s at < at + k
  short f z true e = ltb-true (run_at c k s at) (at + k) e
  short f z false e = let w = whole_run c k s at (ltb-false (run_at c k s at) (at + k) e) in absurd (false≢true (sym (f (w.1 z)) ∙ w.0))

  pub whole_not : length s < at + k → Whole c k s at false
  unfolding Whole
  whole_not h = (λ e. absurd (false≢true e), λ _ z. short (λ l. absurd (omega arith)) z (ltb (run_at c k s at) (at + k)) refl)

  pub whole_as : (b : Bool) → at + k ≤ length s → b ≡ all c (take (at + k - at) (drop at s)) → Whole c k s at b
  unfolding Whole
  whole_as b h e =
      let n : at + k - at ≡ k = omega arith in
      let q : b ≡ all c (take k (drop at s)) = rw n at e in
      (λ o. (run_all c k s at h (sym q ∙ o), h), λ o z. short (λ _. sym q ∙ o) z (ltb (run_at c k s at) (at + k)) refl)

module _ (c : Class) (k : ℕ) (s : List ℕ) (r : Scan) (o : r.ok ≡ true) (b : Bool) (w : Whole c k s r.next b) where
  pub exact_fits : b ≡ true → r.next + k ≤ length s
  unfolding Whole
  exact_fits e = (w.0 e).1

  pub exact_whole : b ≡ true → record { next = r.next + k; ok = true } ≡ run_scan c k k s r
  unfolding run_scan Whole
  exact_whole e =
      let n : r.next + k - r.next ≡ k = omega arith in
      rw (o, (w.0 e).0, n, le-leb k k (omega arith))

  pub exact_short : b ≡ false → (i : ℕ) → i ≡ run_at c k s r.next → record { next = i; ok = eqb k 0 } ≡ run_scan c k k s r
  unfolding run_scan Whole
  exact_short e i p = rw (o, p) (λ j. record { next = run_at c k s r.next; ok = same k (w.1 e) j })
    where
      same : (m : ℕ) → (0 < m → run_at c k s r.next < r.next + m) → eqb m 0 ≡ leb m (run_at c k s r.next - r.next)
      same zero f = sym (le-leb 0 (run_at c k s r.next - r.next) (omega arith))
      same (suc m) f = ne_eqb (suc m) 0 (λ e. omega arith) ∙ sym (lt-leb (suc m) (run_at c k s r.next - r.next) (omega (arith, f (omega arith))))

-- all k bytes from a to e are of the class: the run is whole
pub run_spanned : (c : Class) (k : ℕ) (s : List ℕ) (a e : ℕ) → a + k ≡ e → e ≤ length s → all c (take (e - a) (drop a s)) ≡ true → run_scan c k k s (record { next = a; ok = true }) ≡ record { next = e; ok = true }
unfolding run_scan
run_spanned c k s a e p h f =
    let m : e - a ≡ k = omega arith in
    let g : all c (take k (drop a s)) ≡ true = rw m at f in
    let n : a + k - a ≡ k = omega arith in
    rw (run_all c k s a (omega arith) g, n, le-leb k k (omega arith), p)

-- ok: whether the bytes before j are of the class, b: whether all are
pub all_next : (c : Class) (t : List ℕ) (j : ℕ) (ok f b : Bool) → j < length t → f ≡ is_in c (get_or t j 0) → b ≡ (ok && all c (drop j t)) → b ≡ ((ok && f) && all c (drop (j + 1) t))
unfolding all
all_next c t j true f b h q e = e ∙ rw (drop-cons t j 0 h, q, add-one)
all_next c t j false f b h q e = e

pub all_end : (c : Class) (t : List ℕ) (j : ℕ) (ok b : Bool) → length t ≤ j → b ≡ (ok && all c (drop j t)) → ok ≡ b
unfolding all
all_end c t j true b h e = sym (e ∙ rw (drop_of_length-le t h))
all_end c t j false b h e = sym e

-- classes of the same bytes run alike
pub run_alike : (c d : Class) → ((x : ℕ) → is_in c x ≡ is_in d x) → (k : ℕ) (s : List ℕ) (at : ℕ) → run_at c k s at ≡ run_at d k s at
unfolding run_at
run_alike c d e zero s at = refl
run_alike c d e (suc k) s at = rw (e (get_or s at 0), run_alike c d e k s (at + 1))

-- a range and the same again
pub twice : (a b x : ℕ) → is_in (Two a b a b) x ≡ is_in (Range a b) x
twice a b x = same (leb a x && leb x b)
  where
    same : (p : Bool) → (false || p) || p ≡ false || p
    same true = refl
    same false = refl

pub run_forth : (c : Class) (k : ℕ) (s : List ℕ) (at : ℕ) → at ≤ run_at c k s at
unfolding run_at
run_forth c zero s at = omega arith
run_forth c (suc k) s at = go (ltb at (length s) && is_in c (get_or s at 0)) (run_forth c k s (at + 1))
  where
    go : (b : Bool) → at + 1 ≤ run_at c k s (at + 1) → at ≤ cond b (run_at c k s (at + 1)) at
    go true h = omega arith
    go false h = omega arith

pub scan_alike : (c d : Class) → ((x : ℕ) → is_in c x ≡ is_in d x) → (lo hi : ℕ) (s : List ℕ) (r : Scan) → run_scan c lo hi s r ≡ run_scan d lo hi s r
unfolding run_scan
scan_alike c d e lo hi s r = rw (run_alike c d e hi s r.next)

-- a class of one byte
pub is_byte : (b x : ℕ) → x ≡ b → is_in (Byte b) x ≡ true
is_byte b x e = rw (e, le-leb b b (omega arith))

pub no_byte : (b x : ℕ) → (x ≡ b → ⊥) → is_in (Byte b) x ≡ false
no_byte b x n = go (leb b x) refl (leb x b) refl
  where
    go : (p : Bool) → leb b x ≡ p → (q : Bool) → leb x b ≡ q → (false || (p && q)) ≡ false
    go true e true f = absurd (n (omega (arith, leb-true b x e, leb-true x b f)))
    go true e false f = refl
    go false e q f = refl

-- one byte
module _ (c : Class) (s : List ℕ) (r : Scan) (o : r.ok ≡ true) where
  pub one_past : length s ≤ r.next → record { next = r.next; ok = false } ≡ run_scan c 1 1 s r
  unfolding run_scan run_at
  one_past h = let z : r.next - r.next ≡ 0 = omega arith in rw (o, le-ltb r.next (length s) h, z)

  pub one_on : r.next < length s → is_in c (get_or s r.next 0) ≡ true → record { next = r.next + 1; ok = true } ≡ run_scan c 1 1 s r
  unfolding run_scan run_at
  one_on h e = let z : leb 1 (r.next + 1 - r.next) ≡ true = le-leb 1 (r.next + 1 - r.next) (omega arith) in rw (o, lt-ltb r.next (length s) h, e, z)

  pub one_off : r.next < length s → is_in c (get_or s r.next 0) ≡ false → record { next = r.next; ok = false } ≡ run_scan c 1 1 s r
  unfolding run_scan run_at
  one_off h e = let z : r.next - r.next ≡ 0 = omega arith in rw (o, lt-ltb r.next (length s) h, e, z)

pub run_is : (c : Class) (lo hi : ℕ) (s : List ℕ) (r : Scan) (i j : ℕ) → r.ok ≡ true → j ≡ run_at c hi s r.next → j ≡ i → record { next = i; ok = leb lo (i - r.next) } ≡ run_scan c lo hi s r
unfolding run_scan
run_is c lo hi s r i j o e f = rw (o, sym f ∙ e)

pub run_skip : (c : Class) (lo hi : ℕ) (s : List ℕ) (r : Scan) → r.ok ≡ false → r ≡ run_scan c lo hi s r
unfolding run_scan
run_skip c lo hi s r o = rw o

abbrev pub ended : ℕ → Bool → Scan
ended i m = record { next = i; ok = m }

module _ (s : List ℕ) (i : ℕ) where
  pub words_none : (m : Bool) (k : ℕ) → k ≤ 0 → words_at k m s i ≡ ended i m
  unfolding words_at
  words_none m zero h = refl
  words_none m (suc k) h = absurd (omega arith)

  pub words_past : (m : Bool) (k : ℕ) → length s ≤ i → words_at k m s i ≡ ended i m
  unfolding words_at
  words_past m zero h = refl
  words_past m (suc k) h = rw (le-ltb i (length s) h)

  pub words_on : (m : Bool) (k : ℕ) → 0 < k → i < length s → is_in Word (get_or s i 0) ≡ true → words_at k m s i ≡ words_at (k - 1) true s (i + 1)
  unfolding words_at
  words_on m zero z h e = absurd (omega arith)
  words_on m (suc k) z h e = let n : suc k - 1 ≡ k = omega arith in rw (lt-ltb i (length s) h, e, n)

  pub words_gap : (m : Bool) (k : ℕ) → 0 < k → i < length s → is_in Word (get_or s i 0) ≡ false → m && is_in (Byte 32) (get_or s i 0) && ltb 1 k ≡ true → words_at k m s i ≡ words_at (k - 1) false s (i + 1)
  unfolding words_at
  words_gap m zero z h e f = absurd (omega arith)
  words_gap m (suc k) z h e f =
      let n : suc k - 1 ≡ k = omega arith in
      let g : m && is_in (Byte 32) (get_or s i 0) && ltb 0 k ≡ true = rw (← leb-suc-suc 1 k) f in
      rw (lt-ltb i (length s) h, e, g, n)

  pub words_off : (m : Bool) (k : ℕ) → i < length s → is_in Word (get_or s i 0) ≡ false → m && is_in (Byte 32) (get_or s i 0) && ltb 1 k ≡ false → words_at k m s i ≡ ended i m
  unfolding words_at
  words_off m zero h e f = refl
  words_off m (suc k) h e f =
      let g : m && is_in (Byte 32) (get_or s i 0) && ltb 0 k ≡ false = rw (← leb-suc-suc 1 k) f in
      rw (lt-ltb i (length s) h, e, g)

pub words_is : (k : ℕ) (s : List ℕ) (r : Scan) (j q : Scan) → r.ok ≡ true → j ≡ words_at k false s r.next → j ≡ q → q ≡ words_scan k s r
unfolding words_scan
words_is k s r j q o e f = rw o (sym f ∙ e)

pub words_skip : (k : ℕ) (s : List ℕ) (r : Scan) → r.ok ≡ false → r ≡ words_scan k s r
unfolding words_scan
words_skip k s r o = rw o

module _ (w s : List ℕ) (i : ℕ) (q : Scan) where
  pub lit_step : i < length w → scan (lit (drop i w)) s q ≡ scan (lit (drop (i + 1) w)) s (scan (byte (get_or w i 0)) s q)
  lit_step h = let e : drop i w ≡ get_or w i 0 ∷ drop (i + 1) w = rw (add-one, drop-cons w i 0) in rw e

  pub lit_end : length w ≤ i → scan (lit (drop i w)) s q ≡ q
  lit_end h = let e : drop i w ≡ [] = drop_of_length-le w h in rw e

pub lit_again : (w s : List ℕ) (i : ℕ) (q q' x : Scan) → i < length w → q' ≡ scan (byte (get_or w i 0)) s q → scan (lit (drop i w)) s q ≡ x → scan (lit (drop (i + 1) w)) s q' ≡ x
lit_again w s i q q' x h e f = ap (scan (lit (drop (i + 1) w)) s) e ∙ sym (lit_step w s i q h) ∙ f

-- a list of four is its four
pub four : (a : List ℕ) → length a ≡ 4 → a ≡ get_or a 0 0 ∷ get_or a 1 0 ∷ get_or a 2 0 ∷ get_or a 3 0 ∷ []
four [] e = absurd (omega (arith, e))
four (x ∷ []) e = absurd (omega (arith, e))
four (x ∷ y ∷ []) e = absurd (omega (arith, e))
four (x ∷ y ∷ z ∷ []) e = absurd (omega (arith, e))
four (x ∷ y ∷ z ∷ u ∷ []) e = refl
four (x ∷ y ∷ z ∷ u ∷ v ∷ a) e = absurd (omega (arith, e))

-- TWO RANGES, one after the other

or_none : (t : Bool) → t || false ≡ t
or_none true = refl
or_none false = refl

and_none : (t : Bool) → t && false ≡ false
and_none true = refl
and_none false = refl

pub two_below : (a z b y x : ℕ) → x < a → leb b x && leb x y ≡ is_in (Two a z b y) x
two_below a z b y x h = sym (rw (lt-leb a x h) (or_none (leb b x && leb x y)))

pub two_in : (a z b y x : ℕ) → a ≤ x → x ≤ z → true ≡ is_in (Two a z b y) x
two_in a z b y x h k = sym (rw (le-leb a x h, le-leb x z k) (or_r (leb b x && leb x y) true refl))

pub two_above : (a z b y x : ℕ) → z < x → leb b x && leb x y ≡ is_in (Two a z b y) x
two_above a z b y x h = sym (rw (lt-leb x z h, and_none (leb a x)) (or_none (leb b x && leb x y)))
