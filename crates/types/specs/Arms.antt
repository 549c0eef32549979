-- A text's first four bytes pick the message that it can be.
use Rattle.std.specs.Prelude.{◌≡◌, ◌⊎◌, Bool, not, ◌&&◌, ℕ, suc, ◌+◌, ◌-◌, ◌≤◌, ◌<◌, length, get_or, take, drop, leb, ltb, eqb}
use Rattle.std.proofs.Math.Path.{refl, sym, ap}
use Rattle.std.proofs.Common.{◌∙◌, inl, inr, arith, add-one, length-drop, drop-cons}
use Rattle.std.proofs.Math.Logic.{⊎_elim}
use Rattle.std.proofs.Math.Bool.{true, false, cond}
use Rattle.std.proofs.lemmas.Bool.{false≢true}
use mathlib.Core.List.{List, [], ◌∷◌, head-eq_of_cons-eq, tail-eq_of_cons-eq}
use borrow.Author.Tests.{lt-ltb, le-ltb, ltb-true, leb-true, le-leb, eqb-true, eq-eqb, not-true}
use Rattle.scan.specs.declared.Scan.{Scan}
use Rattle.scan.specs.declared.Class.TheVariants.{Byte}
use Rattle.scan.specs.Bools.{and_l, and_r, known}
use Rattle.scan.specs.Grammar.{is_in, G, seq, alt, none}
use Rattle.scan.specs.Texts.{lit, byte}
use Rattle.scan.specs.Scanner.{run_at, run_scan, scan, from, scan_at, longer, leads, occurs, span_by, spot}
use Rattle.scan.specs.Theory.{skip}
use Rattle.scan.specs.Bounds.{scan_forth, spot_stays}
use Rattle.types.specs.Scanned.{Scanned, parts_of, found_by, stopped_at}

-- A given text

-- the byte b stands at a place
abbrev stands : ℕ → List ℕ → ℕ → Bool
stands b s at = ltb at (length s) && is_in (Byte b) (get_or s at 0)

byte_on : (b : ℕ) (s : List ℕ) (at : ℕ) → stands b s at ≡ true → scan (byte b) s (from at) ≡ from (at + 1)
unfolding run_scan run_at
byte_on b s at e = let l : leb 1 (at + 1 - at) ≡ true = le-leb 1 (at + 1 - at) (omega arith) in rw (e, l)

byte_off : (b : ℕ) (s : List ℕ) (at : ℕ) → stands b s at ≡ false → scan (byte b) s (from at) ≡ record { next = at; ok = false }
unfolding run_scan run_at
byte_off b s at e = let z : at - at ≡ 0 = omega arith in rw (e, z)

-- the byte that stands there is the list's next
stands_next : (b : ℕ) (s : List ℕ) (at : ℕ) → stands b s at ≡ true → drop at s ≡ b ∷ drop (at + 1) s
stands_next b s at e =
    let h : at < length s = ltb-true at (length s) (and_l (ltb at (length s)) (is_in (Byte b) (get_or s at 0)) e) in
    let i = and_r (ltb at (length s)) (is_in (Byte b) (get_or s at 0)) e in
    let x : get_or s at 0 ≡ b = omega (arith, leb-true b (get_or s at 0) (and_l (leb b (get_or s at 0)) (leb (get_or s at 0) b) i), leb-true (get_or s at 0) b (and_r (leb b (get_or s at 0)) (leb (get_or s at 0) b) i)) in
    rw (add-one, drop-cons s at 0 h, x)

next_stands : (b : ℕ) (s w : List ℕ) (at : ℕ) → drop at s ≡ b ∷ w → stands b s at ≡ true
next_stands b s w at e =
    let h : at < length s = omega (arith, simp length-drop at (ap length e)) in
    let x : get_or s at 0 ≡ b = head-eq_of_cons-eq (sym (drop-cons s at 0 h) ∙ e) in
    rw (lt-ltb at (length s) h, x, le-leb b b (omega arith))

lit_hit : (key s : List ℕ) (at : ℕ) → take (length key) (drop at s) ≡ key → scan (lit key) s (from at) ≡ from (at + length key)
lit_hit [] s at e = λ i. from (let z : at ≡ at + 0 = omega arith in z i)
lit_hit (b ∷ key) s at e = go (lit_hit key s (at + 1)) (drop at s) refl e
  where
    go : (take (length key) (drop (at + 1) s) ≡ key → scan (lit key) s (from (at + 1)) ≡ from (at + 1 + length key)) → (l : List ℕ) → drop at s ≡ l → take (suc (length key)) l ≡ b ∷ key → scan (lit (b ∷ key)) s (from at) ≡ from (at + length (b ∷ key))
    go r [] d t = absurd (let z : ◌≡◌ {A = ℕ} 0 1 = cc in omega arith)
    go r (x ∷ w) d t =
        let y : drop at s ≡ b ∷ w = d ∙ ap (λ (z : ℕ). z ∷ w) (head-eq_of_cons-eq t) in
        let n : stands b s at ≡ true = next_stands b s w at y in
        let v : drop (at + 1) s ≡ w = tail-eq_of_cons-eq (sym (stands_next b s at n) ∙ y) in
        let m : at + 1 + length key ≡ at + length (b ∷ key) = omega arith in
        ap (scan (lit key) s) (byte_on b s at n) ∙ r (rw v (tail-eq_of_cons-eq t)) ∙ (λ i. from (m i))

lit_is : (key s : List ℕ) (at : ℕ) → (scan (lit key) s (from at)).ok ≡ true → take (length key) (drop at s) ≡ key
lit_is [] s at o = refl
lit_is (b ∷ key) s at o = go (lit_is key s (at + 1)) (known (stands b s at))
  where
    go : ((scan (lit key) s (from (at + 1))).ok ≡ true → take (length key) (drop (at + 1) s) ≡ key) → (stands b s at ≡ true) ⊎ (stands b s at ≡ false) → take (length (b ∷ key)) (drop at s) ≡ b ∷ key
    go r (inl e) = rw (stands_next b s at e) (ap (λ (w : List ℕ). b ∷ w) (r (sym (ap (λ (q : Scan). (scan (lit key) s q).ok) (byte_on b s at e)) ∙ o)))
    go r (inr e) = absurd (false≢true (sym (ap (λ (q : Scan). q.ok) (ap (scan (lit key) s) (byte_off b s at e) ∙ skip (lit key) s (record { next = at; ok = false }) refl)) ∙ o))

lit_short : (key s : List ℕ) (at : ℕ) → (scan (lit key) s (from at)).ok ≡ false → (scan (lit key) s (from at)).next < at + length key
lit_short [] s at o = absurd (false≢true (sym o))
lit_short (b ∷ key) s at o = go (lit_short key s (at + 1)) (known (stands b s at))
  where
    go : ((scan (lit key) s (from (at + 1))).ok ≡ false → (scan (lit key) s (from (at + 1))).next < at + 1 + length key) → (stands b s at ≡ true) ⊎ (stands b s at ≡ false) → (scan (lit (b ∷ key)) s (from at)).next < at + length (b ∷ key)
    go r (inl e) = let h = r (sym (ap (λ (q : Scan). (scan (lit key) s q).ok) (byte_on b s at e)) ∙ o) in omega (arith, ap (λ (q : Scan). (scan (lit key) s q).next) (byte_on b s at e))
    go r (inr e) = omega (arith, ap (λ (q : Scan). (scan (lit key) s q).next) (byte_off b s at e), ap (λ (q : Scan). q.next) (skip (lit key) s (record { next = at; ok = false }) refl))

-- WHAT BEGINS WITH A KEY

pub data Led (key : List ℕ) : G → Type 0 where
  led_lit : Led key (lit key)
  led_seq : {a b : G} → Led key a → Led key (seq a b)

led_stays : (key : List ℕ) {g : G} → Led key g → (s : List ℕ) (r : Scan) → (scan (lit key) s r).ok ≡ false → scan g s r ≡ scan (lit key) s r
led_stays key led_lit s r e = refl
led_stays key (led_seq {a} {b} l) s r e = ap (scan b s) (led_stays key l s r e) ∙ skip b s (scan (lit key) s r) e

led_forth : (key : List ℕ) {g : G} → Led key g → (s : List ℕ) (r : Scan) → (scan (lit key) s r).next ≤ (scan g s r).next
led_forth key led_lit s r = omega arith
led_forth key (led_seq {a} {b} l) s r = omega (arith, led_forth key l s r, scan_forth b s (scan a s r))

lit_none : (n : ℕ) (key s : List ℕ) (r : Scan) → spot n (lit key) s r ≡ none
unfolding occurs span_by
lit_none n [] s r = refl
lit_none n (b ∷ key) s r = lit_none n key s (scan (byte b) s r)

led_none : (n : ℕ) (key : List ℕ) {g : G} → Led key g → (s : List ℕ) (r : Scan) → (scan (lit key) s r).ok ≡ false → spot n g s r ≡ none
unfolding span_by
led_none n key led_lit s r e = lit_none n key s r
led_none n key (led_seq {a} {b} l) s r e =
    ⊎_elim
    (λ o. rw o (led_none n key l s r e))
    (λ o. rw o (spot_stays n b s (scan a s r) (ap (λ (q : Scan). q.ok) (led_stays key l s r e) ∙ e)))
    (known (occurs n a))

-- THE ARMS

pub record Arm : Type 0 where
  pub a : ℕ
  pub b : ℕ
  pub c : ℕ
  pub g : G
  pub led : Led (40 ∷ a ∷ b ∷ c ∷ []) g

abbrev pub key_of : Arm → List ℕ
key_of x = 40 ∷ x.a ∷ x.b ∷ x.c ∷ []

abbrev pub alt_of : Arm → List Arm → G
alt_of x [] = x.g
alt_of x (y ∷ ys) = alt x.g (alt_of y ys)

-- the keys alone
abbrev pub keys_of : Arm → List Arm → G
keys_of x [] = lit (key_of x)
keys_of x (y ∷ ys) = alt (lit (key_of x)) (keys_of y ys)

-- no key is w
abbrev pub Misses : List ℕ → Arm → List Arm → Type 0
Misses w x [] = key_of x ≡ w → ⊥
Misses w x (y ∷ ys) = (key_of x ≡ w → ⊥) × Misses w y ys

pub all_miss : (w : List ℕ) → ((a b c : ℕ) → 40 ∷ a ∷ b ∷ c ∷ [] ≡ w → ⊥) → (x : Arm) (xs : List Arm) → Misses w x xs
all_miss w m x [] = m x.a x.b x.c
all_miss w m x (y ∷ ys) = (m x.a x.b x.c, all_miss w m y ys)

module _ (s : List ℕ) where
  not_ok : (x : Arm) → (key_of x ≡ take 4 s → ⊥) → (scan_at (lit (key_of x)) s 0).ok ≡ false
  not_ok x m = ⊎_elim (λ o. absurd (m (sym (lit_is (key_of x) s 0 o)))) (λ o. o) (known (scan_at (lit (key_of x)) s 0).ok)

  short : (x : Arm) → (key_of x ≡ take 4 s → ⊥) → (scan_at x.g s 0).next < 4
  short x m = rw (led_stays (key_of x) x.led s (from 0) (not_ok x m)) (omega (arith, lit_short (key_of x) s 0 (not_ok x m)))

  missed_end : (x : Arm) (xs : List Arm) → Misses (take 4 s) x xs → scan_at (alt_of x xs) s 0 ≡ scan_at (keys_of x xs) s 0
  missed_end x [] m = led_stays (key_of x) x.led s (from 0) (not_ok x m)
  missed_end x (y ∷ ys) m = rw (led_stays (key_of x) x.led s (from 0) (not_ok x m.0), missed_end y ys m.1)

  missed_spot : (x : Arm) (xs : List Arm) → Misses (take 4 s) x xs → (n : ℕ) → spot n (alt_of x xs) s (from 0) ≡ none
  unfolding span_by
  missed_spot x [] m n = led_none n (key_of x) x.led s (from 0) (not_ok x m)
  missed_spot x (y ∷ ys) m n =
      rw (led_none n (key_of x) x.led s (from 0) (not_ok x m.0), missed_spot y ys m.1 n) (same (leads (scan_at x.g s 0) (scan_at (alt_of y ys) s 0)))
    where
      same : (t : Bool) → cond t none none ≡ none
      same true = refl
      same false = refl

  -- where no key is the text's beginning, only the keys are looked at, and no part is there
  pub missed : (x : Arm) (xs : List Arm) → Misses (take 4 s) x xs → stopped_at (scan_at (keys_of x xs) s 0) ≡ found_by (alt_of x xs) s
  unfolding found_by
  missed x xs m = sym (λ i. record { end = missed_end x xs m i; parts = parts_of (λ n. missed_spot x xs m n i) })

  missed_short : (x : Arm) (xs : List Arm) → Misses (take 4 s) x xs → (scan_at (alt_of x xs) s 0).next < 4
  unfolding longer
  missed_short x [] m = short x m
  missed_short x (y ∷ ys) m = longer_short (scan_at x.g s 0) (scan_at (alt_of y ys) s 0) (short x m.0) (missed_short y ys m.1)
    where
      longer_short : (p q : Scan) → p.next < 4 → q.next < 4 → (longer p q).next < 4
      longer_short p q h k = ⊎_elim (λ e. rw e k) (λ e. rw e (⊎_elim (λ f. rw f h) (λ f. rw f h) (known (ltb q.next p.next)))) (known (ltb p.next q.next))

  first_picked : (p q : G) → (scan_at q s 0).next < (scan_at p s 0).next → found_by (alt p q) s ≡ found_by p s
  unfolding found_by longer leads span_by
  first_picked p q h = rw (le-ltb (scan_at p s 0).next (scan_at q s 0).next (omega arith), lt-ltb (scan_at q s 0).next (scan_at p s 0).next h)

  second_picked : (p q : G) → (scan_at p s 0).next < (scan_at q s 0).next → found_by (alt p q) s ≡ found_by q s
  unfolding found_by longer leads span_by
  second_picked p q h = rw (lt-ltb (scan_at p s 0).next (scan_at q s 0).next h)

abbrev same : ℕ → ℕ → ℕ → Arm → Bool
same a b c x = eqb x.a a && eqb x.b b && eqb x.c c

abbrev pub nowhere : ℕ → ℕ → ℕ → Arm → List Arm → Bool
nowhere a b c x [] = not (same a b c x)
nowhere a b c x (y ∷ ys) = not (same a b c x) && nowhere a b c y ys

-- exactly one arm has the letters
abbrev pub once : ℕ → ℕ → ℕ → Arm → List Arm → Bool
once a b c x [] = same a b c x
once a b c x (y ∷ ys) = cond (same a b c x) (nowhere a b c y ys) (once a b c y ys)

abbrev pub arm_of : ℕ → ℕ → ℕ → Arm → List Arm → G
arm_of a b c x [] = x.g
arm_of a b c x (y ∷ ys) = cond (same a b c x) x.g (arm_of a b c y ys)

-- the letters of a key
letters : (a b c d e f : ℕ) → 40 ∷ a ∷ b ∷ c ∷ [] ≡ 40 ∷ d ∷ e ∷ f ∷ [] → (a ≡ d) × (b ≡ e) × (c ≡ f)
letters a b c d e f h = ((cc), (cc), (cc))

same_key : (a b c : ℕ) (x : Arm) → same a b c x ≡ true → key_of x ≡ 40 ∷ a ∷ b ∷ c ∷ []
same_key a b c x e =
    let i = and_l (eqb x.a a && eqb x.b b) (eqb x.c c) e in
    let p : x.a ≡ a = eqb-true x.a a (and_l (eqb x.a a) (eqb x.b b) i) in
    let q : x.b ≡ b = eqb-true x.b b (and_r (eqb x.a a) (eqb x.b b) i) in
    let r : x.c ≡ c = eqb-true x.c c (and_r (eqb x.a a && eqb x.b b) (eqb x.c c) e) in
    cc

key_same : (a b c : ℕ) (x : Arm) → key_of x ≡ 40 ∷ a ∷ b ∷ c ∷ [] → same a b c x ≡ true
key_same a b c x e = let h = letters x.a x.b x.c a b c e in rw (eq-eqb x.a a h.0, eq-eqb x.b b h.1, eq-eqb x.c c h.2)

module _ (a b c : ℕ) (s : List ℕ) (e : take 4 s ≡ 40 ∷ a ∷ b ∷ c ∷ []) where
  other_key : (x : Arm) → same a b c x ≡ false → key_of x ≡ take 4 s → ⊥
  other_key x n k = false≢true (sym n ∙ key_same a b c x (k ∙ e))

  nowhere_misses : (x : Arm) (xs : List Arm) → nowhere a b c x xs ≡ true → Misses (take 4 s) x xs
  nowhere_misses x [] n = other_key x (not-true (same a b c x) n)
  nowhere_misses x (y ∷ ys) n = (other_key x (not-true (same a b c x) (and_l (not (same a b c x)) (nowhere a b c y ys) n)), nowhere_misses y ys (and_r (not (same a b c x)) (nowhere a b c y ys) n))

  hit : (x : Arm) → same a b c x ≡ true → 4 ≤ (scan_at x.g s 0).next
  hit x o =
      let h : scan_at (lit (key_of x)) s 0 ≡ from 4 = lit_hit (key_of x) s 0 (e ∙ sym (same_key a b c x o)) in
      omega (arith, led_forth (key_of x) x.led s (from 0), ap (λ (r : Scan). r.next) h)

  -- the arm with the text's letters does the whole scan
  picked_long : (x : Arm) (xs : List Arm) → once a b c x xs ≡ true → (found_by (alt_of x xs) s ≡ found_by (arm_of a b c x xs) s) × (4 ≤ (scan_at (alt_of x xs) s 0).next)
  unfolding found_by
  picked_long x [] o = (refl, hit x o)
  picked_long x (y ∷ ys) o = go (known (same a b c x)) (picked_long y ys)
    where
      ends : (p q : G) → found_by p s ≡ found_by q s → (scan_at p s 0).next ≡ (scan_at q s 0).next
      ends p q h = ap (λ (z : Scanned). z.end.next) h

      go : (same a b c x ≡ true) ⊎ (same a b c x ≡ false) → (once a b c y ys ≡ true → (found_by (alt_of y ys) s ≡ found_by (arm_of a b c y ys) s) × (4 ≤ (scan_at (alt_of y ys) s 0).next)) → (found_by (alt_of x (y ∷ ys)) s ≡ found_by (arm_of a b c x (y ∷ ys)) s) × (4 ≤ (scan_at (alt_of x (y ∷ ys)) s 0).next)
      go (inl h) r =
          let m = missed_short s y ys (nowhere_misses y ys (rw h at o)) in
          let l = hit x h in
          let p = first_picked s x.g (alt_of y ys) (omega arith) in
          (p ∙ rw h, omega (arith, ends (alt x.g (alt_of y ys)) x.g p))
      go (inr h) r =
          let w = r (rw h at o) in
          let m = short s x (other_key x h) in
          let p = second_picked s x.g (alt_of y ys) (omega arith) in
          (p ∙ w.0 ∙ rw h, omega (arith, ends (alt x.g (alt_of y ys)) (alt_of y ys) p))

  pub picked : (x : Arm) (xs : List Arm) → once a b c x xs ≡ true → found_by (arm_of a b c x xs) s ≡ found_by (alt_of x xs) s
  picked x xs o = sym (picked_long x xs o).0
