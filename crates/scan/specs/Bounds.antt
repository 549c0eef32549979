-- How far a scan goes, whatever its grammar, and that a text longer than the longest one is judged by its beginning.
use Rattle.std.specs.Prelude.{◌≡◌, refl, Bool, true, false, cond, ◌&&◌, List, ◌++◌, ℕ, zero, suc, ◌+◌, ◌-◌, ◌%◌, ◌≤◌, ◌<◌, max, length, get_or, take, ltb, eqb}
use Rattle.std.proofs.Common.{ap, ⊎_elim, arith, length-append, length-take, take-take, take_all, length-take-le}
use Rattle.scan.specs.declared.Scan.{Scan}
use Rattle.scan.specs.declared.Class.{Class}
use Rattle.scan.specs.declared.Class.TheVariants.{Word, Byte}
use Rattle.scan.specs.Grammar.{Span, span, is_in, G, eps, run, words, seq, alt, part, field, Derives, Refusal, none}
use Rattle.scan.specs.Scanner.{run_at, run_scan, words_at, words_scan, leads, scan, scan_at, among, occurs, between, span_by, span_of, between16, spot}
use Rattle.scan.specs.Tests.{good, longest}
use Rattle.scan.specs.Theory.{skip, place}
use Rattle.scan.specs.Parts.{longer_is}

-- no text is longer than the longest
pub derives_short : (g : G) (w : List ℕ) → Derives g w → length w ≤ longest g
unfolding longest
derives_short eps w d = omega (arith, ap length d)
derives_short (run c lo hi) w d = d.2
derives_short (words k) w d = d.1
derives_short (seq a b) w d = omega (arith, ap length d.2, length-append d.0 d.1, derives_short a d.0 d.3, derives_short b d.1 d.4)
derives_short (alt a b) w d = ⊎_elim (λ l. omega (arith, derives_short a w l)) (λ l. omega (arith, derives_short b w l)) d
derives_short (part n g) w d = derives_short g w d
derives_short (field ns g) w d = derives_short g w d

-- what holds of both sides holds of the one that is taken
either : {A : Type 0} (P : A → Type 0) (c : Bool) (x y : A) → P x → P y → P (cond c x y)
either P true x y p q = p
either P false x y p q = q

-- not before `at`, and at most k bytes on
abbrev Within : ℕ → ℕ → ℕ → Type 0
Within k at i = (at ≤ i) × (i ≤ at + k)

run_within : (c : Class) (k : ℕ) (s : List ℕ) (at : ℕ) → Within k at (run_at c k s at)
unfolding run_at
run_within c zero s at = (omega arith, omega arith)
run_within c (suc k) s at =
    let h = run_within c k s (at + 1) in
    either (Within (suc k) at) (ltb at (length s) && is_in c (get_or s at 0)) (run_at c k s (at + 1)) at (omega arith, omega arith) (omega arith, omega arith)

words_within : (k : ℕ) (m : Bool) (s : List ℕ) (at : ℕ) → Within k at (words_at k m s at).next
unfolding words_at
words_within zero m s at = (omega arith, omega arith)
words_within (suc k) m s at =
    let P : Scan → Type 0 = λ q. Within (suc k) at q.next in
    let x : ℕ = get_or s at 0 in
    let r : Scan = words_at k true s (at + 1) in
    let q : Scan = words_at k false s (at + 1) in
    let stop : Scan = record { next = at; ok = m } in
    let blank : Bool = ltb at (length s) && (m && is_in (Byte 32) x) && ltb 0 k in
    let h = words_within k true s (at + 1) in
    let l = words_within k false s (at + 1) in
    either P (ltb at (length s) && is_in Word x) r (cond blank q stop) (omega arith, omega arith) (either P blank q stop (omega arith, omega arith) (omega arith, omega arith))

scan_within : (g : G) (s : List ℕ) (r : Scan) → Within (longest g) r.next (scan g s r).next
unfolding longest run_scan words_scan
scan_within eps s r = (omega arith, omega arith)
scan_within (run c lo hi) s r = either (λ (q : Scan). Within hi r.next q.next) r.ok _ r (run_within c hi s r.next) (omega arith, omega arith)
scan_within (words k) s r = either (λ (q : Scan). Within k r.next q.next) r.ok _ r (words_within k false s r.next) (omega arith, omega arith)
scan_within (seq a b) s r =
    let h = scan_within a s r in
    let l = scan_within b s (scan a s r) in
    (omega arith, omega arith)
scan_within (alt a b) s r =
    let P : Scan → Type 0 = λ q. Within (max (longest a) (longest b)) r.next q.next in
    let h = scan_within a s r in
    let l = scan_within b s r in
    rw longer_is (either P (leads (scan a s r) (scan b s r)) (scan a s r) (scan b s r) (omega arith, omega arith) (omega arith, omega arith))
scan_within (part n g) s r = scan_within g s r
scan_within (field ns g) s r = scan_within g s r

pub scan_forth : (g : G) (s : List ℕ) (r : Scan) → r.next ≤ (scan g s r).next
scan_forth g s r = (scan_within g s r).0

-- the same of what a function returned
pub forth : (g : G) (s : List ℕ) (r q : Scan) → q ≡ scan g s r → r.next ≤ q.next
forth g s r q e = rw e (scan_forth g s r)

pub scan_short : (g : G) (s : List ℕ) (r : Scan) → (scan g s r).next ≤ r.next + longest g
scan_short g s r = (scan_within g s r).1

-- 32 bits hold the parts of a text that is not too long
pub spot_same : (n : ℕ) (g : G) (s : List ℕ) (r : Scan) → r.next + longest g < 65536 → spot n g s r ≡ span_of n g s r
unfolding longest span_by between between16
spot_same n eps s r h = refl
spot_same n (run c lo hi) s r h = refl
spot_same n (words k) s r h = refl
spot_same n (seq a b) s r h = rw (spot_same n a s r (omega arith), spot_same n b s (scan a s r) (omega (arith, scan_short a s r)))
spot_same n (alt a b) s r h = rw (spot_same n a s r (omega arith), spot_same n b s r (omega arith))
spot_same n (part m g) s r h =
    let q : Scan = scan g s r in
    let l = scan_short g s r in
    let a : r.next % 65536 ≡ r.next = omega arith in
    let b : (q.next - r.next) % 65536 ≡ q.next - r.next = omega arith in
    ap (λ (p : Span). cond (eqb n m) (cond q.ok p none) none) (λ i. span (a i) (b i))
spot_same n (field ns g) s r h = rw (spot_same n g s r h)

-- what lies between two scans is absent where the second is not whole
pub between_off : (r q : Scan) → q.ok ≡ false → none ≡ between16 r q
unfolding between16
between_off r q o = rw o

-- where the scan before is not whole, no part is there
pub spot_stays : (n : ℕ) (g : G) (s : List ℕ) (r : Scan) → r.ok ≡ false → spot n g s r ≡ none
unfolding span_by between16
spot_stays n eps s r e = refl
spot_stays n (run c lo hi) s r e = refl
spot_stays n (words k) s r e = refl
spot_stays n (seq a b) s r e = either (λ (p : Span). p ≡ none) (occurs n a) _ _ (spot_stays n a s r e) (rw (skip a s r e) (spot_stays n b s r e))
spot_stays n (alt a b) s r e = either (λ (p : Span). p ≡ none) (leads (scan a s r) (scan b s r)) _ _ (spot_stays n a s r e) (spot_stays n b s r e)
spot_stays n (part m g) s r e = rw (skip g s r e, e) (either (λ (p : Span). p ≡ none) (eqb n m) none none refl refl)
spot_stays n (field ns g) s r e = either (λ (p : Span). p ≡ none) (among n ns) _ _ (spot_stays n g s r e) refl

-- A TEXT IS JUDGED BY A BOUNDED BEGINNING

-- the statement leaves no choice
pub refusal_one : (g : G) (s : List ℕ) (m n : ℕ) → Refusal g s m → Refusal g s n → m ≡ n
refusal_one g s m n p q = omega (arith, p.longest n q.within q.viable, q.longest m p.within p.viable)

pub short_whole : (g : G) (s : List ℕ) → Derives g (take (suc (longest g)) s) → take (suc (longest g)) s ≡ s
short_whole g s d = take_all (suc (longest g)) s (omega (arith, derives_short g (take (suc (longest g)) s) d, length-take (suc (longest g)) s))

pub short_refusal : (g : G) (s : List ℕ) (n : ℕ) → Refusal g (take (suc (longest g)) s) n → Refusal g s n
short_refusal g s n p =
    let k : ℕ = suc (longest g) in
    let l = length-take k s in
    let h = p.within in
    record {
      never = λ d. p.never (rw (take_all k s (omega (arith, derives_short g s d))) d);
      within = omega arith;
      viable = rw (take-take n k s (omega arith)) at p.viable;
      longest = λ m j v.
          let i : m ≤ longest g = omega (arith, derives_short g (take m s ++ v.0) v.1, length-append (take m s) v.0, length-take-le m s j) in
          p.longest m (omega arith) (rw (take-take m k s (omega arith)) v);
    }

-- what the scanner says of a text that it refuses
pub refused : (g : G) → good g ≡ true → (s : List ℕ) → (Derives g s → ⊥) → Refusal g s (scan_at g s 0).next
refused g e s n = let p = place g e s in record { never = n; within = p.within; viable = p.viable; longest = p.longest }
