-- Which arm of an alternative need not be run. Where two grammars differ within their first k bytes and one has gone on k
-- bytes, the other has not. An arm that is behind, or not whole and not ahead, is not taken.
use Rattle.std.specs.Prelude.{◌≡◌, refl, ◌⊎◌, Bool, ◌&&◌, ◌||◌, ℕ, zero, suc, ◌+◌, ◌-◌, ◌≤◌, ◌<◌, length, get_or, take, ltb}
use Rattle.std.proofs.Common.{sym, ap, ◌∙◌, subst, inl, inr}
use Rattle.std.proofs.Math.Logic.{⊎_elim}
use Rattle.std.proofs.Math.Bool.{true, false, cond}
use Rattle.std.proofs.lemmas.Bool.{false≢true}
use mathlib.Core.List.{List, [], ◌∷◌, ◌++◌, head-eq_of_cons-eq, tail-eq_of_cons-eq}
use native.Mathlib.Omega.{arith}
use Rattle.std.proofs.Math.Dec.{leb}
use borrow.Author.Tests.{lt-ltb, le-ltb, le-leb, leb-true, ltb-true, ltb-false}
use Rattle.scan.specs.Bools.{and_l, and_r, both, or_split, or_l, or_r, neither, known}
use Rattle.scan.specs.declared.Scan.{Scan}
use Rattle.scan.specs.declared.Class.{Class}
use Rattle.scan.specs.declared.Class.TheVariants.{Word, Byte}
use Rattle.scan.specs.Grammar.{Ranges, has, ranges, is_in, G, eps, run, words, seq, alt, part, field}
use Rattle.scan.specs.Texts.{one, byte, lit}
use Rattle.scan.specs.Scanner.{run_at, run_scan, words_at, words_scan, leads, scan, from, scan_at, span_by, spot}
use Rattle.scan.specs.Tests.{good, heads, differ, apart, bytes, longest, fixed, clear}
use Rattle.scan.specs.Theory.{apart_off, right, skip, ok_before}
use Rattle.scan.specs.Parts.{Fits, heads_sound, longer_is}
use Rattle.scan.specs.Bounds.{scan_forth, scan_short}
use Rattle.scan.specs.Laws.{run_forth}

-- two grammars find the same from r
abbrev pub Same : G → G → List ℕ → Scan → Type 0
Same a b s r = (scan a s r ≡ scan b s r) × ((n : ℕ) → spot n a s r ≡ spot n b s r)

pub same_trans : (a b c : G) (s : List ℕ) (r : Scan) → Same a b s r → Same b c s r → Same a c s r
same_trans a b c s r p q = (p.0 ∙ q.0, λ n. p.1 n ∙ q.1 n)

-- WHAT THE LONGER OF TWO IS

module _ (p q : Scan) where
  before : q.next < p.next → leads p q ≡ true
  unfolding leads
  before h = rw (le-ltb p.next q.next (omega arith), lt-ltb q.next p.next h)

  after : p.next < q.next → leads p q ≡ false
  unfolding leads
  after h = rw (lt-ltb p.next q.next h)

  level : p.ok ≡ true → q.next ≤ p.next → p.next ≤ q.next → leads p q ≡ true
  unfolding leads
  level o h l = rw (le-ltb p.next q.next h, le-ltb q.next p.next l, o)

  beside : p.ok ≡ false → p.next ≤ q.next → leads p q ≡ false
  unfolding leads
  beside o h = go (known (ltb p.next q.next))
    where
      go : (ltb p.next q.next ≡ true) ⊎ (ltb p.next q.next ≡ false) → cond (ltb p.next q.next) false (cond (ltb q.next p.next) true p.ok) ≡ false
      go (inl e) = rw e
      go (inr e) = rw (e, le-ltb q.next p.next h, o)

module _ (a b : G) (s : List ℕ) (r : Scan) where
  leads_same : leads (scan a s r) (scan b s r) ≡ true → Same (alt a b) a s r
  unfolding span_by
  leads_same e = (longer_is _ _ ∙ rw e, λ n. rw e)

  trails_same : leads (scan a s r) (scan b s r) ≡ false → Same (alt a b) b s r
  unfolding span_by
  trails_same e = (longer_is _ _ ∙ rw e, λ n. rw e)

  -- the first is ahead
  pub ahead : (scan b s r).next < (scan a s r).next → Same (alt a b) a s r
  ahead h = leads_same (before _ _ h)

  -- the first is behind
  pub behind : (scan a s r).next < (scan b s r).next → Same (alt a b) b s r
  behind h = trails_same (after _ _ h)

  -- the first is not whole and not ahead
  pub beaten : (scan a s r).ok ≡ false → (scan a s r).next ≤ (scan b s r).next → Same (alt a b) b s r
  beaten o h = trails_same (beside _ _ o h)

  -- the first is whole and not behind
  pub unbeaten : (scan a s r).ok ≡ true → (scan b s r).next ≤ (scan a s r).next → Same (alt a b) a s r
  unbeaten o h = leads_same (go (known (ltb (scan b s r).next (scan a s r).next)))
    where
      p : Scan
      p = scan a s r

      q : Scan
      q = scan b s r

      go : (ltb q.next p.next ≡ true) ⊎ (ltb q.next p.next ≡ false) → leads p q ≡ true
      go (inl e) = before p q (ltb-true _ _ e)
      go (inr e) = let l : p.next ≤ q.next = ltb-false _ _ e in level p q o h l

-- WHICH GRAMMARS DIFFER WITHIN k BYTES

unfoldable pub sunder_leaf : ℕ → G → G → Bool
sunder_leaf k (alt x y) b = sunder_leaf k x b && sunder_leaf k y b
sunder_leaf k eps b = differ (take k (heads eps)) (take k (heads b))
sunder_leaf k (run c lo hi) b = differ (take k (heads (run c lo hi))) (take k (heads b))
sunder_leaf k (words m) b = differ (take k (heads (words m))) (take k (heads b))
sunder_leaf k (seq x y) b = differ (take k (heads (seq x y))) (take k (heads b))
sunder_leaf k (part n g) b = sunder_leaf k g b
sunder_leaf k (field ns g) b = sunder_leaf k g b

unfoldable pub sunder : ℕ → G → G → Bool
sunder k a (alt x y) = sunder k a x && sunder k a y
sunder k a eps = sunder_leaf k a eps
sunder k a (run c lo hi) = sunder_leaf k a (run c lo hi)
sunder k a (words m) = sunder_leaf k a (words m)
sunder k a (seq x y) = sunder_leaf k a (seq x y)
sunder k a (part n g) = sunder k a g
sunder k a (field ns g) = sunder k a g

clash : (k : ℕ) (c d : List Ranges) (p q u v w z : List ℕ) → differ (take k c) (take k d) ≡ true → p ++ q ≡ u ++ v → k ≤ length p → k ≤ length u → Fits c (p ++ w) → Fits d (u ++ z) → ⊥
unfolding differ
clash zero c d p q u v w z e h i j f g = false≢true e
clash (suc k) [] d p q u v w z e h i j f g = false≢true e
clash (suc k) (r ∷ c) [] p q u v w z e h i j f g = false≢true e
clash (suc k) (r ∷ c) (t ∷ d) [] q u v w z e h i j f g = absurd (omega arith)
clash (suc k) (r ∷ c) (t ∷ d) (x ∷ p) q [] v w z e h i j f g = absurd (omega arith)
clash (suc k) (r ∷ c) (t ∷ d) (x ∷ p) q (y ∷ u) v w z e h i j f g =
    ⊎_elim
    (λ l. apart_off r t x l f.0 (rw (head-eq_of_cons-eq h) g.0))
    (λ l. clash k c d p q u v w z l (tail-eq_of_cons-eq h) (omega arith) (omega arith) f.1 g.1)
    (or_split (apart r t) (differ (take k c) (take k d)) e)

module _ (k : ℕ) (s : List ℕ) (at : ℕ) where
  abbrev Far : G → Type 0
  Far g = at + k ≤ (scan_at g s at).next

  apart_leaf : (a b : G) → good a ≡ true → good b ≡ true → differ (take k (heads a)) (take k (heads b)) ≡ true → Far a → Far b → ⊥
  apart_leaf a b ga gb e x y =
      let α = right a ga s at in
      let β = right b gb s at in
      clash k (heads a) (heads b) α.p α.q β.p β.q α.best.viable.0 β.best.viable.0 e (sym α.cuts ∙ β.cuts) (omega (arith, α.next)) (omega (arith, β.next)) (heads_sound a _ α.best.viable.1) (heads_sound b _ β.best.viable.1)

  far_split : (a b : G) → Far (alt a b) → Far a ⊎ Far b
  far_split a b h = go (leads (scan_at a s at) (scan_at b s at)) (rw longer_is at h)
    where
      go : (l : Bool) → at + k ≤ (cond l (scan_at a s at) (scan_at b s at)).next → Far a ⊎ Far b
      go true f = inl f
      go false f = inr f

  sunder_leaf_lem : (a b : G) → good a ≡ true → good b ≡ true → sunder_leaf k a b ≡ true → Far a → Far b → ⊥
  unfolding sunder_leaf good
  sunder_leaf_lem eps b ga gb e x y = apart_leaf eps b ga gb e x y
  sunder_leaf_lem (run c lo hi) b ga gb e x y = apart_leaf (run c lo hi) b ga gb e x y
  sunder_leaf_lem (words m) b ga gb e x y = apart_leaf (words m) b ga gb e x y
  sunder_leaf_lem (seq p q) b ga gb e x y = apart_leaf (seq p q) b ga gb e x y
  sunder_leaf_lem (alt p q) b ga gb e x y =
      ⊎_elim
      (λ l. sunder_leaf_lem p b (and_l (good p) (good q) ga) gb (and_l (sunder_leaf k p b) (sunder_leaf k q b) e) l y)
      (λ l. sunder_leaf_lem q b (and_r (good p) (good q) ga) gb (and_r (sunder_leaf k p b) (sunder_leaf k q b) e) l y)
      (far_split p q x)
  sunder_leaf_lem (part n g) b ga gb e x y = sunder_leaf_lem g b ga gb e x y
  sunder_leaf_lem (field ns g) b ga gb e x y = sunder_leaf_lem g b ga gb e x y

  sunder_far : (a b : G) → good a ≡ true → good b ≡ true → sunder k a b ≡ true → Far a → Far b → ⊥
  unfolding sunder good
  sunder_far a eps ga gb e x y = sunder_leaf_lem a eps ga gb e x y
  sunder_far a (run c lo hi) ga gb e x y = sunder_leaf_lem a (run c lo hi) ga gb e x y
  sunder_far a (words m) ga gb e x y = sunder_leaf_lem a (words m) ga gb e x y
  sunder_far a (seq p q) ga gb e x y = sunder_leaf_lem a (seq p q) ga gb e x y
  sunder_far a (alt p q) ga gb e x y =
      ⊎_elim
      (sunder_far a p ga (and_l (good p) (good q) gb) (and_l (sunder k a p) (sunder k a q) e) x)
      (sunder_far a q ga (and_r (good p) (good q) gb) (and_r (sunder k a p) (sunder k a q) e) x)
      (far_split p q y)
  sunder_far a (part n g) ga gb e x y = sunder_far a g ga gb e x y
  sunder_far a (field ns g) ga gb e x y = sunder_far a g ga gb e x y

-- only a whole scan goes on
moved : (k : ℕ) (g : G) (s : List ℕ) (r : Scan) → 0 < k → r.next + k ≤ (scan g s r).next → r.ok ≡ true
moved k g s r z h = go (known r.ok)
  where
    go : (r.ok ≡ true) ⊎ (r.ok ≡ false) → r.ok ≡ true
    go (inl o) = o
    go (inr o) = absurd (omega (arith, ap (λ (x : Scan). x.next) (skip g s r o)))

-- THE LAW: a has gone on k bytes, so b has not
pub outrun : (k : ℕ) (a b : G) → good a ≡ true → good b ≡ true → sunder k a b ≡ true → 0 < k → (s : List ℕ) (r : Scan) → r.next + k ≤ (scan a s r).next → (scan b s r).next < r.next + k
outrun k a b ga gb e z s r h =
    let o = moved k a s r z h in
    let w : r ≡ from r.next = λ i. record { next = r.next; ok = o i } in
    let f : r.next + k ≤ (scan_at a s r.next).next = subst (λ (x : Scan). r.next + k ≤ (scan a s x).next) w h in
    let l : (scan_at b s r.next).next < r.next + k = go f (known (ltb (scan_at b s r.next).next (r.next + k))) in
    subst (λ (x : Scan). (scan b s x).next < r.next + k) (sym w) l
  where
    go : r.next + k ≤ (scan_at a s r.next).next → (ltb (scan_at b s r.next).next (r.next + k) ≡ true) ⊎ (ltb (scan_at b s r.next).next (r.next + k) ≡ false) → (scan_at b s r.next).next < r.next + k
    go f (inl t) = ltb-true _ _ t
    go f (inr t) = absurd (sunder_far k s r.next a b ga gb e f (ltb-false _ _ t))

pub picked : (k : ℕ) (a b : G) → good a ≡ true → good b ≡ true → sunder k a b ≡ true → 0 < k → (s : List ℕ) (r : Scan) → r.next + k ≤ (scan a s r).next → Same (alt a b) a s r
picked k a b ga gb e z s r h = ahead a b s r (omega (arith, outrun k a b ga gb e z s r h))

-- WHAT A GRAMMAR BEGINS WITH

pub data Begins : G → G → Type 0 where
  it : {h : G} → Begins h h
  in_seq : {h a b : G} → Begins h a → Begins h (seq a b)
  then : {h a b : G} → Begins h b → Begins (seq a h) (seq a b)
  in_part : {h : G} {n : ℕ} {g : G} → Begins h g → Begins h (part n g)
  in_field : {h : G} {ns : List ℕ} {g : G} → Begins h g → Begins h (field ns g)

begins_forth : {h g : G} → Begins h g → (s : List ℕ) (r : Scan) → (scan h s r).next ≤ (scan g s r).next
begins_forth it s r = omega arith
begins_forth (in_seq {h} {a} {b} l) s r = omega (arith, begins_forth l s r, scan_forth b s (scan a s r))
begins_forth (then {h} {a} {b} l) s r = begins_forth l s (scan a s r)
begins_forth (in_part l) s r = begins_forth l s r
begins_forth (in_field l) s r = begins_forth l s r

-- where the beginning is not whole, nothing goes on
pub begins_stays : {h g : G} → Begins h g → (s : List ℕ) (r : Scan) → (scan h s r).ok ≡ false → scan g s r ≡ scan h s r
begins_stays it s r e = refl
begins_stays (in_seq {h} {a} {b} l) s r e = ap (scan b s) (begins_stays l s r e) ∙ skip b s (scan h s r) e
begins_stays (then {h} {a} {b} l) s r e = begins_stays l s (scan a s r) e
begins_stays (in_part l) s r e = begins_stays l s r e
begins_stays (in_field l) s r e = begins_stays l s r e

-- the beginning h of a has gone on k bytes
pub chosen : (k : ℕ) (h a b : G) → Begins h a → good a ≡ true → good b ≡ true → sunder k a b ≡ true → 0 < k → (s : List ℕ) (r : Scan) → r.next + k ≤ (scan h s r).next → Same (alt a b) a s r
chosen k h a b l ga gb e z s r f = picked k a b ga gb e z s r (omega (arith, begins_forth l s r))

-- the beginning h of a is not whole, and b has gone as far
pub given_up : (h a b : G) → Begins h a → (s : List ℕ) (r : Scan) → (scan h s r).ok ≡ false → (scan h s r).next ≤ (scan b s r).next → Same (alt a b) b s r
given_up h a b l s r e f =
    let q = begins_stays l s r e in
    beaten a b s r (ap (λ (x : Scan). x.ok) q ∙ e) (rw q f)

-- one byte
module _ (c : Class) (s : List ℕ) (r : Scan) where
  abbrev stood : Scan
  stood = record { next = r.next; ok = false }

  abbrev went : Scan
  went = from (r.next + 1)

  data Tried : Type 0 where
    held_up : r.ok ≡ false → scan (one c) s r ≡ r → Tried
    passed : r.ok ≡ true → scan (one c) s r ≡ went → Tried
    missed : r.ok ≡ true → ltb r.next (length s) && is_in c (get_or s r.next 0) ≡ false → scan (one c) s r ≡ stood → Tried

  tried : Tried
  unfolding run_scan run_at
  tried = go (known r.ok) (known (ltb r.next (length s) && is_in c (get_or s r.next 0)))
    where
      go : (r.ok ≡ true) ⊎ (r.ok ≡ false) → (ltb r.next (length s) && is_in c (get_or s r.next 0) ≡ true) ⊎ (ltb r.next (length s) && is_in c (get_or s r.next 0) ≡ false) → Tried
      go (inr o) h = held_up o (skip (one c) s r o)
      go (inl o) (inl h) = let z : leb 1 (r.next + 1 - r.next) ≡ true = le-leb 1 (r.next + 1 - r.next) (omega arith) in passed o (rw (o, h, z))
      go (inl o) (inr h) = let z : r.next - r.next ≡ 0 = omega arith in missed o h (rw (o, h, z))

  pub one_passed : (scan (one c) s r).ok ≡ true → (r.ok ≡ true) × ((scan (one c) s r).next ≡ r.next + 1)
  one_passed e = go tried
    where
      go : Tried → (r.ok ≡ true) × ((scan (one c) s r).next ≡ r.next + 1)
      go (held_up o h) = absurd (false≢true (sym o ∙ ap (λ (x : Scan). x.ok) (sym h) ∙ e))
      go (passed o h) = (o, ap (λ (x : Scan). x.next) h)
      go (missed o m h) = absurd (false≢true (ap (λ (x : Scan). x.ok) (sym h) ∙ e))

  pub one_off : r.ok ≡ true → (scan (one c) s r).ok ≡ false → ltb r.next (length s) && is_in c (get_or s r.next 0) ≡ false
  one_off o e = go tried
    where
      go : Tried → ltb r.next (length s) && is_in c (get_or s r.next 0) ≡ false
      go (held_up n h) = absurd (false≢true (sym n ∙ o))
      go (passed n h) = absurd (false≢true (sym e ∙ ap (λ (x : Scan). x.ok) h))
      go (missed n m h) = m

  pub one_missed : (scan (one c) s r).ok ≡ false → (scan (one c) s r).next ≡ r.next
  one_missed e = go tried
    where
      go : Tried → (scan (one c) s r).next ≡ r.next
      go (held_up o h) = ap (λ (x : Scan). x.next) h
      go (passed o h) = absurd (false≢true (sym e ∙ ap (λ (x : Scan). x.ok) h))
      go (missed o m h) = ap (λ (x : Scan). x.next) h

  -- the first arm begins with a byte of the class, and the byte is there
  pub by_byte : (a b : G) → Begins (one c) a → good a ≡ true → good b ≡ true → sunder 1 a b ≡ true → (scan (one c) s r).ok ≡ true → Same (alt a b) a s r
  by_byte a b l ga gb e o = chosen 1 (one c) a b l ga gb e (omega arith) s r (omega (arith, (one_passed o).1))

  -- or is not
  pub not_byte : (a b : G) → Begins (one c) a → (scan (one c) s r).ok ≡ false → Same (alt a b) b s r
  not_byte a b l o = given_up (one c) a b l s r o (omega (arith, one_missed o, scan_forth b s r))

-- runs of one length
pub run_passed : (c : Class) (k : ℕ) (s : List ℕ) (r : Scan) → (scan (run c k k) s r).ok ≡ true → (r.ok ≡ true) × ((scan (run c k k) s r).next ≡ r.next + k)
unfolding run_scan longest
run_passed c k s r e =
    let o = ok_before (run c k k) s r (scan (run c k k) s r) refl e in
    let i : ℕ = run_at c k s r.next in
    let f : leb k (i - r.next) ≡ true = rw o at e in
    let l : i ≤ r.next + k = rw o at (scan_short (run c k k) s r) in
    (o, rw o (omega (arith, leb-true k (i - r.next) f, run_forth c k s r.next)))

run_more : (c : Class) (k n : ℕ) (s : List ℕ) (at : ℕ) → k ≤ n → run_at c k s at ≤ run_at c n s at
unfolding run_at
run_more c zero n s at h = run_forth c n s at
run_more c (suc k) zero s at h = absurd (omega arith)
run_more c (suc k) (suc n) s at h = go (ltb at (length s) && is_in c (get_or s at 0)) (run_more c k n s (at + 1) (omega arith))
  where
    go : (b : Bool) → run_at c k s (at + 1) ≤ run_at c n s (at + 1) → cond b (run_at c k s (at + 1)) at ≤ cond b (run_at c n s (at + 1)) at
    go true l = l
    go false l = omega arith

-- a run that may be longer goes as far
pub run_longer : (c : Class) (lo k lo' n : ℕ) (s : List ℕ) (r : Scan) → k ≤ n → (scan (run c lo k) s r).next ≤ (scan (run c lo' n) s r).next
unfolding run_scan
run_longer c lo k lo' n s r h = go r.ok
  where
    go : (o : Bool) → (cond o (record { next = run_at c k s r.next; ok = leb lo (run_at c k s r.next - r.next) }) r).next ≤ (cond o (record { next = run_at c n s r.next; ok = leb lo' (run_at c n s r.next - r.next) }) r).next
    go true = run_more c k n s r.next h
    go false = omega arith

pub lit_passed : (w s : List ℕ) (r : Scan) → (scan (lit w) s r).ok ≡ true → r.ok ≡ true → (scan (lit w) s r).next ≡ r.next + length w
lit_passed [] s r e o = omega arith
lit_passed (b ∷ w) s r e o =
    let q : Scan = scan (byte b) s r in
    let p : q.ok ≡ true = ok_before (lit w) s q (scan (lit w) s q) refl e in
    let n = one_passed (Byte b) s r p in
    omega (arith, lit_passed w s q e p, n.1)

-- HOW FAR BYTES OF NO USE LET A SCAN GO

either : {A : Type 0} (P : A → Type 0) (c : Bool) (x y : A) → (c ≡ true → P x) → P y → P (cond c x y)
either P true x y p q = p refl
either P false x y p q = q

has_none : (c d : Ranges) (x : ℕ) → has (c ++ d) x ≡ false → (has c x ≡ false) × (has d x ≡ false)
has_none [] d x e = (refl, e)
has_none (r ∷ c) d x e =
    let n = neither (has (c ++ d) x) (leb r.0 x && leb x r.1) e in
    let m = has_none c d x n.0 in
    (rw (m.0, n.1), m.1)

-- a byte of these stands at a place
abbrev there : Ranges → List ℕ → ℕ → Bool
there c s p = ltb p (length s) && has c (get_or s p 0)

there_none : (c d : Ranges) (s : List ℕ) (p : ℕ) → there (c ++ d) s p ≡ false → (there c s p ≡ false) × (there d s p ≡ false)
there_none c d s p e = go (ltb p (length s)) e
  where
    go : (b : Bool) → b && has (c ++ d) (get_or s p 0) ≡ false → (b && has c (get_or s p 0) ≡ false) × (b && has d (get_or s p 0) ≡ false)
    go true f = has_none c d (get_or s p 0) f
    go false f = (refl, refl)

stepped : (c : Ranges) (s : List ℕ) (at p : ℕ) → there c s p ≡ false → there c s at ≡ true → at ≤ p → at + 1 ≤ p
stepped c s at p e t h = go (known (ltb at p))
  where
    go : (ltb at p ≡ true) ⊎ (ltb at p ≡ false) → at + 1 ≤ p
    go (inl l) = omega (arith, ltb-true at p l)
    go (inr l) =
        let n : p ≡ at = omega (arith, ltb-false at p l) in
        absurd (false≢true (sym e ∙ ap (there c s) n ∙ t))

run_halts : (c : Class) (k : ℕ) (s : List ℕ) (at p : ℕ) → there (ranges c) s p ≡ false → at ≤ p → run_at c k s at ≤ p
unfolding run_at
run_halts c zero s at p e h = h
run_halts c (suc k) s at p e h =
    either (λ (i : ℕ). i ≤ p) (there (ranges c) s at) (run_at c k s (at + 1)) at
    (λ t. run_halts c k s (at + 1) p e (stepped (ranges c) s at p e t h))
    h

words_halts : (k : ℕ) (m : Bool) (s : List ℕ) (at p : ℕ) → there ((32, 32) ∷ ranges Word) s p ≡ false → at ≤ p → (words_at k m s at).next ≤ p
unfolding words_at
words_halts zero m s at p e h = h
words_halts (suc k) m s at p e h =
    either (λ (q : Scan). q.next ≤ p) (ltb at (length s) && is_in Word x) (words_at k true s (at + 1)) _
    (λ t. words_halts k true s (at + 1) p e (on (and_l (ltb at (length s)) (is_in Word x) t) (or_l (is_in Word x) (leb 32 x && leb x 32) (and_r (ltb at (length s)) (is_in Word x) t))))
    (either (λ (q : Scan). q.next ≤ p) (ltb at (length s) && (m && is_in (Byte 32) x) && ltb 0 k) (words_at k false s (at + 1)) (record { next = at; ok = m })
    (λ t.
    let u = and_l (ltb at (length s) && (m && is_in (Byte 32) x)) (ltb 0 k) t in
    words_halts k false s (at + 1) p e (on (and_l (ltb at (length s)) (m && is_in (Byte 32) x) u) (or_r (is_in Word x) (leb 32 x && leb x 32) (and_r m (is_in (Byte 32) x) (and_r (ltb at (length s)) (m && is_in (Byte 32) x) u)))))
    h)
  where
    x : ℕ
    x = get_or s at 0

    on : ltb at (length s) ≡ true → has ((32, 32) ∷ ranges Word) x ≡ true → at + 1 ≤ p
    on l w = stepped ((32, 32) ∷ ranges Word) s at p e (both (ltb at (length s)) (has ((32, 32) ∷ ranges Word) x) l w) h

-- a scan goes no further than a place that has no byte of its grammar
pub halts : (g : G) (s : List ℕ) (r : Scan) (p : ℕ) → there (bytes g) s p ≡ false → r.next ≤ p → (scan g s r).next ≤ p
unfolding bytes run_scan words_scan
halts eps s r p e h = h
halts (run c lo hi) s r p e h = either (λ (q : Scan). q.next ≤ p) r.ok _ r (λ _. run_halts c hi s r.next p e h) h
halts (words k) s r p e h = either (λ (q : Scan). q.next ≤ p) r.ok _ r (λ _. words_halts k false s r.next p e h) h
halts (seq a b) s r p e h = let n = there_none (bytes a) (bytes b) s p e in halts b s (scan a s r) p n.1 (halts a s r p n.0 h)
halts (alt a b) s r p e h =
    let n = there_none (bytes a) (bytes b) s p e in
    rw longer_is (either (λ (q : Scan). q.next ≤ p) (leads (scan a s r) (scan b s r)) (scan a s r) (scan b s r) (λ _. halts a s r p n.0 h) (halts b s r p n.1 h))
halts (part n g) s r p e h = halts g s r p e h
halts (field ns g) s r p e h = halts g s r p e h

-- each range of the first lies in one of the second
unfoldable pub lies : ℕ × ℕ → Ranges → Bool
lies r [] = false
lies r (q ∷ d) = (leb q.0 r.0 && leb r.1 q.1) || lies r d

unfoldable pub within : Ranges → Ranges → Bool
within [] d = true
within (r ∷ c) d = lies r d && within c d

lies_has : (r : ℕ × ℕ) (d : Ranges) (x : ℕ) → lies r d ≡ true → leb r.0 x && leb x r.1 ≡ true → has d x ≡ true
unfolding lies
lies_has r [] x e f = absurd (false≢true e)
lies_has r (q ∷ d) x e f =
    ⊎_elim
    (λ l.
    let i = leb-true q.0 r.0 (and_l (leb q.0 r.0) (leb r.1 q.1) l) in
    let j = leb-true r.1 q.1 (and_r (leb q.0 r.0) (leb r.1 q.1) l) in
    let m = leb-true r.0 x (and_l (leb r.0 x) (leb x r.1) f) in
    let n = leb-true x r.1 (and_r (leb r.0 x) (leb x r.1) f) in
    or_r (has d x) (leb q.0 x && leb x q.1) (both (leb q.0 x) (leb x q.1) (le-leb q.0 x (omega arith)) (le-leb x q.1 (omega arith))))
    (λ l. or_l (has d x) (leb q.0 x && leb x q.1) (lies_has r d x l f))
    (or_split (leb q.0 r.0 && leb r.1 q.1) (lies r d) e)

within_has : (c d : Ranges) (x : ℕ) → within c d ≡ true → has c x ≡ true → has d x ≡ true
unfolding within
within_has [] d x e f = absurd (false≢true f)
within_has (r ∷ c) d x e f =
    ⊎_elim (within_has c d x (and_r (lies r d) (within c d) e)) (lies_has r d x (and_l (lies r d) (within c d) e)) (or_split (has c x) (leb r.0 x && leb x r.1) f)

-- after a whole x no byte of the class stands: a grammar of such bytes only goes no further
pub stops : (c : Class) (x b : G) → within (bytes b) (ranges c) ≡ true → (s : List ℕ) (r : Scan) → (scan x s r).ok ≡ true → (scan (one c) s (scan x s r)).ok ≡ false → (scan b s r).next ≤ (scan x s r).next
stops c x b w s r o e =
    let q : Scan = scan x s r in
    halts b s r q.next (fewer q.next (known (there (bytes b) s q.next)) (one_off c s q o e)) (scan_forth x s r)
  where
    fewer : (p : ℕ) → (there (bytes b) s p ≡ true) ⊎ (there (bytes b) s p ≡ false) → there (ranges c) s p ≡ false → there (bytes b) s p ≡ false
    fewer p (inr f) g = f
    fewer p (inl f) g =
        absurd (false≢true (sym g ∙ both (ltb p (length s)) (has (ranges c) (get_or s p 0)) (and_l (ltb p (length s)) (has (bytes b) (get_or s p 0)) f) (within_has (bytes b) (ranges c) (get_or s p 0) w (and_r (ltb p (length s)) (has (bytes b) (get_or s p 0)) f))))

-- what a function returned is whole, or not, as the scan that it is
pub so : (q p : Scan) (b : Bool) → q ≡ p → q.ok ≡ b → p.ok ≡ b
so q p b e o = sym (ap (λ (x : Scan). x.ok) e) ∙ o

-- `unfolding sunderTest` opens all that `sunder` is made of
unfoldable pub sunder_test : Unit {0}
unfolding sunder sunder_leaf differ heads fixed apart clear
sunder_test = tt
