-- A text of a plain grammar has one reading, and the scanner finds its parts.
use Rattle.std.specs.Prelude.{◌≡◌, refl, ◌⊎◌, true, false, cond, not, ◌&&◌, List, [], ◌∷◌, ◌++◌, ℕ, zero, suc, ◌+◌, ◌-◌, ◌≤◌, length, take, drop, replicate, ltb, eqb}
use Rattle.std.proofs.Common.{sym, ap, ◌∙◌, subst, inl, inr, ⊎_elim, append_assoc, append-nil, arith, length-append, drop-drop, take-add, ltb-false, leb-true, eqb-true}
use Rattle.std.proofs.lemmas.Bool.{false≢true, not-true}
use Rattle.std.proofs.lemmas.List.{length-replicate}
use Rattle.std.proofs.Math.Seq.{take-append_seam}
use Rattle.scan.specs.Bools.{and_l, and_r, or_split, or_l, or_r, neither, known}
use Rattle.scan.specs.declared.Scan.{Scan}
use Rattle.scan.specs.declared.Class.{Class}
use Rattle.scan.specs.Grammar.{Span, place_of, size_of, Ranges, has, ranges, is_in, all, text, G, eps, run, words, seq, alt, part, field, Derives, Part, placed, Reads, none, look}
use Rattle.scan.specs.Scanner.{longer, leads, scan, from, scan_at, among, occurs, between, span_by, span_of}
use Rattle.scan.specs.Tests.{first, apart, follow, good, fixed, heads, differ, off_leaf, off, names, strange, covers, plain}
use Rattle.scan.specs.Theory.{apart_off, Cut, same, over, under, cut, Parted, null_sound, first_sound, good_a, good_b, parted_of, right, part_of, ok_before}

-- A text has a reading exactly where it is derived

pub reads_derives : (g : G) (at : ℕ) (w : List ℕ) (ps : List Part) → Reads g at w ps → Derives g w
reads_derives eps at w ps r = r.0
reads_derives (run c lo hi) at w ps r = r.0
reads_derives (words k) at w ps r = r.0
reads_derives (seq a b) at w ps r = (r.0, r.1, r.4, reads_derives a at r.0 r.2 r.6, reads_derives b (at + length r.0) r.1 r.3 r.7)
reads_derives (alt a b) at w ps r = ⊎_elim (λ l. inl (reads_derives a at w ps l)) (λ l. inr (reads_derives b at w ps l)) r
reads_derives (part n g) at w ps r = r.0
reads_derives (field ns g) at w ps r = reads_derives g at w ps r

-- No text is of both

-- each byte is in its set, as far as there are sets
abbrev pub Fits : List Ranges → List ℕ → Type 0
Fits [] w = Unit
Fits (r ∷ c) [] = ⊥
Fits (r ∷ c) (x ∷ w) = (has r x ≡ true) × Fits c w

-- the second sets stand where the first ones end
fits_on : (c d : List Ranges) (u v : List ℕ) → Fits c u → ((t : List ℕ) → length u ≡ length c + length t → Fits d (t ++ v)) → Fits (c ++ d) (u ++ v)
fits_on [] d u v f h = h u (omega arith)
fits_on (r ∷ c) d [] v f h = absurd f
fits_on (r ∷ c) d (x ∷ u) v f h = (f.0, fits_on c d u v f.1 (λ t e. h t (omega arith)))

fits_all : (c : Class) (n : ℕ) (w : List ℕ) → all c w ≡ true → n ≤ length w → Fits (replicate n (ranges c)) w
unfolding all
fits_all c zero w e h = tt
fits_all c (suc n) [] e h = absurd (omega arith)
fits_all c (suc n) (x ∷ w) e h = (and_l (is_in c x) (all c w) e, fits_all c n w (and_r (is_in c x) (all c w) e) (omega arith))

fits_words : (k : ℕ) (w : List ℕ) → Derives (words k) w → Fits (heads (words k)) w
unfolding heads first text
fits_words k [] d = false≢true d.0
fits_words k (x ∷ w) d = (first_sound (words k) x w d, tt)

fixed_sound : (g : G) → fixed g ≡ true → (w : List ℕ) → Derives g w → length w ≡ length (heads g)
unfolding fixed heads
fixed_sound eps e w d = ap length d
fixed_sound (run c lo hi) e w d = omega (arith, leb-true hi lo e, d.1, d.2, length-replicate lo (ranges c))
fixed_sound (words k) e w d = absurd (false≢true e)
fixed_sound (seq a b) e w d =
    let f = and_l (fixed a) (fixed b) e in
    rw f (omega (arith, ap length d.2, length-append d.0 d.1, length-append (heads a) (heads b), fixed_sound a f d.0 d.3, fixed_sound b (and_r (fixed a) (fixed b) e) d.1 d.4))
fixed_sound (alt a b) e w d = absurd (false≢true e)
fixed_sound (part n g) e w d = fixed_sound g e w d
fixed_sound (field ns g) e w d = fixed_sound g e w d

pub heads_sound : (g : G) (w : List ℕ) → Derives g w → Fits (heads g) w
unfolding heads
heads_sound eps w d = tt
heads_sound (run c lo hi) w d = fits_all c lo w d.0 d.1
heads_sound (words k) w d = fits_words k w d
heads_sound (seq a b) w d = rw d.2 (fits_on (heads a) (cond (fixed a) (heads b) []) d.0 d.1 (heads_sound a d.0 d.3) (rest (known (fixed a)) (heads_sound b d.1 d.4)))
  where
    rest : (fixed a ≡ true) ⊎ (fixed a ≡ false) → Fits (heads b) d.1 → (t : List ℕ) → length d.0 ≡ length (heads a) + length t → Fits (cond (fixed a) (heads b) []) (t ++ d.1)
    rest (inl e) f [] h = rw e f
    rest (inl e) f (x ∷ t) h = absurd (omega (arith, fixed_sound a e d.0 d.3))
    rest (inr e) f t h = rw e tt
heads_sound (alt a b) w d = tt
heads_sound (part n g) w d = heads_sound g w d
heads_sound (field ns g) w d = heads_sound g w d

differ_sound : (c d : List Ranges) → differ c d ≡ true → (w : List ℕ) → Fits c w → Fits d w → ⊥
unfolding differ
differ_sound [] d e w f h = false≢true e
differ_sound (r ∷ c) [] e w f h = false≢true e
differ_sound (r ∷ c) (q ∷ d) e [] f h = f
differ_sound (r ∷ c) (q ∷ d) e (x ∷ w) f h =
    ⊎_elim (λ l. apart_off r q x l f.0 h.0) (λ l. differ_sound c d l w f.1 h.1) (or_split (apart r q) (differ c d) e)

heads_off : (a b : G) → differ (heads a) (heads b) ≡ true → (w : List ℕ) → Derives a w → Derives b w → ⊥
heads_off a b e w x y = differ_sound (heads a) (heads b) e w (heads_sound a w x) (heads_sound b w y)

leaf_sound : (a b : G) → off_leaf a b ≡ true → (w : List ℕ) → Derives a w → Derives b w → ⊥
unfolding off_leaf
leaf_sound eps b e w x y = false≢true (rw (null_sound b (rw x at y)) at e)
leaf_sound (run c lo hi) b e w x y = heads_off (run c lo hi) b e w x y
leaf_sound (words k) b e w x y = heads_off (words k) b e w x y
leaf_sound (seq p q) b e w x y = heads_off (seq p q) b e w x y
leaf_sound (alt p q) b e w x y =
    ⊎_elim (λ l. leaf_sound p b (and_l (off_leaf p b) (off_leaf q b) e) w l y) (λ l. leaf_sound q b (and_r (off_leaf p b) (off_leaf q b) e) w l y) x
leaf_sound (part n g) b e w x y = heads_off g b e w x y
leaf_sound (field ns g) b e w x y = leaf_sound g b e w x y

pub off_sound : (a b : G) → off a b ≡ true → (w : List ℕ) → Derives a w → Derives b w → ⊥
unfolding off
off_sound a eps e w x y = leaf_sound a eps e w x y
off_sound a (run c lo hi) e w x y = leaf_sound a (run c lo hi) e w x y
off_sound a (words k) e w x y = leaf_sound a (words k) e w x y
off_sound a (seq p q) e w x y = leaf_sound a (seq p q) e w x y
off_sound a (alt p q) e w x y =
    ⊎_elim (off_sound a p (and_l (off a p) (off a q) e) w x) (off_sound a q (and_r (off a p) (off a q) e) w x) y
off_sound a (part n g) e w x y = leaf_sound a (part n g) e w x y
off_sound a (field ns g) e w x y = off_sound a g e w x y

-- ONE READING

-- where b follows a, a text is cut in one way only
one_cut : (a b : G) → good (seq a b) ≡ true → (p q u v : List ℕ) → p ++ q ≡ u ++ v → Derives a p → Derives b q → Derives a u → Derives b v → (p ≡ u) × (q ≡ v)
unfolding Parted
one_cut a b e p q u v h dp dq du dv = go (cut p q u v h)
  where
    go : Cut p q u v → (p ≡ u) × (q ≡ v)
    go (same x y) = (x, y)
    go (over y t k l) = absurd (parted_of a b e y u t (t ++ q) du (rw k at dp) (rw l at dv))
    go (under y t k l) = absurd (parted_of a b e y p t (t ++ v) dp (rw k at du) (rw l at dq))

-- a text has at most one reading
pub one_reading : (g : G) → good g ≡ true → plain g ≡ true → (at : ℕ) (w : List ℕ) (ps qs : List Part) → Reads g at w ps → Reads g at w qs → ps ≡ qs
unfolding good plain reads_derives
one_reading eps e f at w ps qs r t = r.1 ∙ sym t.1
one_reading (run c lo hi) e f at w ps qs r t = r.1 ∙ sym t.1
one_reading (words k) e f at w ps qs r t = r.1 ∙ sym t.1
one_reading (seq a b) e f at w ps qs r t =
    let x = reads_derives (seq a b) at w ps r in
    let y = reads_derives (seq a b) at w qs t in
    let c = one_cut a b e r.0 r.1 t.0 t.1 (sym r.4 ∙ t.4) x.3 x.4 y.3 y.4 in
    let i = one_reading a (good_a (good a) (good b) (apart (follow a) (first b)) e) (good_a (plain a) (plain b) (strange (names a) b) f) at t.0 r.2 t.2 (rw c.0 at r.6) t.6 in
    let j = one_reading b (good_b (good a) (good b) (apart (follow a) (first b)) e) (good_b (plain a) (plain b) (strange (names a) b) f) (at + length t.0) t.1 r.3 t.3 (rw (c.0, c.1) at r.7) t.7 in
    cc
one_reading (alt a b) e f at w ps qs r t =
    go (one_reading a (and_l (good a) (good b) e) (good_a (plain a) (plain b) (off a b) f) at w ps qs) (one_reading b (and_r (good a) (good b) e) (good_b (plain a) (plain b) (off a b) f) at w ps qs) r t
  where
    clash : (p q : List Part) → Reads a at w p → Reads b at w q → ⊥
    clash p q x y = off_sound a b (and_r (plain a && plain b) (off a b) f) w (reads_derives a at w p x) (reads_derives b at w q y)

    go : (Reads a at w ps → Reads a at w qs → ps ≡ qs) → (Reads b at w ps → Reads b at w qs → ps ≡ qs) → Reads a at w ps ⊎ Reads b at w ps → Reads a at w qs ⊎ Reads b at w qs → ps ≡ qs
    go i j (inl x) (inl y) = i x y
    go i j (inl x) (inr y) = absurd (clash ps qs x y)
    go i j (inr x) (inl y) = absurd (clash qs ps y x)
    go i j (inr x) (inr y) = j x y
one_reading (part n g) e f at w ps qs r t = r.1 ∙ sym t.1
one_reading (field ns g) e f at w ps qs r t = one_reading g e (and_l (plain g) (covers ns (names g)) f) at w ps qs r t

-- Names

pub among_on : (n : ℕ) (l m : List ℕ) → (among n l ≡ true) ⊎ (among n m ≡ true) → among n (l ++ m) ≡ true
unfolding among
among_on n [] m (inl e) = absurd (false≢true e)
among_on n [] m (inr e) = e
among_on n (k ∷ l) m (inl e) = ⊎_elim (λ h. or_l (eqb n k) (among n (l ++ m)) h) (λ h. or_r (eqb n k) (among n (l ++ m)) (among_on n l m (inl h))) (or_split (eqb n k) (among n l) e)
among_on n (k ∷ l) m (inr e) = or_r (eqb n k) (among n (l ++ m)) (among_on n l m (inr e))

-- what a grammar names is among its names
pub named : (g : G) (n : ℕ) → occurs n g ≡ true → among n (names g) ≡ true
unfolding occurs names among
named eps n o = absurd (false≢true o)
named (run c lo hi) n o = absurd (false≢true o)
named (words k) n o = absurd (false≢true o)
named (seq a b) n o = among_on n (names a) (names b) (⊎_elim (λ h. inl (named a n h)) (λ h. inr (named b n h)) (or_split (occurs n a) (occurs n b) o))
named (alt a b) n o = among_on n (names a) (names b) (⊎_elim (λ h. inl (named a n h)) (λ h. inr (named b n h)) (or_split (occurs n a) (occurs n b) o))
named (part m g) n o = or_l (eqb n m) false o
named (field ns g) n o = o

pub covers_sound : (ns ms : List ℕ) → covers ns ms ≡ true → (n : ℕ) → among n ms ≡ true → among n ns ≡ true
unfolding covers among
covers_sound ns [] e n h = absurd (false≢true h)
covers_sound ns (m ∷ ms) e n h =
    ⊎_elim (λ k. rw (eqb-true n m k) (and_l (among m ns) (covers ns ms) e)) (λ k. covers_sound ns ms (and_r (among m ns) (covers ns ms) e) n k)
    (or_split (eqb n m) (among n ms) h)

pub strange_sound : (ms : List ℕ) (g : G) → strange ms g ≡ true → (n : ℕ) → among n ms ≡ true → occurs n g ≡ false
unfolding strange among
strange_sound [] g e n h = absurd (false≢true h)
strange_sound (m ∷ ms) g e n h =
    ⊎_elim
    (λ k. rw (eqb-true n m k) (not-true (occurs m g) (and_l (not (occurs m g)) (strange ms g) e)))
    (λ k. strange_sound ms g (and_r (not (occurs m g)) (strange ms g) e) n k)
    (or_split (eqb n m) (among n ms) h)

-- what a field does not name is not inside
outside : (ns : List ℕ) (g : G) → covers ns (names g) ≡ true → (n : ℕ) → among n ns ≡ false → occurs n g ≡ false
outside ns g e n h = ⊎_elim (λ o. absurd (false≢true (sym h ∙ covers_sound ns (names g) e n (named g n o)))) (λ o. o) (known (occurs n g))

-- Where a part is not named

-- no part of that name stands before
absent : (n : ℕ) (g : G) → plain g ≡ true → (at : ℕ) (w : List ℕ) (ps qs : List Part) → occurs n g ≡ false → Reads g at w ps → look n (ps ++ qs) ≡ look n qs
unfolding occurs plain
absent n eps f at w ps qs o r = rw r.1
absent n (run c lo hi) f at w ps qs o r = rw r.1
absent n (words k) f at w ps qs o r = rw r.1
absent n (seq a b) f at w ps qs o r =
    let h = neither (occurs n a) (occurs n b) o in
    rw (r.5, append_assoc) (absent n a (good_a (plain a) (plain b) (strange (names a) b) f) at r.0 r.2 (r.3 ++ qs) h.0 r.6 ∙ absent n b (good_b (plain a) (plain b) (strange (names a) b) f) (at + length r.0) r.1 r.3 qs h.1 r.7)
absent n (alt a b) f at w ps qs o r =
    let h = neither (occurs n a) (occurs n b) o in
    ⊎_elim (absent n a (good_a (plain a) (plain b) (off a b) f) at w ps qs h.0) (absent n b (good_b (plain a) (plain b) (off a b) f) at w ps qs h.1) r
absent n (part m g) f at w ps qs o r = rw (r.1, o)
absent n (field ns g) f at w ps qs o r =
    absent n g (and_l (plain g) (covers ns (names g)) f) at w ps qs (outside ns g (and_r (plain g) (covers ns (names g)) f) n o) r

unnamed : (n : ℕ) (g : G) → plain g ≡ true → (at : ℕ) (w : List ℕ) (ps : List Part) → occurs n g ≡ false → Reads g at w ps → look n ps ≡ none
unnamed n g f at w ps o r = rw append-nil at (absent n g f at w ps [] o r)

look_front : (n : ℕ) (ps qs : List Part) → look n qs ≡ none → look n (ps ++ qs) ≡ look n ps
look_front n [] qs e = e
look_front n (p ∷ ps) qs e = rw (look_front n ps qs e)

-- WHAT THE SCANNER FINDS

-- a reading of what the scan went over, in which each part stands where the scanner finds it
pub record Found (g : G) (s : List ℕ) (at : ℕ) : Type 0 where
  pub parts : List Part
  pub reads : Reads g at (take ((scan_at g s at).next - at) (drop at s)) parts
  pub here : (n : ℕ) → look n parts ≡ span_of n g s (from at)

-- a scan goes as far as what it has read is long
reach : (g : G) → good g ≡ true → (s : List ℕ) (at : ℕ) → at + length (take ((scan_at g s at).next - at) (drop at s)) ≡ (scan_at g s at).next
reach g e s at =
    let ρ = right g e s at in
    let n : (scan_at g s at).next - at ≡ length ρ.p = omega (arith, ρ.next) in
    let t : take (length ρ.p) (drop at s) ≡ ρ.p = rw ρ.cuts (take-append_seam ρ.p ρ.q) in
    rw (n, t) (sym ρ.next)

-- what lies between i and k is what lies up to j and what lies from there
split : (s : List ℕ) (i j k : ℕ) → i ≤ j → j ≤ k → take (k - i) (drop i s) ≡ take (j - i) (drop i s) ++ take (k - j) (drop j s)
split s i j k h l =
    let n : k - i ≡ (j - i) + (k - j) = omega arith in
    let m : i + (j - i) ≡ j = omega arith in
    rw (n, take-add, drop-drop, m)

-- a scan that is whole stands at its place
pub whole : (r : Scan) → r.ok ≡ true → r ≡ from r.next
whole r o = λ i. record { next = r.next; ok = o i }

-- the longer of two is the one that leads
pub longer_is : (r q : Scan) → longer r q ≡ cond (leads r q) r q
unfolding longer leads
longer_is r q = go (known (ltb r.next q.next)) (known (ltb q.next r.next)) (known r.ok)
  where
    go : (ltb r.next q.next ≡ true) ⊎ (ltb r.next q.next ≡ false) → (ltb q.next r.next ≡ true) ⊎ (ltb q.next r.next ≡ false) → (r.ok ≡ true) ⊎ (r.ok ≡ false) → longer r q ≡ cond (leads r q) r q
    go (inl h) l o = rw h
    go (inr h) (inl l) o = rw (h, l)
    go (inr h) (inr l) (inl o) = rw (h, l, o)
    go (inr h) (inr l) (inr o) =
        let n : r.next ≡ q.next = omega (arith, ltb-false r.next q.next h, ltb-false q.next r.next l) in
        rw (h, l, o) (λ i. record { next = n i; ok = q.ok })

found_seq : (a b : G) → good a ≡ true → good b ≡ true → plain a ≡ true → plain b ≡ true → strange (names a) b ≡ true → (s : List ℕ) (at : ℕ) → (scan_at a s at).ok ≡ true → Found a s at → Found b s (scan_at a s at).next → Found (seq a b) s at
unfolding span_by
found_seq a b ea eb fa fb d s at o α β =
    let r : Scan = scan_at a s at in
    let e : r ≡ from r.next = whole r o in
    let i : at + length (take (r.next - at) (drop at s)) ≡ r.next = reach a ea s at in
    let j = reach b eb s r.next in
    let u : List ℕ = take (r.next - at) (drop at s) in
    let v : List ℕ = take ((scan_at b s r.next).next - r.next) (drop r.next s) in
    record {
      parts = α.parts ++ β.parts;
      reads = (u, v, α.parts, β.parts, ap (λ (z : Scan). take ((scan b s z).next - at) (drop at s)) e ∙ split s at r.next (scan_at b s r.next).next (omega arith) (omega arith), refl, α.reads, rw i β.reads);
      here = λ n. ⊎_elim
          (λ h. rw h (look_front n α.parts β.parts (unnamed n b fb r.next v β.parts (strange_sound (names a) b d n (named a n h)) β.reads) ∙ α.here n))
          (λ h. rw h (absent n a fa at u α.parts β.parts h α.reads ∙ β.here n ∙ ap (span_of n b s) (sym e)))
          (known (occurs n a));
    }

found_alt : (a b : G) (s : List ℕ) (at : ℕ) → (scan_at (alt a b) s at).ok ≡ true → ((scan_at a s at).ok ≡ true → Found a s at) → ((scan_at b s at).ok ≡ true → Found b s at) → Found (alt a b) s at
unfolding span_by
found_alt a b s at o α β = go (known (leads r q))
  where
    r : Scan
    r = scan_at a s at

    q : Scan
    q = scan_at b s at

    by_first : leads r q ≡ true → longer r q ≡ r → Found a s at → Found (alt a b) s at
    by_first l z x = record {
      parts = x.parts;
      reads = inl (rw z x.reads);
      here = λ n. rw l (x.here n);
    }

    by_second : leads r q ≡ false → longer r q ≡ q → Found b s at → Found (alt a b) s at
    by_second l z x = record {
      parts = x.parts;
      reads = inr (rw z x.reads);
      here = λ n. rw l (x.here n);
    }

    go : (leads r q ≡ true) ⊎ (leads r q ≡ false) → Found (alt a b) s at
    go (inl l) = let z : longer r q ≡ r = longer_is r q ∙ rw l in by_first l z (α (rw z at o))
    go (inr l) = let z : longer r q ≡ q = longer_is r q ∙ rw l in by_second l z (β (rw z at o))

pub found : (g : G) → good g ≡ true → plain g ≡ true → (s : List ℕ) (at : ℕ) → (scan_at g s at).ok ≡ true → Found g s at
unfolding good plain span_by between
found eps e f s at o = record { parts = []; reads = ((part_of eps e s (from at) _ refl o).is, refl); here = λ n. refl }
found (run c lo hi) e f s at o = record { parts = []; reads = ((part_of (run c lo hi) e s (from at) _ refl o).is, refl); here = λ n. refl }
found (words k) e f s at o = record { parts = []; reads = ((part_of (words k) e s (from at) _ refl o).is, refl); here = λ n. refl }
found (seq a b) e f s at o =
    let ea = good_a (good a) (good b) (apart (follow a) (first b)) e in
    let eb = good_b (good a) (good b) (apart (follow a) (first b)) e in
    let oa : (scan_at a s at).ok ≡ true = ok_before b s (scan_at a s at) _ refl o in
    let fa = good_a (plain a) (plain b) (strange (names a) b) f in
    let fb = good_b (plain a) (plain b) (strange (names a) b) f in
    found_seq a b ea eb fa fb (and_r (plain a && plain b) (strange (names a) b) f) s at oa
    (found a ea fa s at oa)
    (found b eb fb s (scan_at a s at).next (subst (λ (r : Scan). (scan b s r).ok ≡ true) (whole (scan_at a s at) oa) o))
found (alt a b) e f s at o =
    let fa = good_a (plain a) (plain b) (off a b) f in
    let fb = good_b (plain a) (plain b) (off a b) f in
    found_alt a b s at o (found a (and_l (good a) (good b) e) fa s at) (found b (and_r (good a) (good b) e) fb s at)
found (part m g) e f s at o =
    let l : length (take ((scan_at g s at).next - at) (drop at s)) ≡ (scan_at g s at).next - at = omega (arith, reach g e s at) in
    record {
      parts = placed m at (length (take ((scan_at g s at).next - at) (drop at s))) ∷ [];
      reads = ((part_of g e s (from at) _ refl o).is, refl);
      here = λ n. rw (l, o);
    }
found (field ns g) e f s at o =
    let x = found g e (and_l (plain g) (covers ns (names g)) f) s at o in
    record {
      parts = x.parts;
      reads = x.reads;
      here = λ n. ⊎_elim
          (λ h. rw h (x.here n))
          (λ h. rw h (unnamed n g (and_l (plain g) (covers ns (names g)) f) at _ x.parts (outside ns g (and_r (plain g) (covers ns (names g)) f) n h) x.reads))
          (known (among n ns));
    }

-- THE PARTS LIE WITHIN THE TEXT

-- a part ends at a place or before
abbrev Ends : ℕ → Span → Type 0
Ends n p = place_of p + size_of p ≤ n

abbrev AllEnd : ℕ → List Part → Type 0
AllEnd n [] = Unit
AllEnd n (p ∷ ps) = Ends n p.span × AllEnd n ps

all_append_end : (n : ℕ) (ps qs : List Part) → AllEnd n ps → AllEnd n qs → AllEnd n (ps ++ qs)
all_append_end n [] qs h k = k
all_append_end n (p ∷ ps) qs h k = (h.0, all_append_end n ps qs h.1 k)

later : (m n : ℕ) → m ≤ n → (ps : List Part) → AllEnd m ps → AllEnd n ps
later m n l [] h = tt
later m n l (p ∷ ps) h = (omega (arith, h.0), later m n l ps h.1)

all_end : (g : G) (at : ℕ) (w : List ℕ) (ps : List Part) → Reads g at w ps → AllEnd (at + length w) ps
all_end eps at w ps r = rw r.1 tt
all_end (run c lo hi) at w ps r = rw r.1 tt
all_end (words k) at w ps r = rw r.1 tt
all_end (seq a b) at w ps r =
    let l : at + length w ≡ at + length r.0 + length r.1 = omega (arith, ap length r.4, length-append r.0 r.1) in
    rw (r.5, l)
    (all_append_end (at + length r.0 + length r.1) r.2 r.3
    (later (at + length r.0) (at + length r.0 + length r.1) (omega arith) r.2 (all_end a at r.0 r.2 r.6))
    (all_end b (at + length r.0) r.1 r.3 r.7))
all_end (alt a b) at w ps r = ⊎_elim (all_end a at w ps) (all_end b at w ps) r
all_end (part n g) at w ps r = rw r.1 (omega arith, tt)
all_end (field ns g) at w ps r = all_end g at w ps r

look_end : (n m : ℕ) (ps : List Part) → AllEnd m ps → Ends m (look n ps)
look_end n m [] h = omega arith
look_end n m (p ∷ ps) h = ⊎_elim (λ e. rw e h.0) (λ e. rw e (look_end n m ps h.1)) (known (eqb n p.name))

pub part_within : (g : G) (w : List ℕ) (ps : List Part) (n : ℕ) → Reads g 0 w ps → place_of (look n ps) + size_of (look n ps) ≤ length w
part_within g w ps n r = omega (arith, look_end n (0 + length w) ps (all_end g 0 w ps r))
