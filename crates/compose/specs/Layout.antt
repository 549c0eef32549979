-- A text is told by its parts: what a grammar has outside of them is fixed, and which of two alternatives a text took is
-- told by the lengths of the parts. So the parts give the text back, and a text that was laid out from parts has no others
-- of these lengths.
use Rattle.std.specs.Prelude.{◌≡◌, ◌⊎◌, Bool, false, not, ◌&&◌, ◌||◌, List, [], ◌∷◌, ◌++◌, ℕ, zero, suc, ◌+◌, ◌≤◌, ◌<◌, length, take, drop, replicate, leb, ltb, eqb}
use Rattle.std.proofs.Math.Path.{refl, sym, ap}
use Rattle.std.proofs.Common.{◌∙◌, subst, inl, inr, ⊎_elim, append_assoc, append-nil, arith, length-append, leb-true, lt-ltb, le-ltb, eqb-true, eq-eqb}
use Rattle.std.proofs.Math.Bool.{true, cond}
use Rattle.std.proofs.lemmas.Bool.{false≢true, not-true}
use Rattle.std.proofs.Math.Seq.{drop-append_seam, take-append_seam}
use Rattle.scan.specs.Bools.{and_l, and_r, or_split, or_l, or_r, neither, known, same_bool, same_bool_lem}
use Rattle.scan.specs.declared.Class.{Class}
use Rattle.scan.specs.declared.Class.TheVariants.{Letter, Digit, Octal, Alnum, Word, Byte, Range, Two, Of}
use Rattle.scan.specs.Grammar.{span, place_of, size_of, all, G, eps, run, words, seq, alt, part, field, Derives, Part, Reads, look}
use Rattle.scan.specs.Scanner.{among, occurs}
use Rattle.scan.specs.Tests.{nullable, names, strange, covers, plain}
use Rattle.scan.specs.Theory.{null_sound, good_a, good_b}
use Rattle.reader.specs.Reading.{cut}
use Rattle.scan.specs.Parts.{among_on, named, covers_sound, strange_sound}

-- WHAT IS LAID OUT

-- some of the parts is there; l has the lengths of the parts
unfoldable pub filled : (ℕ → ℕ) → List ℕ → Bool
filled l [] = false
filled l (n ∷ ns) = ltb 0 (l n) || filled l ns

-- those of the names that a grammar does not name
unfoldable pub only : List ℕ → G → List ℕ
only [] g = []
only (n ∷ ns) g = cond (occurs n g) (only ns g) (n ∷ only ns g)

unfoldable pub is_nil : List ℕ → Bool
is_nil [] = true
is_nil (n ∷ ns) = false

-- the first of two alternatives is taken: it has a part of its own, or the second has none
unfoldable pub takes_first : G → G → (ℕ → ℕ) → Bool
takes_first a b l = cond (is_nil (only (names a) b)) (not (filled l (only (names b) a))) (filled l (only (names a) b))

unfoldable pub first : Class → ℕ
first Letter = 65
first Digit = 48
first Octal = 48
first Alnum = 48
first Word = 65
first (Byte b) = b
first (Range a b) = a
first (Two a b c d) = a
first (Of a b c d e) = a

-- the text whose parts are those of e
unfoldable pub laid : G → (ℕ → ℕ) → (ℕ → List ℕ) → List ℕ
laid eps l e = []
laid (run c lo hi) l e = replicate lo (first c)
laid (words k) l e = []
laid (seq a b) l e = laid a l e ++ laid b l e
laid (alt a b) l e = cond (takes_first a b l) (laid a l e) (laid b l e)
laid (part n g) l e = e n
laid (field ns g) l e = laid g l e

-- THE TEST

-- every text has one of the parts
unfoldable pub sure : List ℕ → G → Bool
sure ns eps = false
sure ns (run c lo hi) = false
sure ns (words k) = false
sure ns (seq a b) = sure ns a || sure ns b
sure ns (alt a b) = sure ns a && sure ns b
sure ns (part n g) = among n ns
sure ns (field ms g) = sure ns g

unfoldable pub single : Class → Bool
single Letter = false
single Digit = false
single Octal = false
single Alnum = false
single Word = false
single (Byte b) = true
single (Range a b) = false
single (Two a b c d) = false
single (Of a b c d e) = false

-- what stands in a text of a grammar whose alternatives have the same parts in the same places: bytes and names
abbrev pub Pieces : Type 0
Pieces = List (Bool × ℕ)

unfoldable pub pieces : G → Pieces
pieces eps = []
pieces (run c lo hi) = replicate lo (false, first c)
pieces (words k) = []
pieces (seq a b) = pieces a ++ pieces b
pieces (alt a b) = pieces a
pieces (part n g) = (true, n) ∷ []
pieces (field ns g) = pieces g

unfoldable pub same_pieces : Pieces → Pieces → Bool
same_pieces [] [] = true
same_pieces [] (y ∷ ys) = false
same_pieces (x ∷ xs) [] = false
same_pieces (x ∷ xs) (y ∷ ys) = same_bool x.0 y.0 && eqb x.1 y.1 && same_pieces xs ys

unfoldable pub even : G → Bool
even eps = true
even (run c lo hi) = true
even (words k) = true
even (seq a b) = even a && even b
even (alt a b) = even a && even b && same_pieces (pieces a) (pieces b)
even (part n g) = true
even (field ns g) = even g

-- outside of the parts every byte is given, and the parts tell which alternative was taken
unfoldable pub told : G → Bool
told eps = true
told (run c lo hi) = leb hi lo && single c
told (words k) = false
told (seq a b) = told a && told b
told (alt a b) =
    told a && told b
    && cond (is_nil (only (names a) b)) (cond (is_nil (only (names b) a)) (even (alt a b)) (sure (only (names b) a) b)) (sure (only (names a) b) a)
told (part n g) = true
told (field ns g) = told g

-- A READING WITH THE BYTES OF THE PARTS

pub record Told : Type 0 where
  pub name : ℕ
  pub its : List ℕ

abbrev pub Tells : G → List ℕ → List Told → Type 0
Tells eps w cs = (w ≡ []) × (cs ≡ [])
Tells (run c lo hi) w cs = Derives (run c lo hi) w × (cs ≡ [])
Tells (words k) w cs = Derives (words k) w × (cs ≡ [])
Tells (seq a b) w cs = (u : List ℕ) × (v : List ℕ) × (p : List Told) × (q : List Told) × (w ≡ u ++ v) × (cs ≡ p ++ q) × Tells a u p × Tells b v q
Tells (alt a b) w cs = Tells a w cs ⊎ Tells b w cs
Tells (part n g) w cs = Derives g w × (cs ≡ record { name = n; its = w } ∷ [])
Tells (field ns g) w cs = Tells g w cs

abbrev pub find : ℕ → List Told → List ℕ
find n [] = []
find n (c ∷ cs) = cond (eqb n c.name) c.its (find n cs)

-- what a reading's parts say
abbrev pub telling : List ℕ → List Part → List Told
telling s [] = []
telling s (p ∷ ps) = record { name = p.name; its = cut s p.span } ∷ telling s ps

telling_append : (s : List ℕ) (ps qs : List Part) → telling s (ps ++ qs) ≡ telling s ps ++ telling s qs
telling_append s [] qs = refl
telling_append s (p ∷ ps) qs = ap (λ (x : List Told). record { name = p.name; its = cut s p.span } ∷ x) (telling_append s ps qs)

pub find_telling : (n : ℕ) (s : List ℕ) (ps : List Part) → find n (telling s ps) ≡ cut s (look n ps)
find_telling n s [] = refl
find_telling n s (p ∷ ps) = ⊎_elim (λ e. rw e) (λ e. rw e (find_telling n s ps)) (known (eqb n p.name))

-- what a place and a length say together
pub cut_span : (s : List ℕ) (at k : ℕ) → k < 65536 → cut s (span at k) ≡ take k (drop at s)
cut_span s at k h =
    let a : place_of (span at k) ≡ at = omega arith in
    let b : size_of (span at k) ≡ k = omega arith in
    λ i. take (b i) (drop (a i) s)

cut_middle : (x w y : List ℕ) → length w < 65536 → cut (x ++ (w ++ y)) (span (length x) (length w)) ≡ w
cut_middle x w y h = cut_span (x ++ (w ++ y)) (length x) (length w) h ∙ rw (drop-append_seam x (w ++ y)) (take-append_seam w y)

-- w, which is no longer than a span can say, stands in x ++ (w ++ y)
reads_tells : (g : G) (x w y : List ℕ) (ps : List Part) → length w < 65536 → Reads g (length x) w ps → Tells g w (telling (x ++ (w ++ y)) ps)
reads_tells eps x w y ps h r = (r.0, ap (telling (x ++ (w ++ y))) r.1)
reads_tells (run c lo hi) x w y ps h r = (r.0, ap (telling (x ++ (w ++ y))) r.1)
reads_tells (words k) x w y ps h r = (r.0, ap (telling (x ++ (w ++ y))) r.1)
reads_tells (seq a b) x w y ps h r =
    let u : List ℕ = r.0 in
    let v : List ℕ = r.1 in
    let s : List ℕ = x ++ (w ++ y) in
    let i : x ++ (u ++ (v ++ y)) ≡ s = ap (λ (z : List ℕ). x ++ z) (sym (append_assoc u v y) ∙ ap (λ (z : List ℕ). z ++ y) (sym r.4)) in
    let j : (x ++ u) ++ (v ++ y) ≡ s = append_assoc x u (v ++ y) ∙ i in
    let n : length x + length u ≡ length (x ++ u) = sym (length-append x u) in
    let m : length w ≡ length u + length v = ap length r.4 ∙ length-append u v in (
      u,
      v,
      telling s r.2,
      telling s r.3,
      r.4,
      ap (telling s) r.5 ∙ telling_append s r.2 r.3,
      subst (λ (z : List ℕ). Tells a u (telling z r.2)) i (reads_tells a x u (v ++ y) r.2 (omega arith) r.6),
      subst (λ (z : List ℕ). Tells b v (telling z r.3)) j (reads_tells b (x ++ u) v y r.3 (omega arith) (subst (λ (k : ℕ). Reads b k v r.3) n r.7)),
    )
reads_tells (alt a b) x w y ps h r = ⊎_elim (λ l. inl (reads_tells a x w y ps h l)) (λ l. inr (reads_tells b x w y ps h l)) r
reads_tells (part n g) x w y ps h r = (r.0, ap (telling (x ++ (w ++ y))) r.1 ∙ (λ i. record { name = n; its = cut_middle x w y h i } ∷ []))
reads_tells (field ns g) x w y ps h r = reads_tells g x w y ps h r

-- the parts of a whole text say this
pub reading_tells : (g : G) (w : List ℕ) (ps : List Part) → length w < 65536 → Reads g 0 w ps → Tells g w (telling w ps)
reading_tells g w ps h r = subst (λ (z : List ℕ). Tells g w (telling z ps)) (append-nil w) (reads_tells g [] w [] ps h r)

pub tells_derives : (g : G) (w : List ℕ) (cs : List Told) → Tells g w cs → Derives g w
tells_derives eps w cs r = r.0
tells_derives (run c lo hi) w cs r = r.0
tells_derives (words k) w cs r = r.0
tells_derives (seq a b) w cs r = (r.0, r.1, r.4, tells_derives a r.0 r.2 r.6, tells_derives b r.1 r.3 r.7)
tells_derives (alt a b) w cs r = ⊎_elim (λ l. inl (tells_derives a w cs l)) (λ l. inr (tells_derives b w cs l)) r
tells_derives (part n g) w cs r = r.0
tells_derives (field ns g) w cs r = tells_derives g w cs r

-- Names

among_split : (n : ℕ) (l m : List ℕ) → among n (l ++ m) ≡ true → (among n l ≡ true) ⊎ (among n m ≡ true)
unfolding among
among_split n [] m e = inr e
among_split n (k ∷ l) m e =
    ⊎_elim (λ h. inl (or_l (eqb n k) (among n l) h)) (λ h. ⊎_elim (λ f. inl (or_r (eqb n k) (among n l) f)) inr (among_split n l m h))
    (or_split (eqb n k) (among n (l ++ m)) e)

naming : (g : G) (n : ℕ) → among n (names g) ≡ true → occurs n g ≡ true
unfolding names occurs among
naming eps n e = absurd (false≢true e)
naming (run c lo hi) n e = absurd (false≢true e)
naming (words k) n e = absurd (false≢true e)
naming (seq a b) n e = ⊎_elim (λ h. or_l (occurs n a) (occurs n b) (naming a n h)) (λ h. or_r (occurs n a) (occurs n b) (naming b n h)) (among_split n (names a) (names b) e)
naming (alt a b) n e = ⊎_elim (λ h. or_l (occurs n a) (occurs n b) (naming a n h)) (λ h. or_r (occurs n a) (occurs n b) (naming b n h)) (among_split n (names a) (names b) e)
naming (part m g) n e = ⊎_elim (λ h. h) (λ h. absurd (false≢true h)) (or_split (eqb n m) false e)
naming (field ns g) n e = e

one_name : (n : ℕ) → among n (n ∷ []) ≡ true
unfolding among
one_name n = or_l (eqb n n) false (eq-eqb n n refl)

-- no part of a name that does not occur
pub unsaid : (n : ℕ) (g : G) → plain g ≡ true → (w : List ℕ) (cs ds : List Told) → occurs n g ≡ false → Tells g w cs → find n (cs ++ ds) ≡ find n ds
unfolding occurs plain
unsaid n eps f w cs ds o r = rw r.1
unsaid n (run c lo hi) f w cs ds o r = rw r.1
unsaid n (words k) f w cs ds o r = rw r.1
unsaid n (seq a b) f w cs ds o r =
    let h = neither (occurs n a) (occurs n b) o in
    rw (r.5, append_assoc) (unsaid n a (good_a (plain a) (plain b) (strange (names a) b) f) r.0 r.2 (r.3 ++ ds) h.0 r.6 ∙ unsaid n b (good_b (plain a) (plain b) (strange (names a) b) f) r.1 r.3 ds h.1 r.7)
unsaid n (alt a b) f w cs ds o r =
    let h = neither (occurs n a) (occurs n b) o in
    ⊎_elim (unsaid n a (and_l (plain a) (plain b) (and_l (plain a && plain b) _ f)) w cs ds h.0) (unsaid n b (and_r (plain a) (plain b) (and_l (plain a && plain b) _ f)) w cs ds h.1) r
unsaid n (part m g) f w cs ds o r = rw (r.1, o)
unsaid n (field ns g) f w cs ds o r =
    unsaid n g (and_l (plain g) (covers ns (names g)) f) w cs ds (⊎_elim (λ e. absurd (false≢true (sym o ∙ covers_sound ns (names g) (and_r (plain g) (covers ns (names g)) f) n (named g n e)))) (λ e. e) (known (occurs n g))) r

pub absent_part : (n : ℕ) (g : G) → plain g ≡ true → (w : List ℕ) (cs : List Told) → occurs n g ≡ false → Tells g w cs → find n cs ≡ []
absent_part n g f w cs o r = subst (λ (x : List Told). find n x ≡ []) (append-nil cs) (unsaid n g f w cs [] o r)

pub find_front : (n : ℕ) (cs ds : List Told) → find n ds ≡ [] → find n (cs ++ ds) ≡ find n cs
find_front n [] ds e = e
find_front n (c ∷ cs) ds e = rw (find_front n cs ds e)

-- WHICH ALTERNATIVE A TEXT TOOK

-- l has the lengths of what is told under these names
abbrev pub Measures : List ℕ → (ℕ → ℕ) → List Told → Type 0
Measures ns l cs = (n : ℕ) → among n ns ≡ true → l n ≡ length (find n cs)

-- e has what is told under these names
abbrev pub Holds : List ℕ → (ℕ → List ℕ) → List Told → Type 0
Holds ns e cs = (n : ℕ) → among n ns ≡ true → e n ≡ find n cs

some_filled : (l : ℕ → ℕ) (ns : List ℕ) (n : ℕ) → among n ns ≡ true → 0 < l n → filled l ns ≡ true
unfolding filled among
some_filled l [] n e h = absurd (false≢true e)
some_filled l (m ∷ ns) n e h =
    ⊎_elim (λ k. or_l (ltb 0 (l m)) (filled l ns) (subst (λ (x : ℕ). ltb 0 (l x) ≡ true) (eqb-true n m k) (lt-ltb 0 (l n) h))) (λ k. or_r (ltb 0 (l m)) (filled l ns) (some_filled l ns n k h))
    (or_split (eqb n m) (among n ns) e)

none_filled : (l : ℕ → ℕ) (ns : List ℕ) → ((n : ℕ) → among n ns ≡ true → l n ≡ 0) → filled l ns ≡ false
unfolding filled among
none_filled l [] h = refl
none_filled l (m ∷ ns) h =
    let z : ltb 0 (l m) ≡ false = le-ltb 0 (l m) (omega (arith, h m (or_l (eqb m m) (among m ns) (eq-eqb m m refl)))) in
    let r : filled l ns ≡ false = none_filled l ns (λ n k. h n (or_r (eqb n m) (among n ns) k)) in
    rw (z, r)

only_named : (n : ℕ) (ns : List ℕ) (g : G) → among n (only ns g) ≡ true → (among n ns ≡ true) × (occurs n g ≡ false)
unfolding only among
only_named n [] g e = absurd (false≢true e)
only_named n (m ∷ ns) g e = go (known (occurs m g)) (only_named n ns g)
  where
    go : (occurs m g ≡ true) ⊎ (occurs m g ≡ false) → (among n (only ns g) ≡ true → (among n ns ≡ true) × (occurs n g ≡ false)) → (among n (m ∷ ns) ≡ true) × (occurs n g ≡ false)
    go (inl o) r = let x = r (rw o at e) in (or_r (eqb n m) (among n ns) x.0, x.1)
    go (inr o) r =
        ⊎_elim (λ k. (or_l (eqb n m) (among n ns) k, ap (λ (x : ℕ). occurs x g) (eqb-true n m k) ∙ o)) (λ k. let x = r k in (or_r (eqb n m) (among n ns) x.0, x.1))
        (or_split (eqb n m) (among n (only ns g)) (rw o at e))

-- a name of b is none of a
apart_names : (a b : G) → strange (names a) b ≡ true → (n : ℕ) → among n (names b) ≡ true → occurs n a ≡ false
apart_names a b d n h =
    ⊎_elim (λ o. absurd (false≢true (sym (strange_sound (names a) b d n (named a n o)) ∙ naming b n h))) (λ o. o) (known (occurs n a))

-- some part that is there, of given names
pub record Sure (ns : List ℕ) (g : G) (cs : List Told) : Type 0 where
  pub name : ℕ
  pub of : among name ns ≡ true
  pub own : among name (names g) ≡ true
  pub there : 0 < length (find name cs)

sure_seq_a : (ns : List ℕ) (a b : G) (v : List ℕ) (p q : List Told) → plain b ≡ true → strange (names a) b ≡ true → Tells b v q → Sure ns a p → Sure ns (seq a b) (p ++ q)
unfolding names
sure_seq_a ns a b v p q f d t x = record {
  name = x.name;
  of = x.of;
  own = among_on x.name (names a) (names b) (inl x.own);
  there = subst (λ (z : List ℕ). 0 < length z) (sym (find_front x.name p q (absent_part x.name b f v q (strange_sound (names a) b d x.name x.own) t))) x.there;
}

sure_seq_b : (ns : List ℕ) (a b : G) (u : List ℕ) (p q : List Told) → plain a ≡ true → strange (names a) b ≡ true → Tells a u p → Sure ns b q → Sure ns (seq a b) (p ++ q)
unfolding names
sure_seq_b ns a b u p q f d t x = record {
  name = x.name;
  of = x.of;
  own = among_on x.name (names a) (names b) (inr x.own);
  there = subst (λ (z : List ℕ). 0 < length z) (sym (unsaid x.name a f u p q (apart_names a b d x.name x.own) t)) x.there;
}

sure_alt : (ns : List ℕ) (a b : G) (cs : List Told) → Sure ns a cs ⊎ Sure ns b cs → Sure ns (alt a b) cs
unfolding names
sure_alt ns a b cs (inl x) = record { name = x.name; of = x.of; own = among_on x.name (names a) (names b) (inl x.own); there = x.there }
sure_alt ns a b cs (inr x) = record { name = x.name; of = x.of; own = among_on x.name (names a) (names b) (inr x.own); there = x.there }

not_empty : (g : G) (w : List ℕ) → nullable g ≡ false → Derives g w → 0 < length w
not_empty g [] e d = absurd (false≢true (sym e ∙ null_sound g d))
not_empty g (x ∷ w) e d = omega arith

sure_sound : (ns : List ℕ) (g : G) → sure ns g ≡ true → plain g ≡ true → (w : List ℕ) (cs : List Told) → Tells g w cs → Sure ns g cs
unfolding sure plain names
sure_sound ns eps e f w cs t = absurd (false≢true e)
sure_sound ns (run c lo hi) e f w cs t = absurd (false≢true e)
sure_sound ns (words k) e f w cs t = absurd (false≢true e)
sure_sound ns (seq a b) e f w cs t =
    let fa = good_a (plain a) (plain b) (strange (names a) b) f in
    let fb = good_b (plain a) (plain b) (strange (names a) b) f in
    let d = and_r (plain a && plain b) (strange (names a) b) f in
    subst (Sure ns (seq a b)) (sym t.5)
    (⊎_elim
    (λ h. sure_seq_a ns a b t.1 t.2 t.3 fb d t.7 (sure_sound ns a h fa t.0 t.2 t.6))
    (λ h. sure_seq_b ns a b t.0 t.2 t.3 fa d t.6 (sure_sound ns b h fb t.1 t.3 t.7))
    (or_split (sure ns a) (sure ns b) e))
sure_sound ns (alt a b) e f w cs t =
    let fab = and_l (plain a && plain b) _ f in
    sure_alt ns a b cs
    (⊎_elim
    (λ h. inl (sure_sound ns a (and_l (sure ns a) (sure ns b) e) (and_l (plain a) (plain b) fab) w cs h))
    (λ h. inr (sure_sound ns b (and_r (sure ns a) (sure ns b) e) (and_r (plain a) (plain b) fab) w cs h))
    t)
sure_sound ns (part m g) e f w cs t =
    let z : eqb m m ≡ true = eq-eqb m m refl in
    record {
      name = m;
      of = e;
      own = one_name m;
      there = rw (t.1, z) (not_empty g w (not-true (nullable g) f) t.0);
    }
sure_sound ns (field ms g) e f w cs t =
    let x = sure_sound ns g e (and_l (plain g) (covers ms (names g)) f) w cs t in
    record { name = x.name; of = x.of; own = covers_sound ms (names g) (and_r (plain g) (covers ms (names g)) f) x.name x.own; there = x.there }

-- Alternatives with the same pieces

unfoldable drawn : Pieces → (ℕ → List ℕ) → List ℕ
drawn [] e = []
drawn (x ∷ xs) e = cond x.0 (e x.1) (x.1 ∷ []) ++ drawn xs e

drawn_append : (xs ys : Pieces) (e : ℕ → List ℕ) → drawn (xs ++ ys) e ≡ drawn xs e ++ drawn ys e
unfolding drawn
drawn_append [] ys e = refl
drawn_append (x ∷ xs) ys e = rw (drawn_append xs ys e, append_assoc)

drawn_bytes : (k b : ℕ) (e : ℕ → List ℕ) → drawn (replicate k (false, b)) e ≡ replicate k b
unfolding drawn
drawn_bytes zero b e = refl
drawn_bytes (suc k) b e = ap (λ (w : List ℕ). b ∷ w) (drawn_bytes k b e)

same_pieces_lem : (xs ys : Pieces) → same_pieces xs ys ≡ true → xs ≡ ys
unfolding same_pieces
same_pieces_lem [] [] e = refl
same_pieces_lem [] (y ∷ ys) e = absurd (false≢true e)
same_pieces_lem (x ∷ xs) [] e = absurd (false≢true e)
same_pieces_lem (x ∷ xs) (y ∷ ys) e =
    let h = and_l (same_bool x.0 y.0 && eqb x.1 y.1) (same_pieces xs ys) e in
    let p : x.0 ≡ y.0 = same_bool_lem x.0 y.0 (and_l (same_bool x.0 y.0) (eqb x.1 y.1) h) in
    let q : x.1 ≡ y.1 = eqb-true x.1 y.1 (and_r (same_bool x.0 y.0) (eqb x.1 y.1) h) in
    let r : xs ≡ ys = same_pieces_lem xs ys (and_r (same_bool x.0 y.0 && eqb x.1 y.1) (same_pieces xs ys) e) in
    λ i. (p i, q i) ∷ r i

either_cond : (b : Bool) (x y z : List ℕ) → x ≡ z → y ≡ z → cond b x y ≡ z
either_cond true x y z p q = p
either_cond false x y z p q = q

even_laid : (g : G) → even g ≡ true → (l : ℕ → ℕ) (e : ℕ → List ℕ) → told g ≡ true → laid g l e ≡ drawn (pieces g) e
unfolding even laid pieces drawn told
even_laid eps v l e t = refl
even_laid (run c lo hi) v l e t = sym (drawn_bytes lo (first c) e)
even_laid (words k) v l e t = refl
even_laid (seq a b) v l e t =
    (λ i. even_laid a (and_l (even a) (even b) v) l e (and_l (told a) (told b) t) i ++ even_laid b (and_r (even a) (even b) v) l e (and_r (told a) (told b) t) i) ∙ sym (drawn_append (pieces a) (pieces b) e)
even_laid (alt a b) v l e t =
    let w = and_l (even a && even b) (same_pieces (pieces a) (pieces b)) v in
    let u = and_l (told a && told b) _ t in
    either_cond (takes_first a b l) (laid a l e) (laid b l e) (drawn (pieces a) e)
    (even_laid a (and_l (even a) (even b) w) l e (and_l (told a) (told b) u))
    (even_laid b (and_r (even a) (even b) w) l e (and_r (told a) (told b) u) ∙ ap (λ (x : Pieces). drawn x e) (sym (same_pieces_lem (pieces a) (pieces b) (and_r (even a && even b) (same_pieces (pieces a) (pieces b)) v))))
even_laid (part n g) v l e t = sym (append-nil (e n))
even_laid (field ns g) v l e t = even_laid g v l e t

-- Which one

module _ (a b : G) (t : told (alt a b) ≡ true) (f : plain (alt a b) ≡ true) (l : ℕ → ℕ) (w : List ℕ) (cs : List Told) (m : Measures (names (alt a b)) l cs) where
  plain_a : plain a ≡ true
  unfolding plain
  plain_a = and_l (plain a) (plain b) (and_l (plain a && plain b) _ f)

  plain_b : plain b ≡ true
  unfolding plain
  plain_b = and_r (plain a) (plain b) (and_l (plain a && plain b) _ f)

  in_a : (n : ℕ) → among n (names a) ≡ true → l n ≡ length (find n cs)
  unfolding names
  in_a n h = m n (among_on n (names a) (names b) (inl h))

  in_b : (n : ℕ) → among n (names b) ≡ true → l n ≡ length (find n cs)
  unfolding names
  in_b n h = m n (among_on n (names a) (names b) (inr h))

  -- what only b names is not told by a, and the other way round
  lacks_a : Tells a w cs → filled l (only (names b) a) ≡ false
  lacks_a x = none_filled l (only (names b) a) (λ n h. let o = only_named n (names b) a h in in_b n o.0 ∙ ap length (absent_part n a plain_a w cs o.1 x))

  lacks_b : Tells b w cs → filled l (only (names a) b) ≡ false
  lacks_b x = none_filled l (only (names a) b) (λ n h. let o = only_named n (names a) b h in in_a n o.0 ∙ ap length (absent_part n b plain_b w cs o.1 x))

  has_a : sure (only (names a) b) a ≡ true → Tells a w cs → filled l (only (names a) b) ≡ true
  has_a s x = let y = sure_sound (only (names a) b) a s plain_a w cs x in some_filled l (only (names a) b) y.name y.of (omega (arith, in_a y.name y.own, y.there))

  has_b : sure (only (names b) a) b ≡ true → Tells b w cs → filled l (only (names b) a) ≡ true
  has_b s x = let y = sure_sound (only (names b) a) b s plain_b w cs x in some_filled l (only (names b) a) y.name y.of (omega (arith, in_b y.name y.own, y.there))

  abbrev lone_a : Bool
  lone_a = is_nil (only (names a) b)

  abbrev lone_b : Bool
  lone_b = is_nil (only (names b) a)

  test : cond lone_a (cond lone_b (even (alt a b)) (sure (only (names b) a) b)) (sure (only (names a) b) a) ≡ true
  unfolding told
  test = and_r (told a && told b) _ t

  took_a : Tells a w cs → takes_first a b l ≡ true
  unfolding takes_first
  took_a x = go (known lone_a)
    where
      go : (lone_a ≡ true) ⊎ (lone_a ≡ false) → cond lone_a (not (filled l (only (names b) a))) (filled l (only (names a) b)) ≡ true
      go (inl h) = rw (h, lacks_a x)
      go (inr h) = rw h (has_a (rw h at test) x)

  took_b : (e : ℕ → List ℕ) → Tells b w cs → laid (alt a b) l e ≡ laid b l e
  unfolding takes_first laid told even
  took_b e x = go (known lone_a) (known lone_b)
    where
      go : (lone_a ≡ true) ⊎ (lone_a ≡ false) → (lone_b ≡ true) ⊎ (lone_b ≡ false) → cond (cond lone_a (not (filled l (only (names b) a))) (filled l (only (names a) b))) (laid a l e) (laid b l e) ≡ laid b l e
      go (inl h) (inl k) =
          let v : even (alt a b) ≡ true = rw (h, k) at test in
          let y = and_l (even a && even b) (same_pieces (pieces a) (pieces b)) v in
          let u = and_l (told a && told b) (cond lone_a (cond lone_b (even (alt a b)) (sure (only (names b) a) b)) (sure (only (names a) b) a)) t in
          either_cond (cond lone_a (not (filled l (only (names b) a))) (filled l (only (names a) b))) (laid a l e) (laid b l e) (laid b l e)
          (even_laid a (and_l (even a) (even b) y) l e (and_l (told a) (told b) u) ∙ ap (λ (z : Pieces). drawn z e) (same_pieces_lem (pieces a) (pieces b) (and_r (even a && even b) (same_pieces (pieces a) (pieces b)) v)) ∙ sym (even_laid b (and_r (even a) (even b) y) l e (and_r (told a) (told b) u)))
          refl
      go (inl h) (inr k) = rw (h, has_b (rw (h, k) at test) x)
      go (inr h) k = rw (h, lacks_b x)

-- THE PARTS GIVE THE TEXT BACK

given_bytes : (b : ℕ) (w : List ℕ) → all (Byte b) w ≡ true → w ≡ replicate (length w) b
unfolding all
given_bytes b [] e = refl
given_bytes b (x ∷ w) e =
    let i = and_l (leb b x && leb x b) (all (Byte b) w) e in
    let z : x ≡ b = omega (arith, leb-true b x (and_l (leb b x) (leb x b) i), leb-true x b (and_r (leb b x) (leb x b) i)) in
    let r = given_bytes b w (and_r (leb b x && leb x b) (all (Byte b) w) e) in
    λ i. z i ∷ r i

pub given_run : (c : Class) (lo hi : ℕ) → hi ≤ lo → single c ≡ true → (w : List ℕ) → Derives (run c lo hi) w → w ≡ replicate lo (first c)
unfolding single first
given_run (Byte b) lo hi h s w d = let n : length w ≡ lo = omega (arith, d.1, d.2) in given_bytes b w d.0 ∙ ap (λ (k : ℕ). replicate k b) n
given_run Letter lo hi h s w d = absurd (false≢true s)
given_run Digit lo hi h s w d = absurd (false≢true s)
given_run Octal lo hi h s w d = absurd (false≢true s)
given_run Alnum lo hi h s w d = absurd (false≢true s)
given_run Word lo hi h s w d = absurd (false≢true s)
given_run (Range x y) lo hi h s w d = absurd (false≢true s)
given_run (Two x y z u) lo hi h s w d = absurd (false≢true s)
given_run (Of x y z u v) lo hi h s w d = absurd (false≢true s)

-- what is told of the first piece and what of the second
module _ (a b : G) (f : plain (seq a b) ≡ true) (u v : List ℕ) (p q : List Told) (x : Tells a u p) (y : Tells b v q) where
  fore : (n : ℕ) → among n (names a) ≡ true → find n (p ++ q) ≡ find n p
  unfolding plain
  fore n h = find_front n p q (absent_part n b (good_b (plain a) (plain b) (strange (names a) b) f) v q (strange_sound (names a) b (and_r (plain a && plain b) (strange (names a) b) f) n h) y)

  aft : (n : ℕ) → among n (names b) ≡ true → find n (p ++ q) ≡ find n q
  unfolding plain
  aft n h = unsaid n a (good_a (plain a) (plain b) (strange (names a) b) f) u p q (apart_names a b (and_r (plain a && plain b) (strange (names a) b) f) n h) x

pub text_is : (g : G) → told g ≡ true → plain g ≡ true → (l : ℕ → ℕ) (e : ℕ → List ℕ) (w : List ℕ) (cs : List Told) → Tells g w cs → Measures (names g) l cs → Holds (names g) e cs → w ≡ laid g l e
unfolding told plain names laid
text_is eps t f l e w cs r m h = r.0
text_is (run c lo hi) t f l e w cs r m h = given_run c lo hi (leb-true hi lo (and_l (leb hi lo) (single c) t)) (and_r (leb hi lo) (single c) t) w r.0
text_is (words k) t f l e w cs r m h = absurd (false≢true t)
text_is (seq a b) t f l e w cs r m h =
    let c : (n : ℕ) → find n cs ≡ find n (r.2 ++ r.3) = λ n. ap (find n) r.5 in
    let x : (n : ℕ) → among n (names a) ≡ true → find n cs ≡ find n r.2 = λ n k. c n ∙ fore a b f r.0 r.1 r.2 r.3 r.6 r.7 n k in
    let y : (n : ℕ) → among n (names b) ≡ true → find n cs ≡ find n r.3 = λ n k. c n ∙ aft a b f r.0 r.1 r.2 r.3 r.6 r.7 n k in
    let i = text_is a (and_l (told a) (told b) t) (good_a (plain a) (plain b) (strange (names a) b) f) l e r.0 r.2 r.6 (λ n k. m n (among_on n (names a) (names b) (inl k)) ∙ ap length (x n k)) (λ n k. h n (among_on n (names a) (names b) (inl k)) ∙ x n k) in
    let j = text_is b (and_r (told a) (told b) t) (good_b (plain a) (plain b) (strange (names a) b) f) l e r.1 r.3 r.7 (λ n k. m n (among_on n (names a) (names b) (inr k)) ∙ ap length (y n k)) (λ n k. h n (among_on n (names a) (names b) (inr k)) ∙ y n k) in
    r.4 ∙ (λ z. i z ++ j z)
text_is (alt a b) t f l e w cs r m h =
    let u = and_l (told a && told b) _ t in
    ⊎_elim
    (λ x. text_is a (and_l (told a) (told b) u) (plain_a a b t f l w cs m) l e w cs x (in_a a b t f l w cs m) (λ n k. h n (among_on n (names a) (names b) (inl k))) ∙ sym (ap (λ (c : Bool). cond c (laid a l e) (laid b l e)) (took_a a b t f l w cs m x)))
    (λ x. text_is b (and_r (told a) (told b) u) (plain_b a b t f l w cs m) l e w cs x (in_b a b t f l w cs m) (λ n k. h n (among_on n (names a) (names b) (inr k))) ∙ sym (took_b a b t f l w cs m e x))
    r
text_is (part n g) t f l e w cs r m h =
    let z : eqb n n ≡ true = eq-eqb n n refl in
    sym (h n (one_name n) ∙ ap (find n) r.1 ∙ rw z)
text_is (field ns g) t f l e w cs r m h =
    let c = covers_sound ns (names g) (and_r (plain g) (covers ns (names g)) f) in
    text_is g t (and_l (plain g) (covers ns (names g)) f) l e w cs r (λ n k. m n (c n k)) (λ n k. h n (c n k))

-- AND A TEXT THAT WAS LAID OUT HAS THESE PARTS

seam : (u v x y : List ℕ) → u ++ v ≡ x ++ y → length u ≡ length x → (u ≡ x) × (v ≡ y)
seam u v x y e n =
    (sym (take-append_seam u v) ∙ (λ i. take (n i) (e i)) ∙ take-append_seam x y, sym (drop-append_seam u v) ∙ (λ i. drop (n i) (e i)) ∙ drop-append_seam x y)

cond_size : (b : Bool) (x y z u : List ℕ) → length x ≡ length z → length y ≡ length u → length (cond b x y) ≡ length (cond b z u)
cond_size true x y z u p q = p
cond_size false x y z u p q = q

size_is : (g : G) → plain g ≡ true → (l : ℕ → ℕ) (e d : ℕ → List ℕ) → ((n : ℕ) → among n (names g) ≡ true → length (e n) ≡ length (d n)) → length (laid g l e) ≡ length (laid g l d)
unfolding plain names laid
size_is eps f l e d h = refl
size_is (run c lo hi) f l e d h = refl
size_is (words k) f l e d h = refl
size_is (seq a b) f l e d h =
    let i = size_is a (good_a (plain a) (plain b) (strange (names a) b) f) l e d (λ n k. h n (among_on n (names a) (names b) (inl k))) in
    let j = size_is b (good_b (plain a) (plain b) (strange (names a) b) f) l e d (λ n k. h n (among_on n (names a) (names b) (inr k))) in
    length-append (laid a l e) (laid b l e) ∙ (λ z. i z + j z) ∙ sym (length-append (laid a l d) (laid b l d))
size_is (alt a b) f l e d h =
    let u = and_l (plain a && plain b) _ f in
    cond_size (takes_first a b l) (laid a l e) (laid b l e) (laid a l d) (laid b l d)
    (size_is a (and_l (plain a) (plain b) u) l e d (λ n k. h n (among_on n (names a) (names b) (inl k))))
    (size_is b (and_r (plain a) (plain b) u) l e d (λ n k. h n (among_on n (names a) (names b) (inr k))))
size_is (part n g) f l e d h = h n (one_name n)
size_is (field ns g) f l e d h = size_is g (and_l (plain g) (covers ns (names g)) f) l e d (λ n k. h n (covers_sound ns (names g) (and_r (plain g) (covers ns (names g)) f) n k))

empty : (w : List ℕ) → length w ≡ 0 → w ≡ []
empty [] e = refl
empty (x ∷ w) e = absurd (omega arith)

-- e has parts of the lengths l
abbrev pub Sized : List ℕ → (ℕ → ℕ) → (ℕ → List ℕ) → Type 0
Sized ns l e = (n : ℕ) → among n ns ≡ true → length (e n) ≡ l n

-- a name that the text's own alternative may not have: then nothing is there
or_empty : (g : G) → plain g ≡ true → (l : ℕ → ℕ) (e : ℕ → List ℕ) (w : List ℕ) (cs : List Told) → Tells g w cs → Holds (names g) e cs → (n : ℕ) → length (e n) ≡ l n → l n ≡ length (find n cs) → e n ≡ find n cs
or_empty g f l e w cs x h n s m =
    ⊎_elim
    (λ o. h n (named g n o))
    (λ o. let z : find n cs ≡ [] = absent_part n g f w cs o x in empty (e n) (s ∙ m ∙ ap length z) ∙ sym z)
    (known (occurs n g))

pub parts_are : (g : G) → told g ≡ true → plain g ≡ true → (l : ℕ → ℕ) (e : ℕ → List ℕ) (w : List ℕ) (cs : List Told) → Tells g w cs → Measures (names g) l cs → Sized (names g) l e → w ≡ laid g l e → Holds (names g) e cs
unfolding told plain names laid among
parts_are eps t f l e w cs r m s i = λ n k. absurd (false≢true k)
parts_are (run c lo hi) t f l e w cs r m s i = λ n k. absurd (false≢true k)
parts_are (words k) t f l e w cs r m s i = absurd (false≢true t)
parts_are (seq a b) t f l e w cs r m s i =
    let c : (n : ℕ) → find n cs ≡ find n (r.2 ++ r.3) = λ n. ap (find n) r.5 in
    let x : (n : ℕ) → among n (names a) ≡ true → find n cs ≡ find n r.2 = λ n k. c n ∙ fore a b f r.0 r.1 r.2 r.3 r.6 r.7 n k in
    let y : (n : ℕ) → among n (names b) ≡ true → find n cs ≡ find n r.3 = λ n k. c n ∙ aft a b f r.0 r.1 r.2 r.3 r.6 r.7 n k in
    let ta = and_l (told a) (told b) t in
    let fa = good_a (plain a) (plain b) (strange (names a) b) f in
    let ma : Measures (names a) l r.2 = λ n k. m n (among_on n (names a) (names b) (inl k)) ∙ ap length (x n k) in
    let mb : Measures (names b) l r.3 = λ n k. m n (among_on n (names a) (names b) (inr k)) ∙ ap length (y n k) in
    let sa : Sized (names a) l e = λ n k. s n (among_on n (names a) (names b) (inl k)) in
    let sb : Sized (names b) l e = λ n k. s n (among_on n (names a) (names b) (inr k)) in
    let u : r.0 ≡ laid a l (λ n. find n r.2) = text_is a ta fa l (λ n. find n r.2) r.0 r.2 r.6 ma (λ n k. refl) in
    let z : length r.0 ≡ length (laid a l e) = ap length u ∙ sym (size_is a fa l e (λ n. find n r.2) (λ n k. sa n k ∙ ma n k)) in
    let j = seam r.0 r.1 (laid a l e) (laid b l e) (sym r.4 ∙ i) z in
    let p = parts_are a ta fa l e r.0 r.2 r.6 ma sa j.0 in
    let q = parts_are b (and_r (told a) (told b) t) (good_b (plain a) (plain b) (strange (names a) b) f) l e r.1 r.3 r.7 mb sb j.1 in
    λ n k. ⊎_elim (λ o. p n o ∙ sym (x n o)) (λ o. q n o ∙ sym (y n o)) (among_split n (names a) (names b) k)
parts_are (alt a b) t f l e w cs r m s i =
    let u = and_l (told a && told b) _ t in
    let ma = in_a a b t f l w cs m in
    let mb = in_b a b t f l w cs m in
    let fa = plain_a a b t f l w cs m in
    let fb = plain_b a b t f l w cs m in
    ⊎_elim
    (λ x n k. or_empty a fa l e w cs x (parts_are a (and_l (told a) (told b) u) fa l e w cs x ma (λ o j. s o (among_on o (names a) (names b) (inl j))) (i ∙ ap (λ (c : Bool). cond c (laid a l e) (laid b l e)) (took_a a b t f l w cs m x))) n (s n k) (m n k))
    (λ x n k. or_empty b fb l e w cs x (parts_are b (and_r (told a) (told b) u) fb l e w cs x mb (λ o j. s o (among_on o (names a) (names b) (inr j))) (i ∙ took_b a b t f l w cs m e x)) n (s n k) (m n k))
    r
parts_are (part o g) t f l e w cs r m s i = λ n k.
    let z : n ≡ o = ⊎_elim (λ h. eqb-true n o h) (λ h. absurd (false≢true h)) (or_split (eqb n o) false k) in
    let y : eqb o o ≡ true = eq-eqb o o refl in
    ap e z ∙ sym i ∙ sym (ap (find n) r.1 ∙ ap (λ (x : ℕ). cond (eqb x o) w []) z ∙ rw y)
parts_are (field ns g) t f l e w cs r m s i =
    let fg = and_l (plain g) (covers ns (names g)) f in
    let c = covers_sound ns (names g) (and_r (plain g) (covers ns (names g)) f) in
    λ n k. or_empty g fg l e w cs r (parts_are g t fg l e w cs r (λ o j. m o (c o j)) (λ o j. s o (c o j)) i) n (s n k) (m n k)

-- `unfolding layoutTest` opens all that `told` and `laid` are made of
unfoldable pub layout_test : Unit {0}
unfolding filled only is_nil takes_first first laid sure single pieces same_bool same_pieces even told
layout_test = tt
