-- The scanner gives the longest viable beginning, for every good grammar.
use Rattle.std.specs.Prelude.{◌≡◌, ◌↔◌, ◌⊎◌, Bool, true, false, cond, ◌&&◌, ◌||◌, ℕ, zero, suc, ◌+◌, ◌-◌, ◌≤◌, ◌<◌, length, get_or, take, drop, replicate, leb, ltb, eqb}
use Rattle.std.proofs.Math.Path.{refl, sym}
use Rattle.std.proofs.Common.{ap, ◌∙◌, subst, inl, inr, ⊎_elim, arith, add-one, take-append-drop, length-append, length-drop, drop-cons, drop-drop, length-take-le, ltb-true, leb-true, le-leb, lt-ltb, le-ltb, eqb-true, eq-eqb}
use Rattle.std.proofs.lemmas.Bool.{false≢true}
use mathlib.Core.List.{List, [], ◌∷◌, ◌++◌, append_assoc, append-nil, head-eq_of_cons-eq, tail-eq_of_cons-eq, nil≢cons}
use Rattle.std.proofs.lemmas.List.{length-replicate}
use Rattle.std.proofs.Math.Seq.{drop-append_seam, take-append_seam, take-length}
use Rattle.scan.specs.Bools.{and_l, and_r, both, or_split, or_l, or_r, known, Decides}
use Rattle.scan.specs.declared.Scan.{Scan}
use Rattle.scan.specs.declared.Class.{Class}
use Rattle.scan.specs.declared.Class.TheVariants.{Word, Byte, Letter}
use Rattle.scan.specs.Grammar.{Ranges, has, ranges, is_in, all, text, G, eps, run, words, seq, alt, part, field, Derives, Viable}
use Rattle.scan.specs.Scanner.{run_at, run_scan, words_at, words_scan, longer, scan, from, scan_at}
use Rattle.scan.specs.Tests.{nullable, first, bytes, clear, apart, follow, some, good}

-- Sets of bytes

abbrev within : ℕ × ℕ → ℕ → Bool
within r x = leb r.0 x && leb x r.1

has_l : (c d : Ranges) (x : ℕ) → has c x ≡ true → has (c ++ d) x ≡ true
has_l [] d x e = absurd (false≢true e)
has_l (r ∷ c) d x e =
    ⊎_elim (λ p. or_l (has (c ++ d) x) (within r x) (has_l c d x p)) (λ p. or_r (has (c ++ d) x) (within r x) p)
    (or_split (has c x) (within r x) e)

has_r : (c d : Ranges) (x : ℕ) → has d x ≡ true → has (c ++ d) x ≡ true
has_r [] d x e = e
has_r (r ∷ c) d x e = or_l (has (c ++ d) x) (within r x) (has_r c d x e)

inside : (r : ℕ × ℕ) (x : ℕ) → within r x ≡ true → (r.0 ≤ x) × (x ≤ r.1)
inside r x p = (leb-true r.0 x (and_l (leb r.0 x) (leb x r.1) p), leb-true x r.1 (and_r (leb r.0 x) (leb x r.1) p))

clear_off : (r : ℕ × ℕ) (d : Ranges) (x : ℕ) → clear r d ≡ true → r.0 ≤ x → x ≤ r.1 → has d x ≡ true → ⊥
unfolding clear
clear_off r [] x e l h m = false≢true m
clear_off r (q ∷ d) x e l h m =
    let k = and_l (ltb r.1 q.0 || ltb q.1 r.0) (clear r d) e in
    ⊎_elim
    (λ p. clear_off r d x (and_r (ltb r.1 q.0 || ltb q.1 r.0) (clear r d) e) l h p)
    (λ p. let w = inside q x p in ⊎_elim (λ j. omega (arith, ltb-true r.1 q.0 j)) (λ j. omega (arith, ltb-true q.1 r.0 j)) (or_split (ltb r.1 q.0) (ltb q.1 r.0) k))
    (or_split (has d x) (within q x) m)

pub apart_off : (c d : Ranges) (x : ℕ) → apart c d ≡ true → has c x ≡ true → has d x ≡ true → ⊥
unfolding apart
apart_off [] d x e m n = false≢true m
apart_off (r ∷ c) d x e m n =
    ⊎_elim
    (λ p. apart_off c d x (and_r (clear r d) (apart c d) e) p n)
    (λ p. let w = inside r x p in clear_off r d x (and_l (clear r d) (apart c d) e) w.0 w.1 n)
    (or_split (has c x) (within r x) m)

-- Two ways to cut one list

pub data Cut (p q u v : List ℕ) : Type 0 where
  same : p ≡ u → q ≡ v → Cut p q u v
  over : (y : ℕ) (t : List ℕ) → p ≡ u ++ (y ∷ t) → v ≡ y ∷ (t ++ q) → Cut p q u v
  under : (y : ℕ) (t : List ℕ) → u ≡ p ++ (y ∷ t) → q ≡ y ∷ (t ++ v) → Cut p q u v

pub cut : (p q u v : List ℕ) → p ++ q ≡ u ++ v → Cut p q u v
cut [] q [] v e = same refl e
cut [] q (y ∷ u) v e = under y u refl e
cut (x ∷ p) q [] v e = over x p refl (sym e)
cut (x ∷ p) q (y ∷ u) v e = go (cut p q u v (tail-eq_of_cons-eq e))
  where
    go : Cut p q u v → Cut (x ∷ p) q (y ∷ u) v
    go (same a b) = same (cc (head-eq_of_cons-eq e)) b
    go (over z t a b) = over z t (cc (head-eq_of_cons-eq e)) b
    go (under z t a b) = under z t (cc (head-eq_of_cons-eq e)) b

-- The longest viable beginning p of p ++ q in a language L, and whether it is whole

pub record Best (L : List ℕ → Type 0) (p q : List ℕ) (o : Bool) : Type 0 where
  pub viable : (v : List ℕ) × L (p ++ v)
  pub stop : (x : ℕ) (r v : List ℕ) → q ≡ x ∷ r → L (p ++ (x ∷ v)) → ⊥
  pub whole : o ≡ true → L p
  pub only : L p → o ≡ true

-- where b follows a: no byte that starts a b carries a whole a on
unfoldable pub Parted : (List ℕ → Type 0) → (List ℕ → Type 0) → Type 0
Parted A B = (x : ℕ) (u v w : List ℕ) → A u → A (u ++ (x ∷ v)) → B (x ∷ w) → ⊥

abbrev Seq : (List ℕ → Type 0) → (List ℕ → Type 0) → List ℕ → Type 0
Seq A B w = (u : List ℕ) × (v : List ℕ) × (w ≡ u ++ v) × A u × B v

-- the first byte of p ++ x ∷ v is that of p ++ x ∷ r
same_head : (p : List ℕ) (x : ℕ) (r v : List ℕ) (y : ℕ) (t : List ℕ) → p ++ (x ∷ v) ≡ y ∷ t → (m : List ℕ) × (p ++ (x ∷ r) ≡ y ∷ m)
same_head [] x r v y t e = (r, (cc (head-eq_of_cons-eq e)))
same_head (z ∷ p) x r v y t e = (p ++ (x ∷ r), (cc (head-eq_of_cons-eq e)))

module _ (A B : List ℕ → Type 0) (parted : Parted A B) where
  best_seq : (p p' q : List ℕ) (o : Bool) → Best A p (p' ++ q) true → Best B p' q o → Best (Seq A B) (p ++ p') q o
  unfolding Parted
  best_seq p p' q o α β = record {
    viable = (β.viable.0, (p, p' ++ β.viable.0, append_assoc p p' _, α.whole refl, β.viable.1));
    stop = λ x r v e d. stops x r v e d (cut p (p' ++ (x ∷ v)) d.0 d.1 (sym (append_assoc p p' _) ∙ d.2));
    whole = λ e. (p, p', refl, α.whole refl, β.whole e);
    only = λ d. onlys d (cut p p' d.0 d.1 d.2);
  }
    where
      stops : (x : ℕ) (r v : List ℕ) → q ≡ x ∷ r → (d : Seq A B ((p ++ p') ++ (x ∷ v))) → Cut p (p' ++ (x ∷ v)) d.0 d.1 → ⊥
      stops x r v e d (same a b) = β.stop x r v e (rw b d.4)
      stops x r v e d (over y t a b) = parted y d.0 t (t ++ (p' ++ (x ∷ v))) d.3 (rw a at (α.whole refl)) (rw b at d.4)
      stops x r v e d (under y t a b) =
          let h = same_head p' x r v y (t ++ d.1) b in
          α.stop y h.0 t (rw e h.1) (rw a at d.3)

      onlys : (d : Seq A B (p ++ p')) → Cut p p' d.0 d.1 → o ≡ true
      onlys d (same a b) = β.only (rw b d.4)
      onlys d (over y t a b) = absurd (parted y d.0 t (t ++ p') d.3 (rw a at (α.whole refl)) (rw b at d.4))
      onlys d (under y t a b) = absurd (α.stop y ((t ++ d.1) ++ q) t (rw b) (rw a at d.3))

  best_seq_part : (p q : List ℕ) → Best A p q false → (z : List ℕ) → B z → Best (Seq A B) p q false
  unfolding Parted
  best_seq_part p q α z bz = record {
    viable = (α.viable.0 ++ z, (p ++ α.viable.0, z, sym (append_assoc p _ z), α.viable.1, bz));
    stop = λ x r v e d. stops x r v e d (cut p (x ∷ v) d.0 d.1 d.2);
    whole = λ e. absurd (false≢true e);
    only = λ d. onlys d (cut p [] d.0 d.1 (append-nil p ∙ d.2));
  }
    where
      overs : (u : List ℕ) (y : ℕ) (t w : List ℕ) → p ≡ u ++ (y ∷ t) → A u → B (y ∷ w) → ⊥
      overs u y t w e a b = parted y u (t ++ α.viable.0) w a (subst A (ap (λ (l : List ℕ). l ++ α.viable.0) e ∙ append_assoc u (y ∷ t) _) α.viable.1) b

      stops : (x : ℕ) (r v : List ℕ) → q ≡ x ∷ r → (d : Seq A B (p ++ (x ∷ v))) → Cut p (x ∷ v) d.0 d.1 → ⊥
      stops x r v e d (same a b) = false≢true (α.only (rw a d.3))
      stops x r v e d (over y t a b) = overs d.0 y t _ a d.3 (rw b at d.4)
      stops x r v e d (under y t a b) = α.stop x r t e (subst A (a ∙ (cc (head-eq_of_cons-eq b))) d.3)

      onlys : (d : Seq A B p) → Cut p [] d.0 d.1 → false ≡ true
      onlys d (same a b) = α.only (rw a d.3)
      onlys d (over y t a b) = absurd (overs d.0 y t _ a d.3 (rw b at d.4))
      onlys d (under y t a b) = absurd (nil≢cons b)

abbrev Alt : (List ℕ → Type 0) → (List ℕ → Type 0) → List ℕ → Type 0
Alt A B w = A w ⊎ B w

module _ (A B : List ℕ → Type 0) where
  -- where B stops first
  best_left : (p q p' q' : List ℕ) (o o' : Bool) (y : ℕ) (t : List ℕ) → p ≡ p' ++ (y ∷ t) → q' ≡ y ∷ (t ++ q) → Best A p q o → Best B p' q' o' → Best (Alt A B) p q o
  best_left p q p' q' o o' y t e e' α β = record {
    viable = (α.viable.0, inl α.viable.1);
    stop = λ x r v h d. ⊎_elim (α.stop x r v h) (λ b. never (x ∷ v) b) d;
    whole = λ h. inl (α.whole h);
    only = λ d. ⊎_elim α.only (λ b. absurd (never [] (rw append-nil b))) d;
  }
    where
      never : (w : List ℕ) → B (p ++ w) → ⊥
      never w b = β.stop y (t ++ q) (t ++ w) e' (subst B (ap (λ (l : List ℕ). l ++ w) e ∙ append_assoc p' (y ∷ t) w) b)

  best_right : (p q p' q' : List ℕ) (o o' : Bool) (y : ℕ) (t : List ℕ) → p' ≡ p ++ (y ∷ t) → q ≡ y ∷ (t ++ q') → Best A p q o → Best B p' q' o' → Best (Alt A B) p' q' o'
  best_right p q p' q' o o' y t e e' α β = record {
    viable = (β.viable.0, inr β.viable.1);
    stop = λ x r v h d. ⊎_elim (λ a. never (x ∷ v) a) (β.stop x r v h) d;
    whole = λ h. inr (β.whole h);
    only = λ d. ⊎_elim (λ a. absurd (never [] (rw append-nil a))) β.only d;
  }
    where
      never : (w : List ℕ) → A (p' ++ w) → ⊥
      never w a = α.stop y (t ++ q') (t ++ w) e' (subst A (ap (λ (l : List ℕ). l ++ w) e ∙ append_assoc p (y ∷ t) w) a)

  best_both : (p q : List ℕ) (o o' : Bool) → Best A p q o → Best B p q o' → Best (Alt A B) p q (o || o')
  best_both p q o o' α β = record {
    viable = (α.viable.0, inl α.viable.1);
    stop = λ x r v h d. ⊎_elim (α.stop x r v h) (β.stop x r v h) d;
    whole = λ h. ⊎_elim (λ e. inl (α.whole e)) (λ e. inr (β.whole e)) (or_split o o' h);
    only = λ d. ⊎_elim (λ a. or_l o o' (α.only a)) (λ b. or_r o o' (β.only b)) d;
  }

-- one byte more in front
best_cons : (L L' : List ℕ → Type 0) (x : ℕ) → ((w : List ℕ) → L w → L' (x ∷ w)) → ((w : List ℕ) → L' (x ∷ w) → L w) → (p q : List ℕ) (o : Bool) → Best L p q o → Best L' (x ∷ p) q o
best_cons L L' x to of p q o β = record {
  viable = (β.viable.0, to _ β.viable.1);
  stop = λ y r v e d. β.stop y r v e (of _ d);
  whole = λ e. to p (β.whole e);
  only = λ d. β.only (of p d);
}

-- What the tests say of what a grammar derives

pub null_sound : (g : G) → Derives g [] → nullable g ≡ true
unfolding nullable text
null_sound eps d = refl
null_sound (run c lo hi) d = le-leb lo 0 d.1
null_sound (words k) d = d.0
null_sound (seq a b) d = go (null_sound a) (null_sound b) d.0 d.1 d.2 d.3 d.4
  where
    go : (Derives a [] → nullable a ≡ true) → (Derives b [] → nullable b ≡ true) → (u v : List ℕ) → [] ≡ u ++ v → Derives a u → Derives b v → nullable a && nullable b ≡ true
    go f h [] [] e da db = both _ _ (f da) (h db)
    go f h [] (y ∷ v) e da db = absurd (nil≢cons e)
    go f h (y ∷ u) v e da db = absurd (nil≢cons e)
null_sound (alt a b) d = ⊎_elim (λ l. or_l (nullable a) (nullable b) (null_sound a l)) (λ r. or_r (nullable a) (nullable b) (null_sound b r)) d
null_sound (part n g) d = null_sound g d
null_sound (field ns g) d = null_sound g d

-- what a first byte of a Seq is
seq_first : (A B : List ℕ → Type 0) (x : ℕ) (w : List ℕ) → Seq A B (x ∷ w) → (A [] × B (x ∷ w)) ⊎ ((t : List ℕ) × A (x ∷ t))
seq_first A B x w d = go d.0 d.2 d.3
  where
    go : (u : List ℕ) → x ∷ w ≡ u ++ d.1 → A u → (A [] × B (x ∷ w)) ⊎ ((t : List ℕ) × A (x ∷ t))
    go [] e a = inl (a, rw e d.4)
    go (y ∷ u) e a = inr (u, rw (head-eq_of_cons-eq e) a)

pub first_sound : (g : G) (x : ℕ) (w : List ℕ) → Derives g (x ∷ w) → has (first g) x ≡ true
unfolding first all text
first_sound eps x w d = absurd (nil≢cons (sym d))
first_sound (run c lo hi) x w d = and_l (is_in c x) (all c w) d.0
first_sound (words k) x w d = ⊎_elim (λ e. e) (λ e. absurd (false≢true (rw e at d.0))) (known (is_in Word x))
first_sound (seq a b) x w d =
    ⊎_elim
    (λ h. has_r (first a) (cond (nullable a) (first b) []) x (rw (null_sound a h.0) (first_sound b x w h.1)))
    (λ h. has_l (first a) (cond (nullable a) (first b) []) x (first_sound a x h.0 h.1))
    (seq_first (Derives a) (Derives b) x w d)
first_sound (alt a b) x w d = ⊎_elim (λ l. has_l (first a) (first b) x (first_sound a x w l)) (λ r. has_r (first a) (first b) x (first_sound b x w r)) d
first_sound (part n g) x w d = first_sound g x w d
first_sound (field ns g) x w d = first_sound g x w d

all_at : (c : Class) (u : List ℕ) (x : ℕ) (v : List ℕ) → all c (u ++ (x ∷ v)) ≡ true → is_in c x ≡ true
unfolding all
all_at c [] x v e = and_l (is_in c x) (all c v) e
all_at c (y ∷ u) x v e = all_at c u x v (and_r (is_in c y) (all c (u ++ (x ∷ v))) e)

text_head : (m : Bool) (x : ℕ) (v : List ℕ) → text m (x ∷ v) ≡ true → (is_in Word x ≡ true) ⊎ ((m ≡ true) × (is_in (Byte 32) x ≡ true) × (text false v ≡ true))
unfolding text
text_head m x v e =
    ⊎_elim inl
    (λ n.
    let h : m && is_in (Byte 32) x && text false v ≡ true = rw n at e in
    let l = and_l (m && is_in (Byte 32) x) (text false v) h in
    inr (and_l m (is_in (Byte 32) x) l, and_r m (is_in (Byte 32) x) l, and_r (m && is_in (Byte 32) x) (text false v) h))
    (known (is_in Word x))

text_at : (m : Bool) (u : List ℕ) (x : ℕ) (v : List ℕ) → text m (u ++ (x ∷ v)) ≡ true → has ((32, 32) ∷ ranges Word) x ≡ true
unfolding text
text_at m [] x v e = ⊎_elim (λ h. or_l (is_in Word x) (within (32, 32) x) h) (λ h. or_r (is_in Word x) (within (32, 32) x) h.1) (text_head m x v e)
text_at m (y ∷ u) x v e =
    ⊎_elim
    (λ h. text_at true u x v (rw h at e))
    (λ h. text_at false u x v (and_r (m && is_in (Byte 32) y) (text false (u ++ (x ∷ v))) (rw h at e)))
    (known (is_in Word y))

-- where a byte of a Seq stands
seq_byte : (A B : List ℕ → Type 0) (u : List ℕ) (x : ℕ) (v : List ℕ) → Seq A B (u ++ (x ∷ v)) → ((t : List ℕ) × A (u ++ (x ∷ t))) ⊎ ((t : List ℕ) × B (t ++ (x ∷ v)))
seq_byte A B u x v d = go (cut u (x ∷ v) d.0 d.1 d.2)
  where
    go : Cut u (x ∷ v) d.0 d.1 → ((t : List ℕ) × A (u ++ (x ∷ t))) ⊎ ((t : List ℕ) × B (t ++ (x ∷ v)))
    go (same h k) = inr ([], rw k d.4)
    go (over y t h k) = inr (y ∷ t, rw k at d.4)
    go (under y t h k) = inl (t, rw (head-eq_of_cons-eq k) (rw h at d.3))

no_byte : (u : List ℕ) (x : ℕ) (v : List ℕ) → u ++ (x ∷ v) ≡ [] → ⊥
no_byte [] x v e = nil≢cons (sym e)
no_byte (y ∷ u) x v e = nil≢cons (sym e)

bytes_sound : (g : G) (u : List ℕ) (x : ℕ) (v : List ℕ) → Derives g (u ++ (x ∷ v)) → has (bytes g) x ≡ true
unfolding bytes
bytes_sound eps u x v d = absurd (no_byte u x v d)
bytes_sound (run c lo hi) u x v d = all_at c u x v d.0
bytes_sound (words k) u x v d = text_at false u x v d.0
bytes_sound (seq a b) u x v d =
    ⊎_elim (λ h. has_l (bytes a) (bytes b) x (bytes_sound a u x h.0 h.1)) (λ h. has_r (bytes a) (bytes b) x (bytes_sound b h.0 x v h.1))
    (seq_byte (Derives a) (Derives b) u x v d)
bytes_sound (alt a b) u x v d = ⊎_elim (λ l. has_l (bytes a) (bytes b) x (bytes_sound a u x v l)) (λ r. has_r (bytes a) (bytes b) x (bytes_sound b u x v r)) d
bytes_sound (part n g) u x v d = bytes_sound g u x v d
bytes_sound (field ns g) u x v d = bytes_sound g u x v d

pub good_a : (a b : Bool) (c : Bool) → a && b && c ≡ true → a ≡ true
good_a a b c e = and_l a b (and_l (a && b) c e)

pub good_b : (a b : Bool) (c : Bool) → a && b && c ≡ true → b ≡ true
good_b a b c e = and_r a b (and_l (a && b) c e)

-- what can carry a whole Seq on: what carries its second part on, or its first where the second is empty
abbrev Carries : (List ℕ → Type 0) → ℕ → Type 0
Carries L x = (u : List ℕ) × (v : List ℕ) × L u × L (u ++ (x ∷ v))

seq_carries : (A B : List ℕ → Type 0) → Parted A B → (x : ℕ) (u v : List ℕ) → Seq A B u → Seq A B (u ++ (x ∷ v)) → (B [] × Carries A x) ⊎ ((t : List ℕ) × B t × B (t ++ (x ∷ v)))
unfolding Parted
seq_carries A B parted x u v d f =
    go d.1 d.4 (cut d.0 (d.1 ++ (x ∷ v)) f.0 f.1 (sym (append_assoc d.0 d.1 _) ∙ ap (λ (l : List ℕ). l ++ (x ∷ v)) (sym d.2) ∙ f.2))
  where
    go : (w : List ℕ) → B w → Cut d.0 (w ++ (x ∷ v)) f.0 f.1 → (B [] × Carries A x) ⊎ ((t : List ℕ) × B t × B (t ++ (x ∷ v)))
    go w b (same h k) = inr (w, b, rw k f.4)
    go w b (over y t h k) = absurd (parted y f.0 t _ f.3 (rw h at d.3) (rw k at f.4))
    go [] b (under y t h k) = inl (b, (d.0, t, d.3, rw (head-eq_of_cons-eq k) (rw h at f.3)))
    go (z ∷ w) b (under y t h k) = absurd (parted y d.0 t w d.3 (rw h at f.3) (rw (head-eq_of_cons-eq k) at b))

-- where the tests say so, no byte that starts a b carries a whole a on
parts : (a b : G) → apart (follow a) (first b) ≡ true → ((x : ℕ) (u v : List ℕ) → Derives a u → Derives a (u ++ (x ∷ v)) → has (follow a) x ≡ true) → Parted (Derives a) (Derives b)
unfolding Parted
parts a b e f x u v w du dv dw = apart_off (follow a) (first b) x e (f x u v du dv) (first_sound b x w dw)

follow_sound : (g : G) → good g ≡ true → (x : ℕ) (u v : List ℕ) → Derives g u → Derives g (u ++ (x ∷ v)) → has (follow g) x ≡ true
unfolding follow good
follow_sound eps e x u v d f = absurd (no_byte u x v f)
follow_sound (run c lo hi) e x u v d f =
    let h : ltb lo hi ≡ true = lt-ltb lo hi (omega (arith, simp length-append at f.2)) in
    rw h (all_at c u x v f.0)
follow_sound (words k) e x u v d f = text_at false u x v f.0
follow_sound (seq a b) e x u v d f =
    let fa = follow_sound a (good_a (good a) (good b) (apart (follow a) (first b)) e) in
    let fb = follow_sound b (good_b (good a) (good b) (apart (follow a) (first b)) e) in
    ⊎_elim
    (λ c. has_r (follow b) (cond (nullable b) (follow a) []) x (rw (null_sound b c.0) (fa x c.1.0 c.1.1 c.1.2 c.1.3)))
    (λ c. has_l (follow b) (cond (nullable b) (follow a) []) x (fb x c.0 v c.1 c.2))
    (seq_carries (Derives a) (Derives b) (parts a b (and_r (good a && good b) (apart (follow a) (first b)) e) fa) x u v d f)
follow_sound (alt a b) e x u v d f =
    ⊎_elim
    (λ p. rw p (go p u d f (follow_sound a (and_l (good a) (good b) e) x u v) (follow_sound b (and_r (good a) (good b) e) x u v)))
    (λ p. rw p (⊎_elim (λ l. has_l (bytes a) (bytes b) x (bytes_sound a u x v l)) (λ r. has_r (bytes a) (bytes b) x (bytes_sound b u x v r)) f))
    (known (apart (first a) (first b)))
  where
    na : Ranges
    na = cond (nullable a) (first b) []

    nb : Ranges
    nb = cond (nullable b) (first a) []

    cross : apart (first a) (first b) ≡ true → (u : List ℕ) → Derives a u → Derives b (u ++ (x ∷ v)) → has (follow a ++ follow b ++ (na ++ nb)) x ≡ true
    cross p [] da db = has_r (follow a ++ follow b) (na ++ nb) x (has_l na nb x (rw (null_sound a da) (first_sound b x v db)))
    cross p (z ∷ u) da db = absurd (apart_off (first a) (first b) z p (first_sound a z u da) (first_sound b z _ db))

    cross' : apart (first a) (first b) ≡ true → (u : List ℕ) → Derives b u → Derives a (u ++ (x ∷ v)) → has (follow a ++ follow b ++ (na ++ nb)) x ≡ true
    cross' p [] db da = has_r (follow a ++ follow b) (na ++ nb) x (has_r na nb x (rw (null_sound b db) (first_sound a x v da)))
    cross' p (z ∷ u) db da = absurd (apart_off (first a) (first b) z p (first_sound a z _ da) (first_sound b z u db))

    go : apart (first a) (first b) ≡ true → (u : List ℕ) → Derives a u ⊎ Derives b u → Derives a (u ++ (x ∷ v)) ⊎ Derives b (u ++ (x ∷ v)) → (Derives a u → Derives a (u ++ (x ∷ v)) → has (follow a) x ≡ true) → (Derives b u → Derives b (u ++ (x ∷ v)) → has (follow b) x ≡ true) → has (follow a ++ follow b ++ (na ++ nb)) x ≡ true
    go w u (inl p) (inl q) fa fb = has_l (follow a ++ follow b) (na ++ nb) x (has_l (follow a) (follow b) x (fa p q))
    go w u (inl p) (inr q) fa fb = cross w u p q
    go w u (inr p) (inl q) fa fb = cross' w u p q
    go w u (inr p) (inr q) fa fb = has_l (follow a ++ follow b) (na ++ nb) x (has_r (follow a) (follow b) x (fb p q))
follow_sound (part n g) e x u v d f = follow_sound g e x u v d f
follow_sound (field ns g) e x u v d f = follow_sound g e x u v d f

pub parted_of : (a b : G) → good (seq a b) ≡ true → Parted (Derives a) (Derives b)
unfolding good
parted_of a b e = parts a b (and_r (good a && good b) (apart (follow a) (first b)) e) (follow_sound a (good_a (good a) (good b) (apart (follow a) (first b)) e))

-- The primitives

dropped : (s : List ℕ) (at x : ℕ) (r : List ℕ) → drop at s ≡ x ∷ r → (at < length s) × (get_or s at 0 ≡ x)
dropped s at x r e =
    let h : at < length s = omega (arith, simp length-drop at (ap length e)) in
    (h, head-eq_of_cons-eq (sym (drop-cons s at 0 h) ∙ e))

drop_next : (s : List ℕ) (at : ℕ) → at < length s → drop at s ≡ get_or s at 0 ∷ drop (at + 1) s
drop_next s at h = rw (add-one, drop-cons s at 0)

record Ran (c : Class) (k : ℕ) (s : List ℕ) (at : ℕ) : Type 0 where
  p : List ℕ
  q : List ℕ
  cuts : drop at s ≡ p ++ q
  next : run_at c k s at ≡ at + length p
  alls : all c p ≡ true
  short : length p ≤ k
  off : (x : ℕ) (r : List ℕ) → q ≡ x ∷ r → length p < k → is_in c x ≡ true → ⊥

ran : (c : Class) (k : ℕ) (s : List ℕ) (at : ℕ) → Ran c k s at
unfolding run_at all
ran c zero s at = record { p = []; q = drop at s; cuts = refl; next = omega arith; alls = refl; short = omega arith; off = λ x r e h. absurd (omega arith) }
ran c (suc k) s at = go (ran c k s (at + 1)) (known (ltb at (length s) && is_in c (get_or s at 0)))
  where
    go : Ran c k s (at + 1) → (ltb at (length s) && is_in c (get_or s at 0) ≡ true) ⊎ (ltb at (length s) && is_in c (get_or s at 0) ≡ false) → Ran c (suc k) s at
    go ρ (inl e) =
        let h : at < length s = ltb-true _ _ (and_l (ltb at (length s)) (is_in c (get_or s at 0)) e) in
        record {
          p = get_or s at 0 ∷ ρ.p;
          q = ρ.q;
          cuts = drop_next s at h ∙ ap (λ (l : List ℕ). get_or s at 0 ∷ l) ρ.cuts;
          next = rw e (omega (arith, ρ.next));
          alls = both (is_in c (get_or s at 0)) (all c ρ.p) (and_r (ltb at (length s)) (is_in c (get_or s at 0)) e) ρ.alls;
          short = omega (arith, ρ.short);
          off = λ x r f l i. ρ.off x r f (omega arith) i;
        }
    go ρ (inr e) = record {
      p = [];
      q = drop at s;
      cuts = refl;
      next = rw e (omega arith);
      alls = refl;
      short = omega arith;
      off = λ x r f l i.
          let h = dropped s at x r f in
          false≢true (sym e ∙ both (ltb at (length s)) (is_in c (get_or s at 0)) (lt-ltb at (length s) h.0) (rw h.1 i));
    }

-- the scan of g at a place of s: how far, and what of the rest
pub record Right (L : List ℕ → Type 0) (s : List ℕ) (at : ℕ) (r : Scan) : Type 0 where
  pub p : List ℕ
  pub q : List ℕ
  pub cuts : drop at s ≡ p ++ q
  pub next : r.next ≡ at + length p
  pub best : Best L p q r.ok

all_append : (c : Class) (u v : List ℕ) → all c u ≡ true → all c v ≡ true → all c (u ++ v) ≡ true
unfolding all
all_append c [] v p q = q
all_append c (x ∷ u) v p q = both (is_in c x) (all c (u ++ v)) (and_l (is_in c x) (all c u) p) (all_append c u v (and_r (is_in c x) (all c u) p) q)

all_replicate : (c : Class) (x : ℕ) → is_in c x ≡ true → (n : ℕ) → all c (replicate n x) ≡ true
unfolding all
all_replicate c x e zero = refl
all_replicate c x e (suc n) = both (is_in c x) (all c (replicate n x)) e (all_replicate c x e n)

right_run : (c : Class) (lo hi : ℕ) → good (run c lo hi) ≡ true → (s : List ℕ) (at : ℕ) → Right (Derives (run c lo hi)) s at (scan_at (run c lo hi) s at)
unfolding good run_scan
right_run c lo hi e s at = go (ran c hi s at)
  where
    go : Ran c hi s at → Right (Derives (run c lo hi)) s at (record { next = run_at c hi s at; ok = leb lo (run_at c hi s at - at) })
    go ρ =
        let h : run_at c hi s at - at ≡ length ρ.p = omega (arith, ρ.next) in
        let n : ℕ = lo - length ρ.p in
        let x : ℕ = some (ranges c) in
        let l : length (ρ.p ++ replicate n x) ≡ length ρ.p + n = length-append ρ.p (replicate n x) ∙ ap (λ (k : ℕ). length ρ.p + k) (length-replicate n x) in
        let b : lo ≤ hi = leb-true lo hi (and_l (leb lo hi) (is_in c x) e) in
        record {
          p = ρ.p;
          q = ρ.q;
          cuts = ρ.cuts;
          next = ρ.next;
          best = record {
            viable = (replicate n x, (all_append c ρ.p (replicate n x) ρ.alls (all_replicate c x (and_r (leb lo hi) (is_in c x) e) n), omega (arith, l), omega (arith, l, ρ.short)));
            stop = λ y r v f d. ρ.off y r f (omega (arith, simp length-append at d.2)) (all_at c ρ.p y v d.0);
            whole = λ f. (ρ.alls, omega (arith, h, leb-true lo (run_at c hi s at - at) f), ρ.short);
            only = λ d. le-leb lo (run_at c hi s at - at) (omega (arith, h, d.1));
          };
        }

-- words of at most k bytes, after a word byte or not
abbrev Words : ℕ → Bool → List ℕ → Type 0
Words k m w = (text m w ≡ true) × (length w ≤ k)

text_some : (v : List ℕ) → text false v ≡ true → 0 < length v
unfolding text
text_some [] e = absurd (false≢true e)
text_some (x ∷ v) e = omega arith

words_viable : (m : Bool) (k : ℕ) → (m ≡ true) ⊎ (0 < k) → (v : List ℕ) × Words k m v
unfolding text
words_viable true k h = ([], (refl, omega arith))
words_viable false k (inl e) = absurd (false≢true e)
words_viable false k (inr h) = (65 ∷ [], (refl, omega arith))

right_words : (k : ℕ) (m : Bool) → (m ≡ true) ⊎ (0 < k) → (s : List ℕ) (at : ℕ) → Right (Words k m) s at (words_at k m s at)
unfolding words_at text
right_words zero m h s at = record {
  p = [];
  q = drop at s;
  cuts = refl;
  next = omega arith;
  best = record {
    viable = words_viable m zero h;
    stop = λ x r v e d. omega (arith, d.1);
    whole = λ e. (e, omega arith);
    only = λ d. d.0;
  };
}
right_words (suc k) m h s at =
    go (right_words k true (inl refl) s (at + 1)) (λ l. right_words k false (inr l) s (at + 1)) (known (ltb at (length s) && is_in Word x)) (known (ltb at (length s) && (m && is_in (Byte 32) x) && ltb 0 k))
  where
    x : ℕ
    x = get_or s at 0

    here : Bool
    here = ltb at (length s)

    goal : Type 0
    goal =
        Right (Words (suc k) m) s at
        (cond (here && is_in Word x)
        (words_at k true s (at + 1))
        (cond (here && (m && is_in (Byte 32) x) && ltb 0 k) (words_at k false s (at + 1)) (record { next = at; ok = m })))

    cons : (r : Scan) (m' : Bool) → at < length s → ((w : List ℕ) → text m (x ∷ w) ≡ text m' w) → Right (Words k m') s (at + 1) r → Right (Words (suc k) m) s at r
    cons r m' l f ρ = record {
      p = x ∷ ρ.p;
      q = ρ.q;
      cuts = drop_next s at l ∙ ap (λ (l : List ℕ). x ∷ l) ρ.cuts;
      next = omega (arith, ρ.next);
      best = best_cons (Words k m') (Words (suc k) m) x (λ w d. (f w ∙ d.0, omega (arith, d.1))) (λ w d. (sym (f w) ∙ d.0, omega (arith, d.1))) ρ.p ρ.q r.ok ρ.best;
    }

    go : Right (Words k true) s (at + 1) (words_at k true s (at + 1)) → (0 < k → Right (Words k false) s (at + 1) (words_at k false s (at + 1))) → (here && is_in Word x ≡ true) ⊎ (here && is_in Word x ≡ false) → (here && (m && is_in (Byte 32) x) && ltb 0 k ≡ true) ⊎ (here && (m && is_in (Byte 32) x) && ltb 0 k ≡ false) → goal
    go ρ σ (inl e) f = rw e (cons _ true (ltb-true at (length s) (and_l here (is_in Word x) e)) (λ w. rw (and_r here (is_in Word x) e)) ρ)
    go ρ σ (inr e) (inl f) =
        let f₁ = and_l (here && (m && is_in (Byte 32) x)) (ltb 0 k) f in
        let l = and_l here (m && is_in (Byte 32) x) f₁ in
        let b = and_r here (m && is_in (Byte 32) x) f₁ in
        let n : is_in Word x ≡ false = ⊎_elim (λ i. absurd (false≢true (sym e ∙ both here (is_in Word x) l i))) (λ i. i) (known (is_in Word x)) in
        rw (e, f) (cons _ false (ltb-true at (length s) l) (λ w. rw (n, b)) (σ (ltb-true 0 k (and_r (here && (m && is_in (Byte 32) x)) (ltb 0 k) f))))
    go ρ σ (inr e) (inr f) = rw (e, f) (record {
      p = [];
      q = drop at s;
      cuts = refl;
      next = omega arith;
      best = record {
        viable = words_viable m (suc k) h;
        stop = λ y r v g d.
            let j = dropped s at y r g in
            let l : here ≡ true = lt-ltb at (length s) j.0 in
            ⊎_elim
            (λ i. false≢true (sym e ∙ both here (is_in Word x) l (rw j.1 i)))
            (λ i. false≢true (sym f ∙ both (here && (m && is_in (Byte 32) x)) (ltb 0 k) (both here (m && is_in (Byte 32) x) l (both m (is_in (Byte 32) x) i.0 (rw j.1 i.1))) (lt-ltb 0 k (omega (arith, text_some v i.2, d.1)))))
            (text_head m y v d.0);
        whole = λ e. (e, omega arith);
        only = λ d. d.0;
      };
    })

-- a scan that is not whole stays
longer_same : (r : Scan) → r.ok ≡ false → longer r r ≡ r
unfolding longer
longer_same r e = rw (le-ltb r.next r.next (omega arith), e)

pub skip : (g : G) (s : List ℕ) (r : Scan) → r.ok ≡ false → scan g s r ≡ r
unfolding run_scan words_scan
skip eps s r e = refl
skip (run c lo hi) s r e = rw e
skip (words k) s r e = rw e
skip (seq a b) s r e = ap (scan b s) (skip a s r e) ∙ skip b s r e
skip (alt a b) s r e = rw (skip a s r e, skip b s r e) (longer_same r e)
skip (part n g) s r e = skip g s r e
skip (field ns g) s r e = skip g s r e

right_eps : (s : List ℕ) (at : ℕ) → Right (λ w. w ≡ []) s at (from at)
right_eps s at = record {
  p = [];
  q = drop at s;
  cuts = refl;
  next = omega arith;
  best = record { viable = ([], refl); stop = λ x r v f d. nil≢cons (sym d); whole = λ f. refl; only = λ d. refl };
}

-- one after another
right_seq : (A B : List ℕ → Type 0) → Parted A B → (s : List ℕ) (at : ℕ) (r : Scan) (h : Scan → Scan) → Right A s at r → ((s : List ℕ) → (z : List ℕ) × B z) → ((i : ℕ) → Right B s i (h (from i))) → (r.ok ≡ false → h r ≡ r) → Right (Seq A B) s at (h r)
right_seq A B parted s at r h α z β stays = go (known r.ok)
  where
    go : (r.ok ≡ true) ⊎ (r.ok ≡ false) → Right (Seq A B) s at (h r)
    go (inl o) =
        let ρ = β r.next in
        let d : α.q ≡ ρ.p ++ ρ.q = sym (drop-append_seam α.p α.q) ∙ ap (λ (l : List ℕ). drop (length α.p) l) (sym α.cuts) ∙ drop-drop (length α.p) at s ∙ ap (λ (n : ℕ). drop n s) (sym α.next) ∙ ρ.cuts in
        let w : r ≡ from r.next = λ i. record { next = r.next; ok = o i } in
        subst (λ (y : Scan). Right (Seq A B) s at (h y)) (sym w) (record {
          p = α.p ++ ρ.p;
          q = ρ.q;
          cuts = α.cuts ∙ ap (λ (l : List ℕ). α.p ++ l) d ∙ sym (append_assoc α.p ρ.p ρ.q);
          next = omega (arith, ρ.next, α.next, length-append α.p ρ.p);
          best = best_seq A B parted α.p ρ.p ρ.q (h (from r.next)).ok (rw (o, d) at α.best) ρ.best;
        })
    go (inr o) = rw (stays o) (record {
      p = α.p;
      q = α.q;
      cuts = α.cuts;
      next = α.next;
      best = rw o (best_seq_part A B parted α.p α.q (rw o at α.best) (z s).0 (z s).1);
    })

-- the longer of two
right_alt : (A B : List ℕ → Type 0) (s : List ℕ) (at : ℕ) (r q : Scan) → Right A s at r → Right B s at q → Right (Alt A B) s at (longer r q)
unfolding longer
right_alt A B s at r q α β = of (cut α.p α.q β.p β.q (sym α.cuts ∙ β.cuts))
  where
    of : Cut α.p α.q β.p β.q → Right (Alt A B) s at (cond (ltb r.next q.next) q (cond (ltb q.next r.next) r (record { next = r.next; ok = r.ok || q.ok })))
    of (same h k) =
        let n : r.next ≡ q.next = α.next ∙ ap (λ (l : List ℕ). at + length l) h ∙ sym β.next in
        rw (le-ltb r.next q.next (omega arith), le-ltb q.next r.next (omega arith))
        (record { p = α.p; q = α.q; cuts = α.cuts; next = α.next; best = best_both A B α.p α.q r.ok q.ok α.best (rw (h, k) β.best) })
    of (over y t h k) =
        let n : q.next < r.next = omega (arith, α.next, β.next, ap length h, length-append β.p (y ∷ t)) in
        rw (le-ltb r.next q.next (omega arith), lt-ltb q.next r.next n)
        (record { p = α.p; q = α.q; cuts = α.cuts; next = α.next; best = best_left A B α.p α.q β.p β.q r.ok q.ok y t h k α.best β.best })
    of (under y t h k) =
        let n : r.next < q.next = omega (arith, α.next, β.next, ap length h, length-append α.p (y ∷ t)) in
        rw (lt-ltb r.next q.next n)
        (record { p = β.p; q = β.q; cuts = β.cuts; next = β.next; best = best_right A B α.p α.q β.p β.q r.ok q.ok y t h k α.best β.best })

-- The theorem, at any place of the text
pub right : (g : G) → good g ≡ true → (s : List ℕ) (at : ℕ) → Right (Derives g) s at (scan_at g s at)
unfolding good words_scan
right eps e s at = right_eps s at
right (run c lo hi) e s at = right_run c lo hi e s at
right (words k) e s at = right_words k false (inr (ltb-true 0 k e)) s at
right (seq a b) e s at =
    let β = right b (good_b (good a) (good b) (apart (follow a) (first b)) e) in
    right_seq (Derives a) (Derives b) (parted_of a b e) s at (scan_at a s at) (scan b s) (right a (good_a (good a) (good b) (apart (follow a) (first b)) e) s at)
    (λ _. let ρ = β [] 0 in (ρ.p ++ ρ.best.viable.0, ρ.best.viable.1)) (β s) (skip b s (scan_at a s at))
right (alt a b) e s at =
    right_alt (Derives a) (Derives b) s at (scan_at a s at) (scan_at b s at) (right a (and_l (good a) (good b) e) s at) (right b (and_r (good a) (good b) e) s at)
right (part n g) e s at = right g e s at
right (field ns g) e s at = right g e s at

-- THE STATEMENT: the place of a text, and whether it is accepted
pub record Place (g : G) (s : List ℕ) (r : Scan) : Type 0 where
  pub within : r.next ≤ length s
  pub viable : Viable g (take r.next s)
  pub longest : (n : ℕ) → n ≤ length s → Viable g (take n s) → n ≤ r.next
  pub whole : (r.ok ≡ true) ↔ Derives g (take r.next s)

pub place : (g : G) → good g ≡ true → (s : List ℕ) → Place g s (scan_at g s 0)
place g e s = go (right g e s 0)
  where
    go : Right (Derives g) s 0 (scan_at g s 0) → Place g s (scan_at g s 0)
    go ρ =
        let n : (scan_at g s 0).next ≡ length ρ.p = omega (arith, ρ.next) in
        let t : take (scan_at g s 0).next s ≡ ρ.p = ap (λ (k : ℕ). take k s) n ∙ ap (λ (l : List ℕ). take (length ρ.p) l) ρ.cuts ∙ take-append_seam ρ.p ρ.q in
        record {
          within = omega (arith, n, ap length ρ.cuts, length-append ρ.p ρ.q);
          viable = rw t ρ.best.viable;
          longest = λ k h v. most k h v (cut (take k s) (drop k s) ρ.p ρ.q (take-append-drop k s ∙ ρ.cuts));
          whole = (λ o. rw t (ρ.best.whole o), λ d. ρ.best.only (rw t at d));
        }
      where
        most : (k : ℕ) → k ≤ length s → Viable g (take k s) → Cut (take k s) (drop k s) ρ.p ρ.q → k ≤ (scan_at g s 0).next
        most k h v (same a b) = omega (arith, ρ.next, ap length a, length-take-le k s h)
        most k h v (over y t a b) = absurd (ρ.best.stop y (t ++ drop k s) (t ++ v.0) b (subst (Derives g) (ap (λ (l : List ℕ). l ++ v.0) a ∙ append_assoc ρ.p (y ∷ t) v.0) v.1))
        most k h v (under y t a b) = omega (arith, ρ.next, ap length a, length-append (take k s) (y ∷ t), length-take-le k s h)

-- a text is derived exactly where its scan is whole and reaches its end
pub accepts : (g : G) → good g ≡ true → (s : List ℕ) → (((scan_at g s 0).ok ≡ true) × ((scan_at g s 0).next ≡ length s)) ↔ Derives g s
accepts g e s = (to (place g e s), of (place g e s))
  where
    to : Place g s (scan_at g s 0) → ((scan_at g s 0).ok ≡ true) × ((scan_at g s 0).next ≡ length s) → Derives g s
    to ρ h = subst (Derives g) (ap (λ (k : ℕ). take k s) h.1 ∙ take-length s) (ρ.whole.0 h.0)

    of : Place g s (scan_at g s 0) → Derives g s → ((scan_at g s 0).ok ≡ true) × ((scan_at g s 0).next ≡ length s)
    of ρ d =
        let n : (scan_at g s 0).next ≡ length s = omega (arith, ρ.within, ρ.longest (length s) (omega arith) ([], rw (take-length, append-nil) d)) in
        (ρ.whole.1 (rw (n, take-length) d), n)

-- a scan that is whole and went to the end
abbrev pub passed : List ℕ → Scan → Bool
passed s q = q.ok && eqb q.next (length s)

pub accepts_of : (g : G) → good g ≡ true → (s : List ℕ) (q : Scan) → q ≡ scan_at g s 0 → (passed s q ≡ true) ↔ Derives g s
accepts_of g e s q h = rw h (to, of)
  where
    n : ℕ
    n = (scan_at g s 0).next

    o : Bool
    o = (scan_at g s 0).ok

    to : o && eqb n (length s) ≡ true → Derives g s
    to w = (accepts g e s).0 (and_l o (eqb n (length s)) w, eqb-true n (length s) (and_r o (eqb n (length s)) w))

    of : Derives g s → o && eqb n (length s) ≡ true
    of d = let w = (accepts g e s).1 d in both o (eqb n (length s)) w.0 (eq-eqb n (length s) w.1)

-- THE PARTS: where a scan is whole, so was the one before it, and the bytes between are a text of its grammar
pub record Part (g : G) (s : List ℕ) (r q : Scan) : Type 0 where
  pub before : r.ok ≡ true
  pub forth : r.next ≤ q.next
  pub is : Derives g (take (q.next - r.next) (drop r.next s))

pub part_of : (g : G) → good g ≡ true → (s : List ℕ) (r q : Scan) → q ≡ scan g s r → q.ok ≡ true → Part g s r q
part_of g e s r q h o = go (known r.ok)
  where
    go : (r.ok ≡ true) ⊎ (r.ok ≡ false) → Part g s r q
    go (inr n) = absurd (false≢true (sym n ∙ ap (λ (z : Scan). z.ok) (sym (h ∙ skip g s r n)) ∙ o))
    go (inl y) =
        let ρ = right g e s r.next in
        let w : q ≡ scan_at g s r.next = h ∙ ap {B = Scan} (λ (z : Scan). scan g s z) (λ i. record { next = r.next; ok = y i }) in
        let n : q.next ≡ r.next + length ρ.p = ap (λ (z : Scan). z.next) w ∙ ρ.next in
        let l : q.next - r.next ≡ length ρ.p = omega (arith, n) in
        let t : take (q.next - r.next) (drop r.next s) ≡ ρ.p = ap (λ (k : ℕ). take k (drop r.next s)) l ∙ ap (λ (m : List ℕ). take (length ρ.p) m) ρ.cuts ∙ take-append_seam ρ.p ρ.q in
        record { before = y; forth = omega (arith, n); is = rw t (ρ.best.whole (ap (λ (z : Scan). z.ok) (sym w) ∙ o)) }

pub ok_before : (g : G) (s : List ℕ) (r q : Scan) → q ≡ scan g s r → q.ok ≡ true → r.ok ≡ true
ok_before g s r q h o = ⊎_elim (λ y. y) (λ n. absurd (false≢true (sym n ∙ ap (λ (z : Scan). z.ok) (sym (h ∙ skip g s r n)) ∙ o))) (known r.ok)

-- decides whether the grammar derives the text
pub told_by : (g : G) → good g ≡ true → (s : List ℕ) (q : Scan) (b : Bool) → q ≡ scan_at g s 0 → b ≡ passed s q → Decides b (Derives g s)
told_by g e s q b h p = let a = accepts_of g e s q h in record { yes = λ y. a.0 (sym p ∙ y); no = λ d. p ∙ a.1 d }

-- as for a name of four letters
name_good : good (run Letter 4 4) ≡ true
unfolding some good
name_good = refl

pub name_is : (t : List ℕ) (q : Scan) → q ≡ scan_at (run Letter 4 4) t 0 → Decides (passed t q) (Derives (run Letter 4 4) t)
name_is t q h = told_by (run Letter 4 4) name_good t q _ h refl
