-- What the writer's steps come to.
use Rattle.std.specs.Prelude.{◌≡◌, refl, Bool, true, false, List, [], ◌∷◌, ◌++◌, ℕ, ◌≤◌, length, take, drop, eqb}
use Rattle.std.proofs.Common.{sym, ap, ◌∙◌, subst, inl, ⊎_elim, arith, length-take-le, eqb-true}
use Rattle.std.proofs.lemmas.Bool.{false≢true}
use Rattle.std.proofs.Math.Seq.{take-append_seam}
use Rattle.scan.specs.Grammar.{size_of, Span}
use Rattle.scan.specs.Scanner.{among}
use Rattle.scan.specs.Tests.{covers}
use Rattle.scan.specs.Parts.{covers_sound}
use Rattle.splice.specs.Splice.{splice, Spliced}
use Rattle.message.specs.declared.Record.{Record}
use Rattle.message.specs.declared.Verdict.TheVariants.{Read}
use Rattle.reader.specs.Reading.{Judged}
use Rattle.writer.specs.declared.Writing.{Writing}
use Rattle.writer.specs.declared.Writing.TheVariants.{Written, BreaksRule, NoRoom}
use Rattle.pen.specs.Listed.{span_of, Inside}
use Rattle.writer.specs.Writing.{content_of, Writes, Wrote}
use Rattle.compose.specs.Recorded.{part_names, nameless, its_inside}
use Rattle.writer.specs.Writer.{text_of, text_short, text_alike, alike_text}
use Rattle.pen.specs.Laying.{End, AllInside, Stands, Adds, start, opening, blocks, spans, spans_at, all_inside}
use Rattle.scan.specs.Bools.{or_split, known, Decides}
use Rattle.writer.specs.Comparing.{Back}
use Rattle.compose.specs.Composed.{composed, composed_is}

-- the names in the order of the fields
abbrev ordered_names : List ℕ
ordered_names =
    72 ∷ 73 ∷ 74 ∷ 75 ∷ 76 ∷ 77
    ∷ 1 ∷ 2 ∷ 3 ∷ 4 ∷ 5 ∷ 6 ∷ 7 ∷ 8 ∷ 9 ∷ 10 ∷ 11 ∷ 64 ∷ 65 ∷ 66 ∷ 67 ∷ 68 ∷ 12 ∷ 13 ∷ 14 ∷ 15 ∷ 16 ∷ 17 ∷ 18 ∷ 19 ∷ 20
    ∷ 33 ∷ 34 ∷ 35 ∷ 36 ∷ 37 ∷ 38 ∷ 39 ∷ 40 ∷ 41 ∷ 42 ∷ 43 ∷ 44 ∷ 45 ∷ 46 ∷ 47 ∷ 48 ∷ 49 ∷ 50 ∷ 51 ∷ 52
    ∷ 69 ∷ 70 ∷ 71 ∷ []

each_at : (d : List ℕ) (f : ℕ → Span) (ns : List ℕ) → AllInside d (spans_at f ns) → (k : ℕ) → among k ns ≡ true → Inside d (f k)
unfolding among
each_at d f [] h k e = absurd (false≢true e)
each_at d f (n ∷ ns) h k e = ⊎_elim (λ y. subst (λ (m : ℕ). Inside d (f m)) (sym (eqb-true k n y)) h.0) (λ y. each_at d f ns h.1 k y) (or_split (eqb k n) (among k ns) e)

ordered_all : covers ordered_names part_names ≡ true
unfolding covers among
ordered_all = refl

each_inside : (d : List ℕ) (r : Record) → AllInside d (spans r.parts) → (k : ℕ) → Inside d (span_of r k)
each_inside d r h k =
    ⊎_elim
    (λ e. each_at d (span_of r) ordered_names h k (covers_sound ordered_names part_names ordered_all k e))
    (λ e. inl (ap (λ (p : Span). size_of p) (nameless r k e)))
    (known (among k part_names))

-- a text was laid out in a buffer of 1077 bytes
module _ (d : List ℕ) (r : Record) (t₀ t : List ℕ) (p : End) (z : length t₀ ≡ 1077) (a : Adds d t₀ start (blocks (opening r.kind) d r.parts) (spans r.parts) t p) where
  at_start : Stands t₀ start []
  at_start = record { place = refl; fits = omega arith; bytes = refl }

  -- it did not fit, or a part lies outside
  pub breaks_laid : p.ok ≡ false → (w : List ℕ) → Writes d r w → ⊥
  breaks_laid o w x =
      let h = a.off [] at_start refl (all_inside d (span_of r) x.inside ordered_names) o in
      omega (arith, h, z, ap length (composed_is d r), ap length (text_of d r w x), text_short d r w x)

  module _ (o : p.ok ≡ true) where
    laid_stands : Stands t p (composed d r)
    laid_stands = subst (Stands t p) (composed_is d r) (a.on [] at_start o)

    pub laid_is : take p.at t ≡ composed d r
    laid_is = ap (λ (k : ℕ). take k t) laid_stands.place ∙ laid_stands.bytes

    pub laid_fits : p.at ≤ length t
    laid_fits = omega (arith, laid_stands.place, laid_stands.fits)

    pub laid_size : length (take p.at t) ≡ p.at
    laid_size = length-take-le p.at t laid_fits

    -- it does not read back as the record
    pub breaks_back : (b : Bool) → Decides b (Back (take p.at t) r) → b ≡ false → (w : List ℕ) → Writes d r w → ⊥
    breaks_back b y e w x =
        let q : take p.at t ≡ w = laid_is ∙ sym (text_of d r w x) in
        let k : Back w r = record { its = x.its; read = x.read; same = text_alike d r w x x.its x.read } in
        false≢true (sym e ∙ y.no (subst (λ (v : List ℕ). Back v r) (sym q) k))

    -- it does
    pub text_back : (b : Bool) → Decides b (Back (take p.at t) r) → b ≡ true → Writes d r (take p.at t)
    text_back b y e =
        let k : Back (composed d r) r = subst (λ (v : List ℕ). Back v r) laid_is (y.yes e) in
        subst (Writes d r) (sym laid_is) (alike_text d r (each_inside d r (a.all o)) k.its k.read k.same)

-- written at the start of a buffer
pub at_front : {s before after : List ℕ} {n : ℕ} → Spliced 0 s before after n → (n ≡ length s) × (after ≡ s ++ drop n before)
unfolding splice
at_front {s} {before} {after} {n} p = (omega (arith, p.place), p.bytes ∙ ap (λ (k : ℕ). s ++ drop k before) (sym p.place))

-- THE ROUND TRIP

-- a record has at most one text
pub one_text : (d : List ℕ) (r : Record) (w v : List ℕ) → Writes d r w → Writes d r v → w ≡ v
one_text d r w v x y = text_of d r w x ∙ sym (text_of d r v y)

-- a text that is read is the text of its record
pub own_text : (s : List ℕ) (r : Record) → Judged s Read r → Writes s r s
own_text s r j = record { inside = its_inside s r j; its = r; read = j; says = refl }

-- WRITING LEAVES NO CHOICE
pub record Same (v v' : Writing) (a a' : List ℕ) : Type 0 where
  pub writings : v ≡ v'
  pub buffers : a ≡ a'

pub wrote_one : (d : List ℕ) (r : Record) (b : List ℕ) (v v' : Writing) (a a' : List ℕ) → Wrote d r b v a → Wrote d r b v' a' → Same v v' a a'
wrote_one d r b (Written n) (Written m) a a' x y =
    let e : x.0 ≡ y.0 = one_text d r x.0 y.0 x.1 y.1 in
    let k : n ≡ m = x.2 ∙ ap length e ∙ sym y.2 in
    record { writings = ap Written k; buffers = x.4 ∙ (λ i. e i ++ drop (k i) b) ∙ sym y.4 }
wrote_one d r b (Written n) BreaksRule a a' x y = absurd (y.0 x.0 x.1)
wrote_one d r b (Written n) NoRoom a a' x y = absurd (omega (arith, x.2, x.3, y.2, ap length (one_text d r x.0 y.0 x.1 y.1)))
wrote_one d r b BreaksRule (Written m) a a' x y = absurd (x.0 y.0 y.1)
wrote_one d r b BreaksRule BreaksRule a a' x y = record { writings = refl; buffers = x.1 ∙ sym y.1 }
wrote_one d r b BreaksRule NoRoom a a' x y = absurd (x.0 y.0 y.1)
wrote_one d r b NoRoom (Written m) a a' x y = absurd (omega (arith, y.2, y.3, x.2, ap length (one_text d r x.0 y.0 x.1 y.1)))
wrote_one d r b NoRoom BreaksRule a a' x y = absurd (y.0 x.0 x.1)
wrote_one d r b NoRoom NoRoom a a' x y = record { writings = refl; buffers = x.3 ∙ sym y.3 }

-- (1) what was read is written as the text that it was
pub read_then_written : (s : List ℕ) (r : Record) → Judged s Read r → (b : List ℕ) (v : Writing) (a : List ℕ) → length s ≤ length b → Wrote s r b v a → Same v (Written (length s)) a (s ++ drop (length s) b)
read_then_written s r j b v a h x = wrote_one s r b v (Written (length s)) a (s ++ drop (length s) b) x (s, own_text s r j, refl, h, refl)

-- (2) what was written is read, and its record says the same
pub record ReadBack (d : List ℕ) (r : Record) (w : List ℕ) : Type 0 where
  pub its : Record
  pub read : Judged w Read its
  pub says : content_of w its ≡ content_of d r

pub written_then_read : (d : List ℕ) (r : Record) (b : List ℕ) (n : ℕ) (a : List ℕ) → Wrote d r b (Written n) a → ReadBack d r (take n a)
written_then_read d r b n a x =
    let e : take n a ≡ x.0 = (λ i. take (x.2 i) (x.4 i)) ∙ take-append_seam x.0 (drop n b) in
    let y = x.1 in
    subst (ReadBack d r) (sym e) (record { its = y.its; read = y.read; says = y.says })
