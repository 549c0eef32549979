-- The texts that are kept of a read message fit, and what laying them out leaves in a buffer.
use Rattle.std.specs.Prelude.{◌≡◌, refl, true, List, [], ◌∷◌, ℕ, zero, suc, ◌≤◌, length, take, drop, leb, Option, Some, None}
use Rattle.std.specs.Option.{unwrap_or}
use Rattle.std.proofs.Common.{ap, sym, subst, ◌∙◌, ⊎_elim, arith, leb-true}
use Rattle.scan.specs.Bools.{known}
use Rattle.scan.specs.declared.Class.TheVariants.{Letter, Octal, Alnum}
use Rattle.scan.specs.Grammar.{Span, G, run, Derives}
use Rattle.scan.specs.Texts.{opt}
use Rattle.scan.specs.Tests.{longest}
use Rattle.scan.specs.Bounds.{derives_short}
use Rattle.fields.specs.Fields.{in08, in09, in10, timed, in14, in15, rest16, in18, field_rules}
use Rattle.message.specs.declared.Record.{Record}
use Rattle.message.specs.declared.Verdict.TheVariants.{Read}
use Rattle.reader.specs.Reading.{Judged}
use Rattle.pen.specs.Listed.{span_of}
use Rattle.pen.specs.declared.Sheet.{Sheet}
use Rattle.pen.specs.Laying.{End, join, Stands, AllInside, Adds, start, end_of, Lays, lays_from_start, all_inside}
use Rattle.compose.specs.Recorded.{its_inside}
use Rattle.excerpt.specs.Excerpt.{Texts, texts_of, field14_of, Short, FitsIn, Fits14, Starts}
use Rattle.excerpt.specs.Said.{Said, own_said, changes_said, field14_said}

-- THE LENGTHS

at_most : (g : G) (k : ℕ) → leb (longest g) k ≡ true → (t : List ℕ) → Derives g t → length t ≤ k
at_most g k e t d = omega (arith, leb-true (longest g) k e, derives_short g t d)

pub short : (t : Texts) → Said t → Short t
unfolding longest field_rules
short t s = record {
  aircraft = at_most (opt (run Alnum 2 7)) 7 refl t.aircraft s.aircraft;
  code = at_most (opt (run Octal 4 4)) 4 refl t.code s.code;
  departure = at_most (opt (run Letter 4 4)) 4 refl t.departure s.departure;
  time = at_most (opt timed) 4 refl t.time s.time;
  destination = at_most (opt (run Letter 4 4)) 4 refl t.destination s.destination;
  field08 = at_most (opt (in08 0)) 2 refl t.field08 s.field08;
  field09 = at_most (opt (in09 0)) 8 refl t.field09 s.field09;
  field10 = at_most (opt (in10 0)) 61 refl t.field10 s.field10;
  rest16 = at_most (rest16 0) 14 refl t.rest16 s.rest16;
  field15 = at_most (opt (in15 0)) 300 refl t.field15 s.field15;
  field18 = at_most (opt (in18 0)) 300 refl t.field18 s.field18;
}

short14 : (t : List ℕ) → Derives (opt in14) t → length t ≤ 27
unfolding longest field_rules
short14 t d = at_most (opt in14) 27 refl t d

-- THE PARTS

-- some of the parts: n of them after the first k
firsts : (w : List ℕ) (qs : List Span) (n : ℕ) → AllInside w qs → AllInside w (take n qs)
firsts w qs zero h = tt
firsts w [] (suc n) h = tt
firsts w (q ∷ qs) (suc n) h = (h.0, firsts w qs n h.1)

pub stretch : (w : List ℕ) (qs : List Span) (k n : ℕ) → AllInside w qs → AllInside w (take n (drop k qs))
stretch w qs zero n h = firsts w qs n h
stretch w [] (suc k) n h = firsts w [] n h
stretch w (q ∷ qs) (suc k) n h = stretch w qs k n h.1

-- WHAT IS KEPT OF A MESSAGE THAT WAS READ FITS

module _ (w : List ℕ) (r : Record) (j : Judged w Read r) where
  pub own_fits : FitsIn w r.parts.own
  own_fits = record {
    inside = all_inside w (span_of r) (its_inside w r j) (1 ∷ 2 ∷ 3 ∷ 4 ∷ 5 ∷ 6 ∷ 7 ∷ 8 ∷ 9 ∷ 10 ∷ 11 ∷ 12 ∷ 13 ∷ 14 ∷ 15 ∷ 16 ∷ 17 ∷ 18 ∷ 19 ∷ 20 ∷ []);
    short = short (texts_of w r.parts.own) (own_said w r j);
  }

  pub changes_fits : FitsIn w r.parts.changes
  changes_fits = record {
    inside = all_inside w (span_of r) (its_inside w r j) (33 ∷ 34 ∷ 35 ∷ 36 ∷ 37 ∷ 38 ∷ 39 ∷ 40 ∷ 41 ∷ 42 ∷ 43 ∷ 44 ∷ 45 ∷ 46 ∷ 47 ∷ 48 ∷ 49 ∷ 50 ∷ 51 ∷ 52 ∷ []);
    short = short (texts_of w r.parts.changes) (changes_said w r j);
  }

  pub estimate_fits : Fits14 w r.parts.estimate
  estimate_fits = record {
    inside = all_inside w (span_of r) (its_inside w r j) (64 ∷ 65 ∷ 66 ∷ 67 ∷ 68 ∷ []);
    short = short14 (field14_of w r.parts.estimate) (field14_said w r j);
  }

-- A BUFFER WHOSE START WAS LAID OUT

at_start : (b : List ℕ) → Stands b start []
at_start b = record { place = refl; fits = omega arith; bytes = refl }

pub starts : {w b e : List ℕ} {r : End} {xs : List (List ℕ)} {qs : List Span} (t : List ℕ) → join xs ≡ t → length t ≤ length b → AllInside w qs → Adds w b start xs qs e r → Starts t b e r.at
starts {w} {b} {e} {r} {xs} {qs} t i h q a =
    ⊎_elim
    (λ o.
    let s = a.on [] (at_start b) o in
    let z : r.at ≡ length t = s.place ∙ ap length i in
    record {
      size = a.size;
      long = z;
      within = omega (arith, s.place, s.fits);
      bytes = ap (λ (k : ℕ). take k e) s.place ∙ s.bytes ∙ i;
    })
    (λ o. absurd (omega (arith, a.off [] (at_start b) refl q o, ap length i)))
    (known r.ok)

length_of : (o : Option ℕ) → unwrap_or o 0 ≡ (end_of o).at
length_of None = refl
length_of (Some n) = refl

-- the same of a length that is 0 if nothing fitted
pub fits : {w b e : List ℕ} {n : ℕ} {xs : List (List ℕ)} {qs : List Span} (o : Option ℕ) (t : List ℕ) → join xs ≡ t → length t ≤ length b → AllInside w qs → Adds w b start xs qs e (end_of o) → n ≡ unwrap_or o 0 → Starts t b e n
fits {b = b} {e = e} o t i h q a m = subst (Starts t b e) (sym (m ∙ length_of o)) (starts t i h q a)

-- what was laid out on a sheet from the start of its buffer on, where e stands in it in the end
pub laid : {w b e : List ℕ} {o : Option ℕ} {n : ℕ} {p r : Sheet} {xs : List ℕ → List (List ℕ)} {qs : List Span} (t : List ℕ) → join (xs w) ≡ t → length t ≤ length b → AllInside w qs → p.source.now ≡ w → p.text.now ≡ b → p.end ≡ Some 0 → Lays p xs qs r → r.text.now ≡ e → o ≡ r.end → n ≡ unwrap_or o 0 → Starts t b e n
laid {o = o} t i h q s k z a f g m = fits o t i h q (lays_from_start s k z a f (sym g)) m
