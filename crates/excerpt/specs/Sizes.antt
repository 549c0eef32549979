-- The number of a message that was read, its reference and its field 31: what their bytes are, and how large the figures.
use Rattle.std.specs.Prelude.{◌≡◌, true, List, [], ◌∷◌, ℕ, zero, suc, ◌+◌, ◌-◌, ◌≤◌, ◌<◌, length, get_or, take, drop, leb}
use Rattle.std.proofs.Math.Path.{refl}
use Rattle.std.proofs.Common.{sym, ap, ◌∙◌, subst, ⊎_elim, arith, get_or-take, get_or-drop, leb-true}
use Rattle.scan.specs.Bools.{and_l, and_r}
use Rattle.scan.specs.declared.Class.TheVariants.{Letter, Digit}
use Rattle.scan.specs.Grammar.{place_of, size_of, Span, G, run, words, part, is_in, all, Derives}
use Rattle.scan.specs.Texts.{opt}
use Rattle.scan.specs.Tests.{plain_test}
use Rattle.fields.specs.Names as n
use Rattle.fields.specs.Fields.{field_rules}
use Rattle.message.specs.declared.Record.{Record}
use Rattle.message.specs.declared.Verdict.TheVariants.{Read}
use Rattle.message.specs.Record.{figure, figure_in}
use Rattle.reader.specs.Reading.{cut, Judged}
use Rattle.compose.specs.Layout.{laid, Tells, layout_test}
use Rattle.compose.specs.Order.{ordered, Within, same}
use Rattle.pen.specs.Listed.{span_of}
use Rattle.compose.specs.Recorded.{its, its_inside, cut_size}
use Rattle.excerpt.specs.Pieces.{kept, fine}
use Rattle.excerpt.specs.Said.{field_said, part_said, order}

module _ (w : List ℕ) (r : Record) (j : Judged w Read r) (a b c : ℕ) (t : Tells (ordered a b c) w (its w r j)) where
  -- a part that every message has
  sure_part : (k : ℕ) (g : G) → Within (kept (k ∷ []) (ordered a b c)) (part k g) → fine (k ∷ []) (part k g) ≡ true → Derives g (cut w (span_of r k))
  unfolding laid
  sure_part k g i y = field_said w r j a b c t (k ∷ []) (part k g) i y

  number_ordered : Derives (run Letter 4 4) (cut w r.parts.number.sender) × Derives (run Letter 4 4) (cut w r.parts.number.receiver) × Derives (run Digit 3 3) (cut w r.parts.number.digits)
  unfolding kept fine ordered field_rules layout_test plain_test
  number_ordered = (
    sure_part n.sender (run Letter 4 4) same refl,
    sure_part n.receiver (run Letter 4 4) same refl,
    sure_part n.number (run Digit 3 3) same refl,
  )

  sector_ordered : Derives (opt (words 20)) (cut w r.parts.sector)
  unfolding kept fine ordered field_rules layout_test plain_test
  sector_ordered = part_said w r j a b c t n.sector (words 20) same refl

-- THE FIGURE OF THREE DIGITS

digit_small : (s : List ℕ) (k : ℕ) → all Digit s ≡ true → get_or s k 0 - 48 ≤ 9
unfolding all
digit_small [] k h = omega arith
digit_small (x ∷ s) zero h =
    let d = and_l (is_in Digit x) (all Digit s) h in
    let u = leb-true x 57 (and_r (leb 48 x) (leb x 57) d) in
    omega (arith, u)
digit_small (x ∷ s) (suc k) h = digit_small s k (and_r (is_in Digit x) (all Digit s) h)

digit_at : (s : List ℕ) (at k : ℕ) → k < 3 → all Digit (take 3 (drop at s)) ≡ true → get_or s (at + k) 0 - 48 ≤ 9
digit_at s at k h d = subst (λ (x : ℕ). x - 48 ≤ 9) (get_or-take 3 (drop at s) k 0 h ∙ get_or-drop at s k 0) (digit_small (take 3 (drop at s)) k d)

figure_small : (s : List ℕ) (p : Span) → size_of p ≡ 3 → all Digit (cut s p) ≡ true → figure_in s p ≤ 999
unfolding figure
figure_small s p e d =
    let h : all Digit (take 3 (drop (place_of p) s)) ≡ true = ap (λ (k : ℕ). all Digit (take k (drop (place_of p) s))) (sym e) ∙ d in
    rw e (omega (arith, digit_at s (place_of p) 0 (omega arith) h, digit_at s (place_of p) 1 (omega arith) h, digit_at s (place_of p) 2 (omega arith) h))

-- WHAT A MESSAGE THAT WAS READ SAYS

module _ (w : List ℕ) (r : Record) (j : Judged w Read r) where
  pub number_said : Derives (run Letter 4 4) (cut w r.parts.number.sender) × Derives (run Letter 4 4) (cut w r.parts.number.receiver) × Derives (run Digit 3 3) (cut w r.parts.number.digits)
  number_said = order w r j _ (number_ordered w r j)

  pub sector_said : Derives (opt (words 20)) (cut w r.parts.sector)
  sector_said = order w r j _ (sector_ordered w r j)

  -- how long the parts are
  size_of_lem : (k : ℕ) → size_of (span_of r k) ≡ length (cut w (span_of r k))
  size_of_lem k = sym (cut_size w (span_of r k) (its_inside w r j k))

  pub sector_short : length (cut w r.parts.sector) ≤ 20
  sector_short = ⊎_elim (λ e. omega (arith, ap length e)) (λ d. d.1) sector_said

  -- a number is at most 999
  pub number_small : r.figures.number ≤ 999
  number_small =
      let d = number_said.2 in
      subst (λ (x : ℕ). x ≤ 999) (ap (λ (x : Record). figure_in w x.parts.number.digits) j.2 ∙ sym (ap (λ (x : Record). x.figures.number) j.2))
      (figure_small w r.parts.number.digits (omega (arith, size_of_lem n.number, d.1, d.2)) d.0)
