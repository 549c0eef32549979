-- How two records are held against each other.
use Rattle.std.specs.Prelude.{◌≡◌, refl, Bool, false, ◌&&◌, ℕ}
use Rattle.std.proofs.Math.Path.{sym, subst}
use Rattle.std.proofs.Common.{ap, ◌∙◌, eqb-true, eq-eqb}
use Rattle.std.proofs.Math.Logic.{⊎_elim}
use Rattle.std.proofs.Math.Bool.{true}
use Rattle.std.proofs.lemmas.Bool.{false≢true}
use mathlib.Core.List.{List, [], ◌∷◌, ◌++◌}
use Rattle.std.proofs.Math.Dec.{eqb}
use Rattle.scan.specs.Bools.{and_l, and_r, both, or_split, known, Decides, decides_and, decides_as, decides_by, equals}
use Rattle.scan.specs.Grammar.{size_of, Span, Part, look}
use Rattle.scan.specs.Scanner.{among}
use Rattle.types.specs.declared.Parts.{Parts}
use Rattle.message.specs.declared.Kind.{Kind}
use Rattle.message.specs.declared.LevelKind.{LevelKind}
use Rattle.message.specs.declared.PointForm.{PointForm}
use Rattle.message.specs.declared.Level.{Level}
use Rattle.message.specs.declared.PlanFigures.{PlanFigures}
use Rattle.message.specs.declared.Figures.{Figures}
use Rattle.message.specs.declared.Record.{Record}
use Rattle.message.specs.declared.Verdict.TheVariants.{Read, Refused}
use Rattle.reader.specs.Reading.{Judged}
use Rattle.reader.specs.Reader.{derived_read}
use Rattle.reader.proofs.Judging.{one_record}
use Rattle.pen.specs.Listed.{number_parts, plan_parts, rest_parts, parts_in}
use Rattle.compose.specs.Composed.{sizes}
use Rattle.compose.specs.Recorded.{part_names, listed, nameless}
use Rattle.writer.specs.Writer.{Alike}
use Rattle.message.specs.Numbered.{kind_number, level_number, form_number, numbered_kind, numbered_level, numbered_form, kind_back, level_back, form_back}

-- THE VARIANTS, by their numbers

kind_one : (a b : Kind) → Decides (eqb (kind_number a) (kind_number b)) (a ≡ b)
kind_one a b = decides_as (λ e. sym (kind_back a) ∙ ap numbered_kind e ∙ kind_back b) (ap kind_number) (equals (kind_number a) (kind_number b))

level_one : (a b : LevelKind) → Decides (eqb (level_number a) (level_number b)) (a ≡ b)
level_one a b = decides_as (λ e. sym (level_back a) ∙ ap numbered_level e ∙ level_back b) (ap level_number) (equals (level_number a) (level_number b))

form_one : (a b : PointForm) → Decides (eqb (form_number a) (form_number b)) (a ≡ b)
form_one a b = decides_as (λ e. sym (form_back a) ∙ ap numbered_form e ∙ form_back b) (ap form_number) (equals (form_number a) (form_number b))

-- LEVELS AND FIGURES

pub level_same : (a b : Level) → Decides (eqb (level_number a.kind) (level_number b.kind) && eqb a.figure b.figure) (a ≡ b)
level_same a b =
    decides_as (λ p. λ i. record { kind = p.0 i; figure = p.1 i }) (λ e. (ap (λ (x : Level). x.kind) e, ap (λ (x : Level). x.figure) e))
    (decides_and (level_one a.kind b.kind) (equals a.figure b.figure))

pub plan_figures_same : (a b : PlanFigures) (l : Bool) → Decides l (a.level ≡ b.level) → Decides (eqb a.count b.count && l) (a ≡ b)
plan_figures_same a b l h =
    decides_as (λ p. λ i. record { count = p.0 i; level = p.1 i }) (λ e. (ap (λ (x : PlanFigures). x.count) e, ap (λ (x : PlanFigures). x.level) e))
    (decides_and (equals a.count b.count) h)

pub figures_same : (a b : Figures) (o f c s h : Bool) → Decides o (a.own ≡ b.own) → f ≡ eqb (form_number a.form) (form_number b.form) → Decides c (a.crossing ≡ b.crossing) → Decides s (a.second ≡ b.second) → Decides h (a.changes ≡ b.changes) → Decides (((((((eqb a.number b.number && eqb a.reference b.reference) && o) && f) && c) && s) && h) && eqb a.reason b.reason) (a ≡ b)
figures_same a b o f c s h xo xf xc xs xh =
    decides_as
    (λ p. λ i. record { number = p.0.0.0.0.0.0.0 i; reference = p.0.0.0.0.0.0.1 i; own = p.0.0.0.0.0.1 i; form = p.0.0.0.0.1 i; crossing = p.0.0.0.1 i; second = p.0.0.1 i; changes = p.0.1 i; reason = p.1 i })
    (λ e. (((((((ap (λ (x : Figures). x.number) e, ap (λ (x : Figures). x.reference) e), ap (λ (x : Figures). x.own) e), ap (λ (x : Figures). x.form) e), ap (λ (x : Figures). x.crossing) e), ap (λ (x : Figures). x.second) e), ap (λ (x : Figures). x.changes) e), ap (λ (x : Figures). x.reason) e))
    (decides_and (decides_and (decides_and (decides_and (decides_and (decides_and (decides_and (equals a.number b.number) (equals a.reference b.reference)) xo) (decides_by xf (form_one a.form b.form))) xc) xs) xh) (equals a.reason b.reason))

-- LENGTHS, one part after the other

abbrev pub evenly : Bool → List Part → List Part → Bool
evenly b [] qs = b
evenly b (p ∷ ps) [] = b
evenly b (p ∷ ps) (q ∷ qs) = evenly (b && eqb (size_of p.span) (size_of q.span)) ps qs

pub evenly_on : (b : Bool) (ps qs : List Part) → evenly b ps qs ≡ b && evenly true ps qs
evenly_on true ps qs = refl
evenly_on false [] qs = refl
evenly_on false (p ∷ ps) [] = refl
evenly_on false (p ∷ ps) (q ∷ qs) = evenly_on false ps qs

pub all_even : (a b : Parts) (m r o c t : Bool) → m ≡ evenly true (number_parts 0 0 0 a.number) (number_parts 0 0 0 b.number) → r ≡ evenly true (number_parts 0 0 0 a.reference) (number_parts 0 0 0 b.reference) → o ≡ evenly true (plan_parts 0 a.own) (plan_parts 0 b.own) → c ≡ evenly true (plan_parts 0 a.changes) (plan_parts 0 b.changes) → t ≡ evenly true (rest_parts a) (rest_parts b) → (((m && r) && o) && c) && t ≡ evenly true (parts_in a) (parts_in b)
all_even a b m r o c t em er eo ec et =
    let x : m && r ≡ evenly true (number_parts 0 0 0 a.number ++ number_parts 0 0 0 a.reference) (number_parts 0 0 0 b.number ++ number_parts 0 0 0 b.reference) = (λ i. em i && er i) ∙ sym (evenly_on (evenly true (number_parts 0 0 0 a.number) (number_parts 0 0 0 b.number)) (number_parts 0 0 0 a.reference) (number_parts 0 0 0 b.reference)) in
    let y = (λ i. x i && eo i) ∙ sym (evenly_on (evenly true (number_parts 0 0 0 a.number ++ number_parts 0 0 0 a.reference) (number_parts 0 0 0 b.number ++ number_parts 0 0 0 b.reference)) (plan_parts 0 a.own) (plan_parts 0 b.own)) in
    let z = (λ i. y i && ec i) ∙ sym (evenly_on (evenly true (number_parts 0 0 0 a.number ++ (number_parts 0 0 0 a.reference ++ plan_parts 0 a.own)) (number_parts 0 0 0 b.number ++ (number_parts 0 0 0 b.reference ++ plan_parts 0 b.own))) (plan_parts 0 a.changes) (plan_parts 0 b.changes)) in
    (λ i. z i && et i) ∙ sym (evenly_on (evenly true (number_parts 0 0 0 a.number ++ (number_parts 0 0 0 a.reference ++ (plan_parts 0 a.own ++ plan_parts 0 a.changes))) (number_parts 0 0 0 b.number ++ (number_parts 0 0 0 b.reference ++ (plan_parts 0 b.own ++ plan_parts 0 b.changes)))) (rest_parts a) (rest_parts b))

module _ (f g : ℕ → Span) where
  evenly_yes : (ns : List ℕ) → evenly true (listed f ns) (listed g ns) ≡ true → (k : ℕ) → among k ns ≡ true → size_of (f k) ≡ size_of (g k)
  unfolding among
  evenly_yes [] e k h = absurd (false≢true h)
  evenly_yes (m ∷ ns) e k h =
      let z : eqb (size_of (f m)) (size_of (g m)) && evenly true (listed f ns) (listed g ns) ≡ true = sym (evenly_on (eqb (size_of (f m)) (size_of (g m))) (listed f ns) (listed g ns)) ∙ e in
      ⊎_elim
      (λ y. subst (λ (n : ℕ). size_of (f n) ≡ size_of (g n)) (sym (eqb-true k m y)) (eqb-true (size_of (f m)) (size_of (g m)) (and_l (eqb (size_of (f m)) (size_of (g m))) (evenly true (listed f ns) (listed g ns)) z)))
      (λ y. evenly_yes ns (and_r (eqb (size_of (f m)) (size_of (g m))) (evenly true (listed f ns) (listed g ns)) z) k y)
      (or_split (eqb k m) (among k ns) h)

  evenly_no : (ns : List ℕ) → ((k : ℕ) → size_of (f k) ≡ size_of (g k)) → evenly true (listed f ns) (listed g ns) ≡ true
  evenly_no [] h = refl
  evenly_no (m ∷ ns) h = evenly_on (eqb (size_of (f m)) (size_of (g m))) (listed f ns) (listed g ns) ∙ both (eqb (size_of (f m)) (size_of (g m))) (evenly true (listed f ns) (listed g ns)) (eq-eqb (size_of (f m)) (size_of (g m)) (h m)) (evenly_no ns h)

pub lengths_same : (a b : Record) → Decides (evenly true (parts_in a.parts) (parts_in b.parts)) ((k : ℕ) → sizes a k ≡ sizes b k)
lengths_same a b = record {
  yes = λ e k.
      ⊎_elim
      (λ h. evenly_yes (λ m. look m (parts_in a.parts)) (λ m. look m (parts_in b.parts)) part_names e k h)
      (λ h. ap (λ (p : Span). size_of p) (nameless a k h ∙ sym (nameless b k h)))
      (known (among k part_names));
  no = λ h. evenly_no (λ m. look m (parts_in a.parts)) (λ m. look m (parts_in b.parts)) part_names h;
}

-- TWO RECORDS

pub records_alike : (a b : Record) (l f : Bool) → Decides l ((k : ℕ) → sizes a k ≡ sizes b k) → Decides f (a.figures ≡ b.figures) → Decides ((eqb (kind_number a.kind) (kind_number b.kind) && l) && f) (Alike a b)
records_alike a b l f x y =
    decides_as (λ p. record { kinds = p.0.0; lengths = p.0.1; figures = p.1 }) (λ z. ((z.kinds, z.lengths), z.figures))
    (decides_and (decides_and (kind_one a.kind b.kind) x) y)

-- a text reads back as a record
pub record Back (t : List ℕ) (r : Record) : Type 0 where
  pub its : Record
  pub read : Judged t Read its
  pub same : Alike its r

pub back_read : (t : List ℕ) (r q : Record) (b : Bool) → Judged t Read q → Decides b (Alike q r) → Decides b (Back t r)
back_read t r q b j d = decides_as (λ a. record { its = q; read = j; same = a }) (λ x. subst (λ (z : Record). Alike z r) (one_record t x.its q x.read j) x.same) d

pub back_refused : (t : List ℕ) (r q : Record) (n h : ℕ) → Judged t (Refused n h) q → Decides false (Back t r)
back_refused t r q n h j = record { yes = λ e. absurd (false≢true e); no = λ x. absurd (j.0.never (derived_read t x.its x.read)) }
