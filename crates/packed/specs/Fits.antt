-- THE RECORD OF A TEXT THAT IS READ fits its bytes, and so comes back from them whole: no part lies past byte 1077, and no figure
-- has more than four digits, each of them a byte of at most 90.
use Rattle.std.specs.Prelude.{◌≡◌, refl, Bool, cond, ◌&&◌, List, [], ◌∷◌, ◌++◌, map, length, get_or, eqb, leb}
use Rattle.std.proofs.Common.{sym, subst, ⊎_elim, leb-true}
use Rattle.std.proofs.Math.Bool.{true, false}
use Rattle.std.proofs.lemmas.Bool.{false≢true}
use Prim.Native.Nat.{ℕ, zero, suc, ◌+◌, ◌-◌, ◌≤◌, ◌<◌}
use native.Mathlib.Omega.{arith}
use Rattle.scan.specs.declared.Class.{Class}
use Rattle.scan.specs.declared.Class.TheVariants.{Word, Byte}
use Rattle.scan.specs.Bools.{and_l, and_r, or_split}
use Rattle.scan.specs.Grammar.{place_of, size_of, Span, Ranges, has, ranges, is_in, all, text, G, eps, run, words, seq, alt, part, field, Derives, look}
use Rattle.scan.specs.Parts.{reads_derives, part_within}
use Rattle.scan.specs.Bounds.{derives_short}
use Rattle.types.specs.Messages.{message, message_rules}
use Rattle.types.specs.Sound.{message_longest}
use Rattle.types.specs.Scanned.{parts_of}
use Rattle.message.specs.declared.Kind.{Kind}
use Rattle.message.specs.declared.Kind.TheVariants.{None, Fpl, Cpl, Est, Chg, Cnl, Rti, Rta, Rla, Lam, Lrm}
use Rattle.message.specs.declared.LevelKind.{LevelKind}
use Rattle.message.specs.declared.LevelKind.TheVariants.{Absent, FlightLevel, Altitude, MetricLevel, MetricAltitude, Vfr}
use Rattle.message.specs.declared.PointForm.{PointForm}
use Rattle.message.specs.declared.PointForm.TheVariants.{NoPoint, Name, Bearing, Degrees, Minutes}
use Rattle.message.specs.declared.Level.{Level}
use Rattle.message.specs.declared.Record.{Record}
use Rattle.message.specs.declared.Verdict.TheVariants.{Read}
use Rattle.message.specs.Record.{figure, figure_at, level_kind_of, level_in, figures_of, record_by}
use Rattle.reader.specs.Reading.{Judged}
use Rattle.packed.specs.Numbers.{Small}
use Rattle.packed.specs.Packed.{span_numbers, parts_numbers, figure_numbers, numbers_of, packed_of, record_in}
use Rattle.packed.specs.Back.{packed_back}
use Rattle.message.specs.Numbered.{kind_number, level_number, form_number}

-- BYTES OF AT MOST 90, which is Z

Low : List ℕ → Type 0
Low [] = Unit {0}
Low (x ∷ w) = (x ≤ 90) × Low w

low_join : (u v : List ℕ) → Low u → Low v → Low (u ++ v)
unfolding Low
low_join [] v p q = q
low_join (x ∷ u) v p q = (p.0, low_join u v p.1 q)

low_at : (w : List ℕ) → Low w → (i : ℕ) → get_or w i 0 ≤ 90
unfolding Low
low_at [] p i = omega arith
low_at (x ∷ w) p zero = p.0
low_at (x ∷ w) p (suc i) = low_at w p.1 i

tops : Ranges → Bool
tops [] = true
tops (r ∷ c) = leb r.1 90 && tops c

has_low : (c : Ranges) (x : ℕ) → tops c ≡ true → has c x ≡ true → x ≤ 90
unfolding tops
has_low [] x t h = absurd (false≢true h)
has_low (r ∷ c) x t h =
    ⊎_elim
    (λ e. has_low c x (and_r (leb r.1 90) (tops c) t) e)
    (λ e. omega (arith, leb-true x r.1 (and_r (leb r.0 x) (leb x r.1) e), leb-true r.1 90 (and_l (leb r.1 90) (tops c) t)))
    (or_split (has c x) (leb r.0 x && leb x r.1) h)

all_low : (c : Class) (w : List ℕ) → tops (ranges c) ≡ true → all c w ≡ true → Low w
unfolding Low all
all_low c [] t e = tt
all_low c (x ∷ w) t e = (has_low (ranges c) x t (and_l (is_in c x) (all c w) e), all_low c w t (and_r (is_in c x) (all c w) e))

text_low : (m : Bool) (w : List ℕ) → text m w ≡ true → Low w
unfolding Low text tops
text_low m [] e = tt
text_low m (x ∷ w) e = go (λ b q. text_low b w q) (is_in Word x) refl e
  where
    go : ((b : Bool) → text b w ≡ true → Low w) → (b : Bool) → is_in Word x ≡ b → cond b (text true w) (m && is_in (Byte 32) x && text false w) ≡ true → (x ≤ 90) × Low w
    go k true h e = (has_low (ranges Word) x refl h, k true e)
    go k false h e =
        let r : (m && is_in (Byte 32) x) ≡ true = and_l (m && is_in (Byte 32) x) (text false w) e in
        (has_low (ranges (Byte 32)) x refl (and_r m (is_in (Byte 32) x) r), k false (and_r (m && is_in (Byte 32) x) (text false w) e))

capped : G → Bool
capped eps = true
capped (run c lo hi) = tops (ranges c)
capped (words k) = true
capped (seq a b) = capped a && capped b
capped (alt a b) = capped a && capped b
capped (part n g) = capped g
capped (field ns g) = capped g

derives_low : (g : G) → capped g ≡ true → (w : List ℕ) → Derives g w → Low w
unfolding capped Low
derives_low eps c w d = subst Low (sym d) tt
derives_low (run k lo hi) c w d = all_low k w c d.0
derives_low (words k) c w d = text_low false w d.0
derives_low (seq a b) c w d = subst Low (sym d.2) (low_join d.0 d.1 (derives_low a (and_l (capped a) (capped b) c) d.0 d.3) (derives_low b (and_r (capped a) (capped b) c) d.1 d.4))
derives_low (alt a b) c w d = ⊎_elim (λ x. derives_low a (and_l (capped a) (capped b) c) w x) (λ x. derives_low b (and_r (capped a) (capped b) c) w x) d
derives_low (part n g) c w d = derives_low g c w d
derives_low (field ns g) c w d = derives_low g c w d

message_capped : capped message ≡ true
unfolding capped tops message_rules
message_capped = refl

-- FIGURES

module _ (s : List ℕ) (h : (i : ℕ) → get_or s i 0 ≤ 90) where
  figure_fits : (k at : ℕ) → k ≤ 4 → figure k s at < 65536
  unfolding figure
  figure_fits zero at b = omega arith
  figure_fits (suc zero) at b = omega (arith, h (at + 0))
  figure_fits (suc (suc zero)) at b = omega (arith, h (at + 0), h (at + 1))
  figure_fits (suc (suc (suc zero))) at b = omega (arith, h (at + 0), h (at + 1), h (at + 2))
  figure_fits (suc (suc (suc (suc zero)))) at b = omega (arith, h (at + 0), h (at + 1), h (at + 2), h (at + 3))
  figure_fits (suc (suc (suc (suc (suc k))))) at b = absurd (omega (arith, b))

  figures_fit : (k at : ℕ) → figure_at k s at < 65536
  figures_fit k at = go (leb k 4) refl
    where
      go : (b : Bool) → leb k 4 ≡ b → cond b (figure k s at) 0 < 65536
      go true e = figure_fits k at (leb-true k 4 e)
      go false e = omega arith

  level_fits : (p : Span) → (level_in s p).figure < 65536
  unfolding level_in
  level_fits p = go (eqb (size_of p) 0) (eqb (size_of p) 3)
    where
      go : (a b : Bool) → (cond {A = Level} a (record { kind = Absent; figure = 0 }) (cond {A = Level} b (record { kind = Vfr; figure = 0 }) (record { kind = level_kind_of (get_or s (place_of p) 0); figure = figure_at (size_of p - 1) s (place_of p + 1) }))).figure < 65536
      go true b = omega arith
      go false true = omega arith
      go false false = figures_fit (size_of p - 1) (place_of p + 1)

kind_fits : (k : Kind) → kind_number k < 65536
kind_fits None = omega arith
kind_fits Fpl = omega arith
kind_fits Cpl = omega arith
kind_fits Est = omega arith
kind_fits Chg = omega arith
kind_fits Cnl = omega arith
kind_fits Rti = omega arith
kind_fits Rta = omega arith
kind_fits Rla = omega arith
kind_fits Lam = omega arith
kind_fits Lrm = omega arith

level_kind_fits : (k : LevelKind) → level_number k < 65536
level_kind_fits Absent = omega arith
level_kind_fits FlightLevel = omega arith
level_kind_fits Altitude = omega arith
level_kind_fits MetricLevel = omega arith
level_kind_fits MetricAltitude = omega arith
level_kind_fits Vfr = omega arith

form_fits : (k : PointForm) → form_number k < 65536
form_fits NoPoint = omega arith
form_fits Name = omega arith
form_fits Bearing = omega arith
form_fits Degrees = omega arith
form_fits Minutes = omega arith

-- ROWS OF NUMBERS

small_join : (a b : List ℕ) → Small a → Small b → Small (a ++ b)
unfolding Small
small_join [] b p q = q
small_join (x ∷ a) b p q = (p.0, small_join a b p.1 q)

-- the parts by their names
spans_fit : (f : ℕ → Span) → ((k : ℕ) → place_of (f k) + size_of (f k) ≤ 1077) → (ns : List ℕ) → Small (span_numbers (map f ns))
unfolding Small
spans_fit f h [] = tt
spans_fit f h (n ∷ ns) = (omega (arith, h n), (omega arith, spans_fit f h ns))

abbrev named : List ℕ
named =
    72 ∷ 73 ∷ 74 ∷ 75 ∷ 76 ∷ 77
    ∷ 1 ∷ 2 ∷ 3 ∷ 4 ∷ 5 ∷ 6 ∷ 7 ∷ 8 ∷ 9 ∷ 10 ∷ 11 ∷ 12 ∷ 13 ∷ 14 ∷ 15 ∷ 16 ∷ 17 ∷ 18 ∷ 19 ∷ 20
    ∷ 64 ∷ 65 ∷ 66 ∷ 67 ∷ 68
    ∷ 33 ∷ 34 ∷ 35 ∷ 36 ∷ 37 ∷ 38 ∷ 39 ∷ 40 ∷ 41 ∷ 42 ∷ 43 ∷ 44 ∷ 45 ∷ 46 ∷ 47 ∷ 48 ∷ 49 ∷ 50 ∷ 51 ∷ 52
    ∷ 69 ∷ 70 ∷ 71 ∷ []

parts_fit : (f : ℕ → Span) → ((k : ℕ) → place_of (f k) + size_of (f k) ≤ 1077) → Small (parts_numbers (parts_of f))
parts_fit f h = spans_fit f h named

module _ (s : List ℕ) (h : (i : ℕ) → get_or s i 0 ≤ 90) (f : ℕ → Span) where
  row_fits : Small (figure_numbers (figures_of s (parts_of f)))
  unfolding Small
  row_fits =
      let p = parts_of f in (
        figures_fit s h (size_of p.number.digits) (place_of p.number.digits),
        (
          figures_fit s h (size_of p.reference.digits) (place_of p.reference.digits),
          (
            figures_fit s h (size_of p.own.count) (place_of p.own.count),
            (
              level_kind_fits (level_in s p.own.level).kind,
              (
                level_fits s h p.own.level,
                (
                  form_fits (figures_of s p).form,
                  (
                    level_kind_fits (level_in s p.estimate.crossing).kind,
                    (
                      level_fits s h p.estimate.crossing,
                      (
                        level_kind_fits (level_in s p.estimate.second).kind,
                        (
                          level_fits s h p.estimate.second,
                          (
                            figures_fit s h (size_of p.changes.count) (place_of p.changes.count),
                            (
                              level_kind_fits (level_in s p.changes.level).kind,
                              (
                                level_fits s h p.changes.level,
                                (
                                  figures_fit s h (size_of p.reason) (place_of p.reason),
                                  tt,
                                ),
                              ),
                            ),
                          ),
                        ),
                      ),
                    ),
                  ),
                ),
              ),
            ),
          ),
        ),
      )

  all_fit : ((k : ℕ) → place_of (f k) + size_of (f k) ≤ 1077) → Small (numbers_of (record_by s f))
  unfolding Small
  all_fit g = (kind_fits (record_by s f).kind, small_join (parts_numbers (parts_of f)) (figure_numbers (figures_of s (parts_of f))) (parts_fit f g) row_fits)

-- READ, PACKED AND TAKEN
pub read_fits : (s : List ℕ) (r : Record) → Judged s Read r → Small (numbers_of r)
read_fits s r j =
    let d : Derives message s = reads_derives message 0 s j.0 j.1 in
    let l : length s ≤ 1077 = omega (arith, derives_short message s d, message_longest) in
    subst (λ (x : Record). Small (numbers_of x)) (sym j.2)
    (all_fit s (low_at s (derives_low message message_capped s d)) (λ k. look k j.0) (λ k. omega (arith, part_within message s j.0 k j.1, l)))

pub read_back : (s : List ℕ) (r : Record) → Judged s Read r → record_in (packed_of r) ≡ r
read_back s r j = packed_back r (read_fits s r j)
