-- Which arm of a field the bytes at hand choose.
use Rattle.std.specs.Prelude.{◌≡◌, ◌⊎◌, Bool, true, false, cond, not, ◌&&◌, ◌||◌, List, [], ◌∷◌, ℕ, ◌-◌, ◌≤◌, ltb}
use Rattle.std.proofs.Math.Path.{refl, sym}
use Rattle.std.proofs.Common.{ap, ◌∙◌, inl, inr, arith}
use borrow.Author.Tests.{lt-ltb, le-ltb, ltb-false, not-true}
use Rattle.scan.specs.Bools.{and_l, and_r, known}
use Rattle.scan.specs.declared.Scan.{Scan}
use Rattle.scan.specs.declared.Class.TheVariants.{Letter, Digit, Alnum, Byte, Range, Of}
use Rattle.scan.specs.Grammar.{G, ranges, run, words, alt, part, none}
use Rattle.scan.specs.Texts.{◌⨾◌, byte, one, lit}
use Rattle.scan.specs.Scanner.{scan, longer, among, occurs, span_by, spot}
use Rattle.scan.specs.Tests.{bytes, good_test}
use Rattle.scan.specs.Bounds.{scan_forth}
use Rattle.scan.specs.Picks.{Same, same_trans, lies, within, it, in_seq, then, in_part, in_field, begins_stays, chosen, given_up, by_byte, not_byte, one_passed, one_missed, run_passed, run_longer, unbeaten, stops, sunder_test}
use Rattle.fields.specs.declared.Found15.{Found15}
use Rattle.fields.specs.declared.Found18.{Found18}
use Rattle.fields.specs.Names as n
use Rattle.fields.specs.Fields.{hour, minute, level3, level4, levelled, bearing, bearing_from, degrees, minutes, pointed, after15, in15, nothing18, in_three18, three18, in_four18, four18, in18, below60, field_rules}
use Rattle.fields.specs.Found.{found_routed, found_after15, found_sped, found15, found18}

abbrev early : G
early = one (Range 48 49) ⨾ one Digit

abbrev late : G
late = byte 50 ⨾ one (Range 48 51)

abbrev sixty : G
sixty = lit (54 ∷ 48 ∷ [])

abbrev pub north_degrees : G
north_degrees = alt (one (Range 48 56) ⨾ one Digit) (lit (57 ∷ 48 ∷ []))

abbrev pub north_minutes : G
north_minutes = alt (one (Range 48 56) ⨾ one Digit ⨾ minute) (lit (57 ∷ 48 ∷ 48 ∷ 48 ∷ []))

-- the scan of x is whole, and neither letter nor digit follows
abbrev pub ended : G → List ℕ → Scan → Bool
ended x s r = (scan x s r).ok && not (scan (one Alnum) s (scan x s r)).ok

ended_whole : (x : G) (s : List ℕ) (r : Scan) → ended x s r ≡ true → (scan x s r).ok ≡ true
ended_whole x s r e = and_l (scan x s r).ok (not (scan (one Alnum) s (scan x s r)).ok) e

-- so no grammar of letters and digits goes on
ended_stops : (x g : G) (s : List ℕ) (r : Scan) → ended x s r ≡ true → within (bytes g) (ranges Alnum) ≡ true → (scan g s r).next ≤ (scan x s r).next
ended_stops x g s r e w = stops Alnum x g w s r (ended_whole x s r e) (not-true _ (and_r (scan x s r).ok (not (scan (one Alnum) s (scan x s r)).ok) e))

-- x is an arm of g, and the other arms have letters and digits only
pub data ArmOf : G → G → Type 0 where
  itself : {x : G} → ArmOf x x
  first_arm : {x a b : G} → ArmOf x a → within (bytes b) (ranges Alnum) ≡ true → ArmOf x (alt a b)
  later_arm : {x a b : G} → ArmOf x b → within (bytes a) (ranges Alnum) ≡ true → ArmOf x (alt a b)

-- q is the scan of one form of a point
abbrev pub OfPoint : List ℕ → Scan → Scan → Type 0
OfPoint s r q = (x : G) × ArmOf x pointed × (q ≡ scan x s r)

pub name_arm : ArmOf (run Alnum 2 5) pointed
unfolding within lies bytes field_rules
name_arm = first_arm itself refl

pub two_arm : ArmOf (bearing_from 2) pointed
unfolding within lies bytes field_rules
two_arm = later_arm (first_arm (first_arm itself refl) refl) refl

pub three_arm : ArmOf (bearing_from 3) pointed
unfolding within lies bytes field_rules
three_arm = later_arm (first_arm (later_arm (first_arm itself refl) refl) refl) refl

pub four_arm : ArmOf (bearing_from 4) pointed
unfolding within lies bytes field_rules
four_arm = later_arm (first_arm (later_arm (later_arm (first_arm itself refl) refl) refl) refl) refl

pub five_arm : ArmOf (bearing_from 5) pointed
unfolding within lies bytes field_rules
five_arm = later_arm (first_arm (later_arm (later_arm (later_arm itself refl) refl) refl) refl) refl

pub degrees_arm : ArmOf degrees pointed
unfolding within lies bytes field_rules
degrees_arm = later_arm (later_arm (first_arm itself refl) refl) refl

pub minutes_arm : ArmOf minutes pointed
unfolding within lies bytes field_rules
minutes_arm = later_arm (later_arm (later_arm itself refl) refl) refl

-- the later of two is whole and not behind
longer_late : (p q : Scan) → q.ok ≡ true → p.next ≤ q.next → longer p q ≡ q
unfolding longer
longer_late p q o h = go (known (ltb p.next q.next))
  where
    any : (b : Bool) → b || true ≡ true
    any true = refl
    any false = refl

    go : (ltb p.next q.next ≡ true) ⊎ (ltb p.next q.next ≡ false) → cond (ltb p.next q.next) q (cond (ltb q.next p.next) p (record { next = p.next; ok = p.ok || q.ok })) ≡ q
    go (inl e) = rw e
    go (inr e) =
        let l : p.next ≡ q.next = omega (arith, ltb-false p.next q.next e) in
        let w : p.ok || q.ok ≡ q.ok = rw o (any p.ok) in
        rw (e, le-ltb q.next p.next (omega arith)) (λ i. record { next = l i; ok = w i })

-- field 15 after its speed
abbrev routed : G → ℕ → G
routed g k = part n.level g ⨾ byte 32 ⨾ part n.route (words k)

abbrev vfr : G
vfr = lit (86 ∷ 70 ∷ 82 ∷ [])

abbrev knots : G
knots = part n.speed (one (Of 75 78 78 78 78) ⨾ run Digit 4 4) ⨾ after15 0 295

abbrev mach : G
mach = part n.speed (byte 77 ⨾ run Digit 3 3) ⨾ after15 0 296

abbrev letters18 : G
letters18 = alt (three18 0) (four18 0)

-- three letters and a slash
abbrev pub key18 : G
key18 = part n.indicator (run Letter 3 3) ⨾ byte 47

abbrev found15_by : G → List ℕ → Scan → Found15
found15_by g s r = record { end = scan g s r; speed = spot n.speed g s r; level = spot n.level g s r; route = spot n.route g s r }

abbrev found18_by : G → List ℕ → Scan → Found18
found18_by g s r = record { end = scan g s r; indicator = spot n.indicator g s r; other = spot n.other g s r }

as15 : (a b : G) (s : List ℕ) (r : Scan) → Same a b s r → found15_by b s r ≡ found15_by a s r
as15 a b s r p = sym (λ i. record { end = p.0 i; speed = p.1 n.speed i; level = p.1 n.level i; route = p.1 n.route i })

as18 : (a b : G) (s : List ℕ) (r : Scan) → Same a b s r → found18_by b s r ≡ found18_by a s r
as18 a b s r p = sym (λ i. record { end = p.0 i; indicator = p.1 n.indicator i; other = p.1 n.other i })

module _ (s : List ℕ) (r : Scan) where
  -- A TIME'S HOUR

  pub hour_early : (scan (one (Range 48 49)) s r).ok ≡ true → scan early s r ≡ scan hour s r
  unfolding hour good_test sunder_test
  hour_early o = sym (by_byte (Range 48 49) s r early late (in_seq it) refl refl refl o).0

  pub hour_late : (scan (one (Range 48 49)) s r).ok ≡ false → scan late s r ≡ scan hour s r
  unfolding hour
  hour_late o = sym (not_byte (Range 48 49) s r early late (in_seq it) o).0

  -- A LEVEL

  pub level_three : (scan (one (Of 70 65 65 65 65)) s r).ok ≡ true → scan (one (Of 70 65 65 65 65) ⨾ run Digit 3 3) s r ≡ scan levelled s r
  unfolding levelled level3 level4 good_test sunder_test
  level_three o = sym (by_byte (Of 70 65 65 65 65) s r level3 level4 (in_seq it) refl refl refl o).0

  pub level_four : (scan (one (Of 70 65 65 65 65)) s r).ok ≡ false → scan (one (Of 83 77 77 77 77) ⨾ run Digit 4 4) s r ≡ scan levelled s r
  unfolding levelled level3 level4
  level_four o = sym (not_byte (Of 70 65 65 65 65) s r level3 level4 (in_seq it) o).0

  -- A BEARING

  pub bearing_low : (scan (one (Range 48 50)) s r).ok ≡ true → scan (one (Range 48 50) ⨾ run Digit 2 2) s r ≡ scan bearing s r
  unfolding bearing good_test sunder_test
  bearing_low o = sym (by_byte (Range 48 50) s r (one (Range 48 50) ⨾ run Digit 2 2) (byte 51 ⨾ alt below60 sixty) (in_seq it) refl refl refl o).0

  pub bearing_high : (scan (one (Range 48 50)) s r).ok ≡ false → (scan (one (Range 48 53)) s (scan (byte 51) s r)).ok ≡ true → scan (byte 51 ⨾ below60) s r ≡ scan bearing s r
  unfolding bearing good_test sunder_test
  bearing_high o e =
      sym (by_byte (Range 48 53) s (scan (byte 51) s r) below60 sixty (in_seq it) refl refl refl e).0
      ∙ sym (not_byte (Range 48 50) s r (one (Range 48 50) ⨾ run Digit 2 2) (byte 51 ⨾ alt below60 sixty) (in_seq it) o).0

  pub bearing_360 : (scan (one (Range 48 50)) s r).ok ≡ false → (scan (one (Range 48 53)) s (scan (byte 51) s r)).ok ≡ false → scan (byte 51 ⨾ sixty) s r ≡ scan bearing s r
  unfolding bearing
  bearing_360 o e =
      sym (not_byte (Range 48 53) s (scan (byte 51) s r) below60 sixty (in_seq it) e).0
      ∙ sym (not_byte (Range 48 50) s r (one (Range 48 50) ⨾ run Digit 2 2) (byte 51 ⨾ alt below60 sixty) (in_seq it) o).0

  pub no_name : (k : ℕ) → (scan (run Alnum k k) s r).ok ≡ false → scan (run Alnum k k) s r ≡ scan (bearing_from k) s r
  unfolding bearing_from
  no_name k o = sym (begins_stays {h = run Alnum k k} {g = run Alnum k k ⨾ bearing ⨾ run Digit 3 3} (in_seq it) s r o)

  -- LATITUDE AND LONGITUDE

  pub no_degrees : (scan north_degrees s r).ok ≡ false → scan north_degrees s r ≡ scan degrees s r
  unfolding degrees
  no_degrees o = sym (begins_stays {h = north_degrees} {g = degrees} (in_seq it) s r o)

  pub no_minutes : (scan north_minutes s r).ok ≡ false → scan north_minutes s r ≡ scan minutes s r
  unfolding minutes
  no_minutes o = sym (begins_stays {h = north_minutes} {g = minutes} (in_seq it) s r o)

  -- A POINT

  -- an arm that has ended is what all arms together scan
  arm_is : {x g : G} → ArmOf x g → ended x s r ≡ true → scan g s r ≡ scan x s r
  arm_is itself e = refl
  arm_is (first_arm {x} {a} {b} l w) e =
      let p = arm_is l e in
      let o : (scan a s r).ok ≡ true = ap (λ (q : Scan). q.ok) p ∙ ended_whole x s r e in
      (unbeaten a b s r o (omega (arith, ap (λ (q : Scan). q.next) p, ended_stops x b s r e w))).0 ∙ p
  arm_is (later_arm {x} {a} {b} l w) e =
      let p = arm_is l e in
      let o : (scan b s r).ok ≡ true = ap (λ (q : Scan). q.ok) p ∙ ended_whole x s r e in
      longer_late (scan a s r) (scan b s r) o (omega (arith, ap (λ (q : Scan). q.next) p, ended_stops x a s r e w)) ∙ p

  pub point_name : ended (run Alnum 2 5) s r ≡ true → scan (run Alnum 2 5) s r ≡ scan pointed s r
  point_name e = sym (arm_is name_arm e)

  pub point_form : (q : Scan) → OfPoint s r q → q.ok && not (scan (one Alnum) s q).ok ≡ true → q ≡ scan pointed s r
  point_form q (x, l, p) e = p ∙ sym (arm_is l (sym (ap (λ (q : Scan). q.ok && not (scan (one Alnum) s q).ok) p) ∙ e))

  -- FIELD 15 AFTER ITS SPEED

  module _ (k : ℕ) (h : 7 ≤ k) where
    pub after_three : (scan (one (Of 70 65 65 65 65)) s r).ok ≡ true → found_routed s r (scan (one (Of 70 65 65 65 65) ⨾ run Digit 3 3) s r) (k - 5) ≡ found_after15 k s r
    unfolding found_routed found_after15 after15 level3 level4 occurs span_by good_test sunder_test
    after_three o =
        let p = by_byte (Of 70 65 65 65 65) s r (routed level3 (k - 5)) (alt (routed level4 (k - 6)) (routed vfr (k - 4))) (in_seq (in_part (in_seq it))) (rw (lt-ltb 0 (k - 5) (omega arith))) (rw (lt-ltb 0 (k - 6) (omega arith), lt-ltb 0 (k - 4) (omega arith))) refl o in
        sym (λ i. record { end = p.0 i; speed = none; level = p.1 n.level i; route = p.1 n.route i })

    pub after_four : (scan (one (Of 70 65 65 65 65)) s r).ok ≡ false → (scan (one (Of 83 77 77 77 77)) s r).ok ≡ true → found_routed s r (scan (one (Of 83 77 77 77 77) ⨾ run Digit 4 4) s r) (k - 6) ≡ found_after15 k s r
    unfolding found_routed found_after15 after15 level3 level4 occurs span_by good_test sunder_test
    after_four e o =
        let q = not_byte (Of 70 65 65 65 65) s r (routed level3 (k - 5)) (alt (routed level4 (k - 6)) (routed vfr (k - 4))) (in_seq (in_part (in_seq it))) e in
        let p = by_byte (Of 83 77 77 77 77) s r (routed level4 (k - 6)) (routed vfr (k - 4)) (in_seq (in_part (in_seq it))) (rw (lt-ltb 0 (k - 6) (omega arith))) (rw (lt-ltb 0 (k - 4) (omega arith))) refl o in
        let t = same_trans (after15 0 k) (alt (routed level4 (k - 6)) (routed vfr (k - 4))) (routed level4 (k - 6)) s r q p in
        sym (λ i. record { end = t.0 i; speed = none; level = t.1 n.level i; route = t.1 n.route i })

    pub after_vfr : (scan (one (Of 70 65 65 65 65)) s r).ok ≡ false → (scan (one (Of 83 77 77 77 77)) s r).ok ≡ false → found_routed s r (scan vfr s r) (k - 4) ≡ found_after15 k s r
    unfolding found_routed found_after15 after15 level3 level4 occurs span_by
    after_vfr e o =
        let q = not_byte (Of 70 65 65 65 65) s r (routed level3 (k - 5)) (alt (routed level4 (k - 6)) (routed vfr (k - 4))) (in_seq (in_part (in_seq it))) e in
        let p = not_byte (Of 83 77 77 77 77) s r (routed level4 (k - 6)) (routed vfr (k - 4)) (in_seq (in_part (in_seq it))) o in
        let t = same_trans (after15 0 k) (alt (routed level4 (k - 6)) (routed vfr (k - 4))) (routed vfr (k - 4)) s r q p in
        sym (λ i. record { end = t.0 i; speed = none; level = t.1 n.level i; route = t.1 n.route i })

  -- FIELD 15

  pub speed_knots : (scan (one (Of 75 78 78 78 78)) s r).ok ≡ true → found_sped s r (scan (one (Of 75 78 78 78 78) ⨾ run Digit 4 4) s r) 295 ≡ found15 0 s r
  unfolding found_sped found_after15 in15 among occurs span_by after15 level3 level4 good_test sunder_test
  speed_knots o = as15 (in15 0) knots s r (by_byte (Of 75 78 78 78 78) s r knots mach (in_seq (in_part (in_seq it))) refl refl refl o)

  pub speed_mach : (scan (one (Of 75 78 78 78 78)) s r).ok ≡ false → found_sped s r (scan (byte 77 ⨾ run Digit 3 3) s r) 296 ≡ found15 0 s r
  unfolding found_sped found_after15 in15 among occurs span_by after15 level3 level4
  speed_mach o = as15 (in15 0) mach s r (not_byte (Of 75 78 78 78 78) s r knots mach (in_seq (in_part (in_seq it))) o)

  -- FIELD 18

  pub nothing_18 : (scan (byte 48) s r).ok ≡ true → found18_by (nothing18 0) s r ≡ found18 0 s r
  unfolding in18 in_three18 in_four18 among occurs span_by good_test sunder_test
  nothing_18 o = as18 (in18 0) (nothing18 0) s r (by_byte (Byte 48) s r (nothing18 0) letters18 (in_part it) refl refl refl o)

  letters_18 : (scan (byte 48) s r).ok ≡ false → Same (in18 0) letters18 s r
  unfolding in18
  letters_18 o = not_byte (Byte 48) s r (nothing18 0) letters18 (in_part it) o

  -- three letters and a slash leave no room for a fourth letter
  pub three_over : (scan key18 s r).ok ≡ true → Same letters18 (three18 0) s r
  unfolding in_three18 in_four18 good_test sunder_test
  three_over o =
      let q : Scan = scan (run Letter 3 3) s r in
      let p = one_passed (Byte 47) s q o in
      let l = run_passed Letter 3 s r p.0 in
      chosen 4 key18 (three18 0) (four18 0) (in_field (then (in_seq it))) refl refl refl (omega arith) s r (omega (arith, p.1, l.1))

  -- what stops three letters stops four
  pub four_over : (scan key18 s r).ok ≡ false → Same letters18 (four18 0) s r
  unfolding in_three18 in_four18
  four_over o =
      let q : Scan = scan (run Letter 3 3) s r in
      let f : Scan = scan (run Letter 4 4) s r in
      given_up key18 (three18 0) (four18 0) (in_field (then (in_seq it))) s r o (omega (arith, one_missed (Byte 47) s q o, run_longer Letter 3 3 4 4 s r (omega arith), scan_forth (byte 47 ⨾ words 295) s f))

  pub three_18 : (scan (byte 48) s r).ok ≡ false → (scan key18 s r).ok ≡ true → found18_by (three18 0) s r ≡ found18 0 s r
  unfolding among occurs span_by
  three_18 o e = as18 (in18 0) (three18 0) s r (same_trans (in18 0) letters18 (three18 0) s r (letters_18 o) (three_over e))

  pub four_18 : (scan (byte 48) s r).ok ≡ false → (scan key18 s r).ok ≡ false → found18_by (four18 0) s r ≡ found18 0 s r
  unfolding among occurs span_by
  four_18 o e = as18 (in18 0) (four18 0) s r (same_trans (in18 0) letters18 (four18 0) s r (letters_18 o) (four_over e))

-- which arm each test of the code leaves
pub ruleset choices = (hour_early, hour_late, level_three, level_four, bearing_low, bearing_high, bearing_360, nothing_18, three_18, four_18)
