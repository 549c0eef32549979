-- Where a field stops on the way, it ends there, and the parts behind it are absent. An optional piece that does not begin is passed over;
-- one that does is taken.
use Rattle.std.specs.Prelude.{◌≡◌, refl, ◌⊎◌, true, List, [], ◌∷◌, ℕ, ◌<◌}
use Rattle.std.proofs.Math.Path.{sym, ap}
use Rattle.std.proofs.Common.{◌∙◌, inl, inr, arith}
use Rattle.std.proofs.Math.Bool.{false}
use Rattle.scan.specs.declared.Scan.{Scan}
use Rattle.scan.specs.declared.Class.{Class}
use Rattle.scan.specs.declared.Class.TheVariants.{Letter, Octal, Alnum, Digit, Byte}
use Rattle.scan.specs.Bools.{known}
use Rattle.scan.specs.Grammar.{Span, G, eps, run, part, none}
use Rattle.scan.specs.Texts.{◌⨾◌, one, opt, byte, lit}
use Rattle.scan.specs.Scanner.{scan, among, occurs, span_by, between16, spot}
use Rattle.scan.specs.Theory.{skip}
use Rattle.scan.specs.Bounds.{scan_forth, spot_stays, between_off}
use Rattle.scan.specs.Picks.{Same, Begins, it, in_seq, in_part, in_field, begins_stays, behind, unbeaten, one_passed, one_missed}
use Rattle.scan.specs.Tests.{good, good_test}
use Rattle.scan.specs.Picks.{sunder, sunder_test, outrun}
use Rattle.fields.specs.Names as n
use Rattle.fields.specs.Chosen.{after_three, after_four, after_vfr, speed_knots, speed_mach}
use Rattle.fields.specs.Numbers.{numbered_is, numbered_spans}
use Rattle.fields.specs.declared.Found09.{Found09}
use Rattle.fields.specs.Fields.{in07, in08, in09, counted, wake_letter, in10, in13, in13o, in16, alternates, timed, minute, g07, g08, g10, g13, g13o, g16, rules_letter, flight_letter}
use Rattle.fields.specs.Found.{found07, found08, found09, found10, found13, found13o, found16}

-- an optional piece that begins with a byte of a class
module _ (c : Class) (g : G) (s : List ℕ) (r : Scan) where
  -- the byte is not there
  opt_off : Begins (one c) g → (scan (one c) s r).ok ≡ false → (scan (opt g) s r ≡ r) × ((n : ℕ) → spot n (opt g) s r ≡ none)
  unfolding occurs span_by
  opt_off b e = go (known r.ok)
    where
      go : (r.ok ≡ true) ⊎ (r.ok ≡ false) → (scan (opt g) s r ≡ r) × ((n : ℕ) → spot n (opt g) s r ≡ none)
      go (inl o) =
          let m : Same (opt g) eps s r = unbeaten eps g s r o (omega (arith, one_missed c s r e, ap (λ (x : Scan). x.next) (begins_stays b s r e))) in
          (m.0, m.1)
      go (inr o) = (skip (opt g) s r o, λ n. spot_stays n (opt g) s r o)

-- one that has gone on is taken
opt_on : (g : G) (s : List ℕ) (r : Scan) → r.next < (scan g s r).next → Same (opt g) g s r
opt_on g s r h = behind eps g s r h

-- what antt computes: a count does not begin with a letter

good_letter : good (one Letter) ≡ true
unfolding good_test
good_letter = refl

good_counted : good counted ≡ true
unfolding counted good_test
good_counted = refl

letter_counted : sunder 1 (one Letter) counted ≡ true
unfolding counted sunder_test
letter_counted = refl

-- 09 from its second part on

abbrev model : G
model = one Letter ⨾ run Alnum 1 3

abbrev rest09 : G
rest09 = part n.model model ⨾ byte 47 ⨾ part n.wake (one wake_letter)

unfoldable pub found_model : List ℕ → Scan → Span → Found09
found_model s r count = record { end = scan rest09 s r; count = count; model = spot n.model rest09 s r; wake = spot n.wake rest09 s r }

module _ (s : List ℕ) (r : Scan) where
  pub stops_model : (count : Span) → (scan model s r).ok ≡ false → record { end = scan model s r; count = count; model = none; wake = none } ≡ found_model s r count
  unfolding found_model occurs span_by
  stops_model count o = λ i. record {
    end = sym (begins_stays {h = model} {g = rest09} (in_seq (in_part it)) s r o) i;
    count = count;
    model = between_off r (scan model s r) o i;
    wake = sym (spot_stays n.wake (byte 47 ⨾ part n.wake (one wake_letter)) s (scan model s r) o) i;
  }

  -- a field that begins with a letter has no count
  pub letter09 : (scan (one Letter) s r).ok ≡ true → found_model s r none ≡ found09 0 s r
  unfolding found_model in09 occurs span_by among
  letter09 e =
      let h = one_passed Letter s r e in
      let m : Same (opt (part n.count counted)) eps s r = unbeaten eps (part n.count counted) s r h.0 (omega (arith, outrun 1 (one Letter) counted good_letter good_counted letter_counted (omega arith) s r (omega (arith, h.1)))) in
      λ i. record { end = scan rest09 s (sym m.0 i); count = sym (m.1 n.count) i; model = spot n.model rest09 s (sym m.0 i); wake = spot n.wake rest09 s (sym m.0 i) }

  -- 07

  abbrev craft : Scan
  craft = scan (run Alnum 2 7) s r

  abbrev coded : G
  coded = lit (47 ∷ 65 ∷ []) ⨾ part n.code (run Octal 4 4)

  pub stops07 : craft.ok ≡ false → record { end = craft; aircraft = none; code = none } ≡ found07 0 s r
  unfolding in07 occurs span_by among
  stops07 o = λ i. record { end = sym (begins_stays {h = run Alnum 2 7} {g = g07 0} (in_field (in_seq (in_part it))) s r o) i; aircraft = between_off r craft o i; code = sym (spot_stays n.code (opt coded) s craft o) i }

  pub bare07 : (scan (byte 47) s craft).ok ≡ false → record { end = craft; aircraft = between16 r craft; code = none } ≡ found07 0 s r
  unfolding in07 occurs span_by among
  bare07 e = let m = opt_off (Byte 47) coded s craft (in_seq (in_seq it)) e in λ i. record { end = sym m.0 i; aircraft = between16 r craft; code = sym (m.1 n.code) i }

  pub coded07 : (scan (byte 47) s craft).ok ≡ true → record { end = scan coded s craft; aircraft = between16 r craft; code = between16 (scan (lit (47 ∷ 65 ∷ [])) s craft) (scan coded s craft) } ≡ found07 0 s r
  unfolding in07 occurs span_by among
  coded07 e =
      let m : Same (opt coded) coded s craft = opt_on coded s craft (omega (arith, (one_passed (Byte 47) s craft e).1, scan_forth (lit (65 ∷ [])) s (scan (byte 47) s craft), scan_forth (run Octal 4 4) s (scan (lit (47 ∷ 65 ∷ [])) s craft))) in
      λ i. record { end = sym m.0 i; aircraft = between16 r craft; code = sym (m.1 n.code) i }

  -- 08

  abbrev ruled : Scan
  ruled = scan (one rules_letter) s r

  pub stops08 : ruled.ok ≡ false → record { end = ruled; rules = none; flight = none } ≡ found08 0 s r
  unfolding in08 occurs span_by among
  stops08 o = λ i. record { end = sym (begins_stays {h = one rules_letter} {g = g08 0} (in_field (in_seq (in_part it))) s r o) i; rules = between_off r ruled o i; flight = sym (spot_stays n.flight (opt (part n.flight (one flight_letter))) s ruled o) i }

  pub bare08 : (scan (one flight_letter) s ruled).ok ≡ false → record { end = ruled; rules = between16 r ruled; flight = none } ≡ found08 0 s r
  unfolding in08 occurs span_by among
  bare08 e = let m = opt_off flight_letter (part n.flight (one flight_letter)) s ruled (in_part it) e in λ i. record { end = sym m.0 i; rules = between16 r ruled; flight = sym (m.1 n.flight) i }

  pub whole08 : (scan (one flight_letter) s ruled).ok ≡ true → record { end = scan (one flight_letter) s ruled; rules = between16 r ruled; flight = between16 ruled (scan (one flight_letter) s ruled) } ≡ found08 0 s r
  unfolding in08 occurs span_by among
  whole08 e =
      let m : Same (opt (part n.flight (one flight_letter))) (part n.flight (one flight_letter)) s ruled = opt_on (part n.flight (one flight_letter)) s ruled (omega (arith, (one_passed flight_letter s ruled e).1)) in
      λ i. record { end = sym m.0 i; rules = between16 r ruled; flight = sym (m.1 n.flight) i }

  -- 10

  abbrev fitted : Scan
  fitted = scan (run Alnum 1 40) s r

  pub stops10 : fitted.ok ≡ false → record { end = fitted; equipment = none; surveillance = none } ≡ found10 0 s r
  unfolding in10 occurs span_by among
  stops10 o = λ i. record { end = sym (begins_stays {h = run Alnum 1 40} {g = g10 0} (in_field (in_seq (in_part it))) s r o) i; equipment = between_off r fitted o i; surveillance = sym (spot_stays n.surveillance (byte 47 ⨾ part n.surveillance (run Alnum 1 20)) s fitted o) i }

  pub half10 : (scan (byte 47) s fitted).ok ≡ false → record { end = scan (byte 47) s fitted; equipment = between16 r fitted; surveillance = none } ≡ found10 0 s r
  unfolding in10 occurs span_by among
  half10 o = λ i. record { end = sym (skip (run Alnum 1 20) s (scan (byte 47) s fitted) o) i; equipment = between16 r fitted; surveillance = sym (spot_stays n.surveillance (part n.surveillance (run Alnum 1 20)) s (scan (byte 47) s fitted) o) i }

  -- 13 and 16 begin with four letters

  abbrev placed : Scan
  placed = scan (run Letter 4 4) s r

  pub stops13 : placed.ok ≡ false → record { end = placed; departure = none; time = none } ≡ found13 0 s r
  unfolding in13 occurs span_by among
  stops13 o = λ i. record { end = sym (begins_stays {h = run Letter 4 4} {g = g13 0} (in_field (in_seq (in_part it))) s r o) i; departure = between_off r placed o i; time = sym (spot_stays n.time (part n.time timed) s placed o) i }

  pub stops13o : placed.ok ≡ false → record { end = placed; departure = none; time = none } ≡ found13o s r
  unfolding in13o occurs span_by among
  stops13o o = λ i. record { end = sym (begins_stays {h = run Letter 4 4} {g = g13o} (in_field (in_seq (in_part it))) s r o) i; departure = between_off r placed o i; time = sym (spot_stays n.time (opt (part n.time timed)) s placed o) i }

  pub bare13o : placed.ok ≡ true → (scan timed s placed).next ≡ placed.next → record { end = placed; departure = between16 r placed; time = none } ≡ found13o s r
  unfolding in13o occurs span_by among
  bare13o o e =
      let m : Same (opt (part n.time timed)) eps s placed = unbeaten eps (part n.time timed) s placed o (omega (arith, e)) in
      λ i. record { end = sym m.0 i; departure = between16 r placed; time = sym (m.1 n.time) i }

  pub timed13o : ((scan timed s placed).next ≡ placed.next → ⊥) → record { end = scan timed s placed; departure = between16 r placed; time = between16 placed (scan timed s placed) } ≡ found13o s r
  unfolding in13o occurs span_by among
  timed13o e =
      let m : Same (opt (part n.time timed)) (part n.time timed) s placed = opt_on (part n.time timed) s placed (omega (arith, e, scan_forth timed s placed)) in
      λ i. record { end = sym m.0 i; departure = between16 r placed; time = sym (m.1 n.time) i }

  abbrev elapsing : G
  elapsing = part n.elapsed (run Digit 2 2 ⨾ minute)

  pub stops16 : placed.ok ≡ false → record { end = placed; destination = none; elapsed = none; alternate = none; alternate2 = none } ≡ found16 0 s r
  unfolding in16 occurs span_by among
  stops16 o =
      let e : scan (opt elapsing) s placed ≡ placed = skip (opt elapsing) s placed o in
      let p : (scan (opt elapsing) s placed).ok ≡ false = ap (λ (x : Scan). x.ok) e ∙ o in
      λ i. record {
        end = sym (begins_stays {h = run Letter 4 4} {g = g16 0} (in_field (in_seq (in_part it))) s r o) i;
        destination = between_off r placed o i;
        elapsed = sym (spot_stays n.elapsed (opt elapsing) s placed o) i;
        alternate = sym (spot_stays n.alternate (alternates 0) s (scan (opt elapsing) s placed) p) i;
        alternate2 = sym (spot_stays n.alternate2 (alternates 0) s (scan (opt elapsing) s placed) p) i;
      }

  abbrev elapsed : Scan
  elapsed = scan (opt elapsing) s placed

  pub bare16 : (scan (byte 32) s elapsed).ok ≡ false → (x : Span) → x ≡ spot n.elapsed (opt elapsing) s placed → record { end = elapsed; destination = between16 r placed; elapsed = x; alternate = none; alternate2 = none } ≡ found16 0 s r
  unfolding in16 alternates occurs span_by among
  bare16 e x p =
      let m = opt_off (Byte 32) (byte 32 ⨾ part n.alternate (run Letter 4 4) ⨾ opt (byte 32 ⨾ part n.alternate2 (run Letter 4 4))) s elapsed (in_seq it) e in
      λ i. record { end = sym m.0 i; destination = between16 r placed; elapsed = p i; alternate = sym (m.1 n.alternate) i; alternate2 = sym (m.1 n.alternate2) i }

-- what the tests of the code leave
pub ruleset exits = (stops_model, letter09, stops07, bare07, coded07, stops08, bare08, whole08, stops10, half10, stops13, stops13o, bare13o, timed13o, stops16, bare16, after_three, after_four, after_vfr, speed_knots, speed_mach, numbered_is, numbered_spans)
