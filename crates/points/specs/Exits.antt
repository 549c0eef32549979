-- Where field 14 stops on the way, it ends there, and the parts behind it are absent.
use Rattle.std.specs.Prelude.{◌≡◌, true, List, ℕ}
use Rattle.std.proofs.Math.Path.{sym, ap}
use Rattle.std.proofs.Common.{◌∙◌, arith}
use Rattle.std.proofs.Math.Bool.{false}
use Rattle.scan.specs.declared.Scan.{Scan}
use Rattle.scan.specs.declared.Class.TheVariants.{Of}
use Rattle.scan.specs.Grammar.{G, eps, part, none}
use Rattle.scan.specs.Texts.{◌⨾◌, one, opt, byte}
use Rattle.scan.specs.Scanner.{scan, among, occurs, span_by, between16}
use Rattle.scan.specs.Theory.{skip}
use Rattle.scan.specs.Bounds.{spot_stays, between_off}
use Rattle.scan.specs.Picks.{Same, it, in_seq, in_part, in_field, begins_stays, unbeaten}
use Rattle.fields.specs.Names as n
use Rattle.fields.specs.Fields.{in14, g14, pointed, timed, levelled}
use Rattle.fields.specs.Chosen.{no_name, no_degrees, no_minutes, point_name, point_form}
use Rattle.fields.specs.Found.{found14}

-- a second level and its letter
abbrev again : G
again = part n.second levelled ⨾ part n.sense (one (Of 65 66 66 66 66))

module _ (s : List ℕ) (r : Scan) where
  abbrev a : Scan
  a = scan pointed s r

  abbrev b : Scan
  b = scan (byte 47) s a

  abbrev c : Scan
  c = scan timed s b

  abbrev d : Scan
  d = scan levelled s c

  pub stops_point : a.ok ≡ false → record { end = a; parts = record { point = none; over = none; crossing = none; second = none; sense = none } } ≡ found14 s r
  unfolding in14 occurs span_by among
  stops_point o =
      let x : b.ok ≡ false = ap (λ (q : Scan). q.ok) (skip (byte 47) s a o) ∙ o in
      let y : c.ok ≡ false = ap (λ (q : Scan). q.ok) (skip timed s b x) ∙ x in
      let z : d.ok ≡ false = ap (λ (q : Scan). q.ok) (skip levelled s c y) ∙ y in
      λ i. record {
        end = sym (begins_stays {h = pointed} {g = g14} (in_field (in_seq (in_part it))) s r o) i;
        parts = record {
          point = between_off r a o i;
          over = between_off b c y i;
          crossing = between_off c d z i;
          second = sym (spot_stays n.second (opt again) s d z) i;
          sense = sym (spot_stays n.sense (opt again) s d z) i;
        };
      }

  -- no second level, since the first is not whole
  pub stops_level : d.ok ≡ false → record { end = d; parts = record { point = between16 r a; over = between16 b c; crossing = between16 c d; second = none; sense = none } } ≡ found14 s r
  unfolding in14 occurs span_by among
  stops_level o = λ i. record {
    end = sym (skip (opt again) s d o) i;
    parts = record {
      point = between16 r a;
      over = between16 b c;
      crossing = between16 c d;
      second = sym (spot_stays n.second (opt again) s d o) i;
      sense = sym (spot_stays n.sense (opt again) s d o) i;
    };
  }

  -- no second level, since none begins
  pub one_level : d.ok ≡ true → (scan levelled s d).ok ≡ false → (scan levelled s d).next ≡ d.next → record { end = d; parts = record { point = between16 r a; over = between16 b c; crossing = between16 c d; second = none; sense = none } } ≡ found14 s r
  unfolding in14 occurs span_by among
  one_level o e n' =
      let m : Same (opt again) eps s d = unbeaten eps again s d o (omega (arith, n', ap (λ (q : Scan). q.next) (begins_stays {h = levelled} {g = again} (in_seq (in_part it)) s d e))) in
      λ i. record { end = sym m.0 i; parts = record { point = between16 r a; over = between16 b c; crossing = between16 c d; second = sym (m.1 n.second) i; sense = sym (m.1 n.sense) i } }

-- what the tests of the code leave
pub ruleset exits = (no_name, no_degrees, no_minutes, point_name, point_form, stops_point, stops_level, one_level)
