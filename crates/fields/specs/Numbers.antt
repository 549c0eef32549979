-- A message number that is whole: its twelve bytes are looked at together.
use Rattle.std.specs.Prelude.{◌≡◌, refl, Bool, true, ◌&&◌, List, ℕ, ◌+◌, ◌-◌, ◌≤◌, length, get_or, take, drop}
use Rattle.std.proofs.Common.{sym, ◌∙◌, arith}
use Rattle.std.proofs.Math.Path.{ap}
use Rattle.scan.specs.declared.Scan.{Scan}
use Rattle.scan.specs.declared.Class.TheVariants.{Letter, Digit, Byte, Two}
use Rattle.scan.specs.Grammar.{Span, is_in, all, run}
use Rattle.scan.specs.Texts.{byte}
use Rattle.scan.specs.Scanner.{from, scan, scan_at, among, occurs, span_by, between16}
use Rattle.scan.specs.Bools.{and_l, and_r}
use Rattle.scan.specs.Laws.{scan_alike, twice, one_on, run_spanned}
use Rattle.fields.specs.Fields.{in_numbered}
use Rattle.fields.specs.Found.{found_number}
use Rattle.scan.specs.Parts.{whole as whole_from}

-- the pieces of a whole number that stands at a place
pub record Numbered (s : List ℕ) (at : ℕ) : Type 0 where
  pub fits : at + 12 ≤ length s
  pub sender : scan_at (run Letter 4 4) s at ≡ from (at + 4)
  pub slash : scan_at (byte 47) s (at + 4) ≡ from (at + 5)
  pub receiver : scan_at (run Letter 4 4) s (at + 5) ≡ from (at + 9)
  pub digits : scan_at (run Digit 3 3) s (at + 9) ≡ from (at + 12)

letters : (s : List ℕ) (a e : ℕ) → a + 4 ≡ e → e ≤ length s → all (Two 65 90 65 90) (take (e - a) (drop a s)) ≡ true → scan_at (run Letter 4 4) s a ≡ from e
letters s a e m l f = sym (scan_alike (Two 65 90 65 90) Letter (twice 65 90) 4 4 s (from a)) ∙ run_spanned (Two 65 90 65 90) 4 s a e m l f

digits : (s : List ℕ) (a e : ℕ) → a + 3 ≡ e → e ≤ length s → all (Two 48 57 48 57) (take (e - a) (drop a s)) ≡ true → scan_at (run Digit 3 3) s a ≡ from e
digits s a e m l f = sym (scan_alike (Two 48 57 48 57) Digit (twice 48 57) 3 3 s (from a)) ∙ run_spanned (Two 48 57 48 57) 3 s a e m l f

slash : (s : List ℕ) (a e : ℕ) → a + 1 ≡ e → e ≤ length s → is_in (Byte 47) (get_or s a 0) ≡ true → scan_at (byte 47) s a ≡ from e
slash s a e m l f = sym (one_on (Byte 47) s (from a) refl (omega arith) f) ∙ ap (λ (n : ℕ). from n) m

pub numbered_is : (s : List ℕ) (at : ℕ) → at + 12 ≤ length s → (a b c d : Bool) → a ≡ all (Two 65 90 65 90) (take (at + 4 - at) (drop at s)) → b ≡ is_in (Byte 47) (get_or s (at + 4) 0) → c ≡ all (Two 65 90 65 90) (take (at + 9 - (at + 5)) (drop (at + 5) s)) → d ≡ all (Two 48 57 48 57) (take (at + 12 - (at + 9)) (drop (at + 9) s)) → a && b && c && d ≡ true → Numbered s at
numbered_is s at h a b c d p q r t e =
    let x = and_l (a && b && c) d e in
    let y = and_l (a && b) c x in
    record {
      fits = h;
      sender = letters s at (at + 4) (omega arith) (omega arith) (sym p ∙ and_l a b y);
      slash = slash s (at + 4) (at + 5) (omega arith) (omega arith) (sym q ∙ and_r a b y);
      receiver = letters s (at + 5) (at + 9) (omega arith) (omega arith) (sym r ∙ and_r (a && b) c x);
      digits = digits s (at + 9) (at + 12) (omega arith) (omega arith) (sym t ∙ and_r (a && b && c) d e);
    }

-- what the pieces of a whole number give
module _ (s : List ℕ) (r : Scan) (o : r.ok ≡ true) (n : Numbered s r.next) where
  abbrev at : ℕ
  at = r.next

  pub numbered_spans : (x y z : Span) → x ≡ between16 r (from (at + 4)) → y ≡ between16 (from (at + 5)) (from (at + 9)) → z ≡ between16 (from (at + 9)) (from (at + 12)) → record { end = from (at + 12); parts = record { sender = x; receiver = y; digits = z } } ≡ found_number s r
  unfolding in_numbered occurs span_by among
  numbered_spans x y z e f g =
      let a : scan (run Letter 4 4) s r ≡ from (at + 4) = ap (scan (run Letter 4 4) s) (whole_from r o) ∙ n.sender in
      rw (e, f, g, a, n.slash, n.receiver, n.digits)
