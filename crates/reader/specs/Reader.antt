-- The scan of a text gives what Reading asks for, and Reading leaves no choice.
use Rattle.std.specs.Prelude.{◌≡◌, refl, true, false, cond, List, ℕ, length, take, eqb}
use Rattle.std.proofs.Common.{sym, ap, ◌∙◌, subst, inl, inr, arith, length-take-le}
use Rattle.std.proofs.lemmas.Bool.{false≢true}
use Rattle.scan.specs.Bools.{and_l}
use Rattle.scan.specs.declared.Scan.{Scan}
use Rattle.scan.specs.Grammar.{Derives, Refusal}
use Rattle.scan.specs.Scanner.{scan_at}
use Rattle.scan.specs.Theory.{place, accepts_of, passed}
use Rattle.scan.specs.Parts.{reads_derives}
use Rattle.scan.specs.Bounds.{refused}
use Rattle.message.specs.declared.Verdict.{Verdict}
use Rattle.message.specs.declared.Verdict.TheVariants.{Read, Refused}
use Rattle.message.specs.declared.Record.{Record}
use Rattle.types.specs.Messages.{message}
use Rattle.types.specs.Sound.{message_good}
use Rattle.message.specs.Record.{blank}
use Rattle.types.specs.Scanned.{Scanned, found_by, scanned_by, found_all}
use Rattle.reader.specs.Reading.{hyphens, Judged, answer_of, Answers}

-- A scan that is whole and reaches the end

-- then it is what was found
pub all_found : (s : List ℕ) (q : Scanned) → q ≡ scanned_by message s → passed s q.end ≡ true → q ≡ found_by message s
all_found s q h e = found_all message s h (and_l q.end.ok (eqb q.end.next (length s)) e)

pub refused_judged : (s : List ℕ) (x : Scan) (n : ℕ) (r : Record) → x ≡ scan_at message s 0 → passed s x ≡ false → n ≡ hyphens (take x.next s) → r ≡ blank → Judged s (Refused x.next n) r
refused_judged s x n r w e c b = (
  subst (λ (y : Scan). Refusal message s y.next) (sym w)
      (refused message message_good s (λ d. false≢true (sym e ∙ ap (passed s) w ∙ (accepts_of message message_good s (scan_at message s 0) refl).1 d))),
  c,
  b,
)

-- READING LEAVES NO CHOICE

pub record Same (v v' : Verdict) (r r' : Record) : Type 0 where
  pub verdicts : v ≡ v'
  pub records : r ≡ r'

-- it is read exactly when the rules derive it
pub read_derived : (s : List ℕ) (v : Verdict) (r : Record) → Judged s v r → Derives message s → v ≡ Read
read_derived s Read r p d = refl
read_derived s (Refused n h) r p d = absurd (p.0.never d)

pub derived_read : (s : List ℕ) (r : Record) → Judged s Read r → Derives message s
derived_read s r p = reads_derives message 0 s p.0 p.1

-- what a verdict says by document 01's number is so
pub answered : (s : List ℕ) (v : Verdict) (r : Record) → Judged s v r → Answers s (answer_of v)
answered s Read r p = inl (refl, derived_read s r p)
answered s (Refused n h) r p = inr (refl, p.0, p.1)

-- THE VERDICT AS A FUNCTION, for those who list texts

unfoldable pub verdict : List ℕ → Verdict
verdict s = cond (passed s (scan_at message s 0)) Read (Refused (scan_at message s 0).next (hyphens (take (scan_at message s 0).next s)))

pub record Ruled (s : List ℕ) (v : Verdict) : Type 0 where
  pub its : Record
  pub by : Judged s v its

pub read_verdict : (s : List ℕ) (x : Scan) → x ≡ scan_at message s 0 → passed s x ≡ true → Read ≡ verdict s
unfolding verdict
read_verdict s x w e = rw (ap (passed s) (sym w) ∙ e)

-- what the code's slices ask

pub place_within : (s : List ℕ) (x : Scan) → x ≡ scan_at message s 0 → x.next ≡ length (take x.next s)
place_within s x w = sym (length-take-le x.next s (omega (arith, ap (λ (y : Scan). y.next) w, (place message message_good s).within)))
