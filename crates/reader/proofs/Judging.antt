-- What Reading asks of a text that is read: the scan gives it, it leaves no choice, and a bounded beginning decides it. These laws stand
-- beside the proofs, so that an edit of what is asked is refused by them.
use Rattle.std.specs.Prelude.{◌≡◌, refl, ◌⊎◌, Bool, true, false, cond, List, ℕ, suc, ◌+◌, ◌-◌, ◌≤◌, ◌<◌, length, take, drop, eqb}
use Rattle.std.proofs.Common.{sym, ap, ◌∙◌, subst, inl, inr, arith, length-take, take-take, eqb-true}
use Rattle.std.proofs.Math.Seq.{take-length}
use Rattle.scan.specs.Bools.{and_l, and_r, known}
use Rattle.scan.specs.declared.Scan.{Scan}
use Rattle.scan.specs.Grammar.{place_of, size_of, Span, Derives, Reads, Refusal, none, look}
use Rattle.scan.specs.Scanner.{from, scan_at, spot}
use Rattle.scan.specs.Tests.{longest}
use Rattle.scan.specs.Theory.{passed}
use Rattle.scan.specs.Parts.{reads_derives, one_reading, found, part_within}
use Rattle.scan.specs.Bounds.{spot_same, refusal_one, short_whole, short_refusal}
use Rattle.message.specs.declared.Verdict.{Verdict}
use Rattle.message.specs.declared.Verdict.TheVariants.{Read, Refused}
use Rattle.message.specs.declared.Record.{Record}
use Rattle.types.specs.Messages.{message}
use Rattle.types.specs.Sound.{message_good, message_plain, message_longest}
use Rattle.fields.specs.Names as n
use Rattle.types.specs.Picking.{letters_of}
use Rattle.message.specs.Record.{is_chg, kind_of, record_by, record_of, blank}
use Rattle.reader.specs.Reading.{hyphens, Judged, cut, route, other, Words}
use Rattle.reader.specs.Reader.{refused_judged, Same, derived_read, verdict, Ruled}

-- A scan that is whole and reaches the end

whole : (s : List ℕ) → passed s (scan_at message s 0) ≡ true → Judged s Read (record_by s (λ k. spot k message s (from 0)))
whole s e =
    let o : (scan_at message s 0).ok ≡ true = and_l (scan_at message s 0).ok (eqb (scan_at message s 0).next (length s)) e in
    let n : (scan_at message s 0).next ≡ length s = eqb-true (scan_at message s 0).next (length s) (and_r (scan_at message s 0).ok (eqb (scan_at message s 0).next (length s)) e) in
    let f = found message message_good message_plain s 0 o in
    let m : (scan_at message s 0).next - 0 ≡ length s = omega arith in
    let t : take ((scan_at message s 0).next - 0) (drop 0 s) ≡ s = ap (λ (k : ℕ). take k s) m ∙ take-length s in
    let l : 0 + longest message < 65536 = omega (arith, message_longest) in
    (f.parts, subst (λ (w : List ℕ). Reads message 0 w f.parts) t f.reads, λ i. record_by s (λ k. (spot_same k message s (from 0) l ∙ sym (f.here k)) i))

-- in what follows x is where the scan ends
pub read_judged : (s : List ℕ) (x : Scan) (r : Record) → x ≡ scan_at message s 0 → passed s x ≡ true → r ≡ record_by s (λ k. spot k message s (from 0)) → Judged s Read r
read_judged s x r w e p = subst (Judged s Read) (sym p) (whole s (ap (passed s) (sym w) ∙ e))

-- READING LEAVES NO CHOICE

pub judged_one : (s : List ℕ) (v v' : Verdict) (r r' : Record) → Judged s v r → Judged s v' r' → Same v v' r r'
judged_one s Read Read r r' p q =
    let e = one_reading message message_good message_plain 0 s p.0 q.0 p.1 q.1 in
    record { verdicts = refl; records = p.2 ∙ ap (record_of s) e ∙ sym q.2 }
judged_one s Read (Refused n h) r r' p q = absurd (q.0.never (reads_derives message 0 s p.0 p.1))
judged_one s (Refused n h) Read r r' p q = absurd (p.0.never (reads_derives message 0 s q.0 q.1))
judged_one s (Refused n h) (Refused m k) r r' p q =
    let e : n ≡ m = refusal_one message s n m p.0 q.0 in
    let f : h ≡ k = p.1 ∙ ap (λ (x : ℕ). hyphens (take x s)) e ∙ sym q.1 in
    record { verdicts = λ i. Refused (e i) (f i); records = p.2 ∙ sym q.2 }

-- a text has at most one record
pub one_record : (s : List ℕ) (r r' : Record) → Judged s Read r → Judged s Read r' → r ≡ r'
one_record s r r' p q = (judged_one s Read Read r r' p q).records

-- THE VERDICT AS A FUNCTION, for those who list texts

pub verdict_right : (s : List ℕ) → Ruled s (verdict s)
unfolding verdict
verdict_right s = go (known (passed s (scan_at message s 0)))
  where
    go : (passed s (scan_at message s 0) ≡ true) ⊎ (passed s (scan_at message s 0) ≡ false) → Ruled s (cond (passed s (scan_at message s 0)) Read (Refused (scan_at message s 0).next (hyphens (take (scan_at message s 0).next s))))
    go (inl e) = rw e (record { its = record_by s (λ k. spot k message s (from 0)); by = whole s e })
    go (inr e) = rw e (record { its = blank; by = refused_judged s (scan_at message s 0) (hyphens (take (scan_at message s 0).next s)) blank refl e refl refl })

pub verdict_only : (s : List ℕ) (v : Verdict) (r : Record) → Judged s v r → v ≡ verdict s
verdict_only s v r p = let w = verdict_right s in (judged_one s v (verdict s) r w.its p w.by).verdicts

-- A BOUNDED BEGINNING DECIDES: the longest text that is read has 1077 bytes, and one byte more tells

pub judged_by_beginning : (s : List ℕ) → verdict (take 1078 s) ≡ verdict s
judged_by_beginning s = go (verdict (take 1078 s)) refl (verdict_right (take 1078 s))
  where
    bound : suc (longest message) ≡ 1078
    bound = ap suc message_longest

    clip : take (suc (longest message)) s ≡ take 1078 s
    clip = ap (λ (k : ℕ). take k s) bound

    go : (v : Verdict) → verdict (take 1078 s) ≡ v → Ruled (take 1078 s) v → v ≡ verdict s
    go Read e w =
        let d : Derives message (take (suc (longest message)) s) = subst (Derives message) (sym clip) (derived_read (take 1078 s) w.its w.by) in
        let t : take 1078 s ≡ s = sym clip ∙ short_whole message s d in
        sym e ∙ ap verdict t
    go (Refused n h) e w =
        let r : Refusal message s n = short_refusal message s n (subst (λ (l : List ℕ). Refusal message l n) (sym clip) w.by.0) in
        let l : n ≤ 1078 = omega (arith, w.by.0.within, length-take 1078 s) in
        let x : take n (take 1078 s) ≡ take n s = take-take n 1078 s l in
        verdict_only s (Refused n h) blank (r, w.by.1 ∙ ap hyphens x, refl)

-- what the code's slices ask

-- the words of fields 15 and 18 lie within the text
pub words_within : (s : List ℕ) (v : Verdict) (r : Record) (p : Record → Span) → ((f : ℕ → Span) → (n : ℕ) × (p (record_by s f) ≡ f n)) → p blank ≡ none → Judged s v r → place_of (p r) + size_of (p r) ≤ length s
words_within s Read r p at z j =
    let n = at (λ k. look k j.0) in
    subst (λ (x : Span). place_of x + size_of x ≤ length s) (sym (ap p j.2 ∙ (n).1)) (part_within message s j.0 (n).0 j.1)
words_within s (Refused n h) r p at z j = subst (λ (x : Span). place_of x + size_of x ≤ length s) (sym (ap p j.2 ∙ z)) (omega arith)

of_either : (b : Bool) (f : ℕ → Span) (m n : ℕ) → (k : ℕ) × (cond b (f m) (f n) ≡ f k)
of_either true f m n = (m, refl)
of_either false f m n = (n, refl)

pub route_within : (s : List ℕ) (v : Verdict) (r : Record) → Judged s v r → place_of (route r) + size_of (route r) ≤ length s
unfolding is_chg
route_within s v r j = words_within s v r route (λ f. of_either (is_chg (kind_of (letters_of s))) f (n.amended + n.route) n.route) refl j

pub other_within : (s : List ℕ) (v : Verdict) (r : Record) → Judged s v r → place_of (other r) + size_of (other r) ≤ length s
unfolding is_chg
other_within s v r j = words_within s v r other (λ f. of_either (is_chg (kind_of (letters_of s))) f (n.amended + n.other) n.other) refl j

-- one answer's words are every answer's
pub words_of : (p : Record → Span) (s w : List ℕ) (v : Verdict) (r : Record) → Judged s v r → w ≡ cut s (p r) → Words p s w
words_of p s w v r j e v' r' j' = e ∙ ap (λ (x : Record). cut s (p x)) (judged_one s v v' r r' j j').records
