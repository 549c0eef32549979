-- The scanner of a grammar: it goes from where the last one stopped if that was whole, and else stays.
-- The code mirrors it; nothing public cites it.
use Rattle.std.specs.Prelude.{Bool, true, false, cond, ◌&&◌, ◌||◌, List, [], ◌∷◌, ℕ, zero, suc, ◌+◌, ◌-◌, ◌%◌, length, get_or, leb, ltb, eqb}
use Rattle.scan.specs.declared.Scan.{Scan}
use Rattle.scan.specs.declared.Class.{Class}
use Rattle.scan.specs.declared.Class.TheVariants.{Word, Byte}
use Rattle.scan.specs.Grammar.{is_in, G, eps, run, words, seq, alt, part, field, Span, span, none}

unfoldable pub run_at : Class → ℕ → List ℕ → ℕ → ℕ
run_at c zero s at = at
run_at c (suc k) s at = cond (ltb at (length s) && is_in c (get_or s at 0)) (run_at c k s (at + 1)) at

unfoldable pub run_scan : Class → ℕ → ℕ → List ℕ → Scan → Scan
run_scan c lo hi s r =
    cond r.ok (record { next = run_at c hi s r.next; ok = leb lo (run_at c hi s r.next - r.next) }) r

unfoldable pub words_at : ℕ → Bool → List ℕ → ℕ → Scan
words_at zero m s at = record { next = at; ok = m }
words_at (suc k) m s at =
    cond (ltb at (length s) && is_in Word (get_or s at 0))
    (words_at k true s (at + 1))
    (cond (ltb at (length s) && (m && is_in (Byte 32) (get_or s at 0)) && ltb 0 k) (words_at k false s (at + 1)) (record { next = at; ok = m }))

unfoldable pub words_scan : ℕ → List ℕ → Scan → Scan
words_scan k s r = cond r.ok (words_at k false s r.next) r

-- the longer of two
unfoldable pub longer : Scan → Scan → Scan
longer r q = cond (ltb r.next q.next) q (cond (ltb q.next r.next) r (record { next = r.next; ok = r.ok || q.ok }))

-- whether the longer of two is the first
unfoldable pub leads : Scan → Scan → Bool
leads r q = cond (ltb r.next q.next) false (cond (ltb q.next r.next) true r.ok)

abbrev pub scan : G → List ℕ → Scan → Scan
scan eps s r = r
scan (run c lo hi) s r = run_scan c lo hi s r
scan (words k) s r = words_scan k s r
scan (seq a b) s r = scan b s (scan a s r)
scan (alt a b) s r = longer (scan a s r) (scan b s r)
scan (part n g) s r = scan g s r
scan (field ns g) s r = scan g s r

-- from a place
abbrev pub from : ℕ → Scan
from at = record { next = at; ok = true }

abbrev pub scan_at : G → List ℕ → ℕ → Scan
scan_at g s at = scan g s (from at)

-- WHERE THE PARTS STAND

-- whether a name is among some
unfoldable pub among : ℕ → List ℕ → Bool
among n [] = false
among n (m ∷ ms) = eqb n m || among n ms

-- whether a grammar names a part
unfoldable pub occurs : ℕ → G → Bool
occurs n eps = false
occurs n (run c lo hi) = false
occurs n (words k) = false
occurs n (seq a b) = occurs n a || occurs n b
occurs n (alt a b) = occurs n a || occurs n b
occurs n (part m g) = eqb n m
occurs n (field ns g) = among n ns

-- what lies between two scans, absent where the second is not whole
unfoldable pub between : Scan → Scan → Span
between r q = cond q.ok (span r.next (q.next - r.next)) none

-- where the scan of a grammar finds the part n, cut out by f
unfoldable pub span_by : (Scan → Scan → Span) → ℕ → G → List ℕ → Scan → Span
span_by f n eps s r = none
span_by f n (run c lo hi) s r = none
span_by f n (words k) s r = none
span_by f n (seq a b) s r = cond (occurs n a) (span_by f n a s r) (span_by f n b s (scan a s r))
span_by f n (alt a b) s r = cond (leads (scan a s r) (scan b s r)) (span_by f n a s r) (span_by f n b s r)
span_by f n (part m g) s r = cond (eqb n m) (f r (scan g s r)) none
span_by f n (field ns g) s r = cond (among n ns) (span_by f n g s r) none

abbrev pub span_of : ℕ → G → List ℕ → Scan → Span
span_of n g s r = span_by between n g s r

-- the same in the 32 bits that the code has for it
unfoldable pub between16 : Scan → Scan → Span
between16 r q = cond q.ok (span (r.next % 65536) ((q.next - r.next) % 65536)) none

abbrev pub spot : ℕ → G → List ℕ → Scan → Span
spot n g s r = span_by between16 n g s r
