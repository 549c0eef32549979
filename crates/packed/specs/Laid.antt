-- Numbers that are written one behind the other.
use Rattle.std.specs.Prelude.{◌≡◌, refl, List, [], ◌∷◌, ◌++◌, ℕ, ◌+◌, ◌*◌, ◌≤◌, ◌<◌, length, get_or, take, drop, set}
use Rattle.std.proofs.Common.{sym, ap, ◌∙◌, subst, add-one, arith, length-set, length-append, take_all, take-suc}
use Rattle.scan.specs.Grammar.{Span, place_of, size_of}
use Rattle.message.specs.declared.Record.{Record}
use Rattle.places.specs.Bytes.{high, low}
use Rattle.splice.specs.Splice.{splice, Spliced}
use Rattle.splice.specs.Splicing as s
use Rattle.splice.specs.Inside.{set_splice, splice_same}
use Rattle.packed.specs.Numbers.{bytes_in, bytes_long, bytes_join}
use Rattle.packed.specs.Packed.{span_numbers, numbers_of, packed_of}

-- the numbers ns were written over d from the k-th on, which made it e, and next is the place behind them
pub record Puts (k : ℕ) (ns d e : List ℕ) (next : ℕ) : Type 0 where
  pub bytes : e ≡ splice (2 * k) (bytes_in ns) d
  pub place : next ≡ k + length ns
  pub long : length e ≡ length d

pub spliced : {k n : ℕ} {ns d e : List ℕ} → Puts k ns d e n → Spliced (2 * k) (bytes_in ns) d e (2 * n)
spliced {k} {n} {ns} p = record { bytes = p.bytes; place = omega (arith, p.place, bytes_long ns) }

-- ns were written, and then ks right behind them: both were written
pub then : {k m n : ℕ} {ns ks d e f : List ℕ} → Puts k ns d e m → Puts m ks e f n → 2 * n ≤ length d → Puts k (ns ++ ks) d f n
then {k} {m} {n} {ns} {ks} {d} {e} {f} p q h =
    let t : Spliced (2 * k) (bytes_in ns ++ bytes_in ks) d f (2 * n) = s.then (spliced p) (spliced q) h in
    record {
      bytes = t.bytes ∙ ap (λ (x : List ℕ). splice (2 * k) x d) (sym (bytes_join ns ks));
      place = omega (arith, p.place, q.place, length-append ns ks);
      long = q.long ∙ p.long;
    }

-- one number
pub one : (k n : ℕ) (d : List ℕ) → 2 * k + 2 ≤ length d → Puts k (n ∷ []) d (set (set d (2 * k) (low (high n))) (2 * k + 1) (low n)) (k + 1)
unfolding bytes_in
one k n d h =
    let e : List ℕ = set d (2 * k) (low (high n)) in
    let l : length e ≡ length d = length-set d (2 * k) (low (high n)) in
    let a : Spliced (2 * k) (low (high n) ∷ []) d e (2 * k + 1) = record { bytes = set_splice d (2 * k) (low (high n)) (omega arith); place = refl } in
    let b : Spliced (2 * k + 1) (low n ∷ []) e (set e (2 * k + 1) (low n)) (2 * k + 2) = record { bytes = set_splice e (2 * k + 1) (low n) (omega arith); place = omega arith } in
    record { bytes = (s.then a b h).bytes; place = refl; long = length-set e (2 * k + 1) (low n) ∙ l }

-- of other numbers that are the same
pub same : {k next : ℕ} {ns ms d e : List ℕ} → ns ≡ ms → Puts k ns d e next → Puts k ms d e next
same {k} {next} {ns} {ms} {d} {e} q p = subst (λ (x : List ℕ). Puts k x d e next) q p

-- A ROW OF PARTS, from the first on: none of them, one more, and all
pub none : (k : ℕ) (d : List ℕ) → 2 * k ≤ length d → Puts k [] d d (k + 2 * 0)
unfolding bytes_in
none k d h = record { bytes = sym (splice_same (2 * k) 0 d (omega arith)); place = omega arith; long = refl }

spans_join : (ps qs : List Span) → span_numbers (ps ++ qs) ≡ span_numbers ps ++ span_numbers qs
spans_join [] qs = refl
spans_join (p ∷ ps) qs = ap (λ (l : List ℕ). place_of p ∷ size_of p ∷ l) (spans_join ps qs)

pub more : {k i m n : ℕ} {d e f g : List ℕ} (row : List Span) → i < length row → 2 * k + 4 * length row ≤ length d → Puts k (span_numbers (take i row)) d e (k + 2 * i) → Puts (k + 2 * i) (place_of (get_or row i 0) ∷ []) e f m → Puts m (size_of (get_or row i 0) ∷ []) f g n → Puts k (span_numbers (take (i + 1) row)) d g (k + 2 * (i + 1))
more {k} {i} {m} {n} {d} {e} {f} {g} row h l p q r =
    let o : n ≡ k + 2 * (i + 1) = omega (arith, q.place, r.place) in
    let x : Puts k (span_numbers (take i row) ++ span_numbers (get_or row i 0 ∷ [])) d g n = then p (then q r (omega (arith, p.long))) (omega arith) in
    let y : take (i + 1) row ≡ take i row ++ (get_or row i 0 ∷ []) = rw (add-one i) (take-suc row i 0 h) in
    let z : span_numbers (take (i + 1) row) ≡ span_numbers (take i row) ++ span_numbers (get_or row i 0 ∷ []) = ap span_numbers y ∙ spans_join (take i row) (get_or row i 0 ∷ []) in
    subst (λ (w : ℕ). Puts k (span_numbers (take (i + 1) row)) d g w) o (same (sym z) x)

pub all : {k i n : ℕ} {d e : List ℕ} (row : List Span) → Puts k (span_numbers (take i row)) d e n → length row ≤ i → Puts k (span_numbers row) d e n
all {i = i} row p h = same (ap span_numbers (take_all i row h)) p

pub named : {k n m next : ℕ} {d e : List ℕ} → n ≡ m → Puts k (n ∷ []) d e next → Puts k (m ∷ []) d e next
named q p = same (ap (λ (x : ℕ). x ∷ []) q) p

-- the whole record, at the start of a buffer
pub whole : (r : Record) (d e : List ℕ) (n : ℕ) → Puts 0 (numbers_of r) d e n → e ≡ packed_of r ++ drop 246 d
unfolding packed_of splice
whole r d e n p =
    let z : 2 * 0 + length (bytes_in (numbers_of r)) ≡ 246 = omega (arith, bytes_long (numbers_of r)) in
    p.bytes ∙ ap (λ (k : ℕ). bytes_in (numbers_of r) ++ drop k d) z
