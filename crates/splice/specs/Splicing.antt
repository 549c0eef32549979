-- Laws of bytes that are written one behind the other.
use Rattle.std.specs.Prelude.{◌≡◌, List, ◌++◌, ℕ, ◌+◌, ◌≤◌, ◌<◌, length, take, drop, get_or, set, replicate}
use Rattle.std.proofs.Common.{sym, ap, ◌∙◌, append_assoc, append-nil, add_assoc, add-one, arith, length-append, length-drop, drop_of_length-le, length-take-le, take_at, drop_at, drop-drop}
use Rattle.std.proofs.lemmas.List.{length-replicate, get_or-replicate}
use Rattle.std.proofs.Math.Seq.{take-length, paste, paste-suc, drop-append-add}
use Rattle.splice.specs.Splice.{splice, Spliced}

-- ---- a copy, byte by byte

pub paste_more : (d : List ℕ) (at : ℕ) (s : List ℕ) (i : ℕ) → at + length s ≤ length d → i < length s → set (paste d at s i) (at + i) (get_or s i 0) ≡ paste d at s (i + 1)
paste_more d at s i h k = rw (add-one, paste-suc d at s i 0 (omega arith) k)

pub fill_more : (d : List ℕ) (at n v i : ℕ) → at + n ≤ length d → i < n → set (paste d at (replicate n v) i) (at + i) v ≡ paste d at (replicate n v) (i + 1)
fill_more d at n v i h k =
    let e : length (replicate n v) ≡ n = length-replicate n v in
    ap (set (paste d at (replicate n v) i) (at + i)) (sym (get_or-replicate n i v 0 k)) ∙ paste_more d at (replicate n v) i (omega arith) (omega arith)

pub paste_all : (d : List ℕ) (at : ℕ) (s : List ℕ) (i : ℕ) → i ≡ length s → paste d at s i ≡ splice at s d
unfolding splice
paste_all d at s i e = rw (e, take-length)

-- ---- what was written over all

pub over_all : (s d e : List ℕ) (n : ℕ) → Spliced 0 s d e n → length d ≤ length s → e ≡ s
unfolding splice
over_all s d e n p h =
    let y : length d ≤ 0 + length s = omega arith in
    p.bytes ∙ ap (λ (x : List ℕ). s ++ x) (drop_of_length-le d y) ∙ append-nil s

-- ---- one write behind another

drop_past : (p q : List ℕ) (n k : ℕ) → length p ≡ n → drop (n + k) (p ++ q) ≡ drop k q
drop_past p q n k e = rw (← e, drop-append-add p q k)

splice_next : (at : ℕ) (s r d : List ℕ) → at + length s + length r ≤ length d → splice (at + length s) r (splice at s d) ≡ splice at (s ++ r) d
unfolding splice
splice_next at s r d h =
    let e : length (take at d ++ s) ≡ at + length s = simp (length-append, length-take-le at d (omega arith)) in
    rw (take_at (take at d ++ s) _ (at + length s) e, drop_past (take at d ++ s) _ (at + length s) (length r) e, drop-drop) (simp (append_assoc, length-append, add_assoc))

ends : {at n : ℕ} {s d e : List ℕ} → Spliced at s d e n → n ≤ length d → length (take at d ++ s) ≡ n
ends {at} {n} {s} {d} p h =
    let k : at ≤ length d = omega (arith, p.place) in
    simp (length-append, length-take-le at d k) (omega (arith, p.place))

pub same_bytes : {at n : ℕ} {s t d e : List ℕ} → s ≡ t → Spliced at s d e n → Spliced at t d e n
same_bytes {at} {n} {s} {t} {d} {e} q p = record {
  bytes = p.bytes ∙ ap (λ (x : List ℕ). splice at x d) q;
  place = p.place ∙ ap (λ (x : List ℕ). at + length x) q;
}

-- s was written, and then r right behind it: both were written
pub then : {at m n : ℕ} {s r d e f : List ℕ} → Spliced at s d e m → Spliced m r e f n → n ≤ length d → Spliced at (s ++ r) d f n
then {at} {m} {n} {s} {r} {d} {e} {f} p q h = record {
  bytes = q.bytes ∙ ap (λ (k : ℕ). splice k r e) p.place ∙ ap (splice (at + length s) r) p.bytes ∙ splice_next at s r d (omega (arith, q.place, p.place));
  place = omega (arith, q.place, p.place, length-append s r);
}

-- what was written stands behind what stood in front of it
pub front : {at n : ℕ} {s d e : List ℕ} → Spliced at s d e n → n ≤ length d → take n e ≡ take at d ++ s
unfolding splice
front {at} {n} {s} {d} {e} p h = ap (take n) p.bytes ∙ take_at (take at d ++ s) (drop (at + length s) d) n (ends p h)

-- what stands behind it is as it was
pub behind : {at n : ℕ} {s d e : List ℕ} → Spliced at s d e n → n ≤ length d → drop n e ≡ drop n d
unfolding splice
behind {at} {n} {s} {d} {e} p h =
    ap (drop n) p.bytes ∙ drop_at (take at d ++ s) (drop (at + length s) d) n (ends p h) ∙ ap (λ (k : ℕ). drop k d) (sym p.place)

-- the buffer's length is as it was
pub kept_length : {at n : ℕ} {s d e : List ℕ} → Spliced at s d e n → n ≤ length d → length e ≡ length d
unfolding splice
kept_length {at} {n} {s} {d} {e} p h =
    omega (arith, ap length p.bytes, p.place, ends p h, length-append (take at d ++ s) (drop (at + length s) d), length-drop (at + length s) d)
