-- Laws of what is written inside of a larger list.
use Rattle.std.specs.Prelude.{◌≡◌, List, [], ◌∷◌, ◌++◌, ℕ, ◌+◌, ◌-◌, ◌≤◌, ◌<◌, length, take, drop, set}
use Rattle.std.proofs.Common.{sym, ap, ◌∙◌, append_assoc, add_assoc, zero-add, add-one, arith, length-append, length-drop, take-append-drop, length-take-le, take_at, drop_at, drop-drop, take-take, take-add}
use Rattle.std.proofs.lemmas.List.{drop-append-le, set_split}
use Rattle.std.proofs.Math.Seq.{drop-append-add, take-append-add}
use Rattle.splice.specs.Splice.{splice}

pub length_splice : (at : ℕ) (s d : List ℕ) → at + length s ≤ length d → length (splice at s d) ≡ length d
unfolding splice
length_splice at s d h = simp (length-append, length-drop, length-take-le at d (omega arith)) (omega arith)

-- one byte
pub set_splice : (d : List ℕ) (at v : ℕ) → at < length d → set d at v ≡ splice at (v ∷ []) d
unfolding splice
set_splice d at v h = rw (set_split d at v h, add-one at) (simp append_assoc)

-- what stands behind a front is written to behind the front
pub splice_behind : (p q x : List ℕ) (n k : ℕ) → length p ≡ n → splice (n + k) x (p ++ q) ≡ p ++ splice k x q
unfolding splice
splice_behind p q x n k e =
    rw (← e, take-append-add p q k, add_assoc (length p) k (length x), drop-append-add p q (k + length x))
    (simp append_assoc)

-- a front of the same length is written over
pub splice_front : (x y q : List ℕ) → length x ≡ length y → splice 0 x (y ++ q) ≡ x ++ q
unfolding splice
splice_front x y q e = rw (zero-add (length x), drop_at y q (length x) (sym e))

-- what was written is what stands there
pub splice_there : (at n : ℕ) (s d : List ℕ) → at + n ≤ length d → length s ≡ n → take n (drop at (splice at s d)) ≡ s
unfolding splice
splice_there at n s d h e =
    let l : length (take at d) ≡ at = length-take-le at d (omega arith) in
    rw (append_assoc (take at d) s (drop (at + length s) d), drop_at (take at d) (s ++ drop (at + length s) d) at l, take_at s (drop (at + length s) d) n e)

-- what stands there, written once more
pub splice_same : (at n : ℕ) (d : List ℕ) → at + n ≤ length d → splice at (take n (drop at d)) d ≡ d
unfolding splice
splice_same at n d h =
    let l : length (take n (drop at d)) ≡ n = length-take-le n (drop at d) (omega (arith, length-drop at d)) in
    rw (l, ← take-add at n d, take-append-drop)

-- a write over a write of the same length
pub splice_over : (at : ℕ) (x y d : List ℕ) → length x ≡ length y → at + length y ≤ length d → splice at x (splice at y d) ≡ splice at x d
unfolding splice
splice_over at x y d e h =
    let l : length (take at d) ≡ at = length-take-le at d (omega arith) in
    let m : length (take at d ++ y) ≡ at + length x = length-append (take at d) y ∙ omega arith in
    rw (drop_at (take at d ++ y) (drop (at + length y) d) (at + length x) m, append_assoc (take at d) y (drop (at + length y) d), take_at (take at d) (y ++ drop (at + length y) d) at l, e)

-- what is left of a front, with what stands behind the front
drop_join : (m n : ℕ) (l : List ℕ) → m ≤ n → n ≤ length l → drop m (take n l) ++ drop n l ≡ drop m l
drop_join m n l h k =
    let e : length (take n l) ≡ n = length-take-le n l k in
    sym (drop-append-le m (take n l) (drop n l) (omega arith)) ∙ ap (drop m) (take-append-drop n l)

splice_in' : (a n b : ℕ) (s d : List ℕ) → b + length s ≤ n → n ≤ length (drop a d) → length (splice b s (take n (drop a d))) ≡ n → splice a (splice b s (take n (drop a d))) d ≡ splice (a + b) s d
unfolding splice
splice_in' a n b s d h k z =
    rw (z, take-take b n (drop a d) (omega arith), ← drop-drop n a d, take-add a b d, add_assoc a b (length s), ← drop-drop (b + length s) a d, ← drop_join (b + length s) n (drop a d) h k)
    (simp append_assoc)

-- a write in a part is a write in the whole
pub splice_in : (a n b : ℕ) (s d : List ℕ) → b + length s ≤ n → a + n ≤ length d → splice a (splice b s (take n (drop a d))) d ≡ splice (a + b) s d
splice_in a n b s d h k =
    let x : length (drop a d) ≡ length d - a = length-drop a d in
    let y : length (take n (drop a d)) ≡ n = length-take-le n (drop a d) (omega arith) in
    splice_in' a n b s d h (omega arith) (length_splice b s (take n (drop a d)) (omega arith) ∙ y)

-- and of a part that was written whole: a write inside of what was written
pub splice_inside : (a b : ℕ) (s x d : List ℕ) → b + length s ≤ length x → a + length x ≤ length d → splice (a + b) s (splice a x d) ≡ splice a (splice b s x) d
splice_inside a b s x d h k =
    let l : length (splice a x d) ≡ length d = length_splice a x d k in
    let m : length (splice b s x) ≡ length x = length_splice b s x h in
    sym (splice_in a (length x) b s (splice a x d) h (omega arith)) ∙ ap (λ (y : List ℕ). splice a (splice b s y) (splice a x d)) (splice_there a (length x) x d k (λ i. length x)) ∙ splice_over a (splice b s x) x d m k
