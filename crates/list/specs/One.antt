-- TWO OUTCOMES that a listing's contracts allow are equal: for an input, what `start`, `feed`, `finish` and `broke` answer and leave
-- in `out`. How many bytes `feed` takes is open where `out` gets full; what it does then follows from that number.
use Rattle.std.specs.Prelude.{◌≡◌, List, [], ◌++◌, ℕ, ◌≤◌, ◌<◌, length, take, drop}
use Rattle.std.proofs.Common.{sym, ap, ◌∙◌, subst, arith, take-append-drop, length-take-le}
use Rattle.std.proofs.Math.Seq.{drop-append_seam}
use Rattle.list.specs.Progress.{room, After, Fed, Ends}
use Rattle.list.specs.declared.Tally.{Tally}

behind : (ys a b : List ℕ) → ys ++ a ≡ ys ++ b → a ≡ b
behind ys a b e = sym (drop-append_seam ys a) ∙ ap (drop (length ys)) e ∙ drop-append_seam ys b

-- two buffers that were as out, each with as many bytes written over its beginning
pub record Same (m n : ℕ) (p q : List ℕ) : Type 0 where
  pub many : m ≡ n
  pub bytes : p ≡ q

same_beginning : (out p q : List ℕ) (m n : ℕ) → length p ≡ length out → length q ≡ length out → m ≤ length out → n ≤ length out → drop m p ≡ drop m out → drop n q ≡ drop n out → take m p ≡ take n q → Same m n p q
same_beginning out p q m n g h k l r s e =
    let many : m ≡ n = sym (length-take-le m p (omega (arith, g, k))) ∙ ap length e ∙ length-take-le n q (omega (arith, h, l)) in
    let behind_it : drop m p ≡ drop n q = r ∙ ap (λ (k : ℕ). drop k out) many ∙ sym s in
    record { many = many; bytes = sym (take-append-drop m p) ∙ ap (λ (x : List ℕ). x ++ drop m p) e ∙ ap (λ (x : List ℕ). take n q ++ x) behind_it ∙ take-append-drop n q }

same_tally : {xs ys zs : List ℕ} {a b : Tally} {line line' : List ℕ} → After xs ys a line → After xs zs b line' → a ≡ b
same_tally {a = a} {b = b} x y =
    let n : a.lines ≡ b.lines = x.counted ∙ sym y.counted in
    let r : a.read ≡ b.read = x.good ∙ sym y.good in
    let h : a.held ≡ b.held = x.holds.size ∙ sym y.holds.size in
    λ i. record { lines = n i; read = r i; held = h i }

pub started_one : {a b : Tally} (line : List ℕ) → After [] [] a line → After [] [] b line → a ≡ b
started_one line = same_tally

module _ {xs ys : List ℕ} {tally : Tally} {line out p q : List ℕ} (a : After xs ys tally line) (g : length p ≡ length out) (h : length q ≡ length out) where
  pub ends_one : {m n : ℕ} (whole : List ℕ → List ℕ) → room ≤ length out → Ends whole tally line out p m → Ends whole tally line out q n → Same m n p q
  ends_one {m} {n} whole k x y =
      same_beginning out p q m n g h x.fits y.fits x.rest y.rest (behind ys (take m p) (take n q) (x.ends xs ys a k ∙ sym (y.ends xs ys a k)))

  pub fed_one : {piece line' line'' : List ℕ} {b c : Tally} {taken m n : ℕ} → Fed tally line piece out b line' p taken m → Fed tally line piece out c line'' q taken n → Same m n p q
  fed_one {m = m} {n = n} x y =
      same_beginning out p q m n g h x.fits y.fits x.rest y.rest (behind ys (take m p) (take n q) ((x.goes xs ys a).said ∙ sym (y.goes xs ys a).said))

  pub fed_tally : {piece line' line'' : List ℕ} {b c : Tally} {taken m n : ℕ} → Fed tally line piece out b line' p taken m → Fed tally line piece out c line'' q taken n → b ≡ c
  fed_tally x y = same_tally (x.goes xs ys a) (y.goes xs ys a)

-- with too small an out nothing is written
pub ends_none : {whole : List ℕ → List ℕ} {tally : Tally} {line out p : List ℕ} {m : ℕ} → length out < room → Ends whole tally line out p m → Same m 0 p out
ends_none {out = out} {p = p} s x = record { many = x.none s; bytes = subst (λ (k : ℕ). drop k p ≡ drop k out) (x.none s) x.rest }
