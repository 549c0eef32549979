-- Laws of an input's lines, of the lines of the report and of the totals. Assumes nothing.
use mathlib.Core.Path.{◌≡◌, refl, sym, ap, ◌∙◌}
use mathlib.Core.Bool.{Bool, true, false, cond}
use mathlib.Core.List.{List, [], ◌∷◌, ◌++◌, append_assoc, append-nil}
use Prim.Native.Nat.{ℕ, zero, suc, ◌+◌, ◌-◌, ◌≤◌, min}
use native.Mathlib.Nat.{add-zero}
use native.Mathlib.Omega.{arith}
use lib.Dec.{eqb}
use lib.ListN.{length, take, drop}
use lib.Seq.{take-take, take-nil, drop-nil}
use Rattle.std.proofs.lemmas.List.{take_min}
use Rattle.reader.specs.Reader.{verdict}
use Rattle.reader.proofs.Judging.{judged_by_beginning}
use Rattle.message.specs.declared.Verdict.{Verdict}
use Rattle.message.specs.declared.Verdict.TheVariants.{Read, Refused}
use Rattle.lines.specs.Feeds.{feedless}
use Rattle.lines.specs.Numbers.{decimal}
use Rattle.lines.specs.Listing.{ended_from, unfinished_from, labelled, refused_word, saying, line_of, lines_from, if_read, if_refused, read_of, refused_of}

-- ---- lines of an input that goes on

pub ended_append : (line xs ys : List ℕ) → ended_from line (xs ++ ys) ≡ ended_from line xs ++ ended_from (unfinished_from line xs) ys
unfolding ended_from unfinished_from
ended_append line [] ys = refl
ended_append line (b ∷ xs) ys = go (eqb b 10) (ended_append [] xs ys) (ended_append (line ++ (b ∷ [])) xs ys)
  where
    go : (t : Bool) → ended_from [] (xs ++ ys) ≡ ended_from [] xs ++ ended_from (unfinished_from [] xs) ys
        → ended_from (line ++ (b ∷ [])) (xs ++ ys) ≡ ended_from (line ++ (b ∷ [])) xs ++ ended_from (unfinished_from (line ++ (b ∷ [])) xs) ys
        → cond t (line ∷ ended_from [] (xs ++ ys)) (ended_from (line ++ (b ∷ [])) (xs ++ ys))
        ≡ cond t (line ∷ ended_from [] xs) (ended_from (line ++ (b ∷ [])) xs) ++ ended_from (cond t (unfinished_from [] xs) (unfinished_from (line ++ (b ∷ [])) xs)) ys
    go true p q = ap (λ (l : List (List ℕ)). line ∷ l) p
    go false p q = q

pub unfinished_append : (line xs ys : List ℕ) → unfinished_from line (xs ++ ys) ≡ unfinished_from (unfinished_from line xs) ys
unfolding unfinished_from
unfinished_append line [] ys = refl
unfinished_append line (b ∷ xs) ys = go (eqb b 10) (unfinished_append [] xs ys) (unfinished_append (line ++ (b ∷ [])) xs ys)
  where
    go : (t : Bool) → unfinished_from [] (xs ++ ys) ≡ unfinished_from (unfinished_from [] xs) ys
        → unfinished_from (line ++ (b ∷ [])) (xs ++ ys) ≡ unfinished_from (unfinished_from (line ++ (b ∷ [])) xs) ys
        → cond t (unfinished_from [] (xs ++ ys)) (unfinished_from (line ++ (b ∷ [])) (xs ++ ys))
        ≡ unfinished_from (cond t (unfinished_from [] xs) (unfinished_from (line ++ (b ∷ [])) xs)) ys
    go true p q = p
    go false p q = q

-- a first byte that is no line feed, in a list that has none
plain : (b : ℕ) (w : List ℕ) → feedless (b ∷ w) ≡ true → (eqb b 10 ≡ false) × (feedless w ≡ true)
unfolding feedless
plain b w h = go (eqb b 10) refl h
  where
    go : (t : Bool) → eqb b 10 ≡ t → cond t false (feedless w) ≡ true → (eqb b 10 ≡ false) × (feedless w ≡ true)
    go true e r = ((cc), (cc))
    go false e r = (e, r)

-- bytes without a line feed end no line
pub ended_part : (line w : List ℕ) → feedless w ≡ true → ended_from line w ≡ []
unfolding ended_from
ended_part line [] h = refl
ended_part line (b ∷ w) h = let p = plain b w h in rw p.0 (ended_part (line ++ (b ∷ [])) w p.1)

pub unfinished_part : (line w : List ℕ) → feedless w ≡ true → unfinished_from line w ≡ line ++ w
unfolding unfinished_from
unfinished_part line [] h = sym (append-nil line)
unfinished_part line (b ∷ w) h =
    let p = plain b w h in
    rw p.0 (unfinished_part (line ++ (b ∷ [])) w p.1 ∙ append_assoc line (b ∷ []) w)

-- with a line feed behind them they end one
pub ended_line : (line w : List ℕ) → feedless w ≡ true → ended_from line (w ++ (10 ∷ [])) ≡ (line ++ w) ∷ []
unfolding ended_from
ended_line line w h = ended_append line w (10 ∷ []) ∙ rw (ended_part line w h, unfinished_part line w h)

pub unfinished_line : (line w : List ℕ) → feedless w ≡ true → unfinished_from line (w ++ (10 ∷ [])) ≡ []
unfolding unfinished_from
unfinished_line line w h = unfinished_append line w (10 ∷ [])

-- ---- one more line of the report

pub lines_more : (k : ℕ) (ts : List (List ℕ)) (t : List ℕ) → lines_from k (ts ++ (t ∷ [])) ≡ lines_from k ts ++ line_of (k + length ts) t
unfolding lines_from
lines_more k [] t = rw (add-zero k) (append-nil (line_of k t))
lines_more k (x ∷ ts) t =
    let e : suc k + length ts ≡ k + suc (length ts) = omega arith in
    rw (lines_more (suc k) ts t, e, append_assoc)

pub read_more : (ts : List (List ℕ)) (t : List ℕ) → read_of (ts ++ (t ∷ [])) ≡ read_of ts + if_read (verdict t)
unfolding read_of
read_more [] t = omega arith
read_more (x ∷ ts) t = rw (read_more ts t) (omega arith)

-- each text is read or refused
one_of_two : (v : Verdict) → if_read v + if_refused v ≡ 1
unfolding if_read if_refused
one_of_two Read = refl
one_of_two (Refused place hyphens) = refl

pub at_most_one : (v : Verdict) → if_read v ≤ 1
at_most_one v = omega (arith, one_of_two v)

pub all_counted : (ts : List (List ℕ)) → read_of ts + refused_of ts ≡ length ts
unfolding read_of refused_of
all_counted [] = refl
all_counted (t ∷ ts) = omega (arith, one_of_two (verdict t), all_counted ts)

-- ---- what is said of a text, by its beginning

-- the letters of the type, of a text that may be too short for them
pub three : (s : List ℕ) (a e : ℕ) → a ≡ min (length s) 1 → e ≡ min (length s) 4 → take (e - a) (drop a s) ≡ take 3 (drop 1 s)
three [] a e p q = rw (drop-nil a, take-nil (e - a))
three (x ∷ s) a e p q =
    let u : a ≡ 1 = omega arith in
    let v : e - a ≡ min 3 (length s) = omega arith in
    rw (v, u, take_min 3 s)

letters : (s : List ℕ) → take 3 (drop 1 (take 1078 s)) ≡ take 3 (drop 1 s)
letters [] = refl
letters (b ∷ s) = take-take 3 1077 s (omega arith)

pub line_read : (k : ℕ) (s : List ℕ) → verdict s ≡ Read → decimal k ++ ((32 ∷ []) ++ take 3 (drop 1 s)) ++ (10 ∷ []) ≡ line_of k s
unfolding line_of saying
line_read k s e = rw e

pub line_refused : (k : ℕ) (s : List ℕ) (place hyphens : ℕ) → verdict s ≡ Refused place hyphens
    → decimal k ++ (labelled refused_word place ++ labelled (32 ∷ []) hyphens) ++ (10 ∷ []) ≡ line_of k s
unfolding line_of saying
line_refused k s place hyphens e = rw e

said_by_beginning : (s : List ℕ) (v : Verdict) → saying (take 1078 s) v ≡ saying s v
unfolding saying
said_by_beginning s Read = rw (letters s)
said_by_beginning s (Refused place hyphens) = refl

pub line_by_beginning : (k : ℕ) (s : List ℕ) → line_of k (take 1078 s) ≡ line_of k s
unfolding line_of
line_by_beginning k s = rw (judged_by_beginning s, said_by_beginning s)

-- two texts of which the same beginning is kept
pub same_line : (k : ℕ) (s t : List ℕ) → take 1078 s ≡ take 1078 t → line_of k s ≡ line_of k t
same_line k s t e = sym (line_by_beginning k s) ∙ ap (line_of k) e ∙ line_by_beginning k t

pub same_verdict : (s t : List ℕ) → take 1078 s ≡ take 1078 t → verdict s ≡ verdict t
same_verdict s t e = sym (judged_by_beginning s) ∙ ap verdict e ∙ judged_by_beginning t

-- what is kept of a text that goes on
pub kept_append : (n : ℕ) (s t : List ℕ) → take n (take n s ++ t) ≡ take n (s ++ t)
kept_append zero s t = refl
kept_append (suc n) [] t = refl
kept_append (suc n) (x ∷ s) t = ap (λ (l : List ℕ). x ∷ l) (kept_append n s t)
