-- Laws of how far a listing has come. Assumes nothing.
use mathlib.Core.Path.{◌≡◌, refl, sym, ap, ◌∙◌}
use mathlib.Core.List.{List, [], ◌∷◌, ◌++◌, append_assoc, append-nil}
use Prim.Native.Nat.{ℕ, ◌+◌, ◌-◌, ◌≤◌, ◌<◌, min}
use native.Mathlib.Omega.{arith}
use native.Mathlib.Numerals.{add-one}
use lib.ListN.{length, take, drop, length-append, length-take, length-drop}
use lib.Seq.{length-take-le, take-append-add, take_all, take-add, take-suc, drop-drop}
use mathlib.Core.Bool.{Bool, true, false}
use borrow.Author.Tests.{le-leb}
use Rattle.std.specs.Int.{from_bool}
use Rattle.reader.specs.Reader.{verdict}
use Rattle.reader.proofs.Judging.{judged_by_beginning}
use Rattle.list.specs.declared.Tally.{Tally}
use Rattle.splice.specs.Splice.{Spliced}
use Rattle.lines.specs.Feeds.{LineEnd, feedless}
use Rattle.lines.specs.Telling.{Tells}
use Rattle.lines.specs.Listing.{ended, unfinished, line_of, lines_from, if_read, read_of, refused_of, last_line, texts, totals, broke_off, listing, broken}
use Rattle.list.specs.Progress.{most_lines, room, soundly, Holds, After}
use Rattle.splice.specs.Splicing.{front, behind, same_bytes}
use Rattle.std.proofs.lemmas.List.{take_min}
use Rattle.lines.proofs.Lines.{ended_append, ended_part, ended_line, unfinished_append, unfinished_part, unfinished_line, lines_more, read_more, all_counted, at_most_one, line_by_beginning, same_line, same_verdict, kept_append}

-- part was put behind the bytes that are held, as far as there is room
kept_part : (held n : ℕ) (line part : List ℕ) → held ≤ 1078 → length line ≡ 1078 → n ≡ min (1078 - held) (length part)
    → take held line ++ take n part ≡ take 1078 (take held line ++ part)
kept_part held n line part h l e =
    let k : length (take held line) ≡ held = length-take-le held line (omega arith) in
    let m : length (take held line) + (1078 - held) ≡ 1078 = omega arith in
    ap (λ (x : List ℕ). take held line ++ x) (ap (λ (j : ℕ). take j part) e ∙ take_min (1078 - held) part)
    ∙ sym (take-append-add (take held line) part (1078 - held))
    ∙ ap (λ (j : ℕ). take j (take held line ++ part)) m

pub holds_more : (held n : ℕ) (line part : List ℕ) {line' : List ℕ} {r : ℕ} → held ≤ 1078 → length line ≡ 1078 → n ≡ min (1078 - held) (length part)
    → Spliced held (take n part) line line' r → Holds (take held line ++ part) line' r
holds_more held n line part {line'} {r} h l e w =
    let m : length (take n part) ≡ min n (length part) = length-take n part in
    let k : length (take held line) ≡ held = length-take-le held line (omega arith) in
    let p = kept_part held n line part h l e in
    record {
      bytes = front w (omega (arith, w.place)) ∙ p;
      size = w.place ∙ (let x : held + length (take n part) ≡ length (take held line ++ take n part) = simp length-append (omega arith) in x) ∙ ap length p;
    }

-- a text is told of by the bytes of it that are kept
pub tells_kept : (k : ℕ) (s t : List ℕ) {at next : ℕ} {read : Bool} {d e : List ℕ} → s ≡ take 1078 t
    → Tells (line_of k s) (if_read (verdict s)) at d e next read → Tells (line_of k t) (if_read (verdict t)) at d e next read
tells_kept k s t q p = record {
  wrote = same_bytes (ap (line_of k) q ∙ line_by_beginning k t) p.wrote;
  room = p.room;
  told = p.told ∙ ap if_read (ap verdict q ∙ judged_by_beginning t);
}

-- ---- the unfinished line

-- with w behind it, the unfinished line is judged as the bytes that are held, with w behind them
module _ (xs ys line w : List ℕ) (tally : Tally) (a : After xs ys tally line) where
  same_kept : take 1078 (take tally.held line ++ w) ≡ take 1078 (unfinished xs ++ w)
  same_kept = ap (λ (x : List ℕ). take 1078 (x ++ w)) a.holds.bytes ∙ kept_append 1078 (unfinished xs) w

  held_line : line_of (tally.lines + 1) (take tally.held line ++ w) ≡ line_of (1 + length (ended xs)) (unfinished xs ++ w)
  held_line =
      let e : tally.lines + 1 ≡ 1 + length (ended xs) = omega (arith, a.counted) in
      ap (λ (k : ℕ). line_of k (take tally.held line ++ w)) e ∙ same_line (1 + length (ended xs)) _ _ same_kept

  held_verdict : verdict (take tally.held line ++ w) ≡ verdict (unfinished xs ++ w)
  held_verdict = same_verdict _ _ same_kept

-- no byte is held where the unfinished line is empty, and only there
empty : (s line : List ℕ) (held : ℕ) → Holds s line held → held ≡ 0 → s ≡ []
empty [] line held h e = refl
empty (b ∷ s) line held h e = absurd (omega (arith, h.size))

-- ---- one step

-- bytes without a line feed are held
part_step : (xs ys line line' w : List ℕ) (tally : Tally) (held : ℕ) → After xs ys tally line → feedless w ≡ true
    → Holds (take tally.held line ++ w) line' held → After (xs ++ w) ys (record { lines = tally.lines; read = tally.read; held = held }) line'
part_step xs ys line line' w tally held a h p =
    let e : ended (xs ++ w) ≡ ended xs = ended_append [] xs w ∙ ap (λ (l : List (List ℕ)). ended xs ++ l) (ended_part (unfinished xs) w h) ∙ append-nil (ended xs) in
    let u : unfinished (xs ++ w) ≡ unfinished xs ++ w = unfinished_append [] xs w ∙ unfinished_part (unfinished xs) w h in
    let k : take 1078 (take tally.held line ++ w) ≡ take 1078 (unfinished (xs ++ w)) = same_kept xs ys line w tally a ∙ ap (take 1078) (sym u) in
    record {
      said = a.said ∙ ap (lines_from 1) (sym e);
      counted = a.counted ∙ ap length (sym e);
      good = a.good ∙ ap read_of (sym e);
      holds = record { bytes = p.bytes ∙ k; size = p.size ∙ ap length k };
      within = a.within;
    }

-- with a line feed behind them they end a line, of which the report has one more
line_step : (xs ys line line' w : List ℕ) (tally : Tally) → After xs ys tally line → feedless w ≡ true → tally.lines < most_lines
    → After (xs ++ (w ++ (10 ∷ []))) (ys ++ line_of (tally.lines + 1) (take tally.held line ++ w))
    (record { lines = tally.lines + 1; read = tally.read + if_read (verdict (take tally.held line ++ w)); held = 0 }) line'
line_step xs ys line line' w tally a h g =
    let t = unfinished xs ++ w in
    let e : ended (xs ++ (w ++ (10 ∷ []))) ≡ ended xs ++ (t ∷ []) = ended_append [] xs (w ++ (10 ∷ [])) ∙ ap (λ (l : List (List ℕ)). ended xs ++ l) (ended_line (unfinished xs) w h) in
    let u : unfinished (xs ++ (w ++ (10 ∷ []))) ≡ [] = unfinished_append [] xs (w ++ (10 ∷ [])) ∙ unfinished_line (unfinished xs) w h in
    record {
      said = rw (e, lines_more 1 (ended xs) t, a.said, held_line xs ys line w tally a);
      counted = rw (e, length-append (ended xs) (t ∷ [])) (ap (λ (k : ℕ). k + 1) a.counted);
      good = rw (e, read_more (ended xs) t, a.good, held_verdict xs ys line w tally a);
      holds = record { bytes = sym (ap (take 1078) u); size = sym (ap (λ (l : List ℕ). length (take 1078 l)) u) };
      within = omega arith;
    }

-- ---- the same, of a piece of which `taken` bytes were taken, and of the rest r bytes up to the next line feed

module _ (piece rest : List ℕ) (taken r : ℕ) (e : rest ≡ drop taken piece) (l : LineEnd rest r) where
  part_taken : take (taken + r) piece ≡ take taken piece ++ take r rest
  part_taken = take-add taken r piece ∙ ap (λ (s : List ℕ). take taken piece ++ take r s) (sym e)

  line_taken : r < length rest → take (taken + (r + 1)) piece ≡ take taken piece ++ (take r rest ++ (10 ∷ []))
  line_taken g = take-add taken (r + 1) piece ∙ rw (← e, add-one, take-suc rest r 0 g, l.found g)

  fed_part : (xs ys line line' : List ℕ) (tally : Tally) (held : ℕ) → After (xs ++ take taken piece) ys tally line
      → Holds (take tally.held line ++ take r rest) line' held
      → After (xs ++ take (taken + r) piece) ys (record { lines = tally.lines; read = tally.read; held = held }) line'
  fed_part xs ys line line' tally held a p =
      rw (part_taken, ← append_assoc) (part_step (xs ++ take taken piece) ys line line' (take r rest) tally held a l.before p)

  fed_line : (xs ys line line' : List ℕ) (tally : Tally) {out out' : List ℕ} {written next : ℕ} {read : Bool} → r < length rest → tally.lines < most_lines
      → After (xs ++ take taken piece) (ys ++ take written out) tally line
      → Tells (line_of (tally.lines + 1) (take tally.held line ++ take r rest)) (if_read (verdict (take tally.held line ++ take r rest))) written out out' next read
      → next ≤ length out
      → After (xs ++ take (taken + (r + 1)) piece) (ys ++ take next out') (record { lines = tally.lines + 1; read = tally.read + from_bool read; held = 0 }) line'
  fed_line xs ys line line' tally {out} {out'} {written} g m a p n =
      rw (line_taken g, front p.wrote n, p.told, ← append_assoc xs (take taken piece) (take r rest ++ (10 ∷ [])), ← append_assoc ys (take written out))
      (line_step (xs ++ take taken piece) _ line line' (take r rest) tally a l.before m)

-- what stands behind stays as it was
still : (m n : ℕ) (s t : List ℕ) → m ≤ n → drop m s ≡ drop m t → drop n s ≡ drop n t
still m n s t h e =
    let k : m + (n - m) ≡ n = omega arith in
    ap (λ (j : ℕ). drop j s) (sym k) ∙ sym (drop-drop (n - m) m s) ∙ ap (drop (n - m)) e ∙ drop-drop (n - m) m t ∙ ap (λ (j : ℕ). drop j t) k

-- ---- the end

pub broken_off : (xs ys line : List ℕ) (tally : Tally) → After xs ys tally line → ys ++ broke_off tally.lines ≡ broken xs
unfolding broken
broken_off xs ys line tally a = rw (a.said, a.counted)

-- the totals of texts, of which no more is known than how many they are and how many of them are read
totals_of : (ts : List (List ℕ)) (lines read : ℕ) → lines ≡ length ts → read ≡ read_of ts → totals lines read (lines - read) ≡ totals (length ts) (read_of ts) (refused_of ts)
totals_of ts lines read p q =
    let e : lines - read ≡ refused_of ts = omega (arith, all_counted ts) in
    rw (e, p, q)

pub finish_even : (xs ys line : List ℕ) (tally : Tally) → After xs ys tally line → tally.held ≡ 0
    → ys ++ totals tally.lines tally.read (tally.lines - tally.read) ≡ listing xs
unfolding listing texts last_line
finish_even xs ys line tally a e =
    rw (totals_of (ended xs) tally.lines tally.read a.counted a.good, a.said, empty (unfinished xs) line tally.held a.holds e, append-nil (ended xs))

last_text : (s : List ℕ) → 0 < length (take 1078 s) → last_line s ≡ s ∷ []
unfolding last_line
last_text [] h = absurd (omega arith)
last_text (b ∷ s) h = refl

pub finish_odd : (xs ys line : List ℕ) (tally : Tally) (good : ℕ) → After xs ys tally line → 0 < tally.held
    → good ≡ tally.read + if_read (verdict (take tally.held line ++ []))
    → ys ++ (line_of (tally.lines + 1) (take tally.held line ++ []) ++ totals (tally.lines + 1) good (tally.lines + 1 - good)) ≡ listing xs
unfolding listing texts
finish_odd xs ys line tally good a h e =
    let t = unfinished xs in
    let z : unfinished xs ++ [] ≡ t = append-nil t in
    let n : tally.lines + 1 ≡ length (ended xs ++ (t ∷ [])) = rw (length-append (ended xs) (t ∷ [])) (ap (λ (k : ℕ). k + 1) a.counted) in
    let g : good ≡ read_of (ended xs ++ (t ∷ [])) = e ∙ rw (read_more (ended xs) t, a.good, held_verdict xs ys line [] tally a, z) in
    rw (last_text t (omega (arith, a.holds.size)), lines_more 1 (ended xs) t, held_line xs ys line [] tally a, z, totals_of (ended xs ++ (t ∷ [])) (tally.lines + 1) good n g, a.said, ← append_assoc)

-- ---- tallies that `start` and `feed` make

-- what the test of a tally says
pub record Sound (tally : Tally) : Type 0 where
  pub some : tally.read ≤ tally.lines
  pub few : tally.lines ≤ most_lines
  pub short : tally.held ≤ 1078

sound_after : (xs ys line : List ℕ) (tally : Tally) → After xs ys tally line → soundly tally ≡ true
sound_after xs ys line tally a =
    let r : tally.read ≤ tally.lines = omega (arith, a.good, a.counted, all_counted (ended xs)) in
    let s : tally.held ≤ 1078 = omega (arith, a.holds.size, length-take 1078 (unfinished xs)) in
    rw (le-leb tally.read tally.lines r, le-leb tally.lines most_lines a.within, le-leb tally.held 1078 s)

pub unsound : (xs ys line : List ℕ) (tally : Tally) → After xs ys tally line → soundly tally ≡ false → ⊥
unsound xs ys line tally a h = let z : true ≡ false = sym (sound_after xs ys line tally a) ∙ h in let y : ◌≡◌ {A = ℕ} 0 1 = cc in omega arith

-- ---- the loop over the lines of a piece

-- what holds at each turn: what was taken and written so far, and the tally for it
pub record Going (line₀ piece out₀ : List ℕ) (tally₀ : Tally) (line out : List ℕ) (taken written : ℕ) (tally : Tally) : Type 0 where
  pub sound : Sound tally
  pub part : taken ≤ length piece
  pub fits : written ≤ length out
  pub same : length out ≡ length out₀
  pub rest : drop written out ≡ drop written out₀
  pub none : length out₀ < room → (taken ≡ 0) × (written ≡ 0)
  pub goes : (xs ys : List ℕ) → After xs ys tally₀ line₀ → After (xs ++ take taken piece) (ys ++ take written out) tally line

module _ {line₀ piece out₀ line out : List ℕ} {tally₀ tally : Tally} {taken written : ℕ} (g : Going line₀ piece out₀ tally₀ line out taken written tally) where
  -- what the loop looks at is all that is left
  rest_of : take (length piece - taken) (drop taken piece) ≡ drop taken piece
  rest_of = take_all (length piece - taken) (drop taken piece) (omega (arith, length-drop taken piece))

  module _ (rest : List ℕ) (r : ℕ) (e : rest ≡ take (length piece - taken) (drop taken piece)) (l : LineEnd rest r) (k : written + room ≤ length out) where
    rest_long : length rest ≡ length piece - taken
    rest_long = ap length (e ∙ rest_of) ∙ length-drop taken piece

    -- the rest has no line feed
    pub going_part : (line' : List ℕ) (held : ℕ) → r ≡ length rest → Holds (take tally.held line ++ rest) line' held
        → Going line₀ piece out₀ tally₀ line' out (taken + r) written (record { lines = tally.lines; read = tally.read; held = held })
    going_part line' held z p =
        let all : take r rest ≡ rest = take_all r rest (omega arith) in
        record {
          sound = record { some = g.sound.some; few = g.sound.few; short = omega (arith, p.size, length-take 1078 (take tally.held line ++ rest)) };
          part = omega (arith, g.part, rest_long);
          fits = g.fits;
          same = g.same;
          rest = g.rest;
          none = λ h. absurd (omega (arith, g.same));
          goes = λ xs ys a. fed_part piece rest taken r (e ∙ rest_of) l xs (ys ++ take written out) line line' tally held (g.goes xs ys a) (rw all p);
        }

    -- a line feed ends a line
    pub going_line : (line' out' : List ℕ) (next : ℕ) (read : Bool) → r < length rest → tally.lines < most_lines
        → Tells (line_of (tally.lines + 1) (take tally.held line ++ take r rest)) (if_read (verdict (take tally.held line ++ take r rest))) written out out' next read
        → length out' ≡ length out
        → Going line₀ piece out₀ tally₀ line' out' (taken + (r + 1)) next (record { lines = tally.lines + 1; read = tally.read + from_bool read; held = 0 })
    going_line line' out' next read h m p len =
        let n : next ≤ length out = omega (arith, p.room) in
        let one : from_bool read ≤ 1 = rw p.told (at_most_one _) in
        record {
          sound = record { some = omega (arith, g.sound.some); few = omega arith; short = omega arith };
          part = omega (arith, g.part, rest_long);
          fits = omega arith;
          same = len ∙ g.same;
          rest = behind p.wrote n ∙ still written next out out₀ (omega (arith, p.wrote.place)) g.rest;
          none = λ i. absurd (omega (arith, g.same));
          goes = λ xs ys a. fed_line piece rest taken r (e ∙ rest_of) l xs ys line line' tally h m (g.goes xs ys a) p n;
        }
