-- Laws of bytes before a line feed. Assumes nothing.
use Rattle.std.proofs.Common.{◌≡◌, refl, sym, ◌⊎◌, inl, inr, ℕ, zero, suc, ◌+◌, ◌-◌, ◌<◌, ◌≤◌, true, List, [], ◌∷◌, Option, None, Some, unwrap_or, length, take, drop, slice_index, eqb, arith}
use Rattle.std.proofs.lemmas.List.{get_or-drop, length-drop}
use Rattle.std.proofs.lemmas.Bool.{cases_lt, eqb-true, false_from_ne_true}
use Rattle.std.proofs.Math.Seq.{take-nil}
use Rattle.memchr.specs.Find.{NoneBefore, Nowhere, Passes, IsFirstByte, is_byte}
use Rattle.lines.specs.Feeds.{LineEnd, feedless}

feedless_before : (s : List ℕ) (r : ℕ) → Nowhere (Passes (is_byte 10) s) 0 r → feedless (take r s) ≡ true
unfolding feedless
feedless_before [] r none = rw (take-nil r)
feedless_before (b ∷ s) zero none = refl
feedless_before (b ∷ s) (suc r) none =
    rw (false_from_ne_true (eqb b 10) (none 0 (omega arith) (omega arith)))
    (feedless_before s r (λ k l h. none (suc k) (omega arith) (omega arith)))

-- the first line feed, or none
pub first_feed : (s : List ℕ) (r : Option ℕ) → IsFirstByte (is_byte 10) s r → LineEnd s (unwrap_or r (length s))
first_feed s None none = record { inside = omega arith; before = feedless_before s (length s) none; found = λ h. absurd (omega arith) }
first_feed s (Some k) (first, here) = record { inside = omega (arith, first.high); before = feedless_before s k first.before; found = λ h. eqb-true (slice_index s k) 10 here }

-- ---- a search that begins behind the first bytes of s, of which none is a line feed

-- a line feed that is not among them is in the rest
in_rest : (s : List ℕ) (past i : ℕ) → past ≤ i → Passes (is_byte 10) s i → Passes (is_byte 10) (drop past s) (i - past)
in_rest s past i low here =
    let same : past + (i - past) ≡ i = omega (arith, low) in
    rw (get_or-drop past s (i - past) 0, same) here

-- so where the search of the rest met none there is none
none_met : (s : List ℕ) (past k : ℕ) → Nowhere (Passes (is_byte 10) s) 0 past → Nowhere (Passes (is_byte 10) (drop past s)) 0 k → Nowhere (Passes (is_byte 10) s) 0 (past + k)
none_met s past k before rest i low high here = go (cases_lt i past)
  where
    go : (i < past) ⊎ (past ≤ i) → ⊥
    go (inl l) = before i low l here
    go (inr l) = rest (i - past) (omega arith) (omega (arith, l, high)) (in_rest s past i l here)

begun_later : (s : List ℕ) (past : ℕ) (r : Option ℕ) → past ≤ length s → Nowhere (Passes (is_byte 10) s) 0 past → IsFirstByte (is_byte 10) (drop past s) r → LineEnd s (past + unwrap_or r (length (drop past s)))
begun_later s past None low before found =
    let all : past + length (drop past s) ≡ length s = omega (arith, low, length-drop past s) in
    rw all (first_feed s None (rw all at (none_met s past (length (drop past s)) before found)))
begun_later s past (Some k) low before (first, here) =
    let inside : past + k < length s = omega (arith, low, first.high, length-drop past s) in
    let at : NoneBefore (Passes (is_byte 10) s) 0 (length s) (past + k) = record { low = omega arith; high = inside; before = none_met s past k before first.before } in
    first_feed s (Some (past + k)) (at, rw (get_or-drop past s k 0) at here)

-- the same where what is searched is known only as an end of s: all of s, say
pub searched : (s end : List ℕ) (n : ℕ) (r : Option ℕ) → IsFirstByte (is_byte 10) end r → end ≡ drop (length s - length end) s → Nowhere (Passes (is_byte 10) s) 0 (length s - length end) → n ≡ length s - length end + unwrap_or r (length end) → LineEnd s n
searched s end n r found part before e = rw e (rw (sym part) at (begun_later s (length s - length end) r (omega arith) before (rw part at found)))
