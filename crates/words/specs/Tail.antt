-- The last bytes of words, one by one, up to one place: the end of the text, or where no more bytes fit.
-- The code's loop uses it; nothing public cites it.
use Rattle.std.specs.Prelude.{◌≡◌, ◌⊎◌, Bool, true, false, ◌&&◌, ◌||◌, List, ℕ, ◌+◌, ◌-◌, ◌≤◌, ◌<◌, ltb, length, get_or}
use Rattle.std.proofs.Common.{sym, ap, ◌∙◌, inl, inr, arith, lt-ltb, le-ltb, ltb-true, ltb-false}
use Rattle.scan.specs.declared.Scan.{Scan}
use Rattle.scan.specs.declared.Class.TheVariants.{Word, Byte}
use Rattle.scan.specs.Grammar.{is_in}
use Rattle.scan.specs.Scanner.{words_at}
use Rattle.scan.specs.Bools.{known}
use Rattle.scan.specs.Laws.{ended, words_none, words_past, words_on, words_gap, words_off}

-- k bytes from `at` on fit up to `end`; where more fit than there are, that is the end of the text
abbrev pub Ends : Bool → List ℕ → ℕ → ℕ → ℕ → Type 0
Ends false s at end k = end ≡ at + k
Ends true s at end k = (end ≡ length s) × (length s < at + k)

abbrev pub Tail : Bool → List ℕ → ℕ → ℕ → Bool → Scan → Type 0
Tail more s at end mid q = (k : ℕ) → Ends more s at end k → q ≡ words_at k mid s at

-- what is left to pass from i is what was to pass from the start
abbrev pub Left : Bool → List ℕ → ℕ → ℕ → Bool → ℕ → Bool → Type 0
Left more s at end mid i m = (k : ℕ) → Ends more s at end k → words_at (at + k - i) m s i ≡ words_at k mid s at

pub left_all : (more : Bool) (s : List ℕ) (at end : ℕ) (mid : Bool) → Left more s at end mid at mid
left_all more s at end mid k e = let n : at + k - at ≡ k = omega arith in ap (λ (z : ℕ). words_at z mid s at) n

module _ (more : Bool) (s : List ℕ) (at end : ℕ) (mid : Bool) (i : ℕ) (m : Bool) (a : at ≤ i) (l : Left more s at end mid i m) where
  some_left : (b : Bool) (k : ℕ) → Ends b s at end k → i < end → 0 < at + k - i
  some_left true k e h = omega (arith, e.0, e.1)
  some_left false k e h = omega arith

  -- whether one byte more fits
  one_more : (b : Bool) (k : ℕ) → Ends b s at end k → i < end → b || ltb (i + 1) end ≡ ltb 1 (at + k - i)
  one_more true k e h = sym (lt-ltb 1 (at + k - i) (omega (arith, e.0, e.1)))
  one_more false k e h = go (known (ltb (i + 1) end))
    where
      go : (ltb (i + 1) end ≡ true) ⊎ (ltb (i + 1) end ≡ false) → ltb (i + 1) end ≡ ltb 1 (at + k - i)
      go (inl t) = t ∙ sym (lt-ltb 1 (at + k - i) (omega (arith, e, ltb-true (i + 1) end t)))
      go (inr t) = t ∙ sym (le-ltb 1 (at + k - i) (omega (arith, e, ltb-false (i + 1) end t)))

  next : (k : ℕ) → at + k - i - 1 ≡ at + k - (i + 1)
  next k = omega arith

  pub left_on : i < end → i < length s → is_in Word (get_or s i 0) ≡ true → Left more s at end mid (i + 1) true
  left_on h f w k e = ap (λ (z : ℕ). words_at z true s (i + 1)) (sym (next k)) ∙ sym (words_on s i m (at + k - i) (some_left more k e h) f w) ∙ l k e

  module _ (h : i < end) (f : i < length s) (w : is_in Word (get_or s i 0) ≡ false) (blank : Bool) (p : blank ≡ is_in (Byte 32) (get_or s i 0)) where
    same_test : (k : ℕ) → Ends more s at end k → m && blank && (more || ltb (i + 1) end) ≡ m && is_in (Byte 32) (get_or s i 0) && ltb 1 (at + k - i)
    same_test k e = λ j. m && p j && one_more more k e h j

    pub left_gap : m && blank && (more || ltb (i + 1) end) ≡ true → Left more s at end mid (i + 1) false
    left_gap t k e = ap (λ (z : ℕ). words_at z false s (i + 1)) (sym (next k)) ∙ sym (words_gap s i m (at + k - i) (some_left more k e h) f w (sym (same_test k e) ∙ t)) ∙ l k e

    pub left_off : m && blank && (more || ltb (i + 1) end) ≡ false → Tail more s at end mid (ended i m)
    left_off t k e = sym (words_off s i m (at + k - i) f w (sym (same_test k e) ∙ t)) ∙ l k e

  pub left_none : end ≤ i → Tail more s at end mid (ended i m)
  left_none h k e = sym (go more e) ∙ l k e
    where
      go : (b : Bool) → Ends b s at end k → words_at (at + k - i) m s i ≡ ended i m
      go true e = words_past s i m (at + k - i) (omega (arith, e.0))
      go false e = words_none s i m (at + k - i) (omega arith)
