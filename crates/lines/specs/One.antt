-- THE FIRST LINE FEED stands at one place.
use Rattle.std.specs.Prelude.{◌≡◌, ◌⊎◌, Bool, true, false, cond, List, [], ◌∷◌, ℕ, zero, suc, ◌≤◌, ◌<◌, eqb, ltb, length, get_or, take}
use Rattle.std.proofs.Common.{sym, ap, ◌∙◌, inl, inr, arith, eq-eqb, ltb-true, ltb-false}
use Rattle.std.proofs.lemmas.Bool.{false≢true}
use Rattle.scan.specs.Bools.{known}
use Rattle.lines.specs.Feeds.{LineEnd, feedless}

else_true : (c x : Bool) → cond c false x ≡ true → x ≡ true
else_true true x e = absurd (false≢true e)
else_true false x e = e

no_feed : (s : List ℕ) (n r : ℕ) → feedless (take n s) ≡ true → r < n → r < length s → get_or s r 0 ≡ 10 → ⊥
unfolding feedless
no_feed [] n r f l k e = omega (arith, k)
no_feed (b ∷ s) zero r f l k e = omega (arith, l)
no_feed (b ∷ s) (suc n) zero f l k e = false≢true (ap (λ (c : Bool). cond c false (feedless (take n s))) (sym (eq-eqb b 10 e)) ∙ f)
no_feed (b ∷ s) (suc n) (suc r) f l k e = no_feed s n r (else_true (eqb b 10) (feedless (take n s)) f) (omega (arith, l)) (omega (arith, k)) e

not_before : (s : List ℕ) (a b : ℕ) → LineEnd s a → LineEnd s b → b ≤ a
not_before s a b x y = go (known (ltb a b))
  where
    go : (ltb a b ≡ true) ⊎ (ltb a b ≡ false) → b ≤ a
    go (inl h) =
        let l : a < b = ltb-true a b h in
        let k : a < length s = omega (arith, l, y.inside) in
        absurd (no_feed s b a y.before l k (x.found k))
    go (inr h) = ltb-false a b h

pub line_end_one : (s : List ℕ) (a b : ℕ) → LineEnd s a → LineEnd s b → a ≡ b
line_end_one s a b x y = omega (arith, not_before s a b x y, not_before s b a y x)
