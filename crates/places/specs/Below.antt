-- Tests over places, one after the other.
use Rattle.std.specs.Prelude.{◌≡◌, refl, ◌⊎◌, Bool, true, false, ◌&&◌, List, ℕ, ◌+◌, ◌<◌, length, get_or, eqb, ltb}
use Rattle.std.specs.Bool.{MatchBool}
use Rattle.std.specs.List.{AllWithin, HoldsAt, enumerate_from}
use Rattle.std.proofs.Common.{sym, ◌∙◌, subst, inl, inr, ⊎_elim, arith, eqb-true, eq-eqb, ltb-true, ltb-false}
use Rattle.std.proofs.lemmas.Bool.{false≢true}
use Rattle.std.proofs.lemmas.List.FromFn.{length-enumerate_from, get_or-enumerate_from}
use Rattle.scan.specs.Bools.{known, Decides, decides_and, decides_as}

abbrev pub Below : (ℕ → Type 0) → ℕ → Type 0
Below P n = (k : ℕ) → k < n → P k

pub none_below : (P : ℕ → Type 0) → Decides true (Below P 0)
none_below P = record { yes = λ e k h. absurd (omega arith); no = λ p. refl }

pub one_more : (P : ℕ → Type 0) (n : ℕ) (ok b : Bool) → Decides ok (Below P n) → Decides b (P n) → Decides (ok && b) (Below P (n + 1))
one_more P n ok b d e =
    decides_as
    (λ p k h. ⊎_elim (λ z. subst P (sym (eqb-true k n z)) p.1) (λ z. p.0 k (below k h z)) (known (eqb k n)))
    (λ p. (λ k h. p k (omega arith), p n (omega arith)))
    (decides_and d e)
  where
    less : (k : ℕ) → k < n + 1 → (k < n) ⊎ (k ≡ n)
    less k h = ⊎_elim (λ q. inl (ltb-true k n q)) (λ q. inr (omega (arith, ltb-false k n q))) (known (ltb k n))

    below : (k : ℕ) → k < n + 1 → eqb k n ≡ false → k < n
    below k h z = ⊎_elim (λ q. q) (λ q. absurd (false≢true (sym z ∙ eq-eqb k n q))) (less k h)

-- what `all` says of the elements of a list, each with its index
module _ {X : Type 0} (P : ℕ → X → Type 0) (l : List X) (d : X) where
  there : (i : ℕ) → i < length l → get_or (enumerate_from 0 l) i (0, d) ≡ (i, get_or l i d)
  there i h = let e : 0 + i ≡ i = omega arith in get_or-enumerate_from 0 l i (0, d) h ∙ (λ j. (e j, get_or l i d))

  pub all_enumerated : (r : Bool) → MatchBool r (AllWithin (λ q. P q.0 q.1) (enumerate_from 0 l) 0 (length (enumerate_from 0 l))) ((k : ℕ) × (k < length (enumerate_from 0 l)) × HoldsAt (λ q. P q.0 q.1 → ⊥) (enumerate_from 0 l) k) → Decides r (Below (λ i. P i (get_or l i d)) (length l))
  all_enumerated true m = record {
    yes = λ e i h. subst (λ (q : ℕ × X). P q.0 q.1) (there i h) (m i (0, d) (omega arith) (omega (arith, length-enumerate_from 0 l)));
    no = λ p. refl;
  }
  all_enumerated false m = record {
    yes = λ e. absurd (false≢true e);
    no = λ p.
        let h : m.0 < length l = omega (arith, length-enumerate_from 0 l, m.1) in
        absurd (m.2 (0, d) (subst (λ (q : ℕ × X). P q.0 q.1) (sym (there m.0 h)) (p m.0 h)));
  }
