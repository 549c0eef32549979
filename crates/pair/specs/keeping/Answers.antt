-- THE GIVEN ANSWERS stay well formed: one is given, or some are forgotten.
use Rattle.std.specs.Prelude.{◌≡◌, refl, Bool, true, false, cond, List, ◌∷◌, ◌++◌, ℕ, ◌≤◌, get_or, take, drop, set}
use Rattle.std.proofs.Common.{sym, ap, ◌∙◌, subst, ⊎_elim, add-one, arith, length-set, get_or-set_same, get_or-set_other}
use Rattle.std.proofs.lemmas.List.{set_split}
use Rattle.answers.specs.Given.{is_value, AnswersFormed, after, forgotten}
use Rattle.answers.specs.Forgetting.{forgotten_long, forgotten_at}
use Rattle.rules.specs.Receiving.{given}
use Rattle.pair.specs.kinds.Tools.{same?}

pub given_formed : (n v : ℕ) (a : List ℕ) → AnswersFormed a → n ≤ 999 → is_value v ≡ true → AnswersFormed (given n v a)
given_formed n v a f l y =
    let e : set a n v ≡ given n v a = set_split a n v (omega (arith, f.whole)) ∙ ap (λ (k : ℕ). take n a ++ (v ∷ drop k a)) (sym (add-one n)) in
    subst AnswersFormed e (record {
      whole = length-set a n v ∙ f.whole;
      values = λ i h.
          ⊎_elim
          (λ c. ap is_value (ap (λ (k : ℕ). get_or (set a n v) k 0) c ∙ get_or-set_same a n v 0 (omega (arith, f.whole))) ∙ y)
          (λ c. ap is_value (get_or-set_other a n i v 0 c) ∙ f.values i h)
          (same? i n);
    })

value_or_none : (b : Bool) (x : ℕ) → is_value x ≡ true → is_value (cond b 0 x) ≡ true
unfolding is_value
value_or_none true x e = refl
value_or_none false x e = e

pub forgotten_formed : (h n : ℕ) (a : List ℕ) → AnswersFormed a → AnswersFormed (forgotten h n a)
forgotten_formed h n a f = record {
  whole = forgotten_long h n 0 a ∙ f.whole;
  values = λ i k. ap is_value (forgotten_at h n i a (omega (arith, f.whole))) ∙ value_or_none (after h n i) (get_or a i 0) (f.values i k);
}
