-- THE UNANSWERED MESSAGES: one is stored under a number that none of them has, or answered.
use Rattle.std.specs.Prelude.{◌≡◌, ◌⊎◌, ◌≢◌, List, ℕ, ◌<◌, length}
use Rattle.std.proofs.Common.{sym, ap, ◌∙◌, subst, inl, inr, ⊎_elim}
use Rattle.std.proofs.Math.Option.{none, some}
use Rattle.places.specs.Places.{Places, get, set, length_set, get_set, get_other}
use Rattle.unanswered.specs.Waiting.{Waiting, Proper}
use Rattle.pair.specs.kinds.Tools.{none_some, some_inj, same?}
use Rattle.pair.specs.kinds.Ends.{WaitingFormed}

module _ (ours partners : List ℕ) (l : Places Waiting) (i : ℕ) (f : WaitingFormed ours partners l) (h : i < length l) where
  -- ONE IS ANSWERED

  -- what still waits did so before
  left : (j : ℕ) (q : Waiting) → get j (set i none l) ≡ some q → get j l ≡ some q
  left j q e =
      ⊎_elim
      (λ c. absurd (none_some (get_set i none l h) (ap (λ (o : ℕ). get o (set i none l)) (sym c) ∙ e)))
      (λ c. sym (get_other i j none l c) ∙ e)
      (same? j i)

  pub freed_formed : WaitingFormed ours partners (set i none l)
  freed_formed = record {
    whole = length_set i none l ∙ f.whole;
    each = λ j q e. f.each j q (left j q e);
    numbers = λ j k p q d e n. f.numbers j k p q (left j p d) (left k q e) n;
  }

  -- ONE IS STORED, and none of the others has its number
  module _ (q : Waiting) (a : Proper ours partners q) (n : (j : ℕ) (p : Waiting) → get j l ≡ some p → p.number ≡ q.number → ⊥) where
    there : (j : ℕ) (p : Waiting) → j ≡ i → get j (set i (some q) l) ≡ some p → q ≡ p
    there j p c e = some_inj (get_set i (some q) l h) (ap (λ (o : ℕ). get o (set i (some q) l)) (sym c) ∙ e)

    elsewhere : (j : ℕ) (p : Waiting) → j ≢ i → get j (set i (some q) l) ≡ some p → get j l ≡ some p
    elsewhere j p c e = sym (get_other i j (some q) l c) ∙ e

    other_number : (j k : ℕ) (p r : Waiting) → j ≢ i → k ≡ i → get j (set i (some q) l) ≡ some p → get k (set i (some q) l) ≡ some r → p.number ≡ r.number → ⊥
    other_number j k p r u v d e m = n j p (elsewhere j p u d) (m ∙ ap (λ (o : Waiting). o.number) (sym (there k r v e)))

    one_place : (j k : ℕ) (p r : Waiting) → get j (set i (some q) l) ≡ some p → get k (set i (some q) l) ≡ some r → p.number ≡ r.number → (j ≡ i) ⊎ (j ≢ i) → (k ≡ i) ⊎ (k ≢ i) → j ≡ k
    one_place j k p r d e m (inl u) (inl v) = u ∙ sym v
    one_place j k p r d e m (inl u) (inr v) = absurd (other_number k j r p v u e d (sym m))
    one_place j k p r d e m (inr u) (inl v) = absurd (other_number j k p r u v d e m)
    one_place j k p r d e m (inr u) (inr v) = f.numbers j k p r (elsewhere j p u d) (elsewhere k r v e) m

    pub stored_formed : WaitingFormed ours partners (set i (some q) l)
    stored_formed = record {
      whole = length_set i (some q) l ∙ f.whole;
      each = λ j p e. ⊎_elim (λ c. subst (Proper ours partners) (there j p c e) a) (λ c. f.each j p (elsewhere j p c e)) (same? j i);
      numbers = λ j k p r d e m. one_place j k p r d e m (same? j i) (same? k i);
    }
