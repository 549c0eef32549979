-- Places as the library cuts them: the first k chunks of w bytes.
use Rattle.std.specs.Prelude.{◌≡◌, refl, Bool, cond, List, [], ◌∷◌, ℕ, zero, suc, ◌+◌, ◌*◌, ◌<◌, take, drop, get_or, position, count_by}
use Rattle.std.specs.List.{position_from}
use Rattle.std.specs.Simd.{first_chunks}
use Rattle.std.proofs.Common.{sym, ap, ◌∙◌, add-one, arith, drop-drop}
use Rattle.std.proofs.Math.Nat.{zero-mul, suc-mul, add_comm}
use Rattle.std.proofs.lemmas.Iterator.Adapters.{position_from-zero}
use Rattle.std.proofs.lemmas.List.Recursion.{is_count_by}
use Rattle.places.specs.Place.{At}
use Rattle.places.specs.Search.{first_from, count_from}

module _ (w : ℕ) where
  -- chunk i
  abbrev pub chunk : ℕ → List ℕ → List ℕ
  chunk i t = take w (drop (i * w) t)

  start : (t : List ℕ) → drop (0 * w) t ≡ t
  start t = ap (λ (k : ℕ). drop k t) (zero-mul w)

  next : (i : ℕ) (t : List ℕ) → drop w (drop (i * w) t) ≡ drop ((i + 1) * w) t
  next i t = drop-drop w (i * w) t ∙ ap (λ (k : ℕ). drop k t) (sym (suc-mul i w) ∙ ap (λ (j : ℕ). j * w) (sym (add-one i)))

  behind : (i : ℕ) (t : List ℕ) → chunk i (drop w t) ≡ chunk (suc i) t
  behind i t = ap (take w) (drop-drop (i * w) w t ∙ ap (λ (k : ℕ). drop k t) (add_comm w (i * w) ∙ sym (suc-mul i w)))

  pub chunk_at : (i k : ℕ) (t d : List ℕ) → i < k → get_or (first_chunks w k t) i d ≡ chunk i t
  chunk_at i zero t d h = absurd (omega arith)
  chunk_at zero (suc k) t d h = ap (take w) (sym (start t))
  chunk_at (suc i) (suc k) t d h = chunk_at i k (drop w t) d (omega arith) ∙ behind i t

  module _ (p : List ℕ → Bool) where
    found_on : (k i : ℕ) (t : List ℕ) → position_from p i (first_chunks w k (drop (i * w) t)) ≡ first_from (λ j. p (chunk j t)) k i
    unfolding first_from
    found_on zero i t = refl
    found_on (suc k) i t =
        ap (cond (p (chunk i t)) (At i)) (ap (λ (u : List ℕ). position_from p (i + 1) (first_chunks w k u)) (next i t) ∙ found_on k (i + 1) t)

    -- the first of them with what is asked
    pub found_chunk : (k : ℕ) (t : List ℕ) → position p (first_chunks w k t) ≡ first_from (λ j. p (chunk j t)) k 0
    found_chunk k t =
        position_from-zero p (first_chunks w k t) ∙ ap (λ (u : List ℕ). position_from p 0 (first_chunks w k u)) (sym (start t)) ∙ found_on k 0 t

    -- how many have it
    counted : List (List ℕ) → ℕ
    counted [] = 0
    counted (x ∷ l) = cond (p x) (1 + counted l) (counted l)

    counted_on : (k i : ℕ) (t : List ℕ) → counted (first_chunks w k (drop (i * w) t)) ≡ count_from (λ j. p (chunk j t)) k i
    unfolding count_from counted
    counted_on zero i t = refl
    counted_on (suc k) i t =
        ap (λ (n : ℕ). cond (p (chunk i t)) (1 + n) n) (ap (λ (u : List ℕ). counted (first_chunks w k u)) (next i t) ∙ counted_on k (i + 1) t)

    pub counted_chunks : (k : ℕ) (t : List ℕ) → count_by p (first_chunks w k t) ≡ count_from (λ j. p (chunk j t)) k 0
    unfolding counted
    counted_chunks k t =
        sym (is_count_by counted p refl (λ x l. refl) (first_chunks w k t)) ∙ ap (λ (u : List ℕ). counted (first_chunks w k u)) (sym (start t)) ∙ counted_on k 0 t
