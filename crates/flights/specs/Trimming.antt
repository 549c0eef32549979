-- Blanks passed from the right.
use Rattle.std.specs.Prelude.{◌≡◌, true, List, [], ◌∷◌, ◌++◌, ℕ, length, drop, replicate}
use Rattle.std.proofs.Math.Path.{refl, sym, ap}
use Rattle.std.proofs.Common.{◌∙◌, arith, take-append-drop, ne_eqb}
use Rattle.std.proofs.Math.ListN.{take}
use Rattle.flights.specs.Padding.{trimmed, trimmed_append}
use Rattle.places.specs.Bytes.{each, each_is}
use Rattle.flights.specs.Ends.{trimmed_last}

module _ (t u v : List ℕ) (k : ℕ) where
  pub passed_blanks : u ≡ take k t → v ≡ drop k t → each 32 v ≡ true → trimmed u ≡ trimmed t
  passed_blanks p q e =
      let r : v ≡ replicate (length v) 32 = (each_is 32 v).yes e in
      sym (trimmed_append u (length v)) ∙ ap (λ (x : List ℕ). trimmed (u ++ x)) (sym r) ∙ ap trimmed ((λ i. p i ++ q i) ∙ take-append-drop k t)

module _ (t u : List ℕ) (x : ℕ) (e : t ≡ u ++ (x ∷ [])) where
  pub passed_blank : x ≡ 32 → trimmed u ≡ trimmed t
  passed_blank h = sym (ap trimmed e ∙ ap (λ (y : ℕ). trimmed (u ++ (y ∷ []))) h ∙ trimmed_append u 1)

  pub stopped : (x ≡ 32 → ⊥) → trimmed t ≡ t
  stopped n = ap trimmed e ∙ trimmed_last u x (ne_eqb x 32 n) ∙ sym e

pub none_left : (t : List ℕ) → length t ≡ 0 → trimmed t ≡ t
unfolding trimmed
none_left [] e = refl
none_left (x ∷ t) e = absurd (omega arith)
