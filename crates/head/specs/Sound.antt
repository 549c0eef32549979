-- A WELL FORMED HEAD, by document 01: two different names of four letters; all numbers at most 999.
use Rattle.std.specs.Prelude.{◌≡◌, Bool, not, ◌&&◌, List, [], ◌∷◌, ℕ, ◌≤◌, length, get_or, eqb, leb}
use Rattle.std.proofs.Common.{sym, ap, ◌∙◌, ⊎_elim}
use Rattle.std.proofs.lemmas.Bool.{false≢true, not-true}
use Rattle.scan.specs.declared.Class.TheVariants.{Letter}
use Rattle.scan.specs.Bools.{known, Decides, decides_and, decides_as, equals, at_most}
use Rattle.scan.specs.Grammar.{Derives, run}
use Rattle.head.specs.declared.Head.{Head}
use Rattle.scan.specs.Laws.{four}

-- two different names of four letters
pub record Names (a b : List ℕ) : Type 0 where
  pub ours : Derives (run Letter 4 4) a
  pub partners : Derives (run Letter 4 4) b
  pub different : a ≡ b → ⊥

pub record HeadFormed (h : Head) : Type 0 where
  pub names : Names h.ours h.partners
  pub next : h.next ≤ 999
  pub highest : h.highest ≤ 999

-- what the tests of the code decide

same_four : (a b : List ℕ) → length a ≡ 4 → length b ≡ 4 → Decides (((eqb (get_or a 0 0) (get_or b 0 0) && eqb (get_or a 1 0) (get_or b 1 0)) && eqb (get_or a 2 0) (get_or b 2 0)) && eqb (get_or a 3 0) (get_or b 3 0)) (a ≡ b)
same_four a b m n =
    decides_as
    (λ p. four a m ∙ (λ i. p.0.0.0 i ∷ p.0.0.1 i ∷ p.0.1 i ∷ p.1 i ∷ []) ∙ sym (four b n))
    (λ e. (((ap (λ (x : List ℕ). get_or x 0 0) e, ap (λ (x : List ℕ). get_or x 1 0) e), ap (λ (x : List ℕ). get_or x 2 0) e), ap (λ (x : List ℕ). get_or x 3 0) e))
    (decides_and (decides_and (decides_and (equals (get_or a 0 0) (get_or b 0 0)) (equals (get_or a 1 0) (get_or b 1 0))) (equals (get_or a 2 0) (get_or b 2 0))) (equals (get_or a 3 0) (get_or b 3 0)))

pub other_four : (a b : List ℕ) → length a ≡ 4 → length b ≡ 4 → Decides (not (((eqb (get_or a 0 0) (get_or b 0 0) && eqb (get_or a 1 0) (get_or b 1 0)) && eqb (get_or a 2 0) (get_or b 2 0)) && eqb (get_or a 3 0) (get_or b 3 0))) (a ≡ b → ⊥)
other_four a b m n = go (((eqb (get_or a 0 0) (get_or b 0 0) && eqb (get_or a 1 0) (get_or b 1 0)) && eqb (get_or a 2 0) (get_or b 2 0)) && eqb (get_or a 3 0) (get_or b 3 0)) (same_four a b m n)
  where
    go : (t : Bool) → Decides t (a ≡ b) → Decides (not t) (a ≡ b → ⊥)
    go t d = record {
      yes = λ e p. false≢true (sym (not-true t e) ∙ d.no p);
      no = λ p. ⊎_elim (λ e. absurd (p (d.yes e))) (λ e. ap not e) (known t);
    }

pub head_is : (h : Head) (x y z : Bool) → Decides x (Derives (run Letter 4 4) h.ours) → Decides y (Derives (run Letter 4 4) h.partners) → Decides z (h.ours ≡ h.partners → ⊥) → Decides ((((x && y) && z) && leb h.next 999) && leb h.highest 999) (HeadFormed h)
head_is h x y z a b c =
    decides_as
    (λ p. record { names = record { ours = p.0.0.0.0; partners = p.0.0.0.1; different = p.0.0.1 }; next = p.0.1; highest = p.1 })
    (λ f. ((((f.names.ours, f.names.partners), f.names.different), f.next), f.highest))
    (decides_and (decides_and (decides_and (decides_and a b) c) (at_most h.next 999)) (at_most h.highest 999))
