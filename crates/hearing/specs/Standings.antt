-- A NUMBER THAT IS NEW, OLD OR STALE.
use Rattle.std.specs.Prelude.{◌≡◌, refl, Bool, cond, List, ℕ, ◌<◌, ◌≤◌, get_or}
use Rattle.std.proofs.Common.{sym, arith, eq-eqb, ne_eqb}
use Rattle.std.proofs.Math.Path.{subst}
use Rattle.head.specs.declared.Head.{Head}
use Rattle.head.specs.declared.Standing.{Standing}
use Rattle.head.specs.declared.Standing.TheVariants.{New, Old, Stale}
use Rattle.answers.specs.Given.{AnswersFormed}
use Rattle.deeds.specs.Message.{Message}
use Rattle.memory.specs.End.{End, Memory}
use Rattle.rules.specs.Laws.{value_small}
use Rattle.rules.specs.Receiving.{raised, hear_first, hear_again, hear_old, hear_message}
use Rattle.rules.specs.declared.Answer.TheVariants as answers
use Rattle.rules.specs.declared.Outcome.{Outcome}
use Rattle.rules.specs.Calls.{Comes}

-- an answer that is kept is of two digits at most
pub kept_small : (a : List ℕ) (n : ℕ) → AnswersFormed a → n ≤ 999 → get_or a n 0 < 100
kept_small a n f l = value_small (get_or a n 0) (f.values n (omega arith))

module _ (s : Standing) (room : ℕ) (m : Message) (e : End) (h : Head) (l : Memory) (out : List ℕ) (o : Outcome) (l' : Memory) (out' : List ℕ) where
  pub new_comes : s ≡ New → Comes (hear_first room m (raised m.number e)) h l out o l' out' → Comes (hear_message s room m e) h l out o l' out'
  unfolding hear_message
  new_comes p d = subst (λ (x : Standing). Comes (hear_message x room m e) h l out o l' out') (sym p) d

  -- never answered
  pub old_first : s ≡ Old → get_or e.answers m.number 0 ≡ 0 → Comes (hear_first room m e) h l out o l' out' → Comes (hear_message s room m e) h l out o l' out'
  unfolding hear_message hear_old
  old_first p z d =
      subst (λ (x : Standing). Comes (hear_message x room m e) h l out o l' out') (sym p)
      (subst (λ (b : Bool). Comes (cond b (hear_first room m e) (hear_again room m (get_or e.answers m.number 0) e)) h l out o l' out') (sym (eq-eqb (get_or e.answers m.number 0) 0 z)) d)

  pub old_again : s ≡ Old → (get_or e.answers m.number 0 ≡ 0 → ⊥) → Comes (hear_again room m (get_or e.answers m.number 0) e) h l out o l' out' → Comes (hear_message s room m e) h l out o l' out'
  unfolding hear_message hear_old
  old_again p z d =
      subst (λ (x : Standing). Comes (hear_message x room m e) h l out o l' out') (sym p)
      (subst (λ (b : Bool). Comes (cond b (hear_first room m e) (hear_again room m (get_or e.answers m.number 0) e)) h l out o l' out') (sym (ne_eqb (get_or e.answers m.number 0) 0 z)) d)

pub stale_comes : (s : Standing) (room : ℕ) (m : Message) (e : End) (h : Head) (l : Memory) (out : List ℕ) → s ≡ Stale → Comes (hear_message s room m e) h l out (record { answer = answers.Stale; head = h }) l out
unfolding hear_message
stale_comes s room m e h l out p = subst (λ (x : Standing). Comes (hear_message x room m e) h l out (record { answer = answers.Stale; head = h }) l out) (sym p) (refl, refl, refl, refl)
