-- WHAT A CALL ON A WELL FORMED END HAS LEFT: nothing has changed, or the memory holds the next end and a text was given.
use Rattle.std.specs.Prelude.{◌≡◌, refl, ◌⊎◌, Bool, ℕ, ◌≤◌, length, take, drop, eqb}
use Rattle.std.proofs.Math.Path.{ap}
use Rattle.std.proofs.Common.{◌∙◌, inl, inr, arith, ne_eqb}
use Rattle.std.proofs.Math.Bool.{cond}
use Rattle.std.proofs.Math.Option.{none, some}
use mathlib.Core.List.{List}
use Rattle.std.proofs.Math.Seq.{take-append_seam}
use Rattle.head.specs.declared.Head.{Head}
use Rattle.memory.specs.End.{End, Memory, memory_of}
use Rattle.rules.specs.Replies.{Refusal, Reply, refused, done}
use Rattle.rules.specs.Refusals.{Numbered}
use Rattle.rules.specs.declared.Answer.{Answer}
use Rattle.rules.specs.declared.Outcome.{Outcome}
use Rattle.rules.specs.Calls.{refusal_in, length_in, Comes}
use Rattle.pair.specs.World.{number, given}

pub record Refuses (h : Head) (m : Memory) (o : Outcome) (m' : Memory) (out' : List ℕ) (x : Refusal) : Type 0 where
  pub some : 1 ≤ x.number
  pub number : refusal_in o.answer ≡ x
  pub head : o.head ≡ h
  pub memory : m' ≡ m
  pub given : given o out' ≡ none

pub record Gives (o : Outcome) (m' : Memory) (out' : List ℕ) (e : End) (t : List ℕ) : Type 0 where
  pub number : number o ≡ 0
  pub head : o.head ≡ e.head
  pub memory : m' ≡ memory_of e
  pub given : given o out' ≡ some t

module _ (h : Head) (m : Memory) (out : List ℕ) (o : Outcome) (m' : Memory) (out' : List ℕ) where
  pub came_refused : (x : Refusal) → 1 ≤ x.number → Comes (refused x) h m out o m' out' → Refuses h m o m' out' x
  unfolding given
  came_refused x p c = record {
    some = p;
    number = c.0;
    head = c.1;
    memory = c.2;
    given = ap (λ (b : Bool). cond b (some (take (length_in o.answer) out')) none) (ne_eqb (number o) 0 (λ z. let q : number o ≡ x.number = ap (λ (y : Refusal). y.number) c.0 in omega arith));
  }

  pub came_done : (e : End) (t : List ℕ) → Comes (done e t) h m out o m' out' → Gives o m' out' e t
  unfolding given
  came_done e t c = record {
    number = ap (λ (a : Answer). (refusal_in a).number) c.0;
    head = c.1;
    memory = c.2;
    given = ap (λ (a : Answer). cond (eqb (refusal_in a).number 0) (some (take (length_in a) out')) none) c.0 ∙ ap (λ (s : List ℕ). some (take (length t) s)) c.3 ∙ ap (λ (s : List ℕ). some s) (take-append_seam t (drop (length t) out));
  }

pub came : (y : Reply) → Numbered y → (h : Head) (m : Memory) (out : List ℕ) (o : Outcome) (m' : Memory) (out' : List ℕ) → Comes y h m out o m' out' → ((x : Refusal) × (y ≡ refused x) × Refuses h m o m' out' x) ⊎ ((e : End) × (t : List ℕ) × (y ≡ done e t) × Gives o m' out' e t)
came (refused x) n h m out o m' out' c = inl (x, refl, came_refused h m out o m' out' x n c)
came (done e t) n h m out o m' out' c = inr (e, t, refl, came_done h m out o m' out' e t c)
