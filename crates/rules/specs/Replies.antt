-- WHAT A CALL ON AN END COMES TO.
use Rattle.std.specs.Prelude.{List, ℕ, ◌≡◌}
use Rattle.memory.specs.End.{End}
use Rattle.std.proofs.Common.{arith}

-- a refusal's number; 1 has also place and hyphens
pub record Refusal : Type 0 where
  pub number : ℕ
  pub place : ℕ
  pub before : ℕ

abbrev pub number : ℕ → Refusal
number n = record { number = n; place = 0; before = 0 }

-- the call refuses, or there is a next end, and a text that is given (none: empty)
pub data Reply : Type 0 where
  refused : Refusal → Reply
  done : End → List ℕ → Reply

-- which of the two it was, and with what
pub refused_done : {x : Refusal} {e : End} {t : List ℕ} → refused x ≡ done e t → ⊥
refused_done p = let z : ◌≡◌ {A = ℕ} 0 1 = cc in omega arith

pub done_end : {a b : End} {s t : List ℕ} → done a s ≡ done b t → a ≡ b
done_end p = cc

pub done_text : {a b : End} {s t : List ℕ} → done a s ≡ done b t → s ≡ t
done_text p = cc
