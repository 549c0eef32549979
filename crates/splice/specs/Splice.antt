-- What the clauses on bytes that are written cite.
use Rattle.std.specs.Prelude.{ℕ, ◌+◌, ◌≡◌, List, ◌++◌, [], ◌∷◌, length, take, drop}
use Rattle.std.proofs.Common.{sym, ◌∙◌}

-- d with s in the place of the bytes from index at on
unfoldable pub splice : ℕ → List ℕ → List ℕ → List ℕ
splice at s d = take at d ++ s ++ drop (at + length s) d

-- s was written over d from index at on, which made it e, and next is the index behind it
pub record Spliced (at : ℕ) (s d e : List ℕ) (next : ℕ) : Type 0 where
  pub bytes : e ≡ splice at s d
  pub place : next ≡ at + length s

-- which leaves no choice
pub spliced_one : {at : ℕ} {s d e f : List ℕ} {m n : ℕ} → Spliced at s d e m → Spliced at s d f n → (e ≡ f) × (m ≡ n)
spliced_one p q = (p.bytes ∙ sym q.bytes, p.place ∙ sym q.place)

-- how many bytes several texts have, by their lengths
abbrev pub total : List ℕ → ℕ
total [] = 0
total (k ∷ ks) = k + total ks
