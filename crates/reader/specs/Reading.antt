-- WHAT A READER ANSWERS, by document 01: a text is read exactly when the rules derive it, and the record is the one
-- that they give; else the refusal names the first place past which no continuation helps.
use Rattle.std.specs.Prelude.{◌≡◌, ◌⊎◌, cond, List, [], ◌∷◌, ℕ, suc, take, drop, eqb}
use Rattle.std.proofs.Common.{ap}
use Rattle.scan.specs.Grammar.{place_of, size_of, Span, Derives, Part, Reads, Refusal}
use Rattle.message.specs.declared.Verdict.{Verdict}
use Rattle.message.specs.declared.Verdict.TheVariants.{Read, Refused}
use Rattle.message.specs.declared.Record.{Record}
use Rattle.types.specs.Messages.{message}
use Rattle.message.specs.Record.{record_of, blank, is_chg}

-- how many hyphens a text has
unfoldable pub hyphens : List ℕ → ℕ
hyphens [] = 0
hyphens (x ∷ s) = cond (eqb x 45) (suc (hyphens s)) (hyphens s)

-- a verdict and a record that a text may be answered with
abbrev pub Judged : List ℕ → Verdict → Record → Type 0
Judged s Read r = (ps : List Part) × Reads message 0 s ps × (r ≡ record_of s ps)
Judged s (Refused place before) r = Refusal message s place × (before ≡ hyphens (take place s)) × (r ≡ blank)

-- document 01's refusal number, 0 for none, and its values, place and hyphens
pub record Answer : Type 0 where
  pub number : ℕ
  pub place : ℕ
  pub before : ℕ

abbrev pub answer_of : Verdict → Answer
answer_of Read = record { number = 0; place = 0; before = 0 }
answer_of (Refused place before) = record { number = 1; place = place; before = before }

-- what document 01 says by that number: 0 where the rules derive the text, 1 where they do not, with the place past
-- which no continuation helps and the hyphens before it
abbrev pub Answers : List ℕ → Answer → Type 0
Answers s a =
    ((a.number ≡ 0) × Derives message s)
    ⊎ ((a.number ≡ 1) × Refusal message s a.place × (a.before ≡ hyphens (take a.place s)))

-- the bytes of a part
abbrev pub cut : List ℕ → Span → List ℕ
cut s p = take (size_of p) (drop (place_of p) s)

-- an absent part has no bytes
pub cut_none : (s : List ℕ) (p : Span) → size_of p ≡ 0 → cut s p ≡ []
cut_none s p e = ap (λ (k : ℕ). take k (drop (place_of p) s)) e

-- where the words of field 15 and those of field 18 stand; in a CHG, within field 22
abbrev pub route : Record → Span
route r = cond (is_chg r.kind) r.parts.changes.route r.parts.own.route

abbrev pub other : Record → Span
other r = cond (is_chg r.kind) r.parts.changes.other r.parts.own.other

-- the words of field 15 and those of field 18, as the bytes that are handed back
abbrev pub Words : (Record → Span) → List ℕ → List ℕ → Type 0
Words part s w = (v : Verdict) (r : Record) → Judged s v r → w ≡ cut s (part r)
