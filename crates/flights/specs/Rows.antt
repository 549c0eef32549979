-- One text of a row is written over.
use Rattle.std.specs.Prelude.{◌≡◌, refl, List, [], ◌∷◌, ◌++◌, ℕ, zero, suc, ◌+◌, ◌≤◌, ◌<◌, length, get_or, take, set}
use Rattle.std.proofs.Common.{sym, ap, ◌∙◌, append_assoc, arith, length-append}
use Rattle.splice.specs.Splice.{splice, total}
use Rattle.splice.specs.Inside.{splice_front, splice_behind}
use Rattle.flights.specs.Padding.{padded, padded_length, in_row, AllNeat}

-- every text fits its width
abbrev pub AllFit : List ℕ → List (List ℕ) → Type 0
AllFit [] [] = Unit
AllFit [] (t ∷ ts) = ⊥
AllFit (w ∷ ws) [] = ⊥
AllFit (w ∷ ws) (t ∷ ts) = (length t ≤ w) × AllFit ws ts

pub neat_fit : (ws : List ℕ) (ts : List (List ℕ)) → AllNeat ws ts → AllFit ws ts
neat_fit [] [] h = tt
neat_fit [] (t ∷ ts) h = absurd h
neat_fit (w ∷ ws) [] h = absurd h
neat_fit (w ∷ ws) (t ∷ ts) h = (h.0.0, neat_fit ws ts h.1)

pub row_long : (ws : List ℕ) (ts : List (List ℕ)) → AllFit ws ts → length (in_row ws ts) ≡ total ws
row_long [] [] h = refl
row_long [] (t ∷ ts) h = absurd h
row_long (w ∷ ws) [] h = absurd h
row_long (w ∷ ws) (t ∷ ts) h = omega (arith, length-append (padded w t) (in_row ws ts), padded_length w t h.0, row_long ws ts h.1)

-- how wide text k is, and where it starts
abbrev pub width_in : List ℕ → ℕ → ℕ
width_in ws k = get_or ws k 0

abbrev pub start_in : List ℕ → ℕ → ℕ
start_in ws k = total (take k ws)

pub row_fit : (ws : List ℕ) (ts : List (List ℕ)) (k : ℕ) (s : List ℕ) → AllFit ws ts → length s ≤ width_in ws k → AllFit ws (set ts k s)
row_fit [] [] k s h f = tt
row_fit [] (t ∷ ts) k s h f = absurd h
row_fit (w ∷ ws) [] k s h f = absurd h
row_fit (w ∷ ws) (t ∷ ts) zero s h f = (f, h.1)
row_fit (w ∷ ws) (t ∷ ts) (suc k) s h f = (h.0, row_fit ws ts k s h.1 f)

-- TEXT k IS WRITTEN, whatever stands behind the row
pub row_put : (ws : List ℕ) (ts : List (List ℕ)) (z : List ℕ) (k : ℕ) (s : List ℕ) → AllFit ws ts → k < length ws → length s ≤ width_in ws k → splice (start_in ws k) (padded (width_in ws k) s) (in_row ws ts ++ z) ≡ in_row ws (set ts k s) ++ z
row_put [] ts z k s h l f = absurd (omega arith)
row_put (w ∷ ws) [] z k s h l f = absurd h
row_put (w ∷ ws) (t ∷ ts) z zero s h l f =
    ap (splice 0 (padded w s)) (append_assoc (padded w t) (in_row ws ts) z) ∙ splice_front (padded w s) (padded w t) (in_row ws ts ++ z) (padded_length w s f ∙ sym (padded_length w t h.0)) ∙ sym (append_assoc (padded w s) (in_row ws ts) z)
row_put (w ∷ ws) (t ∷ ts) z (suc k) s h l f =
    ap (splice (w + start_in ws k) (padded (width_in ws k) s)) (append_assoc (padded w t) (in_row ws ts) z)
    ∙ splice_behind (padded w t) (in_row ws ts ++ z) (padded (width_in ws k) s) w (start_in ws k) (padded_length w t h.0)
    ∙ ap (λ (u : List ℕ). padded w t ++ u) (row_put ws ts z k s h.1 (omega arith) f)
    ∙ sym (append_assoc (padded w t) (in_row ws (set ts k s)) z)

-- and ends within the row
pub row_within : (ws : List ℕ) (k : ℕ) → start_in ws k + width_in ws k ≤ total ws
row_within [] zero = omega arith
row_within [] (suc k) = omega arith
row_within (w ∷ ws) zero = omega arith
row_within (w ∷ ws) (suc k) = omega (arith, row_within ws k)
