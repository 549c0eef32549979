-- What the check of a record decides.
use Rattle.std.specs.Prelude.{◌≡◌, refl, Bool, ℕ, ◌≤◌, ◌<◌, length, get_or, take, drop, replicate, eqb}
use Rattle.std.proofs.Common.{sym, ap, ◌∙◌, subst, arith, take-append-drop, length-drop, drop-drop, eqb-true}
use mathlib.Core.List.{List, [], ◌∷◌, ◌++◌, nil≢cons}
use Rattle.std.proofs.Math.Seq.{drop-append_seam}
use Rattle.scan.specs.Bools.{Decides, decides_as}
use Rattle.scan.specs.declared.Class.TheVariants.{Letter, Octal, Alnum}
use Rattle.scan.specs.Grammar.{G, Derives, run}
use Rattle.scan.specs.Texts.{opt}
use Rattle.fields.specs.Fields.{timed, in08, in09, in10, in14, in15, rest16, in18}
use Rattle.places.specs.Bytes.{high_of, low_of, number_at}
use Rattle.flights.specs.Padding.{in_row, cut_row, cut_row_lem, row_length, row_take}
use Rattle.flights.specs.Flight.{Flight, status_byte, handoff_byte, status_of, handoff_of, widths, texts_of, record_of, flight_of, Sound}
use Rattle.flights.specs.Records.{texts_neat, status_back, handoff_back, flight_back}

-- the bytes that are no text have values that they may have
pub record Shaped (b : List ℕ) : Type 0 where
  pub status : status_byte (status_of (get_or b 0 0)) ≡ get_or b 0 0
  pub handoff : handoff_byte (handoff_of (get_or b 1 0)) ≡ get_or b 1 0
  pub rest : drop 741 b ≡ replicate 27 0

six : (b : List ℕ) → 6 ≤ length b → b ≡ get_or b 0 0 ∷ get_or b 1 0 ∷ get_or b 2 0 ∷ get_or b 3 0 ∷ get_or b 4 0 ∷ get_or b 5 0 ∷ drop 6 b
six [] h = absurd (omega arith)
six (x ∷ []) h = absurd (omega arith)
six (x ∷ y ∷ []) h = absurd (omega arith)
six (x ∷ y ∷ z ∷ []) h = absurd (omega arith)
six (x ∷ y ∷ z ∷ u ∷ []) h = absurd (omega arith)
six (x ∷ y ∷ z ∷ u ∷ v ∷ []) h = absurd (omega arith)
six (x ∷ y ∷ z ∷ u ∷ v ∷ w ∷ b) h = refl

module _ (b : List ℕ) (n : length b ≡ 768) (lo : get_or b 3 0 < 256) (lu : get_or b 5 0 < 256) where
  -- a record that is shaped is that of the flight that is read off it
  shaped_record : Shaped b → record_of (flight_of b) ≡ b
  shaped_record s =
      let t : in_row widths (cut_row widths 6 b) ≡ take 735 (drop 6 b) = ap (in_row widths) (cut_row_lem widths 6 b) ∙ row_take widths (drop 6 b) (omega (arith, length-drop 6 b)) in
      let d : drop 735 (drop 6 b) ≡ replicate 27 0 = drop-drop 735 6 b ∙ s.rest in
      let r : in_row widths (cut_row widths 6 b) ++ replicate 27 0 ≡ drop 6 b = (λ i. t i ++ sym d i) ∙ take-append-drop 735 (drop 6 b) in
      (λ i. s.status i ∷ s.handoff i ∷ high_of (get_or b 2 0) (get_or b 3 0) lo i ∷ low_of (get_or b 2 0) (get_or b 3 0) lo i ∷ high_of (get_or b 4 0) (get_or b 5 0) lu i ∷ low_of (get_or b 4 0) (get_or b 5 0) lu i ∷ r i) ∙ sym (six b (omega arith))

-- A USED RECORD is one that is shaped, with a flight that is sound
abbrev pub Used : List ℕ → Type 0
Used b = (f : Flight) × (b ≡ record_of f) × Sound f

pub record_shaped : (f : Flight) → Sound f → Shaped (record_of f)
record_shaped f s = record {
  status = ap status_byte (status_back f.status);
  handoff = ap handoff_byte (handoff_back f.handoff);
  rest =
      let l : 735 ≡ length (in_row widths (texts_of f)) = sym (row_length widths (texts_of f) (texts_neat f s)) in
      ap (λ (k : ℕ). drop k (in_row widths (texts_of f) ++ replicate 27 0)) l ∙ drop-append_seam (in_row widths (texts_of f)) (replicate 27 0);
}

pub used_is : (b : List ℕ) → length b ≡ 768 → get_or b 3 0 < 256 → get_or b 5 0 < 256 → (t : Bool) → Decides t (Shaped b × Sound (flight_of b)) → Decides t (Used b)
used_is b n lo lu t =
    decides_as
    (λ p. (flight_of b, sym (shaped_record b n lo lu p.0), p.1))
    (λ u. (subst Shaped (sym u.1) (record_shaped u.0 u.2), subst Sound (sym (ap flight_of u.1 ∙ flight_back u.0 u.2)) u.2))

-- WHAT IS TESTED

abbrev pub Texts : Flight → Type 0
Texts f =
    (((((((((Derives (run Alnum 2 7) f.aircraft × Derives (opt (run Octal 4 4)) f.code) × Derives (run Letter 4 4) f.departure) × Derives (run Letter 4 4) f.destination) × Derives (in08 0) f.field08) × Derives (in09 0) f.field09) × Derives (in10 0) f.field10) × Derives (rest16 0) f.rest16) × Derives (in15 0) f.field15) × Derives (in18 0) f.field18)

abbrev pub Filed : List ℕ → Type 0
Filed b = (((get_or b 1 0 ≡ 0) × (number_at 4 b ≡ 0)) × Derives timed (flight_of b).time) × ((flight_of b).field14 ≡ [])

abbrev pub Active : List ℕ → Type 0
Active b = (((get_or b 1 0 ≤ 2) × (number_at 4 b ≤ 999)) × Derives (opt timed) (flight_of b).time) × Derives in14 (flight_of b).field14

-- nothing there
pub empty_text : (t : List ℕ) → Decides (eqb (length t) 0) (t ≡ [])
empty_text [] = record { yes = λ e. refl; no = λ e. refl }
empty_text (x ∷ t) = record { yes = λ e. absurd (omega (arith, eqb-true (length (x ∷ t)) 0 e)); no = λ e. absurd (nil≢cons (sym e)) }

-- of the text itself
pub on : {b : Bool} {t u : List ℕ} (g : G) → t ≡ u → Decides b (Derives g t) → Decides b (Derives g u)
on {b} g e d = subst (λ (x : List ℕ). Decides b (Derives g x)) e d

pub empty_on : {t u : List ℕ} → t ≡ u → Decides (eqb (length t) 0) (u ≡ [])
empty_on {t} e = subst (λ (x : List ℕ). Decides (eqb (length t) 0) (x ≡ [])) e (empty_text t)
