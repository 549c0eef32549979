-- A RECORD THAT IS MADE STEP BY STEP: what a call that changes a table writes, as a change of the flight.
use Rattle.std.specs.Prelude.{◌≡◌, List, [], ◌∷◌, ◌++◌, ℕ, zero, suc, ◌+◌, ◌*◌, ◌≤◌, ◌<◌, length, set, replicate}
use Rattle.std.proofs.Math.Path.{refl}
use Rattle.std.proofs.Common.{sym, ap, ◌∙◌, subst, arith, length-set, drop-cons}
use Rattle.std.proofs.Math.ListN.{drop}
use Rattle.std.proofs.Math.Seq.{drop-length}
use Rattle.splice.specs.Splice.{splice}
use Rattle.splice.specs.Inside.{splice_behind, splice_same, splice_inside}
use Rattle.places.specs.Bytes.{high, low}
use Rattle.flights.specs.Padding.{padded, padded_length, in_row}
use Rattle.flights.specs.Flight.{Status, filed, active, Handoff, none, offered, accepted, Flight, status_byte, handoff_byte, widths, texts_of, record_of, nth, flight_by}
use Rattle.flights.specs.Table.{places, place}
use Rattle.flights.specs.Rows.{AllFit, row_fit, row_put, row_within, width_in, start_in}
use Rattle.flights.specs.Decoded.{record_long}

-- place i of t was made the record of f, and t so became e
pub record Made (i : ℕ) (f : Flight) (t e : List ℕ) : Type 0 where
  pub bytes : e ≡ splice (i * 768) (record_of f) t
  pub fits : AllFit widths (texts_of f)
  pub within : i < places t

-- CHANGES OF A FLIGHT

-- its text k is s: 0 aircraft, 1 code, 2 departure, 3 time, 4 destination, 5 field 08, 6 field 09, 7 field 10, 8 field 14,
-- 9 rest of field 16, 10 field 15, 11 field 18
abbrev pub with_text : ℕ → List ℕ → Flight → Flight
with_text k s f = flight_by f.status f.handoff f.first f.offer (set (texts_of f) k s)

abbrev pub with_status : Status → Flight → Flight
with_status s f = flight_by s f.handoff f.first f.offer (texts_of f)

abbrev pub with_handoff : Handoff → Flight → Flight
with_handoff h f = flight_by f.status h f.first f.offer (texts_of f)

abbrev pub with_offer : ℕ → Flight → Flight
with_offer n f = flight_by f.status f.handoff f.first n (texts_of f)

-- nothing but a status and a first message number
abbrev pub blank_flight : Status → ℕ → Flight
blank_flight s n = flight_by s none n 0 []

-- its record, by the status byte
abbrev pub blank_record : ℕ → ℕ → List ℕ
blank_record v n = v ∷ 0 ∷ high n ∷ low n ∷ 0 ∷ 0 ∷ (replicate 735 32 ++ replicate 27 0)

-- THE BYTES

pub byte_filed : 1 ≡ status_byte filed
unfolding status_byte
byte_filed = refl

pub byte_active : 2 ≡ status_byte active
unfolding status_byte
byte_active = refl

pub byte_none : 0 ≡ handoff_byte none
unfolding handoff_byte
byte_none = refl

pub byte_offered : 1 ≡ handoff_byte offered
unfolding handoff_byte
byte_offered = refl

pub byte_accepted : 2 ≡ handoff_byte accepted
unfolding handoff_byte
byte_accepted = refl

-- where text k starts in a record, and how wide it is
abbrev pub text_at : ℕ → ℕ
text_at k = 6 + start_in widths k

abbrev pub text_wide : ℕ → ℕ
text_wide k = width_in widths k

-- the row of a changed flight is the changed row
row_from : ℕ → ℕ → List (List ℕ) → List (List ℕ)
row_from zero k ts = []
row_from (suc m) k ts = nth k ts ∷ row_from m (suc k) ts

row_from_lem : (m k : ℕ) (ts : List (List ℕ)) → k + m ≡ length ts → drop k ts ≡ row_from m k ts
unfolding row_from
row_from_lem zero k ts e = ap (λ (j : ℕ). drop j ts) (let z : k ≡ length ts = omega arith in z) ∙ drop-length ts
row_from_lem (suc m) k ts e = drop-cons ts k [] (omega arith) ∙ ap (λ (us : List (List ℕ)). nth k ts ∷ us) (row_from_lem m (suc k) ts (omega arith))

texts_set : (k : ℕ) (s : List ℕ) (f : Flight) → texts_of (with_text k s f) ≡ set (texts_of f) k s
unfolding row_from
texts_set k s f = sym (row_from_lem 12 0 (set (texts_of f) k s) (sym (length-set (texts_of f) k s)))

-- what stands before the row
front : Flight → List ℕ
front f = status_byte f.status ∷ handoff_byte f.handoff ∷ high f.first ∷ low f.first ∷ high f.offer ∷ low f.offer ∷ []

record_text : (k : ℕ) (s : List ℕ) (f : Flight) → k < 12 → length s ≤ text_wide k → AllFit widths (texts_of f) → splice (text_at k) (padded (text_wide k) s) (record_of f) ≡ record_of (with_text k s f)
unfolding front
record_text k s f h l a =
    splice_behind (front f) (in_row widths (texts_of f) ++ replicate 27 0) (padded (text_wide k) s) 6 (start_in widths k) refl
    ∙ ap (λ (u : List ℕ). front f ++ u) (row_put widths (texts_of f) (replicate 27 0) k s a h l ∙ ap (λ (ts : List (List ℕ)). in_row widths ts ++ replicate 27 0) (sym (texts_set k s f)))

-- ONE CHANGE MORE

module _ {i : ℕ} {f : Flight} {t e : List ℕ} (m : Made i f t e) where
  changed : (g : Flight) (at : ℕ) (x u : List ℕ) → at + length x ≤ 768 → splice at x (record_of f) ≡ record_of g → AllFit widths (texts_of g) → u ≡ splice (i * 768 + at) x e → Made i g t u
  changed g at x u n q a p =
      let l : length (record_of f) ≡ 768 = record_long f m.fits in
      let h : i < places t = m.within in
      record {
        bytes = p ∙ ap (splice (i * 768 + at) x) m.bytes ∙ splice_inside (i * 768) at x (record_of f) t (omega arith) (omega arith) ∙ ap (λ (r : List ℕ). splice (i * 768) r t) q;
        fits = a;
        within = h;
      }

  pub made_text : (k : ℕ) (s u : List ℕ) → k < 12 → length s ≤ text_wide k → u ≡ splice (i * 768 + text_at k) (padded (text_wide k) s) e → Made i (with_text k s f) t u
  made_text k s u h l p =
      let n : length (padded (text_wide k) s) ≡ text_wide k = padded_length (text_wide k) s l in
      let a : AllFit widths (set (texts_of f) k s) = row_fit widths (texts_of f) k s m.fits l in
      changed (with_text k s f) (text_at k) (padded (text_wide k) s) u (omega (arith, row_within widths k)) (record_text k s f h l m.fits) (subst (AllFit widths) (sym (texts_set k s f)) a) p

  pub made_status : (s : Status) (v : ℕ) (u : List ℕ) → v ≡ status_byte s → u ≡ splice (i * 768 + 0) (v ∷ []) e → Made i (with_status s f) t u
  unfolding splice
  made_status s v u q p = changed (with_status s f) 0 (v ∷ []) u (omega arith) (λ j. q j ∷ drop 1 (record_of f)) m.fits p

  pub made_handoff : (h : Handoff) (v : ℕ) (u : List ℕ) → v ≡ handoff_byte h → u ≡ splice (i * 768 + 1) (v ∷ []) e → Made i (with_handoff h f) t u
  unfolding splice
  made_handoff h v u q p = changed (with_handoff h f) 1 (v ∷ []) u (omega arith) (λ j. status_byte f.status ∷ q j ∷ drop 2 (record_of f)) m.fits p

  pub made_offer : (n : ℕ) (u : List ℕ) → u ≡ splice (i * 768 + 4) (high n ∷ low n ∷ []) e → Made i (with_offer n f) t u
  unfolding splice
  made_offer n u p = changed (with_offer n f) 4 (high n ∷ low n ∷ []) u (omega arith) refl m.fits p

-- THE FIRST STEP

pub blank_record_lem : (s : Status) (v n : ℕ) → v ≡ status_byte s → blank_record v n ≡ record_of (blank_flight s n)
unfolding handoff_byte
blank_record_lem s v n q = λ j. q j ∷ 0 ∷ high n ∷ low n ∷ 0 ∷ 0 ∷ (replicate 735 32 ++ replicate 27 0)

pub made_begin : (i : ℕ) (s : Status) (v n : ℕ) (t e : List ℕ) → i < places t → v ≡ status_byte s → e ≡ splice (i * 768) (blank_record v n) t → Made i (blank_flight s n) t e
made_begin i s v n t e h q p = record {
  bytes = p ∙ ap (λ (r : List ℕ). splice (i * 768) r t) (blank_record_lem s v n q);
  fits = (omega arith, (omega arith, (omega arith, (omega arith, (omega arith, (omega arith, (omega arith, (omega arith, (omega arith, (omega arith, (omega arith, (omega arith, tt))))))))))));
  within = h;
}

-- a flight that stands there already
pub made_here : (i : ℕ) (f : Flight) (t : List ℕ) → i < places t → AllFit widths (texts_of f) → place i t ≡ record_of f → Made i f t t
made_here i f t h a q = record {
  bytes = sym (splice_same (i * 768) 768 t (omega arith)) ∙ ap (λ (r : List ℕ). splice (i * 768) r t) q;
  fits = a;
  within = h;
}
