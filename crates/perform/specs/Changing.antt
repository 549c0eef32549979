-- CHANGES OF THE FLIGHT AT A PLACE, one after the other: what each call wrote, as a change of the flight that stands there.
use Rattle.std.specs.Prelude.{◌≡◌, refl, List, [], ◌∷◌, ℕ, zero, suc, ◌+◌, ◌*◌, ◌≤◌, ◌<◌, length, take, set}
use Rattle.std.proofs.Common.{sym, ap, ◌∙◌, subst, arith}
use Rattle.splice.specs.Splice.{splice}
use Rattle.splice.specs.Inside.{length_splice}
use Rattle.places.specs.Bytes.{high, low}
use Rattle.excerpt.specs.Excerpt.{Starts}
use Rattle.excerpt.specs.ByKind.{Paired}
use Rattle.flights.specs.Padding.{padded, padded_length}
use Rattle.flights.specs.Flight.{Status, Handoff, Flight, status_byte, handoff_byte, widths, texts_of, nth, flight_by}
use Rattle.flights.specs.Rows.{row_within}
use Rattle.flights.specs.Table.{places}
use Rattle.flights.specs.Made.{Made, blank_flight, with_text, with_status, with_handoff, with_offer, text_at, text_wide, made_text, made_status, made_handoff, made_offer}
use Rattle.flights.specs.Flight as f
use Rattle.deeds.specs.Message.{Message}
use Rattle.deeds.specs.Deeds.{or_held, with_field, made, amended}

-- d became e: whatever table d was made from, and whatever flight then stood at place i, that flight was changed so
pub record Changes (i : ℕ) (change : Flight → Flight) (d e : List ℕ) : Type 0 where
  pub size : length e ≡ length d
  pub on : (f : Flight) (t : List ℕ) → Made i f t d → Made i (change f) t e

-- which leaves no choice where a flight was made there
pub changes_one : {i : ℕ} {change : Flight → Flight} {f : Flight} {t d e u : List ℕ} → Made i f t d → Changes i change d e → Changes i change d u → e ≡ u
changes_one {f = f} {t = t} m a b = (a.on f t m).bytes ∙ sym (b.on f t m).bytes

-- ONE AFTER THE OTHER
pub then : {i : ℕ} {g h : Flight → Flight} {d e u : List ℕ} → Changes i g d e → Changes i h e u → Changes i (λ f. h (g f)) d u
then {i} {g} {h} a b = record { size = b.size ∙ a.size; on = λ f t m. b.on (g f) t (a.on f t m) }

-- NOTHING, said as a change that leaves each flight as it is
still : {i : ℕ} (change : Flight → Flight) (d : List ℕ) → ((f : Flight) → f ≡ change f) → Changes i change d d
still {i} change d s = record { size = refl; on = λ f t m. subst (λ (g : Flight). Made i g t d) (s f) m }

-- ONE TEXT

-- it is written within the table
text_within : (i k : ℕ) (s d : List ℕ) → i < places d → length s ≤ text_wide k → i * 768 + text_at k + length (padded (text_wide k) s) ≤ length d
text_within i k s d h l = omega (arith, padded_length (text_wide k) s l, row_within widths k)

pub text_changes : (i k : ℕ) (s d e : List ℕ) → k < 12 → i < places d → length s ≤ text_wide k → e ≡ splice (i * 768 + text_at k) (padded (text_wide k) s) d → Changes i (with_text k s) d e
text_changes i k s d e b h l p = record {
  size = ap length p ∙ length_splice (i * 768 + text_at k) (padded (text_wide k) s) d (text_within i k s d h l);
  on = λ f t m. made_text m k s e b l p;
}

-- a text that was laid into a buffer
pub laid_changes : (i k n : ℕ) (s b o d e : List ℕ) → k < 12 → i < places d → length s ≤ text_wide k → Starts s b o n → e ≡ splice (i * 768 + text_at k) (padded (text_wide k) (take n o)) d → Changes i (with_text k s) d e
laid_changes i k n s b o d e c h l q p = text_changes i k s d e c h l (p ∙ ap (λ (x : List ℕ). splice (i * 768 + text_at k) (padded (text_wide k) x) d) q.bytes)

-- A TEXT WHERE IT IS GIVEN, else the one that is held

set_nth : (ts : List (List ℕ)) (k : ℕ) → ts ≡ set ts k (nth k ts)
set_nth [] k = refl
set_nth (t ∷ ts) zero = refl
set_nth (t ∷ ts) (suc k) = ap (λ (us : List (List ℕ)). t ∷ us) (set_nth ts k)

-- text k, written once more
same_text : (k : ℕ) (f : Flight) → f ≡ with_text k (nth k (texts_of f)) f
same_text k f = ap (flight_by f.status f.handoff f.first f.offer) (set_nth (texts_of f) k)

abbrev pub given_text : ℕ → List ℕ → Flight → Flight
given_text k s f = with_text k (or_held s (nth k (texts_of f))) f

pub given_changes : (i k : ℕ) (s d e : List ℕ) → k < 12 → i < places d → length s ≤ text_wide k → e ≡ with_field s (splice (i * 768 + text_at k) (padded (text_wide k) s) d) d → Changes i (given_text k s) d e
unfolding or_held with_field
given_changes i k [] d e b h l p = subst (Changes i (given_text k []) d) (sym p) (still (given_text k []) d (same_text k))
given_changes i k (x ∷ s) d e b h l p = text_changes i k (x ∷ s) d e b h l p

-- the same, laid into a buffer
pub given_laid : (i k n : ℕ) (s b o d e : List ℕ) → k < 12 → i < places d → length s ≤ text_wide k → Starts s b o n → e ≡ with_field (take n o) (splice (i * 768 + text_at k) (padded (text_wide k) (take n o)) d) d → Changes i (given_text k s) d e
given_laid i k n s b o d e c h l q p =
    given_changes i k s d e c h l (p ∙ ap (λ (x : List ℕ). with_field x (splice (i * 768 + text_at k) (padded (text_wide k) x) d) d) q.bytes)

-- A FIELD OF TWO TEXTS: text j where it is given, and then text k whether it is given or not
abbrev pub given_field : ℕ → List ℕ → ℕ → List ℕ → Flight → Flight
given_field j s k t f = let g = given_text j s f in with_text k (with_field s t (nth k (texts_of g))) g

pub field_changes : (i j k : ℕ) (s t d e : List ℕ) → j < 12 → k < 12 → i < places d → length s ≤ text_wide j → length t ≤ text_wide k → e ≡ with_field s (splice (i * 768 + text_at k) (padded (text_wide k) t) (splice (i * 768 + text_at j) (padded (text_wide j) s) d)) d → Changes i (given_field j s k t) d e
unfolding or_held with_field
field_changes i j k [] t d e a b h l m p =
    subst (Changes i (given_field j [] k t) d) (sym p) (still (given_field j [] k t) d (λ f. same_text j f ∙ same_text k (with_text j (nth j (texts_of f)) f)))
field_changes i j k (x ∷ s) t d e a b h l m p =
    let u : List ℕ = splice (i * 768 + text_at j) (padded (text_wide j) (x ∷ s)) d in
    let c : Changes i (with_text j (x ∷ s)) d u = text_changes i j (x ∷ s) d u a h l refl in
    let v : i < places u = omega (arith, c.size) in
    then c (text_changes i k t u e b v m p)

-- of texts that stand elsewhere
pub field_parts : (i j k : ℕ) (x y s t d e : List ℕ) → j < 12 → k < 12 → i < places d → length s ≤ text_wide j → length t ≤ text_wide k → x ≡ s → y ≡ t → e ≡ with_field x (splice (i * 768 + text_at k) (padded (text_wide k) y) (splice (i * 768 + text_at j) (padded (text_wide j) x) d)) d → Changes i (given_field j s k t) d e
field_parts i j k x y s t d e a b h l m u v p =
    field_changes i j k s t d e a b h l m (p ∙ (λ o. with_field (u o) (splice (i * 768 + text_at k) (padded (text_wide k) (v o)) (splice (i * 768 + text_at j) (padded (text_wide j) (u o)) d)) d))

-- whether a text is given is whether it has a length
pub kept_where_none : (s d e : List ℕ) → length s ≡ 0 → d ≡ with_field s e d
unfolding with_field
kept_where_none [] d e h = refl
kept_where_none (x ∷ s) d e h = absurd (omega arith)

pub written_where_some : (s d e : List ℕ) → (length s ≡ 0 → ⊥) → e ≡ with_field s e d
unfolding with_field
written_where_some [] d e h = absurd (h refl)
written_where_some (x ∷ s) d e h = refl

-- WHAT IS NO TEXT

byte_size : (i at : ℕ) (x d e : List ℕ) → i < places d → at + length x ≤ 768 → e ≡ splice (i * 768 + at) x d → length e ≡ length d
byte_size i at x d e h l p = ap length p ∙ length_splice (i * 768 + at) x d (omega arith)

pub status_changes : (i v : ℕ) (s : Status) (d e : List ℕ) → v ≡ status_byte s → i < places d → e ≡ splice (i * 768 + 0) (v ∷ []) d → Changes i (with_status s) d e
status_changes i v s d e q h p = record { size = byte_size i 0 (v ∷ []) d e h (omega arith) p; on = λ f t m. made_status m s v e q p }

pub handoff_changes : (i v : ℕ) (s : Handoff) (d e : List ℕ) → v ≡ handoff_byte s → i < places d → e ≡ splice (i * 768 + 1) (v ∷ []) d → Changes i (with_handoff s) d e
handoff_changes i v s d e q h p = record { size = byte_size i 1 (v ∷ []) d e h (omega arith) p; on = λ f t m. made_handoff m s v e q p }

pub offer_changes : (i n : ℕ) (d e : List ℕ) → i < places d → e ≡ splice (i * 768 + 4) (high n ∷ low n ∷ []) d → Changes i (with_offer n) d e
offer_changes i n d e h p = record { size = byte_size i 4 (high n ∷ low n ∷ []) d e h (omega arith) p; on = λ f t m. made_offer m n e p }

-- A NEW FLIGHT: where no text is held, each field that is there makes it the flight of the message

or_none : (s : List ℕ) → or_held s [] ≡ s
unfolding or_held
or_none [] = refl
or_none (x ∷ s) = refl

field_none : (s t : List ℕ) → (s ≡ [] → t ≡ []) → with_field s t [] ≡ t
unfolding with_field
field_none [] t h = sym (h refl)
field_none (x ∷ s) t h = refl

amended_blank : (s : Status) (m : Message) → Paired m.own → amended m.own (blank_flight s m.number) ≡ made s [] m
amended_blank s m p =
    let t = m.own in
    λ i. record {
      status = s;
      handoff = f.none;
      first = m.number;
      offer = 0;
      aircraft = or_none t.aircraft i;
      code = field_none t.aircraft t.code p.code i;
      departure = or_none t.departure i;
      time = field_none t.departure t.time p.time i;
      destination = or_none t.destination i;
      field08 = or_none t.field08 i;
      field09 = or_none t.field09 i;
      field10 = or_none t.field10 i;
      field14 = [];
      rest16 = field_none t.destination t.rest16 p.rest16 i;
      field15 = or_none t.field15 i;
      field18 = or_none t.field18 i;
    }

pub filed_anew : {i : ℕ} {t d e : List ℕ} (s : Status) (m : Message) → Paired m.own → Made i (blank_flight s m.number) t d → Changes i (amended m.own) d e → Made i (made s [] m) t e
filed_anew {i} {t} {d} {e} s m p b a = subst (λ (f : Flight). Made i f t e) (amended_blank s m p) (a.on (blank_flight s m.number) t b)
