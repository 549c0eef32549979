-- WHAT A TABLE IS ONCE A MESSAGE WAS DONE at one of its places.
use Rattle.std.specs.Prelude.{◌≡◌, ◌⊎◌, true, false, ℕ, ◌+◌, ◌*◌, ◌/◌, ◌≤◌, ◌<◌, length}
use Rattle.std.proofs.Math.Path.{refl, ap, subst}
use Rattle.std.proofs.Common.{sym, ◌∙◌, inl, inr, arith}
use Rattle.std.proofs.lemmas.Bool.{false≢true}
use mathlib.Core.List.{List, []}
use Rattle.std.proofs.Math.Option.{Option, none, some}
use Rattle.std.proofs.lemmas.List.{length-replicate}
use Rattle.splice.specs.Splice.{splice}
use Rattle.splice.specs.Inside.{length_splice, splice_there, splice_over}
use Rattle.places.specs.Places.{set, Every, every_of}
use Rattle.places.specs.Forms.{bytes_or}
use Rattle.places.specs.Stored.{Fits, get_places, bytes_set}
use Rattle.flights.specs.Flight as f
use Rattle.flights.specs.Flight.{Status, filed, active, Handoff, offered, accepted, Flight, widths, texts_of, record_of, free_record, Offered, Sound, WellFormed}
use Rattle.flights.specs.Records.{texts_neat}
use Rattle.flights.specs.Rows.{AllFit, neat_fit}
use Rattle.flights.specs.Table.{places, place}
use Rattle.flights.specs.Formed.{TableFormed}
use Rattle.flights.specs.Decoded.{read_flight, flight_form, flights_in, table_of, record_long, read_record_lem, table_back, flights_many}
use Rattle.flights.specs.Made.{Made, made_here}
use Rattle.deeds.specs.declared.Deed.{Deed}
use Rattle.deeds.specs.declared.Deed.TheVariants.{Files, Enters, Amends, Estimates, Cancels, Offers, Retracts, Accepts, Nothing}
use Rattle.deeds.specs.Message.{Message}
use Rattle.deeds.specs.Deeds.{deed_of, makes, made, amended, estimated, handed_off, becomes_on, begins, becomes}
use Rattle.deeds.specs.Applying.{done_at}
use Rattle.perform.specs.Changing.{Changes}
use Rattle.places.specs.Bytes.{free}

-- the bytes of a place: free, or the record of a flight that fits and that is read off it again
abbrev pub Held : List ℕ → Type 0
Held b = (b ≡ free_record) ⊎ ((f : Flight) × (b ≡ record_of f) × AllFit widths (texts_of f) × (read_flight b ≡ some f))

-- place i of t was made to hold y, and t so became e
pub record Written (i : ℕ) (y : Option Flight) (t e : List ℕ) : Type 0 where
  pub bytes : e ≡ splice (i * 768) (bytes_or flight_form y) t
  pub fits : Fits flight_form y

-- which leaves no choice
pub written_one : {i : ℕ} {y : Option Flight} {t d e : List ℕ} → Written i y t d → Written i y t e → d ≡ e
written_one p q = p.bytes ∙ sym q.bytes

-- WHAT IS HELD

pub sound_fit : (x : Flight) → Sound x → AllFit widths (texts_of x)
sound_fit x s = neat_fit widths (texts_of x) (texts_neat x s)

pub formed_held : (b : List ℕ) → WellFormed b → Held b
formed_held b (inl e) = inl e
formed_held b (inr u) = inr (u.0, u.1, sound_fit u.0 u.2, ap read_flight u.1 ∙ read_record_lem u.0 u.2)

free_fits : Fits flight_form none
free_fits = length-replicate {A = ℕ} 768 0

pub held_fits : (b : List ℕ) → Held b → Fits flight_form (read_flight b)
held_fits b (inl e) = subst (λ (x : List ℕ). Fits flight_form (read_flight x)) (sym e) free_fits
held_fits b (inr u) = subst (Fits flight_form) (sym u.3) (record_long u.0 u.2)

-- THE FLIGHTS OF THE TABLE, once place i was written
pub performed : (t e : List ℕ) (i : ℕ) (y : Option Flight) → TableFormed t → i < places t → Written i y t e → e ≡ table_of (set i y (flights_in t))
performed t e i y k h w =
    let n : length (flights_in t) ≡ places t = flights_many t in
    let a : Every (Fits flight_form) (flights_in t) = every_of (Fits flight_form) (flights_in t) (λ j l. let m : j < places t = omega arith in subst (Fits flight_form) (sym (get_places flight_form j (places t) t m)) (held_fits (place j t) (formed_held (place j t) (k.each j m)))) in
    w.bytes ∙ ap (splice (i * 768) (bytes_or flight_form y)) (sym (table_back t k)) ∙ sym (bytes_set flight_form i y (flights_in t) (omega arith) w.fits a)

-- as the message says
pub done_flights : (t e : List ℕ) (i : ℕ) (m : Message) → TableFormed t → i < places t → Written i (becomes (deed_of m) m (read_flight (place i t))) t e → e ≡ table_of (done_at i m (flights_in t))
done_flights t e i m k h w =
    performed t e i _ k h w ∙ ap (λ (x : Option Flight). table_of (set i (becomes (deed_of m) m x) (flights_in t))) (sym (get_places flight_form i (places t) t h))

-- THE PLACE, once it was written
module _ {i : ℕ} {y : Option Flight} {t e : List ℕ} (h : i < places t) (w : Written i y t e) where
  within : i * 768 + length (bytes_or flight_form y) ≤ length t
  within = omega (arith, w.fits)

  pub long_after : length e ≡ length t
  long_after = ap length w.bytes ∙ length_splice (i * 768) (bytes_or flight_form y) t within

  pub places_after : places e ≡ places t
  places_after = ap (λ (k : ℕ). k / 768) long_after

  pub place_after : place i e ≡ bytes_or flight_form y
  place_after = ap (place i) w.bytes ∙ splice_there (i * 768) 768 (bytes_or flight_form y) t (omega arith) w.fits

-- the place then holds the flight that was written
pub held_after : (i : ℕ) (g : Flight) (t e : List ℕ) → i < places t → Written i (some g) t e → AllFit widths (texts_of g) → read_flight (record_of g) ≡ some g → Held (place i e) × (read_flight (place i e) ≡ some g)
held_after i g t e h w a r =
    let p : place i e ≡ record_of g = place_after h w in
    let q : read_flight (place i e) ≡ some g = ap read_flight p ∙ r in
    (inr (g, p, a, q), q)

pub sound_after : (i : ℕ) (g : Flight) (t e : List ℕ) → i < places t → Written i (some g) t e → Sound g → Held (place i e) × (read_flight (place i e) ≡ some g)
sound_after i g t e h w s = held_after i g t e h w (sound_fit g s) (read_record_lem g s)

-- written twice, it is as if the second alone had been written
pub written_over : (i : ℕ) (y z : Option Flight) (t e u : List ℕ) → i < places t → Written i y t e → Written i z e u → Written i z t u
written_over i y z t e u h a b = record {
  bytes = b.bytes ∙ ap (splice (i * 768) (bytes_or flight_form z)) a.bytes ∙ splice_over (i * 768) (bytes_or flight_form z) (bytes_or flight_form y) t (b.fits ∙ sym a.fits) (omega (arith, a.fits));
  fits = b.fits;
}

-- A HANDOFF of an active flight leaves it sound
module _ (x : Flight) (n : ℕ) (s : Sound x) (a : x.status ≡ active) (l : n ≤ 999) where
  handed_sound : (h : Handoff) → Sound (handed_off h n x)
  handed_sound h = record {
    first = s.first;
    offer = subst (λ (o : Status). Offered o h n) (sym a) l;
    aircraft = s.aircraft;
    code = s.code;
    departure = s.departure;
    time = s.time;
    destination = s.destination;
    field08 = s.field08;
    field09 = s.field09;
    field10 = s.field10;
    field14 = s.field14;
    rest16 = s.rest16;
    field15 = s.field15;
    field18 = s.field18;
  }

  pub offered_sound : Sound (handed_off offered n x)
  offered_sound = handed_sound offered

  pub accepted_sound : Sound (handed_off accepted n x)
  accepted_sound = handed_sound accepted

  pub none_sound : Sound (handed_off f.none n x)
  none_sound = handed_sound f.none

-- WHAT A DEED WROTE

-- a flight that is there
used_held : (b : List ℕ) → Held b → free b ≡ false → (x : Flight) × (b ≡ record_of x) × AllFit widths (texts_of x) × (read_flight b ≡ some x)
used_held b (inl e) n = absurd (false≢true (sym n ∙ ap free e))
used_held b (inr u) n = u

-- none
free_reads : (b : List ℕ) → free b ≡ true → read_flight b ≡ none
free_reads b e = rw e

made_written : {i : ℕ} {g : Flight} {t e : List ℕ} (y : Option Flight) → y ≡ some g → Made i g t e → Written i y t e
made_written {i} {g} {t} {e} y q m = subst (λ (x : Option Flight). Written i x t e) (sym q) (record { bytes = m.bytes; fits = record_long g m.fits })

module _ (i : ℕ) (m : Message) (t e : List ℕ) (d : Deed) (h : i < places t) (k : Held (place i t)) (q : makes d ≡ free (place i t)) where
  -- a new flight
  begun : (o : Deed) (g : Flight) → makes o ≡ true → begins o m ≡ some g → d ≡ o → Made i g t e → Written i (becomes d m (read_flight (place i t))) t e
  unfolding becomes
  begun o g u b v a =
      let r : read_flight (place i t) ≡ none = free_reads (place i t) (sym q ∙ ap makes v ∙ u) in
      made_written _ ((λ j. becomes (v j) m (r j)) ∙ b) a

  -- a flight that is changed
  changed : (o : Deed) (change : Flight → Flight) → makes o ≡ false → ((x : Flight) → becomes_on o m x ≡ some (change x)) → d ≡ o → Changes i change t e → Written i (becomes d m (read_flight (place i t))) t e
  unfolding becomes
  changed o change u b v a =
      let x = used_held (place i t) k (sym q ∙ ap makes v ∙ u) in
      made_written _ ((λ j. becomes (v j) m (x.3 j)) ∙ b x.0) (a.on x.0 t (made_here i x.0 t h x.2 x.1))

  pub filed_written : d ≡ Files → Made i (made filed [] m) t e → Written i (becomes d m (read_flight (place i t))) t e
  unfolding makes begins
  filed_written v a = begun Files (made filed [] m) refl refl v a

  pub entered_written : d ≡ Enters → Made i (made active m.field14 m) t e → Written i (becomes d m (read_flight (place i t))) t e
  unfolding makes begins
  entered_written v a = begun Enters (made active m.field14 m) refl refl v a

  pub amended_written : d ≡ Amends → Changes i (amended m.changes) t e → Written i (becomes d m (read_flight (place i t))) t e
  unfolding makes becomes_on
  amended_written v a = changed Amends (amended m.changes) refl (λ x. refl) v a

  pub estimated_written : d ≡ Estimates → Changes i (estimated m.field14) t e → Written i (becomes d m (read_flight (place i t))) t e
  unfolding makes becomes_on
  estimated_written v a = changed Estimates (estimated m.field14) refl (λ x. refl) v a

  pub offered_written : d ≡ Offers → Changes i (handed_off offered m.number) t e → Written i (becomes d m (read_flight (place i t))) t e
  unfolding makes becomes_on
  offered_written v a = changed Offers (handed_off offered m.number) refl (λ x. refl) v a

  pub retracted_written : d ≡ Retracts → Changes i (λ x. handed_off f.none x.offer x) t e → Written i (becomes d m (read_flight (place i t))) t e
  unfolding makes becomes_on
  retracted_written v a = changed Retracts (λ x. handed_off f.none x.offer x) refl (λ x. refl) v a

  pub accepted_written : d ≡ Accepts → Changes i (λ x. handed_off accepted x.offer x) t e → Written i (becomes d m (read_flight (place i t))) t e
  unfolding makes becomes_on
  accepted_written v a = changed Accepts (λ x. handed_off accepted x.offer x) refl (λ x. refl) v a

  -- the place is free
  pub cancelled_written : d ≡ Cancels → e ≡ splice (i * 768) free_record t → Written i (becomes d m (read_flight (place i t))) t e
  unfolding makes becomes_on becomes
  cancelled_written v p =
      let x = used_held (place i t) k (sym q ∙ ap makes v) in
      let z : becomes d m (read_flight (place i t)) ≡ none = λ j. becomes (v j) m (x.3 j) in
      subst (λ (y : Option Flight). Written i y t e) (sym z) (record { bytes = p; fits = free_fits })

  -- nothing was done
  pub nothing_written : d ≡ Nothing → e ≡ t → Written i (becomes d m (read_flight (place i t))) t e
  unfolding makes becomes_on becomes
  nothing_written v p =
      let x = used_held (place i t) k (sym q ∙ ap makes v) in
      made_written _ (λ j. becomes (v j) m (x.3 j)) (subst (Made i x.0 t) (sym p) (made_here i x.0 t h x.2 x.1))
