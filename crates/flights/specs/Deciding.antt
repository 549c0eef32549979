-- Whether a record is that of a flight, by its status.
use Rattle.std.specs.Prelude.{◌≡◌, refl, Bool, false, List, ℕ, zero, suc, ◌-◌, ◌≤◌, length, get_or, take, drop, replicate}
use Rattle.std.proofs.Math.Path.{sym, ap, subst}
use Rattle.std.proofs.Common.{◌∙◌, inl, inr, ⊎_elim, arith, length-append, length-drop, take_all}
use Rattle.std.proofs.lemmas.Bool.{false≢true}
use Rattle.std.proofs.lemmas.List.{length-replicate}
use Rattle.scan.specs.Bools.{Decides, decides_as, decides_by}
use Rattle.flights.specs.Padding.{in_row, row_length}
use Rattle.places.specs.Bytes.{each, each_is, number_at}
use Rattle.flights.specs.Flight.{Status, filed, active, Handoff, none, offered, accepted, Flight, status_byte, handoff_byte, status_of, handoff_of, widths, texts_of, record_of, flight_of, Timed, Estimated, Offered, Sound, WellFormed}
use Rattle.flights.specs.Records.{texts_neat}
use Rattle.flights.specs.Checked.{Shaped, Used, Texts, Filed, Active, record_shaped}

abbrev pub Common : List ℕ → Type 0
Common b = ((number_at 2 b ≤ 999) × Texts (flight_of b)) × (drop 741 b ≡ replicate 27 0)

pub rest_on : (b : List ℕ) → length b ≡ 768 → (t : Bool) → t ≡ each 0 (take (768 - 741) (drop 741 b)) → Decides t (drop 741 b ≡ replicate 27 0)
rest_on b n t e =
    let l : length (drop 741 b) ≡ 27 = omega (arith, length-drop 741 b) in
    let u : take (768 - 741) (drop 741 b) ≡ drop 741 b = take_all (768 - 741) (drop 741 b) (omega arith) in
    decides_as (λ p. p ∙ ap (λ (k : ℕ). replicate k 0) l) (λ p. p ∙ ap (λ (k : ℕ). replicate k 0) (sym l)) (decides_by (e ∙ ap (each 0) u) (each_is 0 (drop 741 b)))

small : (h : Handoff) → handoff_byte h ≤ 2
unfolding handoff_byte
small none = omega arith
small offered = omega arith
small accepted = omega arith

handoff_same : (n : ℕ) → n ≤ 2 → handoff_byte (handoff_of n) ≡ n
unfolding handoff_byte handoff_of
handoff_same zero h = refl
handoff_same (suc zero) h = refl
handoff_same (suc (suc zero)) h = refl
handoff_same (suc (suc (suc n))) h = absurd (omega arith)

none_byte : handoff_byte none ≡ 0
unfolding handoff_byte
none_byte = refl

filed_byte : status_byte filed ≡ 1
unfolding status_byte
filed_byte = refl

active_byte : status_byte active ≡ 2
unfolding status_byte
active_byte = refl

module _ (b : List ℕ) where
  one_filed : get_or b 0 0 ≡ 1 → status_of (get_or b 0 0) ≡ filed
  unfolding status_of
  one_filed e = ap status_of e

  one_same : get_or b 0 0 ≡ 1 → status_byte (status_of (get_or b 0 0)) ≡ get_or b 0 0
  unfolding status_of status_byte
  one_same e = ap (λ (k : ℕ). status_byte (status_of k)) e ∙ sym e

  two_active : get_or b 0 0 ≡ 2 → status_of (get_or b 0 0) ≡ active
  unfolding status_of
  two_active e = ap status_of e

  two_same : get_or b 0 0 ≡ 2 → status_byte (status_of (get_or b 0 0)) ≡ get_or b 0 0
  unfolding status_of status_byte
  two_same e = ap (λ (k : ℕ). status_byte (status_of k)) e ∙ sym e

  -- what every flight has, and what a status asks
  sound_with : number_at 2 b ≤ 999 → Texts (flight_of b) → Offered (status_of (get_or b 0 0)) (handoff_of (get_or b 1 0)) (number_at 4 b) → Timed (status_of (get_or b 0 0)) (flight_of b).time → Estimated (status_of (get_or b 0 0)) (flight_of b).field14 → Sound (flight_of b)
  sound_with n t o m e = record {
    first = n;
    offer = o;
    aircraft = t.0.0.0.0.0.0.0.0.0;
    code = t.0.0.0.0.0.0.0.0.1;
    departure = t.0.0.0.0.0.0.0.1;
    time = m;
    destination = t.0.0.0.0.0.0.1;
    field08 = t.0.0.0.0.0.1;
    field09 = t.0.0.0.0.1;
    field10 = t.0.0.0.1;
    field14 = e;
    rest16 = t.0.0.1;
    field15 = t.0.1;
    field18 = t.1;
  }

  common_of : Shaped b → Sound (flight_of b) → Common b
  common_of p s = ((s.first, (((((((((s.aircraft, s.code), s.departure), s.destination), s.field08), s.field09), s.field10), s.rest16), s.field15), s.field18)), p.rest)

  pub filed_is : get_or b 0 0 ≡ 1 → (t : Bool) → Decides t (Common b × Filed b) → Decides t (Shaped b × Sound (flight_of b))
  unfolding handoff_of
  filed_is e t =
      let q = one_filed e in
      decides_as
      (λ p.
      let c = p.0 in
      let f = p.1 in
      let h : handoff_of (get_or b 1 0) ≡ none = ap handoff_of f.0.0.0 in (
        record { status = one_same e; handoff = ap handoff_byte h ∙ none_byte ∙ sym f.0.0.0; rest = c.1 },
        sound_with c.0.0 c.0.1
            (subst (λ (s : Status). Offered s (handoff_of (get_or b 1 0)) (number_at 4 b)) (sym q) (h, f.0.0.1))
            (subst (λ (s : Status). Timed s (flight_of b).time) (sym q) f.0.1)
            (subst (λ (s : Status). Estimated s (flight_of b).field14) (sym q) f.1),
      ))
      (λ p.
      let s = p.1 in
      let o = subst (λ (x : Status). Offered x (handoff_of (get_or b 1 0)) (number_at 4 b)) q s.offer in (
        common_of p.0 s,
        (((sym p.0.handoff ∙ ap handoff_byte o.0 ∙ none_byte, o.1), subst (λ (x : Status). Timed x (flight_of b).time) q s.time), subst (λ (x : Status). Estimated x (flight_of b).field14) q s.field14),
      ))

  pub active_is : get_or b 0 0 ≡ 2 → (t : Bool) → Decides t (Common b × Active b) → Decides t (Shaped b × Sound (flight_of b))
  active_is e t =
      let q = two_active e in
      decides_as
      (λ p.
      let c = p.0 in
      let f = p.1 in (
        record { status = two_same e; handoff = handoff_same (get_or b 1 0) f.0.0.0; rest = c.1 },
        sound_with c.0.0 c.0.1
            (subst (λ (s : Status). Offered s (handoff_of (get_or b 1 0)) (number_at 4 b)) (sym q) f.0.0.1)
            (subst (λ (s : Status). Timed s (flight_of b).time) (sym q) f.0.1)
            (subst (λ (s : Status). Estimated s (flight_of b).field14) (sym q) f.1),
      ))
      (λ p.
      let s = p.1 in (
        common_of p.0 s,
        (((omega (arith, p.0.handoff, small (handoff_of (get_or b 1 0))), subst (λ (x : Status). Offered x (handoff_of (get_or b 1 0)) (number_at 4 b)) q s.offer), subst (λ (x : Status). Timed x (flight_of b).time) q s.time), subst (λ (x : Status). Estimated x (flight_of b).field14) q s.field14),
      ))

  -- no flight has another status
  pub other_status : (get_or b 0 0 ≡ 1 → ⊥) → (get_or b 0 0 ≡ 2 → ⊥) → Decides false (Used b)
  other_status n m = record { yes = λ e. absurd (false≢true e); no = λ u. absurd (go (status_of (get_or b 0 0)) (subst Shaped (sym u.1) (record_shaped u.0 u.2)).status) }
    where
      go : (s : Status) → status_byte s ≡ get_or b 0 0 → ⊥
      go filed e = n (sym e ∙ filed_byte)
      go active e = m (sym e ∙ active_byte)

-- WELL FORMED

record_long : (f : Flight) → Sound f → length (record_of f) ≡ 768
record_long f s = omega (arith, length-append (in_row widths (texts_of f)) (replicate 27 0), row_length widths (texts_of f) (texts_neat f s), length-replicate {A = ℕ} 27 0)

pub wrong_length : (b : List ℕ) → (length b ≡ 768 → ⊥) → Decides false (WellFormed b)
wrong_length b n = record {
  yes = λ e. absurd (false≢true e);
  no = λ w. absurd (n (⊎_elim (λ e. ap length e ∙ length-replicate {A = ℕ} 768 0) (λ u. ap length u.1 ∙ record_long u.0 u.2) w));
}

-- a record whose status is 0 can only be free
pub free_is : (b : List ℕ) → length b ≡ 768 → get_or b 0 0 ≡ 0 → (t : Bool) → t ≡ each 0 b → Decides t (WellFormed b)
free_is b n z t e =
    decides_as
    (λ p. inl (p ∙ ap (λ (k : ℕ). replicate k 0) n))
    (λ w. ⊎_elim (λ p. p ∙ ap (λ (k : ℕ). replicate k 0) (sym n)) (λ u. absurd (no_status u.0.status (sym (ap (λ (x : List ℕ). get_or x 0 0) u.1) ∙ z))) w)
    (decides_by e (each_is 0 b))
  where
    no_status : (s : Status) → status_byte s ≡ 0 → ⊥
    no_status filed h = omega (arith, filed_byte, h)
    no_status active h = omega (arith, active_byte, h)

-- and one whose status is another is that of a flight
pub flight_is : (b : List ℕ) → (get_or b 0 0 ≡ 0 → ⊥) → (t : Bool) → Decides t (Used b) → Decides t (WellFormed b)
flight_is b z t = decides_as (λ u. inr u) (λ w. ⊎_elim (λ p. absurd (z (ap (λ (x : List ℕ). get_or x 0 0) p))) (λ u. u) w)
