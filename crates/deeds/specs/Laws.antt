-- What the code looks at, against what a message says: its parts, the bytes of a flight's record, and the conditions.
use Rattle.std.specs.Prelude.{◌≡◌, Bool, true, ◌&&◌, ℕ, ◌+◌, ◌≤◌, length, get_or, drop}
use Rattle.std.proofs.Math.Path.{refl, sym}
use Rattle.std.proofs.Common.{ap, ◌∙◌, arith, length-drop, length-take-le, eqb-true, ne_eqb}
use Rattle.std.proofs.Math.Bool.{false, cond, not}
use Rattle.std.proofs.Math.Option.{Option}
use mathlib.Core.List.{List, [], ◌∷◌}
use Rattle.std.proofs.Math.Dec.{eqb}
use Rattle.scan.specs.Grammar.{place_of, size_of, Span}
use Rattle.fields.specs.Names as n
use Rattle.message.specs.declared.Kind.{Kind}
use Rattle.message.specs.declared.Kind.TheVariants.{None, Fpl, Cpl, Est, Chg, Cnl, Rti, Rta, Rla, Lam, Lrm}
use Rattle.message.specs.declared.Verdict.TheVariants.{Read}
use Rattle.message.specs.declared.Record.{Record}
use Rattle.reader.specs.Reading.{cut, Judged, cut_none}
use Rattle.reader.proofs.Judging.{words_within}
use Rattle.places.specs.Bytes.{same, number_at}
use Rattle.flights.specs.Flight as f
use Rattle.flights.specs.Flight.{Flight, filed, active, offered, accepted, status_of, handoff_of, flight_of}
use Rattle.deeds.specs.declared.Deed.{Deed}
use Rattle.deeds.specs.declared.Deed.TheVariants.{Files, Enters, Amends, Estimates, Cancels, Offers, Retracts, Accepts, Nothing}
use Rattle.deeds.specs.Message.{Message}
use Rattle.deeds.specs.Deeds.{in_order, turned, rta_deed, deed_by, or_held, is_filed, is_calm, is_offered, refers, code_fits, is_offer, may_on}
use Rattle.places.specs.Places.{is_free as is_none}

-- THE PARTS OF A MESSAGE THAT WAS READ lie within its text

abbrev pub Within : List ℕ → Span → Type 0
Within w p = place_of p + size_of p ≤ length w

module _ (w : List ℕ) (r : Record) (j : Judged w Read r) where
  pub sender_in : Within w r.parts.number.sender
  sender_in = words_within w Read r (λ x. x.parts.number.sender) (λ f. (n.sender, refl)) refl j

  pub receiver_in : Within w r.parts.number.receiver
  receiver_in = words_within w Read r (λ x. x.parts.number.receiver) (λ f. (n.receiver, refl)) refl j

  pub reference_sender_in : Within w r.parts.reference.sender
  reference_sender_in = words_within w Read r (λ x. x.parts.reference.sender) (λ f. (n.reference_sender, refl)) refl j

  pub reference_receiver_in : Within w r.parts.reference.receiver
  reference_receiver_in = words_within w Read r (λ x. x.parts.reference.receiver) (λ f. (n.reference_receiver, refl)) refl j

  pub aircraft_in : Within w r.parts.own.aircraft
  aircraft_in = words_within w Read r (λ x. x.parts.own.aircraft) (λ f. (n.aircraft, refl)) refl j

  pub code_in : Within w r.parts.own.code
  code_in = words_within w Read r (λ x. x.parts.own.code) (λ f. (n.code, refl)) refl j

  pub departure_in : Within w r.parts.own.departure
  departure_in = words_within w Read r (λ x. x.parts.own.departure) (λ f. (n.departure, refl)) refl j

  pub destination_in : Within w r.parts.own.destination
  destination_in = words_within w Read r (λ x. x.parts.own.destination) (λ f. (n.destination, refl)) refl j

  -- the one of a field 22, and the message's own
  pub aircrafts_in : Within w r.parts.changes.aircraft × Within w r.parts.own.aircraft
  aircrafts_in = (words_within w Read r (λ x. x.parts.changes.aircraft) (λ f. (n.amended + n.aircraft, refl)) refl j, aircraft_in)

  pub departures_in : Within w r.parts.changes.departure × Within w r.parts.own.departure
  departures_in = (words_within w Read r (λ x. x.parts.changes.departure) (λ f. (n.amended + n.departure, refl)) refl j, departure_in)

  pub destinations_in : Within w r.parts.changes.destination × Within w r.parts.own.destination
  destinations_in = (words_within w Read r (λ x. x.parts.changes.destination) (λ f. (n.amended + n.destination, refl)) refl j, destination_in)

-- two texts that are those of two parts
pub same_on : {b : Bool} {x y s t : List ℕ} → b ≡ same x y → x ≡ s → y ≡ t → b ≡ same s t
same_on e p q = e ∙ (λ k. same (p k) (q k))

-- A PART IS GIVEN exactly where it has a length

cut_some : (w : List ℕ) (p : Span) → Within w p → (size_of p ≡ 0 → ⊥) → length (cut w p) ≡ 0 → ⊥
cut_some w p i h e = h (sym (length-take-le (size_of p) (drop (place_of p) w) (omega (arith, i, length-drop (place_of p) w))) ∙ e)

or_some : (c h : List ℕ) → (length c ≡ 0 → ⊥) → c ≡ or_held c h
unfolding or_held
or_some [] h e = absurd (e refl)
or_some (x ∷ c) h e = refl

fits_some : (c h : List ℕ) → (length c ≡ 0 → ⊥) → same c h ≡ code_fits c h
unfolding code_fits
fits_some [] h e = absurd (e refl)
fits_some (x ∷ c) h e = refl

module _ (w : List ℕ) (p : Span) (h : List ℕ) where
  pub none_given : size_of p ≡ 0 → h ≡ or_held (cut w p) h
  unfolding or_held
  none_given e = sym (ap (λ (c : List ℕ). or_held c h) (cut_none w p e))

  pub one_given : Within w p → (size_of p ≡ 0 → ⊥) → cut w p ≡ or_held (cut w p) h
  one_given i e = or_some (cut w p) h (cut_some w p i e)

  pub no_code : size_of p ≡ 0 → true ≡ code_fits (cut w p) h
  unfolding code_fits
  no_code e = sym (ap (λ (c : List ℕ). code_fits c h) (cut_none w p e))

  pub code_given : Within w p → (size_of p ≡ 0 → ⊥) → same (cut w p) h ≡ code_fits (cut w p) h
  code_given i e = fits_some (cut w p) h (cut_some w p i e)

-- WHICH DEED IT IS

module _ (m : Message) where
  pub retracts : (b : Bool) → b ≡ in_order m → b ≡ true → Retracts ≡ rta_deed m
  unfolding rta_deed
  retracts b e t = sym (ap (λ (x : Bool). cond x Retracts (cond (turned m) Accepts Nothing)) (sym e ∙ t))

  -- out of order, it is by the other way round
  pub turns : (b c v : Bool) → b ≡ in_order m → b ≡ false → c ≡ turned m → c ≡ v → cond v Accepts Nothing ≡ rta_deed m
  unfolding rta_deed
  turns b c v e t g u = sym (λ k. cond ((sym e ∙ t) k) Retracts (cond ((sym g ∙ u) k) Accepts Nothing))

by_rta : (a b : Bool) → cond a Retracts (cond b Accepts Nothing) ≡ Amends → ⊥
by_rta true b e = let z : ◌≡◌ {A = ℕ} 0 1 = cc in omega arith
by_rta false true e = let z : ◌≡◌ {A = ℕ} 0 1 = cc in omega arith
by_rta false false e = let z : ◌≡◌ {A = ℕ} 0 1 = cc in omega arith

-- only a CHG amends
pub amends_chg : (k : Kind) (m : Message) → deed_by k m ≡ Amends → k ≡ Chg
unfolding deed_by rta_deed
amends_chg None m e = cc
amends_chg Fpl m e = cc
amends_chg Cpl m e = cc
amends_chg Est m e = cc
amends_chg Chg m e = refl
amends_chg Cnl m e = cc
amends_chg Rti m e = cc
amends_chg Rta m e = absurd (by_rta (in_order m) (turned m) e)
amends_chg Rla m e = cc
amends_chg Lam m e = cc
amends_chg Lrm m e = cc

-- THE FIRST TWO BYTES OF A RECORD

filed_by_lem : (t : Bool) → is_filed (cond t filed active) ≡ t
unfolding is_filed
filed_by_lem true = refl
filed_by_lem false = refl

calm_by : (t u : Bool) → is_calm (cond t f.none (cond u offered accepted)) ≡ t
unfolding is_calm
calm_by true u = refl
calm_by false true = refl
calm_by false false = refl

offered_by : (t u : Bool) → (t ≡ true → u ≡ false) → is_offered (cond t f.none (cond u offered accepted)) ≡ u
unfolding is_offered
offered_by true u h = sym (h refl)
offered_by false true h = refl
offered_by false false h = refl

pub filed_is : (b : ℕ) → is_filed (status_of b) ≡ eqb b 1
unfolding status_of
filed_is b = filed_by_lem (eqb b 1)

pub calm_is : (b : ℕ) → is_calm (handoff_of b) ≡ eqb b 0
unfolding handoff_of
calm_is b = calm_by (eqb b 0) (eqb b 1)

pub offered_is : (b : ℕ) → is_offered (handoff_of b) ≡ eqb b 1
unfolding handoff_of
offered_is b = offered_by (eqb b 0) (eqb b 1) (λ z. ne_eqb b 1 (λ e. omega (arith, e, eqb-true b 0 z)))

-- WHEN A DEED MAY BE DONE on the record a, which is the bytes b that were looked at; y is the flight under the new key

module _ (d : Deed) (m : Message) (a b : List ℕ) (s : b ≡ a) (y : Option Flight) where
  onto : (e : Deed) → d ≡ e → (x : Bool) → x ≡ may_on e m (flight_of b) y → x ≡ may_on d m (flight_of a) y
  onto e h x p = p ∙ (λ k. may_on (sym h k) m (flight_of (s k)) y)

  pub may_file : d ≡ Files → false ≡ may_on d m (flight_of a) y
  unfolding may_on
  may_file h = onto Files h false refl

  pub may_enter : d ≡ Enters → false ≡ may_on d m (flight_of a) y
  unfolding may_on
  may_enter h = onto Enters h false refl

  pub may_nothing : d ≡ Nothing → false ≡ may_on d m (flight_of a) y
  unfolding may_on
  may_nothing h = onto Nothing h false refl

  pub may_amend : d ≡ Amends → (p q : Bool) → p ≡ refers m (flight_of b) → q ≡ is_none y → (eqb (get_or b 0 0) 1 && p) && q ≡ may_on d m (flight_of a) y
  unfolding may_on
  may_amend h p q u v = onto Amends h ((eqb (get_or b 0 0) 1 && p) && q) (λ k. (sym (filed_is (get_or b 0 0)) k && u k) && v k)

  pub may_estimate : d ≡ Estimates → (p q : Bool) → p ≡ refers m (flight_of b) → q ≡ code_fits m.own.code (flight_of b).code → (eqb (get_or b 0 0) 1 && p) && q ≡ may_on d m (flight_of a) y
  unfolding may_on
  may_estimate h p q u v = onto Estimates h ((eqb (get_or b 0 0) 1 && p) && q) (λ k. (sym (filed_is (get_or b 0 0)) k && u k) && v k)

  pub may_cancel : d ≡ Cancels → (p : Bool) → p ≡ refers m (flight_of b) → not (eqb (get_or b 1 0) 1) && p ≡ may_on d m (flight_of a) y
  unfolding may_on
  may_cancel h p u = onto Cancels h (not (eqb (get_or b 1 0) 1) && p) (λ k. not (sym (offered_is (get_or b 1 0)) k) && u k)

  pub may_offer : d ≡ Offers → (p q : Bool) → p ≡ refers m (flight_of b) → q ≡ code_fits m.own.code (flight_of b).code → ((not (eqb (get_or b 0 0) 1) && eqb (get_or b 1 0) 0) && p) && q ≡ may_on d m (flight_of a) y
  unfolding may_on
  may_offer h p q u v =
      onto Offers h (((not (eqb (get_or b 0 0) 1) && eqb (get_or b 1 0) 0) && p) && q)
      (λ k. ((not (sym (filed_is (get_or b 0 0)) k) && sym (calm_is (get_or b 1 0)) k) && u k) && v k)

  offer_on : (x : Bool) → x ≡ (eqb (get_or b 1 0) 1 && eqb m.reference (number_at 4 b)) → x ≡ is_offer m (flight_of b)
  offer_on x u = u ∙ (λ k. sym (offered_is (get_or b 1 0)) k && eqb m.reference (number_at 4 b))

  pub may_retract : d ≡ Retracts → (x : Bool) → x ≡ (eqb (get_or b 1 0) 1 && eqb m.reference (number_at 4 b)) → x ≡ may_on d m (flight_of a) y
  unfolding may_on
  may_retract h x u = onto Retracts h x (offer_on x u)

  pub may_accept : d ≡ Accepts → (x : Bool) → x ≡ (eqb (get_or b 1 0) 1 && eqb m.reference (number_at 4 b)) → x ≡ may_on d m (flight_of a) y
  unfolding may_on
  may_accept h x u = onto Accepts h x (offer_on x u)
