-- THE FLIGHT THAT A MESSAGE LEAVES is one that may be, under the message's new key.
use Rattle.std.specs.Prelude.{◌≡◌, refl, ◌⊎◌, true, ◌&&◌, List, [], ◌∷◌, ℕ, ◌≤◌, eqb}
use Rattle.std.proofs.Math.Path.{sym}
use Rattle.std.proofs.Common.{ap, ◌∙◌, subst, inl, inr, arith}
use Rattle.std.proofs.Math.Bool.{not}
use Rattle.std.proofs.lemmas.Bool.{false≢true}
use Rattle.std.proofs.Math.Option.{Option, none, some}
use Rattle.pair.specs.kinds.Tools.{key_of, amended_key}
use Rattle.scan.specs.Bools.{and_l}
use Rattle.scan.specs.declared.Class.TheVariants.{Letter, Octal, Alnum}
use Rattle.scan.specs.Grammar.{G, run, Derives}
use Rattle.scan.specs.Texts.{opt}
use Rattle.fields.specs.Fields.{in08, in09, in10, timed, in14, in15, rest16, in18}
use Rattle.flights.specs.Flight as f
use Rattle.flights.specs.Flight.{Status, filed, active, Handoff, Flight, Timed, Offered, Sound}
use Rattle.flights.specs.Decoded.{SoundPlace}
use Rattle.excerpt.specs.Excerpt.{Texts}
use Rattle.excerpt.specs.Said.{Said}
use Rattle.excerpt.specs.ByKind.{Filed, Coordinated}
use Rattle.deeds.specs.declared.Deed.{Deed}
use Rattle.deeds.specs.declared.Deed.TheVariants.{Files, Enters, Amends, Estimates, Cancels, Offers, Retracts, Accepts, Nothing}
use Rattle.deeds.specs.Message.{Message}
use Rattle.deeds.specs.Deeds.{Key, deed_of, or_held, old, new, is_filed, is_calm, is_offered, refers, code_fits, may_on, makes, may, made, with_field, amended, estimated, becomes_on, begins, becomes}
use Rattle.perform.specs.Performed.{offered_sound, accepted_sound, none_sound}
use Rattle.pair.specs.keeping.Said.{Timely, Says, Stated}
use Rattle.places.specs.Places.{is_free as is_none}
use Rattle.deeds.specs.Tests.{not_filed as is_active}

-- free, or with a flight of this key
abbrev pub Under : Key → Option Flight → Type 0
Under k none = Unit
Under k (some x) = key_of x ≡ k

-- A NEW FLIGHT

module _ (m : Message) (l : m.number ≤ 999) where
  filed_sound : Filed m.own m.field14 → Sound (made filed [] m)
  filed_sound s =
      let p = s.plan in
      record {
        first = l;
        offer = (refl, refl);
        aircraft = p.key.aircraft;
        code = p.code;
        departure = p.key.departure;
        time = s.time;
        destination = p.key.destination;
        field08 = p.field08;
        field09 = p.field09;
        field10 = p.field10;
        field14 = refl;
        rest16 = s.rest16;
        field15 = p.field15;
        field18 = p.field18;
      }

  entered_sound : Coordinated m.own m.field14 → Derives (rest16 0) m.own.rest16 → Sound (made active m.field14 m)
  entered_sound s q =
      let p = s.plan in
      record {
        first = l;
        offer = omega arith;
        aircraft = p.key.aircraft;
        code = p.code;
        departure = p.key.departure;
        time = inl s.time;
        destination = p.key.destination;
        field08 = p.field08;
        field09 = p.field09;
        field10 = p.field10;
        field14 = s.estimate;
        rest16 = q;
        field15 = p.field15;
        field18 = p.field18;
      }

-- A FLIGHT THAT IS FILED

-- a text where it is given, else the one that is held
held : (g : G) (c h : List ℕ) → Derives (opt g) c → Derives g h → Derives g (or_held c h)
unfolding or_held
held g [] h d e = e
held g (x ∷ c) h (inl d) e = let z : ◌≡◌ {A = ℕ} 0 1 = cc in absurd (omega arith)
held g (x ∷ c) h (inr d) e = d

-- one that belongs to a field which is given
belongs : (P : List ℕ → Type 0) (s t h : List ℕ) → P t → P h → P (with_field s t h)
unfolding with_field
belongs P [] t h p q = q
belongs P (x ∷ s) t h p q = p

new_time : (s t h : List ℕ) → (s ≡ []) ⊎ Derives timed t → Derives timed h → Derives timed (with_field s t h)
unfolding with_field
new_time [] t h p q = q
new_time (x ∷ s) t h (inl e) q = let z : ◌≡◌ {A = ℕ} 0 1 = cc in absurd (omega arith)
new_time (x ∷ s) t h (inr d) q = d

module _ (x : Flight) (s : Sound x) (a : x.status ≡ filed) where
  filed_time : Derives timed x.time
  filed_time = subst (λ (o : Status). Timed o x.time) a s.time

  filed_offer : (x.handoff ≡ f.none) × (x.offer ≡ 0)
  filed_offer = subst (λ (o : Status). Offered o x.handoff x.offer) a s.offer

  amended_sound : (c : Texts) → Said c → Timely c → Sound (amended c x)
  amended_sound c d t = record {
    first = s.first;
    offer = s.offer;
    aircraft = held (run Alnum 2 7) c.aircraft x.aircraft d.aircraft s.aircraft;
    code = belongs (Derives (opt (run Octal 4 4))) c.aircraft c.code x.code d.code s.code;
    departure = held (run Letter 4 4) c.departure x.departure d.departure s.departure;
    time = subst (λ (o : Status). Timed o (with_field c.departure c.time x.time)) (sym a) (new_time c.departure c.time x.time t filed_time);
    destination = held (run Letter 4 4) c.destination x.destination d.destination s.destination;
    field08 = held (in08 0) c.field08 x.field08 d.field08 s.field08;
    field09 = held (in09 0) c.field09 x.field09 d.field09 s.field09;
    field10 = held (in10 0) c.field10 x.field10 d.field10 s.field10;
    field14 = s.field14;
    rest16 = belongs (Derives (rest16 0)) c.destination c.rest16 x.rest16 d.rest16 s.rest16;
    field15 = held (in15 0) c.field15 x.field15 d.field15 s.field15;
    field18 = held (in18 0) c.field18 x.field18 d.field18 s.field18;
  }

  estimated_sound : (t : List ℕ) → Derives in14 t → Sound (estimated t x)
  estimated_sound t d = record {
    first = s.first;
    offer = omega (arith, filed_offer.1);
    aircraft = s.aircraft;
    code = s.code;
    departure = s.departure;
    time = inr filed_time;
    destination = s.destination;
    field08 = s.field08;
    field09 = s.field09;
    field10 = s.field10;
    field14 = d;
    rest16 = s.rest16;
    field15 = s.field15;
    field18 = s.field18;
  }

-- WHICH STATUS IT HAS, by the conditions

is_filed_lem : (o : Status) → is_filed o ≡ true → o ≡ filed
unfolding is_filed
is_filed_lem filed e = refl
is_filed_lem active e = absurd (false≢true e)

-- an offered flight is active, so that its offer number is a number
offer_active : (o : Status) (h : Handoff) (n : ℕ) → Offered o h n → is_offered h ≡ true → (o ≡ active) × (n ≤ 999)
unfolding is_offered
offer_active filed h n p e = absurd (false≢true (ap is_offered (sym p.0) ∙ e))
offer_active active h n p e = (refl, p)

-- BY WHAT IT DOES

pub record Leaves (m : Message) (z : Option Flight) : Type 0 where
  pub sound : SoundPlace z
  pub under : Under (new m) z

module _ (m : Message) (l : m.number ≤ 999) where
  -- where there is none
  begins_sound : (d : Deed) → Says d m → makes d ≡ true → Leaves m (begins d m)
  unfolding makes begins
  begins_sound Files q e = record { sound = filed_sound m l q.0; under = sym q.1 }
  begins_sound Enters q e = record { sound = entered_sound m l q.0 q.1; under = sym q.2 }
  begins_sound Amends q e = absurd (false≢true e)
  begins_sound Estimates q e = absurd (false≢true e)
  begins_sound Cancels q e = absurd (false≢true e)
  begins_sound Offers q e = absurd (false≢true e)
  begins_sound Retracts q e = absurd (false≢true e)
  begins_sound Accepts q e = absurd (false≢true e)
  begins_sound Nothing q e = absurd (false≢true e)

  module _ (x : Flight) (s : Sound x) (k : key_of x ≡ old m) where
    -- where there is one
    becomes_on_lem : (d : Deed) (y : Option Flight) → Says d m → may_on d m x y ≡ true → Leaves m (becomes_on d m x)
    unfolding may_on becomes_on
    becomes_on_lem Files y q e = absurd (false≢true e)
    becomes_on_lem Enters y q e = absurd (false≢true e)
    becomes_on_lem Amends y q e =
        let a = is_filed_lem x.status (and_l (is_filed x.status) (refers m x) (and_l (is_filed x.status && refers m x) (is_none y) e)) in
        record { sound = amended_sound x s a m.changes q.0 q.1; under = amended_key m x k ∙ sym q.2 }
    becomes_on_lem Estimates y q e =
        let a = is_filed_lem x.status (and_l (is_filed x.status) (refers m x) (and_l (is_filed x.status && refers m x) (code_fits m.own.code x.code) e)) in
        record { sound = estimated_sound x s a m.field14 q.0; under = k ∙ sym q.1 }
    becomes_on_lem Cancels y q e = record { sound = tt; under = tt }
    becomes_on_lem Offers y q e =
        let b = not (is_filed x.status) && is_calm x.handoff in
        let a = is_active x.status (and_l (not (is_filed x.status)) (is_calm x.handoff) (and_l b (refers m x) (and_l (b && refers m x) (code_fits m.own.code x.code) e))) in
        record { sound = offered_sound x m.number s a l; under = k ∙ sym q }
    becomes_on_lem Retracts y q e =
        let a = offer_active x.status x.handoff x.offer s.offer (and_l (is_offered x.handoff) (eqb m.reference x.offer) e) in
        record { sound = none_sound x x.offer s a.0 a.1; under = k ∙ sym q }
    becomes_on_lem Accepts y q e =
        let a = offer_active x.status x.handoff x.offer s.offer (and_l (is_offered x.handoff) (eqb m.reference x.offer) e) in
        record { sound = accepted_sound x x.offer s a.0 a.1; under = k ∙ sym q }
    becomes_on_lem Nothing y q e = absurd (false≢true e)

pub becomes_stated : (m : Message) → Stated m → (x y : Option Flight) → may (deed_of m) m x y ≡ true → SoundPlace x → Under (old m) x → Leaves m (becomes (deed_of m) m x)
unfolding may becomes
becomes_stated m t none y e s k = begins_sound m t.number (deed_of m) t.says e
becomes_stated m t (some x) y e s k = becomes_on_lem m t.number x s k (deed_of m) y t.says e
