-- THE TWO ENDS AGREE: from what is seen by key to the bytes of the tables.
use Rattle.std.specs.Prelude.{◌≡◌, refl, Bool, true, false, List, ℕ}
use Rattle.std.proofs.Common.{sym, ap, ◌∙◌, subst, inl, inr, arith}
use Rattle.std.proofs.Math.Option.{Option, none, some}
use Rattle.pair.specs.kinds.Tools.{get_below}
use Rattle.places.specs.Place.{Place, At, Nowhere}
use Rattle.flights.specs.Flight.{Flight, record_of}
use Rattle.flights.specs.Formed.{TableFormed}
use Rattle.flights.specs.Decoded.{flights_in, flights_many, record_at, found_places}
use Rattle.deeds.specs.Message.{Message}
use Rattle.deeds.specs.Deeds.{Key, deed_of}
use Rattle.deeds.specs.Applying.{where_is}
use Rattle.memory.specs.End.{waiting_in}
use Rattle.rules.specs.Reads.{message_in}
use Rattle.rules.specs.Answers.{is_acceptance}
use Rattle.pair.specs.kinds.Kinds.{Content, own, near, content_of, message_of}
use Rattle.pair.specs.kinds.Views.{View}
use Rattle.pair.specs.kinds.Ends.{by_key, waits_in}
use Rattle.pair.specs.exchange.KindFacts.{Names, one_of_lem}
use Rattle.pair.specs.exchange.Agreement as agreement
use Rattle.pair.specs.views.Tables.{under_is}
use Rattle.pair.specs.views.Waits.{waits_some}
use Rattle.pair.specs.views.Learnt.{content_own, content_near, content_message}
use Rattle.pair.specs.World.{Side}
use Rattle.pair.specs.Claims.{bytes_at, record_under, Holds, Agrees}
use Rattle.pair.specs.Followed.{Follows}

-- THE RECORD OF A FLIGHT

abbrev bytes_of : Option Flight → Option (List ℕ)
bytes_of none = none
bytes_of (some f) = some (record_of f)

record_under_lem : (t : List ℕ) → TableFormed t → (k : Key) → record_under k t ≡ bytes_of (by_key (flights_in t) k)
record_under_lem t w k = ap (λ (p : Place). bytes_at p t) (found_places k.aircraft k.departure k.destination t) ∙ go (where_is k (flights_in t)) refl
  where
    go : (p : Place) → where_is k (flights_in t) ≡ p → bytes_at p t ≡ bytes_of (by_key (flights_in t) k)
    go (At i) e =
        let u = under_is k (flights_in t) (At i) e in
        let h = get_below i (flights_in t) u.1.0 u.1.1 in
        ap (λ (b : List ℕ). some b) (record_at t i u.1.0 w (omega (arith, h, flights_many t)) u.1.1) ∙ sym (ap bytes_of (u.0 ∙ u.1.1))
    go Nowhere e = sym (ap bytes_of (under_is k (flights_in t) Nowhere e).0)

-- A MESSAGE THAT NAMES IT

is_near : Content → Bool
is_near (own m) = false
is_near (near m) = true

near_is : (m : Message) (c : Content) → content_of m ≡ c → is_acceptance (deed_of m) ≡ is_near c
unfolding is_near
near_is m c e = go (is_acceptance (deed_of m)) refl
  where
    go : (b : Bool) → is_acceptance (deed_of m) ≡ b → is_acceptance (deed_of m) ≡ is_near c
    go true p = p ∙ ap is_near (sym (content_near m p) ∙ e)
    go false p = p ∙ ap is_near (sym (content_own m p) ∙ e)

held_by : (X : Side) (n : ℕ) (c : Content) (k : Key) → waits_in (waiting_in X.memory.unanswered) n ≡ some c → Names (message_of c) k → Holds (is_near c) k X
held_by X n c k e d =
    let w = waits_some (waiting_in X.memory.unanswered) n c e in
    let m = message_in w.1.text in
    record {
      spot = w.0;
      message = w.1;
      held = w.3;
      about = near_is m c (sym w.5);
      names = one_of_lem m k (subst (λ (u : Message). Names u k) (ap message_of w.5 ∙ content_message m) d);
    }

-- BOTH WAYS

pub agreeing : {a b : List ℕ} {σ τ : ℕ → List ℕ} {X Y : Side} → Follows a b σ τ X Y → (k : Key) → Agrees X Y k
unfolding is_near message_of
agreeing {X = X} {Y = Y} F k = go (agreement.agrees F.reach k)
  where
    go : agreement.Agrees F.first.view F.second.view k → Agrees X Y k
    go (inl e) =
        inl (record_under_lem X.memory.sent F.here.formed.sent k
        ∙ ap bytes_of (sym (ap (λ (v : View). v.sent k) F.here.view) ∙ e ∙ ap (λ (v : View). v.received k) F.there.view)
        ∙ sym (record_under_lem Y.memory.received F.there.formed.received k))
    go (inr (inl h)) = inr (inl (held_by X h.0 (own h.1) k (sym (ap (λ (v : View). v.waits h.0) F.here.view) ∙ h.2) h.3))
    go (inr (inr h)) = inr (inr (held_by Y h.0 (near h.1) k (sym (ap (λ (v : View). v.waits h.0) F.there.view) ∙ h.2) (inl (sym h.3))))
