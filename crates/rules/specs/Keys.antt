-- WHERE A MESSAGE'S KEYS STAND in its text.
use Rattle.std.specs.Prelude.{◌≡◌, Bool, List, ℕ, eqb}
use Rattle.std.proofs.Math.Path.{refl}
use Rattle.std.proofs.Common.{inr, eqb-true}
use Rattle.std.proofs.Math.Bool.{true, false, cond}
use Rattle.std.proofs.lemmas.Bool.{eqb-false}
use Rattle.scan.specs.Grammar.{size_of, Span}
use Rattle.message.specs.declared.Verdict.TheVariants.{Read}
use Rattle.message.specs.declared.Record.{Record}
use Rattle.message.specs.Record.{is_chg}
use Rattle.reader.specs.Reading.{cut, Judged}
use Rattle.pen.specs.Listed.{Inside}
use Rattle.deeds.specs.Message.{message_of}
use Rattle.deeds.specs.Deeds.{Key, old, changed_key, new, or_held}
use Rattle.deeds.specs.Laws.{Within, none_given, one_given, aircraft_in, departure_in, destination_in, aircrafts_in, departures_in, destinations_in}
use Rattle.rules.specs.declared.KeyParts.{KeyParts}

-- the bytes of three parts
abbrev pub key_of : List ℕ → KeyParts → Key
key_of w k = record { aircraft = cut w k.aircraft; departure = cut w k.departure; destination = cut w k.destination }

-- each lies within the text
pub record KeyInside (w : List ℕ) (k : KeyParts) : Type 0 where
  pub aircraft : Inside w k.aircraft
  pub departure : Inside w k.departure
  pub destination : Inside w k.destination

-- a part of a field 22 where it is given, else the message's own
unfoldable pub or_part : Span → Span → Span
or_part c own = cond (eqb (size_of c) 0) own c

abbrev pub old_parts : Record → KeyParts
old_parts r = record { aircraft = r.parts.own.aircraft; departure = r.parts.own.departure; destination = r.parts.own.destination }

abbrev pub changed_parts : Record → KeyParts
changed_parts r = record {
  aircraft = or_part r.parts.changes.aircraft r.parts.own.aircraft;
  departure = or_part r.parts.changes.departure r.parts.own.departure;
  destination = or_part r.parts.changes.destination r.parts.own.destination;
}

unfoldable pub new_parts : Record → KeyParts
new_parts r = cond (is_chg r.kind) (changed_parts r) (old_parts r)

-- WHAT THEIR BYTES ARE

-- either of two parts is chosen
pub or_part_lem : (P : Span → Type 0) (c own : Span) → (size_of c ≡ 0 → P own) → ((size_of c ≡ 0 → ⊥) → P c) → P (or_part c own)
unfolding or_part
or_part_lem P c own f g = go (eqb (size_of c) 0) refl
  where
    go : (b : Bool) → eqb (size_of c) 0 ≡ b → P (cond b own c)
    go true e = f (eqb-true (size_of c) 0 e)
    go false e = g (eqb-false (size_of c) 0 e)

pub part_inside : (w : List ℕ) (c own : Span) → Within w c → Within w own → Inside w (or_part c own)
part_inside w c own i j = or_part_lem (Inside w) c own (λ e. inr j) (λ e. inr i)

pub part_bytes : (w : List ℕ) (c own : Span) → Within w c → cut w (or_part c own) ≡ or_held (cut w c) (cut w own)
part_bytes w c own i =
    or_part_lem (λ p. cut w p ≡ or_held (cut w c) (cut w own)) c own (none_given w c (cut w own)) (one_given w c (cut w own) i)

module _ (w : List ℕ) (r : Record) (j : Judged w Read r) where
  pub old_inside : KeyInside w (old_parts r)
  old_inside = record {
    aircraft = inr (aircraft_in w r j);
    departure = inr (departure_in w r j);
    destination = inr (destination_in w r j);
  }

  changed_inside : KeyInside w (changed_parts r)
  changed_inside =
      let a = aircrafts_in w r j in
      let d = departures_in w r j in
      let e = destinations_in w r j in
      record {
        aircraft = part_inside w r.parts.changes.aircraft r.parts.own.aircraft a.0 a.1;
        departure = part_inside w r.parts.changes.departure r.parts.own.departure d.0 d.1;
        destination = part_inside w r.parts.changes.destination r.parts.own.destination e.0 e.1;
      }

  changed_key_lem : key_of w (changed_parts r) ≡ changed_key (message_of w r)
  changed_key_lem =
      let a = part_bytes w r.parts.changes.aircraft r.parts.own.aircraft (aircrafts_in w r j).0 in
      let d = part_bytes w r.parts.changes.departure r.parts.own.departure (departures_in w r j).0 in
      let e = part_bytes w r.parts.changes.destination r.parts.own.destination (destinations_in w r j).0 in
      λ k. record { aircraft = a k; departure = d k; destination = e k }

  pub new_inside : KeyInside w (new_parts r)
  unfolding new_parts
  new_inside = go (is_chg r.kind)
    where
      go : (b : Bool) → KeyInside w (cond b (changed_parts r) (old_parts r))
      go true = changed_inside
      go false = old_inside

  pub new_key : key_of w (new_parts r) ≡ new (message_of w r)
  unfolding new_parts new
  new_key = go (is_chg r.kind)
    where
      go : (b : Bool) → key_of w (cond b (changed_parts r) (old_parts r)) ≡ cond b (changed_key (message_of w r)) (old (message_of w r))
      go true = changed_key_lem
      go false = refl
