-- KINDS OF MESSAGES, as the proof of demand 3 sees them. An owner's message is about a flight of its sender; a neighbour's closes
-- what the owner opened on a flight of the receiver. What each does to a record stands in deeds alone; the laws that the proof
-- goes by stand in Laws, and nothing after them opens these definitions.
use Rattle.std.specs.Prelude.{◌≡◌, Bool, true, false, not, cond, ◌&&◌, ◌||◌, ℕ, suc, ◌-◌, eqb}
use Rattle.std.proofs.Math.Option.{Option, none, some}
use Rattle.message.specs.declared.Kind.{Kind}
use Rattle.message.specs.declared.Kind.TheVariants.{Rla, Lam, Lrm}
use Rattle.flights.specs.Flight.{Flight}
use Rattle.deeds.specs.declared.Deed.TheVariants.{Retracts}
use Rattle.deeds.specs.Message.{Message}
use Rattle.deeds.specs.Deeds.{Key, same_key, deed_of, old, new, may, becomes, makes, is_filed, is_calm, is_offer}
use Rattle.rules.specs.Answers.{is_acceptance, is_offering, proper}
use Rattle.rules.specs.Receiving as r
use Rattle.rules.specs.Sending.{one_of}
use Rattle.pair.specs.kinds.Tools.{guard, under}

-- WHOSE FLIGHT IT IS ABOUT
pub data Content : Type 0 where
  own near : Message → Content

unfoldable pub content_of : Message → Content
content_of m = cond (is_acceptance (deed_of m)) (near m) (own m)

unfoldable pub message_of : Content → Message
message_of (own m) = m
message_of (near m) = m

-- WHAT IT DOES: x is the record under its key, y the one under its other key, where it has one

-- a handoff only where active: so it is in every well formed table
unfoldable pub orderly : Option Flight → Bool
orderly none = true
orderly (some x) = not (is_filed x.status) || is_calm x.handoff

-- an owner's message: none where its condition fails, else what stands under its new key afterwards
unfoldable pub effect : Message → Option Flight → Option Flight → Option (Option Flight)
effect p x y = guard ((not (is_acceptance (deed_of p)) && orderly x) && may (deed_of p) p x y) (some (becomes (deed_of p) p x))

-- a neighbour's: none where its condition fails, else the record that replaces x
unfoldable pub close : Message → Option Flight → Option Flight
close c x = guard (is_acceptance (deed_of c) && may (deed_of c) c x none) (becomes (deed_of c) c x)

-- a neighbour's message that names, by number and key, an offer retires it
unfoldable pub retires : Message → Message → Bool
retires c p = r.retires c p && eqb c.reference p.number

-- the owner's message can never be applied again, whatever the neighbour does
unfoldable pub Dead : Message → Option Flight → Type 0
Dead p none = deed_of p ≡ Retracts
Dead p (some x) = (deed_of p ≡ Retracts) × (is_offer p x ≡ false)

-- it takes a place
unfoldable pub takes : Content → ℕ
takes (own p) = cond (makes (deed_of p)) 1 0
takes (near c) = 0

-- two messages of one end name one flight
unfoldable pub clash : Content → Content → Bool
clash (own a) (own b) = one_of (old a) b || one_of (new a) b
clash (own a) (near b) = false
clash (near a) (own b) = false
clash (near a) (near b) = one_of (old a) b || one_of (new a) b

-- ANSWERS, as they are kept: 1 LAM, 2 RLA, else that LRM

unfoldable pub is_yes : ℕ → Bool
is_yes x = eqb x 1 || eqb x 2

unfoldable pub answer_kind : ℕ → Kind
answer_kind x = cond (eqb x 1) Lam (cond (eqb x 2) Rla Lrm)

-- refusal 6
unfoldable pub proper_to : Content → ℕ → Bool
proper_to c x = proper (answer_kind x) (deed_of (message_of c))

-- refusal 4, of an old number
unfoldable pub again_to : Content → ℕ → Bool
again_to c x = not (eqb x 2 && not (is_offering (deed_of (message_of c))))

-- TABLES, as they are seen by key
abbrev pub Table : Type 0
Table = Key → Option Flight

-- the record under a message's other key, where it has one
unfoldable pub other : Message → Table → Option Flight
other p g = cond (same_key (new p) (old p)) none (g (new p))

unfoldable pub eff : Message → Table → Option (Option Flight)
eff p g = effect p (g (old p)) (other p g)

-- the table afterwards: z stands under the new key, and nothing under the old one, if that is another
unfoldable pub put : Message → Option Flight → Table → Table
put p z g = under (under g (old p) none) (new p) z

-- how many places are used, once z has replaced x
unfoldable pub grown : Option Flight → Option Flight → ℕ → ℕ
grown none none u = u
grown none (some z) u = suc u
grown (some x) none u = u - 1
grown (some x) (some z) u = u
