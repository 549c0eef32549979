-- WHAT FOLLOWS AT ONCE from the definitions of the kinds: owners' and neighbours' messages, the keys that they name, and places.
use Rattle.std.specs.Prelude.{◌≡◌, refl, ◌⊎◌, ◌≢◌, Bool, true, false, cond, ◌||◌, ℕ, ◌+◌, ◌≤◌, ◌<◌}
use Rattle.std.proofs.Common.{sym, ◌∙◌, ap, subst, inl, inr, arith}
use Rattle.std.proofs.Math.Option.{Option, none, some}
use Rattle.flights.specs.Flight.{Flight}
use Rattle.deeds.specs.Message.{Message}
use Rattle.deeds.specs.Deeds.{Key, same_key, deed_of, old, new, makes}
use Rattle.rules.specs.Sending.{one_of}
use Rattle.pair.specs.kinds.Tools.{key?, key_yes, true_false, none_some, some_inj}
use Rattle.pair.specs.kinds.Kinds.{Content, own, near, message_of, effect, takes, clash, Table, other, eff, put, grown}
use Rattle.pair.specs.kinds.Views.{Applied, fails, full, stored}
use Rattle.pair.specs.exchange.Laws.{law_place}
use Rattle.scan.specs.Bools.{or_l, or_r}
use Rattle.deeds.specs.Tests.{same_key_lem as key_eq}

-- A CONTENT IS ONE OF THE TWO

pub own_near : {o : Content} {p c : Message} → o ≡ own p → o ≡ near c → ⊥
own_near {o} {p} {c} a b = let z : ◌≡◌ {A = ℕ} 0 1 = cc in omega arith

pub own_own : {o : Content} {p q : Message} → o ≡ own p → o ≡ own q → p ≡ q
own_own {o} {p} {q} a b = cc

pub near_near : {o : Content} {p q : Message} → o ≡ near p → o ≡ near q → p ≡ q
near_near {o} {p} {q} a b = cc

pub number_own : {c : Content} {p : Message} {n : ℕ} → c ≡ own p → (message_of c).number ≡ n → p.number ≡ n
unfolding message_of
number_own e q = ap (λ (d : Content). (message_of d).number) (sym e) ∙ q

-- THE KEYS THAT A MESSAGE NAMES

abbrev pub Names : Message → Key → Type 0
Names p k = (k ≡ old p) ⊎ (k ≡ new p)

pub names? : (p : Message) (k : Key) → Names p k ⊎ (Names p k → ⊥)
names? p k = elim (key? k (old p)) [ inl e ↦ inl (inl e) | inr m ↦ elim (key? k (new p)) [ inl e ↦ inl (inr e) | inr n ↦ inr (no_key m n) ] ]
  where
    no_key : k ≢ old p → k ≢ new p → Names p k → ⊥
    no_key m n (inl e) = m e
    no_key m n (inr e) = n e

pub one_of_lem : (p : Message) (k : Key) → Names p k → one_of k p ≡ true
unfolding one_of
one_of_lem p k (inl e) = or_l (same_key k (old p)) (same_key k (new p)) (key_yes k (old p) e)
one_of_lem p k (inr e) = or_r (same_key k (old p)) (same_key k (new p)) (key_yes k (new p) e)

pub of_one : (p : Message) (k : Key) → one_of k p ≡ true → Names p k
unfolding one_of
of_one p k e = go (same_key k (old p)) refl e
  where
    go : (b : Bool) → same_key k (old p) ≡ b → (b || same_key k (new p)) ≡ true → Names p k
    go true q e = inl (key_eq k (old p) q)
    go false q e = inr (key_eq k (new p) e)

-- two messages of one side that do not clash name different keys
pub clash_own : (p q : Message) (k : Key) → clash (own p) (own q) ≡ false → Names p k → Names q k → ⊥
unfolding clash
clash_own p q k f (inl e) m =
    true_false (or_l (one_of (old p) q) (one_of (new p) q) (one_of_lem q (old p) (subst (λ (v : Key). Names q v) e m))) f
clash_own p q k f (inr e) m =
    true_false (or_r (one_of (old p) q) (one_of (new p) q) (one_of_lem q (new p) (subst (λ (v : Key). Names q v) e m))) f

pub clash_near : (c d : Message) → clash (near c) (near d) ≡ false → old d ≢ old c
unfolding clash
clash_near c d f e = true_false (or_l (one_of (old c) d) (one_of (new c) d) (one_of_lem d (old c) (inl (sym e)))) f

-- PLACES

pub takes_one : (p : Message) → makes (deed_of p) ≡ true → takes (own p) ≡ 1
unfolding takes
takes_one p e = ap (λ (b : Bool). cond b 1 0) e

pub takes_none : (p : Message) → makes (deed_of p) ≡ false → takes (own p) ≡ 0
unfolding takes
takes_none p e = ap (λ (b : Bool). cond b 1 0) e

pub takes_near : (c : Message) → takes (near c) ≡ 0
unfolding takes
takes_near c = refl

-- only a message that makes a flight needs a place
pub needs_place : (p : Message) (S : Table) (z : Option Flight) → eff p S ≡ some z → S (old p) ≡ none → makes (deed_of p) ≡ true
unfolding eff
needs_place p S z e q = law_place p (other p S) z (ap (λ (o : Option Flight). effect p o (other p S)) (sym q) ∙ e)

-- k of the messages made flights before, k' afterwards
pub room_kept : (x z : Option Flight) (u k k' room : ℕ) → (x ≡ none → k' + 1 ≤ k) → k' ≤ k → u + k ≤ room → grown x z u + k' ≤ room
unfolding grown
room_kept none none u k k' room a b c = omega arith
room_kept none (some z) u k k' room a b c = let q = a refl in omega arith
room_kept (some x) none u k k' room a b c = omega arith
room_kept (some x) (some z) u k k' room a b c = omega arith

-- WHERE AN OWNER'S MESSAGE IS APPLIED: if its condition holds and there is a place, it is stored; if it fails, nothing changes

pub stored_is : {p : Message} {S S' : Table} {u u' room : ℕ} {z : Option Flight} → Applied p S u room S' u' → eff p S ≡ some z → (S (old p) ≡ none → u < room)
    → (S' ≡ put p z S) × (u' ≡ grown (S (old p)) z u)
stored_is (fails q a b) e h = absurd (none_some q e)
stored_is (full y q n le a b) e h = let l = h n in absurd (omega arith)
stored_is {p} {S} {S'} {u} (stored y q a b) e h =
    let w = some_inj q e in (a ∙ ap (λ (v : Option Flight). put p v S) w, b ∙ ap (λ (v : Option Flight). grown (S (old p)) v u) w)

pub failed_is : {p : Message} {S S' : Table} {u u' room : ℕ} → Applied p S u room S' u' → eff p S ≡ none → (S' ≡ S) × (u' ≡ u)
failed_is (fails q a b) e = (a, b)
failed_is (full y q n le a b) e = absurd (none_some e q)
failed_is (stored y q a b) e = absurd (none_some e q)
