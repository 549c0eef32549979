-- THE LAWS that the proof of demand 3 goes by. A new kind of message has to keep these, and nothing else.
use Rattle.std.specs.Prelude.{◌≡◌, refl, ◌⊎◌, ◌≢◌, Bool, true, false, not, cond, ◌&&◌, ◌||◌, ℕ, eqb}
use Rattle.std.proofs.Common.{sym, ◌∙◌, ap, subst, inl, inr, arith, eq-eqb, eqb-true}
use Rattle.std.proofs.Math.Option.{Option, none, some}
use Rattle.std.proofs.lemmas.Bool.{not-true}
use Rattle.message.specs.declared.Kind.{Kind}
use Rattle.message.specs.declared.Kind.TheVariants.{None, Fpl, Cpl, Est, Chg, Cnl, Rti, Rta, Rla, Lam, Lrm}
use Rattle.message.specs.Record.{is_chg}
use Rattle.flights.specs.Flight as f
use Rattle.flights.specs.Flight.{Flight, Handoff, offered, accepted}
use Rattle.deeds.specs.declared.Deed.{Deed}
use Rattle.deeds.specs.declared.Deed.TheVariants.{Files, Enters, Amends, Estimates, Cancels, Offers, Retracts, Accepts, Nothing}
use Rattle.deeds.specs.Message.{Message}
use Rattle.deeds.specs.Deeds.{same_key, deed_by, deed_of, old, new, changed_key, makes, may, may_on, becomes, becomes_on, begins, is_filed, is_calm, is_offered, refers}
use Rattle.rules.specs.Answers.{is_acceptance, is_offering, proper}
use Rattle.rules.specs.Receiving as r
use Rattle.pair.specs.kinds.Tools.{guard_yes, true_false, none_some, some_inj, key_yes}
use Rattle.pair.specs.kinds.Kinds.{Content, orderly, effect, close, retires, Dead, message_of, answer_kind, proper_to, again_to}
use Rattle.rules.specs.Laws.{accepts as accepts_is, offers as offers_is}
use Rattle.scan.specs.Bools.{and_yes}
use Rattle.scan.specs.Theory.{good_a as first_yes}
use Rattle.deeds.specs.Tests.{same_key_lem as key_eq}

-- WHICH DEED IT IS

changes_by : (k : Kind) (p : Message) → (is_chg k ≡ false) ⊎ (deed_by k p ≡ Amends)
unfolding is_chg deed_by
changes_by None p = inl refl
changes_by Fpl p = inl refl
changes_by Cpl p = inl refl
changes_by Est p = inl refl
changes_by Chg p = inr refl
changes_by Cnl p = inl refl
changes_by Rti p = inl refl
changes_by Rta p = inl refl
changes_by Rla p = inl refl
changes_by Lam p = inl refl
changes_by Lrm p = inl refl

-- what has another key amends
one_key : (p : Message) → (new p ≡ old p) ⊎ (deed_of p ≡ Amends)
unfolding new
one_key p = elim (changes_by p.kind p) [ inl e ↦ inl (ap (λ (b : Bool). cond b (changed_key p) (old p)) e) | inr e ↦ inr e ]

offer_key : (p : Message) → deed_of p ≡ Offers → new p ≡ old p
offer_key p o = elim (one_key p) [ inl e ↦ e | inr a ↦ let z : ◌≡◌ {A = ℕ} 0 1 = cc in absurd (omega arith) ]

-- WHAT IS KNOWN WHERE A NEIGHBOUR CLOSES

closing : (c : Message) (x : Option Flight) (z : Flight) → close c x ≡ some z → (may Accepts c x none ≡ true) × (becomes Accepts c x ≡ some z)
unfolding close
closing c x z e =
    let g = guard_yes (is_acceptance (deed_of c) && may (deed_of c) c x none) (becomes (deed_of c) c x) z e in
    let a = and_yes (is_acceptance (deed_of c)) (may (deed_of c) c x none) g.0 in
    let d = accepts_is (deed_of c) a.0 in
    (subst (λ (d : Deed). may d c x none ≡ true) d a.1, subst (λ (d : Deed). becomes d c x ≡ some z) d g.1)

-- nothing can be closed where there is no record
pub law_none : (c : Message) (z : Flight) → close c none ≡ some z → ⊥
unfolding may makes
law_none c z e = true_false (closing c none z e).0 refl

-- it was offered under the number that is named, and is accepted afterwards
close_is : (c : Message) (x z : Flight) → close c (some x) ≡ some z → (is_offered x.handoff ≡ true) × (c.reference ≡ x.offer) × (is_offered z.handoff ≡ false)
unfolding may may_on becomes becomes_on is_offered
close_is c x z e =
    let p = closing c (some x) z e in
    let q = and_yes (is_offered x.handoff) (eqb c.reference x.offer) p.0 in
    (q.0, eqb-true c.reference x.offer q.1, ap (λ (x : Flight). is_offered x.handoff) (some_inj p.1 refl))

-- WHAT IS KNOWN WHERE AN OWNER'S MESSAGE IS APPLIED

-- d is its deed
record Applies (d : Deed) (p : Message) (x y z : Option Flight) : Type 0 where
  owners : is_acceptance d ≡ false
  order : orderly x ≡ true
  can : may d p x y ≡ true
  left : becomes d p x ≡ z

applies : (p : Message) (x y z : Option Flight) → effect p x y ≡ some z → Applies (deed_of p) p x y z
unfolding effect
applies p x y z e =
    let g = guard_yes _ _ z e in
    let a = and_yes (not (is_acceptance (deed_of p)) && orderly x) (may (deed_of p) p x y) g.0 in
    let b = and_yes (not (is_acceptance (deed_of p))) (orderly x) a.0 in
    record { owners = not-true (is_acceptance (deed_of p)) b.0; order = b.1; can = a.1; left = some_inj refl g.1 }

calm_shut : (h : Handoff) → is_calm h ≡ true → is_offered h ≡ true → ⊥
unfolding is_calm is_offered
calm_shut f.none p q = true_false q refl
calm_shut offered p q = true_false p refl
calm_shut accepted p q = true_false p refl

-- what is filed is not offered
filed_shut : (x : Flight) → orderly (some x) ≡ true → is_filed x.status ≡ true → is_offered x.handoff ≡ true → ⊥
unfolding orderly
filed_shut x o s = calm_shut x.handoff (go (is_filed x.status) s o)
  where
    go : (b : Bool) → b ≡ true → (not b || is_calm x.handoff) ≡ true → is_calm x.handoff ≡ true
    go true s o = o
    go false s o = absurd (true_false s refl)

-- on a flight that is offered only a retract can be done
only_retracts : (d : Deed) (p : Message) (x : Flight) (y z : Option Flight) → Applies d p (some x) y z → is_offered x.handoff ≡ true → d ≡ Retracts
unfolding may may_on is_acceptance
only_retracts Files p x y z a o = absurd (true_false a.can refl)
only_retracts Enters p x y z a o = absurd (true_false a.can refl)
only_retracts Amends p x y z a o = absurd (filed_shut x a.order (first_yes _ _ _ a.can) o)
only_retracts Estimates p x y z a o = absurd (filed_shut x a.order (first_yes _ _ _ a.can) o)
only_retracts Cancels p x y z a o = absurd (true_false o (not-true _ (and_yes _ _ a.can).0))
only_retracts Offers p x y z a o = absurd (calm_shut x.handoff (and_yes (not (is_filed x.status)) _ (first_yes _ _ _ a.can)).1 o)
only_retracts Retracts p x y z a o = refl
only_retracts Accepts p x y z a o = absurd (true_false refl a.owners)
only_retracts Nothing p x y z a o = absurd (true_false a.can refl)

still_offered : (x z : Flight) → ◌≡◌ {A = Option Flight} (some x) (some z) → is_offered z.handoff ≡ true → is_offered x.handoff ≡ true
still_offered x z e o = ap (λ (u : Flight). is_offered u.handoff) (some_inj {o = some x} refl e) ∙ o

-- no flight begins offered
begins_shut : (d : Deed) (p : Message) (z : Flight) → begins d p ≡ some z → is_offered z.handoff ≡ true → ⊥
unfolding begins is_offered
begins_shut Files p z e o = true_false (still_offered _ z e o) refl
begins_shut Enters p z e o = true_false (still_offered _ z e o) refl
begins_shut Amends p z e o = none_some refl e
begins_shut Estimates p z e o = none_some refl e
begins_shut Cancels p z e o = none_some refl e
begins_shut Offers p z e o = none_some refl e
begins_shut Retracts p z e o = none_some refl e
begins_shut Accepts p z e o = none_some refl e
begins_shut Nothing p z e o = none_some refl e

-- only an offer leaves a flight offered, under its own number
only_offers : (d : Deed) (p : Message) (x y : Option Flight) (z : Flight) → Applies d p x y (some z) → is_offered z.handoff ≡ true → (d ≡ Offers) × (z.offer ≡ p.number)
unfolding may may_on becomes becomes_on is_acceptance is_offered
only_offers d p none y z a o = absurd (begins_shut d p z a.left o)
only_offers Files p (some x) y z a o = absurd (true_false a.can refl)
only_offers Enters p (some x) y z a o = absurd (true_false a.can refl)
only_offers Amends p (some x) y z a o = absurd (filed_shut x a.order (first_yes _ _ _ a.can) (still_offered _ z a.left o))
only_offers Estimates p (some x) y z a o = absurd (filed_shut x a.order (first_yes _ _ _ a.can) (still_offered _ z a.left o))
only_offers Cancels p (some x) y z a o = absurd (none_some refl a.left)
only_offers Offers p (some x) y z a o = (refl, ap (λ (u : Flight). u.offer) (some_inj a.left refl))
only_offers Retracts p (some x) y z a o = absurd (true_false (still_offered _ z a.left o) refl)
only_offers Accepts p (some x) y z a o = absurd (true_false refl a.owners)
only_offers Nothing p (some x) y z a o = absurd (true_false a.can refl)

-- WHAT CAN NEVER BE APPLIED AGAIN

dead_is : (p : Message) (x : Option Flight) → Dead p x → deed_of p ≡ Retracts
unfolding Dead
dead_is p none d = d
dead_is p (some x) d = d.0

-- a retract, once its offer is accepted
dead_now : (p c : Message) (x x' : Flight) → deed_of p ≡ Retracts → close c (some x) ≡ some x' → Dead p (some x')
unfolding Dead
dead_now p c x x' d h = (d, ap (λ (b : Bool). b && eqb p.reference x'.offer) (close_is c x x' h).2)

pub law_dead : (p : Message) (x y z : Option Flight) → Dead p x → effect p x y ≡ some z → ⊥
unfolding Dead may may_on makes
law_dead p none y z d e = true_false (applies p none y z e).can (ap makes d)
law_dead p (some x) y z d e = true_false (applies p (some x) y z e).can (ap (λ (d : Deed). may_on d p x y) d.0 ∙ d.1)

pub law_dead_on : (p c : Message) (x : Option Flight) (x' : Flight) → Dead p x → close c x ≡ some x' → Dead p (some x')
law_dead_on p c none x' d h = absurd (law_none c x' h)
law_dead_on p c (some x) x' d h = dead_now p c x x' (dead_is p (some x) d) h

-- where the neighbour can close, the owner's only message is a retract, and that is dead afterwards
stop : (p c : Message) (x y z : Option Flight) (x' : Flight) → effect p x y ≡ some z → close c x ≡ some x' → Dead p (some x')
stop p c none y z x' e h = absurd (law_none c x' h)
stop p c (some x) y z x' e h = dead_now p c x x' (only_retracts (deed_of p) p x y z (applies p (some x) y z e) (close_is c x x' h).0) h

-- a message that could be applied, and the neighbour closes first: it still can be, or never again
pub law_after : (p c : Message) (x y z : Option Flight) (x' : Flight) → effect p x y ≡ some z → close c x ≡ some x' → ((z' : Option Flight) × (effect p (some x') y ≡ some z')) ⊎ Dead p (some x')
law_after p c x y z x' e h = inr (stop p c x y z x' e h)

-- if it is applied after the closing all the same, the order does not matter
pub law_commute : (p c : Message) (x y z z' : Option Flight) (x' : Flight) → effect p x y ≡ some z → close c x ≡ some x' → effect p (some x') y ≡ some z' → (new p ≡ old p) × ((r : Flight) × (close c z ≡ some r) × (z' ≡ some r))
law_commute p c x y z z' x' e h f = absurd (law_dead p (some x') y z' (stop p c x y z x' e h) f)

-- KEYS

unused : (p : Message) (x y : Option Flight) → may Amends p x y ≡ true → y ≡ none
unfolding may may_on makes
unused p x none e = refl
unused p none (some u) e = absurd (true_false e refl)
unused p (some x) (some u) e = absurd (true_false (and_yes (is_filed x.status && refers p x) false e).1 refl)

-- a second key was unused
pub law_unused : (p : Message) (x y z : Option Flight) → new p ≢ old p → effect p x y ≡ some z → y ≡ none
law_unused p x y z n e =
    elim (one_key p) [
      | inl k ↦ absurd (n k)
      | inr a ↦ unused p x y (subst (λ (d : Deed). may d p x y ≡ true) a (applies p x y z e).can)
    ]

-- OFFERS THAT ARE RETIRED

-- exactly what is an offer, of that key and number
retires_yes : (c p : Message) → deed_of p ≡ Offers → old p ≡ old c → c.reference ≡ p.number → retires c p ≡ true
unfolding retires r.retires is_offering
retires_yes c p o k n = λ i. (is_offering (o i) && key_yes (old p) (old c) k i) && eq-eqb c.reference p.number n i

retires_is : (c p : Message) → retires c p ≡ true → (deed_of p ≡ Offers) × (old p ≡ old c) × (c.reference ≡ p.number)
unfolding retires r.retires
retires_is c p e =
    let a = and_yes (is_offering (deed_of p) && same_key (old p) (old c)) (eqb c.reference p.number) e in
    let b = and_yes (is_offering (deed_of p)) (same_key (old p) (old c)) a.0 in
    (offers_is (deed_of p) b.0, key_eq (old p) (old c) b.1, eqb-true c.reference p.number a.1)

-- what a message leaves and a neighbour can close is an offer, which the closing retires; or the closing was possible before, and
-- the order does not matter
pub law_opened : (p c : Message) (x y z : Option Flight) (r : Flight) → effect p x y ≡ some z → (old c ≡ old p) ⊎ (old c ≡ new p) → close c z ≡ some r → (new p ≡ old p) × ((retires c p ≡ true) ⊎ ((retires c p ≡ false) × ((x' : Flight) × (close c x ≡ some x') × (effect p (some x') y ≡ some (some r)))))
law_opened p c x y none r e w h = absurd (law_none c r h)
law_opened p c x y (some z) r e w h =
    let is = close_is c z r h in
    let o = only_offers (deed_of p) p x y z (applies p x y (some z) e) is.0 in
    let k = offer_key p o.0 in
    let q : old c ≡ old p = elim w [ inl q ↦ q | inr q ↦ q ∙ k ] in
    (k, inl (retires_yes c p o.0 (sym q) (is.1 ∙ o.1)))

-- what a neighbour's message retires
pub law_retires : (c p : Message) → retires c p ≡ true → (old p ≡ old c) × (new p ≡ old p) × (makes (deed_of p) ≡ false) × (p.number ≡ c.reference)
unfolding makes
law_retires c p t = let is = retires_is c p t in (is.1, offer_key p is.0, ap makes is.0, sym is.2)

-- is not retired in vain: where the neighbour could close before it, it can neither be applied nor be dead
pub law_retires_live : (c p : Message) (x : Option Flight) → retires c p ≡ true → Dead p x → ⊥
law_retires_live c p x t d =
    let o = (retires_is c p t).0 in
    let q = dead_is p x d in
    let z : ◌≡◌ {A = ℕ} 0 1 = cc in
    omega arith

pub law_retires_late : (c p : Message) (x y z : Option Flight) (x' : Flight) → retires c p ≡ true → close c x ≡ some x' → effect p x y ≡ some z → ⊥
law_retires_late c p x y z x' t h e = law_retires_live c p (some x') t (stop p c x y z x' e h)

-- only what takes a place makes a flight
pub law_place : (p : Message) (y z : Option Flight) → effect p none y ≡ some z → makes (deed_of p) ≡ true
unfolding may
law_place p y z e = (applies p none y z e).can

-- ANSWERS

-- what may answer may answer again
pub law_again : (c : Content) (x : ℕ) → proper_to c x ≡ true → again_to c x ≡ true
unfolding proper_to again_to answer_kind proper
law_again c x e = go (eqb x 2) refl
  where
    go : (b : Bool) → eqb x 2 ≡ b → again_to c x ≡ true
    go false h = ap (λ (b : Bool). not (b && not (is_offering (deed_of (message_of c))))) h
    go true h =
        let t : proper_to c 2 ≡ true = subst (λ (n : ℕ). proper_to c n ≡ true) (eqb-true x 2 h) e in
        λ i. not (h i && not (t i))
