-- A MESSAGE APPLIED TO A WELL FORMED TABLE leaves it well formed: the flight is one that may be, and its key is no other's.
use Rattle.std.specs.Prelude.{◌≡◌, refl, ◌⊎◌, ◌≢◌, Bool, true, false, cond, ◌&&◌, List, ℕ, ◌<◌, length, ltb}
use Rattle.std.proofs.Common.{sym, ap, ◌∙◌, subst, inl, inr, ⊎_elim, arith, ltb-true, ltb-false}
use Rattle.std.proofs.lemmas.Bool.{false≢true}
use Rattle.std.proofs.Math.Option.{Option, none, some}
use Rattle.pair.specs.kinds.Tools.{key_of, get_below, true_false, none_some, same?, key_yes, key_no, key?, free_none}
use Rattle.scan.specs.Bools.{and_r, known}
use Rattle.message.specs.declared.Record.{Record}
use Rattle.message.specs.declared.Verdict.TheVariants.{Read}
use Rattle.reader.specs.Reading.{Judged}
use Rattle.places.specs.Place.{Place, At, Nowhere}
use Rattle.places.specs.Places.{Places, is_free, get, set, length_set, get_set, get_other, every_get, every_set, found_below, found_has, found_none}
use Rattle.flights.specs.Flight.{Flight}
use Rattle.flights.specs.Decoded.{SoundPlace}
use Rattle.flights.specs.Holding.{Alike, ApartPlaces, FlightsFormed}
use Rattle.deeds.specs.declared.Deed.{Deed}
use Rattle.deeds.specs.declared.Deed.TheVariants.{Files, Enters, Amends, Estimates, Cancels, Offers, Retracts, Accepts, Nothing}
use Rattle.deeds.specs.declared.Decision.{Decision}
use Rattle.deeds.specs.declared.Decision.TheVariants.{Fails, Full, Done}
use Rattle.deeds.specs.Message.{Message, message_of}
use Rattle.deeds.specs.Deeds.{Key, same_key, deed_of, old, new, is_filed, refers, may_on, makes, may, becomes}
use Rattle.deeds.specs.Applying.{where_is, lowest_free, held_at, flight_under, other, or_free, home, allowed, decided_at, decision, after, applied, asked}
use Rattle.pair.specs.views.Tables.{Single}
use Rattle.pair.specs.keeping.Said.{Says, Stated, stated}
use Rattle.pair.specs.keeping.Becoming.{Under, becomes_stated}
use Rattle.perform.specs.Ready.{done_by, done_at}
use Rattle.deeds.specs.Tests.{same_key_lem as key_eq}

-- ONE PLACE OF A KEY

key_alike : (x y : Flight) → key_of x ≡ key_of y → Alike x y
key_alike x y e = record { aircraft = ap (λ (k : Key). k.aircraft) e; departure = ap (λ (k : Key). k.departure) e; destination = ap (λ (k : Key). k.destination) e }

alike_key : (x y : Flight) → Alike x y → key_of x ≡ key_of y
alike_key x y a = λ i. record { aircraft = a.aircraft i; departure = a.departure i; destination = a.destination i }

apart_some : (a b : Option Flight) (x y : Flight) → a ≡ some x → b ≡ some y → ApartPlaces a b → key_of x ≡ key_of y → ⊥
apart_some a b x y p q h e =
    let g : ApartPlaces (some x) (some y) = subst (λ (u : Option Flight). ApartPlaces u (some y)) p (subst (ApartPlaces a) q h) in
    g (key_alike x y e)

apart_of : (a b : Option Flight) → ((x y : Flight) → a ≡ some x → b ≡ some y → key_of x ≡ key_of y → ⊥) → ApartPlaces a b
apart_of none b h = tt
apart_of (some x) none h = tt
apart_of (some x) (some y) h = λ a. h x y refl refl (alike_key x y a)

pub order? : (i j : ℕ) → (i ≡ j) ⊎ ((i < j) ⊎ (j < i))
order? i j =
    ⊎_elim (λ a. inr (inl (ltb-true i j a)))
    (λ a. ⊎_elim (λ b. inr (inr (ltb-true j i b))) (λ b. inl (omega (arith, ltb-false i j a, ltb-false j i b))) (known (ltb j i)))
    (known (ltb i j))

distinct : (l : Places Flight) → FlightsFormed l → Single l
distinct l f i j x y p q e = go (order? i j)
  where
    go : (i ≡ j) ⊎ ((i < j) ⊎ (j < i)) → i ≡ j
    go (inl h) = h
    go (inr (inl h)) = absurd (apart_some (get i l) (get j l) x y p q (f.keys j (get_below j l y q) i h) e)
    go (inr (inr h)) = absurd (apart_some (get j l) (get i l) y x q p (f.keys i (get_below i l x p) j h) (sym e))

-- no place but i has a flight of this key
abbrev Alone : Key → ℕ → Places Flight → Type 0
Alone k i l = (j : ℕ) (y : Flight) → get j l ≡ some y → key_of y ≡ k → j ≡ i

under_some : (k : Key) (z : Option Flight) (x : Flight) → Under k z → z ≡ some x → key_of x ≡ k
under_some k z x u e = subst (Under k) e u

module _ (l : Places Flight) (i : ℕ) (z : Option Flight) (k : Key) (f : FlightsFormed l) (h : i < length l) (s : SoundPlace z) (u : Under k z) (a : Alone k i l) where
  set_distinct : Single (set i z l)
  set_distinct m n x y p q e = go (same? m i) (same? n i)
    where
      -- the place c that was written has the key k, and so no other place has it
      one : (b c : ℕ) (v w : Flight) → b ≢ i → c ≡ i → get b (set i z l) ≡ some v → get c (set i z l) ≡ some w → key_of v ≡ key_of w → ⊥
      one b c v w d o g r t =
          let j : z ≡ some w = sym (get_set i z l h) ∙ ap (λ (j : ℕ). get j (set i z l)) (sym o) ∙ r in
          d (a b v (sym (get_other i b z l d) ∙ g) (t ∙ under_some k z w u j))

      go : (m ≡ i) ⊎ (m ≢ i) → (n ≡ i) ⊎ (n ≢ i) → m ≡ n
      go (inl c) (inl d) = c ∙ sym d
      go (inl c) (inr d) = absurd (one n m y x d c q p (sym e))
      go (inr c) (inl d) = absurd (one m n x y c d p q e)
      go (inr c) (inr d) = distinct l f m n x y (sym (get_other i m z l c) ∙ p) (sym (get_other i n z l d) ∙ q) e

  set_formed : FlightsFormed (set i z l)
  set_formed =
      let n : length (set i z l) ≡ length l = length_set i z l in
      record {
        least = omega (arith, f.least);
        most = omega (arith, f.most);
        each = every_set SoundPlace i z l s f.each;
        keys = λ b p c q. apart_of (get c (set i z l)) (get b (set i z l)) (λ x y v w e. let o : c ≡ b = set_distinct c b x y v w e in absurd (omega arith));
      }

-- WHERE A KEY IS

module _ (k : Key) where
  asked_under : (z : Option Flight) → asked k z ≡ true → Under k z
  asked_under none e = tt
  asked_under (some x) e = key_eq (key_of x) k e

  asked_some : (z : Option Flight) → asked k z ≡ true → z ≡ none → ⊥
  asked_some none e n = false≢true e
  asked_some (some x) e n = none_some n refl

  under_asked : (z : Option Flight) (x : Flight) → z ≡ some x → key_of x ≡ k → asked k z ≡ true
  under_asked z x e h = ap (asked k) e ∙ key_yes (key_of x) k h

  -- where it is nowhere, no place has it
  nowhere_alone : (i : ℕ) (l : Places Flight) → where_is k l ≡ Nowhere → Alone k i l
  nowhere_alone i l w j y e h = absurd (true_false (under_asked (get j l) y e h) (found_none (asked k) 0 j l w (get_below j l y e)))

  none_nowhere : (l : Places Flight) → flight_under k l ≡ none → where_is k l ≡ Nowhere
  none_nowhere l e = go (where_is k l) refl
    where
      go : (p : Place) → where_is k l ≡ p → where_is k l ≡ Nowhere
      go (At i) w = absurd (asked_some (get i l) (found_has (asked k) i l w) (ap (λ (p : Place). held_at p l) (sym w) ∙ e))
      go Nowhere w = w

  found_alone : (i : ℕ) (l : Places Flight) → FlightsFormed l → where_is k l ≡ At i → Alone k i l
  found_alone i l f w = go (get i l) refl
    where
      go : (z : Option Flight) → get i l ≡ z → Alone k i l
      go none g = absurd (asked_some (get i l) (found_has (asked k) i l w) g)
      go (some x) g = λ j y e h. distinct l f j i y x e g (h ∙ sym (under_some k (get i l) x (asked_under (get i l) (found_has (asked k) i l w)) g))

-- WHERE IT IS DONE

-- place i is where the message is done: its flight stands there, or the place is free and no flight has the key
record Home (m : Message) (l : Places Flight) (i : ℕ) : Type 0 where
  within : i < length l
  allows : may (deed_of m) m (get i l) (other m l) ≡ true
  under : Under (old m) (get i l)
  alone : Alone (old m) i l

home_is : (m : Message) (l : Places Flight) (i : ℕ) → FlightsFormed l → decision m l ≡ Done i → Home m l i
unfolding decision
home_is m l i f e = go (where_is (old m) l) refl
  where
    go : (p : Place) → where_is (old m) l ≡ p → Home m l i
    go (At j) w =
        let q = done_by (allowed m l) (decided_at (home m l)) i e in
        let c : At j ≡ At i = ap (λ (p : Place). or_free p l) (sym w) ∙ done_at (home m l) i q.1 in
        let v : where_is (old m) l ≡ At i = w ∙ c in
        record {
          within = omega (arith, found_below (asked (old m)) 0 i l v);
          allows = ap (λ (p : Place). may (deed_of m) m (held_at p l) (other m l)) (sym v) ∙ q.0;
          under = asked_under (old m) (get i l) (found_has (asked (old m)) i l v);
          alone = found_alone (old m) i l f v;
        }
    go Nowhere w =
        let q = done_by (allowed m l) (decided_at (home m l)) i e in
        let v : lowest_free l ≡ At i = ap (λ (p : Place). or_free p l) (sym w) ∙ done_at (home m l) i q.1 in
        let n : get i l ≡ none = free_none (get i l) (found_has is_free i l v) in
        record {
          within = omega (arith, found_below is_free 0 i l v);
          allows = ap (λ (z : Option Flight). may (deed_of m) m z (other m l)) (n ∙ ap (λ (p : Place). held_at p l) (sym w)) ∙ q.0;
          under = subst (Under (old m)) (sym n) tt;
          alone = nowhere_alone (old m) i l w;
        }

-- THE NEW KEY is the old one, or unused

new_unused : (d : Deed) (m : Message) (x y : Option Flight) → Says d m → may d m x y ≡ true → (new m ≡ old m) ⊎ (y ≡ none)
unfolding may may_on makes
new_unused Files m x y q e = inl q.1
new_unused Enters m x y q e = inl q.2
new_unused Amends m none y q e = absurd (false≢true e)
new_unused Amends m (some x) none q e = inr refl
new_unused Amends m (some x) (some y) q e = absurd (false≢true (and_r (is_filed x.status && refers m x) false e))
new_unused Estimates m x y q e = inl q.1
new_unused Cancels m x y q e = inl q
new_unused Offers m x y q e = inl q
new_unused Retracts m x y q e = inl q
new_unused Accepts m x y q e = inl q
new_unused Nothing m none y q e = absurd (false≢true e)
new_unused Nothing m (some x) y q e = absurd (false≢true e)

-- so no other place has it
new_alone : (m : Message) (l : Places Flight) (i : ℕ) → Stated m → Home m l i → Alone (new m) i l
unfolding other
new_alone m l i t h = ⊎_elim same (λ d. ⊎_elim same (fresh d) (new_unused (deed_of m) m (get i l) (other m l) t.says h.allows)) (key? (new m) (old m))
  where
    same : new m ≡ old m → Alone (new m) i l
    same e = subst (λ (k : Key). Alone k i l) (sym e) h.alone

    fresh : new m ≢ old m → cond (same_key (new m) (old m)) none (flight_under (new m) l) ≡ none → Alone (new m) i l
    fresh d e =
        let u : flight_under (new m) l ≡ none = ap (λ (b : Bool). cond b none (flight_under (new m) l)) (sym (key_no (new m) (old m) d)) ∙ e in
        nowhere_alone (new m) i l (none_nowhere (new m) l u)

-- THE TABLE AFTERWARDS

pub record Kept (l l' : Places Flight) : Type 0 where
  pub formed : FlightsFormed l'
  pub size : length l' ≡ length l

pub applied_stated : (m : Message) (l : Places Flight) → Stated m → FlightsFormed l → Kept l (applied m l)
unfolding after
applied_stated m l t f = go (decision m l) refl
  where
    go : (c : Decision) → decision m l ≡ c → Kept l (after c m l)
    go Fails e = record { formed = f; size = refl }
    go Full e = record { formed = f; size = refl }
    go (Done i) e =
        let h = home_is m l i f e in
        let z = becomes_stated m t (get i l) (other m l) h.allows (every_get SoundPlace i l f.each h.within) h.under in
        record {
          formed = set_formed l i (becomes (deed_of m) m (get i l)) (new m) f h.within z.sound z.under (new_alone m l i t h);
          size = length_set i (becomes (deed_of m) m (get i l)) l;
        }

-- of a text that is read
pub applied_formed : (w : List ℕ) (r : Record) (l : Places Flight) → FlightsFormed l → Judged w Read r → FlightsFormed (applied (message_of w r) l) × (length (applied (message_of w r) l) ≡ length l)
applied_formed w r l f j = let k = applied_stated (message_of w r) l (stated w r j) f in (k.formed, k.size)
