-- WHAT IS ASKED OF THE UNANSWERED MESSAGES, place by place.
use Rattle.std.specs.Prelude.{◌≡◌, Bool, not, ◌&&◌, ◌||◌, take, drop, get_or, eqb, leb}
use Rattle.std.proofs.Math.Path.{refl, ap}
use Rattle.std.proofs.Common.{sym, ◌∙◌, drop-drop, eq-eqb, ne_eqb}
use Rattle.std.proofs.Math.Bool.{true, false, cond}
use mathlib.Core.List.{List, [], ◌∷◌}
use Rattle.std.proofs.Math.Option.{none, some}
use Prim.Native.Nat.{ℕ, suc, ◌+◌, ◌-◌, ◌*◌, ◌%◌, ◌≤◌, ◌<◌}
use native.Mathlib.Omega.{arith}
use Rattle.std.proofs.Math.ListN.{length}
use Rattle.message.specs.declared.Record.{Record}
use Rattle.message.specs.declared.Verdict.TheVariants.{Read}
use Rattle.reader.specs.Reading.{Judged}
use Rattle.places.specs.Places.{Places}
use Rattle.places.specs.Forms.{places_from}
use Rattle.places.specs.Bytes.{number_at, free}
use Rattle.unanswered.specs.Waiting.{Waiting, waiting_of, place, UnansweredFormed}
use Rattle.unanswered.specs.Formed.{lent, first_at}
use Rattle.memory.specs.End.{read_waiting, waiting_form, waiting_in}
use Rattle.memory.specs.Held.{waiting_used}
use Rattle.deeds.specs.declared.Deed.{Deed}
use Rattle.deeds.specs.Message.{Message, message_of}
use Rattle.deeds.specs.Deeds.{deed_of, makes}
use Rattle.rules.specs.Reads.{message_in, read_message}
use Rattle.rules.specs.Sending.{any_waiting, count_waiting, too_old, making, names_one, naming}

-- well formed, whatever the two names
pub record Waits (t : List ℕ) : Type 0 where
  pub ours : List ℕ
  pub partners : List ℕ
  pub formed : UnansweredFormed ours partners t

-- a place is used, and its message has p
unfoldable pub used_with : (Waiting → Bool) → List ℕ → Bool
used_with p b = not (free b) && p (waiting_of b)

-- A PLACE THAT IS FREE has nothing; of one that is used, its message is asked

-- the first byte, as the code reads it
pub first_free : (t : List ℕ) (i : ℕ) → get_or t (i * 1280) 0 ≡ 0 → free (place i t) ≡ true
first_free t i e = eq-eqb (get_or (place i t) 0 0) 0 (first_at t i ∙ e)

pub first_used : (t : List ℕ) (i : ℕ) → (get_or t (i * 1280) 0 ≡ 0 → ⊥) → free (place i t) ≡ false
first_used t i n = ne_eqb (get_or (place i t) 0 0) 0 (λ e. n (sym (first_at t i) ∙ e))

module _ (p : Waiting → Bool) (t : List ℕ) (i : ℕ) where
  pub free_has_none : free (place i t) ≡ true → false ≡ used_with p (place i t)
  unfolding used_with
  free_has_none e = rw e

  pub used_has : free (place i t) ≡ false → (b : Bool) → b ≡ p (waiting_of (place i t)) → b ≡ used_with p (place i t)
  unfolding used_with
  used_has n b e = e ∙ rw n

-- its number is that of a message
pub number_most : {t : List ℕ} → Waits t → (i : ℕ) → i < 16 → (get_or t (i * 1280) 0 ≡ 0 → ⊥) → (waiting_of (place i t)).number ≤ 999
number_most {t} k i h n = (waiting_used k.formed i h (first_used t i n)).proper.most

-- the number, as the code reads it
pub lent_number : (t : List ℕ) (i x : ℕ) → x ≡ number_at 1 (take (i * 1280 + 1280 - i * 1280) (drop (i * 1280) t)) → x ≡ (waiting_of (place i t)).number
lent_number t i x e = e ∙ ap (number_at 1) (lent t i)

-- 9
pub is_old_lem : (next x : ℕ) (q : Waiting) → x ≡ q.number → eqb ((next + 1000 - x) % 1000) 0 || leb 400 ((next + 1000 - x) % 1000) ≡ too_old next q
unfolding too_old
is_old_lem next x q e = ap (λ (y : ℕ). eqb ((next + 1000 - y) % 1000) 0 || leb 400 ((next + 1000 - y) % 1000)) e

-- 11: whether it makes a flight
pub is_making : (s : List ℕ) (r : Record) (d : Deed) (b : Bool) (q : Waiting) → Judged s Read r → s ≡ q.text → d ≡ deed_of (message_of s r) → b ≡ makes d → b ≡ making q
is_making s r d b q j e f g = g ∙ ap makes f ∙ ap (λ (m : Message). makes (deed_of m)) (read_message s r j ∙ ap message_in e)

-- 7: whether it names the flight of m
pub is_naming : (m : Message) (s : List ℕ) (r : Record) (b : Bool) (q : Waiting) → Judged s Read r → s ≡ q.text → b ≡ names_one m (message_of s r) → b ≡ naming m q
is_naming m s r b q j e g = g ∙ ap (names_one m) (read_message s r j ∙ ap message_in e)

-- THE PLACES FROM i ON

unfoldable pub rest_of : ℕ → List ℕ → Places Waiting
rest_of i t = places_from waiting_form (16 - i) (drop (i * 1280) t)

pub rest_all : (t : List ℕ) → waiting_in t ≡ rest_of 0 t
unfolding rest_of
rest_all t = refl

behind : (i : ℕ) (t : List ℕ) → drop 1280 (drop (i * 1280) t) ≡ drop ((i + 1) * 1280) t
behind i t = let e : i * 1280 + 1280 ≡ (i + 1) * 1280 = omega arith in drop-drop 1280 (i * 1280) t ∙ ap (λ (k : ℕ). drop k t) e

rest_next : (i : ℕ) (t : List ℕ) → i < 16 → rest_of i t ≡ read_waiting (place i t) ∷ rest_of (i + 1) t
unfolding rest_of places_from
rest_next i t h =
    let e : 16 - i ≡ suc (16 - (i + 1)) = omega arith in
    ap (λ (k : ℕ). places_from waiting_form k (drop (i * 1280) t)) e ∙ ap (λ (u : List ℕ). read_waiting (place i t) ∷ places_from waiting_form (16 - (i + 1)) u) (behind i t)

rest_none : (i : ℕ) (t : List ℕ) → 16 ≤ i → rest_of i t ≡ []
unfolding rest_of places_from
rest_none i t h = let e : 16 - i ≡ 0 = omega arith in ap (λ (k : ℕ). places_from waiting_form k (drop (i * 1280) t)) e

module _ (p : Waiting → Bool) where
  any_on : (b : Bool) (q : Waiting) (l : Places Waiting) → any_waiting p (cond b none (some q) ∷ l) ≡ ((not b && p q) || any_waiting p l)
  unfolding any_waiting
  any_on true q l = refl
  any_on false q l = refl

  pub any_step : (i : ℕ) (t : List ℕ) → i < 16 → any_waiting p (rest_of i t) ≡ (used_with p (place i t) || any_waiting p (rest_of (i + 1) t))
  unfolding used_with
  any_step i t h = ap (any_waiting p) (rest_next i t h) ∙ any_on (free (place i t)) (waiting_of (place i t)) (rest_of (i + 1) t)

  pub any_here : (i : ℕ) (t : List ℕ) → i < 16 → used_with p (place i t) ≡ true → any_waiting p (rest_of i t) ≡ true
  any_here i t h e = any_step i t h ∙ ap (λ (b : Bool). b || any_waiting p (rest_of (i + 1) t)) e

  pub any_next : (i : ℕ) (t : List ℕ) → i < 16 → used_with p (place i t) ≡ false → any_waiting p (rest_of i t) ≡ any_waiting p (rest_of (i + 1) t)
  any_next i t h e = any_step i t h ∙ ap (λ (b : Bool). b || any_waiting p (rest_of (i + 1) t)) e

  -- with what was found up to i
  pub any_on_further : (i : ℕ) (t : List ℕ) (all found x : Bool) → i < 16 → x ≡ used_with p (place i t) → all ≡ (found || any_waiting p (rest_of i t)) → all ≡ ((found || x) || any_waiting p (rest_of (i + 1) t))
  any_on_further i t all true x h u e = e
  any_on_further i t all false x h u e = e ∙ any_step i t h ∙ ap (λ (b : Bool). b || any_waiting p (rest_of (i + 1) t)) (sym u)

  pub any_none : (i : ℕ) (t : List ℕ) → 16 ≤ i → any_waiting p (rest_of i t) ≡ false
  unfolding any_waiting
  any_none i t h = ap (any_waiting p) (rest_none i t h)

  pub any_end : (i : ℕ) (t : List ℕ) (all found : Bool) → 16 ≤ i → all ≡ (found || any_waiting p (rest_of i t)) → found ≡ all
  any_end i t all true h e = sym e
  any_end i t all false h e = sym (e ∙ any_none i t h)

  count_on : (b : Bool) (q : Waiting) (l : Places Waiting) → count_waiting p (cond b none (some q) ∷ l) ≡ cond (not b && p q) (suc (count_waiting p l)) (count_waiting p l)
  unfolding count_waiting
  count_on true q l = refl
  count_on false q l = refl

  count_step : (i : ℕ) (t : List ℕ) → i < 16 → count_waiting p (rest_of i t) ≡ cond (used_with p (place i t)) (suc (count_waiting p (rest_of (i + 1) t))) (count_waiting p (rest_of (i + 1) t))
  unfolding used_with
  count_step i t h = ap (count_waiting p) (rest_next i t h) ∙ count_on (free (place i t)) (waiting_of (place i t)) (rest_of (i + 1) t)

  module _ (i n c : ℕ) (t : List ℕ) where
    pub count_one : i < 16 → used_with p (place i t) ≡ true → n ≡ c + count_waiting p (rest_of i t) → n ≡ c + 1 + count_waiting p (rest_of (i + 1) t)
    count_one h u e =
        let s : count_waiting p (rest_of i t) ≡ suc (count_waiting p (rest_of (i + 1) t)) = count_step i t h ∙ ap (λ (b : Bool). cond b (suc (count_waiting p (rest_of (i + 1) t))) (count_waiting p (rest_of (i + 1) t))) u in
        omega (arith, s, e)

    pub count_not : i < 16 → used_with p (place i t) ≡ false → n ≡ c + count_waiting p (rest_of i t) → n ≡ c + count_waiting p (rest_of (i + 1) t)
    count_not h u e =
        let s : count_waiting p (rest_of i t) ≡ count_waiting p (rest_of (i + 1) t) = count_step i t h ∙ ap (λ (b : Bool). cond b (suc (count_waiting p (rest_of (i + 1) t))) (count_waiting p (rest_of (i + 1) t))) u in
        omega (arith, s, e)

    pub count_end : 16 ≤ i → n ≡ c + count_waiting p (rest_of i t) → c ≡ n
    unfolding count_waiting
    count_end h e = let s : count_waiting p (rest_of i t) ≡ 0 = ap (count_waiting p) (rest_none i t h) in omega (arith, s, e)

  pub count_all : (t : List ℕ) → count_waiting p (waiting_in t) ≡ 0 + count_waiting p (rest_of 0 t)
  count_all t = let s : count_waiting p (waiting_in t) ≡ count_waiting p (rest_of 0 t) = ap (count_waiting p) (rest_all t) in omega (arith, s)

  -- at most as many as there are places
  pub count_most : (l : Places Waiting) → count_waiting p l ≤ length l
  unfolding count_waiting
  count_most [] = omega arith
  count_most (none ∷ l) = omega (arith, count_most l)
  count_most (some q ∷ l) = go (p q) (count_waiting p l) (count_most l)
    where
      go : (b : Bool) (k : ℕ) → k ≤ length l → cond b (suc k) k ≤ suc (length l)
      go true k h = omega arith
      go false k h = omega arith
