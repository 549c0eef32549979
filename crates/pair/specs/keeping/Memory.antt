-- A WELL FORMED END IS ONE THAT WELL FORMED MEMORY HOLDS, and a fresh end is one.
use Rattle.std.specs.Prelude.{◌≡◌, refl, ◌⊎◌, Bool, true, false, List, ℕ, zero, suc, ◌*◌, ◌≤◌, ◌<◌, length, replicate}
use Rattle.std.proofs.Common.{sym, ap, ◌∙◌, subst, inl, inr, arith}
use Rattle.std.proofs.lemmas.Bool.{false≢true}
use Rattle.std.proofs.Math.Option.{Option, none, some}
use Rattle.std.proofs.lemmas.List.{length-replicate, get_or-replicate}
use Rattle.pair.specs.kinds.Tools.{get_below, none_some, some_inj}
use Rattle.head.specs.declared.Head.{Head}
use Rattle.head.specs.Sound.{Names}
use Rattle.places.specs.Places.{Places, get, empty, Every, every_as, every_of}
use Rattle.places.specs.Forms.{bytes_or, bytes_of, places_from}
use Rattle.places.specs.Stored.{Kept, Fits, places_back, length_bytes, place_bytes}
use Rattle.flights.specs.Flight.{Flight}
use Rattle.flights.specs.Decoded.{SoundPlace, flights_back}
use Rattle.flights.specs.Holding.{ApartPlaces, FlightsFormed, flights_formed, table_formed}
use Rattle.unanswered.specs.Waiting.{Waiting, waiting_of, Proper, WellFormed, place, Apart, UnansweredFormed}
use Rattle.unanswered.specs.Encoded.{bytes_long, proper_short}
use Rattle.unanswered.specs.Encoded as encoded
use Rattle.answers.specs.Given.{is_value, AnswersFormed}
use Rattle.memory.specs.End.{End, Memory, Formed, waiting_form, waiting_in, end_of, memory_of}
use Rattle.memory.specs.Held.{sixteen, waiting_free, waiting_used}
use Rattle.rules.specs.Sending.{fresh}
use Rattle.pair.specs.kinds.Ends.{WaitingFormed, SoundEnd}
use Rattle.pair.specs.keeping.Applied.{order?}
use Rattle.places.specs.Bytes.{free}

-- FROM THE MEMORY

-- a place that holds a message is used, and the message is the one that is read off it
record UsedBy (ours partners t : List ℕ) (i : ℕ) (q : Waiting) : Type 0 where
  below : i < 16
  used : free (place i t) ≡ false
  is : waiting_of (place i t) ≡ q
  proper : Proper ours partners q

module _ (ours partners t : List ℕ) (f : UnansweredFormed ours partners t) where
  used_by : (i : ℕ) (q : Waiting) → get i (waiting_in t) ≡ some q → UsedBy ours partners t i q
  used_by i q e = go (free (place i t)) refl
    where
      h : i < 16
      h = omega (arith, get_below i (waiting_in t) q e, sixteen t)

      go : (b : Bool) → free (place i t) ≡ b → UsedBy ours partners t i q
      go true u = absurd (none_some (waiting_free t i h u) e)
      go false u =
          let w = waiting_used f i h u in
          let z : waiting_of (place i t) ≡ q = some_inj w.holds e in
          record { below = h; used = u; is = z; proper = subst (Proper ours partners) z w.proper }

  one_place : (i j : ℕ) (p q : Waiting) → UsedBy ours partners t i p → UsedBy ours partners t j q → p.number ≡ q.number → i ≡ j
  one_place i j p q a b n = go (order? i j)
    where
      m : (waiting_of (place i t)).number ≡ (waiting_of (place j t)).number
      m = ap (λ (o : Waiting). o.number) a.is ∙ n ∙ ap (λ (o : Waiting). o.number) (sym b.is)

      go : (i ≡ j) ⊎ ((i < j) ⊎ (j < i)) → i ≡ j
      go (inl h) = h
      go (inr (inl h)) = absurd (f.numbers j b.below i h a.used b.used m)
      go (inr (inr h)) = absurd (f.numbers i a.below j h b.used a.used (sym m))

  waiting_formed : WaitingFormed ours partners (waiting_in t)
  waiting_formed = record {
    whole = sixteen t;
    each = λ i q e. (used_by i q e).proper;
    numbers = λ i j p q d e n. one_place i j p q (used_by i p d) (used_by j q e) n;
  }

pub sound_of : (h : Head) (m : Memory) → Formed h m → SoundEnd (end_of h m)
sound_of h m f = record {
  head = f.head;
  sent = flights_formed m.sent f.sent;
  received = flights_formed m.received f.received;
  unanswered = waiting_formed h.ours h.partners m.unanswered f.unanswered;
  answers = f.answers;
}

-- TO THE MEMORY

module _ (ours partners : List ℕ) (l : Places Waiting) (f : WaitingFormed ours partners l) where
  kept_place : (x : Option Waiting) → ((q : Waiting) → x ≡ some q → Proper ours partners q) → Kept waiting_form x
  kept_place none h = (length-replicate {A = ℕ} 1280 0, refl)
  kept_place (some q) h = (bytes_long q (proper_short q (h q refl)), ap (λ (o : Waiting). some o) (encoded.waiting_back q))

  all_kept : Every (Kept waiting_form) l
  all_kept = every_of (Kept waiting_form) l (λ i h. kept_place (get i l) (f.each i))

  all_fit : Every (Fits waiting_form) l
  all_fit = every_as (λ x k. k.0) l all_kept

  place_is : (i : ℕ) → i < 16 → place i (bytes_of waiting_form l) ≡ bytes_or waiting_form (get i l)
  place_is i h = place_bytes waiting_form i l (omega (arith, f.whole)) all_fit

  formed_place : (x : Option Waiting) → ((q : Waiting) → x ≡ some q → Proper ours partners q) → WellFormed ours partners (bytes_or waiting_form x)
  formed_place none h = inl refl
  formed_place (some q) h = inr (q, refl, h q refl)

  apart_bytes : (x y : Option Waiting) → ((p q : Waiting) → x ≡ some p → y ≡ some q → p.number ≡ q.number → ⊥) → Apart (bytes_or waiting_form x) (bytes_or waiting_form y)
  apart_bytes none y h = λ u v n. false≢true (sym u)
  apart_bytes (some p) none h = λ u v n. false≢true (sym v)
  apart_bytes (some p) (some q) h = λ u v n. h p q refl refl (sym (ap (λ (o : Waiting). o.number) (encoded.waiting_back p)) ∙ n ∙ ap (λ (o : Waiting). o.number) (encoded.waiting_back q))

  unanswered_formed : UnansweredFormed ours partners (bytes_of waiting_form l)
  unanswered_formed =
      let n = length_bytes waiting_form l all_fit in
      record {
        whole = n ∙ ap (λ (k : ℕ). k * 1280) f.whole;
        each = λ i h. subst (WellFormed ours partners) (sym (place_is i h)) (formed_place (get i l) (f.each i));
        numbers = λ i h j k.
            let a : Apart (bytes_or waiting_form (get j l)) (bytes_or waiting_form (get i l)) = apart_bytes (get j l) (get i l) (λ p q d e m. let z : j ≡ i = f.numbers j i p q d e m in absurd (omega arith)) in
            subst (λ (b : List ℕ). Apart b (place i (bytes_of waiting_form l))) (sym (place_is j (omega arith))) (subst (Apart (bytes_or waiting_form (get j l))) (sym (place_is i h)) a);
      }

  waiting_again : waiting_in (bytes_of waiting_form l) ≡ l
  waiting_again = ap (λ (k : ℕ). places_from waiting_form k (bytes_of waiting_form l)) (sym f.whole) ∙ places_back waiting_form l all_kept

pub formed_of : (e : End) → SoundEnd e → Formed e.head (memory_of e)
formed_of e s = record {
  head = s.head;
  sent = table_formed e.sent s.sent;
  received = table_formed e.received s.received;
  unanswered = unanswered_formed e.head.ours e.head.partners e.unanswered s.unanswered;
  answers = s.answers;
}

pub end_back : (e : End) → SoundEnd e → end_of e.head (memory_of e) ≡ e
end_back e s = λ i. record {
  head = e.head;
  sent = flights_back e.sent s.sent.each i;
  received = flights_back e.received s.received.each i;
  unanswered = waiting_again e.head.ours e.head.partners e.unanswered s.unanswered i;
  answers = e.answers;
}

-- A FRESH END

length_empty : (A : Type 0) (k : ℕ) → length (empty {A = A} k) ≡ k
unfolding empty
length_empty A zero = refl
length_empty A (suc k) = ap suc (length_empty A k)

get_empty : (A : Type 0) (i k : ℕ) → get i (empty {A = A} k) ≡ none
unfolding empty get
get_empty A i zero = refl
get_empty A zero (suc k) = refl
get_empty A (suc i) (suc k) = get_empty A i k

empty_flights : (k : ℕ) → 1 ≤ k → k ≤ 32 → FlightsFormed (empty k)
empty_flights k a b =
    let n : length (empty {A = Flight} k) ≡ k = length_empty Flight k in
    record {
      least = omega arith;
      most = omega arith;
      each = every_of SoundPlace (empty k) (λ i h. subst SoundPlace (sym (get_empty Flight i k)) tt);
      keys = λ i h j l. subst (λ (x : Option Flight). ApartPlaces x (get i (empty k))) (sym (get_empty Flight j k)) tt;
    }

empty_waiting : (ours partners : List ℕ) → WaitingFormed ours partners (empty 16)
empty_waiting ours partners = record {
  whole = length_empty Waiting 16;
  each = λ i q e. absurd (none_some (get_empty Waiting i 16) e);
  numbers = λ i j p q d e n. absurd (none_some (get_empty Waiting i 16) d);
}

no_answers : AnswersFormed (replicate 1000 0)
unfolding is_value
no_answers = record { whole = length-replicate {A = ℕ} 1000 0; values = λ i h. ap is_value (get_or-replicate {A = ℕ} 1000 i 0 0 h) }

pub fresh_sound : (ours partners : List ℕ) (a b : ℕ) → Names ours partners → 1 ≤ a → a ≤ 32 → 1 ≤ b → b ≤ 32 → SoundEnd (fresh ours partners a b)
fresh_sound ours partners a b o l m k n = record {
  head = record { names = o; next = omega arith; highest = omega arith };
  sent = empty_flights a l m;
  received = empty_flights b k n;
  unanswered = empty_waiting ours partners;
  answers = no_answers;
}
