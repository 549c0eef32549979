-- WHAT THE MEMORY HOLDS: the messages that wait in it, and the memory from the end.
use Rattle.std.specs.Prelude.{◌≡◌, refl, Bool, true, false, cond, not, ◌&&◌, List, ℕ, ◌*◌, ◌≤◌, ◌<◌, length, replicate, eqb}
use Rattle.std.proofs.Common.{sym, ap, ◌∙◌, subst, inl, inr, arith, eqb-true}
use Rattle.std.proofs.lemmas.Bool.{false≢true}
use Rattle.std.proofs.Math.Option.{Option, none, some}
use Rattle.std.proofs.lemmas.List.{length-replicate}
use Rattle.scan.specs.Bools.{Decides, decides_and, decides_as}
use Rattle.splice.specs.Splice.{splice}
use Rattle.head.specs.declared.Head.{Head}
use Rattle.head.specs.Sound.{HeadFormed}
use Rattle.places.specs.Place.{At}
use Rattle.places.specs.Bytes.{number_at, free}
use Rattle.places.specs.Search.{first_from}
use Rattle.places.specs.Places.{is_free, get, set, first_of, empty, Every, every_of, found_below, found_has}
use Rattle.places.specs.Forms.{bytes_or, bytes_of}
use Rattle.places.specs.Stored.{Fits, length_places, get_places, first_places, bytes_back, bytes_set, bytes_empty}
use Rattle.flights.specs.Formed.{TableFormed}
use Rattle.flights.specs.Decoded.{flight_form, table_of, table_back}
use Rattle.unanswered.specs.Waiting.{Waiting, waiting_bytes, free_bytes, waiting_of, Proper, WellFormed, place, UnansweredFormed, found, lowest_free}
use Rattle.unanswered.specs.Encoded as encoded
use Rattle.unanswered.specs.Encoded.{bytes_long, proper_short}
use Rattle.unanswered.specs.Deciding.{formed_short, formed_proper}
use Rattle.answers.specs.Given.{AnswersFormed}
use Rattle.memory.specs.End.{Memory, Formed, FormedBeside, read_waiting, waiting_form, waiting_in, numbered, end_of, memory_of}

-- WELL FORMED, part by part
pub beside_is : (h : Head) (S R A : List ℕ) {a b c d : Bool} → Decides a (HeadFormed h) → Decides b (TableFormed S) → Decides c (TableFormed R) → Decides d (AnswersFormed A) → Decides (((a && b) && c) && d) (FormedBeside h S R A)
beside_is h S R A a b c d =
    decides_as
    (λ p. record { head = p.0.0.0; sent = p.0.0.1; received = p.0.1; answers = p.1 })
    (λ f. (((f.head, f.sent), f.received), f.answers))
    (decides_and (decides_and (decides_and a b) c) d)

pub all_formed : (h : Head) (m : Memory) → FormedBeside h m.sent m.received m.answers → UnansweredFormed h.ours h.partners m.unanswered → Formed h m
all_formed h m f u = record { head = f.head; sent = f.sent; received = f.received; unanswered = u; answers = f.answers }

pub memory_is : (h : Head) (m : Memory) {a b : Bool} → Decides a (FormedBeside h m.sent m.received m.answers) → Decides b (UnansweredFormed h.ours h.partners m.unanswered) → Decides (a && b) (Formed h m)
memory_is h m a b =
    decides_as
    (λ p. all_formed h m p.0 p.1)
    (λ f. (record { head = f.head; sent = f.sent; received = f.received; answers = f.answers }, f.unanswered))
    (decides_and a b)

-- THE 16 PLACES

pub sixteen : (t : List ℕ) → length (waiting_in t) ≡ 16
sixteen t = length_places waiting_form 16 t

-- each of them
pub waiting_in_lem : (t : List ℕ) (i : ℕ) → i < 16 → get i (waiting_in t) ≡ read_waiting (place i t)
waiting_in_lem t i h = get_places waiting_form i 16 t h

pub waiting_free : (t : List ℕ) (i : ℕ) → i < 16 → free (place i t) ≡ true → get i (waiting_in t) ≡ none
waiting_free t i h u = waiting_in_lem t i h ∙ ap (λ (b : Bool). cond b none (some (waiting_of (place i t)))) u

-- one that was found is one of them
pub waiting_below : (p : Option Waiting → Bool) (t : List ℕ) (i : ℕ) → first_of p 0 (waiting_in t) ≡ At i → i < 16
waiting_below p t i e = omega (arith, found_below p 0 i (waiting_in t) e, sixteen t)

-- SEARCHES over the bytes are those over what they hold

numbered_is : (n : ℕ) (b : Bool) (q : Waiting) → not b && eqb q.number n ≡ numbered n (cond b none (some q))
unfolding numbered
numbered_is n true q = refl
numbered_is n false q = refl

free_is : (b : Bool) (q : Waiting) → b ≡ is_free (cond b none (some q))
free_is true q = refl
free_is false q = refl

pub found_waiting : (n : ℕ) (t : List ℕ) → found n t ≡ first_of (numbered n) 0 (waiting_in t)
found_waiting n t =
    (λ j. first_from (λ i. numbered_is n (free (place i t)) (waiting_of (place i t)) j) 16 0) ∙ sym (first_places waiting_form (numbered n) 16 t)

pub free_waiting : (t : List ℕ) → lowest_free t ≡ first_of is_free 0 (waiting_in t)
free_waiting t =
    (λ j. first_from (λ i. free_is (free (place i t)) (waiting_of (place i t)) j) 16 0) ∙ sym (first_places waiting_form is_free 16 t)

-- A PLACE THAT IS USED

pub record UsedAt (ours partners t : List ℕ) (i : ℕ) : Type 0 where
  pub holds : get i (waiting_in t) ≡ some (waiting_of (place i t))
  pub proper : Proper ours partners (waiting_of (place i t))
  pub short : number_at 3 (place i t) ≤ 1275

-- with the number n
pub record NumberedAt (n : ℕ) (ours partners t : List ℕ) (i : ℕ) : Type 0 where
  pub below : i < 16
  pub used : free (place i t) ≡ false
  pub holds : get i (waiting_in t) ≡ some (waiting_of (place i t))
  pub proper : Proper ours partners (waiting_of (place i t))
  pub number : (waiting_of (place i t)).number ≡ n
  pub short : number_at 3 (place i t) ≤ 1275

numbered_has : (n : ℕ) (b : Bool) (q : Waiting) → numbered n (cond b none (some q)) ≡ true → (b ≡ false) × (q.number ≡ n)
unfolding numbered
numbered_has n true q e = absurd (false≢true e)
numbered_has n false q e = (refl, eqb-true q.number n e)

-- WHAT A WELL FORMED PLACE HOLDS

free_fits : Fits waiting_form none
free_fits = length-replicate {A = ℕ} 1280 0

place_back : (ours partners b : List ℕ) → WellFormed ours partners b → bytes_or waiting_form (read_waiting b) ≡ b
place_back ours partners b (inl e) = ap (λ (x : List ℕ). bytes_or waiting_form (read_waiting x)) e ∙ sym e
place_back ours partners b (inr u) = ap (λ (x : List ℕ). bytes_or waiting_form (read_waiting x)) u.1 ∙ ap waiting_bytes (encoded.waiting_back u.0) ∙ sym u.1

place_fits : (ours partners b : List ℕ) → WellFormed ours partners b → Fits waiting_form (read_waiting b)
place_fits ours partners b (inl e) = subst (λ (x : List ℕ). Fits waiting_form (read_waiting x)) (sym e) free_fits
place_fits ours partners b (inr u) =
    let r : read_waiting b ≡ some u.0 = ap read_waiting u.1 ∙ ap (λ (q : Waiting). some q) (encoded.waiting_back u.0) in
    subst (Fits waiting_form) (sym r) (bytes_long u.0 (proper_short u.0 u.2))

module _ {ours partners t : List ℕ} (f : UnansweredFormed ours partners t) where
  pub waiting_used : (i : ℕ) → i < 16 → free (place i t) ≡ false → UsedAt ours partners t i
  waiting_used i h u = record {
    holds = waiting_in_lem t i h ∙ ap (λ (b : Bool). cond b none (some (waiting_of (place i t)))) u;
    proper = formed_proper ours partners (place i t) (f.each i h) u;
    short = formed_short ours partners (place i t) (f.each i h);
  }

  pub waiting_at_lem : (n i : ℕ) → first_of (numbered n) 0 (waiting_in t) ≡ At i → NumberedAt n ours partners t i
  waiting_at_lem n i e =
      let h : i < 16 = waiting_below (numbered n) t i e in
      let b : numbered n (read_waiting (place i t)) ≡ true = ap (numbered n) (sym (waiting_in_lem t i h)) ∙ found_has (numbered n) i (waiting_in t) e in
      let s = numbered_has n (free (place i t)) (waiting_of (place i t)) b in
      let w = waiting_used i h s.0 in
      record { below = h; used = s.0; holds = w.holds; proper = w.proper; number = s.1; short = w.short }

  -- THE BYTES FROM WHAT THEY HOLD
  pub waiting_back : bytes_of waiting_form (waiting_in t) ≡ t
  waiting_back = bytes_back waiting_form 16 t f.whole (λ i h. place_back ours partners (place i t) (f.each i h))

  each_fits : Every (Fits waiting_form) (waiting_in t)
  each_fits =
      every_of (Fits waiting_form) (waiting_in t)
      (λ i l. let h : i < 16 = omega (arith, sixteen t) in subst (Fits waiting_form) (sym (waiting_in_lem t i h)) (place_fits ours partners (place i t) (f.each i h)))

  -- and what is written to them is what they then hold
  put_waiting : (i : ℕ) (y : Option Waiting) → i < 16 → Fits waiting_form y → splice (i * 1280) (bytes_or waiting_form y) t ≡ bytes_of waiting_form (set i y (waiting_in t))
  put_waiting i y h k =
      ap (splice (i * 1280) (bytes_or waiting_form y)) (sym waiting_back) ∙ sym (bytes_set waiting_form i y (waiting_in t) (omega (arith, sixteen t)) k each_fits)

  pub freed : (i : ℕ) → i < 16 → splice (i * 1280) free_bytes t ≡ bytes_of waiting_form (set i none (waiting_in t))
  freed i h = put_waiting i none h free_fits

  pub stored : (i : ℕ) (q : Waiting) → i < 16 → length q.text ≤ 1275 → splice (i * 1280) (waiting_bytes q) t ≡ bytes_of waiting_form (set i (some q) (waiting_in t))
  stored i q h k = put_waiting i (some q) h (bytes_long q k)

-- THE MEMORY FROM THE END
pub memory_back : {h : Head} {m : Memory} → Formed h m → memory_of (end_of h m) ≡ m
memory_back {h} {m} f = λ i. record {
  sent = table_back m.sent f.sent i;
  received = table_back m.received f.received i;
  unanswered = waiting_back f.unanswered i;
  answers = m.answers;
}

-- WHERE ALL PLACES ARE FREE, all is zero

pub table_empty : (k : ℕ) → table_of (empty k) ≡ replicate (k * 768) 0
table_empty k = bytes_empty flight_form k

pub waiting_empty : bytes_of waiting_form (empty 16) ≡ replicate 20480 0
waiting_empty = bytes_empty waiting_form 16
