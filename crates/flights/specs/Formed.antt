-- WELL FORMED TABLES, by document 01: 1 to 32 places, each well formed, and no two used flights share a key.
use Rattle.std.specs.Prelude.{◌≡◌, refl, Bool, true, false, not, ◌&&◌, List, [], ℕ, ◌+◌, ◌-◌, ◌*◌, ◌≤◌, ◌<◌, length, take, drop, get_or}
use Rattle.std.specs.List.{All}
use Rattle.std.specs.Simd.{first_chunks}
use Rattle.std.proofs.Common.{sym, ap, ◌∙◌, subst, ⊎_elim, arith, length-drop, length-take-le, get_or-take, get_or-drop}
use Rattle.std.proofs.lemmas.Bool.{false≢true, not-true}
use Rattle.scan.specs.Bools.{known, Decides, decides_and, decides_as}
use Rattle.places.specs.Below.{Below}
use Rattle.places.specs.Chunks.{chunk_at}
use Rattle.flights.specs.Padding.{padded, trimmed, padded_back}
use Rattle.flights.specs.Flight.{flight_of, WellFormed}
use Rattle.places.specs.Bytes.{same, same_is, word_at, free}
use Rattle.flights.specs.Table.{places, place}

-- aircraft, departure and destination
pub record SameKey (a b : List ℕ) : Type 0 where
  pub aircraft : (flight_of a).aircraft ≡ (flight_of b).aircraft
  pub departure : (flight_of a).departure ≡ (flight_of b).departure
  pub destination : (flight_of a).destination ≡ (flight_of b).destination

-- not both used with one key
abbrev pub Apart : List ℕ → List ℕ → Type 0
Apart a b = free a ≡ false → free b ≡ false → SameKey a b → ⊥

-- each of some records is well formed and apart from the lower ones
abbrev pub RecordsFormed : List (List ℕ) → Type 0
RecordsFormed l = (i : ℕ) → i < length l → WellFormed (get_or l i []) × All (λ a. Apart a (get_or l i [])) (take i l)

pub record TableFormed (t : List ℕ) : Type 0 where
  pub some : 1 ≤ places t
  pub most : places t ≤ 32
  pub whole : length t ≡ places t * 768
  pub each : (i : ℕ) → i < places t → WellFormed (place i t)
  pub keys : (i : ℕ) → i < places t → (j : ℕ) → j < i → Apart (place j t) (place i t)

-- TWO PLACES

keys_same : (a b : List ℕ) → Decides ((same (flight_of a).aircraft (flight_of b).aircraft && same (flight_of a).departure (flight_of b).departure) && same (flight_of a).destination (flight_of b).destination) (SameKey a b)
keys_same a b =
    decides_as (λ p. record { aircraft = p.0.0; departure = p.0.1; destination = p.1 }) (λ k. ((k.aircraft, k.departure), k.destination))
    (decides_and (decides_and (same_is (flight_of a).aircraft (flight_of b).aircraft) (same_is (flight_of a).departure (flight_of b).departure)) (same_is (flight_of a).destination (flight_of b).destination))

used_apart : (a b : List ℕ) → free a ≡ false → free b ≡ false → (x y z : Bool) → x ≡ same (flight_of a).aircraft (flight_of b).aircraft → y ≡ same (flight_of a).departure (flight_of b).departure → z ≡ same (flight_of a).destination (flight_of b).destination → Decides (not ((x && y) && z)) (Apart a b)
used_apart a b u v x y z p q r =
    let s : (x && y) && z ≡ ((same (flight_of a).aircraft (flight_of b).aircraft && same (flight_of a).departure (flight_of b).departure) && same (flight_of a).destination (flight_of b).destination) = λ i. (p i && q i) && r i in
    let d = keys_same a b in
    record {
      yes = λ e f g k. false≢true (sym (not-true ((x && y) && z) e) ∙ s ∙ d.no k);
      no = λ h. ⊎_elim (λ t. absurd (h u v (d.yes (sym s ∙ t)))) (λ t. ap not t) (known ((x && y) && z));
    }

-- A TEXT IN ITS WIDTH is told by its bytes as they stand, so keys are compared with their padding

agree : {b c : Bool} {P Q : Type 0} → Decides b P → Decides c Q → (P → Q) → (Q → P) → b ≡ c
agree {b} {c} x y f g = ⊎_elim (λ e. e ∙ sym (y.no (f (x.yes e)))) (λ e. e ∙ ⊎_elim (λ u. absurd (false≢true (sym e ∙ x.no (g (y.yes u))))) (λ u. sym u) (known c)) (known b)

whole_text : (w : ℕ) (s t : List ℕ) → length s ≡ w → length t ≡ w → trimmed s ≡ trimmed t → s ≡ t
whole_text w s t p q e = sym (padded_back w s p) ∙ ap (padded w) e ∙ padded_back w t q

raw_same : (w : ℕ) (s t : List ℕ) → length s ≡ w → length t ≡ w → same s t ≡ same (trimmed s) (trimmed t)
raw_same w s t p q = agree (same_is s t) (same_is (trimmed s) (trimmed t)) (ap trimmed) (whole_text w s t p q)

module _ (a b : List ℕ) (p : length a ≡ 768) (q : length b ≡ 768) where
  cut_long : (l : List ℕ) (at w : ℕ) → length l ≡ 768 → at + w ≤ 768 → length (take w (drop at l)) ≡ w
  cut_long l at w n h = length-take-le w (drop at l) (omega (arith, length-drop at l))

  -- of one aircraft every byte is the same
  byte_at : (l : List ℕ) (n : ℕ) → 6 ≤ n → n < 13 → get_or (take 7 (drop 6 l)) (n - 6) 0 ≡ get_or l n 0
  byte_at l n h k =
      let e : 6 + (n - 6) ≡ n = omega arith in
      get_or-take 7 (drop 6 l) (n - 6) 0 (omega arith) ∙ get_or-drop 6 l (n - 6) 0 ∙ ap (λ (m : ℕ). get_or l m 0) e

  byte_same : take 7 (drop 6 a) ≡ take 7 (drop 6 b) → (n : ℕ) → 6 ≤ n → n < 13 → get_or a n 0 ≡ get_or b n 0
  byte_same s n h k = sym (byte_at a n h k) ∙ ap (λ (l : List ℕ). get_or l (n - 6) 0) s ∙ byte_at b n h k

  -- so aircraft that differ in a word are two
  pub word_apart : (n : ℕ) → 6 ≤ n → n + 4 ≤ 13 → {x y : ℕ} → x ≡ word_at n a → y ≡ word_at n b → (x ≡ y → ⊥) → Decides true (Apart a b)
  word_apart n h l d e f = record {
    yes = λ z u v k.
        let s : take 7 (drop 6 a) ≡ take 7 (drop 6 b) = whole_text 7 (take 7 (drop 6 a)) (take 7 (drop 6 b)) (cut_long a 6 7 p (omega arith)) (cut_long b 6 7 q (omega arith)) k.aircraft in
        let w₀ = byte_same s n h (omega arith) in
        let w₁ = byte_same s (n + 1) (omega arith) (omega arith) in
        let w₂ = byte_same s (n + 2) (omega arith) (omega arith) in
        let w₃ = byte_same s (n + 3) (omega arith) (omega arith) in
        f (d ∙ (λ i. w₀ i + w₁ i * 256 + w₂ i * 65536 + w₃ i * 16777216) ∙ sym e);
    no = λ h. refl;
  }

  pub raw_apart : free a ≡ false → free b ≡ false → (x y z : Bool) → x ≡ same (take 7 (drop 6 a)) (take 7 (drop 6 b)) → y ≡ same (take 4 (drop 17 a)) (take 4 (drop 17 b)) → z ≡ same (take 4 (drop 25 a)) (take 4 (drop 25 b)) → Decides (not ((x && y) && z)) (Apart a b)
  raw_apart u v x y z d e f =
      used_apart a b u v x y z
      (d ∙ raw_same 7 (take 7 (drop 6 a)) (take 7 (drop 6 b)) (cut_long a 6 7 p (omega arith)) (cut_long b 6 7 q (omega arith)))
      (e ∙ raw_same 4 (take 4 (drop 17 a)) (take 4 (drop 17 b)) (cut_long a 17 4 p (omega arith)) (cut_long b 17 4 q (omega arith)))
      (f ∙ raw_same 4 (take 4 (drop 25 a)) (take 4 (drop 25 b)) (cut_long a 25 4 p (omega arith)) (cut_long b 25 4 q (omega arith)))

-- THE TABLE, with a decision of each thing that is asked of it
pub table_is : (t : List ℕ) (w x y z : Bool) → Decides w (1 ≤ places t) → Decides x (places t ≤ 32) → Decides y (length t ≡ places t * 768) → Decides z (Below (λ i. WellFormed (place i t) × Below (λ j. Apart (place j t) (place i t)) i) (places t)) → Decides (((w && x) && y) && z) (TableFormed t)
table_is t w x y z a b c d =
    decides_as
    (λ p. record { some = p.0.0.0; most = p.0.0.1; whole = p.0.1; each = λ i h. (p.1 i h).0; keys = λ i h. (p.1 i h).1 })
    (λ f. (((f.some, f.most), f.whole), λ i h. (f.each i h, f.keys i h)))
    (decides_and (decides_and (decides_and a b) c) d)

-- and as its records one after the other, where it has 1 to 32 of them and nothing stands behind
module _ (t : List ℕ) (l : List (List ℕ)) (e : l ≡ first_chunks 768 (places t) t) (n : length l ≡ places t) where
  record_at : (i : ℕ) (d : List ℕ) → i < places t → get_or l i d ≡ place i t
  record_at i d h = ap (λ (m : List (List ℕ)). get_or m i d) e ∙ chunk_at 768 i (places t) t d h

  lower_at : (i j : ℕ) (d : List ℕ) → i < places t → j < i → get_or (take i l) j d ≡ place j t
  lower_at i j d h k = get_or-take i l j d k ∙ record_at j d (omega arith)

  lower_long : (i : ℕ) → i < places t → length (take i l) ≡ i
  lower_long i h = length-take-le i l (omega arith)

  each_is : (b : Bool) → Decides b (RecordsFormed l) → Decides b (Below (λ i. WellFormed (place i t) × Below (λ j. Apart (place j t) (place i t)) i) (places t))
  each_is b =
      decides_as
      (λ f i h. (
        subst WellFormed (record_at i [] h) (f i (omega arith)).0,
        λ j k.
            let a : Apart (get_or (take i l) j []) (get_or l i []) = (f i (omega arith)).1 j [] (omega (arith, lower_long i h)) in
            subst (λ (x : List ℕ). Apart x (place i t)) (lower_at i j [] h k) (subst (λ (y : List ℕ). Apart (get_or (take i l) j []) y) (record_at i [] h) a),
      ))
      (λ f i h.
      let q : i < places t = omega arith in (
        subst WellFormed (sym (record_at i [] q)) (f i q).0,
        λ j d k.
            let r : j < i = omega (arith, lower_long i q, k) in
            subst (λ (x : List ℕ). Apart x (get_or l i [])) (sym (lower_at i j d q r)) (subst (λ (y : List ℕ). Apart (place j t) y) (sym (record_at i [] q)) ((f i q).1 j r)),
      ))

  pub records_are : (b : Bool) → 1 ≤ places t → places t ≤ 32 → length t ≡ places t * 768 → Decides b (RecordsFormed l) → Decides b (TableFormed t)
  records_are b s m w d = table_is t true true true b (so s) (so m) (so w) (each_is b d)
    where
      so : {P : Type 0} → P → Decides true P
      so p = record { yes = λ e. p; no = λ q. refl }
