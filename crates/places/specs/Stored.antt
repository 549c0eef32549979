-- What is read off the bytes of places, and what is written to them.
use Rattle.std.specs.Prelude.{◌≡◌, Bool, true, false, cond, not}
use Rattle.std.proofs.Math.Path.{refl, sym, ap}
use Rattle.std.proofs.Common.{◌∙◌, add-one, arith, drop-drop}
use mathlib.Core.List.{List, [], ◌∷◌, ◌++◌}
use Rattle.std.proofs.Math.Option.{Option}
use Prim.Native.Nat.{ℕ, zero, suc, ◌+◌, ◌*◌, ◌<◌}
use Rattle.std.proofs.Math.Nat.{zero-mul, suc-mul, add_comm}
use Rattle.std.proofs.Math.ListN.{length, take, drop, replicate, length-append, length-drop, take-append-drop, replicate-append-replicate}
use Rattle.std.proofs.Math.Seq.{take_at, drop_at}
use Rattle.splice.specs.Splice.{splice}
use Rattle.splice.specs.Inside.{splice_front, splice_behind}
use Rattle.places.specs.Place.{At}
use Rattle.places.specs.Search.{first_from, count_from}
use Rattle.places.specs.Places.{Places, is_free, get, set, first_of, used, Every, empty}
use Rattle.places.specs.Forms.{Form, bytes_or, bytes_of, places_from, place_at}

nothing : (t : List ℕ) → length t ≡ 0 → [] ≡ t
nothing [] e = refl
nothing (x ∷ t) e = absurd (omega arith)

module _ {A : Type 0} (F : Form A) where
  -- WHAT IS READ

  pub length_places : (k : ℕ) (t : List ℕ) → length (places_from F k t) ≡ k
  unfolding places_from
  length_places zero t = refl
  length_places (suc k) t = ap suc (length_places k (drop F.width t))

  -- the place behind
  next : (i : ℕ) (t : List ℕ) → drop (i * F.width) (drop F.width t) ≡ drop (suc i * F.width) t
  next i t = drop-drop (i * F.width) F.width t ∙ ap (λ (k : ℕ). drop k t) (add_comm F.width (i * F.width) ∙ sym (suc-mul i F.width))

  on : (i : ℕ) (t : List ℕ) → drop F.width (drop (i * F.width) t) ≡ drop ((i + 1) * F.width) t
  on i t = drop-drop F.width (i * F.width) t ∙ ap (λ (k : ℕ). drop k t) (sym (suc-mul i F.width) ∙ ap (λ (j : ℕ). j * F.width) (sym (add-one i)))

  start : (t : List ℕ) → drop (0 * F.width) t ≡ t
  start t = ap (λ (k : ℕ). drop k t) (zero-mul F.width)

  pub get_places : (i k : ℕ) (t : List ℕ) → i < k → get i (places_from F k t) ≡ F.read (place_at F i t)
  unfolding places_from get
  get_places i zero t h = absurd (omega arith)
  get_places zero (suc k) t h = ap (λ (u : List ℕ). F.read (take F.width u)) (sym (start t))
  get_places (suc i) (suc k) t h = get_places i k (drop F.width t) (omega arith) ∙ ap (λ (u : List ℕ). F.read (take F.width u)) (next i t)

  -- the first of them is the first over the bytes
  first_on : (p : Option A → Bool) (k i : ℕ) (t : List ℕ) → first_of p i (places_from F k (drop (i * F.width) t)) ≡ first_from (λ j. p (F.read (place_at F j t))) k i
  unfolding places_from first_of first_from
  first_on p zero i t = refl
  first_on p (suc k) i t =
      ap (cond (p (F.read (place_at F i t))) (At i)) (ap (λ (u : List ℕ). first_of p (i + 1) (places_from F k u)) (on i t) ∙ first_on p k (i + 1) t)

  pub first_places : (p : Option A → Bool) (k : ℕ) (t : List ℕ) → first_of p 0 (places_from F k t) ≡ first_from (λ j. p (F.read (place_at F j t))) k 0
  first_places p k t = ap (λ (u : List ℕ). first_of p 0 (places_from F k u)) (sym (start t)) ∙ first_on p k 0 t

  -- and as many are used
  use_on : (b : Bool) (m n : ℕ) → m ≡ n → cond b m (1 + m) ≡ cond (not b) (1 + n) n
  use_on true m n e = e
  use_on false m n e = ap (λ (k : ℕ). 1 + k) e

  used_on : (k i : ℕ) (t : List ℕ) → used (places_from F k (drop (i * F.width) t)) ≡ count_from (λ j. not (is_free (F.read (place_at F j t)))) k i
  unfolding places_from used count_from
  used_on zero i t = refl
  used_on (suc k) i t =
      use_on (is_free (F.read (place_at F i t))) _ _ (ap (λ (u : List ℕ). used (places_from F k u)) (on i t) ∙ used_on k (i + 1) t)

  pub used_places : (k : ℕ) (t : List ℕ) → used (places_from F k t) ≡ count_from (λ j. not (is_free (F.read (place_at F j t)))) k 0
  used_places k t = ap (λ (u : List ℕ). used (places_from F k u)) (sym (start t)) ∙ used_on k 0 t

  -- THE BYTES FROM WHAT WAS READ
  pub bytes_back : (k : ℕ) (t : List ℕ) → length t ≡ k * F.width → ((i : ℕ) → i < k → bytes_or F (F.read (place_at F i t)) ≡ place_at F i t) → bytes_of F (places_from F k t) ≡ t
  unfolding places_from bytes_of
  bytes_back zero t n e = nothing t (n ∙ zero-mul F.width)
  bytes_back (suc k) t n e =
      let w = F.width in
      let h : bytes_or F (F.read (take w t)) ≡ take w t = ap (λ (u : List ℕ). bytes_or F (F.read (take w u))) (sym (start t)) ∙ e 0 (omega arith) ∙ ap (take w) (start t) in
      let m : length (drop w t) ≡ k * w = omega (arith, length-drop w t, n, suc-mul k w) in
      let r : bytes_of F (places_from F k (drop w t)) ≡ drop w t = bytes_back k (drop w t) m (λ i l. ap (λ (u : List ℕ). bytes_or F (F.read (take w u))) (next i t) ∙ e (suc i) (omega arith) ∙ ap (take w) (sym (next i t))) in
      (λ j. h j ++ r j) ∙ take-append-drop w t

  -- WHAT WAS WRITTEN, READ
  abbrev pub Fits : Option A → Type 0
  Fits x = length (bytes_or F x) ≡ F.width

  abbrev pub Kept : Option A → Type 0
  Kept x = Fits x × (F.read (bytes_or F x) ≡ x)

  pub places_back : (l : Places A) → Every Kept l → places_from F (length l) (bytes_of F l) ≡ l
  unfolding places_from bytes_of
  places_back [] e = refl
  places_back (x ∷ l) e =
      let a : take F.width (bytes_or F x ++ bytes_of F l) ≡ bytes_or F x = take_at (bytes_or F x) (bytes_of F l) F.width e.0.0 in
      let b : drop F.width (bytes_or F x ++ bytes_of F l) ≡ bytes_of F l = drop_at (bytes_or F x) (bytes_of F l) F.width e.0.0 in
      λ i. (ap F.read a ∙ e.0.1) i ∷ (ap (places_from F (length l)) b ∙ places_back l e.1) i

  pub length_bytes : (l : Places A) → Every Fits l → length (bytes_of F l) ≡ length l * F.width
  unfolding bytes_of
  length_bytes [] e = sym (zero-mul F.width)
  length_bytes (x ∷ l) e = omega (arith, length-append (bytes_or F x) (bytes_of F l), e.0, length_bytes l e.1, suc-mul (length l) F.width)

  -- where all are free, all is zero
  pub bytes_empty : (k : ℕ) → bytes_of F (empty k) ≡ replicate (k * F.width) 0
  unfolding bytes_of empty
  bytes_empty zero = ap (λ (n : ℕ). replicate n 0) (sym (zero-mul F.width))
  bytes_empty (suc k) =
      let w = F.width in
      ap (λ (u : List ℕ). replicate w 0 ++ u) (bytes_empty k) ∙ replicate-append-replicate w (k * w) 0 ∙ ap (λ (n : ℕ). replicate n 0) (add_comm w (k * w) ∙ sym (suc-mul k w))

  -- the bytes of one place
  pub place_bytes : (i : ℕ) (l : Places A) → i < length l → Every Fits l → place_at F i (bytes_of F l) ≡ bytes_or F (get i l)
  unfolding bytes_of get
  place_bytes i [] h e = absurd (omega arith)
  place_bytes zero (x ∷ l) h e = ap (take F.width) (start (bytes_or F x ++ bytes_of F l)) ∙ take_at (bytes_or F x) (bytes_of F l) F.width e.0
  place_bytes (suc i) (x ∷ l) h e =
      ap (take F.width) (sym (next i (bytes_or F x ++ bytes_of F l)) ∙ ap (drop (i * F.width)) (drop_at (bytes_or F x) (bytes_of F l) F.width e.0)) ∙ place_bytes i l (omega arith) e.1

  -- ONE PLACE IS WRITTEN
  pub bytes_set : (i : ℕ) (y : Option A) (l : Places A) → i < length l → Fits y → Every Fits l → bytes_of F (set i y l) ≡ splice (i * F.width) (bytes_or F y) (bytes_of F l)
  unfolding bytes_of set
  bytes_set i y [] h f e = absurd (omega arith)
  bytes_set zero y (x ∷ l) h f e = sym (ap (λ (k : ℕ). splice k (bytes_or F y) (bytes_or F x ++ bytes_of F l)) (zero-mul F.width) ∙ splice_front (bytes_or F y) (bytes_or F x) (bytes_of F l) (f ∙ sym e.0))
  bytes_set (suc i) y (x ∷ l) h f e =
      let m : suc i * F.width ≡ F.width + i * F.width = suc-mul i F.width ∙ add_comm (i * F.width) F.width in
      ap (λ (u : List ℕ). bytes_or F x ++ u) (bytes_set i y l (omega arith) f e.1) ∙ sym (ap (λ (k : ℕ). splice k (bytes_or F y) (bytes_or F x ++ bytes_of F l)) m ∙ splice_behind (bytes_or F x) (bytes_of F l) (bytes_or F y) F.width (i * F.width) e.0)
