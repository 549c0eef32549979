-- The 16 places, one after the other.
use Rattle.std.specs.Prelude.{◌≡◌, refl, Bool, true, false, not, ◌&&◌, List, ℕ, ◌+◌, ◌-◌, ◌*◌, ◌≤◌, ◌<◌, length, take, drop, get_or, eqb}
use Rattle.std.proofs.Common.{sym, ap, ◌∙◌, subst, inl, ⊎_elim, add-zero, arith, length-drop, get_or-take, get_or-drop, length-take-le}
use Rattle.std.proofs.lemmas.Bool.{false≢true, not-true}
use Rattle.scan.specs.Bools.{known, Decides, decides_as, equals}
use Rattle.places.specs.Below.{Below, one_more}
use Rattle.places.specs.Bytes.{number_at, free}
use Rattle.unanswered.specs.declared.Shown.{Shown}
use Rattle.unanswered.specs.declared.Shown.TheVariants.{Broken, Empty, Message}
use Rattle.unanswered.specs.Waiting.{waiting_of, Proper, place, Apart, FormedAt, Shows, ShowsAt, UnansweredFormed, has_number}
use Rattle.unanswered.specs.Deciding.{message_is}

-- the first byte of a place is the one where it starts
pub first_at : (t : List ℕ) (i : ℕ) → get_or (place i t) 0 0 ≡ get_or t (i * 1280) 0
first_at t i = rw (get_or-take 1280 (drop (i * 1280) t) 0 0 (omega arith), get_or-drop, add-zero)

-- what is lent from i * 1280 on is place i
pub lent : (t : List ℕ) (i : ℕ) → take (i * 1280 + 1280 - i * 1280) (drop (i * 1280) t) ≡ place i t
lent t i = let e : i * 1280 + 1280 - i * 1280 ≡ 1280 = omega arith in rw e

pub lent_long : (t : List ℕ) (i : ℕ) → length t ≡ 20480 → i < 16 → length (take (i * 1280 + 1280 - i * 1280) (drop (i * 1280) t)) ≡ 1280
lent_long t i n h = ap length (lent t i) ∙ length-take-le 1280 (drop (i * 1280) t) (omega (arith, length-drop (i * 1280) t))

-- TWO PLACES

pub used_apart : (a b : List ℕ) → free a ≡ false → free b ≡ false → (m n : ℕ) → m ≡ (waiting_of a).number → n ≡ (waiting_of b).number → Decides (not (eqb m n)) (Apart a b)
used_apart a b u v m n p q =
    let d = equals m n in
    record {
      yes = λ e f g k. false≢true (sym (not-true (eqb m n) e) ∙ d.no (p ∙ k ∙ sym q));
      no = λ h. ⊎_elim (λ t. absurd (h u v (sym p ∙ d.yes t ∙ q))) (λ t. ap not t) (known (eqb m n));
    }

-- of two places that were lent
pub on_places : (t : List ℕ) (i j : ℕ) {b : Bool} → Decides b (Apart (take (i * 1280 + 1280 - i * 1280) (drop (i * 1280) t)) (take (j * 1280 + 1280 - j * 1280) (drop (j * 1280) t))) → Decides b (Apart (place i t) (place j t))
on_places t i j {b} d =
    subst (λ (x : List ℕ). Decides b (Apart x (place j t))) (lent t i) (subst (λ (y : List ℕ). Decides b (Apart (take (i * 1280 + 1280 - i * 1280) (drop (i * 1280) t)) y)) (lent t j) d)

-- ONE, beside the lower ones

shows_beside : (t : List ℕ) (i : ℕ) (l : Shown) → Below (λ j. Apart (place j t) (place i t)) i → Shows (place i t) l → ShowsAt t i l
shows_beside t i Broken r n = λ ours partners f. n ours partners f.0
shows_beside t i Empty r p = (p, r)
shows_beside t i Message r p = (p, r)

pub on_place : (t : List ℕ) (i : ℕ) (l : Shown) → Below (λ j. Apart (place j t) (place i t)) i → Shows (take (i * 1280 + 1280 - i * 1280) (drop (i * 1280) t)) l → ShowsAt t i l
on_place t i l r p = shows_beside t i l r (subst (λ (x : List ℕ). Shows x l) (lent t i) p)

module _ (ours partners t : List ℕ) (i : ℕ) where
  pub broken_at : ShowsAt t i Broken → Decides false (FormedAt ours partners t i)
  broken_at n = record { yes = λ e. absurd (false≢true e); no = λ f. absurd (n ours partners f) }

  pub empty_at : ShowsAt t i Empty → Decides true (FormedAt ours partners t i)
  empty_at p = record { yes = λ e. (inl p.0, p.1); no = λ f. refl }

  pub proper_at : ShowsAt t i Message → (b : Bool) → Decides b (Proper ours partners (waiting_of (place i t))) → Decides b (FormedAt ours partners t i)
  proper_at p b d = decides_as (λ w. (w, p.1)) (λ f. f.0) (message_is (place i t) ours partners p.0.0 b d)

-- ALL OF THEM

pub wrong_length : (ours partners t : List ℕ) → (length t ≡ 20480 → ⊥) → Decides false (UnansweredFormed ours partners t)
wrong_length ours partners t n = record { yes = λ e. absurd (false≢true e); no = λ f. absurd (n f.whole) }

pub unanswered_is : (ours partners t : List ℕ) → length t ≡ 20480 → (b : Bool) → Decides b (Below (FormedAt ours partners t) 16) → Decides b (UnansweredFormed ours partners t)
unanswered_is ours partners t n b =
    decides_as
    (λ p. record { whole = n; each = λ i h. (p i h).0; numbers = λ i h. (p i h).1 })
    (λ f i h. (f.each i h, f.numbers i h))

-- one after the other
pub one_further : (Q : ℕ → Type 0) (i : ℕ) → Below Q i → Q i → Below Q (i + 1)
one_further Q i p q = (one_more Q i true true (record { yes = λ e. p; no = λ e. refl }) (record { yes = λ e. q; no = λ e. refl })).yes refl

-- A NUMBER, test by test
pub number_is : (b : List ℕ) (k n : ℕ) → k ≡ (waiting_of b).number → not (eqb (get_or b 0 0) 0) && eqb k n ≡ has_number n b
number_is b k n e = ap (λ (x : ℕ). not (free b) && eqb x n) e

-- THE TEXT of a place that was lent
pub lent_short : (t : List ℕ) (i k : ℕ) → k ≡ number_at 3 (take (i * 1280 + 1280 - i * 1280) (drop (i * 1280) t)) → number_at 3 (place i t) ≤ 1275 → k ≤ 1275
lent_short t i k e h = subst (λ (x : ℕ). x ≤ 1275) (sym (e ∙ ap (number_at 3) (lent t i))) h

pub lent_text : (t : List ℕ) (i k : ℕ) → k ≡ number_at 3 (take (i * 1280 + 1280 - i * 1280) (drop (i * 1280) t)) → take (5 + k - 5) (drop 5 (take (i * 1280 + 1280 - i * 1280) (drop (i * 1280) t))) ≡ (waiting_of (place i t)).text
lent_text t i k e =
    let n : 5 + k - 5 ≡ number_at 3 (place i t) = (let z : 5 + k - 5 ≡ k = omega arith in z) ∙ e ∙ ap (number_at 3) (lent t i) in
    λ j. take (n j) (drop 5 (lent t i j))
