-- THE UNANSWERED MESSAGES of an end, against the messages that it has sent.
use Rattle.std.specs.Prelude.{◌≡◌, refl, ◌⊎◌, ◌≢◌, Bool, true, false, ◌&&◌, List, [], ◌∷◌, ℕ, zero, suc, ◌+◌, ◌≤◌, ◌<◌, leb}
use Rattle.std.proofs.Common.{sym, ◌∙◌, ap, subst, inl, inr, arith, le-leb, leb-true}
use Rattle.std.proofs.Math.Option.{Option, none, some}
use Rattle.std.proofs.Math.Decide.{dec_lt}
use Rattle.pair.specs.kinds.Tools.{upd, upd_same, upd_other, same?, true_false, none_some, cons_nil}
use Rattle.pair.specs.kinds.Kinds.{Content}
use Rattle.pair.specs.kinds.Views.{gap}
use Rattle.pair.specs.exchange.Runs.{Script, num, more}
use Rattle.pair.specs.exchange.Numbers.{num_inj}
use Rattle.scan.specs.Bools.{and_yes}

-- what is unanswered, by number
abbrev pub Open : Type 0
Open = ℕ → Option Content

-- the message i is unanswered, of len that were sent
abbrev pub Waiting : Script → Open → ℕ → ℕ → Type 0
Waiting s w len i = (i < len) × (len ≤ i + 400) × (w (num i) ≡ some (s i))

-- what is unanswered was sent, and what was never answered is unanswered
pub record Unanswered (s : Script) (w : Open) (len : ℕ) (given : ℕ → List ℕ) : Type 0 where
  pub known : (n : ℕ) (c : Content) → w n ≡ some c → (i : ℕ) × Waiting s w len i × (n ≡ num i)
  pub waits : (i : ℕ) → i < len → given i ≡ [] → Waiting s w len i

young_index : (len i : ℕ) → i < len → len ≤ i + 400 → gap (num len) (num i) < 400 → len < i + 400
young_index len i a b c = omega arith

num_apart : (len i : ℕ) → i < len → len ≤ i + 400 → num i ≢ num len
num_apart len i a b e = omega arith

-- a bounded search
find : (n : ℕ) (p : ℕ → Bool) → ((i : ℕ) × (i < n) × (p i ≡ true)) ⊎ ((i : ℕ) → i < n → p i ≡ false)
find zero p = inr (λ i h. absurd (native.Mathlib.Nat.not-suc-le-zero h))
find (suc n) p = elim (find n p) [
  | inl f ↦ inl (f.0, omega (arith, f.1), f.2)
  | inr f ↦ end (p n) refl f
]
  where
    end : (b : Bool) → p n ≡ b → ((i : ℕ) → i < n → p i ≡ false) → ((i : ℕ) × (i < suc n) × (p i ≡ true)) ⊎ ((i : ℕ) → i < suc n → p i ≡ false)
    end true e f = inl (n, omega arith, e)
    end false e f = inr (λ i h. elim (same? i n) [ inl q ↦ rw q e | inr q ↦ f i (omega arith) ])

abbrev is_some : {A : Type 0} → Option A → Bool
is_some none = false
is_some (some a) = true

module _ {s : Script} {w : Open} {len : ℕ} {given : ℕ → List ℕ} (U : Unanswered s w len given) where
  -- the first message never seen has come no later than in time
  pub seen_in_time : (seen : ℕ) → seen ≤ len → given seen ≡ [] → len ≤ seen + 400
  seen_in_time seen h e = elim (dec_lt seen len) [ yes lt ↦ (U.waits seen lt e).1 | no nl ↦ (omega arith) ]

  -- a number in use, at an index that is recent enough
  pub is_waiting : (i : ℕ) (c : Content) → i < len → len ≤ i + 400 → w (num i) ≡ some c → Waiting s w len i
  is_waiting i c a b e =
      let k = U.known (num i) c e in
      let q : i ≡ k.0 = num_inj len i k.0 a b k.1.0 k.1.1 k.2 in
      rw q k.1

  -- a message is sent
  module _ (next : ℕ) (next_is : next ≡ num len) (young : (n : ℕ) (c : Content) → w n ≡ some c → gap next n < 400) where
    pub push_old : (i : ℕ) → Waiting s w len i → Waiting s (upd w next (some (s len))) (len + 1) i
    push_old i o =
        let y : len < i + 400 = young_index len i o.0 o.1 (subst (λ (v : ℕ). gap v (num i) < 400) next_is (young (num i) (s i) o.2)) in
        (omega arith, omega arith, upd_other w next (some (s len)) (num i) (λ e. num_apart len i o.0 o.1 (e ∙ next_is)) ∙ o.2)

    pub push_new : Waiting s (upd w next (some (s len))) (len + 1) len
    push_new = (omega arith, omega arith, upd_same w next (some (s len)) (num len) (sym next_is))

    pub push_back : (i : ℕ) → Waiting s (upd w next (some (s len))) (len + 1) i → Waiting s w len i ⊎ (i ≡ len)
    push_back i o = elim (same? i len) [
      | inl q ↦ inr q
      | inr q ↦ (let lt : i < len = omega arith in let le : len ≤ i + 400 = omega arith in
          inl (lt, le, sym (upd_other w next (some (s len)) (num i) (λ e. num_apart len i lt le (e ∙ next_is))) ∙ o.2))
    ]

    pub pushed : Unanswered s (upd w next (some (s len))) (len + 1) given
    pushed = record { known = kn; waits = wt }
      where
        kn : (n : ℕ) (c : Content) → upd w next (some (s len)) n ≡ some c → (i : ℕ) × Waiting s (upd w next (some (s len))) (len + 1) i × (n ≡ num i)
        kn n c e = elim (same? n next) [
          | inl q ↦ (len, push_new, q ∙ next_is)
          | inr q ↦ (let k = U.known n c (sym (upd_other w next (some (s len)) n q) ∙ e) in (k.0, push_old k.0 k.1, k.2))
        ]

        wt : (i : ℕ) → i < len + 1 → given i ≡ [] → Waiting s (upd w next (some (s len))) (len + 1) i
        wt i a e = elim (same? i len) [ inl q ↦ rw q push_new | inr q ↦ push_old i (U.waits i (omega arith) e) ]

  -- an answer comes
  module _ (i₀ : ℕ) (lt : i₀ < len) (in_time : len ≤ i₀ + 400) where
    pub pull_on : (i : ℕ) → Waiting s w len i → i ≢ i₀ → Waiting s (upd w (num i₀) none) len i
    pull_on i o n = (o.0, o.1, upd_other w (num i₀) none (num i) (λ e. n (num_inj len i i₀ o.0 o.1 lt in_time e)) ∙ o.2)

    pub pull_back : (i : ℕ) → Waiting s (upd w (num i₀) none) len i → Waiting s w len i × (i ≢ i₀)
    pull_back i o =
        let n : i ≢ i₀ = λ e. none_some (upd_same w (num i₀) none (num i) (ap num e)) o.2 in
        ((o.0, o.1, sym (upd_other w (num i₀) none (num i) (λ e. n (num_inj len i i₀ o.0 o.1 lt in_time e))) ∙ o.2), n)

    pub pulled : (given i₀ ≡ [] → ⊥) → Unanswered s (upd w (num i₀) none) len given
    pulled ans = record { known = kn; waits = λ i a e. pull_on i (U.waits i a e) (λ q. ans (ap given (sym q) ∙ e)) }
      where
        kn : (n : ℕ) (c : Content) → upd w (num i₀) none n ≡ some c → (i : ℕ) × Waiting s (upd w (num i₀) none) len i × (n ≡ num i)
        kn n c e = elim (same? n (num i₀)) [
          | inl q ↦ absurd (none_some (upd_same w (num i₀) none n q) e)
          | inr q ↦ (let k = U.known n c (sym (upd_other w (num i₀) none n q) ∙ e) in
              (k.0, pull_on k.0 k.1 (λ v. q (k.2 ∙ ap num v)), k.2))
        ]

  -- one more answer is given
  pub told : (i₀ x : ℕ) → Unanswered s w len (more given i₀ x)
  told i₀ x = record {
    known = U.known;
    waits = λ i a e. elim (same? i i₀) [
      | inl q ↦ absurd (cons_nil (upd_same given i₀ (x ∷ given i₀) i q) e)
      | inr q ↦ U.waits i a (sym (upd_other given i₀ (x ∷ given i₀) i q) ∙ e)
    ];
  }

  -- is there an unanswered message that passes a test?
  pub decide : (q : ℕ → Bool) → ((i : ℕ) × Waiting s w len i × (q i ≡ true)) ⊎ ((i : ℕ) → Waiting s w len i → q i ≡ false)
  decide q = elim (find len (λ (i : ℕ). leb len (i + 400) && (is_some (w (num i)) && q i))) [
    | inl f ↦ inl (yep f.0 f.1 f.2)
    | inr f ↦ inr (λ i o. nope i o (q i) refl (f i o.0))
  ]
    where
      yep : (i : ℕ) → i < len → (leb len (i + 400) && (is_some (w (num i)) && q i)) ≡ true → (i : ℕ) × Waiting s w len i × (q i ≡ true)
      yep i a e = go (w (num i)) refl
        where
          u : (leb len (i + 400) ≡ true) × ((is_some (w (num i)) && q i) ≡ true)
          u = and_yes (leb len (i + 400)) (is_some (w (num i)) && q i) e

          v : (is_some (w (num i)) ≡ true) × (q i ≡ true)
          v = and_yes (is_some (w (num i))) (q i) u.1

          go : (o : Option Content) → w (num i) ≡ o → (i : ℕ) × Waiting s w len i × (q i ≡ true)
          go none z = absurd (true_false v.0 (ap (is_some {A = Content}) z))
          go (some c) z = (i, is_waiting i c a (leb-true len (i + 400) u.0) z, v.1)

      nope : (i : ℕ) → Waiting s w len i → (b : Bool) → q i ≡ b → (leb len (i + 400) && (is_some (w (num i)) && q i)) ≡ false → q i ≡ false
      nope i o false z e = z
      nope i o true z e = absurd (true_false (rw (le-leb len (i + 400) o.1, o.2, z) refl) e)
