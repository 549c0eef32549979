-- NUMBERS THAT COME ROUND: what the receiver of one direction knows of its sender's messages.
use Rattle.std.specs.Prelude.{◌≡◌, refl, ◌⊎◌, ◌≢◌, Bool, true, false, ◌&&◌, List, [], ◌∷◌, leb}
use Rattle.std.proofs.Math.Path.{sym, ap}
use Rattle.std.proofs.Common.{◌∙◌, subst, arith, le-leb}
use Rattle.std.proofs.Math.Logic.{inl, inr}
use Rattle.std.proofs.Math.Bool.{cond}
use Rattle.std.proofs.Math.Option.{Option, none, some}
use Prim.Native.Nat.{ℕ, ◌+◌, ◌-◌, ◌%◌, ◌≤◌, ◌<◌}
use Rattle.std.proofs.Math.Decide.{dec_lt}
use Rattle.std.proofs.lemmas.Bool.{lt-leb}
use Rattle.head.specs.declared.Standing.TheVariants.{New, Old}
use Rattle.head.specs.Head.{standing, past, is_same, is_new, is_old_lem}
use Rattle.answers.specs.Given.{after}
use Rattle.deeds.specs.Message.{Message}
use Rattle.pair.specs.kinds.Tools.{upd, upd_same, upd_other, same?, none_some, some_inj}
use Rattle.pair.specs.kinds.Kinds.{Content, near, message_of, proper_to, is_yes}
use Rattle.pair.specs.kinds.Views.{gap}
use Rattle.pair.specs.exchange.Runs.{Script, num, Mem, here, there, more}

-- two recent messages with one number are one
pub num_inj : (len i j : ℕ) → i < len → len ≤ i + 400 → j < len → len ≤ j + 400 → num i ≡ num j → i ≡ j
num_inj len i j a b c d e = omega arith

-- HOW FAR a message lies past the highest seen; b is one more than the index of that

gap_ahead : (a b : ℕ) → b ≤ a → a < b + 400 → gap (num a) ((b + 999) % 1000) ≡ a + 1 - b
gap_ahead a b h k = omega arith

gap_behind : (a b c : ℕ) → a < b → b ≤ c → c + 1 ≤ a + 1000 → gap (num a) ((b + 999) % 1000) ≢ 0 → c + 1 - b < gap (num a) ((b + 999) % 1000)
gap_behind a b c h k l n = omega arith

ahead_le : (a b c : ℕ) → a < c + 1 → a + 1 - b ≤ c + 1 - b
ahead_le a b c h = omega arith

-- `standing` takes remainders itself
mod_again : (a : ℕ) → a % 1000 % 1000 ≡ a % 1000
mod_again a = omega arith

past_gap : (a b : ℕ) → past (b % 1000) (a % 1000) ≡ gap (a % 1000) (b % 1000)
past_gap a b = ap (λ (v : ℕ). (v + 1000 - b % 1000 % 1000) % 1000) (mod_again a) ∙ ap (λ (v : ℕ). (a % 1000 + 1000 - v) % 1000) (mod_again b)

past_ahead : (a b : ℕ) → b ≤ a → a < b + 400 → past ((b + 999) % 1000) (num a) ≡ a + 1 - b
past_ahead a b h k = past_gap a (b + 999) ∙ gap_ahead a b h k

past_behind : (a b : ℕ) → a < b → b ≤ a + 400 → past ((b + 999) % 1000) (num a) ≢ 0 → 600 < past ((b + 999) % 1000) (num a)
past_behind a b h k n = omega arith

-- WHICH ANSWERS ARE FORGOTTEN as n becomes the highest after h

after_in : (h n k d e : ℕ) → gap k h ≡ d → gap n h ≡ e → 1 ≤ d → d ≤ e → after h n k ≡ true
unfolding after
after_in h n k d e p q a b = rw (p, q, le-leb 1 d a, le-leb d e b) refl

after_same : (h n k : ℕ) → gap k h ≡ 0 → after h n k ≡ false
unfolding after
after_same h n k e = rw e refl

after_far : (h n k : ℕ) → gap n h < gap k h → after h n k ≡ false
unfolding after
after_far h n k a = rw (lt-leb (gap k h) (gap n h) a) (both (leb 1 (gap k h)))
  where
    both : (b : Bool) → (b && false) ≡ false
    both true = refl
    both false = refl

-- ANSWERS GIVEN to one message, the newest first

unfoldable pub newest : List ℕ → Option ℕ
newest [] = none
newest (x ∷ l) = some x

pub newest_none : (l : List ℕ) → newest l ≡ none → l ≡ []
unfolding newest
newest_none [] e = refl
newest_none (x ∷ l) e = absurd (none_some e refl)

agree_cons : (l : List ℕ) (x y : ℕ) → ((z : ℕ) → Mem z l → newest l ≡ some z) → (newest l ≡ some x) ⊎ (l ≡ []) → Mem y (x ∷ l) → newest (x ∷ l) ≡ some y
unfolding newest
agree_cons l x y ag e here = refl
agree_cons l x y ag (inl e) (there m) = sym e ∙ ag y m
agree_cons l x y ag (inr e) (there m) = absurd (none_some (ap newest e) (ag y m))

-- a proper answer; to a neighbour's message a positive one
abbrev pub Fits : Content → ℕ → Type 0
Fits c x = (proper_to c x ≡ true) × ((d : Message) → c ≡ near d → is_yes x ≡ true)

-- THE INVARIANT. `seen` is one more than the index of the highest message received, 0 if none was
pub record Nums (s : Script) (next len : ℕ) (given : ℕ → List ℕ) (high : ℕ) (kept : ℕ → Option ℕ) : Type 0 where
  pub seen : ℕ
  pub next_is : next ≡ num len
  pub carried : (i : ℕ) → i < len → (message_of (s i)).number ≡ num i
  pub seen_le : seen ≤ len
  pub high_is : high ≡ (seen + 999) % 1000
  pub unseen : (i : ℕ) → seen ≤ i → given i ≡ []
  pub agree : (i x : ℕ) → Mem x (given i) → newest (given i) ≡ some x
  pub fit : (i x : ℕ) → newest (given i) ≡ some x → Fits (s i) x
  pub kept_is : (i : ℕ) → i < seen → seen ≤ i + 1000 → kept (num i) ≡ newest (given i)

module _ {s : Script} {next len : ℕ} {given : ℕ → List ℕ} {high : ℕ} {kept : ℕ → Option ℕ} (N : Nums s next len given high kept) where
  -- a message is sent
  pub nums_sent : (message_of (s len)).number ≡ next → Nums s ((next + 1) % 1000) (len + 1) given high kept
  nums_sent e = record {
    seen = N.seen;
    next_is = (let q = N.next_is in omega arith);
    carried = λ i lt. elim (same? i len) [ inl q ↦ ap (λ (j : ℕ). (message_of (s j)).number) q ∙ e ∙ N.next_is ∙ ap num (sym q) | inr q ↦ N.carried i (omega arith) ];
    seen_le = (let q = N.seen_le in omega arith);
    high_is = N.high_is;
    unseen = N.unseen;
    agree = N.agree;
    fit = N.fit;
    kept_is = N.kept_is;
  }

  module _ (i : ℕ) (lt : i < len) (in_time : len ≤ i + 400) where
    -- a number never seen is new, one that was is old, and none is stale
    pub nums_new : len ≤ N.seen + 400 → N.seen ≤ i → standing high (num i) ≡ New
    nums_new w h =
        let e : past high (num i) ≡ i + 1 - N.seen = ap (λ (v : ℕ). past v (num i)) N.high_is ∙ past_ahead i N.seen h (omega arith) in
        is_new (past high (num i)) (λ z. omega arith) (omega arith)

    pub nums_old : i < N.seen → standing high (num i) ≡ Old
    nums_old h = elim (same? (past high (num i)) 0) [
      | inl e ↦ is_same (past high (num i)) e
      | inr e ↦ (let l : N.seen ≤ i + 400 = omega (arith, N.seen_le) in
          let far : 600 < past high (num i) =
          subst (λ (v : ℕ). 600 < past v (num i)) (sym N.high_is) (past_behind i N.seen h l (subst (λ (v : ℕ). past v (num i) ≢ 0) N.high_is e)) in
          is_old_lem (past high (num i)) e (omega arith) far)
    ]

    module _ (x : ℕ) (ok : (newest (given i) ≡ some x) ⊎ (given i ≡ [])) where
      -- one more answer to the message i
      given_at : (j : ℕ) → j ≡ i → more given i x j ≡ (x ∷ given i)
      given_at j q = upd_same given i (x ∷ given i) j q

      given_off : (j : ℕ) → j ≢ i → more given i x j ≡ given j
      given_off j q = upd_other given i (x ∷ given i) j q

      newest_at : (j : ℕ) → j ≡ i → newest (more given i x j) ≡ some x
      unfolding newest
      newest_at j q = ap newest (given_at j q)

      newest_off : (j : ℕ) → j ≢ i → newest (more given i x j) ≡ newest (given j)
      newest_off j q = ap newest (given_off j q)

      agree' : (j y : ℕ) → Mem y (more given i x j) → newest (more given i x j) ≡ some y
      agree' j y m = elim (same? j i) [
        | inl q ↦ ap newest (given_at j q) ∙ agree_cons (given i) x y (λ z n. N.agree i z n) ok (subst (λ (l : List ℕ). Mem y l) (given_at j q) m)
        | inr q ↦ newest_off j q ∙ N.agree j y (subst (λ (l : List ℕ). Mem y l) (given_off j q) m)
      ]

      fit' : Fits (s i) x → (j y : ℕ) → newest (more given i x j) ≡ some y → Fits (s j) y
      fit' pr j y e = elim (same? j i) [
        | inl q ↦ subst (λ (v : ℕ). Fits (s v) y) (sym q) (subst (λ (v : ℕ). Fits (s i) v) (some_inj (newest_at j q) e) pr)
        | inr q ↦ N.fit j y (sym (newest_off j q) ∙ e)
      ]

      -- the answer given before
      pub nums_again : i < N.seen → newest (given i) ≡ some x → Nums s next len (more given i x) high kept
      nums_again h e = record {
        seen = N.seen;
        next_is = N.next_is;
        carried = N.carried;
        seen_le = N.seen_le;
        high_is = N.high_is;
        unseen = λ j u. given_off j (λ q. omega arith) ∙ N.unseen j u;
        agree = agree';
        fit = fit' (N.fit i x e);
        kept_is = λ j a b. N.kept_is j a b ∙ elim (same? j i) [ inl q ↦ ap (λ (v : ℕ). newest (given v)) q ∙ e ∙ sym (newest_at j q) | inr q ↦ sym (newest_off j q) ];
      }

      -- an old number is answered at last
      pub nums_late : i < N.seen → Fits (s i) x → Nums s next len (more given i x) high (upd kept (num i) (some x))
      nums_late h pr = record {
        seen = N.seen;
        next_is = N.next_is;
        carried = N.carried;
        seen_le = N.seen_le;
        high_is = N.high_is;
        unseen = λ j u. given_off j (λ q. omega arith) ∙ N.unseen j u;
        agree = agree';
        fit = fit' pr;
        kept_is = λ j a b. elim (same? j i) [
          | inl q ↦ upd_same kept (num i) (some x) (num j) (ap num q) ∙ sym (newest_at j q)
          | inr q ↦ (let l = N.seen_le in upd_other kept (num i) (some x) (num j) (λ e. q (omega arith)) ∙ N.kept_is j a b ∙ sym (newest_off j q))
        ];
      }

      -- a new number: those passed over were never answered, and their old answers are forgotten
      pub nums_first : len ≤ N.seen + 400 → N.seen ≤ i → Fits (s i) x
          → Nums s next len (more given i x) (num i) (upd (λ k. cond (after high (num i) k) none (kept k)) (num i) (some x))
      unfolding newest
      nums_first w h pr = record {
        seen = i + 1;
        next_is = N.next_is;
        carried = N.carried;
        seen_le = omega arith;
        high_is = omega arith;
        unseen = λ j u. given_off j (λ q. omega arith) ∙ N.unseen j (omega arith);
        agree = agree';
        fit = fit' pr;
        kept_is = λ j a b. elim (same? j i) [
          | inl q ↦ upd_same left (num i) (some x) (num j) (ap num q) ∙ sym (newest_at j q)
          | inr q ↦ upd_other left (num i) (some x) (num j) (λ e. q (omega arith)) ∙ forgot j a b q ∙ sym (newest_off j q)
        ];
      }
        where
          left : ℕ → Option ℕ
          left k = cond (after high (num i) k) none (kept k)

          g_i : gap (num i) high ≡ i + 1 - N.seen
          g_i = ap (gap (num i)) N.high_is ∙ gap_ahead i N.seen h (omega arith)

          stays : (j : ℕ) → after high (num i) (num j) ≡ false → left (num j) ≡ kept (num j)
          stays j e = ap (λ (b : Bool). cond b none (kept (num j))) e

          forgot : (j : ℕ) → j < i + 1 → i + 1 ≤ j + 1000 → j ≢ i → left (num j) ≡ newest (given j)
          forgot j a b q = elim (dec_lt j N.seen) [
            | yes u ↦ (elim (same? (gap (num j) high) 0) [
              | inl e ↦ stays j (after_same high (num i) (num j) e) ∙ N.kept_is j u (omega arith)
              | inr e ↦ (let far : i + 1 - N.seen < gap (num j) high =
                  subst (λ (v : ℕ). i + 1 - N.seen < gap (num j) v) (sym N.high_is) (gap_behind j N.seen i u h b (subst (λ (v : ℕ). gap (num j) v ≢ 0) N.high_is e)) in
                  stays j (after_far high (num i) (num j) (subst (λ (v : ℕ). v < gap (num j) high) (sym g_i) far)) ∙ N.kept_is j u (omega arith))
            ])
            | no u ↦ (let u' : N.seen ≤ j = omega arith in
                let g_j : gap (num j) high ≡ j + 1 - N.seen = ap (gap (num j)) N.high_is ∙ gap_ahead j N.seen u' (omega arith) in
                ap (λ (b : Bool). cond b none (kept (num j))) (after_in high (num i) (num j) (j + 1 - N.seen) (i + 1 - N.seen) g_j g_i (omega arith) (ahead_le j N.seen i a))
                ∙ sym (ap newest (N.unseen j u')))
          ]
