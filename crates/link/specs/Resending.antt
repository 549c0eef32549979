-- WHAT A CALL LEAVES: where the memory is damaged, and where a kept text is given again.
use Rattle.std.specs.Prelude.{◌≡◌, refl, ◌⊎◌, Bool, true, false, cond, List, ℕ, length, leb}
use Rattle.std.proofs.Common.{sym, ap, ◌∙◌, subst, inl, inr, leb-true, leb-false}
use Rattle.std.proofs.lemmas.Bool.{false≢true}
use Rattle.std.proofs.Math.Option.{Option}
use Rattle.scan.specs.Bools.{known, Decides}
use Rattle.head.specs.declared.Head.{Head}
use Rattle.places.specs.Place.{Place, At, Nowhere}
use Rattle.unanswered.specs.Waiting.{Waiting, waiting_of, place, found}
use Rattle.memory.specs.End.{End, Memory, Formed, end_of, memory_of}
use Rattle.memory.specs.Held.{NumberedAt, found_waiting, waiting_at_lem, memory_back}
use Rattle.rules.specs.Replies.{Reply, refused, done, number}
use Rattle.rules.specs.Receiving.{giving}
use Rattle.rules.specs.Sending.{resend_held, resend_at, resend}
use Rattle.rules.specs.declared.Answer.TheVariants.{NothingUnanswered, NotFormed}
use Rattle.rules.specs.declared.Outcome.{Outcome}
use Rattle.rules.specs.Calls.{refusal_in, Comes, Called, Gives}

-- DAMAGED OR NOT

pub not_formed : (step : End → Reply) (h : Head) (m : Memory) (out : List ℕ) {b : Bool} → Decides b (Formed h m) → b ≡ false → Called step h m out (record { answer = NotFormed; head = h }) m out
not_formed step h m out d e = record { formed = λ f. absurd (false≢true (sym e ∙ d.no f)); damaged = λ n. (refl, refl, refl, refl) }

pub well_formed : (step : End → Reply) (h : Head) (m : Memory) (out : List ℕ) (r : Outcome) (m' : Memory) (out' : List ℕ) → Formed h m → Comes (step (end_of h m)) h m out r m' out' → Called step h m out r m' out'
well_formed step h m out r m' out' f q = record { formed = λ g. q; damaged = λ n. absurd (n f) }

-- A TEXT THAT IS GIVEN, of an end that stays as it is
pub gives_comes : (h : Head) (m : Memory) (e : End) (t out : List ℕ) (r : Outcome) (out' : List ℕ) → h ≡ e.head → m ≡ memory_of e → Gives h t out r out' → Comes (giving (length out) t e) h m out r m out'
gives_comes h m e t out r out' p q g = go (known (leb (length t) (length out)))
  where
    go : (leb (length t) (length out) ≡ true) ⊎ (leb (length t) (length out) ≡ false) → Comes (giving (length out) t e) h m out r m out'
    go (inl y) =
        let w = g.1.0 (leb-true (length t) (length out) y) in
        subst (λ (b : Bool). Comes (cond b (done e t) (refused (number 2))) h m out r m out') (sym y) (w.0, g.0 ∙ p, q, w.1)
    go (inr n) =
        let w = g.1.1 (leb-false (length t) (length out) n) in
        subst (λ (b : Bool). Comes (cond b (done e t) (refused (number 2))) h m out r m out') (sym n) (ap refusal_in w.0, g.0, refl, w.1)

-- RESENDING

pub none_kept : (h : Head) (m : Memory) (n room : ℕ) (out : List ℕ) → found n m.unanswered ≡ Nowhere → Comes (resend room n (end_of h m)) h m out (record { answer = NothingUnanswered; head = h }) m out
none_kept h m n room out e =
    subst (λ (x : Place). Comes (resend_at x room (end_of h m)) h m out (record { answer = NothingUnanswered; head = h }) m out) (sym e ∙ found_waiting n m.unanswered)
    (refl, refl, refl, refl)

pub kept_at : {h : Head} {m : Memory} (n i : ℕ) → Formed h m → found n m.unanswered ≡ At i → NumberedAt n h.ours h.partners m.unanswered i
kept_at {h} {m} n i f e = waiting_at_lem f.unanswered n i (sym (found_waiting n m.unanswered) ∙ e)

pub kept_given : (h : Head) (m : Memory) (n i : ℕ) (w out : List ℕ) (r : Outcome) (out' : List ℕ) → Formed h m → found n m.unanswered ≡ At i → w ≡ (waiting_of (place i m.unanswered)).text → Gives h w out r out' → Comes (resend (length out) n (end_of h m)) h m out r m out'
kept_given h m n i w out r out' f e t g =
    let p : resend (length out) n (end_of h m) ≡ giving (length out) w (end_of h m) =
    ap (λ (x : Place). resend_at x (length out) (end_of h m)) (sym (found_waiting n m.unanswered) ∙ e)
    ∙ ap (λ (x : Option Waiting). resend_held x (length out) (end_of h m)) (kept_at n i f e).holds ∙ ap (λ (x : List ℕ). giving (length out) x (end_of h m)) (sym t) in
    subst (λ (x : Reply). Comes x h m out r m out') (sym p) (gives_comes h m (end_of h m) w out r out' refl (sym (memory_back f)) g)
