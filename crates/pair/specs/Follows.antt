-- HOW A WORLD FOLLOWS A RUN that is seen by key and number (exchange): what each end holds, and what the texts of the channel are.
use Rattle.std.specs.Prelude.{◌≡◌, refl, Bool, true, cond, List, [], ◌∷◌, ℕ, ◌+◌, ◌≤◌, ◌<◌, length, eqb}
use Rattle.std.proofs.Common.{sym, ap, ◌∙◌, subst, inl, inr, arith, eq-eqb, ne_eqb}
use Rattle.std.proofs.Math.Option.{Option, none, some}
use Rattle.head.specs.declared.Head.{Head}
use Rattle.places.specs.Places.{get}
use Rattle.unanswered.specs.Waiting.{Waiting}
use Rattle.memory.specs.End.{End, Memory, Formed, waiting_in, end_of, memory_of}
use Rattle.rules.specs.Reads.{message_in}
use Rattle.rules.specs.Receiving.{directed}
use Rattle.response.specs.Answering.{answer_text}
use Rattle.rules.specs.declared.Outcome.{Outcome}
use Rattle.pair.specs.kinds.Tools.{upd, upd_same, upd_other, same?}
use Rattle.pair.specs.kinds.Kinds.{content_of}
use Rattle.pair.specs.kinds.Ends.{view_of, SoundEnd}
use Rattle.pair.specs.answering.Answered.{Answerable}
use Rattle.pair.specs.exchange.Runs as run
use Rattle.pair.specs.exchange.Runs.{Script, num, Mem}
use Rattle.pair.specs.keeping.Memory.{formed_of, end_back}
use Rattle.pair.specs.World.{Copy, Among, Side, count, latest, logged, copied, changed, sent, resent, answered}
use Rattle.pair.specs.Texts.{Says}

-- the messages that the texts say
abbrev pub script : (ℕ → List ℕ) → Script
script σ i = content_of (message_in (σ i))

-- the i-th text of a log, the newest first
unfoldable pub text_at : ℕ → List (List ℕ) → List ℕ
text_at i [] = []
text_at i (w ∷ l) = cond (eqb i (length l)) w (text_at i l)

-- σ begins as what X has sent
abbrev pub Spells : (ℕ → List ℕ) → Side → Type 0
Spells σ X = (i : ℕ) → i < count X → σ i ≡ text_at i X.log

-- w is the i-th message of an end a, whose partner is b, as b reads it
pub record Told (a b : List ℕ) (i : ℕ) (w : List ℕ) : Type 0 where
  pub says : Says a b (num i) w
  pub directed : (h : Head) → h.ours ≡ b → h.partners ≡ a → directed h (message_in w) ≡ true

-- t answers the text w, by one of the answers in l
pub record Replies (w t : List ℕ) (l : List ℕ) : Type 0 where
  pub value : ℕ
  pub given : Mem value l
  pub is : t ≡ answer_text (message_in w) value
  pub may : Answerable (message_in w) value

-- X is what x sees, and its texts are those of σ
pub record Kept (a b : List ℕ) (σ : ℕ → List ℕ) (X : Side) (x : run.Side) : Type 0 where
  pub formed : Formed X.head X.memory
  pub ours : X.head.ours ≡ a
  pub partners : X.head.partners ≡ b
  pub view : x.view ≡ view_of (end_of X.head X.memory)
  pub len : x.len ≡ count X
  pub told : (i : ℕ) → i < count X → Told a b i (σ i)
  pub copies : (c : Copy) → Among c X.messages → (c.index < count X) × (c.text ≡ σ c.index)
  pub waiting : (p : ℕ) (q : Waiting) (i : ℕ) → get p (waiting_in X.memory.unanswered) ≡ some q → i < count X → count X ≤ i + 400 → q.number ≡ num i → q.text ≡ σ i
  pub answers : (c : Copy) → Among c X.answers → (c.index < count X) × Replies (σ c.index) c.text (x.given c.index)

abbrev pub end_in : Side → End
end_in X = end_of X.head X.memory

-- A CALL THAT WAS REFUSED changes nothing

module _ (X : Side) (o : Outcome) (m : Memory) (g : Option (List ℕ)) (h : o.head ≡ X.head) (k : m ≡ X.memory) (n : g ≡ none) where
  pub sent_none : sent o m g X ≡ X
  unfolding logged copied
  sent_none = λ i. record { head = h i; memory = k i; log = logged (n i) X.log; messages = copied (count X) (n i) X.messages; answers = X.answers }

  pub resent_none : (j : ℕ) → resent j o m g X ≡ X
  unfolding copied
  resent_none j = λ i. record { head = h i; memory = k i; log = X.log; messages = copied (latest (count X) j) (n i) X.messages; answers = X.answers }

pub changed_none : (X : Side) (o : Outcome) (m : Memory) → o.head ≡ X.head → m ≡ X.memory → changed o m X ≡ X
changed_none X o m h k = λ i. record { head = h i; memory = k i; log = X.log; messages = X.messages; answers = X.answers }

pub answered_none : (X : Side) (j : ℕ) (g : Option (List ℕ)) → g ≡ none → answered j g X ≡ X
unfolding copied
answered_none X j g n = λ i. record { head = X.head; memory = X.memory; log = X.log; messages = X.messages; answers = copied j (n i) X.answers }

-- THE LOG

pub text_newest : (w : List ℕ) (l : List (List ℕ)) → text_at (length l) (w ∷ l) ≡ w
unfolding text_at
text_newest w l = ap (λ (b : Bool). cond b w (text_at (length l) l)) (eq-eqb (length l) (length l) refl)

pub text_older : (i : ℕ) (w : List ℕ) (l : List (List ℕ)) → i < length l → text_at i (w ∷ l) ≡ text_at i l
unfolding text_at
text_older i w l h = ap (λ (b : Bool). cond b w (text_at i l)) (ne_eqb i (length l) (λ e. omega arith))

-- THE NEXT END
module _ (X : Side) (e : End) (s : SoundEnd e) (hd : Head) (m : Memory) (h : hd ≡ e.head) (k : m ≡ memory_of e) where
  pub next_formed : Formed hd m
  next_formed = subst (λ (u : Memory). Formed hd u) (sym k) (subst (λ (u : Head). Formed u (memory_of e)) (sym h) (formed_of e s))

  pub next_end : end_of hd m ≡ e
  next_end = (λ i. end_of (h i) (k i)) ∙ end_back e s

-- what a given answer does not take away
pub mem_told : (g : ℕ → List ℕ) (i x j v : ℕ) → Mem v (g j) → Mem v (upd g i (x ∷ g i) j)
mem_told g i x j v m = elim (same? j i) [
  | inl q ↦ subst (λ (l : List ℕ). Mem v l) (sym (upd_same g i (x ∷ g i) j q)) (run.there (subst (λ (n : ℕ). Mem v (g n)) q m))
  | inr q ↦ subst (λ (l : List ℕ). Mem v l) (sym (upd_other g i (x ∷ g i) j q)) m
]

pub mem_new : (g : ℕ → List ℕ) (i x : ℕ) → Mem x (upd g i (x ∷ g i) i)
mem_new g i x = subst (λ (l : List ℕ). Mem x l) (sym (upd_same g i (x ∷ g i) i refl)) run.here
