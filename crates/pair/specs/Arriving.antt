-- WHAT ARRIVES IN TIME IS TAKEN: a message for want of room alone is not, an answer only where its message is answered already.
use Rattle.std.specs.Prelude.{◌≡◌, refl, ◌⊎◌, true, ℕ, ◌+◌, ◌≤◌, ◌<◌, length}
use Rattle.std.proofs.Common.{sym, ◌∙◌, subst, inl, inr, arith}
use Rattle.std.proofs.Math.Path.{ap}
use Rattle.std.proofs.Math.Option.{Option, none, some}
use mathlib.Core.List.{List}
use Rattle.message.specs.declared.Kind.{Kind}
use Rattle.message.specs.declared.Kind.TheVariants.{Lam}
use Rattle.head.specs.declared.Standing.TheVariants.{New, Old}
use Rattle.head.specs.Head.{standing}
use Rattle.deeds.specs.Deeds.{deed_by, deed_of}
use Rattle.memory.specs.End.{End, Memory}
use Rattle.rules.specs.Replies.{Refusal, Reply, refused, done, number as by}
use Rattle.rules.specs.Reads.{message_in}
use Rattle.rules.specs.Answers.{is_acceptance}
use Rattle.rules.specs.Receiving.{receive}
use Rattle.response.specs.Answering.{answer_text}
use Rattle.rules.specs.Refusals.{receive_numbered}
use Rattle.rules.specs.declared.Outcome.{Outcome}
use Rattle.rules.specs.Calls.{Called, Comes}
use Rattle.pair.specs.kinds.Tools.{true_false, none_some, some_inj}
use Rattle.pair.specs.kinds.Kinds.{Content, content_of, is_yes, again_to, answer_kind}
use Rattle.pair.specs.kinds.Views.{View, Hears}
use Rattle.pair.specs.kinds.Ends.{view_of, waits_in, kept_in}
use Rattle.pair.specs.exchange.Runs.{num}
use Rattle.pair.specs.exchange.Agreement as agreement
use Rattle.pair.specs.answering.Answered.{Answerable}
use Rattle.pair.specs.keeping.Memory.{sound_of}
use Rattle.pair.specs.views.Learnt.{content_near, learn_done, learn_none}
use Rattle.pair.specs.views.Heard.{Heeded}
use Rattle.pair.specs.World.{Copy, Among, Side, count, InTime, number, given}
use Rattle.pair.specs.Came.{Refuses, Gives, came, came_refused, came_done}
use Rattle.pair.specs.Parts.{hear_seen, hear_refused, Heard, answer_heard}
use Rattle.pair.specs.Follows.{script, Told, Replies, end_in}
use Rattle.pair.specs.Followed.{Follows}

module _ {a b : List ℕ} {σ τ : ℕ → List ℕ} {X Y : Side} (F : Follows a b σ τ X Y) where
  -- A MESSAGE
  module _ (c : Copy) (l : Among c X.messages) (t : InTime X c) where
    lt : c.index < F.first.len
    lt = omega (arith, (F.here.copies c l).0, F.here.len)

    in_time : F.first.len ≤ c.index + 400
    in_time = omega (arith, F.here.len)

    is : c.text ≡ σ c.index
    is = (F.here.copies c l).1

    told : Told a b c.index c.text
    told = subst (Told a b c.index) (sym is) (F.here.told c.index (F.here.copies c l).0)

    heeded : Heeded (message_in c.text) (end_in Y)
    heeded = go (subst (agreement.Timely (script σ c.index) (num c.index)) F.there.view (agreement.timely F.reach c.index lt in_time))
      where
        n : num c.index ≡ (message_in c.text).number
        n = sym told.says.number

        go : agreement.Timely (script σ c.index) (num c.index) (view_of (end_in Y)) → Heeded (message_in c.text) (end_in Y)
        go (inl s) = inl (subst (λ (k : ℕ). standing Y.head.highest k ≡ New) n s)
        go (inr (inl s)) = inr (subst (λ (k : ℕ). standing Y.head.highest k ≡ Old) n s.0, inl (subst (λ (k : ℕ). kept_in (end_in Y).answers k ≡ none) n s.1))
        go (inr (inr s)) =
            inr (subst (λ (k : ℕ). standing Y.head.highest k ≡ Old) n s.1, inr (s.0, subst (λ (k : ℕ). kept_in (end_in Y).answers k ≡ some s.0) n s.2, subst (λ (w : List ℕ). again_to (content_of (message_in w)) s.0 ≡ true) (sym is) s.3))

    module _ (out out' : List ℕ) (o : Outcome) (m' : Memory) (q : Called (receive (length out) c.text) Y.head Y.memory out o m' out') where
      arrival : ((x : Refusal) × (receive (length out) c.text (end_in Y) ≡ refused x) × Refuses Y.head Y.memory o m' out' x) ⊎ ((e : End) × (s : List ℕ) × (receive (length out) c.text (end_in Y) ≡ done e s) × Gives o m' out' e s)
      arrival = came (receive (length out) c.text (end_in Y)) (receive_numbered (length out) c.text (end_in Y)) Y.head Y.memory out o m' out' (q.formed F.there.formed)

      -- it is refused for want of room only
      wanting : (x : Refusal) → receive (length out) c.text (end_in Y) ≡ refused x → (x ≡ by 2) × (length out < 1077)
      wanting x p =
          hear_refused (end_in Y) (sound_of Y.head Y.memory F.there.formed) c.text told.says.its told.says.read told.says.message (told.directed Y.head F.there.ours F.there.partners) heeded (length out) x p

      pub message_taken : (number o ≡ 0) ⊎ (number o ≡ 2)
      message_taken = elim arrival [
        | inl f ↦ inr (ap (λ (x : Refusal). x.number) (f.2.number ∙ (wanting f.0 f.1).0))
        | inr f ↦ inl f.3.number
      ]

      pub message_answered : 1077 ≤ length out → number o ≡ 0
      message_answered h = elim arrival [
        | inl f ↦ absurd (omega (arith, (wanting f.0 f.1).1))
        | inr f ↦ f.3.number
      ]

      -- an acceptance is answered LAM
      module _ (s : List ℕ) (g : given o out' ≡ some s) (acc : is_acceptance (deed_of (message_in c.text)) ≡ true) where
        module _ (e : End) (u : List ℕ) (p : receive (length out) c.text (end_in Y) ≡ done e u) where
          seen : (v : ℕ) × Hears (message_in c.text).number (content_of (message_in c.text)) v (view_of (end_in Y)) (view_of e) × (u ≡ answer_text (message_in c.text) v) × Answerable (message_in c.text) v
          seen = hear_seen (end_in Y) (sound_of Y.head Y.memory F.there.formed) c.text told.says.its told.says.read told.says.message (told.directed Y.head F.there.ours F.there.partners) (length out) e u p

          yes : is_yes seen.0 ≡ true
          yes =
              agreement.accepted F.reach c.index seen.0 (message_in c.text) lt in_time
              (ap (λ (w : List ℕ). content_of (message_in w)) (sym is) ∙ content_near (message_in c.text) acc)
              (subst (λ (w : View). Hears (num c.index) (script σ c.index) seen.0 w (view_of e)) (sym F.there.view)
              (subst (λ (w : List ℕ). Hears (num c.index) (content_of (message_in w)) seen.0 (view_of (end_in Y)) (view_of e)) is
              (subst (λ (k : ℕ). Hears k (content_of (message_in c.text)) seen.0 (view_of (end_in Y)) (view_of e)) told.says.number seen.1)))

          lam : seen.0 ≡ 1
          unfolding is_yes deed_by is_acceptance
          lam = go seen.3
            where
              go : Answerable (message_in c.text) seen.0 → seen.0 ≡ 1
              go (inl z) = z
              go (inr (inl z)) = absurd (true_false (sym (ap is_yes z) ∙ yes) refl)
              go (inr (inr (inl z))) = absurd (true_false (sym (ap is_yes z) ∙ yes) refl)
              go (inr (inr (inr z))) = absurd (true_false acc (ap (λ (k : Kind). is_acceptance (deed_by k (message_in c.text))) z.1))

          answered_lam : (message_in u).kind ≡ Lam
          unfolding answer_kind
          answered_lam =
              ap (λ (w : List ℕ). (message_in w).kind) seen.2 ∙ (answer_heard a b c.index c.text told.says seen.0 seen.3 X.head F.here.ours F.here.partners).kind ∙ ap answer_kind lam

        pub acceptance_taken_lem : (message_in s).kind ≡ Lam
        acceptance_taken_lem = elim arrival [
          | inl f ↦ absurd (none_some f.2.given g)
          | inr f ↦ ap (λ (w : List ℕ). (message_in w).kind) (some_inj g f.3.given) ∙ answered_lam f.0 f.1 f.2
        ]

  -- AN ANSWER
  module _ (c : Copy) (l : Among c X.answers) (t : InTime X c) where
    pub reply : (c.index < count X) × Replies (σ c.index) c.text (F.first.given c.index)
    reply = F.here.answers c l

    pub heard : Heard a b c.index reply.1.value X.head c.text
    heard = subst (Heard a b c.index reply.1.value X.head) (sym reply.1.is) (answer_heard a b c.index (σ c.index) (F.here.told c.index reply.0).says reply.1.value reply.1.may X.head F.here.ours F.here.partners)

    -- it is taken where its message waits, and refused by 5 where not
    pub answer_waited : (room : ℕ) (w : Content) → waits_in (end_in X).unanswered (num c.index) ≡ some w → (e : End) × (s : List ℕ) × (receive room c.text (end_in X) ≡ done e s)
    answer_waited room w p =
        learn_done room c.text (end_in X) heard.read heard.directed heard.answer reply.1.value heard.kind w (ap (waits_in (end_in X).unanswered) heard.number ∙ p)
        (agreement.settled F.reach c.index reply.1.value w (omega (arith, reply.0, F.here.len)) (omega (arith, F.here.len)) reply.1.given (ap (λ (v : View). v.waits (num c.index)) F.here.view ∙ p)).1

    pub answer_late : (room : ℕ) → waits_in (end_in X).unanswered (num c.index) ≡ none → receive room c.text (end_in X) ≡ refused (by 5)
    answer_late room p = learn_none room c.text (end_in X) heard.read heard.directed heard.answer (ap (waits_in (end_in X).unanswered) heard.number ∙ p)

    pub answer_taken : (out out' : List ℕ) (o : Outcome) (m' : Memory) → Called (receive (length out) c.text) X.head X.memory out o m' out' → (number o ≡ 0) ⊎ (number o ≡ 5)
    answer_taken out out' o m' q = go (waits_in (end_in X).unanswered (num c.index)) refl
      where
        left : Comes (receive (length out) c.text (end_in X)) X.head X.memory out o m' out'
        left = q.formed F.here.formed

        go : (w : Option Content) → waits_in (end_in X).unanswered (num c.index) ≡ w → (number o ≡ 0) ⊎ (number o ≡ 5)
        go none p =
            inr (ap (λ (x : Refusal). x.number) (came_refused X.head X.memory out o m' out' (by 5) (omega arith) (subst (λ (y : Reply). Comes y X.head X.memory out o m' out') (answer_late (length out) p) left)).number)
        go (some w) p =
            let d = answer_waited (length out) w p in
            inl (came_done X.head X.memory out o m' out' d.0 d.1 (subst (λ (y : Reply). Comes y X.head X.memory out o m' out') d.2 left)).number
