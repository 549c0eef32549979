-- EVERY CALL IS A TURN of the run that a world follows, or changes nothing.
use Rattle.std.specs.Prelude.{◌≡◌, refl, false, length}
use Rattle.std.proofs.Math.Path.{sym, ap, subst}
use Rattle.std.proofs.Common.{◌∙◌, inl, inr}
use Rattle.std.proofs.Math.Option.{Option, some}
use mathlib.Core.List.{List, ◌∷◌}
use Prim.Native.Nat.{ℕ, suc, ◌+◌, ◌≤◌, ◌<◌}
use native.Mathlib.Omega.{arith}
use Rattle.message.specs.declared.Record.{Record}
use Rattle.head.specs.declared.Head.{Head}
use Rattle.writer.specs.Draft.{Drafted}
use Rattle.places.specs.Place.{At}
use Rattle.places.specs.Places.{get}
use Rattle.unanswered.specs.Waiting.{Waiting, is_answer}
use Rattle.memory.specs.End.{End, Memory, waiting_in, end_of, memory_of}
use Rattle.memory.specs.Held.{memory_back}
use Rattle.rules.specs.Replies.{Refusal, refused, done}
use Rattle.rules.specs.Reads.{message_in}
use Rattle.rules.specs.Receiving.{waiting_at, receive}
use Rattle.rules.specs.Sending.{send, resend}
use Rattle.response.specs.Answering.{answer_text}
use Rattle.rules.specs.Refusals.{receive_numbered, send_numbered, resend_numbered}
use Rattle.rules.specs.declared.Outcome.{Outcome}
use Rattle.rules.specs.Calls.{Called, Comes}
use Rattle.link.specs.Sends.{Sent}
use Rattle.pair.specs.kinds.Tools.{same?, upd, some_inj}
use Rattle.pair.specs.kinds.Kinds.{Content, content_of}
use Rattle.pair.specs.kinds.Views.{View, Sends, Learns, Hears}
use Rattle.pair.specs.kinds.Ends.{view_of, waits_in}
use Rattle.pair.specs.exchange.Runs as run
use Rattle.pair.specs.exchange.Runs.{Script, num, become, grow, tell}
use Rattle.pair.specs.World.{Copy, Among, here, there, Side, count, InTime, latest, given, Asked, text, answer, unwritten, logged, copied, changed, sent, resent, answered}
use Rattle.pair.specs.Texts.{Says, draft_says, send_adds, receive_holds}
use Rattle.pair.specs.Came.{Gives, came, came_refused}
use Rattle.pair.specs.Follows.{script, text_newest, Spells, Told, Replies, Kept, end_in, sent_none, resent_none, changed_none, answered_none, next_formed, next_end, mem_told, mem_new}
use Rattle.pair.specs.Parts.{send_sound, send_directed, hear_seen, learn_seen, Heard, answer_heard, waits_held, latest_at}
use Rattle.pair.specs.answering.Answered.{Answerable}
use Rattle.pair.specs.keeping.Memory.{sound_of}
use Rattle.pair.specs.keeping.Calls.{Stays, receive_sound}
use Rattle.pair.specs.views.Waits.{waits_found}
use Rattle.pair.specs.views.Sent.{send_seen, resend_seen}

-- the run goes on, or stays
pub data Onward (s : Script) (x y : run.Side) : run.Side → run.Side → Type 0 where
  stays : Onward s x y x y
  turns : {x' y' : run.Side} → run.Turn s x y x' y' → Onward s x y x' y'

pub record Next (a b : List ℕ) (σ τ : ℕ → List ℕ) (x y : run.Side) (X Y : Side) : Type 0 where
  pub first : run.Side
  pub second : run.Side
  pub onward : Onward (script σ) x y first second
  pub here : Kept a b σ X first
  pub there : Kept b a τ Y second

-- what comes to a side, a message or an answer, leaves it in step
received_kept : {a b : List ℕ} {σ : ℕ → List ℕ} {Z : Side} {z : run.Side} → Kept a b σ Z z → (w out : List ℕ) {out' : List ℕ} {o : Outcome} {m : Memory} (e : End) (s : List ℕ) → receive (length out) w (end_in Z) ≡ done e s → Gives o m out' e s → Kept a b σ (changed o m Z) (become (view_of e) z)
received_kept {Z = Z} K w out {o = o} {m = m} e s q g =
    let t = receive_sound (length out) w (end_in Z) e s (sound_of Z.head Z.memory K.formed) q in
    let back : end_of o.head m ≡ e = next_end Z e t.sound o.head m g.head g.memory in
    record {
      formed = next_formed Z e t.sound o.head m g.head g.memory;
      ours = ap (λ (u : Head). u.ours) g.head ∙ t.ours ∙ K.ours;
      partners = ap (λ (u : Head). u.partners) g.head ∙ t.partners ∙ K.partners;
      view = ap view_of (sym back);
      len = K.len;
      told = K.told;
      copies = K.copies;
      waiting = λ p u k h. K.waiting p u k (receive_holds (length out) w (end_in Z) e s q p u (sym (ap (λ (f : End). get p f.unanswered) back) ∙ h));
      answers = K.answers;
    }

module _ {a b : List ℕ} {σ τ : ℕ → List ℕ} {X Y : Side} {x y : run.Side} (K : Kept a b σ X x) (L : Kept b a τ Y y) where
  -- nothing has changed
  same : (X' Y' : Side) → X' ≡ X → Y' ≡ Y → Next a b σ τ x y X' Y'
  same X' Y' p q = record {
    first = x;
    second = y;
    onward = stays;
    here = subst (λ (Z : Side). Kept a b σ Z x) (sym p) K;
    there = subst (λ (Z : Side). Kept b a τ Z y) (sym q) L;
  }

  -- SENDING

  module _ (d : List ℕ) (r : Record) (out out' : List ℕ) (o : Outcome) (m : Memory) (c : Sent d r X.head X.memory out o m out') where
    unsent : (z : Refusal) → 1 ≤ z.number → Comes (refused z) X.head X.memory out o m out' → Next a b σ τ x y (sent o m (given o out') X) Y
    unsent z p q =
        let f = came_refused X.head X.memory out o m out' z p q in
        same (sent o m (given o out') X) Y (sent_none X o m (given o out') f.head f.memory f.given) refl

    module _ (w : List ℕ) (k : is_answer r.kind ≡ false) (dr : Drafted X.head.ours X.head.partners X.head.next d r w) (next_is : x.view.next ≡ num x.len) (spells : Spells σ (sent o m (given o out') X)) where
      says : Says X.head.ours X.head.partners X.head.next w
      says = draft_says X.head.ours X.head.partners X.head.next d r w dr k

      numbered : X.head.next ≡ num (count X)
      numbered = sym (ap (λ (v : View). v.next) K.view) ∙ next_is ∙ ap num K.len

      module _ (e : End) (t : List ℕ) (q : send (length out) w (end_in X) ≡ done e t) (g : Gives o m out' e t) where
        snd : Stays (end_in X) e
        snd = send_sound (end_in X) (sound_of X.head X.memory K.formed) w says.its says.read says.message says.from says.to says.number (length out) e t q

        seen : Sends (content_of (message_in w)) (view_of (end_in X)) (view_of e) × (t ≡ w)
        seen = send_seen (sound_of X.head X.memory K.formed) w (length out) says.number q

        back : end_of o.head m ≡ e
        back = next_end X e snd.sound o.head m g.head g.memory

        gave : given o out' ≡ some w
        gave = g.given ∙ ap (λ (u : List ℕ). some u) seen.1

        Z : Side
        Z = record { head = o.head; memory = m; log = w ∷ X.log; messages = record { index = count X; text = w } ∷ X.messages; answers = X.answers }

        to_Z : sent o m (given o out') X ≡ Z
        unfolding logged copied Z
        to_Z = ap (λ (u : Option (List ℕ)). sent o m u X) gave

        spell : σ (count X) ≡ w
        unfolding Z
        spell = subst (Spells σ) to_Z spells (count X) (omega arith) ∙ text_newest w X.log

        turn : run.Turn (script σ) x y (grow (view_of e) x) y
        turn =
            run.sends
            (subst (λ (u : Content). Sends u x.view (view_of e)) (sym (ap (script σ) K.len ∙ ap (λ (u : List ℕ). content_of (message_in u)) spell)) (subst (λ (u : View). Sends (content_of (message_in w)) u (view_of e)) (sym K.view) seen.0))

        told : (i : ℕ) → i < suc (count X) → Told a b i (σ i)
        told i h = elim (same? i (count X)) [
          | inl z ↦ subst (λ (u : ℕ). Told a b u (σ u)) (sym z) (subst (Told a b (count X)) (sym spell) newest)
          | inr z ↦ K.told i (omega arith)
        ]
          where
            from : (message_in w).from ≡ a
            from = says.from ∙ K.ours

            to : (message_in w).to ≡ b
            to = says.to ∙ K.partners

            newest : Told a b (count X) w
            newest = record {
              says = record { its = says.its; read = says.read; message = says.message; from = from; to = to; number = says.number ∙ numbered };
              directed = λ h p u. send_directed (end_in X) w (length out) e t q h (from ∙ sym u) (to ∙ sym p) says.its says.read says.message;
            }

        waiting : (p : ℕ) (u : Waiting) (i : ℕ) → get p (waiting_in m.unanswered) ≡ some u → i < suc (count X) → suc (count X) ≤ i + 400 → u.number ≡ num i → u.text ≡ σ i
        waiting p u i h lt ge n = elim (send_adds (length out) w (end_in X) e t q p u (sym (ap (λ (f : End). get p f.unanswered) back) ∙ h)) [
          | inl old ↦ elim (same? i (count X)) [
            | inl z ↦ absurd (unused p u old (n ∙ ap num z))
            | inr z ↦ K.waiting p u i old (omega arith) (omega arith) n
          ]
          | inr is ↦ (let z : i ≡ count X = (let v : u.number ≡ num (count X) = ap (λ (f : Waiting). f.number) is ∙ numbered in omega arith) in
              ap (λ (f : Waiting). f.text) is ∙ sym spell ∙ ap σ (sym z))
        ]
          where
            unused : (p : ℕ) (u : Waiting) → get p (waiting_in X.memory.unanswered) ≡ some u → u.number ≡ num (count X) → ⊥
            unused p u h n = waits_held (waiting_in X.memory.unanswered) p u X.head.next h (n ∙ sym numbered) seen.0.unused

        kept : Kept a b σ Z (grow (view_of e) x)
        unfolding Z
        kept = record {
          formed = next_formed X e snd.sound o.head m g.head g.memory;
          ours = ap (λ (u : Head). u.ours) g.head ∙ snd.ours ∙ K.ours;
          partners = ap (λ (u : Head). u.partners) g.head ∙ snd.partners ∙ K.partners;
          view = ap view_of (sym back);
          len = omega (arith, K.len);
          told = told;
          copies = copies;
          waiting = waiting;
          answers = λ u l. let v = K.answers u l in (omega (arith, v.0), v.1);
        }
          where
            copies : (u : Copy) → Among u (record { index = count X; text = w } ∷ X.messages) → (u.index < suc (count X)) × (u.text ≡ σ u.index)
            copies u here = (omega arith, sym spell)
            copies u (there l) = let v = K.copies u l in (omega (arith, v.0), v.1)

        sent_on : Next a b σ τ x y (sent o m (given o out') X) Y
        sent_on = record { first = grow (view_of e) x; second = y; onward = turns turn; here = subst (λ (u : Side). Kept a b σ u (grow (view_of e) x)) (sym to_Z) kept; there = L }

    pub sends_on : Asked X.head d r → x.view.next ≡ num x.len → Spells σ (sent o m (given o out') X) → Next a b σ τ x y (sent o m (given o out') X) Y
    sends_on (answer k) n s = unsent _ (omega arith) (c.answer K.formed k)
    sends_on (unwritten k) n s = unsent _ (omega arith) (c.broken K.formed k)
    sends_on (text w k dr) n s = elim (came (send (length out) w (end_in X)) (send_numbered (length out) w (end_in X)) X.head X.memory out o m out' (c.drafted K.formed k w dr)) [
      | inl f ↦ same (sent o m (given o out') X) Y (sent_none X o m (given o out') f.2.head f.2.memory f.2.given) refl
      | inr f ↦ sent_on w k dr n s f.0 f.1 f.2 f.3
    ]

  -- RESENDING

  module _ (n : ℕ) (out out' : List ℕ) (o : Outcome) (m : Memory) (latest_is : (n : ℕ) (c : Content) → x.view.waits n ≡ some c → (i : ℕ) × (i < x.len) × (x.len ≤ i + 400) × (n ≡ num i)) where
    module _ (e : End) (t : List ℕ) (q : resend (length out) n (end_in X) ≡ done e t) (g : Gives o m out' e t) where
      found : (e ≡ end_in X) × ((u : Waiting) × (i : ℕ) × (waiting_at n (end_in X).unanswered ≡ At i) × (get i (end_in X).unanswered ≡ some u) × (t ≡ u.text))
      found = resend_seen (length out) n (end_in X) e t q

      waits : (u : Waiting) × (get found.1.1 (end_in X).unanswered ≡ some u) × (u.number ≡ n) × (waits_in (end_in X).unanswered n ≡ some (content_of (message_in u.text)))
      waits = waits_found (end_in X).unanswered n found.1.1 found.1.2

      j : (i : ℕ) × (i < x.len) × (x.len ≤ i + 400) × (n ≡ num i)
      j = latest_is n _ (ap (λ (v : View). v.waits n) K.view ∙ waits.3)

      below : j.0 < count X
      below = omega (arith, j.1, K.len)

      in_time : count X ≤ j.0 + 400
      in_time = omega (arith, j.2, K.len)

      is_latest : latest (count X) n ≡ j.0
      is_latest = ap (latest (count X)) j.3 ∙ latest_at (count X) j.0 below in_time

      its_text : t ≡ σ (latest (count X) n)
      its_text =
          found.1.4 ∙ ap (λ (v : Waiting). v.text) (some_inj found.1.3 waits.1) ∙ K.waiting found.1.1 waits.0 j.0 waits.1 below in_time (waits.2 ∙ j.3) ∙ ap σ (sym is_latest)

      Z_r : Side
      Z_r = record { head = X.head; memory = X.memory; log = X.log; messages = record { index = latest (count X) n; text = t } ∷ X.messages; answers = X.answers }

      to_Zr : resent n o m (given o out') X ≡ Z_r
      unfolding copied Z_r
      to_Zr =
          let hd : o.head ≡ X.head = g.head ∙ ap (λ (v : End). v.head) found.0 in
          let mm : m ≡ X.memory = g.memory ∙ ap memory_of found.0 ∙ memory_back K.formed in
          λ k. resent n (record { answer = o.answer; head = hd k }) (mm k) (g.given k) X

      kept_r : Kept a b σ Z_r x
      unfolding Z_r
      kept_r = record {
        formed = K.formed;
        ours = K.ours;
        partners = K.partners;
        view = K.view;
        len = K.len;
        told = K.told;
        copies = copies;
        waiting = K.waiting;
        answers = K.answers;
      }
        where
          copies : (v : Copy) → Among v (record { index = latest (count X) n; text = t } ∷ X.messages) → (v.index < count X) × (v.text ≡ σ v.index)
          copies v here = (omega (arith, is_latest, below), its_text)
          copies v (there l) = K.copies v l

    pub resends_on : Called (resend (length out) n) X.head X.memory out o m out' → Next a b σ τ x y (resent n o m (given o out') X) Y
    resends_on c = elim (came (resend (length out) n (end_in X)) (resend_numbered (length out) n (end_in X)) X.head X.memory out o m out' (c.formed K.formed)) [
      | inl f ↦ same (resent n o m (given o out') X) Y (resent_none X o m (given o out') f.2.head f.2.memory f.2.given n) refl
      | inr f ↦ record { first = x; second = y; onward = stays; here = subst (λ (u : Side). Kept a b σ u x) (sym (to_Zr f.0 f.1 f.2 f.3)) (kept_r f.0 f.1 f.2 f.3); there = L }
    ]

  -- A MESSAGE ARRIVES at Y

  module _ (c : Copy) (out out' : List ℕ) (o : Outcome) (m : Memory) (l : Among c X.messages) (t : InTime X c) where
    lt : c.index < count X
    lt = (K.copies c l).0

    is : c.text ≡ σ c.index
    is = (K.copies c l).1

    told_c : Told a b c.index c.text
    told_c = subst (Told a b c.index) (sym is) (K.told c.index lt)

    module _ (e : End) (s : List ℕ) (q : receive (length out) c.text (end_in Y) ≡ done e s) (g : Gives o m out' e s) where
      seen_h : (v : ℕ) × Hears (message_in c.text).number (content_of (message_in c.text)) v (view_of (end_in Y)) (view_of e) × (s ≡ answer_text (message_in c.text) v) × Answerable (message_in c.text) v
      seen_h = hear_seen (end_in Y) (sound_of Y.head Y.memory L.formed) c.text told_c.says.its told_c.says.read told_c.says.message (told_c.directed Y.head L.ours L.partners) (length out) e s q

      turn_h : run.Turn (script σ) x y (tell c.index seen_h.0 x) (become (view_of e) y)
      turn_h =
          run.hears {X = x} {Y = y} {v = view_of e} c.index seen_h.0 (omega (arith, lt, K.len)) (omega (arith, K.len))
          (subst (λ (u : View). Hears (num c.index) (script σ c.index) seen_h.0 u (view_of e)) (sym L.view)
          (subst (λ (u : List ℕ). Hears (num c.index) (content_of (message_in u)) seen_h.0 (view_of (end_in Y)) (view_of e)) is
          (subst (λ (u : ℕ). Hears u (content_of (message_in c.text)) seen_h.0 (view_of (end_in Y)) (view_of e)) told_c.says.number seen_h.1)))

      Z_h : Side
      Z_h = record { head = X.head; memory = X.memory; log = X.log; messages = X.messages; answers = record { index = c.index; text = s } ∷ X.answers }

      to_Z_h : answered c.index (given o out') X ≡ Z_h
      unfolding copied Z_h
      to_Z_h = ap (λ (u : Option (List ℕ)). answered c.index u X) g.given

      kept_h : Kept a b σ Z_h (tell c.index seen_h.0 x)
      unfolding Z_h
      kept_h = record {
        formed = K.formed;
        ours = K.ours;
        partners = K.partners;
        view = K.view;
        len = K.len;
        told = K.told;
        copies = K.copies;
        waiting = K.waiting;
        answers = answers;
      }
        where
          answers : (u : Copy) → Among u (record { index = c.index; text = s } ∷ X.answers) → (u.index < count X) × Replies (σ u.index) u.text (upd x.given c.index (seen_h.0 ∷ x.given c.index) u.index)
          answers u here = (
            lt,
            record {
              value = seen_h.0;
              given = mem_new x.given c.index seen_h.0;
              is = seen_h.2 ∙ ap (λ (v : List ℕ). answer_text (message_in v) seen_h.0) is;
              may = subst (λ (v : List ℕ). Answerable (message_in v) seen_h.0) is seen_h.3;
            },
          )
          answers u (there r) =
              let v = K.answers u r in (
                v.0,
                record {
                  value = v.1.value;
                  given = mem_told x.given c.index seen_h.0 u.index v.1.value v.1.given;
                  is = v.1.is;
                  may = v.1.may;
                },
              )

      heard_on : Next a b σ τ x y (answered c.index (given o out') X) (changed o m Y)
      heard_on = record {
        first = tell c.index seen_h.0 x;
        second = become (view_of e) y;
        onward = turns turn_h;
        here = subst (λ (u : Side). Kept a b σ u (tell c.index seen_h.0 x)) (sym to_Z_h) kept_h;
        there = received_kept L c.text out e s q g;
      }

    pub hears_on : Called (receive (length out) c.text) Y.head Y.memory out o m out' → Next a b σ τ x y (answered c.index (given o out') X) (changed o m Y)
    hears_on q = elim (came (receive (length out) c.text (end_in Y)) (receive_numbered (length out) c.text (end_in Y)) Y.head Y.memory out o m out' (q.formed L.formed)) [
      | inl f ↦ same (answered c.index (given o out') X) (changed o m Y) (answered_none X c.index (given o out') f.2.given) (changed_none Y o m f.2.head f.2.memory)
      | inr f ↦ heard_on f.0 f.1 f.2 f.3
    ]

  -- AN ANSWER ARRIVES at X

  module _ (c : Copy) (out out' : List ℕ) (o : Outcome) (m : Memory) (l : Among c X.answers) (t : InTime X c) where
    reply : (c.index < count X) × Replies (σ c.index) c.text (x.given c.index)
    reply = K.answers c l

    answer_c : Heard a b c.index reply.1.value X.head c.text
    answer_c = subst (Heard a b c.index reply.1.value X.head) (sym reply.1.is) (answer_heard a b c.index (σ c.index) (K.told c.index reply.0).says reply.1.value reply.1.may X.head K.ours K.partners)

    module _ (e : End) (s : List ℕ) (q : receive (length out) c.text (end_in X) ≡ done e s) (g : Gives o m out' e s) where
      seen_l : Learns (message_in c.text).number reply.1.value (view_of (end_in X)) (view_of e)
      seen_l = learn_seen (end_in X) (sound_of X.head X.memory K.formed) c.text answer_c.read answer_c.directed answer_c.answer reply.1.value answer_c.kind (length out) e s q

      turn_l : run.Turn (script σ) x y (become (view_of e) x) y
      turn_l =
          run.learns {X = x} {Y = y} {v = view_of e} c.index reply.1.value (omega (arith, reply.0, K.len)) (omega (arith, K.len)) reply.1.given
          (subst (λ (u : View). Learns (num c.index) reply.1.value u (view_of e)) (sym K.view) (subst (λ (u : ℕ). Learns u reply.1.value (view_of (end_in X)) (view_of e)) answer_c.number seen_l))

    pub learns_on : Called (receive (length out) c.text) X.head X.memory out o m out' → Next a b σ τ x y (changed o m X) Y
    learns_on q = elim (came (receive (length out) c.text (end_in X)) (receive_numbered (length out) c.text (end_in X)) X.head X.memory out o m out' (q.formed K.formed)) [
      | inl f ↦ same (changed o m X) Y (changed_none X o m f.2.head f.2.memory) refl
      | inr f ↦ record { first = become (view_of f.0) x; second = y; onward = turns (turn_l f.0 f.1 f.2 f.3); here = received_kept K c.text out f.0 f.1 f.2 f.3; there = L }
    ]
