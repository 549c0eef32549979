-- AN ANSWER COMES: what receiving one comes to, as it is seen.
use Rattle.std.specs.Prelude.{◌≡◌, refl, Bool, true, false, cond, not, ◌&&◌, ◌||◌, List, [], ℕ, ◌+◌, length, eqb}
use Rattle.std.proofs.Common.{sym, ◌∙◌, ap, subst, ⊎_elim}
use Rattle.std.proofs.Math.Option.{none, some}
use Rattle.scan.specs.Bools.{known}
use Rattle.message.specs.declared.Kind.{Kind}
use Rattle.message.specs.declared.Kind.TheVariants.{Rla, Lam, Lrm}
use Rattle.message.specs.declared.Verdict.{Verdict}
use Rattle.message.specs.declared.Verdict.TheVariants.{Read}
use Rattle.reader.specs.Reader.{verdict}
use Rattle.head.specs.Head.{standing}
use Rattle.places.specs.Place.{Place, At, Nowhere}
use Rattle.places.specs.Places.{Places, get, set, used}
use Rattle.flights.specs.Flight.{Flight}
use Rattle.unanswered.specs.Waiting.{Waiting, is_answer}
use Rattle.deeds.specs.Message.{Message}
use Rattle.deeds.specs.Deeds.{deed_of}
use Rattle.deeds.specs.Applying.{applied}
use Rattle.memory.specs.End.{End}
use Rattle.rules.specs.Replies.{refused, done, number, refused_done, done_end, done_text}
use Rattle.rules.specs.Reads.{message_in}
use Rattle.rules.specs.Answers.{proper, is_good, is_acceptance}
use Rattle.rules.specs.Receiving.{directed, waiting_at, settled_sent, settled, settle, settle_held, settle_at, hear_answer, hear_message, hear, receive_by, receive}
use Rattle.rules.specs.Sending.{count_waiting, making}
use Rattle.pair.specs.kinds.Tools.{none_some, some_inj}
use Rattle.pair.specs.kinds.Kinds.{Content, own, near, content_of, message_of, is_yes, answer_kind, proper_to}
use Rattle.pair.specs.kinds.Views.{Applied, Settles, Learns}
use Rattle.pair.specs.kinds.Ends.{SoundEnd, by_key, waits_in, view_of}
use Rattle.pair.specs.views.Tables.{applied_own, applied_long}
use Rattle.pair.specs.views.Waits.{waits_freed, waits_found, waits_nowhere, count_freed, makers_takes}

-- A TEXT THAT IS READ AND DIRECTED TO US is heard by its kind

read_heard : (room : ℕ) (w : List ℕ) (e : End) → verdict w ≡ Read → receive room w e ≡ hear room (message_in w) e
unfolding receive_by
read_heard room w e v = ap (λ (y : Verdict). receive_by y room w e) v

directed_heard : (room : ℕ) (m : Message) (e : End) → directed e.head m ≡ true → (b : Bool) → is_answer m.kind ≡ b → hear room m e ≡ cond b (hear_answer m e) (hear_message (standing e.head.highest m.number) room m e)
unfolding hear
directed_heard room m e d b a =
    let x = hear_answer m e in
    let y = hear_message (standing e.head.highest m.number) room m e in
    ap (λ (c : Bool). cond c (cond (is_answer m.kind) x y) (refused (number 3))) d ∙ ap (λ (c : Bool). cond c x y) a

answer_heard : (room : ℕ) (w : List ℕ) (e : End) → verdict w ≡ Read → directed e.head (message_in w) ≡ true → is_answer (message_in w).kind ≡ true → receive room w e ≡ hear_answer (message_in w) e
answer_heard room w e v d a = read_heard room w e v ∙ directed_heard room (message_in w) e d true a

pub message_heard : (room : ℕ) (w : List ℕ) (e : End) → verdict w ≡ Read → directed e.head (message_in w) ≡ true → is_answer (message_in w).kind ≡ false → receive room w e ≡ hear_message (standing e.head.highest (message_in w).number) room (message_in w) e
message_heard room w e v d a = read_heard room w e v ∙ directed_heard room (message_in w) e d false a

-- CONTENTS

pub content_own : (m : Message) → is_acceptance (deed_of m) ≡ false → content_of m ≡ own m
unfolding content_of
content_own m a = ap (λ (b : Bool). cond b (near m) (own m)) a

pub content_near : (m : Message) → is_acceptance (deed_of m) ≡ true → content_of m ≡ near m
unfolding content_of
content_near m a = ap (λ (b : Bool). cond b (near m) (own m)) a

pub content_message : (m : Message) → message_of (content_of m) ≡ m
unfolding content_of message_of
content_message m = go (is_acceptance (deed_of m))
  where
    go : (b : Bool) → message_of (cond b (near m) (own m)) ≡ m
    go true = refl
    go false = refl

-- ANSWERS

good_yes : (x : ℕ) → is_good (answer_kind x) ≡ is_yes x
unfolding is_good answer_kind is_yes
good_yes x = go (eqb x 1) (eqb x 2)
  where
    go : (a b : Bool) → is_good (cond a Lam (cond b Rla Lrm)) ≡ (a || b)
    go true b = refl
    go false true = refl
    go false false = refl

proper_right : (m : Message) (x : ℕ) → proper_to (content_of m) x ≡ proper (answer_kind x) (deed_of m)
unfolding proper_to
proper_right m x = ap (λ (c : Message). proper (answer_kind x) (deed_of c)) (content_message m)

-- WHAT AN ANSWER DOES TO THE FLIGHTS SENT

settled_applied : (k : Kind) (p : Message) (l : Places Flight) → is_good k ≡ true → is_acceptance (deed_of p) ≡ false → settled_sent k p l ≡ applied p l
unfolding settled_sent
settled_applied k p l g a = (λ i. cond (g i && not (a i)) (applied p l) l)

settled_bad : (k : Kind) (p : Message) (l : Places Flight) → is_good k ≡ false → settled_sent k p l ≡ l
unfolding settled_sent
settled_bad k p l g = ap (λ (b : Bool). cond (b && not (is_acceptance (deed_of p))) (applied p l) l) g

settled_near : (k : Kind) (p : Message) (l : Places Flight) → is_acceptance (deed_of p) ≡ true → settled_sent k p l ≡ l
unfolding settled_sent
settled_near k p l a = ap (λ (b : Bool). cond (is_good k && not b) (applied p l) l) a ∙ go (is_good k)
  where
    go : (b : Bool) → cond (b && false) (applied p l) l ≡ l
    go true = refl
    go false = refl

pub settled_long : (k : Kind) (p : Message) (l : Places Flight) → length (settled_sent k p l) ≡ length l
unfolding settled_sent
settled_long k p l = go (is_good k && not (is_acceptance (deed_of p)))
  where
    go : (b : Bool) → length (cond b (applied p l) l) ≡ length l
    go true = applied_long p l
    go false = refl

module _ (e : End) (s : SoundEnd e) where
  settles_seen : (i x : ℕ) (p : Message) → Settles (content_of p) x (view_of e) (view_of (settled i (answer_kind x) p e))
  settles_seen i x p = ⊎_elim closing owned (known (is_acceptance (deed_of p)))
    where
      closing : is_acceptance (deed_of p) ≡ true → Settles (content_of p) x (view_of e) (view_of (settled i (answer_kind x) p e))
      closing a =
          let u = settled_near (answer_kind x) p e.sent a in
          subst (λ (c : Content). Settles c x (view_of e) (view_of (settled i (answer_kind x) p e))) (sym (content_near p a)) (ap by_key u, ap used u)

      owned : is_acceptance (deed_of p) ≡ false → Settles (content_of p) x (view_of e) (view_of (settled i (answer_kind x) p e))
      owned a =
          subst (λ (c : Content). Settles c x (view_of e) (view_of (settled i (answer_kind x) p e))) (sym (content_own p a)) (
            λ y. subst (λ (l : Places Flight). Applied p (by_key e.sent) (used e.sent) (length e.sent) (by_key l) (used l)) (sym (settled_applied (answer_kind x) p e.sent (good_yes x ∙ y) a)) (applied_own p e.sent s.sent a),
            λ y. let u = settled_bad (answer_kind x) p e.sent (good_yes x ∙ y) in (ap by_key u, ap used u),
          )

  -- the message that waits at place i is answered
  settled_seen : (n i x : ℕ) (q : Waiting) → waiting_at n e.unanswered ≡ At i → get i e.unanswered ≡ some q → waits_in e.unanswered n ≡ some (content_of (message_in q.text)) → proper (answer_kind x) (deed_of (message_in q.text)) ≡ true → Learns n x (view_of e) (view_of (settled i (answer_kind x) (message_in q.text) e))
  settled_seen n i x q f g h r = record {
    what = content_of (message_in q.text);
    held = h;
    right = proper_right (message_in q.text) x ∙ r;
    settles = settles_seen i x (message_in q.text);
    next = refl;
    high = refl;
    received = refl;
    room = settled_long (answer_kind x) (message_in q.text) e.sent;
    waits = waits_freed e.head.ours e.head.partners e.unanswered s.unanswered n i f;
    makers = ap (λ (k : ℕ). count_waiting making (set i none e.unanswered) + k) (sym (makers_takes (message_in q.text))) ∙ count_freed making e.unanswered i q g;
    kept = refl;
  }

-- THE ANSWER, at the place where its message waits

settle_held_lem : (n i : ℕ) (k : Kind) (e : End) (q : Waiting) → waiting_at n e.unanswered ≡ At i → get i e.unanswered ≡ some q → settle_at (waiting_at n e.unanswered) k e ≡ settle i k (message_in q.text) e
settle_held_lem n i k e q f g = ap (λ (p : Place). settle_at p k e) f ∙ ap (settle_held i k e) g

settle_done : (i : ℕ) (k : Kind) (p : Message) (e : End) → proper k (deed_of p) ≡ true → settle i k p e ≡ done (settled i k p e) []
unfolding settle
settle_done i k p e r = ap (λ (b : Bool). cond b (done (settled i k p e) []) (refused (number 6))) r

settle_six : (i : ℕ) (k : Kind) (p : Message) (e : End) → proper k (deed_of p) ≡ false → settle i k p e ≡ refused (number 6)
unfolding settle
settle_six i k p e r = ap (λ (b : Bool). cond b (done (settled i k p e) []) (refused (number 6))) r

-- it is done where the message waits and this may answer it
module _ (e : End) (m : Message) (x : ℕ) (k : m.kind ≡ answer_kind x) where
  held_settles : (i : ℕ) (q : Waiting) → waiting_at m.number e.unanswered ≡ At i → get i e.unanswered ≡ some q → hear_answer m e ≡ settle i (answer_kind x) (message_in q.text) e
  held_settles i q f g =
      ap (λ (j : Kind). settle_at (waiting_at m.number e.unanswered) j e) k ∙ settle_held_lem m.number i (answer_kind x) e q f g

  learnt : SoundEnd e → (e' : End) (t : List ℕ) → hear_answer m e ≡ done e' t → Learns m.number x (view_of e) (view_of e') × (t ≡ [])
  learnt s e' t h = go (waiting_at m.number e.unanswered) refl
    where
      go : (p : Place) → waiting_at m.number e.unanswered ≡ p → Learns m.number x (view_of e) (view_of e') × (t ≡ [])
      go Nowhere f = absurd (refused_done (sym (ap (λ (p : Place). settle_at p m.kind e) f) ∙ h))
      go (At i) f =
          let q = waits_found e.unanswered m.number i f in
          let p : Message = message_in q.0.text in
          let c : settle i (answer_kind x) p e ≡ done e' t = sym (held_settles i q.0 f q.1) ∙ h in
          ⊎_elim
          (λ r.
          let u : done (settled i (answer_kind x) p e) [] ≡ done e' t = sym (settle_done i (answer_kind x) p e r) ∙ c in
          (subst (λ (y : End). Learns m.number x (view_of e) (view_of y)) (done_end u) (settled_seen e s m.number i x q.0 f q.1 q.3 r), sym (done_text u)))
          (λ r. absurd (refused_done (sym (settle_six i (answer_kind x) p e r) ∙ c)))
          (known (proper (answer_kind x) (deed_of p)))

  learns : (c : Content) → waits_in e.unanswered m.number ≡ some c → proper_to c x ≡ true → (e' : End) × (t : List ℕ) × (hear_answer m e ≡ done e' t)
  learns c h r = go (waiting_at m.number e.unanswered) refl
    where
      go : (p : Place) → waiting_at m.number e.unanswered ≡ p → (e' : End) × (t : List ℕ) × (hear_answer m e ≡ done e' t)
      go Nowhere f = absurd (none_some (waits_nowhere e.unanswered m.number f) h)
      go (At i) f =
          let q = waits_found e.unanswered m.number i f in
          let p : Message = message_in q.0.text in
          let y : proper (answer_kind x) (deed_of p) ≡ true = sym (proper_right p x) ∙ ap (λ (z : Content). proper_to z x) (some_inj q.3 h) ∙ r in
          (settled i (answer_kind x) p e, [], held_settles i q.0 f q.1 ∙ settle_done i (answer_kind x) p e y)

unknown : (e : End) (m : Message) → waits_in e.unanswered m.number ≡ none → hear_answer m e ≡ refused (number 5)
unknown e m h = go (waiting_at m.number e.unanswered) refl
  where
    go : (p : Place) → waiting_at m.number e.unanswered ≡ p → hear_answer m e ≡ refused (number 5)
    go Nowhere f = ap (λ (p : Place). settle_at p m.kind e) f
    go (At i) f = absurd (none_some h (waits_found e.unanswered m.number i f).3)

-- RECEIVING AN ANSWER

module _ (room : ℕ) (w : List ℕ) (e : End) (v : verdict w ≡ Read) (d : directed e.head (message_in w) ≡ true) (a : is_answer (message_in w).kind ≡ true) where
  pub learn_seen : SoundEnd e → (x : ℕ) → (message_in w).kind ≡ answer_kind x → (e' : End) (t : List ℕ) → receive room w e ≡ done e' t → Learns (message_in w).number x (view_of e) (view_of e') × (t ≡ [])
  learn_seen s x k e' t h = learnt e (message_in w) x k s e' t (sym (answer_heard room w e v d a) ∙ h)

  pub learn_done : (x : ℕ) → (message_in w).kind ≡ answer_kind x → (c : Content) → waits_in e.unanswered (message_in w).number ≡ some c → proper_to c x ≡ true → (e' : End) × (t : List ℕ) × (receive room w e ≡ done e' t)
  learn_done x k c h r = let y = learns e (message_in w) x k c h r in (y.0, y.1, answer_heard room w e v d a ∙ y.2)

  pub learn_none : waits_in e.unanswered (message_in w).number ≡ none → receive room w e ≡ refused (number 5)
  learn_none h = answer_heard room w e v d a ∙ unknown e (message_in w) h
