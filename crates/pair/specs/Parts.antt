-- WHAT THE OTHER ROOMS SHOW, in the forms that the steps need.
use Rattle.std.specs.Prelude.{◌≡◌, refl, Bool, true, false, cond, ◌&&◌, List, ℕ, ◌+◌, ◌≤◌, ◌<◌, eqb}
use Rattle.std.proofs.Common.{sym, ap, ◌∙◌, subst, inl, inr, arith, eq-eqb}
use Rattle.std.proofs.Math.Option.{none, some}
use Rattle.pair.specs.kinds.Tools.{get_below, true_false, none_some}
use Rattle.scan.specs.Bools.{both}
use Rattle.message.specs.declared.Kind.{Kind}
use Rattle.message.specs.declared.Kind.TheVariants.{None, Fpl, Cpl, Est, Chg, Cnl, Rti, Rta, Rla, Lam, Lrm}
use Rattle.message.specs.declared.Record.{Record}
use Rattle.message.specs.declared.Verdict.TheVariants.{Read}
use Rattle.reader.specs.Reading.{Judged}
use Rattle.reader.specs.Reader.{verdict}
use Rattle.reader.proofs.Judging.{verdict_only}
use Rattle.head.specs.declared.Head.{Head}
use Rattle.places.specs.Place.{Place, At, Nowhere}
use Rattle.places.specs.Bytes.{same, same_is}
use Rattle.places.specs.Places.{Places, get, found_none}
use Rattle.unanswered.specs.Waiting.{Waiting, is_answer}
use Rattle.excerpt.specs.Sizes.{number_small}
use Rattle.deeds.specs.declared.Deed.TheVariants.{Retracts, Accepts, Nothing}
use Rattle.deeds.specs.Message.{Message}
use Rattle.deeds.specs.Deeds.{deed_by, rta_deed, deed_of, in_order, turned}
use Rattle.deeds.specs.Applying.{allowed}
use Rattle.memory.specs.End.{End, numbered}
use Rattle.rules.specs.Replies.{Refusal, refused, done, number}
use Rattle.rules.specs.Reads.{read_record, message_in, read_message, read_record_lem}
use Rattle.rules.specs.Answers.{is_acceptance, is_offering}
use Rattle.rules.specs.Receiving.{units, referred, directed, waiting_at, receive}
use Rattle.rules.specs.Sending.{send}
use Rattle.response.specs.Answering.{answer_text}
use Rattle.pair.specs.kinds.Kinds.{content_of, answer_kind}
use Rattle.pair.specs.kinds.Views.{Learns, Hears}
use Rattle.pair.specs.kinds.Ends.{view_of, SoundEnd, waits_in}
use Rattle.pair.specs.exchange.Runs.{num}
use Rattle.pair.specs.answering.Answered.{Answerable, answer_read, answer_short}
use Rattle.pair.specs.keeping.Applied.{applied_formed}
use Rattle.pair.specs.keeping.Calls as k
use Rattle.pair.specs.views.Waits.{waits_found, number_at_lem}
use Rattle.pair.specs.views.Sent as s
use Rattle.pair.specs.views.Learnt as l
use Rattle.pair.specs.views.Heard as h
use Rattle.pair.specs.Texts.{Says}
use Rattle.pair.specs.World.{latest}

-- THE NUMBERS OF MESSAGES

pub latest_at : (n i : ℕ) → i < n → n ≤ i + 400 → latest n (num i) ≡ i
unfolding latest
latest_at n i h k = omega arith

-- A MESSAGE THAT WAITS is found by its number

pub waits_held : (l : Places Waiting) (p : ℕ) (u : Waiting) (n : ℕ) → get p l ≡ some u → u.number ≡ n → waits_in l n ≡ none → ⊥
waits_held l p u n g e z = go (waiting_at n l) refl
  where
    go : (o : Place) → waiting_at n l ≡ o → ⊥
    go (At i) w = none_some z (waits_found l n i w).3
    go Nowhere w = true_false (number_at_lem n (get p l) u g e) (found_none (numbered n) 0 p l w (get_below p l u g))

-- A TEXT THAT IS READ

pub kind_is : (w : List ℕ) (r : Record) → Judged w Read r → (message_in w).kind ≡ r.kind
kind_is w r j = ap (λ (m : Message). m.kind) (sym (read_message w r j))

pub small : (w : List ℕ) (r : Record) → Judged w Read r → (message_in w).number ≤ 999
small w r j = subst (λ (n : ℕ). n ≤ 999) (ap (λ (m : Message). m.number) (read_message w r j)) (number_small w r j)

-- it has one record only
judged_in : (w : List ℕ) (r : Record) → Judged w Read r → Judged w Read (read_record w)
judged_in w r j = subst (Judged w Read) (read_record_lem w r j) j

-- AN OFFER IS AN RTI

pub offers_rti : (m : Message) → is_offering (deed_of m) ≡ true → m.kind ≡ Rti
unfolding deed_by rta_deed is_offering
offers_rti m e = by m.kind e
  where
    rta : (a b : Bool) → is_offering (cond a Retracts (cond b Accepts Nothing)) ≡ false
    rta true b = refl
    rta false true = refl
    rta false false = refl

    by : (k : Kind) → is_offering (deed_by k m) ≡ true → k ≡ Rti
    by None e = absurd (true_false e refl)
    by Fpl e = absurd (true_false e refl)
    by Cpl e = absurd (true_false e refl)
    by Est e = absurd (true_false e refl)
    by Chg e = absurd (true_false e refl)
    by Cnl e = absurd (true_false e refl)
    by Rti e = refl
    by Rta e = absurd (true_false e (rta (in_order m) (turned m)))
    by Rla e = absurd (true_false e refl)
    by Lam e = absurd (true_false e refl)
    by Lrm e = absurd (true_false e refl)

-- A MESSAGE IS SENT

pub send_sound : (e : End) → SoundEnd e → (w : List ℕ) (r : Record) → Judged w Read r → is_answer r.kind ≡ false → (message_in w).from ≡ e.head.ours → (message_in w).to ≡ e.head.partners → (message_in w).number ≡ e.head.next → (room : ℕ) (e' : End) (t : List ℕ) → send room w e ≡ done e' t → k.Stays e e'
send_sound e s w r j a f g n room e' t q =
    let m = read_message w r j in
    k.send_sound e s w r j a (ap (λ (y : Message). y.from) m ∙ f) (ap (λ (y : Message). y.to) m ∙ g) (ap (λ (y : Message). y.number) m ∙ n) room e' t q

pub send_directed : (e : End) (w : List ℕ) (room : ℕ) (e' : End) (t : List ℕ) → send room w e ≡ done e' t → (hd : Head) → (message_in w).from ≡ hd.partners → (message_in w).to ≡ hd.ours → (r : Record) → Judged w Read r → is_answer r.kind ≡ false → directed hd (message_in w) ≡ true
send_directed e w room e' t q hd f g r j a = go (is_acceptance (deed_of (message_in w))) refl
  where
    m : (is_acceptance (deed_of (message_in w)) ≡ true → allowed (message_in w) e.received ≡ true) × (is_acceptance (deed_of (message_in w)) ≡ false → allowed (message_in w) e.sent ≡ true)
    m = s.send_may room w e e' t q

    go : (b : Bool) → is_acceptance (deed_of (message_in w)) ≡ b → directed hd (message_in w) ≡ true
    go true p = s.send_directed hd (message_in w) e.received (m.0 p) f g (ap is_answer (kind_is w r j) ∙ a)
    go false p = s.send_directed hd (message_in w) e.sent (m.1 p) f g (ap is_answer (kind_is w r j) ∙ a)

-- A MESSAGE IS HEARD

answerable : (m : Message) (v : ℕ) (t : List ℕ) → h.Answered m v t → Answerable m v
answerable m v t a = go a.value
  where
    go : h.OneOf v → Answerable m v
    go (inl p) = inl p
    go (inr (inl p)) = inr (inr (inr (p, offers_rti m (a.offering p))))
    go (inr (inr (inl p))) = inr (inl p)
    go (inr (inr (inr p))) = inr (inr (inl p))

pub hear_seen : (e : End) → SoundEnd e → (w : List ℕ) (r : Record) → Judged w Read r → is_answer r.kind ≡ false → directed e.head (message_in w) ≡ true → (room : ℕ) (e' : End) (t : List ℕ) → receive room w e ≡ done e' t → (v : ℕ) × Hears (message_in w).number (content_of (message_in w)) v (view_of e) (view_of e') × (t ≡ answer_text (message_in w) v) × Answerable (message_in w) v
hear_seen e k w r j a d room e' t q =
    let y = h.hear_seen (λ w r l f j. (applied_formed w r l f j).0) room w e (sym (verdict_only w Read r j)) d (ap is_answer (kind_is w r j) ∙ a) k (small w r j) e' t q in
    (y.0, y.1, y.2.text, answerable (message_in w) y.0 t y.2)

-- one that may be heard is refused by 2 only, where less is lent than the longest text has
pub hear_refused : (e : End) → SoundEnd e → (w : List ℕ) (r : Record) → Judged w Read r → is_answer r.kind ≡ false → directed e.head (message_in w) ≡ true → h.Heeded (message_in w) e → (room : ℕ) (x : Refusal) → receive room w e ≡ refused x → (x ≡ number 2) × (room < 1077)
hear_refused e k w r j a d m room x q =
    let y = h.hear_open room w e (sym (verdict_only w Read r j)) d (ap is_answer (kind_is w r j) ∙ a) k.answers (small w r j) m x q in
    (y.number, omega (arith, y.longer, answer_short w (read_record w) (judged_in w r j) y.answer (answerable (message_in w) y.answer _ y.answered)))

-- AN ANSWER IS HEARD

-- t is the answer v to the i-th message from a to b, as a, whose head is hd, reads it
pub record Heard (a b : List ℕ) (i v : ℕ) (hd : Head) (t : List ℕ) : Type 0 where
  pub read : verdict t ≡ Read
  pub answer : is_answer (message_in t).kind ≡ true
  pub kind : (message_in t).kind ≡ answer_kind v
  pub number : (message_in t).number ≡ num i
  pub directed : directed hd (message_in t) ≡ true

kind_answers : (v : ℕ) → is_answer (answer_kind v) ≡ true
unfolding answer_kind is_answer
kind_answers v = go (eqb v 1) (eqb v 2)
  where
    go : (x y : Bool) → is_answer (cond x Lam (cond y Rla Lrm)) ≡ true
    go true y = refl
    go false true = refl
    go false false = refl

pub answer_heard : (a b : List ℕ) (i : ℕ) (w : List ℕ) → Says a b (num i) w → (v : ℕ) → Answerable (message_in w) v → (hd : Head) → hd.ours ≡ a → hd.partners ≡ b → Heard a b i v hd (answer_text (message_in w) v)
unfolding referred answer_kind
answer_heard a b i w s v y hd p q =
    let x = answer_read w (read_record w) (judged_in w s.its s.read) v y in
    let t = answer_text (message_in w) v in
    record {
      read = x.read;
      answer = ap is_answer x.kind ∙ kind_answers v;
      kind = x.kind;
      number = x.number ∙ s.number;
      directed = both (units (message_in t).from (message_in t).to hd.partners hd.ours) (referred (message_in t).kind hd (message_in t))
          (pair_is (message_in t).from (message_in t).to hd.partners hd.ours (x.from ∙ s.to ∙ sym q) (x.to ∙ s.from ∙ sym p))
          (referred_answer hd (message_in t) v x.kind (pair_is (message_in t).reference_from (message_in t).reference_to hd.ours hd.partners (x.reference_from ∙ s.from ∙ sym p) (x.reference_to ∙ s.to ∙ sym q)) (x.reference ∙ sym x.number));
    }
  where
    pair_is : (c d c' d' : List ℕ) → c ≡ c' → d ≡ d' → units c d c' d' ≡ true
    pair_is c d c' d' e f = both (same c c') (same d d') ((same_is c c').no e) ((same_is d d').no f)

    referred_answer : (hd : Head) (m : Message) (v : ℕ) → m.kind ≡ answer_kind v → units m.reference_from m.reference_to hd.ours hd.partners ≡ true → m.reference ≡ m.number → referred m.kind hd m ≡ true
    referred_answer hd m v e u n = ap (λ (k : Kind). referred k hd m) e ∙ go (eqb v 1) (eqb v 2)
      where
        ok : units m.reference_from m.reference_to hd.ours hd.partners && eqb m.reference m.number ≡ true
        ok = both (units m.reference_from m.reference_to hd.ours hd.partners) (eqb m.reference m.number) u (eq-eqb m.reference m.number n)

        go : (x y : Bool) → referred (cond x Lam (cond y Rla Lrm)) hd m ≡ true
        go true y = ok
        go false true = ok
        go false false = ok

pub learn_seen : (e : End) → SoundEnd e → (t : List ℕ) → verdict t ≡ Read → directed e.head (message_in t) ≡ true → is_answer (message_in t).kind ≡ true → (v : ℕ) → (message_in t).kind ≡ answer_kind v → (room : ℕ) (e' : End) (u : List ℕ) → receive room t e ≡ done e' u → Learns (message_in t).number v (view_of e) (view_of e')
learn_seen e k t r d a v n room e' u q = (l.learn_seen room t e r d a k v n e' u q).0
