-- From what the calls within `receive` ensure to what the rules say of a text that comes.
use Rattle.std.specs.Prelude.{◌≡◌, Bool, true, false, List, ℕ}
use Rattle.std.proofs.Math.Path.{refl, ap, subst}
use Rattle.std.proofs.Common.{sym, ◌∙◌}
use Rattle.std.proofs.Math.Bool.{cond}
use Rattle.head.specs.declared.Head.{Head}
use Rattle.head.specs.Head.{standing}
use Rattle.message.specs.declared.Record.{Record}
use Rattle.message.specs.declared.Verdict.{Verdict}
use Rattle.message.specs.declared.Verdict.TheVariants.{Read, Refused}
use Rattle.reader.specs.Reading.{Judged}
use Rattle.reader.specs.Reader.{verdict}
use Rattle.reader.proofs.Judging.{verdict_only}
use Rattle.unanswered.specs.Waiting.{is_answer}
use Rattle.deeds.specs.Message.{Message, message_of}
use Rattle.memory.specs.End.{Memory, end_of, waiting_in}
use Rattle.rules.specs.Replies.{Reply, refused, number}
use Rattle.rules.specs.Reads.{read_message}
use Rattle.rules.specs.Receiving.{directed, waiting_at, settle_at, hear_message, hear, receive_by, receive}
use Rattle.rules.specs.declared.Answer.TheVariants.{NotRead, WrongUnits}
use Rattle.rules.specs.declared.Outcome.{Outcome}
use Rattle.rules.specs.Calls.{Comes}

module _ (room : ℕ) (m : Message) (h : Head) (l : Memory) (out : List ℕ) where
  -- 3
  pub misdirected : (b : Bool) → b ≡ directed h m → b ≡ false → Comes (hear room m (end_of h l)) h l out (record { answer = WrongUnits; head = h }) l out
  unfolding hear
  misdirected b p q =
      let e : hear room m (end_of h l) ≡ refused (number 3) = ap (λ (x : Bool). cond x (cond (is_answer m.kind) (settle_at (waiting_at m.number (waiting_in l.unanswered)) m.kind (end_of h l)) (hear_message (standing h.highest m.number) room m (end_of h l))) (refused (number 3))) (sym p ∙ q) in
      subst (λ (y : Reply). Comes y h l out (record { answer = WrongUnits; head = h }) l out) (sym e) (refl, refl, refl, refl)

  module _ (b a : Bool) (p : b ≡ directed h m) (q : b ≡ true) (u : a ≡ is_answer m.kind) where
    hears : hear room m (end_of h l) ≡ cond a (settle_at (waiting_at m.number (waiting_in l.unanswered)) m.kind (end_of h l)) (hear_message (standing h.highest m.number) room m (end_of h l))
    unfolding hear
    hears =
        ap (λ (x : Bool). cond x (cond (is_answer m.kind) (settle_at (waiting_at m.number (waiting_in l.unanswered)) m.kind (end_of h l)) (hear_message (standing h.highest m.number) room m (end_of h l))) (refused (number 3))) (sym p ∙ q)
        ∙ ap (λ (x : Bool). cond x (settle_at (waiting_at m.number (waiting_in l.unanswered)) m.kind (end_of h l)) (hear_message (standing h.highest m.number) room m (end_of h l))) (sym u)

    pub answer_heard : a ≡ true → (o : Outcome) (l' : Memory) (out' : List ℕ) → Comes (settle_at (waiting_at m.number (waiting_in l.unanswered)) m.kind (end_of h l)) h l out o l' out' → Comes (hear room m (end_of h l)) h l out o l' out'
    answer_heard v o l' out' c = subst (λ (y : Reply). Comes y h l out o l' out') (sym (hears ∙ ap (λ (x : Bool). cond x (settle_at (waiting_at m.number (waiting_in l.unanswered)) m.kind (end_of h l)) (hear_message (standing h.highest m.number) room m (end_of h l))) v)) c

    pub message_heard : a ≡ false → (o : Outcome) (l' : Memory) (out' : List ℕ) → Comes (hear_message (standing h.highest m.number) room m (end_of h l)) h l out o l' out' → Comes (hear room m (end_of h l)) h l out o l' out'
    message_heard v o l' out' c = subst (λ (y : Reply). Comes y h l out o l' out') (sym (hears ∙ ap (λ (x : Bool). cond x (settle_at (waiting_at m.number (waiting_in l.unanswered)) m.kind (end_of h l)) (hear_message (standing h.highest m.number) room m (end_of h l))) v)) c

module _ (room : ℕ) (w : List ℕ) (h : Head) (l : Memory) (out : List ℕ) (v : Verdict) (r : Record) (j : Judged w v r) where
  judged : (x : Verdict) → v ≡ x → verdict w ≡ x
  judged x e = sym (verdict_only w v r j) ∙ e

  -- 1
  pub unread : (place before : ℕ) → v ≡ Refused place before → Comes (receive room w (end_of h l)) h l out (record { answer = NotRead place before; head = h }) l out
  unfolding receive_by
  unread place before e =
      subst (λ (x : Verdict). Comes (receive_by x room w (end_of h l)) h l out (record { answer = NotRead place before; head = h }) l out) (sym (judged (Refused place before) e)) (refl, refl, refl, refl)

  pub is_read : v ≡ Read → Judged w Read r
  is_read e = subst (λ (x : Verdict). Judged w x r) e j

  pub read_heard : v ≡ Read → (o : Outcome) (l' : Memory) (out' : List ℕ) → Comes (hear room (message_of w r) (end_of h l)) h l out o l' out' → Comes (receive room w (end_of h l)) h l out o l' out'
  unfolding receive_by
  read_heard e o l' out' c =
      subst (λ (x : Verdict). Comes (receive_by x room w (end_of h l)) h l out o l' out') (sym (judged Read e))
      (subst (λ (x : Message). Comes (hear room x (end_of h l)) h l out o l' out') (read_message w r (is_read e)) c)
