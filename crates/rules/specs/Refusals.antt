-- A REFUSAL HAS A NUMBER of document 01, which is never 0.
use Rattle.std.specs.Prelude.{Bool, true, false, cond, not, ◌&&◌, List, ℕ, ◌≤◌, length, get_or, eqb, leb}
use Rattle.std.proofs.Math.Option.{Option, none, some}
use Rattle.std.proofs.Common.{arith}
use Rattle.message.specs.declared.Verdict.{Verdict}
use Rattle.message.specs.declared.Verdict.TheVariants.{Read, Refused}
use Rattle.reader.specs.Reader.{verdict}
use Rattle.head.specs.declared.Standing.{Standing}
use Rattle.head.specs.declared.Standing.TheVariants.{New, Old, Stale}
use Rattle.head.specs.Head as h
use Rattle.places.specs.Place.{Place, At, Nowhere}
use Rattle.places.specs.Places.{get}
use Rattle.unanswered.specs.Waiting.{Waiting, is_answer}
use Rattle.deeds.specs.Message.{Message}
use Rattle.deeds.specs.Deeds.{deed_of}
use Rattle.deeds.specs.Applying.{decision, lowest_free}
use Rattle.memory.specs.End.{End}
use Rattle.response.specs.Answering.{answer_text}
use Rattle.rules.specs.Replies.{Reply, refused, done, number}
use Rattle.rules.specs.Reads.{message_in}
use Rattle.rules.specs.Answers.{answer_to, proper, is_offering}
use Rattle.rules.specs.Receiving.{directed, waiting_at, settled, settle, settle_held, settle_at, retired, about, handled, giving, hear_first, raised, hear_again, hear_old, hear_message, hear, receive_by, receive}
use Rattle.rules.specs.Sending.{any_waiting, too_old, naming, may_be_sent, fills, sending, send_at, send, resend_held, resend_at, resend}

abbrev pub Numbered : Reply → Type 0
Numbered (refused x) = 1 ≤ x.number
Numbered (done e t) = Unit

numbered_cond : (b : Bool) (y z : Reply) → Numbered y → Numbered z → Numbered (cond b y z)
numbered_cond true y z p q = p
numbered_cond false y z p q = q

numbered_giving : (room : ℕ) (t : List ℕ) (e : End) → Numbered (giving room t e)
numbered_giving room t e = numbered_cond (leb (length t) room) (done e t) (refused (number 2)) tt (omega arith)

-- RECEIVING

numbered_settle : (p : Place) (m : Message) (e : End) → Numbered (settle_at p m.kind e)
unfolding settle
numbered_settle Nowhere m e = omega arith
numbered_settle (At i) m e = held (get i e.unanswered)
  where
    held : (o : Option Waiting) → Numbered (settle_held i m.kind e o)
    held none = omega arith
    held (some q) = numbered_cond (proper m.kind (deed_of (message_in q.text))) (done (settled i m.kind (message_in q.text) e) _) (refused (number 6)) tt (omega arith)

numbered_first : (room : ℕ) (m : Message) (e : End) → Numbered (hear_first room m e)
unfolding hear_first
numbered_first room m e =
    let r = retired m e in
    numbered_giving room (answer_text m (answer_to (deed_of m) (decision m (about m r)))) (handled m r)

numbered_message : (s : Standing) (room : ℕ) (m : Message) (e : End) → Numbered (hear_message s room m e)
unfolding hear_message hear_old hear_again
numbered_message New room m e = numbered_first room m (raised m.number e)
numbered_message Old room m e =
    let v = get_or e.answers m.number 0 in
    numbered_cond (eqb v 0) _ _ (numbered_first room m e) (numbered_cond (eqb v 2 && not (is_offering (deed_of m))) _ _ (omega arith) (numbered_giving room (answer_text m v) e))
numbered_message Stale room m e = omega arith

numbered_hear : (room : ℕ) (m : Message) (e : End) → Numbered (hear room m e)
unfolding hear
numbered_hear room m e =
    numbered_cond (directed e.head m) _ _ (numbered_cond (is_answer m.kind) _ _ (numbered_settle (waiting_at m.number e.unanswered) m e) (numbered_message (h.standing e.head.highest m.number) room m e)) (omega arith)

pub receive_numbered : (room : ℕ) (w : List ℕ) (e : End) → Numbered (receive room w e)
unfolding receive_by
receive_numbered room w e = go (verdict w)
  where
    go : (v : Verdict) → Numbered (receive_by v room w e)
    go (Refused place before) = omega arith
    go Read = numbered_hear room (message_in w) e

-- SENDING

pub send_numbered : (room : ℕ) (w : List ℕ) (e : End) → Numbered (send room w e)
unfolding send_at
send_numbered room w e = go (lowest_free e.unanswered)
  where
    go : (p : Place) → Numbered (send_at p room w (message_in w) e)
    go Nowhere = omega arith
    go (At i) =
        numbered_cond (any_waiting (too_old e.head.next) e.unanswered) _ _ (omega arith)
        (numbered_cond (any_waiting (naming (message_in w)) e.unanswered) _ _ (omega arith)
        (numbered_cond (not (may_be_sent (message_in w) e)) _ _ (omega arith)
        (numbered_cond (fills (message_in w) e) _ _ (omega arith) (numbered_giving room w (sending i w (message_in w) e)))))

-- RESENDING

pub resend_numbered : (room n : ℕ) (e : End) → Numbered (resend room n e)
resend_numbered room n e = go (waiting_at n e.unanswered)
  where
    held : (o : Option Waiting) → Numbered (resend_held o room e)
    held none = omega arith
    held (some q) = numbered_giving room q.text e

    go : (p : Place) → Numbered (resend_at p room e)
    go Nowhere = omega arith
    go (At i) = held (get i e.unanswered)
