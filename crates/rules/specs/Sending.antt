-- SENDING, RESENDING AND SETTING UP, by document 01's "Rules of an end". Sending checks 12, 13, 8, 9, 7, 10, 11, 2; resending
-- 12, 5, 2; set-up 12 for sizes only, then 14. 12 stands in Memory, 13 in Drafts.
use Rattle.std.specs.Prelude.{Bool, false, cond, not, ◌&&◌, ◌||◌, List, [], ◌∷◌, ℕ, suc, ◌+◌, ◌-◌, ◌%◌, length, replicate, eqb, leb}
use Rattle.std.proofs.Math.Option.{Option, none, some}
use Rattle.head.specs.Head as h
use Rattle.places.specs.Place.{Place, At, Nowhere}
use Rattle.places.specs.Places.{Places, get, set, used, empty}
use Rattle.unanswered.specs.Waiting.{Waiting}
use Rattle.deeds.specs.Message.{Message}
use Rattle.deeds.specs.Deeds.{Key, same_key, deed_of, old, new, makes}
use Rattle.deeds.specs.Applying.{allowed, applied, lowest_free}
use Rattle.memory.specs.End.{End}
use Rattle.rules.specs.Replies.{Reply, refused, number}
use Rattle.rules.specs.Reads.{message_in}
use Rattle.rules.specs.Answers.{is_acceptance}
use Rattle.rules.specs.Receiving.{waiting_at, giving}
use Rattle.scan.specs.Bools.{same_bool}

-- what holds of some unanswered message
unfoldable pub any_waiting : (Waiting → Bool) → Places Waiting → Bool
any_waiting p [] = false
any_waiting p (none ∷ l) = any_waiting p l
any_waiting p (some q ∷ l) = p q || any_waiting p l

-- of how many it holds
unfoldable pub count_waiting : (Waiting → Bool) → Places Waiting → ℕ
count_waiting p [] = 0
count_waiting p (none ∷ l) = count_waiting p l
count_waiting p (some q ∷ l) = cond (p q) (suc (count_waiting p l)) (count_waiting p l)

-- 9: it is 400 or more numbers back from the next; the same number is 1000 back
unfoldable pub too_old : ℕ → Waiting → Bool
too_old next q = let d : ℕ = (next + 1000 - q.number) % 1000 in eqb d 0 || leb 400 d

-- 7: it names this flight, by old or new key. An acceptance names the partner's flight, all else the sender's
unfoldable pub one_of : Key → Message → Bool
one_of k m = same_key k (old m) || same_key k (new m)

unfoldable pub names_one : Message → Message → Bool
names_one m q = same_bool (is_acceptance (deed_of m)) (is_acceptance (deed_of q)) && (one_of (old m) q || one_of (new m) q)

abbrev pub naming : Message → Waiting → Bool
naming m q = names_one m (message_in q.text)

-- 10: the condition, at the sender
abbrev pub may_be_sent : Message → End → Bool
may_be_sent m e = cond (is_acceptance (deed_of m)) (allowed m e.received) (allowed m e.sent)

-- 11: flights sent plus unanswered FPL and CPL fill the table
abbrev pub making : Waiting → Bool
making q = makes (deed_of (message_in q.text))

abbrev pub fills : Message → End → Bool
fills m e = makes (deed_of m) && leb (length e.sent) (used e.sent + count_waiting making e.unanswered)

-- an acceptance is applied on sending
abbrev pub sending : ℕ → List ℕ → Message → End → End
sending i w m e = record {
  head = (h.given e.head).head;
  sent = e.sent;
  received = cond (is_acceptance (deed_of m)) (applied m e.received) e.received;
  unanswered = set i (some (record { number = e.head.next; text = w })) e.unanswered;
  answers = e.answers;
}

-- THE CALL, for the text w of what is to be sent, with the number that the link gives it
unfoldable pub send_at : Place → ℕ → List ℕ → Message → End → Reply
send_at Nowhere room w m e = refused (number 8)
send_at (At i) room w m e =
    cond (any_waiting (too_old e.head.next) e.unanswered) (refused (number 9))
    (cond (any_waiting (naming m) e.unanswered) (refused (number 7))
    (cond (not (may_be_sent m e)) (refused (number 10))
    (cond (fills m e) (refused (number 11))
    (giving room w (sending i w m e)))))

abbrev pub send : ℕ → List ℕ → End → Reply
send room w e = send_at (lowest_free e.unanswered) room w (message_in w) e

-- RESENDING gives the kept text of an unanswered number and changes nothing else
abbrev pub resend_held : Option Waiting → ℕ → End → Reply
resend_held none room e = refused (number 5)
resend_held (some q) room e = giving room q.text e

abbrev pub resend_at : Place → ℕ → End → Reply
resend_at Nowhere room e = refused (number 5)
resend_at (At i) room e = resend_held (get i e.unanswered) room e

abbrev pub resend : ℕ → ℕ → End → Reply
resend room n e = resend_at (waiting_at n e.unanswered) room e

-- A FRESH END: next is 000, highest is 999, nothing received, all else empty
abbrev pub fresh : List ℕ → List ℕ → ℕ → ℕ → End
fresh ours partners sent received = record {
  head = record { ours = ours; partners = partners; next = 0; highest = 999 };
  sent = empty sent;
  received = empty received;
  unanswered = empty 16;
  answers = replicate 1000 0;
}
