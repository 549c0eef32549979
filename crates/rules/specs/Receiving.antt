-- RECEIVING A TEXT, by document 01's "Rules of an end". Checks 12, 1, 3, then 5, 6 or 4, then 2; 12 stands in Memory.
use Rattle.std.specs.Prelude.{Bool, true, cond, not, ◌&&◌, ◌||◌, List, [], ◌∷◌, ◌++◌, ℕ, ◌+◌, length, get_or, take, drop, eqb, leb}
use Rattle.std.proofs.Math.Option.{Option, none, some}
use Rattle.message.specs.declared.Kind.{Kind}
use Rattle.message.specs.declared.Kind.TheVariants.{None, Fpl, Cpl, Est, Chg, Cnl, Rti, Rta, Rla, Lam, Lrm}
use Rattle.message.specs.declared.Verdict.{Verdict}
use Rattle.message.specs.declared.Verdict.TheVariants.{Read, Refused}
use Rattle.reader.specs.Reader.{verdict}
use Rattle.head.specs.declared.Head.{Head}
use Rattle.head.specs.declared.Standing.{Standing}
use Rattle.head.specs.declared.Standing.TheVariants.{New, Old, Stale}
use Rattle.head.specs.Head as h
use Rattle.places.specs.Place.{Place, At, Nowhere}
use Rattle.places.specs.Bytes.{same}
use Rattle.places.specs.Places.{Places, get, set, first_of}
use Rattle.flights.specs.Flight.{Flight}
use Rattle.unanswered.specs.Waiting.{Waiting, is_answer}
use Rattle.answers.specs.Given.{forgotten}
use Rattle.deeds.specs.Message.{Message}
use Rattle.deeds.specs.Deeds.{deed_of, old, same_key}
use Rattle.deeds.specs.Applying.{decision, applied}
use Rattle.memory.specs.End.{End, numbered}
use Rattle.rules.specs.Replies.{Reply, refused, done, number}
use Rattle.rules.specs.Reads.{message_in}
use Rattle.rules.specs.Answers.{answer_to, proper, is_good, is_offering, is_acceptance}
use Rattle.response.specs.Answering.{answer_text}

-- 3: THE UNITS

abbrev pub units : List ℕ → List ℕ → List ℕ → List ℕ → Bool
units a b x y = same a x && same b y

-- the reference's units are the partner's first in CHG, EST, CNL and RTI, either of the two in RTA, ours first in an answer,
-- whose two numbers are one
unfoldable pub referred : Kind → Head → Message → Bool
referred None h m = true
referred Fpl h m = true
referred Cpl h m = true
referred Est h m = units m.reference_from m.reference_to h.partners h.ours
referred Chg h m = units m.reference_from m.reference_to h.partners h.ours
referred Cnl h m = units m.reference_from m.reference_to h.partners h.ours
referred Rti h m = units m.reference_from m.reference_to h.partners h.ours
referred Rta h m = units m.reference_from m.reference_to h.partners h.ours || units m.reference_from m.reference_to h.ours h.partners
referred Rla h m = units m.reference_from m.reference_to h.ours h.partners && eqb m.reference m.number
referred Lam h m = units m.reference_from m.reference_to h.ours h.partners && eqb m.reference m.number
referred Lrm h m = units m.reference_from m.reference_to h.ours h.partners && eqb m.reference m.number

-- the number's units are the partner's then ours
abbrev pub directed : Head → Message → Bool
directed h m = units m.from m.to h.partners h.ours && referred m.kind h m

-- UNANSWERED MESSAGES

abbrev pub waiting_at : ℕ → Places Waiting → Place
waiting_at n l = first_of (numbered n) 0 l

-- AN ANSWER

-- what a positive answer does to the flights sent: the message is applied, or dropped where its condition no longer holds or no
-- place is free; an acceptance was applied on sending
unfoldable pub settled_sent : Kind → Message → Places Flight → Places Flight
settled_sent k q l = cond (is_good k && not (is_acceptance (deed_of q))) (applied q l) l

abbrev pub settled : ℕ → Kind → Message → End → End
settled i k q e = record {
  head = e.head;
  sent = settled_sent k q e.sent;
  received = e.received;
  unanswered = set i none e.unanswered;
  answers = e.answers;
}

-- 6, or the message is answered
unfoldable pub settle : ℕ → Kind → Message → End → Reply
settle i k q e = cond (proper k (deed_of q)) (done (settled i k q e) []) (refused (number 6))

abbrev pub settle_held : ℕ → Kind → End → Option Waiting → Reply
settle_held i k e none = refused (number 5)
settle_held i k e (some q) = settle i k (message_in q.text) e

abbrev pub settle_at : Place → Kind → End → Reply
settle_at Nowhere k e = refused (number 5)
settle_at (At i) k e = settle_held i k e (get i e.unanswered)

abbrev pub hear_answer : Message → End → Reply
hear_answer m e = settle_at (waiting_at m.number e.unanswered) m.kind e

-- A MESSAGE

-- an acceptance that names, by number and key, an offer still unanswered first retires that offer as RLA would
unfoldable pub retires : Message → Message → Bool
retires m q = is_offering (deed_of q) && same_key (old q) (old m)

abbrev pub retire_held : ℕ → Message → End → Option Waiting → End
retire_held i m e none = e
retire_held i m e (some q) = cond (retires m (message_in q.text)) (settled i Rla (message_in q.text) e) e

abbrev pub retire_at : Place → Message → End → End
retire_at Nowhere m e = e
retire_at (At i) m e = retire_held i m e (get i e.unanswered)

unfoldable pub retired : Message → End → End
retired m e = cond (is_acceptance (deed_of m)) (retire_at (waiting_at m.reference e.unanswered) m e) e

-- the table that a message is about: an acceptance is about a flight that we sent, all else is about one of the partner's
abbrev pub about : Message → End → Places Flight
about m e = cond (is_acceptance (deed_of m)) e.sent e.received

-- the answer for a number
abbrev pub given : ℕ → ℕ → List ℕ → List ℕ
given n v a = take n a ++ (v ∷ drop (n + 1) a)

-- applied at once and answered
abbrev pub handled : Message → End → End
handled m e =
    let v = answer_to (deed_of m) (decision m (about m e)) in
    let l = applied m (about m e) in
    record {
      head = e.head;
      sent = cond (is_acceptance (deed_of m)) l e.sent;
      received = cond (is_acceptance (deed_of m)) e.received l;
      unanswered = e.unanswered;
      answers = given m.number v e.answers;
    }

-- 2, or it is given
abbrev pub giving : ℕ → List ℕ → End → Reply
giving room t e = cond (leb (length t) room) (done e t) (refused (number 2))

abbrev pub answering : ℕ → Message → ℕ → End → Reply
answering room m v e = giving room (answer_text m v) e

-- a first arrival
unfoldable pub hear_first : ℕ → Message → End → Reply
hear_first room m e =
    let r = retired m e in
    answering room m (answer_to (deed_of m) (decision m (about m r))) (handled m r)

-- when n becomes the highest, the answers kept for the numbers after h up to and including n are forgotten first
abbrev pub raised : ℕ → End → End
raised n e = record {
  head = h.received e.head n;
  sent = e.sent;
  received = e.received;
  unanswered = e.unanswered;
  answers = forgotten e.head.highest n e.answers;
}

-- an old number already answered gets that answer again and changes nothing; RLA on a text that is no RTI is 4
unfoldable pub hear_again : ℕ → Message → ℕ → End → Reply
hear_again room m v e = cond (eqb v 2 && not (is_offering (deed_of m))) (refused (number 4)) (answering room m v e)

-- an old one never answered is handled as a first arrival
unfoldable pub hear_old : ℕ → Message → ℕ → End → Reply
hear_old room m v e = cond (eqb v 0) (hear_first room m e) (hear_again room m v e)

unfoldable pub hear_message : Standing → ℕ → Message → End → Reply
hear_message New room m e = hear_first room m (raised m.number e)
hear_message Old room m e = hear_old room m (get_or e.answers m.number 0) e
hear_message Stale room m e = refused (number 4)

unfoldable pub hear : ℕ → Message → End → Reply
hear room m e =
    cond (directed e.head m)
    (cond (is_answer m.kind) (hear_answer m e) (hear_message (h.standing e.head.highest m.number) room m e))
    (refused (number 3))

-- THE CALL: 1 where the text is not read
unfoldable pub receive_by : Verdict → ℕ → List ℕ → End → Reply
receive_by (Refused place before) room w e = refused (record { number = 1; place = place; before = before })
receive_by Read room w e = hear room (message_in w) e

-- `room` is the length of the lent buffer
abbrev pub receive : ℕ → List ℕ → End → Reply
receive room w e = receive_by (verdict w) room w e
