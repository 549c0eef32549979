-- EVERY CALL KEEPS AN END WELL FORMED, by document 01's "Rules of an end", and leaves its two names.
use Rattle.std.specs.Prelude.{◌≡◌, Bool, cond, ◌&&◌, ℕ, zero, suc, ◌+◌, ◌-◌, ◌%◌, ◌≤◌, ◌<◌, length, get_or, eqb, leb}
use Rattle.std.proofs.Math.Path.{refl}
use Rattle.std.proofs.Common.{sym, ap, ◌∙◌, subst, arith, eq-eqb}
use Rattle.std.proofs.Math.Bool.{true, false, not}
use Rattle.std.proofs.Math.Option.{Option, none, some}
use mathlib.Core.List.{List, [], ◌∷◌}
use Rattle.pair.specs.kinds.Tools.{get_below, true_false}
use Rattle.scan.specs.Bools.{neither}
use Rattle.message.specs.declared.Kind.{Kind}
use Rattle.message.specs.declared.Kind.TheVariants.{Rla}
use Rattle.message.specs.declared.Record.{Record}
use Rattle.message.specs.declared.Verdict.{Verdict}
use Rattle.message.specs.declared.Verdict.TheVariants.{Read, Refused}
use Rattle.reader.specs.Reading.{Judged, cut}
use Rattle.reader.specs.Reader.{verdict, Ruled}
use Rattle.reader.proofs.Judging.{verdict_right}
use Rattle.head.specs.declared.Standing.{Standing}
use Rattle.head.specs.declared.Standing.TheVariants.{New, Old, Stale}
use Rattle.head.specs.Head.{standing}
use Rattle.places.specs.Place.{Place, At, Nowhere}
use Rattle.places.specs.Places.{Places, is_free, get, found_below}
use Rattle.flights.specs.Flight.{Flight}
use Rattle.flights.specs.Holding.{FlightsFormed}
use Rattle.unanswered.specs.Waiting.{Waiting, is_answer, Proper}
use Rattle.deeds.specs.Message.{Message}
use Rattle.deeds.specs.Deeds.{deed_of}
use Rattle.deeds.specs.Applying.{decision, applied, lowest_free}
use Rattle.memory.specs.End.{End}
use Rattle.rules.specs.Replies.{Refusal, Reply, refused, done, number, done_end, refused_done}
use Rattle.rules.specs.Reads.{message_in, read_message}
use Rattle.rules.specs.Answers.{answer_to, proper, is_good, is_offering, is_acceptance}
use Rattle.rules.specs.Laws.{answer_value}
use Rattle.response.specs.Answering.{answer_text}
use Rattle.rules.specs.Receiving.{directed, waiting_at, settled_sent, settled, settle, settle_held, settle_at, hear_answer, retires, retire_held, retire_at, retired, about, handled, giving, hear_first, raised, hear_again, hear_old, hear_message, hear, receive_by, receive}
use Rattle.rules.specs.Sending.{any_waiting, too_old, naming, may_be_sent, fills, sending, send_at, send}
use Rattle.pair.specs.kinds.Ends.{SoundEnd}
use Rattle.pair.specs.keeping.Said.{Stated, stated}
use Rattle.pair.specs.keeping.Applied.{applied_stated}
use Rattle.pair.specs.keeping.Waits.{freed_formed, stored_formed}
use Rattle.pair.specs.keeping.Answers.{given_formed, forgotten_formed}

-- e' is well formed and has the names of e
pub record Stays (e e' : End) : Type 0 where
  pub sound : SoundEnd e'
  pub ours : e'.head.ours ≡ e.head.ours
  pub partners : e'.head.partners ≡ e.head.partners

stays : (e : End) → SoundEnd e → Stays e e
stays e s = record { sound = s; ours = refl; partners = refl }

then : {a b c : End} → Stays a b → Stays b c → Stays a c
then x y = record { sound = y.sound; ours = y.ours ∙ x.ours; partners = y.partners ∙ x.partners }

-- WHAT A REPLY LEADS TO

-- where it is no refusal, the next end stays
abbrev Leads : End → Reply → Type 0
Leads e x = (e' : End) (t : List ℕ) → x ≡ done e' t → Stays e e'

leads_not : (e : End) (r : Refusal) → Leads e (refused r)
leads_not e r e' t q = absurd (refused_done q)

leads_on : (e a : End) (t : List ℕ) → Stays e a → Leads e (done a t)
leads_on e a t s e' u q = subst (Stays e) (done_end q) s

leads_if : (e : End) (b : Bool) (x y : Reply) → Leads e x → Leads e y → Leads e (cond b x y)
leads_if e true x y p q = p
leads_if e false x y p q = q

leads_given : (e a : End) (room : ℕ) (t : List ℕ) → Stays e a → Leads e (giving room t a)
leads_given e a room t s = leads_if e (leb (length t) room) (done a t) (refused (number 2)) (leads_on e a t s) (leads_not e (number 2))

-- A MESSAGE THAT WAITS was read
waits_stated : {ours partners : List ℕ} {q : Waiting} → Proper ours partners q → Stated (message_in q.text)
waits_stated {q = q} p = subst Stated (read_message q.text p.its p.read) (stated q.text p.its p.read)

-- SETTLING

settled_flights : (k : Kind) (m : Message) (l : Places Flight) → Stated m → FlightsFormed l → FlightsFormed (settled_sent k m l)
unfolding settled_sent
settled_flights k m l t f = go (is_good k && not (is_acceptance (deed_of m)))
  where
    go : (b : Bool) → FlightsFormed (cond b (applied m l) l)
    go true = (applied_stated m l t f).formed
    go false = f

module _ (e : End) (s : SoundEnd e) where
  settled_stays : (i : ℕ) (k : Kind) (q : Waiting) → get i e.unanswered ≡ some q → Stays e (settled i k (message_in q.text) e)
  settled_stays i k q g = record {
    sound = record {
      head = s.head;
      sent = settled_flights k (message_in q.text) e.sent (waits_stated (s.unanswered.each i q g)) s.sent;
      received = s.received;
      unanswered = freed_formed e.head.ours e.head.partners e.unanswered i s.unanswered (get_below i e.unanswered q g);
      answers = s.answers;
    };
    ours = refl;
    partners = refl;
  }

  settle_leads : (i : ℕ) (k : Kind) (q : Waiting) → get i e.unanswered ≡ some q → Leads e (settle i k (message_in q.text) e)
  unfolding settle
  settle_leads i k q g =
      leads_if e (proper k (deed_of (message_in q.text))) (done (settled i k (message_in q.text) e) []) (refused (number 6))
      (leads_on e (settled i k (message_in q.text) e) [] (settled_stays i k q g)) (leads_not e (number 6))

  held_leads : (i : ℕ) (k : Kind) (o : Option Waiting) → get i e.unanswered ≡ o → Leads e (settle_held i k e o)
  held_leads i k none g = leads_not e (number 5)
  held_leads i k (some q) g = settle_leads i k q g

  at_leads : (p : Place) (k : Kind) → Leads e (settle_at p k e)
  at_leads Nowhere k = leads_not e (number 5)
  at_leads (At i) k = held_leads i k (get i e.unanswered) refl

  -- AN OFFER IS RETIRED

  held_stays : (i : ℕ) (m : Message) (o : Option Waiting) → get i e.unanswered ≡ o → Stays e (retire_held i m e o)
  held_stays i m none g = stays e s
  held_stays i m (some q) g = go (retires m (message_in q.text))
    where
      go : (b : Bool) → Stays e (cond b (settled i Rla (message_in q.text) e) e)
      go true = settled_stays i Rla q g
      go false = stays e s

  at_stays : (p : Place) (m : Message) → Stays e (retire_at p m e)
  at_stays Nowhere m = stays e s
  at_stays (At i) m = held_stays i m (get i e.unanswered) refl

  retired_stays : (m : Message) → Stays e (retired m e)
  unfolding retired
  retired_stays m = go (is_acceptance (deed_of m))
    where
      go : (b : Bool) → Stays e (cond b (retire_at (waiting_at m.reference e.unanswered) m e) e)
      go true = at_stays (waiting_at m.reference e.unanswered) m
      go false = stays e s

  -- A MESSAGE IS HANDLED

  module _ (m : Message) (t : Stated m) where
    -- of the two tables the one is changed that the message is about
    sent_formed : (b : Bool) → FlightsFormed (cond b (applied m (cond b e.sent e.received)) e.sent)
    sent_formed true = (applied_stated m e.sent t s.sent).formed
    sent_formed false = s.sent

    received_formed : (b : Bool) → FlightsFormed (cond b e.received (applied m (cond b e.sent e.received)))
    received_formed true = s.received
    received_formed false = (applied_stated m e.received t s.received).formed

    handled_stays : Stays e (handled m e)
    handled_stays = record {
      sound = record {
        head = s.head;
        sent = sent_formed (is_acceptance (deed_of m));
        received = received_formed (is_acceptance (deed_of m));
        unanswered = s.unanswered;
        answers = given_formed m.number (answer_to (deed_of m) (decision m (about m e))) e.answers s.answers t.number (answer_value (deed_of m) (decision m (about m e)));
      };
      ours = refl;
      partners = refl;
    }

  -- A NUMBER BECOMES THE HIGHEST
  raised_stays : (n : ℕ) → n ≤ 999 → Stays e (raised n e)
  raised_stays n l = record {
    sound = record {
      head = record { names = s.head.names; next = s.head.next; highest = l };
      sent = s.sent;
      received = s.received;
      unanswered = s.unanswered;
      answers = forgotten_formed e.head.highest n e.answers s.answers;
    };
    ours = refl;
    partners = refl;
  }

-- RECEIVING

first_leads : (e a : End) (room : ℕ) (m : Message) → Stays e a → Stated m → Leads e (hear_first room m a)
unfolding hear_first
first_leads e a room m s t =
    let r = retired_stays a s.sound m in
    leads_given e (handled m (retired m a)) room (answer_text m (answer_to (deed_of m) (decision m (about m (retired m a))))) (then s (then r (handled_stays (retired m a) r.sound m t)))

module _ (e : End) (s : SoundEnd e) (room : ℕ) (m : Message) (t : Stated m) where
  again_leads : (v : ℕ) → Leads e (hear_again room m v e)
  unfolding hear_again
  again_leads v =
      leads_if e (eqb v 2 && not (is_offering (deed_of m))) (refused (number 4)) (giving room (answer_text m v) e)
      (leads_not e (number 4)) (leads_given e e room (answer_text m v) (stays e s))

  old_leads : (v : ℕ) → Leads e (hear_old room m v e)
  unfolding hear_old
  old_leads v = leads_if e (eqb v 0) (hear_first room m e) (hear_again room m v e) (first_leads e e room m (stays e s) t) (again_leads v)

  message_leads : (o : Standing) → Leads e (hear_message o room m e)
  unfolding hear_message
  message_leads New = first_leads e (raised m.number e) room m (raised_stays e s m.number t.number) t
  message_leads Old = old_leads (get_or e.answers m.number 0)
  message_leads Stale = leads_not e (number 4)

  hear_leads : Leads e (hear room m e)
  unfolding hear
  hear_leads =
      leads_if e (directed e.head m) _ (refused (number 3))
      (leads_if e (is_answer m.kind) (hear_answer m e) _ (at_leads e s (waiting_at m.number e.unanswered) m.kind) (message_leads (standing e.head.highest m.number)))
      (leads_not e (number 3))

receive_by_lem : (v : Verdict) (room : ℕ) (w : List ℕ) (e : End) → SoundEnd e → Ruled w v → Leads e (receive_by v room w e)
unfolding receive_by
receive_by_lem (Refused place before) room w e s u = leads_not e (record { number = 1; place = place; before = before })
receive_by_lem Read room w e s u = hear_leads e s room (message_in w) (subst Stated (read_message w u.its u.by) (stated w u.its u.by))

pub receive_sound : (room : ℕ) (w : List ℕ) (e e' : End) (t : List ℕ) → SoundEnd e → receive room w e ≡ done e' t → Stays e e'
receive_sound room w e e' t s = receive_by_lem (verdict w) room w e s (verdict_right w) e' t

-- SENDING

-- what holds of none of them
none_waits : (p : Waiting → Bool) (l : Places Waiting) (i : ℕ) (q : Waiting) → any_waiting p l ≡ false → get i l ≡ some q → p q ≡ false
unfolding any_waiting get
none_waits p [] i q a e = let z : ◌≡◌ {A = ℕ} 0 1 = cc in absurd (omega arith)
none_waits p (none ∷ l) zero q a e = let z : ◌≡◌ {A = ℕ} 0 1 = cc in absurd (omega arith)
none_waits p (none ∷ l) (suc i) q a e = none_waits p l i q a e
none_waits p (some x ∷ l) zero q a e = let z : x ≡ q = cc in ap p (sym z) ∙ (neither (p x) (any_waiting p l) a).0
none_waits p (some x ∷ l) (suc i) q a e = none_waits p l i q (neither (p x) (any_waiting p l) a).1 e

-- the next number is that of none that is not too old
other_number : (n : ℕ) (q : Waiting) → too_old n q ≡ false → q.number ≡ n → ⊥
unfolding too_old
other_number n q a e =
    let d : (n + 1000 - q.number) % 1000 ≡ 0 = omega arith in
    true_false (eq-eqb ((n + 1000 - q.number) % 1000) 0 d) (neither (eqb ((n + 1000 - q.number) % 1000) 0) (leb 400 ((n + 1000 - q.number) % 1000)) a).0

module _ (e : End) (s : SoundEnd e) (w : List ℕ) (r : Record) (j : Judged w Read r) (k : is_answer r.kind ≡ false) (o : cut w r.parts.number.sender ≡ e.head.ours) (p : cut w r.parts.number.receiver ≡ e.head.partners) (n : r.figures.number ≡ e.head.next) where
  its_stated : Stated (message_in w)
  its_stated = subst Stated (read_message w r j) (stated w r j)

  accepted_formed : (b : Bool) → FlightsFormed (cond b (applied (message_in w) e.received) e.received)
  accepted_formed true = (applied_stated (message_in w) e.received its_stated s.received).formed
  accepted_formed false = s.received

  sending_stays : (i : ℕ) → i < length e.unanswered → any_waiting (too_old e.head.next) e.unanswered ≡ false → Stays e (sending i w (message_in w) e)
  sending_stays i h a = record {
    sound = record {
      head = record { names = s.head.names; next = omega arith; highest = s.head.highest };
      sent = s.sent;
      received = accepted_formed (is_acceptance (deed_of (message_in w)));
      unanswered = stored_formed e.head.ours e.head.partners e.unanswered i s.unanswered h (record { number = e.head.next; text = w })
          (record { its = r; read = j; message = k; sender = o; receiver = p; number = n; most = s.head.next })
          (λ x q g. other_number e.head.next q (none_waits (too_old e.head.next) e.unanswered x q a g));
      answers = s.answers;
    };
    ours = refl;
    partners = refl;
  }

  send_leads : (room : ℕ) (q : Place) → lowest_free e.unanswered ≡ q → Leads e (send_at q room w (message_in w) e)
  unfolding send_at
  send_leads room Nowhere g = leads_not e (number 8)
  send_leads room (At i) g = go (any_waiting (too_old e.head.next) e.unanswered) refl
    where
      m : Message
      m = message_in w

      h : i < length e.unanswered
      h = omega (arith, found_below is_free 0 i e.unanswered g)

      go : (b : Bool) → any_waiting (too_old e.head.next) e.unanswered ≡ b → Leads e (cond b (refused (number 9)) (cond (any_waiting (naming m) e.unanswered) (refused (number 7)) (cond (not (may_be_sent m e)) (refused (number 10)) (cond (fills m e) (refused (number 11)) (giving room w (sending i w m e))))))
      go true a = leads_not e (number 9)
      go false a =
          leads_if e (any_waiting (naming m) e.unanswered) (refused (number 7)) _ (leads_not e (number 7))
          (leads_if e (not (may_be_sent m e)) (refused (number 10)) _ (leads_not e (number 10))
          (leads_if e (fills m e) (refused (number 11)) _ (leads_not e (number 11)) (leads_given e (sending i w m e) room w (sending_stays i h a))))

  pub send_sound : (room : ℕ) (e' : End) (t : List ℕ) → send room w e ≡ done e' t → Stays e e'
  send_sound room = send_leads room (lowest_free e.unanswered) refl
