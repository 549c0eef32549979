-- AN ANSWER TO A MESSAGE THAT WAITS, over the flights sent and the unanswered messages alone.
use Rattle.std.specs.Prelude.{◌≡◌, refl, Bool, true, false, not, ◌&&◌, ℕ, ◌*◌, ◌<◌}
use Rattle.std.proofs.Common.{sym, ◌∙◌, subst}
use Rattle.std.proofs.Math.Path.{ap}
use Rattle.std.proofs.Math.Bool.{cond}
use mathlib.Core.List.{List, []}
use Rattle.std.proofs.Math.Option.{none}
use Rattle.splice.specs.Splice.{splice}
use Rattle.message.specs.declared.Kind.{Kind}
use Rattle.message.specs.declared.Verdict.TheVariants.{Read}
use Rattle.message.specs.declared.Verdict.{Verdict}
use Rattle.message.specs.declared.Record.{Record}
use Rattle.reader.specs.Reading.{Judged}
use Rattle.reader.specs.Reader.{Ruled}
use Rattle.reader.proofs.Judging.{judged_one}
use Rattle.head.specs.declared.Head.{Head}
use Rattle.places.specs.Place.{Place, At, Nowhere}
use Rattle.places.specs.Places.{get, set}
use Rattle.places.specs.Forms.{bytes_of}
use Rattle.flights.specs.Formed.{TableFormed}
use Rattle.flights.specs.Decoded.{flights_in, table_of, table_back}
use Rattle.unanswered.specs.Waiting.{free_bytes, waiting_of, place, UnansweredFormed, found}
use Rattle.deeds.specs.declared.Deed.{Deed}
use Rattle.deeds.specs.Message.{Message, message_of}
use Rattle.deeds.specs.Deeds.{deed_of}
use Rattle.deeds.specs.Applying.{applied}
use Rattle.memory.specs.End.{End, lent, Formed, waiting_form, waiting_in, end_of}
use Rattle.memory.specs.Held.{UsedAt, NumberedAt, found_waiting, waiting_at_lem, freed}
use Rattle.rules.specs.Replies.{Reply, refused, done, number}
use Rattle.rules.specs.Reads.{message_in, read_message}
use Rattle.rules.specs.Answers.{proper, is_good, is_acceptance}
use Rattle.rules.specs.Receiving.{waiting_at, settled_sent, settled, settle, settle_held, settle_at}
use Rattle.rules.specs.declared.Answer.TheVariants.{Done, NothingUnanswered, WrongAnswer}
use Rattle.rules.specs.declared.Outcome.{Outcome}
use Rattle.rules.specs.Calls.{Comes}

-- what a call has left that came to the reply of this step: whatever the rest of the memory and the buffer are, they stay
abbrev pub Settles : (End → Reply) → Head → List ℕ → List ℕ → Outcome → List ℕ → List ℕ → Type 0
Settles step h sent unanswered r sent' unanswered' =
    (received answers out : List ℕ) → Formed h (lent sent received unanswered answers) → Comes (step (end_of h (lent sent received unanswered answers))) h (lent sent received unanswered answers) out r (lent sent' received unanswered' answers) out

-- A KEPT TEXT is read

pub kept_read : (w : List ℕ) (v : Verdict) (r : Record) → Ruled w Read → Judged w v r → Judged w Read r
kept_read w v r k j = subst (λ (x : Verdict). Judged w x r) (judged_one w v Read r k.its j k.by).verdicts j

-- and applied
pub applied_kept : (w s : List ℕ) (q : Record) {e : List ℕ} → Judged w Read q → e ≡ table_of (applied (message_of w q) (flights_in s)) → e ≡ table_of (applied (message_in w) (flights_in s))
applied_kept w s q j p = p ∙ ap (λ (m : Message). table_of (applied m (flights_in s))) (read_message w q j)

-- THE FLIGHTS SENT

pub sent_applied : (k : Kind) (d : Deed) (m : Message) (s : List ℕ) {a b : Bool} {e : List ℕ} → d ≡ deed_of m → a ≡ is_good k → b ≡ is_acceptance d → a && not b ≡ true → e ≡ table_of (applied m (flights_in s)) → e ≡ table_of (settled_sent k m (flights_in s))
unfolding settled_sent
sent_applied k d m s {a} {b} {e} p x y z q =
    let w : b ≡ is_acceptance (deed_of m) = y ∙ ap is_acceptance p in
    let c : a && not b ≡ (is_good k && not (is_acceptance (deed_of m))) = λ i. x i && not (w i) in
    q ∙ ap (λ (t : Bool). table_of (cond t (applied m (flights_in s)) (flights_in s))) (sym z ∙ c)

pub sent_left : (k : Kind) (d : Deed) (m : Message) (s : List ℕ) {a b : Bool} → TableFormed s → d ≡ deed_of m → a ≡ is_good k → b ≡ is_acceptance d → a && not b ≡ false → s ≡ table_of (settled_sent k m (flights_in s))
unfolding settled_sent
sent_left k d m s {a} {b} f p x y z =
    let w : b ≡ is_acceptance (deed_of m) = y ∙ ap is_acceptance p in
    let c : a && not b ≡ (is_good k && not (is_acceptance (deed_of m))) = λ i. x i && not (w i) in
    sym (table_back s f) ∙ ap (λ (t : Bool). table_of (cond t (applied m (flights_in s)) (flights_in s))) (sym z ∙ c)

-- THE PLACE has a text, which is read

pub kept_ruled : {ours partners t : List ℕ} {i : ℕ} {w : List ℕ} → UsedAt ours partners t i → w ≡ (waiting_of (place i t)).text → Ruled w Read
kept_ruled u e = subst (λ (x : List ℕ). Ruled x Read) (sym e) (record { its = u.proper.its; by = u.proper.read })

-- and the answer is held to what it does

module _ (h : Head) (k : Kind) (i : ℕ) (s u : List ℕ) {d : Deed} {w : List ℕ} {b : Bool} (at : UsedAt h.ours h.partners u i) (text : w ≡ (waiting_of (place i u)).text) (deed : d ≡ deed_of (message_in w)) (test : b ≡ proper k d) where
  decided : (e : End) → e.unanswered ≡ waiting_in u → settle_at (At i) k e ≡ cond b (done (settled i k (message_in (waiting_of (place i u)).text) e) []) (refused (number 6))
  unfolding settle
  decided e p =
      let c : b ≡ proper k (deed_of (message_in (waiting_of (place i u)).text)) = test ∙ ap (proper k) (deed ∙ ap (λ (x : List ℕ). deed_of (message_in x)) text) in
      ap (settle_held i k e) (ap (get i) p ∙ at.holds) ∙ ap (λ (x : Bool). cond x (done (settled i k (message_in (waiting_of (place i u)).text) e) []) (refused (number 6))) (sym c)

  pub wrong_answer : b ≡ false → Settles (settle_at (At i) k) h s u (record { answer = WrongAnswer; head = h }) s u
  wrong_answer n r a out f =
      let e = end_of h (lent s r u a) in
      let p : settle_at (At i) k e ≡ refused (number 6) = decided e refl ∙ ap (λ (x : Bool). cond x (done (settled i k (message_in (waiting_of (place i u)).text) e) []) (refused (number 6))) n in
      subst (λ (x : Reply). Comes x h (lent s r u a) out (record { answer = WrongAnswer; head = h }) (lent s r u a) out) (sym p) (refl, refl, refl, refl)

  pub right_answer : {s' u' : List ℕ} → i < 16 → b ≡ true → s' ≡ table_of (settled_sent k (message_in w) (flights_in s)) → u' ≡ splice (i * 1280) free_bytes u → Settles (settle_at (At i) k) h s u (record { answer = Done 0; head = h }) s' u'
  right_answer {s'} {u'} l y x z r a out f =
      let e = end_of h (lent s r u a) in
      let p : settle_at (At i) k e ≡ done (settled i k (message_in (waiting_of (place i u)).text) e) [] = decided e refl ∙ ap (λ (x : Bool). cond x (done (settled i k (message_in (waiting_of (place i u)).text) e) []) (refused (number 6))) y in
      let sent : s' ≡ table_of (settled_sent k (message_in (waiting_of (place i u)).text) (flights_in s)) = x ∙ ap (λ (t : List ℕ). table_of (settled_sent k (message_in t) (flights_in s))) text in
      let received : r ≡ table_of (flights_in r) = sym (table_back r f.received) in
      let unanswered : u' ≡ bytes_of waiting_form (set i none (waiting_in u)) = z ∙ freed f.unanswered i l in
      subst (λ (x : Reply). Comes x h (lent s r u a) out (record { answer = Done 0; head = h }) (lent s' r u' a) out) (sym p)
      (refl, refl, (λ j. record { sent = sent j; received = received j; unanswered = unanswered j; answers = a }), refl)

-- WHERE IT IS FOUND

pub found_used : {ours partners t : List ℕ} (n i : ℕ) → UnansweredFormed ours partners t → found n t ≡ At i → NumberedAt n ours partners t i
found_used {t = t} n i f e = waiting_at_lem f n i (sym (found_waiting n t) ∙ e)

pub numbered_used : {ours partners t : List ℕ} {n i : ℕ} → NumberedAt n ours partners t i → UsedAt ours partners t i
numbered_used m = record { holds = m.holds; proper = m.proper; short = m.short }

pub one_waits : (h : Head) (k : Kind) (n i : ℕ) (s u s' u' : List ℕ) (r : Outcome) → found n u ≡ At i → Settles (settle_at (At i) k) h s u r s' u' → Settles (settle_at (waiting_at n (waiting_in u)) k) h s u r s' u'
one_waits h k n i s u s' u' r e q = subst (λ (x : Place). Settles (settle_at x k) h s u r s' u') (sym e ∙ found_waiting n u) q

pub none_waits : (h : Head) (k : Kind) (n : ℕ) (s u : List ℕ) → found n u ≡ Nowhere → Settles (settle_at (waiting_at n (waiting_in u)) k) h s u (record { answer = NothingUnanswered; head = h }) s u
none_waits h k n s u e =
    subst (λ (x : Place). Settles (settle_at x k) h s u (record { answer = NothingUnanswered; head = h }) s u) (sym e ∙ found_waiting n u)
    (λ r a out f. (refl, refl, refl, refl))
