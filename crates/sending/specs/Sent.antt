-- WHAT A CALL LEAVES THAT SENDS: the checks in their order, and the bytes that are written.
use Rattle.std.specs.Prelude.{◌≡◌, refl, Bool, true, false, cond, List, ◌++◌, ℕ, ◌+◌, ◌*◌, ◌≤◌, ◌<◌, length, drop, leb}
use Rattle.std.proofs.Math.Path.{sym, ap, subst}
use Rattle.std.proofs.Common.{◌∙◌, arith, le-leb}
use Rattle.std.proofs.Math.Option.{some}
use Rattle.std.proofs.lemmas.Bool.{lt-leb}
use Rattle.splice.specs.Splice.{splice, Spliced}
use Rattle.message.specs.declared.Record.{Record}
use Rattle.message.specs.declared.Verdict.TheVariants.{Read}
use Rattle.reader.specs.Reading.{Judged}
use Rattle.head.specs.declared.Head.{Head}
use Rattle.head.specs.declared.Given.{Given}
use Rattle.head.specs.Head.{given}
use Rattle.places.specs.Place.{Place, At, Nowhere}
use Rattle.places.specs.Places.{Places, is_free, set, first_of}
use Rattle.places.specs.Forms.{bytes_of}
use Rattle.flights.specs.Flight.{Flight}
use Rattle.flights.specs.Formed.{TableFormed}
use Rattle.flights.specs.Decoded.{flights_in, table_of, table_back}
use Rattle.unanswered.specs.Waiting as u
use Rattle.unanswered.specs.Waiting.{waiting, waiting_bytes, UnansweredFormed}
use Rattle.unanswered.specs.Encoded.{read_short}
use Rattle.deeds.specs.declared.Deed.{Deed}
use Rattle.deeds.specs.declared.Decision.{Decision}
use Rattle.deeds.specs.Message.{Message, message_of}
use Rattle.deeds.specs.Deeds.{deed_of}
use Rattle.deeds.specs.Applying.{decision, applied}
use Rattle.memory.specs.End.{End, Memory, lent, FormedBeside, waiting_form, waiting_in, end_of}
use Rattle.memory.specs.Held.{all_formed, free_waiting, waiting_below, stored}
use Rattle.rules.specs.Replies.{Reply, refused, done, number}
use Rattle.rules.specs.Reads.{read_message}
use Rattle.rules.specs.Answers.{is_acceptance}
use Rattle.rules.specs.Sending.{any_waiting, count_waiting, too_old, naming, making, may_be_sent, fills, sending, send_at, send}
use Rattle.rules.specs.declared.Answer.{Answer}
use Rattle.rules.specs.declared.Answer.TheVariants.{Done, NoRoom, NamedAlready, TooManyUnanswered, TooFarBack, ConditionFails, TableFull, NotFormed}
use Rattle.rules.specs.declared.Outcome.{Outcome}
use Rattle.rules.specs.Calls.{refusal_in, Comes, Called}
use Rattle.sending.specs.Deciding.{holds, decided_on, may_be_sent_lem, table_filled}

-- THE WRITES

-- an acceptance is applied on sending
unfoldable pub accepted : Message → Places Flight → Places Flight
accepted m l = cond (is_acceptance (deed_of m)) (applied m l) l

module _ (m : Message) (R : List ℕ) (d : Deed) (b : Bool) (e : d ≡ deed_of m) (f : b ≡ is_acceptance d) where
  is_acceptance_lem : is_acceptance (deed_of m) ≡ b
  is_acceptance_lem = sym (ap is_acceptance e) ∙ sym f

  pub not_accepted : TableFormed R → b ≡ false → R ≡ table_of (accepted m (flights_in R))
  unfolding accepted
  not_accepted t h = sym (table_back R t) ∙ ap (λ (x : Bool). table_of (cond x (applied m (flights_in R)) (flights_in R))) (sym (is_acceptance_lem ∙ h))

  pub was_accepted : (R' : List ℕ) → b ≡ true → R' ≡ table_of (applied m (flights_in R)) → R' ≡ table_of (accepted m (flights_in R))
  unfolding accepted
  was_accepted R' h p = p ∙ ap (λ (x : Bool). table_of (cond x (applied m (flights_in R)) (flights_in R))) (sym (is_acceptance_lem ∙ h))

  pub accepts : b ≡ true → is_acceptance (deed_of m) ≡ true
  accepts h = is_acceptance_lem ∙ h

-- what was decided, where it is an acceptance
pub decided_received : (m : Message) (sent received : Places Flight) (c : Decision) → c ≡ decided_on m sent received → is_acceptance (deed_of m) ≡ true → c ≡ decision m received
unfolding decided_on
decided_received m sent received c e h = e ∙ ap (λ (b : Bool). cond b (decision m received) (decision m sent)) h

-- the text is kept and given, with the next number
pub record Handed (i : ℕ) (m : Message) (h : Head) (w R U out : List ℕ) (o : Outcome) (R' U' out' : List ℕ) : Type 0 where
  pub answer : o.answer ≡ Done (length w)
  pub head : o.head ≡ (given h).head
  pub received : R' ≡ table_of (accepted m (flights_in R))
  pub unanswered : U' ≡ bytes_of waiting_form (set i (some (waiting h.next w)) (waiting_in U))
  pub text : out' ≡ w ++ drop (length w) out

-- which leaves no choice
pub handed_one : {i : ℕ} {m : Message} {h : Head} {w R U out : List ℕ} {o p : Outcome} {a b c x y z : List ℕ} → Handed i m h w R U out o a b c → Handed i m h w R U out p x y z → (o ≡ p) × (a ≡ x) × (b ≡ y) × (c ≡ z)
handed_one q r = (λ i. record { answer = (q.answer ∙ sym r.answer) i; head = (q.head ∙ sym r.head) i }, q.received ∙ sym r.received, q.unanswered ∙ sym r.unanswered, q.text ∙ sym r.text)

pub text_short : (w : List ℕ) (r : Record) → Judged w Read r → length w ≤ 1275
text_short w r j = omega (arith, read_short w r j)

pub handed : (i n : ℕ) (m : Message) (h : Head) (g : Given) (w R U out R' U' out' : List ℕ) (r : Record) → Judged w Read r → UnansweredFormed h.ours h.partners U → i < 16 → R' ≡ table_of (accepted m (flights_in R)) → U' ≡ splice (i * 1280) (waiting_bytes (waiting h.next w)) U → Spliced 0 w out out' n → g ≡ given h → Handed i m h w R U out (record { answer = Done n; head = g.head }) R' U' out'
unfolding splice
handed i n m h g w R U out R' U' out' r j f l p q s e =
    let z : n ≡ length w = omega (arith, s.place) in
    let y : 0 + length w ≡ length w = omega arith in
    record {
      answer = ap Done z;
      head = ap (λ (x : Given). x.head) e;
      received = p;
      unanswered = q ∙ stored f i (waiting h.next w) l (text_short w r j);
      text = s.bytes ∙ ap (λ (x : ℕ). w ++ drop x out) y;
    }

-- THE CHECKS, in their order

module _ (i room : ℕ) (w : List ℕ) (m : Message) (e : End) where
  too_far : any_waiting (too_old e.head.next) e.unanswered ≡ true → send_at (At i) room w m e ≡ refused (number 9)
  unfolding send_at
  too_far a = rw a

  module _ (a : any_waiting (too_old e.head.next) e.unanswered ≡ false) where
    is_named : any_waiting (naming m) e.unanswered ≡ true → send_at (At i) room w m e ≡ refused (number 7)
    unfolding send_at
    is_named b = rw (a, b)

    module _ (b : any_waiting (naming m) e.unanswered ≡ false) where
      fails : may_be_sent m e ≡ false → send_at (At i) room w m e ≡ refused (number 10)
      unfolding send_at
      fails c = rw (a, b, c)

      module _ (c : may_be_sent m e ≡ true) where
        full : fills m e ≡ true → send_at (At i) room w m e ≡ refused (number 11)
        unfolding send_at
        full d = rw (a, b, c, d)

        module _ (d : fills m e ≡ false) where
          no_room : leb (length w) room ≡ false → send_at (At i) room w m e ≡ refused (number 2)
          unfolding send_at
          no_room k = rw (a, b, c, d, k)

          goes : leb (length w) room ≡ true → send_at (At i) room w m e ≡ done (sending i w m e) w
          unfolding send_at
          goes k = rw (a, b, c, d, k)

-- what the call leaves, whatever the given answers are
abbrev pub Sends : Place → Message → Head → List ℕ → List ℕ → List ℕ → List ℕ → List ℕ → Outcome → List ℕ → List ℕ → List ℕ → Type 0
Sends p m h w S R U out o R' U' out' = (A : List ℕ) → Comes (send_at p (length out) w m (end_of h (lent S R U A))) h (lent S R U A) out o (lent S R' U' A) out'

refuses : (x : Reply) (a : Answer) (h : Head) (mem : Memory) (out : List ℕ) → x ≡ refused (refusal_in a) → Comes x h mem out (record { answer = a; head = h }) mem out
refuses x a h mem out e =
    subst (λ (y : Reply). Comes y h mem out (record { answer = a; head = h }) mem out) (sym e) (λ i. refusal_in a, λ i. h, λ i. mem, λ i. out)

module _ (i : ℕ) (m : Message) (h : Head) (w S R U out : List ℕ) where
  pub sends_far : any_waiting (too_old h.next) (waiting_in U) ≡ true → Sends (At i) m h w S R U out (record { answer = TooFarBack; head = h }) R U out
  sends_far a A = refuses _ TooFarBack h (lent S R U A) out (too_far i (length out) w m (end_of h (lent S R U A)) a)

  module _ (a : any_waiting (too_old h.next) (waiting_in U) ≡ false) where
    pub sends_named : any_waiting (naming m) (waiting_in U) ≡ true → Sends (At i) m h w S R U out (record { answer = NamedAlready; head = h }) R U out
    sends_named b A = refuses _ NamedAlready h (lent S R U A) out (is_named i (length out) w m (end_of h (lent S R U A)) a b)

    module _ (b : any_waiting (naming m) (waiting_in U) ≡ false) where
      pub sends_failing : holds (decided_on m (flights_in S) (flights_in R)) ≡ false → Sends (At i) m h w S R U out (record { answer = ConditionFails; head = h }) R U out
      sends_failing c A = refuses _ ConditionFails h (lent S R U A) out (fails i (length out) w m (end_of h (lent S R U A)) a b (sym (may_be_sent_lem m (flights_in S) (flights_in R)) ∙ c))

      module _ (c : holds (decided_on m (flights_in S) (flights_in R)) ≡ true) where
        pub sends_full : table_filled m S (count_waiting making (waiting_in U)) ≡ true → Sends (At i) m h w S R U out (record { answer = TableFull; head = h }) R U out
        unfolding table_filled
        sends_full d A = refuses _ TableFull h (lent S R U A) out (full i (length out) w m (end_of h (lent S R U A)) a b (sym (may_be_sent_lem m (flights_in S) (flights_in R)) ∙ c) d)

        module _ (d : table_filled m S (count_waiting making (waiting_in U)) ≡ false) where
          pub sends_no_room : length out < length w → Sends (At i) m h w S R U out (record { answer = NoRoom; head = h }) R U out
          unfolding table_filled
          sends_no_room k A =
              refuses _ NoRoom h (lent S R U A) out
              (no_room i (length out) w m (end_of h (lent S R U A)) a b (sym (may_be_sent_lem m (flights_in S) (flights_in R)) ∙ c) d (lt-leb (length w) (length out) k))

          pub sends : (o : Outcome) (R' U' out' : List ℕ) → TableFormed S → length w ≤ length out → Handed i m h w R U out o R' U' out' → Sends (At i) m h w S R U out o R' U' out'
          unfolding table_filled accepted
          sends o R' U' out' t k g A =
              let e = end_of h (lent S R U A) in
              subst (λ (y : Reply). Comes y h (lent S R U A) out o (lent S R' U' A) out')
              (sym (goes i (length out) w m e a b (sym (may_be_sent_lem m (flights_in S) (flights_in R)) ∙ c) d (le-leb (length w) (length out) k)))
              (g.answer, g.head, λ j. record { sent = sym (table_back S t) j; received = g.received j; unanswered = g.unanswered j; answers = A }, g.text)

-- THE CALL

-- the place that is found
pub place_below : (U : List ℕ) (p : Place) (i : ℕ) → p ≡ u.lowest_free U → p ≡ At i → i < 16
place_below U p i e f = waiting_below is_free U i (sym (free_waiting U) ∙ sym e ∙ f)

module _ (h : Head) (w : List ℕ) (r : Record) (S R U out : List ℕ) (j : Judged w Read r) (p : Place) (e : p ≡ u.lowest_free U) where
  -- on what is found there, of the text's own message
  pub sends_text : (q : Place) (o : Outcome) (R' U' out' : List ℕ) → p ≡ q → Sends q (message_of w r) h w S R U out o R' U' out' → (A : List ℕ) → Comes (send (length out) w (end_of h (lent S R U A))) h (lent S R U A) out o (lent S R' U' A) out'
  sends_text q o R' U' out' f g A =
      let z : q ≡ first_of is_free 0 (waiting_in U) = sym f ∙ e ∙ free_waiting U in
      subst (λ (y : Reply). Comes y h (lent S R U A) out o (lent S R' U' A) out') (λ k. send_at (z k) (length out) w (read_message w r j k) (end_of h (lent S R U A))) (g A)

  pub sends_nowhere : p ≡ Nowhere → (A : List ℕ) → Comes (send (length out) w (end_of h (lent S R U A))) h (lent S R U A) out (record { answer = TooManyUnanswered; head = h }) (lent S R U A) out
  unfolding send_at
  sends_nowhere f =
      sends_text Nowhere (record { answer = TooManyUnanswered; head = h }) R U out f (λ A. refuses _ TooManyUnanswered h (lent S R U A) out refl)

-- 12 comes first, of the memory that is well formed beside the unanswered messages
module _ (h : Head) (w S R U out : List ℕ) (A : List ℕ) where
  pub unanswered_broken : (UnansweredFormed h.ours h.partners U → ⊥) → Called (send (length out) w) h (lent S R U A) out (record { answer = NotFormed; head = h }) (lent S R U A) out
  unanswered_broken n = record { formed = λ f. absurd (n f.unanswered); damaged = λ d. (refl, refl, refl, refl) }

  pub unanswered_formed : (o : Outcome) (R' U' out' : List ℕ) → FormedBeside h S R A → UnansweredFormed h.ours h.partners U → Comes (send (length out) w (end_of h (lent S R U A))) h (lent S R U A) out o (lent S R' U' A) out' → Called (send (length out) w) h (lent S R U A) out o (lent S R' U' A) out'
  unanswered_formed o R' U' out' f u q = record { formed = λ g. q; damaged = λ d. absurd (d (all_formed h (lent S R U A) f u)) }
