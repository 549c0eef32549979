-- A CALL THAT REFUSES LEAVES EVERY LENT BYTE AS IT WAS, the head's 12 included, and gives no length.
use Rattle.std.specs.Prelude.{◌≡◌, refl, ◌⊎◌, Bool, List, [], ℕ, length, eqb}
use Rattle.std.proofs.Common.{sym, ap, ◌∙◌, inl, inr, ⊎_elim}
use Rattle.std.proofs.lemmas.Bool.{false≢true}
use Rattle.scan.specs.Bools.{known, Decides, equals}
use Rattle.places.specs.Bytes.{same, same_is}
use Rattle.message.specs.declared.Record.{Record}
use Rattle.message.specs.declared.Verdict.{Verdict}
use Rattle.message.specs.declared.Verdict.TheVariants.{Read, Refused}
use Rattle.reader.specs.Reading.{answer_of}
use Rattle.writer.specs.declared.Writing.{Writing}
use Rattle.writer.specs.declared.Writing.TheVariants as writing
use Rattle.writer.specs.Writing as w
use Rattle.head.specs.declared.Head.{Head}
use Rattle.memory.specs.End.{End, Memory, end_of}
use Rattle.unanswered.specs.Waiting.{is_answer}
use Rattle.flights.specs.Table.{places}
use Rattle.rules.specs.Replies.{Reply, refused, done, number}
use Rattle.rules.specs.Sending.{send, resend, fresh}
use Rattle.rules.specs.Receiving.{receive}
use Rattle.rules.specs.declared.Answer.{Answer}
use Rattle.rules.specs.declared.Answer.TheVariants.{Done, NotRead, NoRoom, WrongUnits, Stale, NothingUnanswered, WrongAnswer, NamedAlready, TooManyUnanswered, TooFarBack, ConditionFails, TableFull, NotFormed, BreaksRule, BadNames}
use Rattle.rules.specs.declared.Outcome.{Outcome}
use Rattle.rules.specs.Calls.{refusal_in, length_in, Comes, Called}
use Rattle.link.specs.Sends.{Sent}
use Rattle.link.specs.SetUp.{SetsUp}
use Rattle.packed.specs.Packed.{record_in}
use Rattle.packed.specs.Head.{head_in}
use Rattle.host.specs.Calls.{Ran, Receives, Sends, SetUp, Resent, packed_by, ReadInto, WroteFrom}

-- what is equal unless it is not
either : (t : Bool) {A : Type 0} → Decides t A → A ⊎ (A → ⊥)
either t d = ⊎_elim (λ e. inl (d.yes e)) (λ e. inr (λ a. false≢true (sym e ∙ d.no a))) (known t)

surely : {A : Type 0} → A ⊎ (A → ⊥) → ((A → ⊥) → ⊥) → A
surely (inl a) k = a
surely (inr n) k = absurd (k n)

same_list : (a b : List ℕ) → ((a ≡ b → ⊥) → ⊥) → a ≡ b
same_list a b = surely (either (same a b) (same_is a b))

pub same_number : (a b : ℕ) → ((a ≡ b → ⊥) → ⊥) → a ≡ b
same_number a b = surely (either (eqb a b) (equals a b))

-- BY WHAT A CALL ON AN END COMES TO

pub record Kept (h : Head) (m : Memory) (out : List ℕ) (o : Outcome) (m' : Memory) (out' : List ℕ) : Type 0 where
  pub head : o.head ≡ h
  pub memory : m' ≡ m
  pub buffer : out' ≡ out

no_length : (a : Answer) → ((refusal_in a).number ≡ 0 → ⊥) → length_in a ≡ 0
no_length (Done l) n = absurd (n refl)
no_length (NotRead place before) n = refl
no_length NoRoom n = refl
no_length WrongUnits n = refl
no_length Stale n = refl
no_length NothingUnanswered n = refl
no_length WrongAnswer n = refl
no_length NamedAlready n = refl
no_length TooManyUnanswered n = refl
no_length TooFarBack n = refl
no_length ConditionFails n = refl
no_length TableFull n = refl
no_length NotFormed n = refl
no_length BreaksRule n = refl
no_length BadNames n = refl

module _ {h : Head} {m : Memory} {out : List ℕ} {o : Outcome} {m' : Memory} {out' : List ℕ} where
  -- it is kept unless it is not: all of it can be looked at
  surely_kept : ((Kept h m out o m' out' → ⊥) → ⊥) → Kept h m out o m' out'
  surely_kept k =
      let ours = same_list o.head.ours h.ours (λ n. k (λ x. n (ap (λ (y : Head). y.ours) x.head))) in
      let partners = same_list o.head.partners h.partners (λ n. k (λ x. n (ap (λ (y : Head). y.partners) x.head))) in
      let next = same_number o.head.next h.next (λ n. k (λ x. n (ap (λ (y : Head). y.next) x.head))) in
      let highest = same_number o.head.highest h.highest (λ n. k (λ x. n (ap (λ (y : Head). y.highest) x.head))) in
      let sent = same_list m'.sent m.sent (λ n. k (λ x. n (ap (λ (y : Memory). y.sent) x.memory))) in
      let received = same_list m'.received m.received (λ n. k (λ x. n (ap (λ (y : Memory). y.received) x.memory))) in
      let unanswered = same_list m'.unanswered m.unanswered (λ n. k (λ x. n (ap (λ (y : Memory). y.unanswered) x.memory))) in
      let answers = same_list m'.answers m.answers (λ n. k (λ x. n (ap (λ (y : Memory). y.answers) x.memory))) in
      record {
        head = λ i. record { ours = ours i; partners = partners i; next = next i; highest = highest i };
        memory = λ i. record { sent = sent i; received = received i; unanswered = unanswered i; answers = answers i };
        buffer = same_list out' out (λ n. k (λ x. n x.buffer));
      }

  module _ (n : (refusal_in o.answer).number ≡ 0 → ⊥) where
    comes_kept : (y : Reply) → Comes y h m out o m' out' → Kept h m out o m' out'
    comes_kept (refused x) c = record { head = c.1; memory = c.2; buffer = c.3 }
    comes_kept (done e t) c = absurd (n (ap (λ (a : Answer). (refusal_in a).number) c.0))

    called_kept : (step : End → Reply) → Called step h m out o m' out' → Kept h m out o m' out'
    called_kept step c = surely_kept (λ k. k (comes_kept (refused (number 12)) (c.damaged (λ f. k (comes_kept (step (end_of h m)) (c.formed f))))))

    sent_kept : (d : List ℕ) (r : Record) → Sent d r h m out o m' out' → Kept h m out o m' out'
    sent_kept d r c = surely_kept (λ k. k (comes_kept (refused (number 12)) (c.damaged (λ f. ⊎_elim
        (λ e. k (comes_kept (refused (number 13)) (c.answer f e)))
        (λ e. k (comes_kept (refused (number 13)) (c.broken f (λ w x. k (comes_kept (send (length out) w (end_of h m)) (c.drafted f e w x))))))
        (known (is_answer r.kind))))))

set_up_kept : (ours partners : List ℕ) {h : Head} {m : Memory} {o : Outcome} {m' : Memory} → ((refusal_in o.answer).number ≡ 0 → ⊥) → SetsUp ours partners h m o m' → Kept h m [] o m' []
set_up_kept ours partners {m = m} n c =
    surely_kept (λ k. k (comes_kept n (refused (number 12)) (c.unsized (λ s. k (comes_kept n (refused (number 14)) (c.unnamed s (λ x. k (comes_kept n (done (fresh ours partners (places m.sent) (places m.received)) []) (c.begun s x)))))))))

-- THE CALLS FROM C

pub record Unchanged (b : List ℕ) (m : Memory) (out b' : List ℕ) (m' : Memory) (out' : List ℕ) (l : ℕ) : Type 0 where
  pub head : b' ≡ b
  pub memory : m' ≡ m
  pub buffer : out' ≡ out
  pub size : l ≡ 0

-- b' is b, and Q holds, where it does after a call on the head and where the sizes are not right
ran_kept : {Sized : Type 0} {P : Head → Outcome → Type 0} {b b' : List ℕ} {n : ℕ} {Idle : Type 0} {Q : Type 0} → Sized ⊎ (Sized → ⊥) → Ran Sized P b b' n Idle → ((o : Outcome) → P (head_in b) o → (o.head ≡ head_in b) × Q) → (Idle → Q) → (b' ≡ b) × Q
ran_kept (inl z) r f g = let d = r.sized z in let x = f d.outcome d.did in (d.kept x.0, x.1)
ran_kept (inr z) r f g = let u = r.unsized z in (u.1, g u.2)

pub of_size : (b : List ℕ) (k : ℕ) → (length b ≡ k) ⊎ (length b ≡ k → ⊥)
of_size b k = either (eqb (length b) k) (equals (length b) k)

pub both_sizes : {A B : Type 0} → A ⊎ (A → ⊥) → B ⊎ (B → ⊥) → (A × B) ⊎ (A × B → ⊥)
both_sizes (inl a) (inl b) = inl (a, b)
both_sizes (inl a) (inr n) = inr (λ p. n p.1)
both_sizes (inr n) b = inr (λ p. n p.0)

pub receive_refused : (text b : List ℕ) (m : Memory) (out : List ℕ) (n l p q : ℕ) (b' : List ℕ) (m' : Memory) (out' : List ℕ) → Receives text b m out n l p q b' m' out' → (n ≡ 0 → ⊥) → Unchanged b m out b' m' out' l
receive_refused text b m out n l p q b' m' out' r k =
    let z = ran_kept {Q = (m' ≡ m) × (out' ≡ out) × (l ≡ 0)} (of_size b 12) r
    (λ o x. let j : (refusal_in o.answer).number ≡ 0 → ⊥ = λ e. k (x.1.number ∙ e) in let y = called_kept j (receive (length out) text) x.0 in (y.head, (y.memory, y.buffer, x.1.size ∙ no_length o.answer j)))
    (λ u. (u.0, u.1, u.2)) in
    record { head = z.0; memory = z.1.0; buffer = z.1.1; size = z.1.2 }

pub send_refused : (d r b : List ℕ) (m : Memory) (out : List ℕ) (n l : ℕ) (b' : List ℕ) (m' : Memory) (out' : List ℕ) → Sends d r b m out n l b' m' out' → (n ≡ 0 → ⊥) → Unchanged b m out b' m' out' l
send_refused d r b m out n l b' m' out' s k =
    let z = ran_kept {Q = (m' ≡ m) × (out' ≡ out) × (l ≡ 0)} (both_sizes (of_size b 12) (of_size r 246)) s
    (λ o x. let j : (refusal_in o.answer).number ≡ 0 → ⊥ = λ e. k (x.1 ∙ e) in let y = sent_kept j d (record_in r) x.0 in (y.head, (y.memory, y.buffer, x.2 ∙ no_length o.answer j)))
    (λ u. (u.0, u.1, u.2)) in
    record { head = z.0; memory = z.1.0; buffer = z.1.1; size = z.1.2 }

pub set_up_refused : (ours partners b : List ℕ) (m : Memory) (n : ℕ) (b' : List ℕ) (m' : Memory) → SetUp ours partners b m n b' m' → (n ≡ 0 → ⊥) → (b' ≡ b) × (m' ≡ m)
set_up_refused ours partners b m n b' m' s k =
    ran_kept {Q = m' ≡ m} (of_size b 12) s
    (λ o x. let y = set_up_kept ours partners (λ e. k (x.1 ∙ e)) x.0 in (y.head, y.memory))
    (λ u. u)

pub resend_refused : (k : ℕ) (b : List ℕ) (m : Memory) (out : List ℕ) (n l : ℕ) (out' : List ℕ) → Resent k b m out n l out' → (n ≡ 0 → ⊥) → (out' ≡ out) × (l ≡ 0)
resend_refused k b m out n l out' r z = go (of_size b 12)
  where
    go : (length b ≡ 12) ⊎ (length b ≡ 12 → ⊥) → (out' ≡ out) × (l ≡ 0)
    go (inl e) =
        let x = r.sized e in
        let j : (refusal_in x.0.answer).number ≡ 0 → ⊥ = λ f. z (x.2 ∙ f) in
        ((called_kept j (resend (length out) k) x.1).buffer, x.3 ∙ no_length x.0.answer j)
    go (inr w) = let u = r.unsized w in (u.1, u.2)

-- READER AND WRITER

pub read_refused : (text b : List ℕ) (n p q : ℕ) (b' : List ℕ) → ReadInto text b n p q b' → (n ≡ 0 → ⊥) → b' ≡ b
read_refused text b n p q b' r k = go (of_size b 246)
  where
    by : (v : Verdict) (x : Record) → n ≡ (answer_of v).number → b' ≡ packed_by v x b → b' ≡ b
    by Read x e w = absurd (k e)
    by (Refused place before) x e w = w

    go : (length b ≡ 246) ⊎ (length b ≡ 246 → ⊥) → b' ≡ b
    go (inl z) = let x = r.sized z in by x.0 x.1 x.3 x.6
    go (inr z) = (r.unsized z).3

pub write_refused : (d b out : List ℕ) (n l : ℕ) (out' : List ℕ) → WroteFrom d b out n l out' → (n ≡ 0 → ⊥) → (out' ≡ out) × (l ≡ 0)
write_refused d b out n l out' r k = go (of_size b 246)
  where
    by : (v : Writing) → w.Wrote d (record_in b) out v out' → n ≡ (w.answer_of v).number → l ≡ (w.answer_of v).size → (out' ≡ out) × (l ≡ 0)
    by (writing.Written i) x e f = absurd (k e)
    by writing.BreaksRule x e f = (x.1, f)
    by writing.NoRoom x e f = (x.3, f)

    go : (length b ≡ 246) ⊎ (length b ≡ 246 → ⊥) → (out' ≡ out) × (l ≡ 0)
    go (inl z) = let x = r.sized z in by x.0 x.1 x.2 x.3
    go (inr z) = let u = r.unsized z in (u.2, u.1)
