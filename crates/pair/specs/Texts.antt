-- WHAT WAITS: sending keeps the text that it gives, and receiving keeps none. What a text that is sent says.
use Rattle.std.specs.Prelude.{◌≡◌, refl, ◌⊎◌, Bool, true, false, cond, not, ◌&&◌, List, [], ◌∷◌, ℕ, zero, suc, length, get_or, eqb, leb}
use Rattle.std.proofs.Common.{sym, ap, ◌∙◌, subst, inl, inr}
use Rattle.std.proofs.Math.Option.{Option, none, some}
use Rattle.fields.specs.Names as name
use Rattle.message.specs.declared.Kind.{Kind}
use Rattle.message.specs.declared.Kind.TheVariants.{Rla}
use Rattle.message.specs.declared.Record.{Record}
use Rattle.message.specs.declared.Verdict.{Verdict}
use Rattle.message.specs.declared.Verdict.TheVariants.{Read, Refused}
use Rattle.reader.specs.Reading.{Judged}
use Rattle.reader.specs.Reader.{verdict}
use Rattle.writer.specs.Writing.{Content}
use Rattle.writer.specs.Draft.{Drafted, numbered}
use Rattle.head.specs.declared.Standing.{Standing}
use Rattle.head.specs.declared.Standing.TheVariants.{New, Old, Stale}
use Rattle.head.specs.Head as h
use Rattle.places.specs.Place.{Place, At, Nowhere}
use Rattle.places.specs.Places.{Places, get, set}
use Rattle.unanswered.specs.Waiting.{Waiting, is_answer}
use Rattle.deeds.specs.Message.{Message}
use Rattle.deeds.specs.Deeds.{deed_of}
use Rattle.deeds.specs.Applying.{decision, lowest_free}
use Rattle.response.specs.Answering.{answer_text}
use Rattle.memory.specs.End.{End}
use Rattle.rules.specs.Replies.{Reply, refused, done, number}
use Rattle.rules.specs.Reads.{message_in, read_message}
use Rattle.rules.specs.Answers.{answer_to, proper, is_acceptance, is_offering}
use Rattle.rules.specs.Receiving.{directed, waiting_at, settled, settle, settle_held, settle_at, hear_answer, retires, retire_held, retire_at, retired, about, handled, giving, hear_first, raised, hear_again, hear_old, hear_message, hear, receive_by, receive}
use Rattle.rules.specs.Sending.{any_waiting, too_old, naming, may_be_sent, fills, sending, send_at, send}
use Rattle.pair.specs.kinds.Tools.{none_some, some_inj}

-- THE END THAT A REPLY LEAVES: every place holds what it holds in f, or nothing

abbrev pub Holding : End → End → Type 0
Holding e f = (p : ℕ) (q : Waiting) → get p e.unanswered ≡ some q → get p f.unanswered ≡ some q

abbrev Keeps : End → Reply → Type 0
Keeps f (refused x) = Unit
Keeps f (done e t) = Holding e f

keeps_cond : (f : End) (b : Bool) (y z : Reply) → Keeps f y → Keeps f z → Keeps f (cond b y z)
keeps_cond f true y z p q = p
keeps_cond f false y z p q = q

-- ONE PLACE

get_freed : (i p : ℕ) (l : Places Waiting) (q : Waiting) → get p (set i none l) ≡ some q → get p l ≡ some q
unfolding get set
get_freed i p [] q e = e
get_freed zero zero (x ∷ l) q e = absurd (none_some refl e)
get_freed zero (suc p) (x ∷ l) q e = e
get_freed (suc i) zero (x ∷ l) q e = e
get_freed (suc i) (suc p) (x ∷ l) q e = get_freed i p l q e

get_put : (i p : ℕ) (y : Waiting) (l : Places Waiting) (q : Waiting) → get p (set i (some y) l) ≡ some q → (get p l ≡ some q) ⊎ (q ≡ y)
unfolding get set
get_put i p y [] q e = inl e
get_put zero zero y (x ∷ l) q e = inr (sym (some_inj {o = some y} refl e))
get_put zero (suc p) y (x ∷ l) q e = inl e
get_put (suc i) zero y (x ∷ l) q e = inl e
get_put (suc i) (suc p) y (x ∷ l) q e = get_put i p y l q e

-- RECEIVING

keeps_settle : (i : ℕ) (k : Kind) (q : Message) (e : End) → Keeps e (settle i k q e)
unfolding settle
keeps_settle i k q e = keeps_cond e (proper k (deed_of q)) _ _ (λ p y. get_freed i p e.unanswered y) tt

keeps_answer : (m : Message) (e : End) → Keeps e (hear_answer m e)
keeps_answer m e = go (waiting_at m.number e.unanswered)
  where
    held : (i : ℕ) (o : Option Waiting) → Keeps e (settle_held i m.kind e o)
    held i none = tt
    held i (some q) = keeps_settle i m.kind (message_in q.text) e

    go : (p : Place) → Keeps e (settle_at p m.kind e)
    go Nowhere = tt
    go (At i) = held i (get i e.unanswered)

keeps_giving : (room : ℕ) (t : List ℕ) (e f : End) → Holding e f → Keeps f (giving room t e)
keeps_giving room t e f k = keeps_cond f (leb (length t) room) (done e t) (refused (number 2)) k tt

retired_holds : (m : Message) (e : End) → Holding (retired m e) e
unfolding retired
retired_holds m e = go (is_acceptance (deed_of m)) (waiting_at m.reference e.unanswered)
  where
    one : (i : ℕ) (q : Waiting) (b : Bool) → Holding (cond b (settled i Rla (message_in q.text) e) e) e
    one i q true p y h = get_freed i p e.unanswered y h
    one i q false p y h = h

    held : (i : ℕ) (o : Option Waiting) → Holding (retire_held i m e o) e
    held i none = λ p y h. h
    held i (some q) = one i q (retires m (message_in q.text))

    at_place : (p : Place) → Holding (retire_at p m e) e
    at_place Nowhere = λ p y h. h
    at_place (At i) = held i (get i e.unanswered)

    go : (b : Bool) (p : Place) → Holding (cond b (retire_at p m e) e) e
    go true p = at_place p
    go false p = λ q y h. h

keeps_first : (room : ℕ) (m : Message) (e f : End) → Holding e f → Keeps f (hear_first room m e)
unfolding hear_first
keeps_first room m e f k =
    let r = retired m e in
    keeps_giving room (answer_text m (answer_to (deed_of m) (decision m (about m r)))) (handled m r) f (λ p q h. k p q (retired_holds m e p q h))

keeps_old : (room : ℕ) (m : Message) (v : ℕ) (e : End) → Keeps e (hear_old room m v e)
unfolding hear_old hear_again
keeps_old room m v e =
    keeps_cond e (eqb v 0) _ _ (keeps_first room m e e (λ p q h. h)) (keeps_cond e (eqb v 2 && not (is_offering (deed_of m))) _ _ tt (keeps_giving room (answer_text m v) e e (λ p q h. h)))

keeps_message : (s : Standing) (room : ℕ) (m : Message) (e : End) → Keeps e (hear_message s room m e)
unfolding hear_message
keeps_message New room m e = keeps_first room m (raised m.number e) e (λ p q h. h)
keeps_message Old room m e = keeps_old room m (get_or e.answers m.number 0) e
keeps_message Stale room m e = tt

keeps_hear : (room : ℕ) (m : Message) (e : End) → Keeps e (hear room m e)
unfolding hear
keeps_hear room m e =
    keeps_cond e (directed e.head m) _ _ (keeps_cond e (is_answer m.kind) _ _ (keeps_answer m e) (keeps_message (h.standing e.head.highest m.number) room m e)) tt

keeps_receive : (v : Verdict) (room : ℕ) (w : List ℕ) (e : End) → Keeps e (receive_by v room w e)
unfolding receive_by
keeps_receive (Refused place before) room w e = tt
keeps_receive Read room w e = keeps_hear room (message_in w) e

pub receive_holds : (room : ℕ) (w : List ℕ) (e e' : End) (t : List ℕ) → receive room w e ≡ done e' t → Holding e' e
receive_holds room w e e' t q = subst (Keeps e) q (keeps_receive (verdict w) room w e)

-- SENDING

abbrev Adds : ℕ → List ℕ → End → Reply → Type 0
Adds n w f (refused x) = Unit
Adds n w f (done e t) = (p : ℕ) (q : Waiting) → get p e.unanswered ≡ some q → (get p f.unanswered ≡ some q) ⊎ (q ≡ record { number = n; text = w })

adds_cond : (n : ℕ) (w : List ℕ) (f : End) (b : Bool) (y z : Reply) → Adds n w f y → Adds n w f z → Adds n w f (cond b y z)
adds_cond n w f true y z p q = p
adds_cond n w f false y z p q = q

adds_send : (p : Place) (room : ℕ) (w : List ℕ) (m : Message) (e : End) → Adds e.head.next w e (send_at p room w m e)
unfolding send_at
adds_send Nowhere room w m e = tt
adds_send (At i) room w m e =
    let n = e.head.next in
    adds_cond n w e (any_waiting (too_old n) e.unanswered) _ _ tt
    (adds_cond n w e (any_waiting (naming m) e.unanswered) _ _ tt
    (adds_cond n w e (not (may_be_sent m e)) _ _ tt
    (adds_cond n w e (fills m e) _ _ tt
    (adds_cond n w e (leb (length w) room) (done (sending i w m e) w) (refused (number 2)) (λ p q. get_put i p (record { number = n; text = w }) e.unanswered q) tt))))

pub send_adds : (room : ℕ) (w : List ℕ) (e e' : End) (t : List ℕ) → send room w e ≡ done e' t → (p : ℕ) (q : Waiting) → get p e'.unanswered ≡ some q → (get p e.unanswered ≡ some q) ⊎ (q ≡ record { number = e.head.next; text = w })
send_adds room w e e' t q = subst (Adds e.head.next w e) q (adds_send (lowest_free e.unanswered) room w (message_in w) e)

-- WHAT A DRAFT SAYS: it is the text of a message from ours to partners with the number n
pub record Says (ours partners : List ℕ) (n : ℕ) (w : List ℕ) : Type 0 where
  pub its : Record
  pub read : Judged w Read its
  pub message : is_answer its.kind ≡ false
  pub from : (message_in w).from ≡ ours
  pub to : (message_in w).to ≡ partners
  pub number : (message_in w).number ≡ n

pub draft_says : (ours partners : List ℕ) (n : ℕ) (d : List ℕ) (r : Record) (w : List ℕ) → Drafted ours partners n d r w → is_answer r.kind ≡ false → Says ours partners n w
unfolding numbered
draft_says ours partners n d r w x a =
    let m = read_message w x.its x.read in
    record {
      its = x.its;
      read = x.read;
      message = ap (λ (c : Content). is_answer c.kind) x.says ∙ a;
      from = ap (λ (y : Message). y.from) (sym m) ∙ ap (λ (c : Content). c.bytes name.sender) x.says;
      to = ap (λ (y : Message). y.to) (sym m) ∙ ap (λ (c : Content). c.bytes name.receiver) x.says;
      number = ap (λ (y : Message). y.number) (sym m) ∙ ap (λ (c : Content). c.figures.number) x.says;
    }
