-- THE CONTRACTS OF THE CALLS ON A LENT HEAD LEAVE NO CHOICE: any two outcomes that they allow are equal, since it is so of link's
-- calls. And resending changes no head.
use Rattle.std.specs.Prelude.{◌≡◌, Bool, true, false, cond, List, [], ℕ, leb, length}
use Rattle.std.proofs.Common.{ap}
use Rattle.std.proofs.Math.Option.{Option, none, some}
use Rattle.message.specs.declared.Record.{Record}
use Rattle.head.specs.declared.Head.{Head}
use Rattle.places.specs.Place.{Place, At, Nowhere}
use Rattle.places.specs.Places.{get}
use Rattle.unanswered.specs.Waiting.{Waiting}
use Rattle.memory.specs.End.{Memory, end_of}
use Rattle.rules.specs.Replies.{refused, number, done}
use Rattle.rules.specs.Receiving.{receive, waiting_at}
use Rattle.rules.specs.Sending.{resend, resend_at, resend_held}
use Rattle.rules.specs.declared.Answer.{Answer}
use Rattle.rules.specs.Calls.{Comes, Called}
use Rattle.rules.specs.One.{Left, left, sure_left}
use Rattle.link.specs.SetUp.{SetsUp}
use Rattle.link.specs.Sends.{Sent}
use Rattle.link.specs.One as link
use Rattle.lend.specs.Outcome.{outcome}

-- a and b are answers, h' and h'' heads at exit, m' and m'' memories at exit, s and t buffers at exit
module _ {h : Head} {m : Memory} {out : List ℕ} {a b : Answer} {h' h'' : Head} {m' m'' : Memory} {s t : List ℕ} where
  pub receive_one : (w : List ℕ) → Called (receive (length out) w) h m out (outcome a h') m' s → Called (receive (length out) w) h m out (outcome b h'') m'' t → left (outcome a h') m' s ≡ left (outcome b h'') m'' t
  receive_one w c d = link.receive_one w c d

  pub send_one : (d : List ℕ) (r : Record) → Sent d r h m out (outcome a h') m' s → Sent d r h m out (outcome b h'') m'' t → left (outcome a h') m' s ≡ left (outcome b h'') m'' t
  send_one d r c e = link.send_one d r c e

  pub resend_one : (n : ℕ) → Called (resend (length out) n) h m out (outcome a h') m' s → Called (resend (length out) n) h m out (outcome b h'') m'' t → left (outcome a h') m' s ≡ left (outcome b h'') m'' t
  resend_one n c d = link.resend_one n c d

pub set_up_one : {h : Head} {m : Memory} {a b : Answer} {h' h'' : Head} {m' m'' : Memory} (ours partners : List ℕ) → SetsUp ours partners h m (outcome a h') m' → SetsUp ours partners h m (outcome b h'') m'' → left (outcome a h') m' [] ≡ left (outcome b h'') m'' []
set_up_one ours partners c d = link.set_up_one ours partners c d

-- whether the memory is well formed is not asked: it is so or not
pub resend_keeps : (n : ℕ) (h : Head) (m : Memory) (out : List ℕ) (a : Answer) (h' : Head) (m' : Memory) (s : List ℕ) → Called (resend (length out) n) h m out (outcome a h') m' s → h' ≡ h
resend_keeps n h m out a h' m' s c =
    ap (λ (l : Left). l.outcome.head)
    (sure_left (left (outcome a h') m' s) (left (outcome a h) m' s) (λ no. no (same (c.damaged (λ f. no (same (kept (waiting_at n (end_of h m).unanswered) (c.formed f))))).1)))
  where
    same : h' ≡ h → left (outcome a h') m' s ≡ left (outcome a h) m' s
    same p = λ i. left (outcome a (p i)) m' s

    given : (t : List ℕ) (b : Bool) → Comes (cond b (done (end_of h m) t) (refused (number 2))) h m out (outcome a h') m' s → h' ≡ h
    given t true x = x.1
    given t false x = x.1

    held : (o : Option Waiting) → Comes (resend_held o (length out) (end_of h m)) h m out (outcome a h') m' s → h' ≡ h
    held none x = x.1
    held (some q) x = given q.text (leb (length q.text) (length out)) x

    kept : (p : Place) → Comes (resend_at p (length out) (end_of h m)) h m out (outcome a h') m' s → h' ≡ h
    kept Nowhere x = x.1
    kept (At i) x = held (get i (end_of h m).unanswered) x
