-- THE CONTRACTS OF THE CALLS LEAVE NO CHOICE: what a call has left, every lent byte included, is determined by what it was given.
use Rattle.std.specs.Prelude.{◌≡◌, refl, Bool, true, false, List, [], ℕ, length}
use Rattle.std.proofs.Common.{arith}
use Rattle.message.specs.declared.Record.{Record}
use Rattle.head.specs.declared.Head.{Head}
use Rattle.flights.specs.Table.{places}
use Rattle.unanswered.specs.Waiting.{is_answer}
use Rattle.memory.specs.End.{Memory, Formed, end_of}
use Rattle.rules.specs.Replies.{number, refused, done}
use Rattle.rules.specs.Receiving.{receive}
use Rattle.rules.specs.Sending.{send, resend, fresh}
use Rattle.rules.specs.Refusals.{receive_numbered, send_numbered, resend_numbered}
use Rattle.rules.specs.declared.Outcome.{Outcome}
use Rattle.rules.specs.Calls.{Called}
use Rattle.rules.specs.One.{left, sure_left, comes_one, called_one}
use Rattle.head.specs.Sound.{Names}
use Rattle.link.specs.SetUp.{Sizes, SetsUp}
use Rattle.link.specs.Sends.{Sent}

module _ {h : Head} {m : Memory} {out : List ℕ} {o p : Outcome} {m' n' : Memory} {a b : List ℕ} where
  pub receive_one : (w : List ℕ) → Called (receive (length out) w) h m out o m' a → Called (receive (length out) w) h m out p n' b → left o m' a ≡ left p n' b
  receive_one w c d = called_one h m out o p m' n' a b (receive (length out) w) (receive_numbered (length out) w) c d

  pub resend_one : (n : ℕ) → Called (resend (length out) n) h m out o m' a → Called (resend (length out) n) h m out p n' b → left o m' a ≡ left p n' b
  resend_one n c d = called_one h m out o p m' n' a b (resend (length out) n) (resend_numbered (length out) n) c d

  -- whether the memory is well formed and whether the content has a text are not asked: it is so or not
  pub send_one : (d : List ℕ) (r : Record) → Sent d r h m out o m' a → Sent d r h m out p n' b → left o m' a ≡ left p n' b
  send_one d r c e = sure_left (left o m' a) (left p n' b) (λ n. n (damaged n (λ f. n (formed n f (is_answer r.kind) refl))))
    where
      damaged : (left o m' a ≡ left p n' b → ⊥) → (Formed h m → ⊥) → left o m' a ≡ left p n' b
      damaged n k = comes_one h m out o p m' n' a b (refused (number 12)) (omega arith) (c.damaged k) (e.damaged k)

      formed : (left o m' a ≡ left p n' b → ⊥) → Formed h m → (x : Bool) → is_answer r.kind ≡ x → left o m' a ≡ left p n' b
      formed n f true y = comes_one h m out o p m' n' a b (refused (number 13)) (omega arith) (c.answer f y) (e.answer f y)
      formed n f false y =
          comes_one h m out o p m' n' a b (refused (number 13)) (omega arith)
          (c.broken f (λ w x. n (comes_one h m out o p m' n' a b (send (length out) w (end_of h m)) (send_numbered (length out) w (end_of h m)) (c.drafted f y w x) (e.drafted f y w x))))
          (e.broken f (λ w x. n (comes_one h m out o p m' n' a b (send (length out) w (end_of h m)) (send_numbered (length out) w (end_of h m)) (c.drafted f y w x) (e.drafted f y w x))))

pub set_up_one : {h : Head} {m : Memory} {o p : Outcome} {m' n' : Memory} (ours partners : List ℕ) → SetsUp ours partners h m o m' → SetsUp ours partners h m p n' → left o m' [] ≡ left p n' []
set_up_one {h} {m} {o} {p} {m'} {n'} ours partners c d = sure_left (left o m' []) (left p n' []) (λ n. n (unsized (λ s. n (unnamed s (λ k. n (begun s k))))))
  where
    begun : Sizes m → Names ours partners → left o m' [] ≡ left p n' []
    begun s k = comes_one h m [] o p m' n' [] [] (done (fresh ours partners (places m.sent) (places m.received)) []) tt (c.begun s k) (d.begun s k)

    unnamed : Sizes m → (Names ours partners → ⊥) → left o m' [] ≡ left p n' []
    unnamed s k = comes_one h m [] o p m' n' [] [] (refused (number 14)) (omega arith) (c.unnamed s k) (d.unnamed s k)

    unsized : (Sizes m → ⊥) → left o m' [] ≡ left p n' []
    unsized s = comes_one h m [] o p m' n' [] [] (refused (number 12)) (omega arith) (c.unsized s) (d.unsized s)
