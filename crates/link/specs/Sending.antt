-- WHAT THE STEPS OF SENDING COME TO.
use Rattle.std.specs.Prelude.{◌≡◌, refl, Bool, false, List, ℕ, ◌≤◌, length, take}
use Rattle.std.proofs.Common.{sym, ap, ◌∙◌, subst, arith}
use Rattle.std.proofs.lemmas.Bool.{false≢true}
use Rattle.scan.specs.Bools.{Decides}
use Rattle.message.specs.declared.Record.{Record}
use Rattle.message.specs.declared.Verdict.TheVariants.{Read}
use Rattle.reader.specs.Reader.{Ruled}
use Rattle.writer.specs.declared.Drafting.{Drafting}
use Rattle.writer.specs.declared.Drafting.TheVariants.{Written, BreaksRule}
use Rattle.writer.specs.Draft.{Drafted, Draws}
use Rattle.writer.specs.Moved.{drafted_one}
use Rattle.head.specs.declared.Head.{Head}
use Rattle.head.specs.Sound.{HeadFormed}
use Rattle.unanswered.specs.Waiting.{is_answer, UnansweredFormed}
use Rattle.memory.specs.End.{Memory, Formed, FormedBeside, end_of}
use Rattle.memory.specs.Held.{all_formed}
use Rattle.rules.specs.Replies.{refused, number}
use Rattle.rules.specs.Sending.{send}
use Rattle.rules.specs.declared.Answer.TheVariants as answer
use Rattle.rules.specs.declared.Outcome.{Outcome}
use Rattle.rules.specs.Calls.{refusal_in, Comes, Called}
use Rattle.link.specs.Beginning.{names_long}
use Rattle.link.specs.Sends.{Sent}

-- A FORMED HEAD

pub head_names : {h : Head} → HeadFormed h → (length h.ours ≡ 4) × (length h.partners ≡ 4)
head_names f = names_long f.names

-- THE DRAFT

module _ (ours partners : List ℕ) (n : ℕ) (d : List ℕ) (r : Record) (t t' : List ℕ) (v : Drafting) (a : Draws ours partners n d r t v t') where
  pub none_drawn : v ≡ BreaksRule → (w : List ℕ) → Drafted ours partners n d r w → ⊥
  none_drawn e = (subst (λ (x : Drafting). Draws ours partners n d r t x t') e a).0

  module _ (k : ℕ) (e : v ≡ Written k) where
    written : Draws ours partners n d r t (Written k) t'
    written = subst (λ (x : Drafting). Draws ours partners n d r t x t') e a

    pub one_drawn : Drafted ours partners n d r (take k t')
    one_drawn = subst (Drafted ours partners n d r) (sym written.4) written.1

    pub drawn_size : length (take k t') ≡ k
    drawn_size = ap length written.4 ∙ sym written.2

    pub drawn_fits : length t ≡ 1077 → k ≤ length t'
    drawn_fits z = omega (arith, written.3, written.5, z)

    pub drawn_ruled : Ruled (take k t') Read
    drawn_ruled = record { its = one_drawn.its; by = one_drawn.read }

-- THE CALL

-- what has no text to send: 12 for the unanswered messages, else 13
pub record Refuses (h : Head) (U : List ℕ) (o : Outcome) : Type 0 where
  pub broken : (UnansweredFormed h.ours h.partners U → ⊥) → o ≡ record { answer = answer.NotFormed; head = h }
  pub formed : UnansweredFormed h.ours h.partners U → o ≡ record { answer = answer.BreaksRule; head = h }

module _ (d : List ℕ) (r : Record) (h : Head) (m : Memory) (out : List ℕ) where
  pub sent_damaged : {b : Bool} → Decides b (FormedBeside h m.sent m.received m.answers) → b ≡ false → Sent d r h m out (record { answer = answer.NotFormed; head = h }) m out
  sent_damaged b e =
      let n : Formed h m → ⊥ = λ f. false≢true (sym e ∙ b.no (record { head = f.head; sent = f.sent; received = f.received; answers = f.answers })) in
      record { damaged = λ k. (refl, refl, refl, refl); answer = λ f. absurd (n f); broken = λ f. absurd (n f); drafted = λ f. absurd (n f) }

  pub sent_refused : (o : Outcome) → FormedBeside h m.sent m.received m.answers → Refuses h m.unanswered o → (is_answer r.kind ≡ false → (w : List ℕ) → Drafted h.ours h.partners h.next d r w → ⊥) → Sent d r h m out o m out
  sent_refused o f k n = record {
    damaged = λ g. let e = k.broken (λ u. g (all_formed h m f u)) in (ap (λ (x : Outcome). refusal_in x.answer) e, ap (λ (x : Outcome). x.head) e, refl, refl);
    answer = λ g y. thirteen g;
    broken = λ g y. thirteen g;
    drafted = λ g e w x. absurd (n e w x);
  }
    where
      thirteen : Formed h m → Comes (refused (number 13)) h m out o m out
      thirteen g = let e = k.formed g.unanswered in (ap (λ (x : Outcome). refusal_in x.answer) e, ap (λ (x : Outcome). x.head) e, refl, refl)

  pub sent_drafted : (w : List ℕ) (o : Outcome) (m' : Memory) (out' : List ℕ) → is_answer r.kind ≡ false → Drafted h.ours h.partners h.next d r w → Called (send (length out) w) h m out o m' out' → Sent d r h m out o m' out'
  sent_drafted w o m' out' e x q = record {
    damaged = q.damaged;
    answer = λ g y. absurd (false≢true (sym e ∙ y));
    broken = λ g k. absurd (k w x);
    drafted = λ g y v z. subst (λ (t : List ℕ). Comes (send (length out) t (end_of h m)) h m out o m' out') (drafted_one h.ours h.partners h.next d r w v x z) (q.formed g);
  }
