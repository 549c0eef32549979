-- How a call comes out.
use Rattle.std.specs.Prelude.{◌≡◌, refl, Bool, true, false, cond, List, ◌++◌, ℕ, ◌≤◌, length, drop}
use Rattle.std.proofs.Common.{sym, ap, ◌∙◌, subst, append-nil, arith, drop_of_length-le}
use Rattle.std.proofs.lemmas.Bool.{false≢true}
use Rattle.scan.specs.Grammar.{place_of, size_of, Span}
use Rattle.scan.specs.Bools.{Decides, decides_as}
use Rattle.message.specs.declared.Record.{Record}
use Rattle.message.specs.declared.Verdict.{Verdict}
use Rattle.message.specs.declared.Verdict.TheVariants.{Read, Refused}
use Rattle.reader.specs.Reading.{Judged}
use Rattle.writer.specs.declared.Writing.{Writing}
use Rattle.writer.specs.Writing.{Wrote, answer_of}
use Rattle.head.specs.declared.Head.{Head}
use Rattle.memory.specs.End.{Memory}
use Rattle.rules.specs.Sending.{resend}
use Rattle.rules.specs.declared.Outcome.{Outcome}
use Rattle.rules.specs.Calls.{refusal_in, length_in, Called}
use Rattle.link.specs.Sends.{Sent}
use Rattle.packed.specs.Packed.{packed_of, record_in}
use Rattle.packed.specs.Head.{head_in, head_bytes}
use Rattle.host.specs.Calls.{Ran, Resent, Checked, ReadInto, WroteFrom, WordsAt}

-- ON AN END

pub ran : {Sized : Type 0} {P : Head → Outcome → Type 0} {b b' : List ℕ} {n : ℕ} {Idle : Type 0} (h : Head) (o : Outcome) → Sized → (h ≡ head_in b) × (head_bytes (head_in b) ≡ b) → P h o → b' ≡ head_bytes o.head → Ran Sized P b b' n Idle
ran {Sized} {P} h o z e d w = record {
  sized = λ _. record { outcome = o; did = subst (λ (x : Head). P x o) e.0 d; head = w; kept = λ k. w ∙ ap head_bytes k ∙ e.1 };
  unsized = λ k. absurd (k z);
}

pub idle : {Sized : Type 0} {P : Head → Outcome → Type 0} {b : List ℕ} {Idle : Type 0} → (Sized → ⊥) → Idle → Ran Sized P b b 12 Idle
idle {Sized} {P} {b} k q = record { sized = λ z. absurd (k z); unsized = λ _. (λ i. 12, λ i. b, q) }

pub sent_as : {d : List ℕ} {q r : Record} {h : Head} {m : Memory} {out : List ℕ} {o : Outcome} {m' : Memory} {out' : List ℕ} → q ≡ r → Sent d q h m out o m' out' → Sent d r h m out o m' out'
sent_as {d} {q} {r} {h} {m} {out} {o} {m'} {out'} e s = subst (λ (x : Record). Sent d x h m out o m' out') e s

pub resent : {k : ℕ} {b : List ℕ} {m : Memory} {out : List ℕ} {n l : ℕ} {out' : List ℕ} (h : Head) (o : Outcome) → length b ≡ 12 → h ≡ head_in b → Called (resend (length out) k) h m out o m out' → n ≡ (refusal_in o.answer).number → l ≡ length_in o.answer → Resent k b m out n l out'
resent {k} {b} {m} {out} {n} {l} {out'} h o z e d x y = record {
  sized = λ _. (o, subst (λ (f : Head). Called (resend (length out) k) f m out o m out') e d, x, y);
  unsized = λ w. absurd (w z);
}

-- CHECKS

pub checked_by : {P : Type 0} {n : ℕ} (v : Bool) → Decides v P → n ≡ cond v 0 12 → Checked P n
checked_by true d e = record { formed = λ _. e; damaged = λ k. absurd (k (d.yes refl)) }
checked_by false d e = record { formed = λ p. absurd (false≢true (d.no p)); damaged = λ _. e }

-- with a head in b
pub checked_beside : (P : Head → Type 0) (b : List ℕ) {n : ℕ} (h : Head) (v : Bool) → length b ≡ 12 → h ≡ head_in b → Decides v (P h) → n ≡ cond v 0 12 → Checked ((length b ≡ 12) × P (head_in b)) n
checked_beside P b h v z e d = checked_by v (decides_as (λ p. (z, subst P e p)) (λ q. subst P (sym e) q.1) d)

pub no_head : {Q : Type 0} (b : List ℕ) → (length b ≡ 12 → ⊥) → Checked ((length b ≡ 12) × Q) 12
no_head b k = record { formed = λ q. absurd (k q.0); damaged = λ _. refl }

-- READER AND WRITER

module _ {text b : List ℕ} (v : Verdict) (r : Record) (z : length b ≡ 246) (j : Judged text v r) where
  pub read_into : {b' : List ℕ} → v ≡ Read → b' ≡ packed_of r ++ drop 246 b → ReadInto text b 0 0 0 b'
  read_into {b'} e w =
      let y : length b ≤ 246 = omega arith in
      let x : b' ≡ packed_of r = w ∙ ap (λ (l : List ℕ). packed_of r ++ l) (drop_of_length-le b y) ∙ append-nil (packed_of r) in
      record {
        sized = λ _. (Read, r, subst (λ (u : Verdict). Judged text u r) e j, refl, refl, refl, x);
        unsized = λ k. absurd (k z);
      }

  pub refused_into : (p q : ℕ) → v ≡ Refused p q → ReadInto text b 1 p q b
  refused_into p q e = record {
    sized = λ _. (Refused p q, r, subst (λ (u : Verdict). Judged text u r) e j, refl, refl, refl, refl);
    unsized = λ k. absurd (k z);
  }

pub wrote_from : {d b out : List ℕ} {n l : ℕ} {out' : List ℕ} (r : Record) (v : Writing) → length b ≡ 246 → r ≡ record_in b → Wrote d r out v out' → n ≡ (answer_of v).number → l ≡ (answer_of v).size → WroteFrom d b out n l out'
wrote_from {d} {b} {out} {n} {l} {out'} r v z e w x y = record {
  sized = λ _. (v, subst (λ (q : Record). Wrote d q out v out') e w, x, y);
  unsized = λ k. absurd (k z);
}

-- WORDS

module _ (part : Record → Span) {text : List ℕ} (v : Verdict) (r : Record) (j : Judged text v r) (s : Span) (e : s ≡ part r) where
  pub words_read : v ≡ Read → WordsAt part text 0 (place_of s) (size_of s)
  words_read x = (Read, r, subst (λ (u : Verdict). Judged text u r) x j, refl, ap (λ (p : Span). place_of p) e, ap (λ (p : Span). size_of p) e)

  pub words_refused : (p q : ℕ) → v ≡ Refused p q → WordsAt part text 1 (place_of s) (size_of s)
  words_refused p q x = (Refused p q, r, subst (λ (u : Verdict). Judged text u r) x j, refl, ap (λ (p : Span). place_of p) e, ap (λ (p : Span). size_of p) e)
