-- THE CONTRACTS OF THE CALLS FROM C LEAVE NO CHOICE: any two outcomes that they allow are equal, for the calls on an end since it is
-- so of link's calls.
use Rattle.std.specs.Prelude.{◌≡◌, ◌⊎◌, List, [], ℕ, length}
use Rattle.std.proofs.Common.{sym, ap, ◌∙◌, inl, inr}
use Rattle.scan.specs.Grammar.{place_of, size_of, Span}
use Rattle.message.specs.declared.Record.{Record}
use Rattle.message.specs.declared.Verdict.{Verdict}
use Rattle.reader.specs.Reading.{answer_of}
use Rattle.reader.proofs.Judging.{judged_one}
use Rattle.writer.specs.declared.Writing.{Writing}
use Rattle.writer.specs.Writing as w
use Rattle.writer.specs.Written.{wrote_one}
use Rattle.head.specs.declared.Head.{Head}
use Rattle.memory.specs.End.{Memory}
use Rattle.rules.specs.declared.Outcome.{Outcome}
use Rattle.rules.specs.Calls.{refusal_in, length_in}
use Rattle.rules.specs.One.{Left}
use Rattle.link.specs.One as link
use Rattle.packed.specs.Packed.{record_in}
use Rattle.packed.specs.Head.{head_in, head_bytes}
use Rattle.host.specs.Calls.{Ran, Receives, Sends, SetUp, Resent, Checked, packed_by, ReadInto, WroteFrom, WordsAt}
use Rattle.host.specs.Kept.{of_size, both_sizes, same_number}

-- WHAT A CALL ON AN END LEAVES beside the head: its number, length, place and hyphens (0 where a call gives none), memory and buffer
pub record Rest : Type 0 where
  pub number : ℕ
  pub size : ℕ
  pub place : ℕ
  pub hyphens : ℕ
  pub memory : Memory
  pub buffer : List ℕ

abbrev pub rest : ℕ → ℕ → ℕ → ℕ → Memory → List ℕ → Rest
rest n l p q m out = record { number = n; size = l; place = p; hyphens = q; memory = m; buffer = out }

ran_one : {Sized : Type 0} {P R : Head → Outcome → Type 0} {b b' c' : List ℕ} {n k : ℕ} {I J : Type 0} {x y : Rest} → Sized ⊎ (Sized → ⊥) → Ran Sized P b b' n I → Ran Sized R b c' k J → ((o p : Outcome) → P (head_in b) o → R (head_in b) p → (o ≡ p) × (x ≡ y)) → (n ≡ 12 → I → k ≡ 12 → J → x ≡ y) → (b' ≡ c') × (x ≡ y)
ran_one (inl z) r s f g =
    let d = r.sized z in
    let e = s.sized z in
    let u = f d.outcome e.outcome d.did e.did in
    (d.head ∙ ap (λ (o : Outcome). head_bytes o.head) u.0 ∙ sym e.head, u.1)
ran_one (inr z) r s f g =
    let d = r.unsized z in
    let e = s.unsized z in
    (d.1 ∙ sym e.1, g d.0 d.2 e.0 e.2)

module _ {b : List ℕ} {m : Memory} {out : List ℕ} {n l : ℕ} {b' : List ℕ} {m' : Memory} {out' : List ℕ} {k i : ℕ} {c' : List ℕ} {m'' : Memory} {out'' : List ℕ} where
  pub receive_one : {p q s t : ℕ} (text : List ℕ) → Receives text b m out n l p q b' m' out' → Receives text b m out k i s t c' m'' out'' → (b' ≡ c') × (rest n l p q m' out' ≡ rest k i s t m'' out'')
  receive_one text x y =
      ran_one (of_size b 12) x y
      (λ o u f g. let e = link.receive_one text f.0 g.0 in (
        ap (λ (z : Left). z.outcome) e,
        λ j. rest ((f.1.number ∙ ap (λ (z : Left). (refusal_in z.outcome.answer).number) e ∙ sym g.1.number) j)
            ((f.1.size ∙ ap (λ (z : Left). length_in z.outcome.answer) e ∙ sym g.1.size) j)
            ((f.1.place ∙ ap (λ (z : Left). (refusal_in z.outcome.answer).place) e ∙ sym g.1.place) j)
            ((f.1.hyphens ∙ ap (λ (z : Left). (refusal_in z.outcome.answer).before) e ∙ sym g.1.hyphens) j)
            (e j).memory (e j).buffer,
      ))
      (λ f u g v. λ j. rest ((f ∙ sym g) j) ((u.2 ∙ sym v.2) j) ((u.3 ∙ sym v.3) j) ((u.4 ∙ sym v.4) j) ((u.0 ∙ sym v.0) j) ((u.1 ∙ sym v.1) j))

  pub send_one : (d r : List ℕ) → Sends d r b m out n l b' m' out' → Sends d r b m out k i c' m'' out'' → (b' ≡ c') × (rest n l 0 0 m' out' ≡ rest k i 0 0 m'' out'')
  send_one d r x y =
      ran_one (both_sizes (of_size b 12) (of_size r 246)) x y
      (λ o u f g. let e = link.send_one d (record_in r) f.0 g.0 in (
        ap (λ (z : Left). z.outcome) e,
        λ j. rest ((f.1 ∙ ap (λ (z : Left). (refusal_in z.outcome.answer).number) e ∙ sym g.1) j)
            ((f.2 ∙ ap (λ (z : Left). length_in z.outcome.answer) e ∙ sym g.2) j) 0 0 (e j).memory (e j).buffer,
      ))
      (λ f u g v. λ j. rest ((f ∙ sym g) j) ((u.2 ∙ sym v.2) j) 0 0 ((u.0 ∙ sym v.0) j) ((u.1 ∙ sym v.1) j))

pub set_up_one : {b : List ℕ} {m : Memory} {n : ℕ} {b' : List ℕ} {m' : Memory} {k : ℕ} {c' : List ℕ} {m'' : Memory} (ours partners : List ℕ) → SetUp ours partners b m n b' m' → SetUp ours partners b m k c' m'' → (b' ≡ c') × (rest n 0 0 0 m' [] ≡ rest k 0 0 0 m'' [])
set_up_one {b} ours partners x y =
    ran_one (of_size b 12) x y
    (λ o u f g. let e = link.set_up_one ours partners f.0 g.0 in (
      ap (λ (z : Left). z.outcome) e,
      λ j. rest ((f.1 ∙ ap (λ (z : Left). (refusal_in z.outcome.answer).number) e ∙ sym g.1) j) 0 0 0 (e j).memory [],
    ))
    (λ f u g v. λ j. rest ((f ∙ sym g) j) 0 0 0 ((u ∙ sym v) j) [])

pub resend_one : {b : List ℕ} {m : Memory} {out : List ℕ} {n l : ℕ} {out' : List ℕ} {k i : ℕ} {out'' : List ℕ} (number : ℕ) → Resent number b m out n l out' → Resent number b m out k i out'' → rest n l 0 0 m out' ≡ rest k i 0 0 m out''
resend_one {b} {m} {out} {n} {l} {out'} {k} {i} {out''} number x y = go (of_size b 12)
  where
    go : (length b ≡ 12) ⊎ (length b ≡ 12 → ⊥) → rest n l 0 0 m out' ≡ rest k i 0 0 m out''
    go (inl z) =
        let f = x.sized z in
        let g = y.sized z in
        let e = link.resend_one number f.1 g.1 in
        λ j. rest ((f.2 ∙ ap (λ (v : Left). (refusal_in v.outcome.answer).number) e ∙ sym g.2) j)
        ((f.3 ∙ ap (λ (v : Left). length_in v.outcome.answer) e ∙ sym g.3) j) 0 0 m (e j).buffer
    go (inr z) =
        let f = x.unsized z in
        let g = y.unsized z in
        λ j. rest ((f.0 ∙ sym g.0) j) ((f.2 ∙ sym g.2) j) 0 0 m ((f.1 ∙ sym g.1) j)

-- A CHECK
pub checked_one : {P : Type 0} (n k : ℕ) → Checked P n → Checked P k → n ≡ k
checked_one n k x y = same_number n k (λ d. d (x.damaged (λ p. d (x.formed p ∙ sym (y.formed p))) ∙ sym (y.damaged (λ p. d (x.formed p ∙ sym (y.formed p))))))

-- READER, WRITER AND WORDS

pub record Said (n k p s q t : ℕ) (a c : List ℕ) : Type 0 where
  pub numbers : n ≡ k
  pub places : p ≡ s
  pub hyphens : q ≡ t
  pub bytes : a ≡ c

pub read_one : (text b : List ℕ) (n p q : ℕ) (b' : List ℕ) (k s t : ℕ) (c' : List ℕ) → ReadInto text b n p q b' → ReadInto text b k s t c' → Said n k p s q t b' c'
read_one text b n p q b' k s t c' x y = go (of_size b 246)
  where
    go : (length b ≡ 246) ⊎ (length b ≡ 246 → ⊥) → Said n k p s q t b' c'
    go (inl z) =
        let f = x.sized z in
        let g = y.sized z in
        let e = judged_one text f.0 g.0 f.1 g.1 f.2 g.2 in
        record {
          numbers = f.3 ∙ ap (λ (v : Verdict). (answer_of v).number) e.verdicts ∙ sym g.3;
          places = f.4 ∙ ap (λ (v : Verdict). (answer_of v).place) e.verdicts ∙ sym g.4;
          hyphens = f.5 ∙ ap (λ (v : Verdict). (answer_of v).before) e.verdicts ∙ sym g.5;
          bytes = f.6 ∙ (λ j. packed_by (e.verdicts j) (e.records j) b) ∙ sym g.6;
        }
    go (inr z) =
        let f = x.unsized z in
        let g = y.unsized z in
        record { numbers = f.0 ∙ sym g.0; places = f.1 ∙ sym g.1; hyphens = f.2 ∙ sym g.2; bytes = f.3 ∙ sym g.3 }

pub write_one : (d b out : List ℕ) (n l : ℕ) (out' : List ℕ) (k i : ℕ) (out'' : List ℕ) → WroteFrom d b out n l out' → WroteFrom d b out k i out'' → (n ≡ k) × (l ≡ i) × (out' ≡ out'')
write_one d b out n l out' k i out'' x y = go (of_size b 246)
  where
    go : (length b ≡ 246) ⊎ (length b ≡ 246 → ⊥) → (n ≡ k) × (l ≡ i) × (out' ≡ out'')
    go (inl z) =
        let f = x.sized z in
        let g = y.sized z in
        let e = wrote_one d (record_in b) out f.0 g.0 out' out'' f.1 g.1 in
        (f.2 ∙ ap (λ (v : Writing). (w.answer_of v).number) e.writings ∙ sym g.2, f.3 ∙ ap (λ (v : Writing). (w.answer_of v).size) e.writings ∙ sym g.3, e.buffers)
    go (inr z) = let f = x.unsized z in let g = y.unsized z in (f.0 ∙ sym g.0, f.1 ∙ sym g.1, f.2 ∙ sym g.2)

pub words_one : (part : Record → Span) (text : List ℕ) (n p l k s i : ℕ) → WordsAt part text n p l → WordsAt part text k s i → (n ≡ k) × (p ≡ s) × (l ≡ i)
words_one part text n p l k s i x y =
    let e = judged_one text x.0 y.0 x.1 y.1 x.2 y.2 in
    (x.3 ∙ ap (λ (v : Verdict). (answer_of v).number) e.verdicts ∙ sym y.3, x.4 ∙ ap (λ (r : Record). place_of (part r)) e.records ∙ sym y.4, x.5 ∙ ap (λ (r : Record). size_of (part r)) e.records ∙ sym y.5)
