-- THE TEXT OF AN ANSWER IS READ, and it is the answer: a message of its type, whose number and reference are the number that
-- it answers, the reference between the same units in their order and its own number between them turned round.
use Rattle.std.specs.Prelude.{◌≡◌, ◌⊎◌, true, ℕ, zero, suc, ◌+◌, ◌-◌, ◌*◌, ◌≤◌, length, get_or, take, drop}
use Rattle.std.proofs.Math.Path.{refl, subst}
use Rattle.std.proofs.Common.{sym, ap, ◌∙◌, inl, inr, get_or-take, get_or-drop}
use Rattle.std.proofs.lemmas.Bool.{false≢true}
use mathlib.Core.List.{List, [], ◌∷◌, ◌++◌}
use native.Mathlib.Omega.{arith}
use Rattle.scan.specs.declared.Class.TheVariants.{Letter, Digit}
use Rattle.scan.specs.Grammar.{place_of, size_of, Span, all, text, run, words, part, Derives}
use Rattle.scan.specs.Scanner.{among, occurs}
use Rattle.scan.specs.Tests.{nullable, names, strange, covers, plain, plain_test}
use Rattle.fields.specs.Names as n
use Rattle.fields.specs.Fields.{in_numbered, in07}
use Rattle.types.specs.Messages.{rti}
use Rattle.message.specs.declared.Kind.{Kind}
use Rattle.message.specs.declared.Kind.TheVariants.{Rti, Rla}
use Rattle.message.specs.declared.Record.{Record}
use Rattle.message.specs.declared.Verdict.TheVariants.{Read}
use Rattle.message.specs.Record.{figure, figure_at, figure_in}
use Rattle.reader.specs.Reading.{cut, Judged}
use Rattle.reader.specs.Reader.{verdict}
use Rattle.reader.proofs.Judging.{verdict_only}
use Rattle.unanswered.specs.Encoded.{read_short}
use Rattle.compose.specs.Layout.{laid, told, Tells}
use Rattle.compose.specs.Order.{same}
use Rattle.compose.specs.Composed.{sizes, bytes_in}
use Rattle.compose.specs.Recorded.{type_of, cut_size, its, its_order, its_kind, its_bytes, its_size, its_inside}
use Rattle.excerpt.specs.Pieces.{kept, fine, derived}
use Rattle.excerpt.specs.Sizes.{number_said, number_small as at_most}
use Rattle.deeds.specs.Message.{Message, message_of}
use Rattle.response.specs.Answering.{hyphened, answer_text}
use Rattle.rules.specs.Reads.{read_record, message_in, read_record_lem}
use Rattle.pair.specs.kinds.Kinds.{answer_kind}
use Rattle.pair.specs.answering.Heard.{Heard, beginning, heard_lam, heard_rla, heard_lrm}

-- which answers a message may get
abbrev pub Answerable : Message → ℕ → Type 0
Answerable m v = (v ≡ 1) ⊎ ((v ≡ 57) ⊎ ((v ≡ 62) ⊎ ((v ≡ 2) × (m.kind ≡ Rti))))

-- t is read as the answer v to m
pub record Answered (m : Message) (v : ℕ) (t : List ℕ) : Type 0 where
  pub read : verdict t ≡ Read
  pub judged : Judged t Read (read_record t)
  pub kind : (message_in t).kind ≡ answer_kind v
  pub from : (message_in t).from ≡ m.to
  pub to : (message_in t).to ≡ m.from
  pub number : (message_in t).number ≡ m.number
  pub reference_from : (message_in t).reference_from ≡ m.from
  pub reference_to : (message_in t).reference_to ≡ m.to
  pub reference : (message_in t).reference ≡ m.number
  pub number_small : m.number ≤ 999

-- THE FIGURE OF A PART IS THAT OF ITS BYTES

figure_cut : (k m : ℕ) (s : List ℕ) (at : ℕ) → k ≤ m → figure k s at ≡ figure k (take m (drop at s)) 0
unfolding figure
figure_cut zero m s at h = refl
figure_cut (suc k) m s at h =
    let z : 0 + k ≡ k = omega arith in
    let e : get_or (take m (drop at s)) (0 + k) 0 ≡ get_or s (at + k) 0 = ap (λ (x : ℕ). get_or (take m (drop at s)) x 0) z ∙ get_or-take m (drop at s) k 0 (omega arith) ∙ get_or-drop at s k 0 in
    λ i. figure_cut k m s at (omega arith) i * 10 + (sym e i - 48)

-- of three digits
figure_three : (s : List ℕ) (p : Span) → size_of p ≡ 3 → figure_in s p ≡ figure 3 (cut s p) 0
figure_three s p e = ap (λ (k : ℕ). figure_at k s (place_of p)) e ∙ figure_cut 3 (size_of p) s (place_of p) (omega arith)

-- FIELD 31

-- a text of an RTI has one reading only
rti_plain : plain rti ≡ true
unfolding in_numbered in07 rti plain_test
rti_plain = refl

-- where it is there, it stands after a hyphen
hyphened_some : (f : List ℕ) → Derives (words 20) f → hyphened f ≡ 45 ∷ f
unfolding hyphened text
hyphened_some [] d = absurd (false≢true d.0)
hyphened_some (x ∷ f) d = refl

-- WHAT A MESSAGE THAT WAS READ SAYS

module _ (w : List ℕ) (r : Record) (j : Judged w Read r) where
  -- its number is that of its digits
  number_figure : r.figures.number ≡ figure 3 (cut w r.parts.number.digits) 0
  number_figure =
      let d = (number_said w r j).2 in
      let l : length (cut w r.parts.number.digits) ≡ size_of r.parts.number.digits = cut_size w r.parts.number.digits (its_inside w r j n.number) in
      ap (λ (x : Record). x.figures.number) j.2 ∙ sym (ap (λ (x : Record). figure_in w x.parts.number.digits) j.2) ∙ figure_three w r.parts.number.digits (omega (arith, l, d.1, d.2))

  -- an RTI has its field 31
  rti_sector : r.kind ≡ Rti → Derives (words 20) (cut w r.parts.sector)
  unfolding type_of kept fine told laid nullable among occurs names strange covers plain rti
  rti_sector e =
      let t : Tells rti w (its w r j) = subst (λ (k : Kind). Tells (type_of k) w (its w r j)) (sym (its_kind w r j) ∙ e) (its_order w r j).form in
      derived (n.sector ∷ []) rti (part n.sector (words 20)) (part n.sector (words 20)) rti_plain same same refl w (its w r j) t (sizes r) (bytes_in w r) (its_size w r j) (its_bytes w r j)

  -- what is read as a text with its numbers answers it: a text has one record only
  answered : (v : ℕ) (t : List ℕ) → Heard (answer_kind v) (cut w r.parts.number.receiver) (cut w r.parts.number.sender) (cut w r.parts.number.digits) t → Answered (message_of w r) v t
  answered v t h =
      let e : read_record t ≡ h.its = sym (read_record_lem t h.its h.read) in
      record {
        read = sym (verdict_only t Read h.its h.read);
        judged = subst (Judged t Read) (sym e) h.read;
        kind = ap (λ (x : Record). x.kind) e ∙ h.kind;
        from = ap (λ (x : Record). cut t x.parts.number.sender) e ∙ h.sender;
        to = ap (λ (x : Record). cut t x.parts.number.receiver) e ∙ h.receiver;
        number = ap (λ (x : Record). x.figures.number) e ∙ h.number ∙ sym number_figure;
        reference_from = ap (λ (x : Record). cut t x.parts.reference.sender) e ∙ h.reference_sender;
        reference_to = ap (λ (x : Record). cut t x.parts.reference.receiver) e ∙ h.reference_receiver;
        reference = ap (λ (x : Record). x.figures.reference) e ∙ h.reference ∙ sym number_figure;
        number_small = at_most w r j;
      }

  abbrev m : Message
  m = message_of w r

  -- its units and digits
  said : Derives (run Letter 4 4) m.from × Derives (run Letter 4 4) m.to × Derives (run Digit 3 3) m.digits
  said = number_said w r j

  lam_read : Answered m 1 (answer_text m 1)
  unfolding answer_text answer_kind
  lam_read = answered 1 _ (heard_lam m.to m.from m.digits said.1 said.0 said.2)

  lrm_57_read : Answered m 57 (answer_text m 57)
  unfolding answer_text answer_kind all
  lrm_57_read = answered 57 _ (heard_lrm m.to m.from m.digits said.1 said.0 said.2 53 55 (refl, omega arith, omega arith))

  lrm_62_read : Answered m 62 (answer_text m 62)
  unfolding answer_text answer_kind all
  lrm_62_read = answered 62 _ (heard_lrm m.to m.from m.digits said.1 said.0 said.2 54 50 (refl, omega arith, omega arith))

  rla_read : m.kind ≡ Rti → Answered m 2 (answer_text m 2)
  unfolding answer_text answer_kind
  rla_read e =
      let d = rti_sector e in
      answered 2 _ (subst (λ (z : List ℕ). Heard Rla m.to m.from m.digits (beginning 82 76 65 m.to m.from m.digits ++ (z ++ (41 ∷ [])))) (sym (hyphened_some m.field31 d)) (heard_rla m.to m.from m.digits said.1 said.0 said.2 m.field31 d))

  -- for one of the numbers
  here : {u v : ℕ} → v ≡ u → Answered m u (answer_text m u) → Answered m v (answer_text m v)
  here e x = subst (λ (u : ℕ). Answered m u (answer_text m u)) (sym e) x

  -- EVERY ANSWER THAT A MESSAGE MAY GET IS READ
  pub answer_read : (v : ℕ) → Answerable (message_of w r) v → Answered (message_of w r) v (answer_text (message_of w r) v)
  answer_read v (inl e) = here e lam_read
  answer_read v (inr (inl e)) = here e lrm_57_read
  answer_read v (inr (inr (inl e))) = here e lrm_62_read
  answer_read v (inr (inr (inr e))) = here e.0 (rla_read e.1)

  -- so it is no longer than the longest text that is read
  pub answer_short : (v : ℕ) → Answerable (message_of w r) v → length (answer_text (message_of w r) v) ≤ 1077
  answer_short v e =
      let t = answer_text (message_of w r) v in
      read_short t (read_record t) (answer_read v e).judged
