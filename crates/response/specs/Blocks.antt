-- The blocks of an answer, the parts of the message that stand in them, and the text that they make.
use Rattle.std.specs.Prelude.{◌≡◌, refl, ◌⊎◌, true, false, ℕ, zero, suc, ◌+◌, ◌/◌, ◌%◌, ◌≤◌, eqb}
use Rattle.std.proofs.Common.{sym, ap, ◌∙◌, inl, inr, arith, length-append}
use mathlib.Core.List.{List, [], ◌∷◌, ◌++◌, append_assoc}
use Rattle.std.proofs.Math.ListN.{length}
use borrow.Author.Tests.{eq-eqb, ne_eqb}
use Rattle.scan.specs.Bools.{known}
use Rattle.scan.specs.Grammar.{size_of, Span}
use Rattle.fields.specs.Names.{sender, receiver, number, sector}
use Rattle.fields.specs.declared.Number.{Number}
use Rattle.message.specs.declared.Kind.TheVariants.{Rla, Lam, Lrm}
use Rattle.message.specs.declared.Record.{Record}
use Rattle.message.specs.declared.Verdict.TheVariants.{Read}
use Rattle.reader.specs.Reading.{cut, Judged}
use Rattle.pen.specs.Listed.{span_of}
use Rattle.pen.specs.Laying.{join, AllInside, led_by, text_number, opening, none_given, is_given, all_inside}
use Rattle.compose.specs.Recorded.{its_inside, cut_size}
use Rattle.excerpt.specs.Sizes.{number_said, sector_short}
use Rattle.deeds.specs.Message.{Message, message_of}
use Rattle.response.specs.Answering.{number_text, numbers, hyphened, answer_text}

abbrev pub number_blocks : List ℕ → Number → List (List ℕ)
number_blocks w n = text_number w n.receiver n.sender n.digits ∷ text_number w n.sender n.receiver n.digits ∷ []

abbrev pub number_spans : Number → List Span
number_spans n = n.receiver ∷ n.sender ∷ n.digits ∷ n.sender ∷ n.receiver ∷ n.digits ∷ []

abbrev pub lam_blocks : List ℕ → Number → List (List ℕ)
lam_blocks w n = opening Lam ∷ (number_blocks w n ++ ((41 ∷ []) ∷ []))

abbrev pub rla_blocks : List ℕ → Number → Span → List (List ℕ)
rla_blocks w n s = opening Rla ∷ (number_blocks w n ++ (led_by (45 ∷ []) w s ∷ (41 ∷ []) ∷ []))

abbrev pub rla_spans : Number → Span → List Span
rla_spans n s = number_spans n ++ (s ∷ [])

abbrev pub lrm_blocks : List ℕ → Number → ℕ → List (List ℕ)
lrm_blocks w n v = opening Lrm ∷ (number_blocks w n ++ ((45 ∷ 82 ∷ 77 ∷ 75 ∷ 47 ∷ []) ∷ ((48 + v / 10) ∷ (48 + v % 10) ∷ []) ∷ (41 ∷ []) ∷ []))

-- A PART AFTER ITS HYPHEN

no_hyphen : (s : List ℕ) → length s ≡ 0 → hyphened s ≡ []
unfolding hyphened
no_hyphen [] e = refl
no_hyphen (x ∷ s) e = absurd (omega arith)

its_hyphen : (s : List ℕ) → 1 ≤ length s → hyphened s ≡ 45 ∷ s
unfolding hyphened
its_hyphen [] h = absurd (omega arith)
its_hyphen (x ∷ s) h = refl

-- a hyphen is at most one byte
hyphen_short : (s : List ℕ) → length (hyphened s) ≤ length s + 1
unfolding hyphened
hyphen_short [] = omega arith
hyphen_short (x ∷ s) = omega arith

led_hyphened : (w : List ℕ) (q : Span) → length (cut w q) ≡ size_of q → led_by (45 ∷ []) w q ≡ hyphened (cut w q)
led_hyphened w q e = go (size_of q) refl
  where
    go : (k : ℕ) → size_of q ≡ k → led_by (45 ∷ []) w q ≡ hyphened (cut w q)
    go zero h = none_given (size_of q ∷ []) (45 ∷ cut w q) (omega (arith, h)) ∙ sym (no_hyphen (cut w q) (e ∙ h))
    go (suc k) h = is_given (size_of q ∷ []) (45 ∷ cut w q) (omega (arith, h)) ∙ sym (its_hyphen (cut w q) (omega (arith, e, h)))

-- THE TEXTS

module _ (w : List ℕ) (r : Record) (v : ℕ) where
  abbrev m : Message
  m = message_of w r

  -- the two numbers, and what follows them
  numbered : (s : List ℕ) → number_text m.to m.from m.digits ++ (number_text m.from m.to m.digits ++ s) ≡ numbers m ++ s
  numbered s = sym (append_assoc (number_text m.to m.from m.digits) (number_text m.from m.to m.digits) s)

  pub lam_text : v ≡ 1 → join (lam_blocks w r.parts.number) ≡ answer_text m v
  unfolding opening answer_text
  lam_text e = rw (eq-eqb v 1 e) (ap (λ (z : List ℕ). 40 ∷ 76 ∷ 65 ∷ 77 ∷ z) (numbered (41 ∷ [])))

  pub rla_text : Judged w Read r → (v ≡ 1 → ⊥) → v ≡ 2 → join (rla_blocks w r.parts.number r.parts.sector) ≡ answer_text m v
  unfolding opening answer_text
  rla_text j n e =
      let q = r.parts.sector in
      rw (ne_eqb v 1 n, eq-eqb v 2 e, led_hyphened w q (cut_size w q (its_inside w r j sector))) (ap (λ (z : List ℕ). 40 ∷ 82 ∷ 76 ∷ 65 ∷ z) (numbered (hyphened m.field31 ++ (41 ∷ []))))

  pub lrm_text : (v ≡ 1 → ⊥) → (v ≡ 2 → ⊥) → join (lrm_blocks w r.parts.number v) ≡ answer_text m v
  unfolding opening answer_text
  lrm_text n o = rw (ne_eqb v 1 n, ne_eqb v 2 o) (ap (λ (z : List ℕ). 40 ∷ 76 ∷ 82 ∷ 77 ∷ z) (numbered (45 ∷ 82 ∷ 77 ∷ 75 ∷ 47 ∷ (48 + v / 10) ∷ (48 + v % 10) ∷ 41 ∷ [])))

-- AN ANSWER HAS AT MOST 50 BYTES

number_long : (a b c : List ℕ) → length a ≡ 4 → length b ≡ 4 → length c ≡ 3 → length (number_text a b c) ≡ 12
number_long a b c e f g = omega (arith, length-append a (47 ∷ (b ++ c)), length-append b c)

module _ (w : List ℕ) (r : Record) (j : Judged w Read r) where
  abbrev its : Message
  its = message_of w r

  numbers_long : length (numbers its) ≡ 24
  numbers_long =
      let d = number_said w r j in
      let a : length its.from ≡ 4 = omega (arith, d.0.1, d.0.2) in
      let b : length its.to ≡ 4 = omega (arith, d.1.1, d.1.2) in
      let c : length its.digits ≡ 3 = omega (arith, d.2.1, d.2.2) in
      omega (arith, length-append (number_text its.to its.from its.digits) (number_text its.from its.to its.digits), number_long its.to its.from its.digits b a c, number_long its.from its.to its.digits a b c)

  after_long : (s : List ℕ) → length (numbers its ++ s) ≡ 24 + length s
  after_long s = length-append (numbers its) s ∙ ap (λ (k : ℕ). k + length s) numbers_long

  sector_hyphened : length (hyphened its.field31 ++ (41 ∷ [])) ≤ 22
  sector_hyphened = omega (arith, length-append (hyphened its.field31) (41 ∷ []), hyphen_short its.field31, sector_short w r j)

  pub answer_short : (v : ℕ) → length (answer_text its v) ≤ 50
  unfolding answer_text
  answer_short v = go (known (eqb v 1)) (known (eqb v 2))
    where
      go : (eqb v 1 ≡ true) ⊎ (eqb v 1 ≡ false) → (eqb v 2 ≡ true) ⊎ (eqb v 2 ≡ false) → length (answer_text its v) ≤ 50
      go (inl e) h = rw e (omega (arith, after_long (41 ∷ [])))
      go (inr e) (inl h) = rw (e, h) (omega (arith, after_long (hyphened its.field31 ++ (41 ∷ [])), sector_hyphened))
      go (inr e) (inr h) = rw (e, h) (omega (arith, after_long (45 ∷ 82 ∷ 77 ∷ 75 ∷ 47 ∷ (48 + v / 10) ∷ (48 + v % 10) ∷ 41 ∷ [])))

  -- its parts lie within the text
  pub numbers_inside : AllInside w (number_spans r.parts.number)
  numbers_inside = all_inside w (span_of r) (its_inside w r j) (receiver ∷ sender ∷ number ∷ sender ∷ receiver ∷ number ∷ [])

  pub rla_inside : AllInside w (rla_spans r.parts.number r.parts.sector)
  rla_inside = all_inside w (span_of r) (its_inside w r j) (receiver ∷ sender ∷ number ∷ sender ∷ receiver ∷ number ∷ sector ∷ [])
