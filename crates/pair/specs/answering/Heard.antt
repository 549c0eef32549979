-- How the text of an answer reads: the letters of its type, its own number, as its reference the same number turned round,
-- and what follows.
use Rattle.std.specs.Prelude.{◌≡◌, true, ℕ, ◌+◌}
use Rattle.std.proofs.Math.Path.{refl}
use Rattle.std.proofs.Common.{inl, arith}
use Rattle.std.proofs.Math.Logic.{inr}
use mathlib.Core.List.{List, [], ◌∷◌, ◌++◌}
use Rattle.std.proofs.Math.ListN.{length}
use Rattle.scan.specs.Bools.{both}
use Rattle.scan.specs.Laws.{is_byte}
use Rattle.scan.specs.declared.Class.TheVariants.{Letter, Digit, Byte}
use Rattle.scan.specs.Grammar.{is_in, all, G, run, words, seq, part, Derives, Part, placed, Reads}
use Rattle.scan.specs.Texts.{◌⨾◌, byte, lit}
use Rattle.fields.specs.Names as n
use Rattle.fields.specs.Fields.{in_numbered, numbered, g31}
use Rattle.types.specs.Messages.{referring, rla, lam, lrm, message}
use Rattle.types.specs.Picking.{letters_as}
use Rattle.message.specs.declared.Kind.{Kind}
use Rattle.message.specs.declared.Kind.TheVariants.{Rla, Lam, Lrm}
use Rattle.message.specs.declared.Record.{Record}
use Rattle.message.specs.declared.Verdict.TheVariants.{Read}
use Rattle.message.specs.Record.{figure, kind_of, record_of}
use Rattle.reader.specs.Reading.{cut, Judged}
use Rattle.response.specs.Answering.{number_text}

-- t is read as a message of the type k, with the digits d in its number, which is from x to y, and in its reference, which is
-- from y to x
pub record Heard (k : Kind) (x y d t : List ℕ) : Type 0 where
  pub its : Record
  pub read : Judged t Read its
  pub kind : its.kind ≡ k
  pub sender : cut t its.parts.number.sender ≡ x
  pub receiver : cut t its.parts.number.receiver ≡ y
  pub number : its.figures.number ≡ figure 3 d 0
  pub reference_sender : cut t its.parts.reference.sender ≡ y
  pub reference_receiver : cut t its.parts.reference.receiver ≡ x
  pub reference : its.figures.reference ≡ figure 3 d 0

-- FOUR LETTERS AND THREE DIGITS, byte by byte

data Four : List ℕ → Type 0 where
  four : (a b c e : ℕ) → Four (a ∷ b ∷ c ∷ e ∷ [])

data Three : List ℕ → Type 0 where
  three : (a b c : ℕ) → Three (a ∷ b ∷ c ∷ [])

is_four_lem : (s : List ℕ) → length s ≡ 4 → Four s
is_four_lem [] e = absurd (omega arith)
is_four_lem (a ∷ []) e = absurd (omega arith)
is_four_lem (a ∷ b ∷ []) e = absurd (omega arith)
is_four_lem (a ∷ b ∷ c ∷ []) e = absurd (omega arith)
is_four_lem (a ∷ b ∷ c ∷ x ∷ []) e = four a b c x
is_four_lem (a ∷ b ∷ c ∷ x ∷ y ∷ s) e = absurd (omega arith)

is_three : (s : List ℕ) → length s ≡ 3 → Three s
is_three [] e = absurd (omega arith)
is_three (a ∷ []) e = absurd (omega arith)
is_three (a ∷ b ∷ []) e = absurd (omega arith)
is_three (a ∷ b ∷ c ∷ []) e = three a b c
is_three (a ∷ b ∷ c ∷ x ∷ s) e = absurd (omega arith)

-- HOW THE PIECES READ

byte_reads : (b at : ℕ) → Reads (byte b) at (b ∷ []) []
unfolding all
byte_reads b at = ((both (is_in (Byte b) b) true (is_byte b b refl) refl, omega arith, omega arith), refl)

lit_reads : (key : List ℕ) (at : ℕ) → Reads (lit key) at key []
lit_reads [] at = (refl, refl)
lit_reads (b ∷ key) at = (b ∷ [], key, [], [], refl, refl, byte_reads b at, lit_reads key (at + 1))

-- where the parts of a number stand that begins at a place
abbrev number_parts : ℕ → ℕ → ℕ → ℕ → List ℕ → List ℕ → List ℕ → List Part
number_parts a b c at x y d = placed a at (length x) ∷ placed b (at + length x + 1) (length y) ∷ placed c (at + length x + 1 + length y) (length d) ∷ []

-- a number as it stands in a text
numbered_reads : (a b c at : ℕ) (x y d : List ℕ) → Derives (run Letter 4 4) x → Derives (run Letter 4 4) y → Derives (run Digit 3 3) d → Reads (numbered a b c) at (number_text x y d) (number_parts a b c at x y d)
unfolding in_numbered
numbered_reads a b c at x y d p q r =
    let i = at + length x + 1 in
    let e = i + length y in
    (x, 47 ∷ (y ++ d), placed a at (length x) ∷ [], placed b i (length y) ∷ placed c e (length d) ∷ [], refl, refl, (p, refl), (47 ∷ [], y ++ d, [], placed b i (length y) ∷ placed c e (length d) ∷ [], refl, refl, byte_reads 47 (at + length x), (y, d, placed b i (length y) ∷ [], placed c e (length d) ∷ [], refl, refl, (q, refl), (r, refl))))

-- THE BEGINNING OF AN ANSWER

-- up to its number, and up to its reference
abbrev opening : ℕ → ℕ → ℕ → List ℕ → List ℕ → List ℕ → List ℕ
opening a b c x y d = 40 ∷ a ∷ b ∷ c ∷ number_text x y d

abbrev pub beginning : ℕ → ℕ → ℕ → List ℕ → List ℕ → List ℕ → List ℕ
beginning a b c x y d = opening a b c x y d ++ number_text y x d

-- where the parts stand: it has 28 bytes
abbrev own_parts : List Part
own_parts = placed n.sender 4 4 ∷ placed n.receiver 9 4 ∷ placed n.number 13 3 ∷ []

abbrev reference_parts : List Part
reference_parts = placed n.reference_sender 16 4 ∷ placed n.reference_receiver 21 4 ∷ placed n.reference_number 25 3 ∷ []

-- what begins so and goes on by a grammar g, with the parts ps
beginning_reads : (a b c : ℕ) {x y d : List ℕ} → Four x → Four y → Three d → Derives (run Letter 4 4) x → Derives (run Letter 4 4) y → Derives (run Digit 3 3) d → (g : G) (z : List ℕ) (ps : List Part) → Reads g 28 z ps → Reads (seq (referring a b c) g) 0 (beginning a b c x y d ++ z) (own_parts ++ (reference_parts ++ ps))
beginning_reads a b c {x} {y} {d} (four x₀ x₁ x₂ x₃) (four y₀ y₁ y₂ y₃) (three d₀ d₁ d₂) p q r g z ps t = (
  beginning a b c x y d,
  z,
  own_parts ++ reference_parts,
  ps,
  refl,
  refl,
  (
    opening a b c x y d,
    number_text y x d,
    own_parts,
    reference_parts,
    refl,
    refl,
    (40 ∷ a ∷ b ∷ c ∷ [], number_text x y d, [], own_parts, refl, refl, lit_reads (40 ∷ a ∷ b ∷ c ∷ []) 0, numbered_reads n.sender n.receiver n.number 4 x y d p q r),
    numbered_reads n.reference_sender n.reference_receiver n.reference_number 16 y x d q p r,
  ),
  t,
)

-- WHAT A TEXT WITH SUCH A BEGINNING IS

heard_as : (a b c : ℕ) (k : Kind) → kind_of (letters_as a b c) ≡ k → {x y d : List ℕ} → Four x → Four y → Three d → (z : List ℕ) (ps : List Part) → Reads message 0 (beginning a b c x y d ++ z) (own_parts ++ (reference_parts ++ ps)) → Heard k x y d (beginning a b c x y d ++ z)
unfolding figure
heard_as a b c k e {x} {y} {d} (four x₀ x₁ x₂ x₃) (four y₀ y₁ y₂ y₃) (three d₀ d₁ d₂) z ps j = record {
  its = record_of (beginning a b c x y d ++ z) (own_parts ++ (reference_parts ++ ps));
  read = (own_parts ++ (reference_parts ++ ps), j, refl);
  kind = e;
  sender = refl;
  receiver = refl;
  number = refl;
  reference_sender = refl;
  reference_receiver = refl;
  reference = refl;
}

-- THE THREE ANSWERS

module _ (x y d : List ℕ) (p : Derives (run Letter 4 4) x) (q : Derives (run Letter 4 4) y) (r : Derives (run Digit 3 3) d) where
  -- a type's text is that beginning, and what g derives
  heard : (a b c : ℕ) (k : Kind) → kind_of (letters_as a b c) ≡ k → (g : G) → ((w : List ℕ) (ps : List Part) → Reads (seq (referring a b c) g) 0 w ps → Reads message 0 w ps) → (z : List ℕ) (ps : List Part) → Reads g 28 z ps → Heard k x y d (beginning a b c x y d ++ z)
  heard a b c k e g i z ps t =
      let f = is_four_lem x (omega (arith, p.1, p.2)) in
      let h = is_four_lem y (omega (arith, q.1, q.2)) in
      let l = is_three d (omega (arith, r.1, r.2)) in
      heard_as a b c k e f h l z ps (i (beginning a b c x y d ++ z) (own_parts ++ (reference_parts ++ ps)) (beginning_reads a b c f h l p q r g z ps t))

  pub heard_lam : Heard Lam x y d (beginning 76 65 77 x y d ++ (41 ∷ []))
  unfolding kind_of message lam
  heard_lam = heard 76 65 77 Lam refl (byte 41) (λ w ps t. inr (inr (inr (inr (inr (inr (inr (inr (inl t))))))))) (41 ∷ []) [] (byte_reads 41 28)

  -- with a field 31
  pub heard_rla : (f : List ℕ) → Derives (words 20) f → Heard Rla x y d (beginning 82 76 65 x y d ++ (45 ∷ (f ++ (41 ∷ []))))
  unfolding kind_of message rla
  heard_rla f s =
      let ps : List Part = placed n.sector 29 (length f) ∷ [] in
      heard 82 76 65 Rla refl (byte 45 ⨾ g31 ⨾ byte 41) (λ w ps t. inr (inr (inr (inr (inr (inr (inr (inl t)))))))) (45 ∷ (f ++ (41 ∷ []))) ps
      (45 ∷ [], f ++ (41 ∷ []), [], ps, refl, refl, byte_reads 45 28, (f, 41 ∷ [], ps, [], refl, refl, (s, refl), byte_reads 41 (29 + length f)))

  -- with two digits
  pub heard_lrm : (a b : ℕ) → Derives (run Digit 2 2) (a ∷ b ∷ []) → Heard Lrm x y d (beginning 76 82 77 x y d ++ (45 ∷ 82 ∷ 77 ∷ 75 ∷ 47 ∷ a ∷ b ∷ 41 ∷ []))
  unfolding kind_of message lrm
  heard_lrm a b s =
      let ps : List Part = placed n.reason 33 2 ∷ [] in
      heard 76 82 77 Lrm refl (byte 45 ⨾ lit (82 ∷ 77 ∷ 75 ∷ 47 ∷ []) ⨾ part n.reason (run Digit 2 2) ⨾ byte 41) (λ w ps t. inr (inr (inr (inr (inr (inr (inr (inr (inr t))))))))) (45 ∷ 82 ∷ 77 ∷ 75 ∷ 47 ∷ a ∷ b ∷ 41 ∷ []) ps
      (45 ∷ [], 82 ∷ 77 ∷ 75 ∷ 47 ∷ a ∷ b ∷ 41 ∷ [], [], ps, refl, refl, byte_reads 45 28, (82 ∷ 77 ∷ 75 ∷ 47 ∷ [], a ∷ b ∷ 41 ∷ [], [], ps, refl, refl, lit_reads (82 ∷ 77 ∷ 75 ∷ 47 ∷ []) 29, (a ∷ b ∷ [], 41 ∷ [], ps, [], refl, refl, (s, refl), byte_reads 41 35)))
