-- What the steps of a draft come to.
use Rattle.std.specs.Prelude.{◌≡◌, refl, Bool, true, false, cond, List, [], ◌∷◌, ◌++◌, ℕ, ◌+◌, ◌/◌, ◌%◌, ◌≤◌, ◌<◌, length, take, get_or, eqb}
use Rattle.std.proofs.Common.{sym, ◌∙◌, subst, arith}
use Rattle.scan.specs.Bools.{Decides, decides_as}
use Rattle.scan.specs.Grammar.{span, size_of, Span}
use Rattle.fields.specs.Names as name
use Rattle.message.specs.declared.Record.{Record}
use Rattle.compose.specs.Composed.{sizes}
use Rattle.pen.specs.Laying.{End, Adds, start, opening, blocks, spans, rest_blocks, rest_spans}
use Rattle.writer.specs.Comparing.{Back}
use Rattle.writer.specs.Written.{breaks_laid, breaks_back, text_back, laid_fits, laid_size}
use Rattle.writer.specs.declared.Drafting.TheVariants.{Written, BreaksRule}
use Rattle.writer.specs.Draft.{digits, figures_as, Draws}
use Rattle.writer.specs.Moved.{number_bytes, whole, moved_record, other_parts, moved_len, drafted_written, written_drafted, adds_moved}
use Rattle.scan.specs.Laws.{four}

-- THE BYTES OF A NUMBER

pub number_made : (ours partners : List ℕ) (n : ℕ) → length ours ≡ 4 → length partners ≡ 4 → get_or ours 0 0 ∷ get_or ours 1 0 ∷ get_or ours 2 0 ∷ get_or ours 3 0 ∷ 47 ∷ get_or partners 0 0 ∷ get_or partners 1 0 ∷ get_or partners 2 0 ∷ get_or partners 3 0 ∷ (48 + n / 100) ∷ (48 + (n / 10) % 10) ∷ (48 + n % 10) ∷ [] ≡ number_bytes ours partners n
unfolding number_bytes digits
number_made ours partners n x y = sym (λ i. four ours x i ++ (47 ∷ (four partners y i ++ digits n)))

-- THE RECORD THAT A TEXT IS HELD AGAINST

-- only the lengths of its parts count
abbrev pub held : ℕ → Record → Record
held n r = record {
  kind = r.kind;
  parts = record {
    number = record { sender = span 0 4; receiver = span 0 4; digits = span 0 3 };
    reference = r.parts.reference;
    own = r.parts.own;
    estimate = r.parts.estimate;
    changes = r.parts.changes;
    sector = r.parts.sector;
    track = r.parts.track;
    reason = r.parts.reason;
  };
  figures = figures_as n r.figures;
}

module _ (ours partners : List ℕ) (n : ℕ) (f : length ours ≡ 4) (g : length partners ≡ 4) (r : Record) where
  by_name : (x y z : Bool) (p q : Span) → size_of q ≡ size_of p → size_of (cond x (span 0 4) (cond y (span 0 4) (cond z (span 0 3) p))) ≡ size_of (cond x (span 0 (length ours)) (cond y (span (length ours) (length partners)) (cond z (span (length ours + length partners) 3) q)))
  by_name true y z p q e = omega arith
  by_name false true z p q e = omega arith
  by_name false false true p q e = omega arith
  by_name false false false p q e = sym e

  held_sizes : (k : ℕ) → sizes (held n r) k ≡ sizes (moved_record ours partners n r) k
  held_sizes k = by_name (eqb k name.sender) (eqb k name.receiver) (eqb k name.number) _ _ (moved_len ours partners k (other_parts r.parts))

  held_back : (t : List ℕ) (b : Bool) → Decides b (Back t (held n r)) → Decides b (Back t (moved_record ours partners n r))
  held_back t b =
      decides_as
      (λ x. record { its = x.its; read = x.read; same = record { kinds = x.same.kinds; lengths = λ k. x.same.lengths k ∙ held_sizes k; figures = x.same.figures } })
      (λ x. record { its = x.its; read = x.read; same = record { kinds = x.same.kinds; lengths = λ k. x.same.lengths k ∙ sym (held_sizes k); figures = x.same.figures } })

-- THE STEPS: a text was laid out under a number in a buffer of 1077 bytes

module _ (ours partners : List ℕ) (n : ℕ) (d : List ℕ) (r : Record) (t₀ t m : List ℕ) (p : End) (z : length t₀ ≡ 1077) (f : length ours ≡ 4) (g : length partners ≡ 4) (e : m ≡ number_bytes ours partners n) (a : Adds d t₀ start (opening r.kind ∷ m ∷ rest_blocks d r.parts) (rest_spans r.parts) t p) where
  abbrev d' : List ℕ
  d' = whole ours partners n d

  abbrev r' : Record
  r' = moved_record ours partners n r

  short : length ours < 65536
  short = omega arith

  short' : length partners < 65536
  short' = omega arith

  laid : Adds d' t₀ start (blocks (opening r.kind) d' r'.parts) (spans r'.parts) t p
  laid = adds_moved ours partners n d short short' (opening r.kind) r.parts (subst (λ (x : List ℕ). Adds d t₀ start (opening r.kind ∷ x ∷ rest_blocks d r.parts) (rest_spans r.parts) t p) e a)

  -- it did not fit, or a part lies outside
  pub unlaid : p.ok ≡ false → Draws ours partners n d r t₀ BreaksRule t
  unlaid o = (λ w x. breaks_laid d' r' t₀ t p z laid o w (drafted_written ours partners n d short short' r w x), a.size)

  module _ (o : p.ok ≡ true) where
    pub draft_fits : p.at ≤ length t
    draft_fits = laid_fits d' r' t₀ t p z laid o

    pub draft_size : length (take p.at t) ≡ p.at
    draft_size = laid_size d' r' t₀ t p z laid o

    module _ (q : Record) (u : q ≡ held n r) (b : Bool) (y : Decides b (Back (take p.at t) q)) where
      reads : Decides b (Back (take p.at t) r')
      reads = held_back ours partners n f g r (take p.at t) b (subst (λ (x : Record). Decides b (Back (take p.at t) x)) u y)

      -- it does not read back as the record
      pub unread : b ≡ false → Draws ours partners n d r t₀ BreaksRule t
      unread h = (λ w x. breaks_back d' r' t₀ t p z laid o b reads h w (drafted_written ours partners n d short short' r w x), a.size)

      -- it does
      pub drawn : b ≡ true → Draws ours partners n d r t₀ (Written p.at) t
      drawn h =
          let w : List ℕ = take p.at t in
          (w, written_drafted ours partners n d short short' r w (text_back d' r' t₀ t p z laid o b reads h), sym draft_size, omega (arith, draft_fits, a.size, z), refl, a.size)
