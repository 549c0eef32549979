-- What the texts are that a flight's record keeps of a message that was read: each is empty, or derived by its field's rule.
use Rattle.std.specs.Prelude.{◌≡◌, true, List, [], ◌∷◌, ℕ, ◌+◌}
use Rattle.std.proofs.Math.Path.{refl, subst}
use Rattle.std.proofs.Common.{inl}
use Rattle.scan.specs.declared.Class.TheVariants.{Letter, Octal, Alnum}
use Rattle.scan.specs.Grammar.{G, run, part, Derives}
use Rattle.scan.specs.Texts.{opt}
use Rattle.scan.specs.Scanner.{occurs}
use Rattle.scan.specs.Tests.{names, plain_test}
use Rattle.fields.specs.Names as n
use Rattle.fields.specs.Fields.{in08, in09, in10, timed, in14, in15, alternates, rest16, in18, g08, g09, g10, g14, g15, g18, field_rules}
use Rattle.message.specs.declared.Record.{Record}
use Rattle.message.specs.declared.Verdict.TheVariants.{Read}
use Rattle.reader.specs.Reading.{cut, Judged}
use Rattle.message.specs.Record.{kind_of}
use Rattle.types.specs.Picking.{letters_of}
use Rattle.compose.specs.Layout.{filled, only, is_nil, takes_first, laid, Tells, layout_test}
use Rattle.compose.specs.Order.{ordered, Within, same, cases, first as one_of_lem}
use Rattle.pen.specs.Listed.{span_of}
use Rattle.pen.specs.Laying.{own_part}
use Rattle.compose.specs.Composed.{sizes, bytes_in}
use Rattle.compose.specs.Recorded.{ordered_plain, of_letters, its, its_order, its_bytes, its_size}
use Rattle.excerpt.specs.Excerpt.{Texts, texts_of, field14_of}
use Rattle.excerpt.specs.Pieces.{kept, fine, derived}

-- each text is one of its rule, or empty
pub record Said (t : Texts) : Type 0 where
  pub aircraft : Derives (opt (run Alnum 2 7)) t.aircraft
  pub code : Derives (opt (run Octal 4 4)) t.code
  pub departure : Derives (opt (run Letter 4 4)) t.departure
  pub time : Derives (opt timed) t.time
  pub destination : Derives (opt (run Letter 4 4)) t.destination
  pub field08 : Derives (opt (in08 0)) t.field08
  pub field09 : Derives (opt (in09 0)) t.field09
  pub field10 : Derives (opt (in10 0)) t.field10
  pub rest16 : Derives (rest16 0) t.rest16
  pub field15 : Derives (opt (in15 0)) t.field15
  pub field18 : Derives (opt (in18 0)) t.field18

-- it may be empty twice over
flat : {g : G} → Within (opt (opt g)) (opt g)
flat = cases one_of_lem same

-- the rest of field 16 may be empty as it is
restful : (o : ℕ) → Within (opt (rest16 o)) (rest16 o)
unfolding rest16 alternates
restful o = cases (record { into = λ w cs t. ([], [], [], [], t.0, t.1, inl (refl, refl), inl (refl, refl)) }) same

-- The record's parts against the one grammar that all types have in common

module _ (w : List ℕ) (r : Record) (j : Judged w Read r) (a b c : ℕ) (t : Tells (ordered a b c) w (its w r j)) where
  pub field_said : (ns : List ℕ) (h : G) → Within (kept ns (ordered a b c)) h → fine ns h ≡ true → Derives h (laid h (sizes r) (bytes_in w r))
  field_said ns h i y = derived ns (ordered a b c) h h (ordered_plain a b c) i same y w (its w r j) t (sizes r) (bytes_in w r) (its_size w r j) (its_bytes w r j)

  -- a part that is a text by itself
  pub part_said : (k : ℕ) (g : G) → Within (kept (k ∷ []) (ordered a b c)) (opt (part k g)) → fine (k ∷ []) (opt (part k g)) ≡ true → Derives (opt g) (cut w (span_of r k))
  unfolding filled only is_nil takes_first laid occurs names
  part_said k g i y = subst (Derives (opt g)) (own_part w (span_of r k)) (field_said (k ∷ []) (opt (part k g)) i y)

  own_ordered : Said (texts_of w r.parts.own)
  unfolding kept fine ordered field_rules layout_test plain_test
  own_ordered = record {
    aircraft = part_said n.aircraft (run Alnum 2 7) same refl;
    code = part_said n.code (run Octal 4 4) flat refl;
    departure = part_said n.departure (run Letter 4 4) same refl;
    time = part_said n.time timed flat refl;
    destination = part_said n.destination (run Letter 4 4) same refl;
    field08 = field_said (3 ∷ 4 ∷ []) (opt (g08 0)) same refl;
    field09 = field_said (5 ∷ 6 ∷ 7 ∷ []) (opt (g09 0)) same refl;
    field10 = field_said (8 ∷ 9 ∷ []) (opt (g10 0)) same refl;
    rest16 = field_said (16 ∷ 17 ∷ 18 ∷ []) (rest16 0) (restful 0) refl;
    field15 = field_said (12 ∷ 13 ∷ 14 ∷ []) (opt (g15 0)) same refl;
    field18 = field_said (19 ∷ 20 ∷ []) (opt (g18 0)) same refl;
  }

  changes_ordered : Said (texts_of w r.parts.changes)
  unfolding kept fine ordered field_rules layout_test plain_test
  changes_ordered = record {
    aircraft = part_said (n.amended + n.aircraft) (run Alnum 2 7) same refl;
    code = part_said (n.amended + n.code) (run Octal 4 4) flat refl;
    departure = part_said (n.amended + n.departure) (run Letter 4 4) same refl;
    time = part_said (n.amended + n.time) timed same refl;
    destination = part_said (n.amended + n.destination) (run Letter 4 4) same refl;
    field08 = field_said (35 ∷ 36 ∷ []) (opt (g08 n.amended)) same refl;
    field09 = field_said (37 ∷ 38 ∷ 39 ∷ []) (opt (g09 n.amended)) same refl;
    field10 = field_said (40 ∷ 41 ∷ []) (opt (g10 n.amended)) same refl;
    rest16 = field_said (48 ∷ 49 ∷ 50 ∷ []) (rest16 n.amended) (restful n.amended) refl;
    field15 = field_said (44 ∷ 45 ∷ 46 ∷ []) (opt (g15 n.amended)) same refl;
    field18 = field_said (51 ∷ 52 ∷ []) (opt (g18 n.amended)) same refl;
  }

  field14_ordered : Derives (opt in14) (field14_of w r.parts.estimate)
  unfolding kept fine ordered field_rules layout_test plain_test
  field14_ordered = field_said (64 ∷ 65 ∷ 66 ∷ 67 ∷ 68 ∷ []) (opt g14) same refl

-- WHAT IS KEPT OF A MESSAGE THAT WAS READ

module _ (w : List ℕ) (r : Record) (j : Judged w Read r) where
  abbrev pub order : (P : Type 0) → ((a b c : ℕ) → Tells (ordered a b c) w (its w r j) → P) → P
  order P h = of_letters (λ g. Tells g w (its w r j) → P) h (kind_of (letters_of w)) (its_order w r j).order

  pub own_said : Said (texts_of w r.parts.own)
  own_said = order (Said (texts_of w r.parts.own)) (own_ordered w r j)

  pub changes_said : Said (texts_of w r.parts.changes)
  changes_said = order (Said (texts_of w r.parts.changes)) (changes_ordered w r j)

  pub field14_said : Derives (opt in14) (field14_of w r.parts.estimate)
  field14_said = order (Derives (opt in14) (field14_of w r.parts.estimate)) (field14_ordered w r j)
