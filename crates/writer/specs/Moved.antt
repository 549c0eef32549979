-- A record under another number, as one whose number stands in the bytes: in front of them, so that every other part is
-- moved. So the writer's laws hold of it.
use Rattle.std.specs.Prelude.{◌≡◌, refl, Bool, true, false, cond, ◌||◌, List, [], ◌∷◌, ◌++◌, ℕ, ◌+◌, ◌<◌, take, drop, eqb}
use Rattle.std.proofs.Math.Path.{sym, ap}
use Rattle.std.proofs.Common.{◌∙◌, subst, inl, inr, ⊎_elim, arith, length-take}
use Rattle.std.proofs.Math.ListN.{length, length-append}
use Rattle.std.proofs.Math.Seq.{take-append_seam, drop-append_seam, drop-append-add}
use Rattle.scan.specs.Bools.{neither}
use Rattle.scan.specs.Grammar.{span, place_of, size_of, Span, Part, look}
use Rattle.fields.specs.Names as name
use Rattle.changes.specs.declared.Plan.{Plan}
use Rattle.fields.specs.declared.Number.{Number}
use Rattle.fields.specs.declared.Estimate.{Estimate}
use Rattle.types.specs.declared.Parts.{Parts}
use Rattle.message.specs.declared.Record.{Record}
use Rattle.reader.specs.Reading.{cut}
use Rattle.compose.specs.Layout.{cut_span}
use Rattle.pen.specs.Listed.{number_parts, plan_parts, rest_parts, span_of, Inside}
use Rattle.pen.specs.Laying.{End, rest_blocks, rest_spans, blocks, spans, join, AllInside, Stands, Adds}
use Rattle.writer.specs.Writing.{Content, content_of, Writes}
use Rattle.writer.specs.Written.{one_text}
use Rattle.writer.specs.Draft.{digits, of_number, figures_as, numbered, Drafted}

-- THE BYTES AND THE RECORD

-- a number as it stands in a text
unfoldable pub number_bytes : List ℕ → List ℕ → ℕ → List ℕ
number_bytes ours partners n = ours ++ (47 ∷ (partners ++ digits n))

-- the bytes with those of the number in front
abbrev pub whole : List ℕ → List ℕ → ℕ → List ℕ → List ℕ
whole ours partners n d = ours ++ (partners ++ (digits n ++ d))

-- a part behind the number
abbrev pub moved : List ℕ → List ℕ → Span → Span
moved ours partners p = span (length ours + (length partners + (3 + place_of p))) (size_of p)

abbrev pub moved_number : List ℕ → List ℕ → Number → Number
moved_number ours partners p = record { sender = moved ours partners p.sender; receiver = moved ours partners p.receiver; digits = moved ours partners p.digits }

abbrev pub moved_plan : List ℕ → List ℕ → Plan → Plan
moved_plan ours partners p = record {
  aircraft = moved ours partners p.aircraft;
  code = moved ours partners p.code;
  rules = moved ours partners p.rules;
  flight = moved ours partners p.flight;
  count = moved ours partners p.count;
  model = moved ours partners p.model;
  wake = moved ours partners p.wake;
  equipment = moved ours partners p.equipment;
  surveillance = moved ours partners p.surveillance;
  departure = moved ours partners p.departure;
  time = moved ours partners p.time;
  speed = moved ours partners p.speed;
  level = moved ours partners p.level;
  route = moved ours partners p.route;
  destination = moved ours partners p.destination;
  elapsed = moved ours partners p.elapsed;
  alternate = moved ours partners p.alternate;
  alternate2 = moved ours partners p.alternate2;
  indicator = moved ours partners p.indicator;
  other = moved ours partners p.other;
}

abbrev pub moved_estimate : List ℕ → List ℕ → Estimate → Estimate
moved_estimate ours partners p = record { point = moved ours partners p.point; over = moved ours partners p.over; crossing = moved ours partners p.crossing; second = moved ours partners p.second; sense = moved ours partners p.sense }

-- the number stands in front
abbrev pub moved_parts : List ℕ → List ℕ → Parts → Parts
moved_parts ours partners p = record {
  number = record { sender = span 0 (length ours); receiver = span (length ours) (length partners); digits = span (length ours + length partners) 3 };
  reference = moved_number ours partners p.reference;
  own = moved_plan ours partners p.own;
  estimate = moved_estimate ours partners p.estimate;
  changes = moved_plan ours partners p.changes;
  sector = moved ours partners p.sector;
  track = moved ours partners p.track;
  reason = moved ours partners p.reason;
}

abbrev pub moved_record : List ℕ → List ℕ → ℕ → Record → Record
moved_record ours partners n r = record { kind = r.kind; parts = moved_parts ours partners r.parts; figures = figures_as n r.figures }

-- ONE PART

-- the parts but for those of the number
abbrev pub other_parts : Parts → List Part
other_parts p =
    number_parts name.reference_sender name.reference_receiver name.reference_number p.reference
    ++ (plan_parts 0 p.own
    ++ (plan_parts name.amended p.changes ++ rest_parts p))

abbrev pub all_moved : List ℕ → List ℕ → List Part → List Part
all_moved ours partners [] = []
all_moved ours partners (p ∷ ps) = record { name = p.name; span = moved ours partners p.span } ∷ all_moved ours partners ps

abbrev moved_spans : List ℕ → List ℕ → List Span → List Span
moved_spans ours partners [] = []
moved_spans ours partners (q ∷ qs) = moved ours partners q ∷ moved_spans ours partners qs

-- a part that is not of the number is looked up behind it
others : (k : ℕ) (s c e : Span) (ps : List Part) → of_number k ≡ false → look k (record { name = name.sender; span = s } ∷ record { name = name.receiver; span = c } ∷ record { name = name.number; span = e } ∷ ps) ≡ look k ps
unfolding of_number
others k s c e ps h =
    let x = neither (eqb k name.sender) (eqb k name.receiver || eqb k name.number) h in
    let y = neither (eqb k name.receiver) (eqb k name.number) x.1 in
    rw (x.0, y.0, y.1)

pub moved_len : (ours partners : List ℕ) (k : ℕ) (ps : List Part) → size_of (look k (all_moved ours partners ps)) ≡ size_of (look k ps)
moved_len ours partners k [] = refl
moved_len ours partners k (p ∷ ps) = go (eqb k p.name) (moved_len ours partners k ps)
  where
    go : (t : Bool) → size_of (look k (all_moved ours partners ps)) ≡ size_of (look k ps) → size_of (cond t (moved ours partners p.span) (look k (all_moved ours partners ps))) ≡ size_of (cond t p.span (look k ps))
    go true e = omega arith
    go false e = e

module _ (ours partners : List ℕ) (n : ℕ) (d : List ℕ) (f : length ours < 65536) (g : length partners < 65536) where
  abbrev d' : List ℕ
  d' = whole ours partners n d

  skip : (m : ℕ) → drop (length ours + (length partners + (3 + m))) d' ≡ drop m d
  unfolding digits
  skip m = drop-append-add ours (partners ++ (digits n ++ d)) (length partners + (3 + m)) ∙ drop-append-add partners (digits n ++ d) (3 + m) ∙ drop-append-add (digits n) d m

  place_moved : (p : Span) → place_of (moved ours partners p) ≡ length ours + (length partners + (3 + place_of p))
  place_moved p = omega arith

  size_moved : (p : Span) → size_of (moved ours partners p) ≡ size_of p
  size_moved p = omega arith

  cut_moved : (p : Span) → cut d' (moved ours partners p) ≡ cut d p
  cut_moved p = (λ i. take (size_moved p i) (drop (place_moved p i) d')) ∙ ap (take (size_of p)) (skip (place_of p))

  cut_sender : cut d' (span 0 (length ours)) ≡ ours
  cut_sender = cut_span d' 0 (length ours) f ∙ take-append_seam ours (partners ++ (digits n ++ d))

  cut_receiver : cut d' (span (length ours) (length partners)) ≡ partners
  cut_receiver = cut_span d' (length ours) (length partners) g ∙ ap (take (length partners)) (drop-append_seam ours (partners ++ (digits n ++ d))) ∙ take-append_seam partners (digits n ++ d)

  cut_digits : cut d' (span (length ours + length partners) 3) ≡ digits n
  unfolding digits
  cut_digits = cut_span d' (length ours + length partners) 3 (omega arith) ∙ ap (take 3) (drop-append-add ours (partners ++ (digits n ++ d)) (length partners) ∙ drop-append_seam partners (digits n ++ d))

  cut_look : (k : ℕ) (ps : List Part) → cut d' (look k (all_moved ours partners ps)) ≡ cut d (look k ps)
  cut_look k [] = refl
  cut_look k (p ∷ ps) = go (eqb k p.name) (cut_look k ps)
    where
      go : (t : Bool) → cut d' (look k (all_moved ours partners ps)) ≡ cut d (look k ps) → cut d' (cond t (moved ours partners p.span) (look k (all_moved ours partners ps))) ≡ cut d (cond t p.span (look k ps))
      go true e = cut_moved p.span
      go false e = e

  -- WHAT IT SAYS

  -- by whether a part is the sender, the receiver, or the digits
  by_name : (x y z : Bool) (s c e p q : Span) → cut d' q ≡ cut d p → cut d' (cond x (span 0 (length ours)) (cond y (span (length ours) (length partners)) (cond z (span (length ours + length partners) 3) q))) ≡ cond x ours (cond y partners (cond z (digits n) (cut d (cond x s (cond y c (cond z e p))))))
  by_name true y z s c e p q h = cut_sender
  by_name false true z s c e p q h = cut_receiver
  by_name false false true s c e p q h = cut_digits
  by_name false false false s c e p q h = h

  bytes_numbered : (r : Record) (k : ℕ) → cut d' (span_of (moved_record ours partners n r) k) ≡ cond (eqb k name.sender) ours (cond (eqb k name.receiver) partners (cond (eqb k name.number) (digits n) (cut d (span_of r k))))
  bytes_numbered r k = by_name (eqb k name.sender) (eqb k name.receiver) (eqb k name.number) _ _ _ _ _ (cut_look k (other_parts r.parts))

  says_numbered : (r : Record) → content_of d' (moved_record ours partners n r) ≡ numbered ours partners n (content_of d r)
  unfolding numbered
  says_numbered r = λ i. record { kind = r.kind; bytes = λ k. bytes_numbered r k i; figures = figures_as n r.figures }

  -- WHERE ITS PARTS LIE

  size_whole : length d' ≡ length ours + (length partners + (3 + length d))
  unfolding digits
  size_whole = omega (arith, length-append ours (partners ++ (digits n ++ d)), length-append partners (digits n ++ d), length-append (digits n) d)

  inside_moved : (p : Span) → Inside d p → Inside d' (moved ours partners p)
  inside_moved p = ⊎_elim (λ h. inl (omega arith)) (λ h. inr (omega (arith, size_whole)))

  inside_back : (p : Span) → Inside d' (moved ours partners p) → Inside d p
  inside_back p = ⊎_elim (λ h. inl (omega arith)) (λ h. inr (omega (arith, size_whole)))

  inside_look : (k : ℕ) (ps : List Part) → Inside d (look k ps) → Inside d' (look k (all_moved ours partners ps))
  inside_look k [] h = inl refl
  inside_look k (p ∷ ps) h = go (eqb k p.name) (inside_look k ps) h
    where
      go : (t : Bool) → (Inside d (look k ps) → Inside d' (look k (all_moved ours partners ps))) → Inside d (cond t p.span (look k ps)) → Inside d' (cond t (moved ours partners p.span) (look k (all_moved ours partners ps)))
      go true f i = inside_moved p.span i
      go false f i = f i

  back_look : (k : ℕ) (ps : List Part) → Inside d' (look k (all_moved ours partners ps)) → Inside d (look k ps)
  back_look k [] h = inl refl
  back_look k (p ∷ ps) h = go (eqb k p.name) (back_look k ps) h
    where
      go : (t : Bool) → (Inside d' (look k (all_moved ours partners ps)) → Inside d (look k ps)) → Inside d' (cond t (moved ours partners p.span) (look k (all_moved ours partners ps))) → Inside d (cond t p.span (look k ps))
      go true f i = inside_back p.span i
      go false f i = f i

  inside_sender : Inside d' (span 0 (length ours))
  inside_sender = inr (omega (arith, size_whole))

  inside_receiver : Inside d' (span (length ours) (length partners))
  inside_receiver = inr (omega (arith, size_whole))

  inside_digits : Inside d' (span (length ours + length partners) 3)
  inside_digits = inr (omega (arith, size_whole))

  inside_name : (x y z : Bool) (q : Span) → (x || (y || z) ≡ false → Inside d' q) → Inside d' (cond x (span 0 (length ours)) (cond y (span (length ours) (length partners)) (cond z (span (length ours + length partners) 3) q)))
  inside_name true y z q h = inside_sender
  inside_name false true z q h = inside_receiver
  inside_name false false true q h = inside_digits
  inside_name false false false q h = h refl

  all_in : (r : Record) → ((k : ℕ) → of_number k ≡ false → Inside d (span_of r k)) → (k : ℕ) → Inside d' (span_of (moved_record ours partners n r) k)
  unfolding of_number
  all_in r h k = inside_name (eqb k name.sender) (eqb k name.receiver) (eqb k name.number) _ (λ e. inside_look k (other_parts r.parts) (subst (Inside d) (others k _ _ _ (other_parts r.parts) e) (h k e)))

  all_out : (r : Record) → ((k : ℕ) → Inside d' (span_of (moved_record ours partners n r) k)) → (k : ℕ) → of_number k ≡ false → Inside d (span_of r k)
  all_out r h k e = subst (Inside d) (sym (others k _ _ _ (other_parts r.parts) e)) (back_look k (other_parts r.parts) (subst (Inside d') (others k _ _ _ (all_moved ours partners (other_parts r.parts)) e) (h k)))

  -- TO BE SENT IS TO BE WRITTEN

  pub drafted_written : (r : Record) (w : List ℕ) → Drafted ours partners n d r w → Writes (whole ours partners n d) (moved_record ours partners n r) w
  drafted_written r w x = record { inside = all_in r x.inside; its = x.its; read = x.read; says = x.says ∙ sym (says_numbered r) }

  pub written_drafted : (r : Record) (w : List ℕ) → Writes (whole ours partners n d) (moved_record ours partners n r) w → Drafted ours partners n d r w
  written_drafted r w x = record { inside = all_out r x.inside; its = x.its; read = x.read; says = x.says ∙ says_numbered r }

  -- ITS BLOCKS

  all_moved_lem : (qs : List Span) → AllInside d qs → AllInside d' (moved_spans ours partners qs)
  all_moved_lem [] h = tt
  all_moved_lem (q ∷ qs) h = (inside_moved q h.0, all_moved_lem qs h.1)

  all_back : (qs : List Span) → AllInside d' (moved_spans ours partners qs) → AllInside d qs
  all_back [] h = tt
  all_back (q ∷ qs) h = (inside_back q h.0, all_back qs h.1)

  rest_moved : (p : Parts) → rest_blocks d' (moved_parts ours partners p) ≡ rest_blocks d p
  rest_moved p = simp (place_moved, size_moved, skip)

  blocks_moved : (opening : List ℕ) (p : Parts) → opening ∷ number_bytes ours partners n ∷ rest_blocks d p ≡ blocks opening d' (moved_parts ours partners p)
  unfolding number_bytes
  blocks_moved opening p = sym (λ i. opening ∷ (cut_sender i ++ (47 ∷ (cut_receiver i ++ cut_digits i))) ∷ rest_moved p i)

  -- what was laid out under a number is what is laid out of the moved record
  pub adds_moved : {t e : List ℕ} {x y : End} (opening : List ℕ) (p : Parts) → Adds d t x (opening ∷ number_bytes ours partners n ∷ rest_blocks d p) (rest_spans p) e y → Adds (whole ours partners n d) t x (blocks opening (whole ours partners n d) (moved_parts ours partners p)) (spans (moved_parts ours partners p)) e y
  adds_moved {t} {e} {x} {y} opening p a = record {
    size = a.size;
    was = a.was;
    all = λ o. (inside_sender, (inside_receiver, (inside_digits, all_moved_lem (rest_spans p) (a.all o))));
    on = λ w h o. subst (λ (z : List (List ℕ)). Stands e y (w ++ join z)) (blocks_moved opening p) (a.on w h o);
    off = λ w h o i m. subst (λ (z : List (List ℕ)). length t < length (w ++ join z)) (blocks_moved opening p) (a.off w h o (all_back (rest_spans p) i.1.1.1) m);
  }

-- the names stand in the text, so they are no longer than a span can say
part_short : (w x : List ℕ) (p : Span) → cut w p ≡ x → length x < 65536
part_short w x p e = omega (arith, ap length e, length-take (size_of p) (drop (place_of p) w))

-- what a record says has one text under a number
pub drafted_one : (ours partners : List ℕ) (n : ℕ) (d : List ℕ) (r : Record) (w v : List ℕ) → Drafted ours partners n d r w → Drafted ours partners n d r v → w ≡ v
unfolding numbered
drafted_one ours partners n d r w v x y =
    let f = part_short w ours (span_of x.its name.sender) (ap (λ (c : Content). c.bytes name.sender) x.says) in
    let g = part_short w partners (span_of x.its name.receiver) (ap (λ (c : Content). c.bytes name.receiver) x.says) in
    one_text (whole ours partners n d) (moved_record ours partners n r) w v (drafted_written ours partners n d f g r w x) (drafted_written ours partners n d f g r v y)
