-- Which texts a type of message always has, and which never.
use Rattle.std.specs.Prelude.{◌≡◌, Bool, ℕ}
use Rattle.std.proofs.Math.Path.{refl, ap}
use Rattle.std.proofs.Common.{sym, ◌∙◌, subst, arith}
use Rattle.std.proofs.Math.Bool.{true, false}
use Rattle.std.proofs.lemmas.Bool.{false≢true}
use mathlib.Core.List.{List, [], ◌∷◌, ◌++◌}
use Rattle.std.proofs.Math.ListN.{length}
use Rattle.scan.specs.declared.Class.TheVariants.{Letter, Octal, Alnum}
use Rattle.scan.specs.Grammar.{size_of, G, run, part, Derives}
use Rattle.scan.specs.Texts.{opt}
use Rattle.scan.specs.Scanner.{among, occurs}
use Rattle.scan.specs.Tests.{nullable, names, strange, covers, plain, plain_test}
use Rattle.fields.specs.Names as n
use Rattle.fields.specs.Fields.{in07, in08, g08, in09, g09, in10, g10, timed, in13, in13o, in14, g14, in15, g15, alternates, in16, rest16, in18, g18, field_rules, hour, minute}
use Rattle.types.specs.Messages.{fpl, cpl, est, chg, cnl, rti, rta, rla, lam, lrm, message_rules}
use Rattle.message.specs.declared.Kind.{Kind}
use Rattle.message.specs.declared.Kind.TheVariants.{None, Fpl, Cpl, Est, Chg, Cnl, Rti, Rta, Rla, Lam, Lrm}
use Rattle.message.specs.declared.Record.{Record}
use Rattle.message.specs.declared.Verdict.TheVariants.{Read}
use Rattle.reader.specs.Reading.{cut, Judged}
use Rattle.scan.specs.Parts.{strange_sound}
use Rattle.compose.specs.Layout.{laid, told, Tells, absent_part, layout_test}
use Rattle.compose.specs.Order.{Within, same, second}
use Rattle.pen.specs.Listed.{span_of}
use Rattle.pen.specs.Laying.{none_given, led_by, text_alternates, own_part}
use Rattle.compose.specs.Composed.{sizes, bytes_in}
use Rattle.compose.specs.Recorded.{type_of, its, its_order, its_kind, its_bytes, its_size}
use Rattle.excerpt.specs.Excerpt.{Texts, texts_of, field14_of}
use Rattle.excerpt.specs.Pieces.{kept, fine, derived}
use Rattle.excerpt.specs.Said.{own_said}

-- the texts that say which flight it is
pub record Named (t : Texts) : Type 0 where
  pub aircraft : Derives (run Alnum 2 7) t.aircraft
  pub departure : Derives (run Letter 4 4) t.departure
  pub destination : Derives (run Letter 4 4) t.destination

-- those of a plan
pub record Planned (t : Texts) : Type 0 where
  pub key : Named t
  pub code : Derives (opt (run Octal 4 4)) t.code
  pub field08 : Derives (in08 0) t.field08
  pub field09 : Derives (in09 0) t.field09
  pub field10 : Derives (in10 0) t.field10
  pub field15 : Derives (in15 0) t.field15
  pub field18 : Derives (in18 0) t.field18

-- what an FPL files: a plan with its time, and no field 14
pub record Filed (t : Texts) (field14 : List ℕ) : Type 0 where
  pub plan : Planned t
  pub time : Derives timed t.time
  pub rest16 : Derives (rest16 0) t.rest16
  pub estimate : field14 ≡ []

-- what a CPL says: a plan without time and rest of field 16, and field 14
pub record Coordinated (t : Texts) (field14 : List ℕ) : Type 0 where
  pub plan : Planned t
  pub time : t.time ≡ []
  pub rest16 : t.rest16 ≡ []
  pub estimate : Derives in14 field14

-- what an EST says
pub record Estimated (t : Texts) (field14 : List ℕ) : Type 0 where
  pub key : Named t
  pub estimate : Derives in14 field14

-- the second text of a field is not there without the first
pub record Paired (t : Texts) : Type 0 where
  pub code : t.aircraft ≡ [] → t.code ≡ []
  pub time : t.departure ≡ [] → t.time ≡ []
  pub rest16 : t.destination ≡ [] → t.rest16 ≡ []

-- the types that name a flight
unfoldable pub names_flight : Kind → Bool
names_flight None = false
names_flight Fpl = true
names_flight Cpl = true
names_flight Est = true
names_flight Chg = true
names_flight Cnl = true
names_flight Rti = true
names_flight Rta = true
names_flight Rla = false
names_flight Lam = false
names_flight Lrm = false

type_plain : (k : Kind) → plain (type_of k) ≡ true
unfolding type_of message_rules plain_test
type_plain None = refl
type_plain Fpl = refl
type_plain Cpl = refl
type_plain Est = refl
type_plain Chg = refl
type_plain Cnl = refl
type_plain Rti = refl
type_plain Rta = refl
type_plain Rla = refl
type_plain Lam = refl
type_plain Lrm = refl

-- where these three stand in a type
record KeyIn (g : G) : Type 0 where
  aircraft : Within (kept (n.aircraft ∷ []) g) (part n.aircraft (run Alnum 2 7))
  departure : Within (kept (n.departure ∷ []) g) (part n.departure (run Letter 4 4))
  destination : Within (kept (n.destination ∷ []) g) (part n.destination (run Letter 4 4))

key_in : (k : Kind) → names_flight k ≡ true → KeyIn (type_of k)
unfolding names_flight type_of kept among occurs names strange covers in07 in13 in13o alternates in16 fpl cpl est chg cnl rti rta
key_in None h = absurd (false≢true h)
key_in Fpl h = record { aircraft = same; departure = same; destination = same }
key_in Cpl h = record { aircraft = same; departure = same; destination = same }
key_in Est h = record { aircraft = same; departure = same; destination = same }
key_in Chg h = record { aircraft = same; departure = same; destination = same }
key_in Cnl h = record { aircraft = same; departure = same; destination = same }
key_in Rti h = record { aircraft = same; departure = same; destination = same }
key_in Rta h = record { aircraft = same; departure = same; destination = same }
key_in Rla h = absurd (false≢true h)
key_in Lam h = absurd (false≢true h)
key_in Lrm h = absurd (false≢true h)

-- where the fields of a plan stand
record PlanIn (g : G) : Type 0 where
  field08 : Within (kept (3 ∷ 4 ∷ []) g) (g08 0)
  field09 : Within (kept (5 ∷ 6 ∷ 7 ∷ []) g) (g09 0)
  field10 : Within (kept (8 ∷ 9 ∷ []) g) (g10 0)
  field15 : Within (kept (12 ∷ 13 ∷ 14 ∷ []) g) (g15 0)
  field18 : Within (kept (19 ∷ 20 ∷ []) g) (g18 0)

abbrev estimate_parts : List ℕ
estimate_parts = n.point ∷ n.over ∷ n.crossing ∷ n.second ∷ n.sense ∷ []

abbrev rest_parts : List ℕ
rest_parts = n.elapsed ∷ n.alternate ∷ n.alternate2 ∷ []

module _ (w : List ℕ) (r : Record) (j : Judged w Read r) (k : Kind) (e : r.kind ≡ k) where
  in_type : Tells (type_of k) w (its w r j)
  in_type = subst (λ (o : Kind). Tells (type_of o) w (its w r j)) (sym (its_kind w r j) ∙ e) (its_order w r j).form

  -- a field that the type always has
  sure_field : (ns : List ℕ) (x : G) → Within (kept ns (type_of k)) x → fine ns (opt x) ≡ true → Derives x (laid (opt x) (sizes r) (bytes_in w r))
  sure_field ns x i y = derived ns (type_of k) x (opt x) (type_plain k) i (second same) y w (its w r j) in_type (sizes r) (bytes_in w r) (its_size w r j) (its_bytes w r j)

  sure_part : (m : ℕ) (g : G) → Within (kept (m ∷ []) (type_of k)) (part m g) → fine (m ∷ []) (part m g) ≡ true → Derives g (cut w (span_of r m))
  unfolding laid
  sure_part m g i y = derived (m ∷ []) (type_of k) (part m g) (part m g) (type_plain k) i same y w (its w r j) in_type (sizes r) (bytes_in w r) (its_size w r j) (its_bytes w r j)

  -- a part that the type never has
  no_part : (m : ℕ) → occurs m (type_of k) ≡ false → size_of (span_of r m) ≡ 0
  no_part m o = its_size w r j m ∙ ap length (absent_part m (type_of k) (type_plain k) w (its w r j) o in_type)

  no_bytes : (m : ℕ) → occurs m (type_of k) ≡ false → cut w (span_of r m) ≡ []
  no_bytes m o = its_bytes w r j m ∙ absent_part m (type_of k) (type_plain k) w (its w r j) o in_type

  -- WHICH FLIGHT IT IS
  pub key_said : names_flight k ≡ true → Named (texts_of w r.parts.own)
  unfolding fine told plain covers among names nullable
  key_said h =
      let i = key_in k h in
      record {
        aircraft = sure_part n.aircraft (run Alnum 2 7) i.aircraft refl;
        departure = sure_part n.departure (run Letter 4 4) i.departure refl;
        destination = sure_part n.destination (run Letter 4 4) i.destination refl;
      }

  -- THE TEXTS OF A PLAN
  planned : names_flight k ≡ true → PlanIn (type_of k) → Planned (texts_of w r.parts.own)
  unfolding type_of kept fine field_rules layout_test plain_test
  planned h i = record {
    key = key_said h;
    code = (own_said w r j).code;
    field08 = sure_field (3 ∷ 4 ∷ []) (g08 0) i.field08 refl;
    field09 = sure_field (5 ∷ 6 ∷ 7 ∷ []) (g09 0) i.field09 refl;
    field10 = sure_field (8 ∷ 9 ∷ []) (g10 0) i.field10 refl;
    field15 = sure_field (12 ∷ 13 ∷ 14 ∷ []) (g15 0) i.field15 refl;
    field18 = sure_field (19 ∷ 20 ∷ []) (g18 0) i.field18 refl;
  }

  -- FIELD 14
  estimated : Within (kept estimate_parts (type_of k)) g14 → Derives in14 (field14_of w r.parts.estimate)
  unfolding type_of kept fine field_rules layout_test plain_test
  estimated i = sure_field estimate_parts g14 i refl

  no_estimate_lem : strange estimate_parts (type_of k) ≡ true → field14_of w r.parts.estimate ≡ []
  unfolding among
  no_estimate_lem s =
      let l : (m : ℕ) → among m estimate_parts ≡ true → size_of (span_of r m) ≡ 0 = λ m h. no_part m (strange_sound estimate_parts (type_of k) s m h) in
      let e = r.parts.estimate in
      none_given (size_of e.point ∷ size_of e.over ∷ size_of e.crossing ∷ size_of e.second ∷ size_of e.sense ∷ []) _ (omega (arith, l 64 refl, l 65 refl, l 66 refl, l 67 refl, l 68 refl))

  -- THE REST OF FIELD 16
  no_rest16 : strange rest_parts (type_of k) ≡ true → (texts_of w r.parts.own).rest16 ≡ []
  unfolding among
  no_rest16 s =
      let o : (m : ℕ) → among m rest_parts ≡ true → occurs m (type_of k) ≡ false = strange_sound rest_parts (type_of k) s in
      let p = r.parts.own in
      let x : led_by [] w p.elapsed ≡ [] = own_part w p.elapsed ∙ no_bytes n.elapsed (o n.elapsed refl) in
      let y : text_alternates w p.alternate p.alternate2 ≡ [] = none_given (size_of p.alternate ∷ size_of p.alternate2 ∷ []) _ (omega (arith, no_part 17 (o 17 refl), no_part 18 (o 18 refl))) in
      λ i. x i ++ y i

-- BY TYPE

module _ (w : List ℕ) (r : Record) (j : Judged w Read r) where
  pub fpl_said : r.kind ≡ Fpl → Filed (texts_of w r.parts.own) (field14_of w r.parts.estimate)
  unfolding names_flight type_of kept fine told nullable plain strange covers among occurs names in13 fpl timed hour minute
  fpl_said e = record {
    plan = planned w r j Fpl e refl (record { field08 = same; field09 = same; field10 = same; field15 = same; field18 = same });
    time = sure_part w r j Fpl e n.time timed same refl;
    rest16 = (own_said w r j).rest16;
    estimate = no_estimate_lem w r j Fpl e refl;
  }

  pub cpl_said : r.kind ≡ Cpl → Coordinated (texts_of w r.parts.own) (field14_of w r.parts.estimate)
  unfolding names_flight type_of kept strange covers among occurs names cpl
  cpl_said e = record {
    plan = planned w r j Cpl e refl (record { field08 = same; field09 = same; field10 = same; field15 = same; field18 = same });
    time = no_bytes w r j Cpl e n.time refl;
    rest16 = no_rest16 w r j Cpl e refl;
    estimate = estimated w r j Cpl e same;
  }

  pub est_said : r.kind ≡ Est → Estimated (texts_of w r.parts.own) (field14_of w r.parts.estimate)
  unfolding names_flight type_of kept strange covers among occurs names est
  est_said e = record { key = key_said w r j Est e refl; estimate = estimated w r j Est e same }

  -- EVERY TYPE: one that names a flight has all three first texts, another has no text of these fields
  pub own_paired : Paired (texts_of w r.parts.own)
  unfolding names_flight type_of strange covers among occurs names rla lam lrm
  own_paired = go r.kind refl
    where
      named : (k : Kind) → r.kind ≡ k → names_flight k ≡ true → Paired (texts_of w r.parts.own)
      named k e h =
          let n = key_said w r j k e h in
          record {
            code = λ z. absurd (omega (arith, n.aircraft.1, ap length z));
            time = λ z. absurd (omega (arith, n.departure.1, ap length z));
            rest16 = λ z. absurd (omega (arith, n.destination.1, ap length z));
          }

      bare : (k : Kind) → r.kind ≡ k → occurs n.code (type_of k) ≡ false → occurs n.time (type_of k) ≡ false → strange rest_parts (type_of k) ≡ true → Paired (texts_of w r.parts.own)
      bare k e c t o = record { code = λ _. no_bytes w r j k e n.code c; time = λ _. no_bytes w r j k e n.time t; rest16 = λ _. no_rest16 w r j k e o }

      go : (k : Kind) → r.kind ≡ k → Paired (texts_of w r.parts.own)
      go None e = bare None e refl refl refl
      go Fpl e = named Fpl e refl
      go Cpl e = named Cpl e refl
      go Est e = named Est e refl
      go Chg e = named Chg e refl
      go Cnl e = named Cnl e refl
      go Rti e = named Rti e refl
      go Rta e = named Rta e refl
      go Rla e = bare Rla e refl refl refl
      go Lam e = bare Lam e refl refl refl
      go Lrm e = bare Lrm e refl refl refl
