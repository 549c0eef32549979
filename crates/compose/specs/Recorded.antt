-- What the record of a read text says: its parts are those that the text tells, in the order of its type.
use Rattle.std.specs.Prelude.{◌≡◌, ◌⊎◌, Bool, true, false, cond, List, [], ◌∷◌, ◌++◌, ℕ, ◌+◌, ◌≤◌, ◌<◌, length, take, drop, eqb}
use Rattle.std.proofs.Math.Path.{refl}
use Rattle.std.proofs.Common.{sym, ap, ◌∙◌, subst, inl, inr, arith, length-drop, length-take-le, eqb-true}
use Rattle.std.proofs.Math.Logic.{⊎_elim}
use Rattle.std.proofs.lemmas.Bool.{false≢true}
use Rattle.scan.specs.Bools.{neither, known, same_bool}
use Rattle.scan.specs.Grammar.{place_of, size_of, Span, G, eps, Derives, Part, none, look}
use Rattle.scan.specs.Texts.{byte, lit}
use Rattle.scan.specs.declared.Class.TheVariants.{Byte}
use Rattle.scan.specs.Scanner.{among, occurs}
use Rattle.scan.specs.Tests.{names, covers, plain, plain_test}
use Rattle.scan.specs.Parts.{named, covers_sound, reads_derives, part_within}
use Rattle.scan.specs.Bounds.{derives_short}
use Rattle.fields.specs.Fields.{in07, in08, in09, in10, in13, in13o, in14, after15, in15, alternates, in16, in_three18, in_four18, in18, field_rules}
use Rattle.types.specs.Messages.{message, fpl, cpl, est, chg, cnl, rti, rta, rla, lam, lrm}
use Rattle.types.specs.Sound.{message_longest}
use Rattle.types.specs.Picking.{letters_as, letters_of}
use Rattle.message.specs.declared.Kind.{Kind}
use Rattle.message.specs.declared.Kind.TheVariants.{None, Fpl, Cpl, Est, Chg, Cnl, Rti, Rta, Rla, Lam, Lrm}
use Rattle.message.specs.declared.Record.{Record}
use Rattle.message.specs.declared.Verdict.TheVariants.{Read}
use Rattle.message.specs.Record.{kind_of}
use Rattle.reader.specs.Reading.{cut, Judged}
use Rattle.compose.specs.Layout.{only, is_nil, first, sure, single, pieces, same_pieces, even, told, Told, Tells, find, telling, find_telling, reading_tells, absent_part, given_run}
use Rattle.compose.specs.Order.{ordered, Within, in_fpl, in_cpl, in_est, in_chg, in_cnl, in_rti, in_rta, in_rla, in_lam, in_lrm}
use Rattle.pen.specs.Listed.{parts_in, span_of, Inside}
use Rattle.compose.specs.Composed.{order_of}

-- The order passes the computed tests

ordered_told : (a b c : ℕ) → told (ordered a b c) ≡ true
unfolding told ordered only is_nil sure single pieces same_bool same_pieces even among occurs names first field_rules
ordered_told a b c = refl

pub ordered_plain : (a b c : ℕ) → plain (ordered a b c) ≡ true
unfolding ordered field_rules plain_test
ordered_plain a b c = refl

-- the names of all parts
abbrev pub part_names : List ℕ
part_names =
    72 ∷ 73 ∷ 74 ∷ 75 ∷ 76 ∷ 77
    ∷ 1 ∷ 2 ∷ 3 ∷ 4 ∷ 5 ∷ 6 ∷ 7 ∷ 8 ∷ 9 ∷ 10 ∷ 11 ∷ 12 ∷ 13 ∷ 14 ∷ 15 ∷ 16 ∷ 17 ∷ 18 ∷ 19 ∷ 20
    ∷ 33 ∷ 34 ∷ 35 ∷ 36 ∷ 37 ∷ 38 ∷ 39 ∷ 40 ∷ 41 ∷ 42 ∷ 43 ∷ 44 ∷ 45 ∷ 46 ∷ 47 ∷ 48 ∷ 49 ∷ 50 ∷ 51 ∷ 52
    ∷ 64 ∷ 65 ∷ 66 ∷ 67 ∷ 68 ∷ 69 ∷ 70 ∷ 71 ∷ []

all_named : (a b c : ℕ) → covers part_names (names (ordered a b c)) ≡ true
unfolding covers among names ordered in07 in08 in09 in10 in13 in13o in14 after15 in15 alternates in16 in_three18 in_four18 in18
all_named a b c = refl

all_ordered : (a b c : ℕ) → covers (names (ordered a b c)) part_names ≡ true
unfolding covers among names ordered in07 in08 in09 in10 in13 in13o in14 after15 in15 alternates in16 in_three18 in_four18 in18
all_ordered a b c = refl

-- THE ORDER OF A TYPE

unfoldable pub is_message : Kind → Bool
is_message None = false
is_message Fpl = true
is_message Cpl = true
is_message Est = true
is_message Chg = true
is_message Cnl = true
is_message Rti = true
is_message Rta = true
is_message Rla = true
is_message Lam = true
is_message Lrm = true

-- every kind's order is that of some letters
pub of_letters : (P : G → Type 0) → ((a b c : ℕ) → P (ordered a b c)) → (k : Kind) → P (order_of k)
unfolding order_of
of_letters P h None = h 32 32 32
of_letters P h Fpl = h 70 80 76
of_letters P h Cpl = h 67 80 76
of_letters P h Est = h 69 83 84
of_letters P h Chg = h 67 72 71
of_letters P h Cnl = h 67 78 76
of_letters P h Rti = h 82 84 73
of_letters P h Rta = h 82 84 65
of_letters P h Rla = h 82 76 65
of_letters P h Lam = h 76 65 77
of_letters P h Lrm = h 76 82 77

pub order_told : (k : Kind) → told (order_of k) ≡ true
order_told = of_letters (λ g. told g ≡ true) ordered_told

pub order_plain : (k : Kind) → plain (order_of k) ≡ true
order_plain = of_letters (λ g. plain g ≡ true) ordered_plain

order_named : (k : Kind) → covers part_names (names (order_of k)) ≡ true
order_named = of_letters (λ g. covers part_names (names g) ≡ true) all_named

pub order_names : (k : Kind) → covers (names (order_of k)) part_names ≡ true
order_names = of_letters (λ g. covers (names g) part_names ≡ true) all_ordered

-- A TEXT THAT IS READ HAS ITS TYPE'S ORDER

one_byte : (b : ℕ) (w : List ℕ) → Derives (byte b) w → w ≡ b ∷ []
unfolding first single
one_byte b w d = given_run (Byte b) 1 1 (omega arith) refl w d

lit_text : (key w : List ℕ) (cs : List Told) → Tells (lit key) w cs → w ≡ key
lit_text [] w cs t = t.0
lit_text (b ∷ key) w cs t =
    t.4 ∙ (λ i. one_byte b t.0 t.6.0 i ++ lit_text key t.1 t.3 t.7 i)

begins : (a b c : ℕ) (w : List ℕ) (cs : List Told) → Tells (ordered a b c) w cs → letters_of w ≡ letters_as a b c
unfolding ordered
begins a b c w cs t =
    let u = t.6 in
    let k : u.0 ≡ 40 ∷ a ∷ b ∷ c ∷ [] = lit_text (40 ∷ a ∷ b ∷ c ∷ []) u.0 u.2 u.6 in
    let e : w ≡ ((40 ∷ a ∷ b ∷ c ∷ []) ++ u.1) ++ t.1 = t.4 ∙ ap (λ (z : List ℕ). z ++ t.1) (u.4 ∙ ap (λ (z : List ℕ). z ++ u.1) k) in
    ap letters_of e

-- the grammar of a type; of no type there is no message
unfoldable pub type_of : Kind → G
type_of None = eps
type_of Fpl = fpl
type_of Cpl = cpl
type_of Est = est
type_of Chg = chg
type_of Cnl = cnl
type_of Rti = rti
type_of Rta = rta
type_of Rla = rla
type_of Lam = lam
type_of Lrm = lrm

pub record Sorted (w : List ℕ) (cs : List Told) : Type 0 where
  pub is : is_message (kind_of (letters_of w)) ≡ true
  pub form : Tells (type_of (kind_of (letters_of w))) w cs
  pub order : Tells (order_of (kind_of (letters_of w))) w cs

module _ (w : List ℕ) (cs : List Told) where
  sorted_as : {g : G} (a b c : ℕ) (k : Kind) → Within g (ordered a b c) → kind_of (letters_as a b c) ≡ k → type_of k ≡ g → order_of k ≡ ordered a b c → is_message k ≡ true → Tells g w cs → Sorted w cs
  sorted_as a b c k f e y o m t =
      let u : Tells (ordered a b c) w cs = f.into w cs t in
      let z : kind_of (letters_of w) ≡ k = ap kind_of (begins a b c w cs u) ∙ e in
      record {
        is = ap is_message z ∙ m;
        form = subst (λ (g : G). Tells g w cs) (sym (ap type_of z ∙ y)) t;
        order = subst (λ (g : G). Tells g w cs) (sym (ap order_of z ∙ o)) u;
      }

  sorted : Tells message w cs → Sorted w cs
  unfolding message kind_of type_of order_of is_message
  sorted t =
      ⊎_elim (sorted_as 70 80 76 Fpl in_fpl refl refl refl refl)
      (λ t. ⊎_elim (sorted_as 67 80 76 Cpl in_cpl refl refl refl refl)
      (λ t. ⊎_elim (sorted_as 69 83 84 Est in_est refl refl refl refl)
      (λ t. ⊎_elim (sorted_as 67 72 71 Chg in_chg refl refl refl refl)
      (λ t. ⊎_elim (sorted_as 67 78 76 Cnl in_cnl refl refl refl refl)
      (λ t. ⊎_elim (sorted_as 82 84 73 Rti in_rti refl refl refl refl)
      (λ t. ⊎_elim (sorted_as 82 84 65 Rta in_rta refl refl refl refl)
      (λ t. ⊎_elim (sorted_as 82 76 65 Rla in_rla refl refl refl refl)
      (λ t. ⊎_elim (sorted_as 76 65 77 Lam in_lam refl refl refl refl)
      (sorted_as 76 82 77 Lrm in_lrm refl refl refl refl) t) t) t) t) t) t) t) t) t

-- WHERE THE PARTS OF A RECORD STAND

abbrev pub listed : (ℕ → Span) → List ℕ → List Part
listed f [] = []
listed f (m ∷ ms) = record { name = m; span = f m } ∷ listed f ms

look_listed : (f : ℕ → Span) (ns : List ℕ) (k : ℕ) → among k ns ≡ true → look k (listed f ns) ≡ f k
unfolding among
look_listed f [] k e = absurd (false≢true e)
look_listed f (m ∷ ns) k e = go (known (eqb k m)) (look_listed f ns k)
  where
    go : (eqb k m ≡ true) ⊎ (eqb k m ≡ false) → (among k ns ≡ true → look k (listed f ns) ≡ f k) → cond (eqb k m) (f m) (look k (listed f ns)) ≡ f k
    go (inl h) r = rw h (ap f (sym (eqb-true k m h)))
    go (inr h) r = rw h (r (rw h at e))

abbrev names_in : List Part → List ℕ
names_in [] = []
names_in (p ∷ ps) = p.name ∷ names_in ps

look_off : (ps : List Part) (k : ℕ) → among k (names_in ps) ≡ false → look k ps ≡ none
unfolding among
look_off [] k e = refl
look_off (p ∷ ps) k e = let h = neither (eqb k p.name) (among k (names_in ps)) e in rw h.0 (look_off ps k h.1)

pub nameless : (r : Record) (k : ℕ) → among k part_names ≡ false → span_of r k ≡ none
nameless r k e = look_off (parts_in r.parts) k e

pub cut_size : (d : List ℕ) (p : Span) → Inside d p → length (cut d p) ≡ size_of p
cut_size d p (inl e) = ap (λ (m : ℕ). length (take m (drop (place_of p) d))) e ∙ sym e
cut_size d p (inr h) = length-take-le (size_of p) (drop (place_of p) d) (omega (arith, length-drop (place_of p) d))

-- WHAT A READ TEXT'S RECORD SAYS

-- what is known of a text that is read
module _ (w : List ℕ) (q : Record) (j : Judged w Read q) where
  abbrev pub its : List Told
  its = telling w j.0

  pub its_order : Sorted w its
  its_order =
      let h : length w < 65536 = omega (arith, derives_short message w (reads_derives message 0 w j.0 j.1), message_longest) in
      sorted w its (reading_tells message w j.0 h j.1)

  pub its_kind : q.kind ≡ kind_of (letters_of w)
  its_kind = ap (λ (x : Record). x.kind) j.2

  its_span : (k : ℕ) → among k part_names ≡ true → span_of q k ≡ look k j.0
  its_span k e = ap (λ (x : Record). span_of x k) j.2 ∙ look_listed (λ m. look m j.0) part_names k e

  untold : (k : ℕ) → among k part_names ≡ false → find k its ≡ []
  untold k e =
      let o = kind_of (letters_of w) in
      absent_part k (order_of o) (order_plain o) w its
      (⊎_elim (λ h. absurd (false≢true (sym e ∙ covers_sound part_names (names (order_of o)) (order_named o) k (named (order_of o) k h)))) (λ h. h) (known (occurs k (order_of o))))
      its_order.order

  -- each part's bytes are what its reading tells
  pub its_bytes : (k : ℕ) → cut w (span_of q k) ≡ find k its
  its_bytes k =
      ⊎_elim
      (λ e. ap (cut w) (its_span k e) ∙ sym (find_telling k w j.0))
      (λ e. ap (cut w) (nameless q k e) ∙ sym (untold k e))
      (known (among k part_names))

  -- and it lies within the text
  pub its_within : (k : ℕ) → place_of (span_of q k) + size_of (span_of q k) ≤ length w
  its_within k =
      ⊎_elim
      (λ e. subst (λ (p : Span). place_of p + size_of p ≤ length w) (sym (its_span k e)) (part_within message w j.0 k j.1))
      (λ e. subst (λ (p : Span). place_of p + size_of p ≤ length w) (sym (nameless q k e)) (omega arith))
      (known (among k part_names))

  pub its_inside : (k : ℕ) → Inside w (span_of q k)
  its_inside k = inr (its_within k)

  pub its_size : (k : ℕ) → size_of (span_of q k) ≡ length (find k its)
  its_size k = sym (cut_size w (span_of q k) (its_inside k)) ∙ ap length (its_bytes k)
