-- HOW A TEXT IS DERIVED, found by computing. A scan follows every alternative through the whole text, which antt computes for no FPL;
-- this costs little. What finds a derivation has no law: what it has found is looked through.
use Rattle.std.specs.Prelude.{◌≡◌, refl, ◌⊎◌, Bool, true, false, ◌&&◌, ◌||◌, List, [], ◌∷◌, ◌++◌, ℕ, zero, suc, ◌+◌, length, take, drop, leb, ltb}
use Rattle.std.proofs.Common.{sym, subst, inl, inr, leb-true}
use Rattle.std.proofs.Math.Option.{Option, none, some}
use Rattle.scan.specs.declared.Class.TheVariants.{Word, Byte}
use Rattle.scan.specs.Grammar.{G, eps, run, words, seq, alt, part, field, is_in, all, text, Part, placed, Reads}
use Rattle.scan.specs.Parts.{reads_derives}
use Rattle.types.specs.Messages.{message, message_rules}
use Rattle.message.specs.declared.Record.{Record}
use Rattle.message.specs.declared.Verdict.TheVariants.{Read}
use Rattle.message.specs.Record.{figure, kind_of, is_chg, level_kind_of, level_in, form_in, record_of, blank}
use Rattle.reader.specs.Reading.{Judged}
use Rattle.reader.specs.Reader.{verdict}
use Rattle.reader.proofs.Judging.{verdict_only}
use Rattle.places.specs.Bytes.{same, same_is}
use Rattle.deeds.specs.Message.{Message, message_of}
use Rattle.rules.specs.Reads.{message_in, read_message}
use Rattle.pair.specs.kinds.Tools.{true_false}
use Rattle.scan.specs.Bools.{and_yes}

-- THE TREE OF A DERIVATION: the texts of its leaves, and which alternative was taken
abbrev pub Tree : G → Type 0
Tree eps = Unit
Tree (run c lo hi) = List ℕ
Tree (words k) = List ℕ
Tree (seq a b) = Tree a × Tree b
Tree (alt a b) = Tree a ⊎ Tree b
Tree (part n g) = Tree g
Tree (field ns g) = Tree g

-- the text that it is of
unfoldable pub text_of : (g : G) → Tree g → List ℕ
text_of eps t = []
text_of (run c lo hi) t = t
text_of (words k) t = t
text_of (seq a b) t = text_of a t.0 ++ text_of b t.1
text_of (alt a b) (inl t) = text_of a t
text_of (alt a b) (inr t) = text_of b t
text_of (part n g) t = text_of g t
text_of (field ns g) t = text_of g t

-- its parts, where the text stands at `at`
unfoldable pub parts_of : (g : G) → Tree g → ℕ → List Part
parts_of eps t at = []
parts_of (run c lo hi) t at = []
parts_of (words k) t at = []
parts_of (seq a b) t at = parts_of a t.0 at ++ parts_of b t.1 (at + length (text_of a t.0))
parts_of (alt a b) (inl t) at = parts_of a t at
parts_of (alt a b) (inr t) at = parts_of b t at
parts_of (part n g) t at = placed n at (length (text_of g t)) ∷ []
parts_of (field ns g) t at = parts_of g t at

-- whether its leaves are such as they have to be
unfoldable pub right : (g : G) → Tree g → Bool
right eps t = true
right (run c lo hi) t = all c t && (leb lo (length t) && leb (length t) hi)
right (words k) t = text false t && leb (length t) k
right (seq a b) t = right a t.0 && right b t.1
right (alt a b) (inl t) = right a t
right (alt a b) (inr t) = right b t
right (part n g) t = right g t
right (field ns g) t = right g t

reads_so : (g : G) (t : Tree g) (at : ℕ) → right g t ≡ true → Reads g at (text_of g t) (parts_of g t at)
unfolding text_of parts_of right
reads_so eps t at e = (refl, refl)
reads_so (run c lo hi) t at e =
    let p = and_yes (all c t) (leb lo (length t) && leb (length t) hi) e in
    let q = and_yes (leb lo (length t)) (leb (length t) hi) p.1 in
    ((p.0, leb-true lo (length t) q.0, leb-true (length t) hi q.1), refl)
reads_so (words k) t at e = let p = and_yes (text false t) (leb (length t) k) e in ((p.0, leb-true (length t) k p.1), refl)
reads_so (seq a b) t at e =
    let p = and_yes (right a t.0) (right b t.1) e in
    (text_of a t.0, text_of b t.1, parts_of a t.0 at, parts_of b t.1 (at + length (text_of a t.0)), refl, refl, reads_so a t.0 at p.0, reads_so b t.1 (at + length (text_of a t.0)) p.1)
reads_so (alt a b) (inl t) at e = inl (reads_so a t at e)
reads_so (alt a b) (inr t) at e = inr (reads_so b t at e)
reads_so (part n g) t at e = (reads_derives g at (text_of g t) (parts_of g t at) (reads_so g t at e), refl)
reads_so (field ns g) t at e = reads_so g t at e

-- IT IS FOUND: the tree of the longest beginning that fits, and the rest

-- how many bytes are such before one is not, of k at most
unfoldable pub runs : (ℕ → Bool) → ℕ → List ℕ → ℕ
runs p zero s = 0
runs p (suc k) [] = 0
runs p (suc k) (x ∷ s) = elim (p x) [ true ↦ suc (runs p k s) | false ↦ 0 ]

-- the first n bytes, where these are enough
unfoldable pub cut_off : ℕ → ℕ → List ℕ → Option (List ℕ × List ℕ)
cut_off lo n s = elim (leb lo n) [ true ↦ some (take n s, drop n s) | false ↦ none ]

unfoldable pub longer_of : {A B : Type 0} → Option (A × List ℕ) → Option (B × List ℕ) → Option ((A ⊎ B) × List ℕ)
longer_of none none = none
longer_of none (some y) = some (inr y.0, y.1)
longer_of (some x) none = some (inl x.0, x.1)
longer_of (some x) (some y) = elim (ltb (length y.1) (length x.1)) [ true ↦ some (inr y.0, y.1) | false ↦ some (inl x.0, x.1) ]

unfoldable pub find : (g : G) → List ℕ → Option (Tree g × List ℕ)
find eps s = some (tt, s)
find (run c lo hi) s = cut_off lo (runs (is_in c) hi s) s
find (words k) s = cut_off 1 (runs (λ x. is_in Word x || is_in (Byte 32) x) k s) s
find (seq a b) s = elim (find a s) [ none ↦ none | some x ↦ elim (find b x.1) [ none ↦ none | some y ↦ some ((x.0, y.0), y.1) ] ]
find (alt a b) s = longer_of (find a s) (find b s)
find (part n g) s = find g s
find (field ns g) s = find g s

-- A TEXT IS READ where what is found is right, and all of the text

unfoldable pub found_right : List ℕ → Option (Tree message × List ℕ) → Bool
found_right w none = false
found_right w (some x) = right message x.0 && same (text_of message x.0) w

unfoldable pub found_record : List ℕ → Option (Tree message × List ℕ) → Record
found_record w none = blank
found_record w (some x) = record_of w (parts_of message x.0 0)

unfoldable pub is_read : List ℕ → Bool
is_read w = found_right w (find message w)

unfoldable pub record_in : List ℕ → Record
record_in w = found_record w (find message w)

pub read_judged : (w : List ℕ) → is_read w ≡ true → Judged w Read (record_in w)
unfolding is_read record_in found_right found_record
read_judged w e = go (find message w) e
  where
    go : (o : Option (Tree message × List ℕ)) → found_right w o ≡ true → Judged w Read (found_record w o)
    go none e = absurd (true_false e refl)
    go (some x) e =
        let p = and_yes (right message x.0) (same (text_of message x.0) w) e in
        let z : text_of message x.0 ≡ w = (same_is (text_of message x.0) w).yes p.1 in
        (parts_of message x.0 0, subst (λ (s : List ℕ). Reads message 0 s (parts_of message x.0 0)) z (reads_so message x.0 0 p.0), refl)

-- the message that it is
unfoldable pub told : List ℕ → Message
told w = message_of w (record_in w)

pub verdict_read : (w : List ℕ) → is_read w ≡ true → verdict w ≡ Read
verdict_read w e = sym (verdict_only w Read (record_in w) (read_judged w e))

pub message_told : (w : List ℕ) → is_read w ≡ true → message_in w ≡ told w
unfolding told
message_told w e = sym (read_message w (record_in w) (read_judged w e))

-- what has to be seen through for a text to be read by computing: `unfolding reading` opens all of it
unfoldable pub reading : Unit {0}
unfolding all text kind_of figure is_chg level_kind_of level_in form_in same text_of parts_of right runs cut_off longer_of find found_right found_record is_read record_in told message_rules
reading = tt
