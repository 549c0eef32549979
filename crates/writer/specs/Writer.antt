-- The laws of writing: a record has at most one text, which is laid out from its parts, and a text that was laid out and
-- reads back with parts of the same lengths is the record's.
use Rattle.std.specs.Prelude.{◌≡◌, refl, List, ℕ, ◌≤◌, length}
use Rattle.std.proofs.Common.{sym, ap, ◌∙◌, ⊎_elim, arith}
use Rattle.std.proofs.Math.Path.{subst}
use Rattle.scan.specs.Bools.{known}
use Rattle.scan.specs.Scanner.{among}
use Rattle.scan.specs.Tests.{names}
use Rattle.scan.specs.Parts.{covers_sound, reads_derives}
use Rattle.scan.specs.Bounds.{derives_short}
use Rattle.types.specs.Messages.{message}
use Rattle.types.specs.Sound.{message_longest}
use Rattle.types.specs.Picking.{letters_of}
use Rattle.message.specs.declared.Kind.{Kind}
use Rattle.message.specs.declared.Record.{Record}
use Rattle.message.specs.declared.Verdict.TheVariants.{Read}
use Rattle.message.specs.Record.{kind_of}
use Rattle.reader.specs.Reading.{cut, Judged}
use Rattle.reader.proofs.Judging.{one_record}
use Rattle.compose.specs.Layout.{Told, Tells, find, text_is, parts_are}
use Rattle.pen.specs.Listed.{span_of, Inside}
use Rattle.compose.specs.Composed.{order_of, sizes, bytes_in, composed}
use Rattle.compose.specs.Recorded.{part_names, order_told, order_plain, order_names, nameless, cut_size, its, its_order, its_kind, its_bytes, its_size}
use Rattle.writer.specs.Writing.{Content, Writes}

-- THE RECORD'S PARTS, LAID OUT

module _ (d : List ℕ) (r : Record) (w : List ℕ) (x : Writes d r w) where
  same_kind : kind_of (letters_of w) ≡ r.kind
  same_kind = sym (its_kind w x.its x.read) ∙ ap (λ (c : Content). c.kind) x.says

  same_bytes : (k : ℕ) → bytes_in d r k ≡ find k (its w x.its x.read)
  same_bytes k = sym (ap (λ (c : Content). c.bytes k) x.says) ∙ its_bytes w x.its x.read k

  same_size : (k : ℕ) → sizes r k ≡ length (find k (its w x.its x.read))
  same_size k = sym (cut_size d (span_of r k) (x.inside k)) ∙ ap length (same_bytes k)

  -- THE TEXT OF A RECORD IS COMPOSED OF ITS PARTS
  pub text_of : w ≡ composed d r
  unfolding composed
  text_of =
      let k = r.kind in
      let t : Tells (order_of k) w (its w x.its x.read) = subst (λ (o : Kind). Tells (order_of o) w (its w x.its x.read)) same_kind (its_order w x.its x.read).order in
      text_is (order_of k) (order_told k) (order_plain k) (sizes r) (bytes_in d r) w (its w x.its x.read) t (λ n h. same_size n) (λ n h. same_bytes n)

  pub text_short : length w ≤ 1077
  text_short = omega (arith, derives_short message w (reads_derives message 0 w x.read.0 x.read.1), message_longest)

-- what the writer holds against each other: a record that was read back, and the one that was to be written
pub record Alike (q r : Record) : Type 0 where
  pub kinds : q.kind ≡ r.kind
  pub lengths : (k : ℕ) → sizes q k ≡ sizes r k
  pub figures : q.figures ≡ r.figures

pub text_alike : (d : List ℕ) (r : Record) (w : List ℕ) → Writes d r w → (q : Record) → Judged w Read q → Alike q r
text_alike d r w x q j =
    let e : q ≡ x.its = one_record w q x.its j x.read in
    record {
      kinds = ap (λ (z : Record). z.kind) e ∙ ap (λ (c : Content). c.kind) x.says;
      lengths = λ k. ap (λ (z : Record). sizes z k) e ∙ its_size w x.its x.read k ∙ sym (same_size d r w x k);
      figures = ap (λ (z : Record). z.figures) e ∙ ap (λ (c : Content). c.figures) x.says;
    }

-- WHAT WAS COMPOSED AND READS BACK ALIKE IS THE TEXT
pub alike_text : (d : List ℕ) (r : Record) → ((k : ℕ) → Inside d (span_of r k)) → (q : Record) → Judged (composed d r) Read q → Alike q r → Writes d r (composed d r)
unfolding composed
alike_text d r i q j a =
    let w : List ℕ = composed d r in
    let cs : List Told = its w q j in
    let o = r.kind in
    let z : kind_of (letters_of w) ≡ o = sym (its_kind w q j) ∙ a.kinds in
    let t : Tells (order_of o) w cs = subst (λ (k : Kind). Tells (order_of k) w cs) z (its_order w q j).order in
    let m : (k : ℕ) → sizes r k ≡ length (find k cs) = λ k. sym (a.lengths k) ∙ its_size w q j k in
    let h = parts_are (order_of o) (order_told o) (order_plain o) (sizes r) (bytes_in d r) w cs t (λ k n. m k) (λ k n. cut_size d (span_of r k) (i k)) refl in
    let b : (k : ℕ) → cut w (span_of q k) ≡ cut d (span_of r k) = λ k.
    ⊎_elim
    (λ e. its_bytes w q j k ∙ sym (h k (covers_sound (names (order_of o)) part_names (order_names o) k e)))
    (λ e. ap (cut w) (nameless q k e) ∙ sym (ap (cut d) (nameless r k e)))
    (known (among k part_names)) in
    record {
      inside = i;
      its = q;
      read = j;
      says = λ s. record { kind = a.kinds s; bytes = λ k. b k s; figures = a.figures s };
    }
