-- WHAT WAS READ IS WRITTEN AS THE TEXT THAT IT WAS, through the record's bytes.
use Rattle.std.specs.Prelude.{◌≡◌, ◌⊎◌, List, ◌++◌, ℕ, ◌≤◌, length, drop}
use Rattle.std.proofs.Common.{ap, ◌∙◌, subst, inl, inr, arith}
use Rattle.message.specs.declared.Record.{Record}
use Rattle.message.specs.declared.Verdict.{Verdict}
use Rattle.message.specs.declared.Verdict.TheVariants.{Read, Refused}
use Rattle.reader.specs.Reading.{Judged, answer_of}
use Rattle.writer.specs.declared.Writing.{Writing}
use Rattle.writer.specs.Writing.{Wrote}
use Rattle.writer.specs.Writing as w
use Rattle.writer.specs.Written.{read_then_written}
use Rattle.packed.specs.Packed.{record_in}
use Rattle.packed.specs.Back.{packed_long}
use Rattle.packed.specs.Fits.{read_back}
use Rattle.host.specs.Calls.{packed_by, ReadInto, WroteFrom}
use Rattle.host.specs.Kept.{of_size}

module _ (text b b' out out' : List ℕ) (p q n l : ℕ) where
  pub read_then_write : ReadInto text b 0 p q b' → length text ≤ length out → WroteFrom text b' out n l out' → (n ≡ 0) × (l ≡ length text) × (out' ≡ text ++ drop (length text) out)
  read_then_write x h y = go (of_size b 246)
    where
      by : (v : Verdict) (r : Record) → Judged text v r → 0 ≡ (answer_of v).number → b' ≡ packed_by v r b → (n ≡ 0) × (l ≡ length text) × (out' ≡ text ++ drop (length text) out)
      by (Refused place before) r j e w = absurd (omega (arith, e))
      by Read r j e z =
          let f = y.sized (ap length z ∙ packed_long r) in
          let k : record_in b' ≡ r = ap record_in z ∙ read_back text r j in
          let s = read_then_written text r j out f.0 out' h (subst (λ (u : Record). Wrote text u out f.0 out') k f.1) in
          (f.2 ∙ ap (λ (v : Writing). (w.answer_of v).number) s.writings, f.3 ∙ ap (λ (v : Writing). (w.answer_of v).size) s.writings, s.buffers)

      go : (length b ≡ 246) ⊎ (length b ≡ 246 → ⊥) → (n ≡ 0) × (l ≡ length text) × (out' ≡ text ++ drop (length text) out)
      go (inl z) = let f = x.sized z in by f.0 f.1 f.2 f.3 f.6
      go (inr z) = absurd (omega (arith, (x.unsized z).0))
