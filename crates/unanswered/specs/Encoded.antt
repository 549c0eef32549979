-- Decoding after encoding gives the message, and encoding after decoding the bytes.
use Rattle.std.specs.Prelude.{◌≡◌, List, ◌++◌, ℕ, ◌+◌, ◌-◌, ◌*◌, ◌≤◌, length, take, replicate}
use Rattle.std.proofs.Common.{sym, ap, ◌∙◌, arith, length-append}
use Rattle.std.proofs.lemmas.List.{length-replicate}
use Rattle.std.proofs.Math.Seq.{take-append_seam}
use Rattle.scan.specs.Bounds.{derives_short}
use Rattle.types.specs.Messages.{message}
use Rattle.types.specs.Sound.{message_longest}
use Rattle.message.specs.declared.Verdict.TheVariants.{Read}
use Rattle.message.specs.declared.Record.{Record}
use Rattle.reader.specs.Reading.{Judged}
use Rattle.reader.specs.Reader.{derived_read}
use Rattle.places.specs.Bytes.{high, low, two_bytes}
use Rattle.unanswered.specs.Waiting.{Waiting, waiting_bytes, waiting_of, Proper}

-- THE MESSAGE FROM ITS BYTES
pub waiting_back : (m : Waiting) → waiting_of (waiting_bytes m) ≡ m
waiting_back m =
    let t = m.text in
    let e : take (high (length t) * 256 + low (length t)) (t ++ replicate (1275 - length t) 0) ≡ t = ap (λ (k : ℕ). take k (t ++ replicate (1275 - length t) 0)) (two_bytes (length t)) ∙ take-append_seam t (replicate (1275 - length t) 0) in
    λ i. record { number = two_bytes m.number i; text = e i }

-- and the bytes from their message
pub bytes_back : (b : List ℕ) (m : Waiting) → b ≡ waiting_bytes m → waiting_bytes (waiting_of b) ≡ b
bytes_back b m e = ap (λ (x : List ℕ). waiting_bytes (waiting_of x)) e ∙ ap waiting_bytes (waiting_back m) ∙ sym e

-- LENGTHS

pub bytes_long : (m : Waiting) → length m.text ≤ 1275 → length (waiting_bytes m) ≡ 1280
bytes_long m h = omega (arith, length-append m.text (replicate (1275 - length m.text) 0), length-replicate {A = ℕ} (1275 - length m.text) 0)

-- the longest text that is read has 1077 bytes
pub read_short : (s : List ℕ) (r : Record) → Judged s Read r → length s ≤ 1077
read_short s r j = omega (arith, derives_short message s (derived_read s r j), message_longest)

pub proper_short : {ours partners : List ℕ} (m : Waiting) → Proper ours partners m → length m.text ≤ 1275
proper_short m p = omega (arith, read_short m.text p.its p.read)
