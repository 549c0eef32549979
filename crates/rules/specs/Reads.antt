-- The record of a text that is read, and the message that it is, as functions.
use Rattle.std.specs.Prelude.{◌≡◌, refl, List, ℕ, take}
use Rattle.std.proofs.Common.{ap, ⊎_elim}
use Rattle.scan.specs.Bools.{known}
use Rattle.scan.specs.Scanner.{from, scan_at, spot}
use Rattle.types.specs.Messages.{message}
use Rattle.message.specs.declared.Record.{Record}
use Rattle.message.specs.declared.Verdict.TheVariants.{Read}
use Rattle.message.specs.Record.{record_by, blank}
use Rattle.reader.specs.Reading.{hyphens, Judged}
use Rattle.reader.specs.Reader.{refused_judged, derived_read}
use Rattle.reader.proofs.Judging.{read_judged, one_record}
use Rattle.deeds.specs.Message.{Message, message_of}
use Rattle.scan.specs.Theory.{passed}

-- as the scan finds it; that it is the record which document 01 gives is the law below
unfoldable pub read_record : List ℕ → Record
read_record w = record_by w (λ k. spot k message w (from 0))

-- the message that a text is
abbrev pub message_in : List ℕ → Message
message_in w = message_of w (read_record w)

-- the record of a text that is read is this one
pub read_record_lem : (w : List ℕ) (r : Record) → Judged w Read r → r ≡ read_record w
unfolding read_record
read_record_lem w r j = ⊎_elim (λ e. one_record w r (record_by w (λ k. spot k message w (from 0))) j (read_judged w (scan_at message w 0) _ refl e refl)) (λ e. absurd ((refused_judged w (scan_at message w 0) (hyphens (take (scan_at message w 0).next w)) blank refl e refl refl).0.never (derived_read w r j))) (known (passed w (scan_at message w 0)))

pub read_message : (w : List ℕ) (r : Record) → Judged w Read r → message_of w r ≡ message_in w
read_message w r j = ap (message_of w) (read_record_lem w r j)
