-- `hearing::settling::kept_deed` meets its contract.
use Rattle.reader.specs.Reader.{derived_read}
use mathlib.Core.Path.{ap, ◌∙◌}
use Rattle.deeds.specs.Deeds.{deed_of}
use Rattle.rules.specs.Reads.{read_message}
use Rattle.hearing.proofs.settling.kept_deed.Goals as goal

pub returns : goal.returns
returns c = c.deed_of.ensures ∙ ap deed_of (read_message c.args.w.now _ c.kept_record-q.ensures)

pub kept_record-q-requires : goal.kept_record-q-requires
kept_record-q-requires c = derived_read c.args.w.now c.requires.its c.requires.by
