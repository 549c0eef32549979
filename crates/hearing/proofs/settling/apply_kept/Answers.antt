-- `hearing::settling::apply_kept` meets its contract.
use Rattle.reader.specs.Reader.{derived_read}
use Rattle.hearing.specs.Settles.{applied_kept}
use Rattle.hearing.proofs.settling.apply_kept.Goals as goal

pub returns : goal.returns
returns c =
    let a = c.args in
    applied_kept a.w.now a.sent.now _ c.kept_record-q.ensures c.follow.ensures

pub kept_record-q-requires : goal.kept_record-q-requires
kept_record-q-requires c = derived_read c.args.w.now c.requires.1.its c.requires.1.by
