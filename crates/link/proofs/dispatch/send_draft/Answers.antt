-- `dispatch::send_draft` meets its contract.
use Rattle.hearing.specs.Settles.{kept_read}
use Rattle.link.proofs.dispatch.send_draft.Goals as goal

pub send_text-requires : goal.send_text-requires
send_text-requires c =
    let h = c.requires in
    (kept_read c.args.w.now c.read-q.result.verdict c.read-q.result.record h.0 c.read-q.ensures, h.1, h.2, h.3)

pub returns : goal.returns
returns c = c.send_text.ensures
