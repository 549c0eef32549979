-- `list::tell_whole` meets its contract. Assumes nothing.
use Rattle.list.proofs.Progressing.{tells_kept}
use Rattle.list.proofs.tell_whole.Goals as goal

pub returns : goal.returns
returns c = tells_kept c.args.k _ _ c.hold-n.ensures.bytes c.tell-2.ensures
