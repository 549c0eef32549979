-- `list::hold` meets its contract. Assumes nothing.
use Rattle.std.proofs.Common.{arith}
use Rattle.list.proofs.Progressing.{holds_more}
use Rattle.list.proofs.hold.Goals as goal

pub returns : goal.returns
returns c = let a = c.args in holds_more a.held c.min-n.result a.line.now a.part.now c.requires (omega arith) c.min-n.ensures c.put.ensures
