-- `replying::reply` meets its contract.
use Rattle.hearing.specs.Hearing.{replying}
use Rattle.hearing.proofs.replying.reply.Goals as goal

pub returns : goal.returns
returns c =
    let a = c.args in
    replying a.h _ a.fresh a.n a.v _ a.text.now a.answers.now a.out.now _ _ c.note.ensures c.put-k.ensures c.heard.ensures
