-- `handing::hand_over` meets its contract.
use borrow.Author.Rules.{rules}
use Rattle.deeds.specs.Message.{message_of}
use Rattle.sending.specs.Sent.{text_short, handed}
use Rattle.sending.proofs.handing.hand_over.Goals as goal

pub store-requires : goal.store-requires
store-requires c =
    let h = c.requires in
    (h.4.whole, h.0, search rules, text_short c.args.w.now c.args.r h.1)

pub returns : goal.returns
returns c =
    let a = c.args in
    let h = c.requires in
    handed a.i _ (message_of a.w.now a.r) a.h _ a.w.now a.received.now a.unanswered.now a.out.now _ _ _ a.r h.1 h.4 h.0 c.accept.ensures c.store.ensures c.put-n.ensures c.give-g.ensures
