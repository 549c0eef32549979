-- `response::lay_answer` meets its contract.
use native.Mathlib.Omega.{arith}
use Rattle.excerpt.proofs.Fitting.{fits}
use Rattle.deeds.specs.Message.{message_of}
use Rattle.response.specs.Answering.{answer_text}
use Rattle.response.specs.Blocks.{lam_text, rla_text, lrm_text, answer_short, numbers_inside, rla_inside}
use Rattle.response.proofs.lay_answer.Goals as goal

pub returns-then-v-eq1 : goal.returns-then-v-eq1
returns-then-v-eq1 c =
    let w = c.args.w.now in
    let r = c.args.r in
    let v = c.args.v in
    let h = c.requires in
    fits c.lay_lam.result (answer_text (message_of w r) v) (lam_text w r v c.if-v-eq1.true) (omega (arith, answer_short w r h.0 v, h.1)) (numbers_inside w r h.0) c.lay_lam.ensures c.unwrap_or.ensures

pub returns-then-v-eq2 : goal.returns-then-v-eq2
returns-then-v-eq2 c =
    let w = c.args.w.now in
    let r = c.args.r in
    let v = c.args.v in
    let h = c.requires in
    fits c.lay_rla.result (answer_text (message_of w r) v) (rla_text w r v h.0 c.if-v-eq1.false c.if-v-eq2.true) (omega (arith, answer_short w r h.0 v, h.1)) (rla_inside w r h.0) c.lay_rla.ensures c.unwrap_or-then-v-eq2.ensures

pub returns : goal.returns
returns c =
    let w = c.args.w.now in
    let r = c.args.r in
    let v = c.args.v in
    let h = c.requires in
    fits c.lay_lrm.result (answer_text (message_of w r) v) (lrm_text w r v c.if-v-eq1.false c.if-v-eq2.false) (omega (arith, answer_short w r h.0 v, h.1)) (numbers_inside w r h.0) c.lay_lrm.ensures c.unwrap_or-2.ensures
