-- `writer::reads_back` meets its contract.
use mathlib.Core.Path.{subst}
use Rattle.message.specs.declared.Verdict.{Verdict}
use Rattle.reader.specs.Reading.{Judged}
use Rattle.writer.specs.Comparing.{back_read, back_refused}
use Rattle.writer.proofs.reads_back.Goals as goal

pub returns-in-Read : goal.returns-in-Read
returns-in-Read c =
    let a = c.args in
    let q = c.read-q.result.record in
    back_read a.t.now a.r q _ (subst (λ (v : Verdict). Judged a.t.now v q) c.in-Read.is c.read-q.ensures) c.alike.ensures

pub returns-in-Refused : goal.returns-in-Refused
returns-in-Refused c =
    let a = c.args in
    let q = c.read-q.result.record in
    back_refused a.t.now a.r q _ _ (subst (λ (v : Verdict). Judged a.t.now v q) c.in-Refused.is c.read-q.ensures)
