-- `hearing::kept_record` meets its contract.
use mathlib.Core.Path.{subst}
use Rattle.message.specs.declared.Verdict.{Verdict}
use Rattle.reader.specs.Reading.{Judged}
use Rattle.reader.specs.Reader.{read_derived}
use Rattle.hearing.proofs.kept_record.Goals as goal

pub returns : goal.returns
returns c =
    let q = c.read-q.result in
    subst (λ (v : Verdict). Judged c.args.t.now v q.record) (read_derived c.args.t.now q.verdict q.record c.read-q.ensures c.requires) c.read-q.ensures
