-- `lines::tell` meets its contract. Assumes nothing.
use mathlib.Core.Path.{◌≡◌, sym, ap, ◌∙◌}
use native.Mathlib.Omega.{arith}
use Rattle.reader.specs.Reader.{verdict}
use Rattle.message.specs.declared.Verdict.TheVariants.{Read, Refused}
use Rattle.lines.specs.Listing.{if_read}
use Rattle.splice.specs.Splicing.{then, same_bytes}
use Rattle.lines.proofs.Lines.{line_read, line_refused}
use Rattle.lines.proofs.tell.Goals as goal

pub returns-in-Read : goal.returns-in-Read
unfolding if_read
returns-in-Read c =
    let a = c.args in
    let e : verdict a.text.now ≡ Read = sym c.judge.ensures ∙ c.in-Read.is in
    let both = then c.put_number-number.ensures.spliced c.put_type-word.ensures.spliced (omega arith) in
    record {
      wrote = same_bytes (line_read a.k a.text.now e) (then both c.put-next.ensures (omega arith));
      room = omega arith;
      told = sym (ap if_read e);
    }

pub returns-in-Refused : goal.returns-in-Refused
unfolding if_read
returns-in-Refused c =
    let a = c.args in
    let e : verdict a.text.now ≡ Refused c.in-Refused.place c.in-Refused.hyphens = sym c.judge.ensures ∙ c.in-Refused.is in
    let both = then c.put_number-number.ensures.spliced c.put_refusal-word.ensures.spliced (omega arith) in
    record {
      wrote = same_bytes (line_refused a.k a.text.now c.in-Refused.place c.in-Refused.hyphens e) (then both c.put-next-in-Refused.ensures (omega arith));
      room = omega arith;
      told = sym (ap if_read e);
    }
