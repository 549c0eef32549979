use Rattle.std.proofs.Common.{arith, ◌≡◌, ◌+◌, ◌-◌}
use Rattle.scan.specs.Grammar.{size_of}
use Rattle.reader.proofs.part_of.Goals as goal

pub returns : goal.returns
returns c =
    let e : c.place-at.result + c.size.result - c.place-at.result ≡ size_of c.args.p = omega (arith, c.size.ensures.0) in
    rw (e, c.place-at.ensures.0)
