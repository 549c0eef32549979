-- `unanswered::is_part` meets its contract.
use mathlib.Core.Path.{◌≡◌, ap, ◌∙◌}
use Prim.Native.Nat.{ℕ, ◌+◌, ◌-◌}
use native.Mathlib.Omega.{arith}
use lib.ListN.{take, drop}
use Rattle.scan.specs.Grammar.{place_of, size_of}
use Rattle.scan.specs.Bools.{decides_by}
use Rattle.places.specs.Bytes.{same, same_is}
use Rattle.reader.specs.Reading.{cut}
use Rattle.unanswered.proofs.is_part.Goals as goal

pub returns : goal.returns
returns c =
    let a = c.args in
    let e : place_of a.p + size_of a.p - place_of a.p ≡ size_of a.p = omega arith in
    decides_by (c.same.ensures ∙ ap (λ (k : ℕ). same (take k (drop (place_of a.p) a.s.now)) a.name.now) e) (same_is (cut a.s.now a.p) a.name.now)
