-- those passed and those left are all
use Rattle.std.specs.Prelude.{◌≡◌, ◌+◌, ◌≤◌, drop}
use Rattle.reader.specs.Reading.{hyphens}
use Rattle.reader.proofs.few_hyphens.Given as goal

abbrev pub invariant-loop-b : goal.invariant-loop-b
invariant-loop-b l = (l.n ≤ l.b-index) × (l.n + hyphens (drop l.b-index l.s) ≡ hyphens l.s)
