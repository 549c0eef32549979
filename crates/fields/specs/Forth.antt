-- No scan goes back: what a scan needs of the one before, piece by piece, as the search for proofs uses it.
use Rattle.std.specs.Prelude.{List, ℕ, ◌≤◌}
use Rattle.scan.specs.declared.Scan.{Scan}
use Rattle.scan.specs.declared.Class.{Class}
use Rattle.scan.specs.Grammar.{run, words}
use Rattle.scan.specs.Scanner.{run_scan, words_scan}
use Rattle.scan.specs.Bounds.{scan_forth}

pub run_forth : (c : Class) (lo hi : ℕ) (s : List ℕ) (r : Scan) → r.next ≤ (run_scan c lo hi s r).next
run_forth c lo hi s r = scan_forth (run c lo hi) s r

pub words_forth : (k : ℕ) (s : List ℕ) (r : Scan) → r.next ≤ (words_scan k s r).next
words_forth k s r = scan_forth (words k) s r

pub ruleset goes_forth = (run_forth, words_forth, scan_forth)
