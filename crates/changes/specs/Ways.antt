-- The ways to begin after field 16: which one is taken.
use Rattle.std.specs.Prelude.{◌≡◌, refl, ℕ, ◌+◌, ◌≤◌, List}
use Rattle.std.proofs.Math.Path.{ap}
use Rattle.std.proofs.Common.{◌∙◌, arith}
use Rattle.scan.specs.declared.Scan.{Scan}
use Rattle.scan.specs.Grammar.{G}
use Rattle.scan.specs.Scanner.{scan, among, occurs, span_by}
use Rattle.scan.specs.Bounds.{forth}
use Rattle.scan.specs.Picks.{Same, same_trans, behind, outrun, picked}
use Rattle.fields.specs.Fields.{◌─◌, in_three18, in_four18}
use Rattle.changes.specs.declared.FoundTail.{FoundTail}
use Rattle.changes.specs.Changes.{letters18, changes, in_changed, changed}
use Rattle.changes.specs.Found.{found_tail, found_tail_same}
use Rattle.changes.specs.Ascend.{named_tail}
use Rattle.changes.specs.Keys.{nothing, three, four, lettered, owning, good_changes, good_nothing, good_three, good_four, good_lettered, good_owning, three_four, three_nothing, three_changes, four_three, four_nothing, four_changes, changes_owning, nothing_lettered, nothing_changes}

-- where what a function returned ends
pub ends : (g : G) (s : List ℕ) (r : Scan) (q : FoundTail) → q ≡ found_tail g s r → q.end ≡ scan g s r
unfolding found_tail
ends g s r q e = ap (λ (x : FoundTail). x.end) e

-- three or four letters by their count
pub letters_three : (s : List ℕ) (r : Scan) → found_tail (letters18 3 ─ changes) s r ≡ found_tail three s r
unfolding found_tail letters18 in_three18 among occurs span_by
letters_three s r = refl

pub letters_four : (s : List ℕ) (r : Scan) → found_tail (letters18 4 ─ changes) s r ≡ found_tail four s r
unfolding found_tail letters18 in_four18 among occurs span_by
letters_four s r = refl

pub goes_on : (g : G) (s : List ℕ) (r : Scan) (q : FoundTail) → q ≡ found_tail g s r → r.next ≤ q.end.next
goes_on g s r q e = forth g s r q.end (ends g s r q e)

-- what a function returned, where its way is the one if it goes far enough
pub far : (g : G) (k : ℕ) (s : List ℕ) (r : Scan) → (r.next + k ≤ (scan g s r).next → found_tail g s r ≡ found_tail changed s r) → (q : FoundTail) → q ≡ found_tail g s r → r.next + k ≤ q.end.next → q ≡ found_tail changed s r
far g k s r way q e h = e ∙ way (omega (arith, h, ap (λ (x : Scan). x.next) (ends g s r q e)))

module _ (s : List ℕ) (r : Scan) where
  -- three letters and a slash
  pub by_three : r.next + 4 ≤ (scan three s r).next → found_tail three s r ≡ found_tail changed s r
  unfolding in_changed
  by_three h =
      let c : Same lettered three s r = picked 4 three four good_three good_four three_four (omega arith) s r h in
      let b : Same owning lettered s r = behind nothing lettered s r (omega (arith, ap (λ (q : Scan). q.next) c.0, outrun 4 three nothing good_three good_nothing three_nothing (omega arith) s r h)) in
      let d : Same owning three s r = same_trans owning lettered three s r b c in
      let a : Same in_changed owning s r = behind changes owning s r (omega (arith, ap (λ (q : Scan). q.next) d.0, outrun 4 three changes good_three good_changes three_changes (omega arith) s r h)) in
      found_tail_same in_changed three s r (same_trans in_changed owning three s r a d) ∙ named_tail s r

  -- four letters
  pub by_four : r.next + 4 ≤ (scan four s r).next → found_tail four s r ≡ found_tail changed s r
  unfolding in_changed
  by_four h =
      let c : Same lettered four s r = behind three four s r (omega (arith, outrun 4 four three good_four good_three four_three (omega arith) s r h)) in
      let b : Same owning lettered s r = behind nothing lettered s r (omega (arith, ap (λ (q : Scan). q.next) c.0, outrun 4 four nothing good_four good_nothing four_nothing (omega arith) s r h)) in
      let d : Same owning four s r = same_trans owning lettered four s r b c in
      let a : Same in_changed owning s r = behind changes owning s r (omega (arith, ap (λ (q : Scan). q.next) d.0, outrun 4 four changes good_four good_changes four_changes (omega arith) s r h)) in
      found_tail_same in_changed four s r (same_trans in_changed owning four s r a d) ∙ named_tail s r

  -- the two digits of a number
  pub by_number : r.next + 2 ≤ (scan changes s r).next → found_tail changes s r ≡ found_tail changed s r
  unfolding in_changed
  by_number h = found_tail_same in_changed changes s r (picked 2 changes owning good_changes good_owning changes_owning (omega arith) s r h) ∙ named_tail s r

  -- "0-"
  pub by_nothing : r.next + 2 ≤ (scan nothing s r).next → found_tail nothing s r ≡ found_tail changed s r
  unfolding in_changed
  by_nothing h =
      let b : Same owning nothing s r = picked 2 nothing lettered good_nothing good_lettered nothing_lettered (omega arith) s r h in
      let a : Same in_changed owning s r = behind changes owning s r (omega (arith, ap (λ (q : Scan). q.next) b.0, outrun 2 nothing changes good_nothing good_changes nothing_changes (omega arith) s r h)) in
      found_tail_same in_changed nothing s r (same_trans in_changed owning nothing s r a b) ∙ named_tail s r
