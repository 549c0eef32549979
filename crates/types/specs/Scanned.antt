-- What the scan of each message finds.
use Rattle.std.specs.Prelude.{◌≡◌, Bool, cond, not, List, ℕ}
use Rattle.std.proofs.Math.Path.{refl, ap}
use Rattle.std.proofs.Common.{sym, ◌∙◌}
use Rattle.std.proofs.Math.Bool.{true, false}
use Rattle.std.proofs.lemmas.Bool.{not-true, not-false}
use Rattle.scan.specs.declared.Scan.{Scan}
use Rattle.scan.specs.Grammar.{Span, G, none}
use Rattle.scan.specs.Scanner.{scan, from, scan_at, among, occurs, span_by, spot}
use Rattle.scan.specs.Picks.{Begins, it, begins_stays}
use Rattle.fields.specs.Names as n
use Rattle.fields.specs.Fields.{◌─◌, g07, g08, g09, g10}
use Rattle.fields.specs.declared.Found.{Found}
use Rattle.changes.specs.declared.Plan.{Plan}
use Rattle.changes.specs.Found.{plan_of, amended_plan, found_tail}
use Rattle.types.specs.Messages.{fpl, cpl, est, chg, cnl, rti, rta, rla, lam, lrm}
use Rattle.types.specs.declared.Parts.{Parts}
use Rattle.types.specs.declared.Heading.{Heading}

-- where every part stands, f saying where the part of a name does
abbrev pub parts_of : (ℕ → Span) → Parts
parts_of f = record {
  number = record { sender = f n.sender; receiver = f n.receiver; digits = f n.number };
  reference = record { sender = f n.reference_sender; receiver = f n.reference_receiver; digits = f n.reference_number };
  own = plan_of f;
  estimate = record { point = f n.point; over = f n.over; crossing = f n.crossing; second = f n.second; sense = f n.sense };
  changes = amended_plan f;
  sector = f n.sector;
  track = f n.track;
  reason = f n.reason;
}

-- where a text ends, and the parts of its message
abbrev pub Scanned : Type 0
Scanned = Found Parts

unfoldable pub opened_by : G → List ℕ → Found Heading
opened_by g s = record {
  end = scan_at g s 0;
  parts = record {
    number = record { sender = spot n.sender g s (from 0); receiver = spot n.receiver g s (from 0); digits = spot n.number g s (from 0) };
    reference = record { sender = spot n.reference_sender g s (from 0); receiver = spot n.reference_receiver g s (from 0); digits = spot n.reference_number g s (from 0) };
  };
}

-- fields 07 to 10
unfoldable pub front_of : List ℕ → Scan → Found Plan
front_of s r = record { end = scan (g07 0 ─ g08 0 ─ g09 0 ─ g10 0) s r; parts = plan_of (λ k. spot k (g07 0 ─ g08 0 ─ g09 0 ─ g10 0) s r) }

unfoldable pub found_by : G → List ℕ → Scanned
found_by g s = record { end = scan_at g s 0; parts = parts_of (λ k. spot k g s (from 0)) }

-- a text that stops at e has no parts
abbrev pub stopped_at : Scan → Scanned
stopped_at e = record { end = e; parts = parts_of (λ _. none) }

abbrev pub told : Scanned → Scanned
told q = cond q.end.ok q (stopped_at q.end)

-- WHAT THE SCAN OF A MESSAGE SAYS: where it ends, and, where it is whole, where the parts stand; else none is there
unfoldable pub scanned_by : G → List ℕ → Scanned
scanned_by g s = told (found_by g s)

module _ (g : G) (s : List ℕ) where
  pub ends : {q : Scanned} → q ≡ scanned_by g s → q.end ≡ scan_at g s 0
  unfolding scanned_by found_by
  ends e = ap (λ (x : Scanned). x.end) e ∙ go (scan_at g s 0).ok
    where
      go : (b : Bool) → (cond b (found_by g s) (stopped_at (scan_at g s 0))).end ≡ scan_at g s 0
      go true = refl
      go false = refl

  told_whole : (scan_at g s 0).ok ≡ true → found_by g s ≡ scanned_by g s
  unfolding scanned_by found_by
  told_whole o = rw o

  -- where it is whole, it is what was found
  pub found_all : {q : Scanned} → q ≡ scanned_by g s → q.end.ok ≡ true → q ≡ found_by g s
  found_all e o = e ∙ sym (told_whole (ap (λ (x : Scan). x.ok) (sym (ends e)) ∙ o))

  pub tells : (e : Scan) {q : Scanned} → e ≡ scan_at g s 0 → not e.ok ≡ false → q ≡ found_by g s → q ≡ scanned_by g s
  tells e p n w = w ∙ told_whole (ap (λ (x : Scan). x.ok) (sym p) ∙ not-false e.ok n)

-- where the beginning of a message stops, the message does
pub stops : {h g : G} → Begins h g → (s : List ℕ) (e : Scan) {q : Scanned} → e ≡ scan_at h s 0 → not e.ok ≡ true → q ≡ stopped_at e → q ≡ scanned_by g s
unfolding scanned_by found_by
stops {h} {g} b s e p n w =
    let o = not-true e.ok n in
    let x : e ≡ scan_at g s 0 = p ∙ sym (begins_stays b s (from 0) (ap (λ (y : Scan). y.ok) (sym p) ∙ o)) in
    w ∙ ap stopped_at x ∙ rw (ap (λ (y : Scan). y.ok) (sym x) ∙ o)

pub told_stopped : (e : Scan) → stopped_at e ≡ told (stopped_at e)
told_stopped e = go e.ok
  where
    go : (b : Bool) → stopped_at e ≡ cond b (stopped_at e) (stopped_at e)
    go true = refl
    go false = refl

-- the same at the end of a message
pub stops_last : (g : G) (s : List ℕ) (e : Scan) {q : Scanned} → e ≡ scan_at g s 0 → not e.ok ≡ true → q ≡ stopped_at e → q ≡ scanned_by g s
stops_last g s e p n w = stops it s e p n w

-- how a message ends
pub ruleset endings = (tells, stops_last)

-- `unfolding scanned_rules` opens where the parts of every message stand, down to its fields
unfoldable pub scanned_rules : Unit {0}
unfolding fpl cpl est chg cnl rti rta rla lam lrm opened_by front_of found_by found_tail among occurs span_by
scanned_rules = tt
