-- What the scan of fields 22 finds.
use Rattle.std.specs.Prelude.{◌≡◌, refl, ◌⊎◌, Bool, true, false, cond, List, [], ◌∷◌, ℕ, ◌+◌, ◌≤◌, ◌<◌}
use Rattle.std.proofs.Common.{sym, ap, inl, inr, arith}
use Rattle.scan.specs.declared.Scan.{Scan}
use Rattle.scan.specs.Grammar.{Span, G, eps, alt, none}
use Rattle.scan.specs.Texts.{◌⨾◌, byte, opt}
use Rattle.scan.specs.Scanner.{scan, longer, leads, occurs, span_by, spot}
use Rattle.scan.specs.Bools.{known}
use Rattle.scan.specs.declared.Class.TheVariants.{Byte}
use Rattle.scan.specs.Theory.{skip}
use Rattle.scan.specs.Bounds.{scan_forth, spot_stays}
use Rattle.scan.specs.Picks.{Same, behind, unbeaten, it, in_seq, begins_stays, one_passed, one_missed}
use Rattle.fields.specs.Names as n
use Rattle.changes.specs.declared.Plan.{Plan}
use Rattle.changes.specs.declared.Found22.{Found22}
use Rattle.changes.specs.declared.FoundTail.{FoundTail}

-- the parts of fields 07 to 18, each where f has it
abbrev pub plan_of : (ℕ → Span) → Plan
plan_of f = record {
  aircraft = f n.aircraft;
  code = f n.code;
  rules = f n.rules;
  flight = f n.flight;
  count = f n.count;
  model = f n.model;
  wake = f n.wake;
  equipment = f n.equipment;
  surveillance = f n.surveillance;
  departure = f n.departure;
  time = f n.time;
  speed = f n.speed;
  level = f n.level;
  route = f n.route;
  destination = f n.destination;
  elapsed = f n.elapsed;
  alternate = f n.alternate;
  alternate2 = f n.alternate2;
  indicator = f n.indicator;
  other = f n.other;
}

-- and in their order
abbrev pub plan_spans : Plan → List Span
plan_spans p =
    p.aircraft ∷ p.code ∷ p.rules ∷ p.flight ∷ p.count ∷ p.model ∷ p.wake ∷ p.equipment ∷ p.surveillance ∷ p.departure
    ∷ p.time ∷ p.speed ∷ p.level ∷ p.route ∷ p.destination ∷ p.elapsed ∷ p.alternate ∷ p.alternate2 ∷ p.indicator ∷ p.other ∷ []

abbrev pub no_plan : Plan
no_plan = plan_of (λ _. none)

abbrev pub amended_plan : (ℕ → Span) → Plan
amended_plan f = plan_of (λ k. f (n.amended + k))

unfoldable pub found22 : G → List ℕ → Scan → Found22
found22 g s r = record { end = scan g s r; plan = amended_plan (λ k. spot k g s r) }

-- from one scan, two grammars that find the same
pub found22_same : (a b : G) (s : List ℕ) (r : Scan) → Same a b s r → found22 b s r ≡ found22 a s r
unfolding found22
found22_same a b s r p = sym (λ i. record { end = p.0 i; plan = plan_of (λ k. p.1 (n.amended + k) i) })

-- what a scan that may end in these ways finds from r is what g finds there
abbrev pub Finds : (Scan → Found22 → Type 0) → G → List ℕ → Scan → Type 0
Finds post g s r = (t : Found22) → post r t → t ≡ found22 g s r

abbrev pub nothing22 : Scan → Found22
nothing22 r = record { end = r; plan = no_plan }

-- a number is there up to a and no further: what the later ones find, unless they end before a
abbrev pub Past : Scan → Found22 → Found22 → Type 0
Past a later q = (a.next ≤ later.end.next → q ≡ later) × (later.end.next < a.next → q ≡ nothing22 a)

-- where the scan before is not whole, nothing is found
pub found22_stays : (g : G) (s : List ℕ) (r : Scan) → r.ok ≡ false → nothing22 r ≡ found22 g s r
unfolding found22
found22_stays g s r e = sym (λ i. record { end = skip g s r e i; plan = plan_of (λ k. spot_stays (n.amended + k) g s r e i) })

-- a hyphen and what follows it
pub opt_on : (g : G) (s : List ℕ) (r : Scan) → (scan (byte 45) s r).ok ≡ true → found22 g s (scan (byte 45) s r) ≡ found22 (opt (byte 45 ⨾ g)) s r
unfolding found22 occurs span_by
opt_on g s r o = found22_same (opt (byte 45 ⨾ g)) (byte 45 ⨾ g) s r (behind eps (byte 45 ⨾ g) s r (omega (arith, (one_passed (Byte 45) s r o).1, scan_forth g s (scan (byte 45) s r))))

-- or nothing
pub opt_off : (g : G) (s : List ℕ) (r : Scan) → (scan (byte 45) s r).ok ≡ false → nothing22 r ≡ found22 (opt (byte 45 ⨾ g)) s r
unfolding found22 span_by
opt_off g s r e = go (known r.ok)
  where
    go : (r.ok ≡ true) ⊎ (r.ok ≡ false) → nothing22 r ≡ found22 (opt (byte 45 ⨾ g)) s r
    go (inr o) = found22_stays (opt (byte 45 ⨾ g)) s r o
    go (inl o) = found22_same (opt (byte 45 ⨾ g)) eps s r (unbeaten eps (byte 45 ⨾ g) s r o (omega (arith, one_missed (Byte 45) s r e, ap (λ (x : Scan). x.next) (begins_stays {h = byte 45} {g = byte 45 ⨾ g} (in_seq it) s r e))))

plan_cond : (b : Bool) (f g : ℕ → Span) → cond b (plan_of f) (plan_of g) ≡ plan_of (λ k. cond b (f k) (g k))
plan_cond true f g = refl
plan_cond false f g = refl

-- the same with the message's own field 18
unfoldable pub found_tail : G → List ℕ → Scan → FoundTail
found_tail g s r = record { end = scan g s r; indicator = spot n.indicator g s r; other = spot n.other g s r; plan = amended_plan (λ k. spot k g s r) }

abbrev pub either_found_tail : FoundTail → FoundTail → FoundTail
either_found_tail a b = record {
  end = longer a.end b.end;
  indicator = cond (leads a.end b.end) a.indicator b.indicator;
  other = cond (leads a.end b.end) a.other b.other;
  plan = cond (leads a.end b.end) a.plan b.plan;
}

pub found_tail_alt : (a b : G) (s : List ℕ) (r : Scan) → either_found_tail (found_tail a s r) (found_tail b s r) ≡ found_tail (alt a b) s r
unfolding found_tail span_by
found_tail_alt a b s r = λ i. record {
  end = scan (alt a b) s r;
  indicator = spot n.indicator (alt a b) s r;
  other = spot n.other (alt a b) s r;
  plan = plan_cond (leads (scan a s r) (scan b s r)) (λ k. spot (n.amended + k) a s r) (λ k. spot (n.amended + k) b s r) i;
}

pub found_tail_same : (a b : G) (s : List ℕ) (r : Scan) → Same a b s r → found_tail b s r ≡ found_tail a s r
unfolding found_tail
found_tail_same a b s r p = sym (λ i. record { end = p.0 i; indicator = p.1 n.indicator i; other = p.1 n.other i; plan = plan_of (λ k. p.1 (n.amended + k) i) })
