-- One field 22 and what may follow it.
use Rattle.std.specs.Prelude.{◌≡◌, refl, ◌⊎◌, true, cond, List, [], ◌∷◌, ℕ, ◌+◌, ◌≤◌, ◌<◌, length, eqb, ltb}
use Rattle.std.proofs.Math.Path.{sym, ap}
use Rattle.std.proofs.Common.{◌∙◌, inl, inr, arith, ltb-true, ltb-false}
use Rattle.std.proofs.Math.Bool.{false}
use Rattle.scan.specs.Bools.{known}
use Rattle.scan.specs.declared.Scan.{Scan}
use Rattle.scan.specs.Grammar.{Span, G, alt, none}
use Rattle.scan.specs.Texts.{◌⨾◌, lit}
use Rattle.scan.specs.Scanner.{scan, among, occurs, span_by, spot}
use Rattle.scan.specs.Tests.{good}
use Rattle.scan.specs.Theory.{skip, ok_before}
use Rattle.scan.specs.Bounds.{spot_stays}
use Rattle.scan.specs.Picks.{sunder, it, in_seq, ahead, chosen, given_up, lit_passed, so}
use Rattle.fields.specs.Names as n
use Rattle.fields.specs.declared.Found07.{Found07}
use Rattle.fields.specs.declared.Found08.{Found08}
use Rattle.fields.specs.declared.Found09.{Found09}
use Rattle.fields.specs.declared.Found10.{Found10}
use Rattle.fields.specs.declared.Found13.{Found13}
use Rattle.fields.specs.declared.Found15.{Found15}
use Rattle.fields.specs.declared.Found16.{Found16}
use Rattle.fields.specs.Fields.{◌─◌, nothing18, three18, four18, g07, g08, g09, g10, g13, g15, g16}
use Rattle.fields.specs.Found.{found07, found08, found09, found10, found13, found15, found16, same07}
use Rattle.changes.specs.declared.Plan.{Plan}
use Rattle.changes.specs.declared.Found22.{Found22}
use Rattle.changes.specs.declared.FoundTail.{FoundTail}
use Rattle.changes.specs.Changes.{in_changes, changes, in_changed, changed}
use Rattle.changes.specs.Found.{plan_of, no_plan, found22, nothing22, Past, found22_same, found_tail, either_found_tail, found_tail_alt}

-- the part k of a plan
abbrev part_of : ℕ → Plan → Span
part_of k p =
    cond (eqb k n.aircraft) p.aircraft
    (cond (eqb k n.code) p.code
    (cond (eqb k n.rules) p.rules
    (cond (eqb k n.flight) p.flight
    (cond (eqb k n.count) p.count
    (cond (eqb k n.model) p.model
    (cond (eqb k n.wake) p.wake
    (cond (eqb k n.equipment) p.equipment
    (cond (eqb k n.surveillance) p.surveillance
    (cond (eqb k n.departure) p.departure
    (cond (eqb k n.time) p.time
    (cond (eqb k n.speed) p.speed
    (cond (eqb k n.level) p.level
    (cond (eqb k n.route) p.route
    (cond (eqb k n.destination) p.destination
    (cond (eqb k n.elapsed) p.elapsed
    (cond (eqb k n.alternate) p.alternate
    (cond (eqb k n.alternate2) p.alternate2
    (cond (eqb k n.indicator) p.indicator
    (cond (eqb k n.other) p.other none)))))))))))))))))))

-- a plan with another part k
abbrev put : ℕ → Span → Plan → Plan
put k x p = plan_of (λ j. cond (eqb j k) x (part_of j p))

-- a field's parts beside what follows it
abbrev pub with07 : Found07 → Found22 → Found22
with07 f t = record { end = t.end; plan = put n.code f.code (put n.aircraft f.aircraft t.plan) }

abbrev pub with08 : Found08 → Found22 → Found22
with08 f t = record { end = t.end; plan = put n.flight f.flight (put n.rules f.rules t.plan) }

abbrev pub with09 : Found09 → Found22 → Found22
with09 f t = record { end = t.end; plan = put n.wake f.wake (put n.model f.model (put n.count f.count t.plan)) }

abbrev pub with10 : Found10 → Found22 → Found22
with10 f t = record { end = t.end; plan = put n.surveillance f.surveillance (put n.equipment f.equipment t.plan) }

abbrev pub with13 : Found13 → Found22 → Found22
with13 f t = record { end = t.end; plan = put n.time f.time (put n.departure f.departure t.plan) }

abbrev pub with15 : Found15 → Found22 → Found22
with15 f t = record { end = t.end; plan = put n.route f.route (put n.level f.level (put n.speed f.speed t.plan)) }

abbrev pub with16 : Found16 → Found22 → Found22
with16 f t = record { end = t.end; plan = put n.alternate2 f.alternate2 (put n.alternate f.alternate (put n.elapsed f.elapsed (put n.destination f.destination t.plan))) }

-- what the parts of g, found after its key, add to what follows
abbrev pub Adds : List ℕ → G → List ℕ → Scan → (Found22 → Found22) → Type 0
Adds key g s r f = (t : G) → f (found22 t s (scan g s (scan (lit key) s r))) ≡ found22 (lit key ⨾ g ⨾ t) s r

-- a field and what follows it
pub ascend : (key : List ℕ) (g t : G) (s : List ℕ) (r : Scan) (f : Found22 → Found22) → Adds key g s r f → (e : Scan) (u : Found22) → e ≡ scan g s (scan (lit key) s r) → u ≡ found22 t s e → f u ≡ found22 (lit key ⨾ g ⨾ t) s r
ascend key g t s r f adds e u pe pu = rw (pu, pe) (adds t)

lit_names : (n : ℕ) (key : List ℕ) → occurs n (lit key) ≡ false
unfolding occurs
lit_names n [] = refl
lit_names n (b ∷ key) = lit_names n key

-- A NUMBER, OR A LATER ONE: the law of every number but the last
module _ (key : List ℕ) (x next : G) (s : List ℕ) (r a : Scan) (pa : a ≡ scan (lit key) s r) where
  -- the number is there, so no other can be
  pub number_there : good (lit key ⨾ x) ≡ true → good next ≡ true → sunder 2 (lit key ⨾ x) next ≡ true → length key ≡ 3 → a.ok ≡ true → found22 (lit key ⨾ x) s r ≡ found22 (alt (lit key ⨾ x) next) s r
  number_there ga gb e l o =
      let p = so a (scan (lit key) s r) true pa o in
      let b = ok_before (lit key) s r (scan (lit key) s r) refl p in
      found22_same (alt (lit key ⨾ x) next) (lit key ⨾ x) s r (chosen 2 (lit key) (lit key ⨾ x) next (in_seq it) ga gb e (omega arith) s r (omega (arith, lit_passed key s r p b, l)))

  -- it is not, and a later one has gone as far
  number_past : a.ok ≡ false → (o : Found22) → o ≡ found22 next s r → a.next ≤ o.end.next → o ≡ found22 (alt (lit key ⨾ x) next) s r
  unfolding found22
  number_past e o po h =
      po ∙ found22_same (alt (lit key ⨾ x) next) next s r (given_up (lit key) (lit key ⨾ x) next (in_seq it) s r (so a (scan (lit key) s r) false pa e) (omega (arith, ap (λ (q : Scan). q.next) pa, ap (λ (q : Found22). q.end.next) po)))

  -- it is not, and no later one has
  number_stop : a.ok ≡ false → (o q : Found22) → o ≡ found22 next s r → o.end.next < a.next → q ≡ nothing22 a → q ≡ found22 (alt (lit key ⨾ x) next) s r
  unfolding found22 span_by
  number_stop e o q po h pq =
      let k : Scan = scan (lit key) s r in
      let f = so a k false pa e in
      let z = skip x s k f in
      let none_there : (m : ℕ) → spot m (lit key ⨾ x) s r ≡ none = λ m. rw (lit_names m key) (spot_stays m x s k f) in
      pq ∙ ap nothing22 pa ∙ sym (λ i. record { end = z i; plan = plan_of (λ m. none_there (n.amended + m) i) })
      ∙ found22_same (alt (lit key ⨾ x) next) (lit key ⨾ x) s r (ahead (lit key ⨾ x) next s r (omega (arith, ap (λ (v : Scan). v.next) pa, ap (λ (v : Scan). v.next) z, ap (λ (v : Found22). v.end.next) po)))

  -- it is not
  pub number_missed : a.ok ≡ false → (o q : Found22) → o ≡ found22 next s r → Past a o q → q ≡ found22 (alt (lit key ⨾ x) next) s r
  number_missed e o q po h = go (known (ltb o.end.next a.next))
    where
      go : (ltb o.end.next a.next ≡ true) ⊎ (ltb o.end.next a.next ≡ false) → q ≡ found22 (alt (lit key ⨾ x) next) s r
      go (inl t) = let l = ltb-true o.end.next a.next t in number_stop e o q po l (h.1 l)
      go (inr t) = let l = ltb-false o.end.next a.next t in h.0 l ∙ number_past e o po l

-- a field that is found after its key is found there as part of field 22
pub is_amended : {F : Type 0} (found : ℕ → List ℕ → Scan → F) → ((s : List ℕ) (r : Scan) → found n.amended s r ≡ found 0 s r) → (key s : List ℕ) (r a : Scan) (f : F) → a ≡ scan (lit key) s r → f ≡ found 0 s a → f ≡ found n.amended s (scan (lit key) s r)
is_amended found same key s r a f e h = h ∙ ap (λ (x : Scan). found 0 s x) e ∙ sym (same s (scan (lit key) s r))

abbrev pub key07 : List ℕ
key07 = 48 ∷ 55 ∷ 47 ∷ []

abbrev pub key08 : List ℕ
key08 = 48 ∷ 56 ∷ 47 ∷ []

pub adds08 : (s : List ℕ) (r : Scan) (f : Found08) → f ≡ found08 n.amended s (scan (lit key08) s r) → Adds key08 (g08 n.amended) s r (with08 f)
unfolding found22 among occurs span_by
adds08 s r f h t = ap {B = Found22} (λ (x : Found08). with08 x (found22 t s (scan (g08 n.amended) s (scan (lit key08) s r)))) h

abbrev pub key09 : List ℕ
key09 = 48 ∷ 57 ∷ 47 ∷ []

pub adds09 : (s : List ℕ) (r : Scan) (f : Found09) → f ≡ found09 n.amended s (scan (lit key09) s r) → Adds key09 (g09 n.amended) s r (with09 f)
unfolding found22 among occurs span_by
adds09 s r f h t = ap {B = Found22} (λ (x : Found09). with09 x (found22 t s (scan (g09 n.amended) s (scan (lit key09) s r)))) h

abbrev pub key10 : List ℕ
key10 = 49 ∷ 48 ∷ 47 ∷ []

pub adds10 : (s : List ℕ) (r : Scan) (f : Found10) → f ≡ found10 n.amended s (scan (lit key10) s r) → Adds key10 (g10 n.amended) s r (with10 f)
unfolding found22 among occurs span_by
adds10 s r f h t = ap {B = Found22} (λ (x : Found10). with10 x (found22 t s (scan (g10 n.amended) s (scan (lit key10) s r)))) h

abbrev pub key13 : List ℕ
key13 = 49 ∷ 51 ∷ 47 ∷ []

pub adds13 : (s : List ℕ) (r : Scan) (f : Found13) → f ≡ found13 n.amended s (scan (lit key13) s r) → Adds key13 (g13 n.amended) s r (with13 f)
unfolding found22 among occurs span_by
adds13 s r f h t = ap {B = Found22} (λ (x : Found13). with13 x (found22 t s (scan (g13 n.amended) s (scan (lit key13) s r)))) h

abbrev pub key15 : List ℕ
key15 = 49 ∷ 53 ∷ 47 ∷ []

pub adds15 : (s : List ℕ) (r : Scan) (f : Found15) → f ≡ found15 n.amended s (scan (lit key15) s r) → Adds key15 (g15 n.amended) s r (with15 f)
unfolding found22 among occurs span_by
adds15 s r f h t = ap {B = Found22} (λ (x : Found15). with15 x (found22 t s (scan (g15 n.amended) s (scan (lit key15) s r)))) h

abbrev pub key16 : List ℕ
key16 = 49 ∷ 54 ∷ 47 ∷ []

pub adds16 : (s : List ℕ) (r : Scan) (f : Found16) → f ≡ found16 n.amended s (scan (lit key16) s r) → Adds key16 (g16 n.amended) s r (with16 f)
unfolding found22 among occurs span_by
adds16 s r f h t = ap {B = Found22} (λ (x : Found16). with16 x (found22 t s (scan (g16 n.amended) s (scan (lit key16) s r)))) h

abbrev pub key18 : List ℕ
key18 = 49 ∷ 56 ∷ 47 ∷ []

-- 07 stands alone
pub alone07 : (s : List ℕ) (r : Scan) (f : Found07) → f ≡ found07 n.amended s (scan (lit key07) s r) → with07 f (nothing22 f.end) ≡ found22 (lit key07 ⨾ g07 n.amended) s r
unfolding found22 among occurs span_by
alone07 s r f h = ap {B = Found22} (λ (x : Found07). with07 x (nothing22 x.end)) h

pub named22 : (s : List ℕ) (r : Scan) → found22 in_changes s r ≡ found22 changes s r
unfolding found22 among span_by
named22 s r = refl

-- 07 and its parts
pub with_07 : (s : List ℕ) (r a : Scan) (f : Found07) (p : Plan) → a ≡ scan (lit key07) s r → f ≡ found07 0 s a → p ≡ no_plan → record { end = f.end; plan = put n.code f.code (put n.aircraft f.aircraft p) } ≡ found22 (lit key07 ⨾ g07 n.amended) s r
with_07 s r a f p pa pf pp = rw pp (alone07 s r f (is_amended found07 same07 key07 s r a f pa pf))

pub named_tail : (s : List ℕ) (r : Scan) → found_tail in_changed s r ≡ found_tail changed s r
unfolding found_tail among span_by
named_tail s r = refl

-- the ways to begin after field 16
pub found_changed : (s : List ℕ) (r : Scan) (a b c d x y q : FoundTail) → a ≡ found_tail changes s r → b ≡ found_tail (nothing18 0 ─ changes) s r → c ≡ found_tail (three18 0 ─ changes) s r → d ≡ found_tail (four18 0 ─ changes) s r → x ≡ either_found_tail c d → y ≡ either_found_tail b x → q ≡ either_found_tail a y → q ≡ found_tail changed s r
unfolding in_changed
found_changed s r a b c d x y q pa pb pc pd px py pq =
    let i : x ≡ found_tail (alt (three18 0 ─ changes) (four18 0 ─ changes)) s r = px ∙ rw (pc, pd) (found_tail_alt _ _ s r) in
    let j : y ≡ found_tail (alt (nothing18 0 ─ changes) (alt (three18 0 ─ changes) (four18 0 ─ changes))) s r = py ∙ rw (pb, i) (found_tail_alt _ _ s r) in
    let k : q ≡ found_tail in_changed s r = pq ∙ rw (pa, j) (found_tail_alt _ _ s r) in
    k ∙ named_tail s r
