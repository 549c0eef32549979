-- WHAT HOLDS OF TWO PARTNERS, whatever the channel loses, repeats and reorders. Each law is of the first side's messages and
-- flights; `mirrored` gives it of the second's.
use Rattle.std.specs.Prelude.{◌≡◌, refl, ◌⊎◌, true, List, ◌∷◌, ℕ, ◌+◌, ◌≤◌, ◌<◌}
use Rattle.std.proofs.Common.{sym, ◌∙◌, ap, subst, inl, inr, arith}
use Rattle.std.proofs.Math.Option.{Option, none, some}
use Rattle.std.proofs.Math.Decide.{dec_lt}
use Rattle.head.specs.declared.Standing.TheVariants.{New, Old}
use Rattle.head.specs.Head.{standing}
use Rattle.deeds.specs.Message.{Message}
use Rattle.deeds.specs.Deeds.{Key, old}
use Rattle.pair.specs.kinds.Tools.{upd, upd_same, upd_other, same?, none_some, some_inj}
use Rattle.pair.specs.kinds.Kinds.{Content, own, near, is_yes, proper_to, again_to}
use Rattle.pair.specs.kinds.Views.{View, Learns, Retires, Takes, raised, Hears, first, late, again}
use Rattle.pair.specs.exchange.Laws.{law_again}
use Rattle.pair.specs.exchange.KindFacts.{Names}
use Rattle.pair.specs.exchange.Runs.{Script, num, Side, Mem, here, tell, Turn, sends, hears, learns, Reach, begin, left, right, Run, rest, then_left, then_right, further}
use Rattle.pair.specs.exchange.Numbers.{Fits, newest, nums_new, nums_old}
use Rattle.pair.specs.exchange.Waits.{Waiting, is_waiting, push_back}
use Rattle.pair.specs.exchange.Flights.{Pend, NoPend, Good, NoGood}
use Rattle.pair.specs.exchange.Halves.{Half, Shared, in_window, found}
use Rattle.pair.specs.exchange.Heard.{pend?, good?}
use Rattle.pair.specs.exchange.Kept.{Inv, reached}

pub mirrored : {s t : Script} {X Y : Side} → Reach s t X Y → Reach t s Y X
mirrored (begin f g) = begin g f
mirrored (left R q) = right (mirrored R) q
mirrored (right R q) = left (mirrored R) q

pub mirrored_run : {s t : Script} {X Y X' Y' : Side} → Run s t X Y X' Y' → Run t s Y X Y' X'
mirrored_run rest = rest
mirrored_run (then_left q u) = then_right (mirrored_run q) u
mirrored_run (then_right q u) = then_left (mirrored_run q) u

-- THE RECORDS AGREE

-- an end holds an unanswered message about its own flight k
abbrev pub HoldsOwn : View → Key → Type 0
HoldsOwn v k = (n : ℕ) × (p : Message) × (v.waits n ≡ some (own p)) × Names p k

-- one about its partner's flight k
abbrev pub HoldsNear : View → Key → Type 0
HoldsNear v k = (n : ℕ) × (c : Message) × (v.waits n ≡ some (near c)) × (old c ≡ k)

-- v's flight k: the record is the same at both ends, or one end holds an unanswered message that names the flight
abbrev pub Agrees : View → View → Key → Type 0
Agrees v w k = (v.sent k ≡ w.received k) ⊎ (HoldsOwn v k ⊎ HoldsNear w k)

pub agrees : {s t : Script} {X Y : Side} → Reach s t X Y → (k : Key) → Agrees X.view Y.view k
agrees {s} {t} {X} {Y} R k = go (good? I.forth.waiting F k) (pend? I.back.waiting F k)
  where
    I : Inv s t X Y
    I = reached R

    F : Shared s X.view.waits X.len X.given t Y.view.waits Y.len Y.given X.view.sent Y.view.received
    F = I.forth.flights

    go : Good F k ⊎ NoGood F k → Pend F k ⊎ NoPend F k → Agrees X.view Y.view k
    go (inl g) _ = inr (inl (num g.0, g.1, found g.2.0.2 g.2.1, g.3))
    go (inr g) (inl h) = inr (inr (num h.0, h.1, found h.2.0.2 h.2.1, h.3))
    go (inr g) (inr h) = inl (sym (F.calm_own k g) ∙ sym (F.calm_near k h))

-- NUMBERS

-- an unanswered message is one of the last 400 sent, and stands under its number
pub numbered : {s t : Script} {X Y : Side} → Reach s t X Y → (n : ℕ) (c : Content) → X.view.waits n ≡ some c
    → (i : ℕ) × (i < X.len) × (X.len ≤ i + 400) × (n ≡ num i) × (c ≡ s i)
numbered {X = X} R n c e =
    let k = (reached R).forth.waiting.known n c e in
    (k.0, k.1.0, k.1.1, k.2, some_inj e (ap X.view.waits k.2 ∙ k.1.2))

pub next_number : {s t : Script} {X Y : Side} → Reach s t X Y → X.view.next ≡ num X.len
next_number R = (reached R).forth.nums.next_is

-- A COPY THAT ARRIVES IN TIME

-- the number is new, or old and never answered, or old and answered as the message may be
abbrev pub Timely : Content → ℕ → View → Type 0
Timely c n v =
    (standing v.high n ≡ New)
    ⊎ (((standing v.high n ≡ Old) × (v.kept n ≡ none))
    ⊎ ((x : ℕ) × (standing v.high n ≡ Old) × (v.kept n ≡ some x) × (again_to c x ≡ true)))

pub timely : {s t : Script} {X Y : Side} → Reach s t X Y → (i : ℕ) → i < X.len → X.len ≤ i + 400 → Timely (s i) (num i) Y.view
timely {s} {t} {X} {Y} R i lt in_time = elim (dec_lt i H.nums.seen) [
  | yes l ↦ inr (old_one l (newest (X.given i)) refl)
  | no l ↦ inl (nums_new H.nums i lt in_time (in_window H) (omega arith))
]
  where
    H : Half s t X Y
    H = (reached R).forth

    old_one : i < H.nums.seen → (o : Option ℕ) → newest (X.given i) ≡ o
        → ((standing Y.view.high (num i) ≡ Old) × (Y.view.kept (num i) ≡ none))
        ⊎ ((x : ℕ) × (standing Y.view.high (num i) ≡ Old) × (Y.view.kept (num i) ≡ some x) × (again_to (s i) x ≡ true))
    old_one l none e = inl (nums_old H.nums i lt in_time l, H.nums.kept_is i l (omega (arith, H.nums.seen_le)) ∙ e)
    old_one l (some x) e =
        inr (x, nums_old H.nums i lt in_time l, H.nums.kept_is i l (omega (arith, H.nums.seen_le)) ∙ e, law_again (s i) x (H.nums.fit i x e).0)

answer_fits : {s t : Script} {X Y : Side} → Reach s t X Y → (i x : ℕ) → Mem x (X.given i) → Fits (s i) x
answer_fits R i x m = let N = (reached R).forth.nums in N.fit i x (N.agree i x m)

told_here : (X : Side) (i x : ℕ) → Mem x ((tell i x X).given i)
told_here X i x = subst (λ (l : List ℕ). Mem x l) (sym (upd_same X.given i (x ∷ X.given i) i refl)) here

-- and a neighbour's message is never refused
pub accepted : {s t : Script} {X Y : Side} {v : View} → Reach s t X Y → (i x : ℕ) (c : Message) → i < X.len → X.len ≤ i + 400 → s i ≡ near c → Hears (num i) (s i) x Y.view v → is_yes x ≡ true
accepted {X = X} R i x c lt in_time e C = (answer_fits (left R (hears i x lt in_time C)) i x (told_here X i x)).1 c e

-- AN ANSWER THAT ARRIVES IN TIME

-- is proper, where the message is still unanswered
pub settled : {s t : Script} {X Y : Side} → Reach s t X Y → (i x : ℕ) (c : Content) → i < X.len → X.len ≤ i + 400 → Mem x (X.given i)
    → X.view.waits (num i) ≡ some c → (c ≡ s i) × (proper_to c x ≡ true)
settled {s} R i x c lt in_time m e =
    let is : c ≡ s i = some_inj e (is_waiting (reached R).forth.waiting i c lt in_time e).2 in
    (is, ap (λ (d : Content). proper_to d x) is ∙ (answer_fits R i x m).0)

-- and the message is unanswered no more
pub settled_now : {n x : ℕ} {v w : View} → Learns n x v w → w.waits n ≡ none
settled_now {n} {x} {v} C = ap (λ (f : ℕ → Option Content). f n) C.waits ∙ upd_same v.waits n none n refl

-- FOR GOOD

-- the message i of X is unanswered
abbrev pub Awaits : Script → Side → ℕ → Type 0
Awaits s X i = Waiting s X.view.waits X.len i

upd_none : (f : ℕ → Option Content) (n m : ℕ) (c : Content) → upd f n none m ≡ some c → f m ≡ some c
upd_none f n m c e = elim (same? m n) [ inl q ↦ absurd (none_some (upd_same f n none m q) e) | inr q ↦ sym (upd_other f n none m q) ∙ e ]

by : {f g : ℕ → Option Content} → f ≡ g → (m : ℕ) {c : Content} → f m ≡ some c → g m ≡ some c
by p m e = ap (λ (h : ℕ → Option Content). h m) (sym p) ∙ e

-- what comes in never adds an unanswered message
takes_waits : (n : ℕ) (c : Content) (x : ℕ) (v w : View) → Takes n c x v w → (m : ℕ) (d : Content) → w.waits m ≡ some d → v.waits m ≡ some d
takes_waits n (own p) x v w K m d e = by K.waits m e
takes_waits n (near c) x v w K m d e = retired_one K.1
  where
    here_now : K.0.waits m ≡ some d
    here_now = by K.2.waits m e

    retired_one : Retires c v K.0 → v.waits m ≡ some d
    retired_one (inl a) = by (ap (λ (u : View). u.waits) a.0) m here_now
    retired_one (inr r) = upd_none v.waits c.reference m d (by r.waits m here_now)

hears_waits : {n x : ℕ} {c : Content} {v w : View} → Hears n c x v w → (m : ℕ) (d : Content) → w.waits m ≡ some d → v.waits m ≡ some d
hears_waits {n} {x} {c} {v} {w} (first a K) m d e = takes_waits n c x (raised n v) w K m d e
hears_waits {n} {x} {c} {v} {w} (late a q K) m d e = takes_waits n c x v w K m d e
hears_waits (again a q p) m d e = by (ap (λ (u : View). u.waits) p) m e

-- one turn of the sender's messages, or of the other's
turn_own : {s t : Script} {X Y X' Y' : Side} → Inv s t X Y → Turn s X Y X' Y' → (i : ℕ) → i < X.len → (Awaits s X i → ⊥) → (i < X'.len) × (Awaits s X' i → ⊥)
turn_own I (sends {X} {Y} C) i lt un = (
  omega arith,
  λ w. elim (push_back I.forth.waiting X.view.next I.forth.nums.next_is C.young i (w.0, w.1, by C.waits (num i) w.2)) [
    | inl o ↦ un o
    | inr k ↦ (omega arith)
  ],
)
turn_own I (hears i x lt₁ in_time C) j lt un = (lt, un)
turn_own {s} I (learns {X} {Y} i x lt₁ in_time m C) j lt un =
    (lt, λ w. un (w.0, w.1, upd_none X.view.waits (num i) (num j) (s j) (by C.waits (num j) w.2)))

turn_other : (s : Script) {t : Script} {X Y X' Y' : Side} → Turn t Y X Y' X' → (i : ℕ) → i < X.len → (Awaits s X i → ⊥) → (i < X'.len) × (Awaits s X' i → ⊥)
turn_other s (sends C) i lt un = (lt, un)
turn_other s (hears j x lt₁ in_time C) i lt un = (lt, λ w. un (w.0, w.1, hears_waits C (num i) (s i) w.2))
turn_other s (learns j x lt₁ in_time m C) i lt un = (lt, un)

-- a message that is not unanswered never is again
pub for_good : {s t : Script} {X Y X' Y' : Side} → Reach s t X Y → Run s t X Y X' Y' → (i : ℕ) → i < X.len → (Awaits s X i → ⊥) → (i < X'.len) × (Awaits s X' i → ⊥)
for_good R rest i lt un = (lt, un)
for_good R (then_left q u) i lt un = let w = for_good R q i lt un in turn_own (reached (further R q)) u i w.0 w.1
for_good {s} R (then_right q u) i lt un = let w = for_good R q i lt un in turn_other s u i w.0 w.1
