-- THE INVARIANT OF BOTH DIRECTIONS: two fresh ends have it, and every turn keeps it.
use Rattle.std.specs.Prelude.{refl}
use Rattle.std.proofs.Common.{sym, arith}
use Rattle.std.proofs.Math.Option.{none}
use Rattle.pair.specs.kinds.Tools.{none_some}
use Rattle.pair.specs.kinds.Views.{View, Fresh}
use Rattle.pair.specs.exchange.Runs.{Script, Side, Turn, sends, hears, learns, start, Reach, begin, left, right}
use Rattle.pair.specs.exchange.Numbers.{newest}
use Rattle.pair.specs.exchange.Halves.{Half, sent_own, sent_near}
use Rattle.pair.specs.exchange.Learnt.{learnt_own, learnt_near}
use Rattle.pair.specs.exchange.Heard.{heard}

pub record Inv (s t : Script) (X Y : Side) : Type 0 where
  pub forth : Half s t X Y
  pub back : Half t s Y X

flip : {s t : Script} {X Y : Side} → Inv s t X Y → Inv t s Y X
flip I = record { forth = I.back; back = I.forth }

begun : (s t : Script) {v w : View} → Fresh v → Fresh w → Half s t (start v) (start w)
unfolding newest
begun s t f g = record {
  nums = record {
    seen = 0;
    next_is = f.next;
    carried = λ i h. absurd (native.Mathlib.Nat.not-suc-le-zero h);
    seen_le = omega arith;
    high_is = g.high;
    unseen = λ i h. refl;
    agree = λ i x m. elim m [ ];
    fit = λ i x e. absurd (none_some refl e);
    kept_is = λ i h k. absurd (native.Mathlib.Nat.not-suc-le-zero h);
  };
  waiting = record {
    known = λ n c e. absurd (none_some (f.waits n) e);
    waits = λ i h e. absurd (native.Mathlib.Nat.not-suc-le-zero h);
  };
  flights = record {
    one_own = λ i j p q k x y m n. absurd (native.Mathlib.Nat.not-suc-le-zero x.0.0);
    one_near = λ i j c d x y e. absurd (native.Mathlib.Nat.not-suc-le-zero x.0.0);
    fun_own = λ i p q x y. absurd (native.Mathlib.Nat.not-suc-le-zero x.0.0);
    fun_near = λ i c d x y. absurd (native.Mathlib.Nat.not-suc-le-zero x.0.0);
    via = λ k. none;
    calm_own = λ k un. sym (f.sent k);
    done_own = λ i p x y. absurd (native.Mathlib.Nat.not-suc-le-zero x.0.0);
    ready_own = λ i p x y. absurd (native.Mathlib.Nat.not-suc-le-zero x.0.0);
    calm_near = λ k un. g.received k;
    wait_near = λ j c x y. absurd (native.Mathlib.Nat.not-suc-le-zero x.0.0);
  };
  places = omega (arith, f.used, f.makers);
}

kept_by : {s t : Script} {X Y X' Y' : Side} → Inv s t X Y → Turn s X Y X' Y' → Inv s t X' Y'
kept_by {s} {t} I (sends {X} {Y} C) = record { forth = sent_own s t X Y I.forth I.back C; back = sent_near s t X Y I.forth I.back C }
kept_by {s} {t} I (hears {X} {Y} i x lt in_time C) =
    let h = heard s t X Y I.forth I.back i x lt in_time C in record { forth = h.0; back = h.1 }
kept_by {s} {t} I (learns {X} {Y} i x lt in_time m C) =
    record { forth = learnt_own s t X Y I.forth I.back i x lt in_time m C; back = learnt_near s t X Y I.forth I.back i x lt in_time m C }

pub reached : {s t : Script} {X Y : Side} → Reach s t X Y → Inv s t X Y
reached {s} {t} (begin f g) = record { forth = begun s t f g; back = begun t s g f }
reached (left R q) = kept_by (reached R) q
reached (right R q) = flip (kept_by (flip (reached R)) q)
