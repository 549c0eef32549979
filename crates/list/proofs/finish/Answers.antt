-- `list::finish` meets its contract. Assumes nothing.
use Rattle.std.proofs.Common.{refl, sym, ap, ◌∙◌, ◌++◌, ◌+◌, List, ℕ, arith}
use Rattle.splice.specs.Splicing.{then, front, behind}
use Rattle.list.proofs.Progressing.{unsound, finish_even, finish_odd}
use Rattle.list.proofs.finish.Goals as goal
use Rattle.list.proofs.finish.Goals.{then-not-sound-via-then-not-sound, then-not-sound-via-else-not-sound+then-out-lt-ROOM}

pub returns-then-not-sound : goal.returns-then-not-sound
returns-then-not-sound c = record {
  fits = omega arith;
  rest = refl;
  none = λ h. refl;
  ends = λ xs ys a h. elim c.then-not-sound.branch [
    | then-not-sound-via-then-not-sound w ↦ absurd (unsound xs ys c.args.line.now c.args.tally a (sym c.sound.ensures ∙ w.if-not-sound.true))
    | then-not-sound-via-else-not-sound+then-out-lt-ROOM w ↦ absurd (omega arith)
  ];
}

pub returns-then-tally-eq0 : goal.returns-then-tally-eq0
returns-then-tally-eq0 c =
    let w = c.put_totals.ensures.spliced in
    record {
      fits = omega arith;
      rest = behind w (omega arith);
      none = λ h. absurd (omega arith);
      ends = λ xs ys a h. ap (λ (s : List ℕ). ys ++ s) (front w (omega arith)) ∙ finish_even xs ys c.args.line.now c.args.tally a c.if-tally-eq0.true;
    }

pub returns : goal.returns
returns c =
    let t = c.tell_whole-told.ensures in
    let w = then t.wrote c.put_totals-2.ensures.spliced (omega (arith, t.room)) in
    record {
      fits = omega (arith, t.room);
      rest = behind w (omega (arith, t.room));
      none = λ h. absurd (omega arith);
      ends = λ xs ys a h.
          ap (λ (s : List ℕ). ys ++ s) (front w (omega (arith, t.room)))
          ∙ finish_odd xs ys c.args.line.now c.args.tally _ a (omega arith) (ap (λ (k : ℕ). c.args.tally.read + k) (c.from.ensures ∙ t.told));
    }
