-- `list::feed` meets its contract. Assumes nothing.
use mathlib.Core.Path.{refl, sym, ◌∙◌}
use native.Mathlib.Omega.{arith}
use Rattle.list.proofs.Progressing.{unsound}
use Rattle.list.proofs.feed.Goals as goal

pub returns : goal.returns
returns c =
    let s = c.args in
    let e = sym c.sound.ensures ∙ c.if-sound.false in
    record {
      part = omega arith;
      fits = omega arith;
      rest = refl;
      none = λ h. (refl, refl);
      goes = λ xs ys a. absurd (unsound xs ys s.line.now s.tally a e);
      stops = λ xs ys a h k. absurd (unsound xs ys s.line.now s.tally a e);
    }

pub feed_lines-requires : goal.feed_lines-requires
feed_lines-requires c = sym c.sound.ensures ∙ c.if-sound.true

pub returns-then-sound : goal.returns-then-sound
returns-then-sound c = c.feed_lines.ensures
