use native.Mathlib.Omega.{arith}
use Rattle.words.specs.Blocks.{word_letter, word_low, word_bit_lem}
use Rattle.words.proofs.is_word.Goals as goal

pub returns-then-b-ge65 : goal.returns-then-b-ge65
returns-then-b-ge65 c = word_letter _ c.if-b-ge65.true

pub returns-then-b-lt39 : goal.returns-then-b-lt39
returns-then-b-lt39 c = word_low _ c.if-b-lt39.true

pub returns : goal.returns
returns c = word_bit_lem _ c.if-b-lt39.false (omega (arith, c.if-b-ge65.false))
