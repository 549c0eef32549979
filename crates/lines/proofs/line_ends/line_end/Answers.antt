use Rattle.std.proofs.Common.{arith}
use Rattle.std.proofs.lemmas.List.{take_rest}
use Rattle.lines.proofs.Feeding.{searched}
use Rattle.lines.proofs.line_ends.line_end.Goals as goal

-- what is searched is an end of s; no line feed stands before it; the answer is where the search stopped. All of s is searched, so that
-- this is more than the code needs: by it the edit line_feed_overlooked, which begins later, is refused for a line feed that it passes over
pub returns : goal.returns
returns c =
    searched c.args.s.now _ _ _ c.memchr.ensures
    (grind (arith, take_rest))
    (λ i low high here. search (arith, high, here))
    (grind (arith, c.unwrap_or.ensures))
