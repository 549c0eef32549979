-- The messages pass the computed tests.
use Rattle.std.specs.Prelude.{◌≡◌, refl, true}
use Rattle.scan.specs.Tests.{good, plain, longest, good_test, plain_test}
use Rattle.types.specs.Messages.{message, message_rules}

pub message_good : good message ≡ true
unfolding message_rules good_test
message_good = refl

pub message_plain : plain message ≡ true
unfolding message_rules plain_test
message_plain = refl

pub message_longest : longest message ≡ 1077
unfolding longest message_rules
message_longest = refl
