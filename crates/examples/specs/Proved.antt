-- The table holds: antt computes the verdict of each text and the standing of each number.
use Rattle.std.specs.Prelude.{◌≡◌, refl, List, [], ◌∷◌}
use Rattle.std.proofs.Common.{subst}
use Rattle.scan.specs.Scanner.{run_at, run_scan, words_at, words_scan, longer, leads, among, occurs, between, span_by, between16}
use Rattle.types.specs.Messages.{message_rules}
use Rattle.reader.specs.Reading.{hyphens}
use Rattle.reader.specs.Reader.{verdict, Ruled}
use Rattle.reader.proofs.Judging.{verdict_right}
use Rattle.message.specs.Record.{kind_of, figure}
use Rattle.head.specs.Head.{standing_at, standing}
use Rattle.places.specs.Bytes.{same}
use Rattle.places.specs.Places.{get, first_of, empty}
use Rattle.unanswered.specs.Waiting.{is_answer}
use Rattle.memory.specs.End.{numbered}
use Rattle.deeds.specs.Deeds.{deed_by}
use Rattle.rules.specs.Reads.{read_record}
use Rattle.rules.specs.Answers.{is_offering, proper}
use Rattle.rules.specs.Receiving.{referred, settle, hear, receive_by, receive}
use Rattle.examples.specs.Table.{Example, reads, stands, comes, table, Holds1, Holds}

abbrev Computes1 : Example → Type 0
Computes1 (reads s v) = verdict s ≡ v
Computes1 (stands h n k) = standing h n ≡ k
Computes1 (comes room s e x) = receive room s e ≡ x

abbrev Computes : List Example → Type 0
Computes [] = Unit
Computes (e ∷ es) = Computes1 e × Computes es

computed : Computes table
unfolding run_at run_scan words_at words_scan longer hyphens verdict standing_at leads among occurs between span_by between16 read_record kind_of figure same deed_by is_offering proper is_answer numbered get first_of empty referred settle hear receive_by message_rules
computed = (refl, (refl, (refl, (refl, (refl, (refl, (refl, (refl, (refl, (refl, (refl, (refl, tt))))))))))))

by_computing1 : (e : Example) → Computes1 e → Holds1 e
by_computing1 (reads s v) c = subst (Ruled s) c (verdict_right s)
by_computing1 (stands h n k) c = c
by_computing1 (comes room s e x) c = c

by_computing : (es : List Example) → Computes es → Holds es
by_computing [] c = tt
by_computing (e ∷ es) c = (by_computing1 e c.0, by_computing es c.1)

pub table_holds : Holds table
table_holds = by_computing table computed
