-- Document 01's numbered examples as one table, with one statement about the definitions.
use Rattle.std.specs.Prelude.{◌≡◌, List, [], ◌∷◌, ℕ, replicate}
use Rattle.std.proofs.Math.Option.{some}
use Rattle.message.specs.declared.Verdict.{Verdict}
use Rattle.message.specs.declared.Verdict.TheVariants.{Read, Refused}
use Rattle.reader.specs.Reader.{Ruled}
use Rattle.head.specs.declared.Standing.{Standing}
use Rattle.head.specs.declared.Standing.TheVariants.{New, Old, Stale}
use Rattle.head.specs.Head.{standing}
use Rattle.places.specs.Places.{empty}
use Rattle.memory.specs.End.{End}
use Rattle.rules.specs.Replies.{Reply, refused, number}
use Rattle.rules.specs.Receiving.{receive}

-- reads: a text and its verdict. stands: the highest number received, a number, and what it is. comes: the room, a text that
-- comes to an end, and what the call comes to
pub data Example : Type 0 where
  reads : List ℕ → Verdict → Example
  stands : ℕ → ℕ → Standing → Example
  comes : ℕ → List ℕ → End → Reply → Example

-- P1 (001) is read
-- (CHGKZMP/CZWG776KZMP/CZWG603-AAL72-KSEA-CYOW-07/AAL73)
abbrev pub p1 : Example
p1 = reads (40 ∷ 67 ∷ 72 ∷ 71 ∷ 75 ∷ 90 ∷ 77 ∷ 80 ∷ 47 ∷ 67 ∷ 90 ∷ 87 ∷ 71 ∷ 55 ∷ 55 ∷ 54 ∷ 75 ∷ 90 ∷ 77 ∷ 80 ∷ 47 ∷ 67 ∷ 90 ∷ 87 ∷ 71 ∷ 54 ∷ 48 ∷ 51 ∷ 45 ∷ 65 ∷ 65 ∷ 76 ∷ 55 ∷ 50 ∷ 45 ∷ 75 ∷ 83 ∷ 69 ∷ 65 ∷ 45 ∷ 67 ∷ 89 ∷ 79 ∷ 87 ∷ 45 ∷ 48 ∷ 55 ∷ 47 ∷ 65 ∷ 65 ∷ 76 ∷ 55 ∷ 51 ∷ 41 ∷ []) Read

-- P2 empty text: refused at 0, hyphens 0
--
abbrev pub p2 : Example
p2 = reads [] (Refused 0 0)

-- P3 time 2359 read
-- (CNLKZHU/MMZT776KZHU/MMZT603-UAL1021-KIAD2359-MMEX-0)
abbrev pub p3 : Example
p3 = reads (40 ∷ 67 ∷ 78 ∷ 76 ∷ 75 ∷ 90 ∷ 72 ∷ 85 ∷ 47 ∷ 77 ∷ 77 ∷ 90 ∷ 84 ∷ 55 ∷ 55 ∷ 54 ∷ 75 ∷ 90 ∷ 72 ∷ 85 ∷ 47 ∷ 77 ∷ 77 ∷ 90 ∷ 84 ∷ 54 ∷ 48 ∷ 51 ∷ 45 ∷ 85 ∷ 65 ∷ 76 ∷ 49 ∷ 48 ∷ 50 ∷ 49 ∷ 45 ∷ 75 ∷ 73 ∷ 65 ∷ 68 ∷ 50 ∷ 51 ∷ 53 ∷ 57 ∷ 45 ∷ 77 ∷ 77 ∷ 69 ∷ 88 ∷ 45 ∷ 48 ∷ 41 ∷ []) Read

-- P4 2360 refused at its third digit
-- (CNLKZHU/MMZT776KZHU/MMZT603-UAL1021-KIAD2360-MMEX-0)
abbrev pub p4 : Example
p4 = reads (40 ∷ 67 ∷ 78 ∷ 76 ∷ 75 ∷ 90 ∷ 72 ∷ 85 ∷ 47 ∷ 77 ∷ 77 ∷ 90 ∷ 84 ∷ 55 ∷ 55 ∷ 54 ∷ 75 ∷ 90 ∷ 72 ∷ 85 ∷ 47 ∷ 77 ∷ 77 ∷ 90 ∷ 84 ∷ 54 ∷ 48 ∷ 51 ∷ 45 ∷ 85 ∷ 65 ∷ 76 ∷ 49 ∷ 48 ∷ 50 ∷ 49 ∷ 45 ∷ 75 ∷ 73 ∷ 65 ∷ 68 ∷ 50 ∷ 51 ∷ 54 ∷ 48 ∷ 45 ∷ 77 ∷ 77 ∷ 69 ∷ 88 ∷ 45 ∷ 48 ∷ 41 ∷ []) (Refused 43 2)

-- P5 09 "99B738/H" read
-- (CHGKZMP/CZWG776KZMP/CZWG603-AAL72-KSEA-CYOW-09/99B738/H)
abbrev pub p5 : Example
p5 = reads (40 ∷ 67 ∷ 72 ∷ 71 ∷ 75 ∷ 90 ∷ 77 ∷ 80 ∷ 47 ∷ 67 ∷ 90 ∷ 87 ∷ 71 ∷ 55 ∷ 55 ∷ 54 ∷ 75 ∷ 90 ∷ 77 ∷ 80 ∷ 47 ∷ 67 ∷ 90 ∷ 87 ∷ 71 ∷ 54 ∷ 48 ∷ 51 ∷ 45 ∷ 65 ∷ 65 ∷ 76 ∷ 55 ∷ 50 ∷ 45 ∷ 75 ∷ 83 ∷ 69 ∷ 65 ∷ 45 ∷ 67 ∷ 89 ∷ 79 ∷ 87 ∷ 45 ∷ 48 ∷ 57 ∷ 47 ∷ 57 ∷ 57 ∷ 66 ∷ 55 ∷ 51 ∷ 56 ∷ 47 ∷ 72 ∷ 41 ∷ []) Read

-- P6 "1B738/H" refused at B
-- (CHGKZMP/CZWG776KZMP/CZWG603-AAL72-KSEA-CYOW-09/1B738/H)
abbrev pub p6 : Example
p6 = reads (40 ∷ 67 ∷ 72 ∷ 71 ∷ 75 ∷ 90 ∷ 77 ∷ 80 ∷ 47 ∷ 67 ∷ 90 ∷ 87 ∷ 71 ∷ 55 ∷ 55 ∷ 54 ∷ 75 ∷ 90 ∷ 77 ∷ 80 ∷ 47 ∷ 67 ∷ 90 ∷ 87 ∷ 71 ∷ 54 ∷ 48 ∷ 51 ∷ 45 ∷ 65 ∷ 65 ∷ 76 ∷ 55 ∷ 50 ∷ 45 ∷ 75 ∷ 83 ∷ 69 ∷ 65 ∷ 45 ∷ 67 ∷ 89 ∷ 79 ∷ 87 ∷ 45 ∷ 48 ∷ 57 ∷ 47 ∷ 49 ∷ 66 ∷ 55 ∷ 51 ∷ 56 ∷ 47 ∷ 72 ∷ 41 ∷ []) (Refused 49 4)

-- h = 5: P7 405 new; P8 406 stale; P9 605 stale; P10 606 old
abbrev pub p7 : Example
p7 = stands 5 405 New

abbrev pub p8 : Example
p8 = stands 5 406 Stale

abbrev pub p9 : Example
p9 = stands 5 605 Stale

abbrev pub p10 : Example
p10 = stands 5 606 Old

-- P11 h = 999, 000 new
abbrev pub p11 : Example
p11 = stands 999 0 New

-- P12 LAM to an RTI: 6, still unanswered
-- (RTIAAAA/BBBB006AAAA/BBBB000-AAL73-KPDX-CYVR-SECTOR 31-TRACK 32)
-- is unanswered, and there comes
-- (LAMBBBB/AAAA006AAAA/BBBB006)
abbrev pub waiting : End
waiting = record {
  head = record { ours = 65 ∷ 65 ∷ 65 ∷ 65 ∷ []; partners = 66 ∷ 66 ∷ 66 ∷ 66 ∷ []; next = 7; highest = 999 };
  sent = empty 1;
  received = empty 1;
  unanswered = some (record { number = 6; text = 40 ∷ 82 ∷ 84 ∷ 73 ∷ 65 ∷ 65 ∷ 65 ∷ 65 ∷ 47 ∷ 66 ∷ 66 ∷ 66 ∷ 66 ∷ 48 ∷ 48 ∷ 54 ∷ 65 ∷ 65 ∷ 65 ∷ 65 ∷ 47 ∷ 66 ∷ 66 ∷ 66 ∷ 66 ∷ 48 ∷ 48 ∷ 48 ∷ 45 ∷ 65 ∷ 65 ∷ 76 ∷ 55 ∷ 51 ∷ 45 ∷ 75 ∷ 80 ∷ 68 ∷ 88 ∷ 45 ∷ 67 ∷ 89 ∷ 86 ∷ 82 ∷ 45 ∷ 83 ∷ 69 ∷ 67 ∷ 84 ∷ 79 ∷ 82 ∷ 32 ∷ 51 ∷ 49 ∷ 45 ∷ 84 ∷ 82 ∷ 65 ∷ 67 ∷ 75 ∷ 32 ∷ 51 ∷ 50 ∷ 41 ∷ [] }) ∷ empty 15;
  answers = replicate 1000 0;
}

abbrev pub p12 : Example
p12 = comes 0 (40 ∷ 76 ∷ 65 ∷ 77 ∷ 66 ∷ 66 ∷ 66 ∷ 66 ∷ 47 ∷ 65 ∷ 65 ∷ 65 ∷ 65 ∷ 48 ∷ 48 ∷ 54 ∷ 65 ∷ 65 ∷ 65 ∷ 65 ∷ 47 ∷ 66 ∷ 66 ∷ 66 ∷ 66 ∷ 48 ∷ 48 ∷ 54 ∷ 41 ∷ []) waiting (refused (number 6))

abbrev pub table : List Example
table = p1 ∷ p2 ∷ p3 ∷ p4 ∷ p5 ∷ p6 ∷ p7 ∷ p8 ∷ p9 ∷ p10 ∷ p11 ∷ p12 ∷ []

-- by the rules a text has the verdict beside it, a number is what stands beside it, and a call comes to what stands beside it
-- (a refusal is no next end: all is as it was)
abbrev pub Holds1 : Example → Type 0
Holds1 (reads s v) = Ruled s v
Holds1 (stands h n k) = standing h n ≡ k
Holds1 (comes room s e x) = receive room s e ≡ x

abbrev pub Holds : List Example → Type 0
Holds [] = Unit
Holds (e ∷ es) = Holds1 e × Holds es
