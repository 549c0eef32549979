-- Document 01's fields, line by line, as grammars. `o` is 0 for a message's own field and `amended` within field 22.
-- Where a field has several parts, `in..` is its rule, and `g..` that rule with the list of the parts that it names.
use Rattle.std.specs.Prelude.{[], ◌∷◌, ℕ, ◌+◌, ◌-◌}
use Rattle.scan.specs.declared.Class.{Class}
use Rattle.scan.specs.declared.Class.TheVariants.{Letter, Digit, Octal, Alnum, Range, Of}
use Rattle.scan.specs.Grammar.{G, run, words, alt, part, field}
use Rattle.scan.specs.Texts.{◌⨾◌, byte, one, opt, lit}
use Rattle.fields.specs.Names as n

-- each field after one hyphen
infixr 19 ◌─◌
abbrev pub ◌─◌ : G → G → G
a ─ b = a ⨾ byte 45 ⨾ b

-- number or reference: four letters, "/", four letters, three digits
unfoldable pub in_numbered : ℕ → ℕ → ℕ → G
in_numbered a b c = part a (run Letter 4 4) ⨾ byte 47 ⨾ part b (run Letter 4 4) ⨾ part c (run Digit 3 3)

abbrev pub numbered : ℕ → ℕ → ℕ → G
numbered a b c = field (a ∷ b ∷ c ∷ []) (in_numbered a b c)

-- 07: 2 to 7 letters or digits, then optionally "/A" and four digits 0 to 7
unfoldable pub in07 : ℕ → G
in07 o = part (o + n.aircraft) (run Alnum 2 7) ⨾ opt (lit (47 ∷ 65 ∷ []) ⨾ part (o + n.code) (run Octal 4 4))

abbrev pub g07 : ℕ → G
g07 o = field ((o + n.aircraft) ∷ (o + n.code) ∷ []) (in07 o)

-- 07a has no code
abbrev pub g07a : G
g07a = part n.aircraft (run Alnum 2 7)

-- 08: one of I V Y Z, then optionally one of S N G M X
abbrev pub rules_letter : Class
rules_letter = Of 73 86 89 90 90

abbrev pub flight_letter : Class
flight_letter = Of 83 78 71 77 88

unfoldable pub in08 : ℕ → G
in08 o = part (o + n.rules) (one rules_letter) ⨾ opt (part (o + n.flight) (one flight_letter))

abbrev pub g08 : ℕ → G
g08 o = field ((o + n.rules) ∷ (o + n.flight) ∷ []) (in08 o)

-- 09: optionally a number 2 to 99 without leading zero; a letter and 1 to 3 letters or digits; "/"; one of L M H
unfoldable pub counted : G
counted = alt (one (Range 50 57)) (one (Range 49 57) ⨾ one Digit)

abbrev pub wake_letter : Class
wake_letter = Of 76 77 72 72 72

unfoldable pub in09 : ℕ → G
in09 o = opt (part (o + n.count) counted) ⨾ part (o + n.model) (one Letter ⨾ run Alnum 1 3) ⨾ byte 47 ⨾ part (o + n.wake) (one wake_letter)

abbrev pub g09 : ℕ → G
g09 o = field ((o + n.count) ∷ (o + n.model) ∷ (o + n.wake) ∷ []) (in09 o)

-- 10: 1 to 40 letters or digits, "/", 1 to 20 letters or digits
unfoldable pub in10 : ℕ → G
in10 o = part (o + n.equipment) (run Alnum 1 40) ⨾ byte 47 ⨾ part (o + n.surveillance) (run Alnum 1 20)

abbrev pub g10 : ℕ → G
g10 o = field ((o + n.equipment) ∷ (o + n.surveillance) ∷ []) (in10 o)

-- a time is 0000 to 2359 with minutes below 60
unfoldable pub hour : G
hour = alt (one (Range 48 49) ⨾ one Digit) (byte 50 ⨾ one (Range 48 51))

abbrev pub below60 : G
below60 = one (Range 48 53) ⨾ one Digit

unfoldable pub minute : G
minute = below60

unfoldable pub timed : G
timed = hour ⨾ minute

-- 13: four letters and a time
unfoldable pub in13 : ℕ → G
in13 o = part (o + n.departure) (run Letter 4 4) ⨾ part (o + n.time) timed

abbrev pub g13 : ℕ → G
g13 o = field ((o + n.departure) ∷ (o + n.time) ∷ []) (in13 o)

-- 13s has no time
abbrev pub g13s : G
g13s = part n.departure (run Letter 4 4)

-- in 13o it is optional
unfoldable pub in13o : G
in13o = part n.departure (run Letter 4 4) ⨾ opt (part n.time timed)

abbrev pub g13o : G
g13o = field (n.departure ∷ n.time ∷ []) in13o

-- a level is F or A with three digits, or S or M with four
unfoldable pub level3 : G
level3 = one (Of 70 65 65 65 65) ⨾ run Digit 3 3

unfoldable pub level4 : G
level4 = one (Of 83 77 77 77 77) ⨾ run Digit 4 4

unfoldable pub levelled : G
levelled = alt level3 level4

-- a bearing 000 to 360
unfoldable pub bearing : G
bearing = alt (one (Range 48 50) ⨾ run Digit 2 2) (byte 51 ⨾ alt below60 (lit (54 ∷ 48 ∷ [])))

-- a name of k letters or digits with a bearing and three digits
unfoldable pub bearing_from : ℕ → G
bearing_from k = run Alnum k k ⨾ bearing ⨾ run Digit 3 3

-- latitude (N or S) and longitude (E or W), at most 90 and 180 degrees in all: as 46N078W
unfoldable pub degrees : G
degrees =
    alt (one (Range 48 56) ⨾ one Digit) (lit (57 ∷ 48 ∷ []))
    ⨾ one (Of 78 83 83 83 83)
    ⨾ alt (byte 48 ⨾ run Digit 2 2) (byte 49 ⨾ alt (one (Range 48 55) ⨾ one Digit) (lit (56 ∷ 48 ∷ [])))
    ⨾ one (Of 69 87 87 87 87)

-- or 4620N07805W, minutes below 60
unfoldable pub minutes : G
minutes =
    alt (one (Range 48 56) ⨾ one Digit ⨾ minute) (lit (57 ∷ 48 ∷ 48 ∷ 48 ∷ []))
    ⨾ one (Of 78 83 83 83 83)
    ⨾ alt (byte 48 ⨾ run Digit 2 2 ⨾ minute) (byte 49 ⨾ alt (one (Range 48 55) ⨾ one Digit ⨾ minute) (lit (56 ∷ 48 ∷ 48 ∷ 48 ∷ [])))
    ⨾ one (Of 69 87 87 87 87)

-- a point is 2 to 5 letters or digits; or such a name with a bearing and three digits; or latitude and longitude
unfoldable pub pointed : G
pointed = alt (run Alnum 2 5) (alt (alt (bearing_from 2) (alt (bearing_from 3) (alt (bearing_from 4) (bearing_from 5)))) (alt degrees minutes))

-- 14: point, "/", time, level, then optionally a second level and A or B
unfoldable pub in14 : G
in14 = part n.point pointed ⨾ byte 47 ⨾ part n.over timed ⨾ part n.crossing levelled ⨾ opt (part n.second levelled ⨾ part n.sense (one (Of 65 66 66 66 66)))

abbrev pub g14 : G
g14 = field (n.point ∷ n.over ∷ n.crossing ∷ n.second ∷ n.sense ∷ []) in14

-- 15: K or N with four digits, or M with three; a level or VFR; a blank; words. At most 300 bytes: after the speed k are left
unfoldable pub after15 : ℕ → ℕ → G
after15 o k =
    alt (part (o + n.level) level3 ⨾ byte 32 ⨾ part (o + n.route) (words (k - 5)))
    (alt (part (o + n.level) level4 ⨾ byte 32 ⨾ part (o + n.route) (words (k - 6)))
    (part (o + n.level) (lit (86 ∷ 70 ∷ 82 ∷ [])) ⨾ byte 32 ⨾ part (o + n.route) (words (k - 4))))

unfoldable pub in15 : ℕ → G
in15 o =
    alt (part (o + n.speed) (one (Of 75 78 78 78 78) ⨾ run Digit 4 4) ⨾ after15 o 295)
    (part (o + n.speed) (byte 77 ⨾ run Digit 3 3) ⨾ after15 o 296)

abbrev pub g15 : ℕ → G
g15 o = field ((o + n.speed) ∷ (o + n.level) ∷ (o + n.route) ∷ []) (in15 o)

-- 16: four letters, then optionally a time-shaped elapsed time (hours to 99), then up to two alternates, each a blank and four letters
unfoldable pub alternates : ℕ → G
alternates o = opt (byte 32 ⨾ part (o + n.alternate) (run Letter 4 4) ⨾ opt (byte 32 ⨾ part (o + n.alternate2) (run Letter 4 4)))

unfoldable pub in16 : ℕ → G
in16 o = part (o + n.destination) (run Letter 4 4) ⨾ opt (part (o + n.elapsed) (run Digit 2 2 ⨾ minute)) ⨾ alternates o

-- the same from its fifth byte
unfoldable pub rest16 : ℕ → G
rest16 o = opt (part (o + n.elapsed) (run Digit 2 2 ⨾ minute)) ⨾ alternates o

abbrev pub g16 : ℕ → G
g16 o = field ((o + n.destination) ∷ (o + n.elapsed) ∷ (o + n.alternate) ∷ (o + n.alternate2) ∷ []) (in16 o)

-- 16s is the four letters
abbrev pub g16s : G
g16s = part n.destination (run Letter 4 4)

-- 18: "0", or three or four letters, "/" and words. At most 300 bytes
abbrev pub nothing18 : ℕ → G
nothing18 o = part (o + n.indicator) (byte 48)

unfoldable pub in_three18 : ℕ → G
in_three18 o = part (o + n.indicator) (run Letter 3 3) ⨾ byte 47 ⨾ part (o + n.other) (words 296)

abbrev pub three18 : ℕ → G
three18 o = field ((o + n.indicator) ∷ (o + n.other) ∷ []) (in_three18 o)

unfoldable pub in_four18 : ℕ → G
in_four18 o = part (o + n.indicator) (run Letter 4 4) ⨾ byte 47 ⨾ part (o + n.other) (words 295)

abbrev pub four18 : ℕ → G
four18 o = field ((o + n.indicator) ∷ (o + n.other) ∷ []) (in_four18 o)

unfoldable pub in18 : ℕ → G
in18 o = alt (nothing18 o) (alt (three18 o) (four18 o))

abbrev pub g18 : ℕ → G
g18 o = field ((o + n.indicator) ∷ (o + n.other) ∷ []) (in18 o)

-- 31 is words, at most 20 bytes; 32 is words, at most 60
abbrev pub g31 : G
g31 = part n.sector (words 20)

abbrev pub g32 : G
g32 = part n.track (words 60)

-- `unfolding fieldRules` opens the rule of every field
unfoldable pub field_rules : Unit {0}
unfolding in_numbered in07 in08 counted in09 in10 hour minute timed in13 in13o level3 level4 levelled bearing bearing_from degrees minutes pointed in14 after15 in15 alternates in16 rest16 in_three18 in_four18 in18
field_rules = tt
