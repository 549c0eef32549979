-- What may stand in a CHG after field 16: its own field 18 or none, then one or more fields 22.
use Rattle.std.specs.Prelude.{List, [], ◌∷◌, ℕ, ◌-◌}
use Rattle.scan.specs.Grammar.{G, run, words, alt, part, field}
use Rattle.scan.specs.declared.Class.TheVariants.{Letter}
use Rattle.scan.specs.Texts.{◌⨾◌, byte, opt, lit}
use Rattle.fields.specs.Names.{amended, indicator, other}
use Rattle.fields.specs.Fields.{◌─◌, g07, g08, g09, g10, g13, g15, g16, nothing18, three18, four18, g18, field_rules}

-- 22: 07, 08, 09, 10, 13, 15, 16 or 18, "/", and that field. Numbers ascend, none twice: each says what may stand from its number on
unfoldable pub from18 : G
from18 = lit (49 ∷ 56 ∷ 47 ∷ []) ⨾ g18 amended

unfoldable pub from16 : G
from16 = alt (lit (49 ∷ 54 ∷ 47 ∷ []) ⨾ g16 amended ⨾ opt (byte 45 ⨾ from18)) from18

unfoldable pub from15 : G
from15 = alt (lit (49 ∷ 53 ∷ 47 ∷ []) ⨾ g15 amended ⨾ opt (byte 45 ⨾ from16)) from16

unfoldable pub from13 : G
from13 = alt (lit (49 ∷ 51 ∷ 47 ∷ []) ⨾ g13 amended ⨾ opt (byte 45 ⨾ from15)) from15

unfoldable pub from10 : G
from10 = alt (lit (49 ∷ 48 ∷ 47 ∷ []) ⨾ g10 amended ⨾ opt (byte 45 ⨾ from13)) from13

unfoldable pub from09 : G
from09 = alt (lit (48 ∷ 57 ∷ 47 ∷ []) ⨾ g09 amended ⨾ opt (byte 45 ⨾ from10)) from10

unfoldable pub from08 : G
from08 = alt (lit (48 ∷ 56 ∷ 47 ∷ []) ⨾ g08 amended ⨾ opt (byte 45 ⨾ from09)) from09

-- 07 stands alone
unfoldable pub in_changes : G
in_changes = alt (lit (48 ∷ 55 ∷ 47 ∷ []) ⨾ g07 amended) from08

abbrev pub amended_parts : List ℕ
amended_parts = 33 ∷ 34 ∷ 35 ∷ 36 ∷ 37 ∷ 38 ∷ 39 ∷ 40 ∷ 41 ∷ 42 ∷ 43 ∷ 44 ∷ 45 ∷ 46 ∷ 47 ∷ 48 ∷ 49 ∷ 50 ∷ 51 ∷ 52 ∷ []

abbrev pub changes : G
changes = field amended_parts in_changes

-- 18 that begins with n letters, 300 bytes at most
unfoldable pub letters18 : ℕ → G
letters18 n = part indicator (run Letter n n) ⨾ byte 47 ⨾ part other (words (299 - n))

-- 18 or none, then one or more 22. The forms of 18 stand apart, since "0" may also begin a 22
unfoldable pub in_changed : G
in_changed = alt changes (alt (nothing18 0 ─ changes) (alt (three18 0 ─ changes) (four18 0 ─ changes)))

abbrev pub changed : G
changed = field (indicator ∷ other ∷ amended_parts) in_changed

-- `unfolding changeRules` opens these rules and those of every field
unfoldable pub change_rules : Unit {0}
unfolding field_rules from18 from16 from15 from13 from10 from09 from08 in_changes in_changed
change_rules = tt
