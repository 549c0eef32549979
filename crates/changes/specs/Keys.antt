-- The numbers of fields 22 tell them apart, and two or four bytes the ways to begin after field 16: what antt computes.
use Rattle.std.specs.Prelude.{◌≡◌, refl, true}
use Rattle.scan.specs.Grammar.{G, alt}
use Rattle.scan.specs.Texts.{◌⨾◌, byte, opt, lit}
use Rattle.scan.specs.Tests.{good, good_test}
use Rattle.scan.specs.Picks.{sunder, sunder_test}
use Rattle.fields.specs.Names.{amended}
use Rattle.fields.specs.Fields.{◌─◌, g07, g08, g09, g10, g13, g15, g16, nothing18, three18, four18}
use Rattle.changes.specs.Changes.{from18, from16, from15, from13, from10, from09, from08, changes, change_rules}
use Rattle.changes.specs.Ascend.{key07, key08, key09, key10, key13, key15, key16}

-- what follows the number 16
abbrev pub rest16 : G
rest16 = g16 amended ⨾ opt (byte 45 ⨾ from18)

-- what follows the number 15
abbrev pub rest15 : G
rest15 = g15 amended ⨾ opt (byte 45 ⨾ from16)

-- what follows the number 13
abbrev pub rest13 : G
rest13 = g13 amended ⨾ opt (byte 45 ⨾ from15)

-- what follows the number 10
abbrev pub rest10 : G
rest10 = g10 amended ⨾ opt (byte 45 ⨾ from13)

-- what follows the number 09
abbrev pub rest09 : G
rest09 = g09 amended ⨾ opt (byte 45 ⨾ from10)

-- what follows the number 08
abbrev pub rest08 : G
rest08 = g08 amended ⨾ opt (byte 45 ⨾ from09)

abbrev pub rest07 : G
rest07 = g07 amended

pub good_from18 : good from18 ≡ true
unfolding change_rules good_test
good_from18 = refl

pub good_from16 : good from16 ≡ true
unfolding change_rules good_test
good_from16 = refl

pub good_from15 : good from15 ≡ true
unfolding change_rules good_test
good_from15 = refl

pub good_from13 : good from13 ≡ true
unfolding change_rules good_test
good_from13 = refl

pub good_from10 : good from10 ≡ true
unfolding change_rules good_test
good_from10 = refl

pub good_from09 : good from09 ≡ true
unfolding change_rules good_test
good_from09 = refl

pub good_from08 : good from08 ≡ true
unfolding change_rules good_test
good_from08 = refl

pub good_changes : good changes ≡ true
unfolding change_rules good_test
good_changes = refl

pub good_16 : good (lit key16 ⨾ rest16) ≡ true
unfolding change_rules good_test
good_16 = refl

pub apart_16 : sunder 2 (lit key16 ⨾ rest16) from18 ≡ true
unfolding change_rules sunder_test
apart_16 = refl

pub good_15 : good (lit key15 ⨾ rest15) ≡ true
unfolding change_rules good_test
good_15 = refl

pub apart_15 : sunder 2 (lit key15 ⨾ rest15) from16 ≡ true
unfolding change_rules sunder_test
apart_15 = refl

pub good_13 : good (lit key13 ⨾ rest13) ≡ true
unfolding change_rules good_test
good_13 = refl

pub apart_13 : sunder 2 (lit key13 ⨾ rest13) from15 ≡ true
unfolding change_rules sunder_test
apart_13 = refl

pub good_10 : good (lit key10 ⨾ rest10) ≡ true
unfolding change_rules good_test
good_10 = refl

pub apart_10 : sunder 2 (lit key10 ⨾ rest10) from13 ≡ true
unfolding change_rules sunder_test
apart_10 = refl

pub good_09 : good (lit key09 ⨾ rest09) ≡ true
unfolding change_rules good_test
good_09 = refl

pub apart_09 : sunder 2 (lit key09 ⨾ rest09) from10 ≡ true
unfolding change_rules sunder_test
apart_09 = refl

pub good_08 : good (lit key08 ⨾ rest08) ≡ true
unfolding change_rules good_test
good_08 = refl

pub apart_08 : sunder 2 (lit key08 ⨾ rest08) from09 ≡ true
unfolding change_rules sunder_test
apart_08 = refl

pub good_07 : good (lit key07 ⨾ rest07) ≡ true
unfolding change_rules good_test
good_07 = refl

pub apart_07 : sunder 2 (lit key07 ⨾ rest07) from08 ≡ true
unfolding change_rules sunder_test
apart_07 = refl

abbrev pub nothing : G
nothing = nothing18 0 ─ changes

pub good_nothing : good nothing ≡ true
unfolding change_rules good_test
good_nothing = refl

abbrev pub three : G
three = three18 0 ─ changes

pub good_three : good three ≡ true
unfolding change_rules good_test
good_three = refl

abbrev pub four : G
four = four18 0 ─ changes

pub good_four : good four ≡ true
unfolding change_rules good_test
good_four = refl

abbrev pub lettered : G
lettered = alt three four

abbrev pub owning : G
owning = alt nothing lettered

pub good_lettered : good lettered ≡ true
unfolding change_rules good_test
good_lettered = refl

pub good_owning : good owning ≡ true
unfolding change_rules good_test
good_owning = refl

pub three_four : sunder 4 three four ≡ true
unfolding change_rules sunder_test
three_four = refl

pub three_nothing : sunder 4 three nothing ≡ true
unfolding change_rules sunder_test
three_nothing = refl

pub three_changes : sunder 4 three changes ≡ true
unfolding change_rules sunder_test
three_changes = refl

pub four_three : sunder 4 four three ≡ true
unfolding change_rules sunder_test
four_three = refl

pub four_nothing : sunder 4 four nothing ≡ true
unfolding change_rules sunder_test
four_nothing = refl

pub four_changes : sunder 4 four changes ≡ true
unfolding change_rules sunder_test
four_changes = refl

pub changes_owning : sunder 2 changes owning ≡ true
unfolding change_rules sunder_test
changes_owning = refl

pub nothing_lettered : sunder 2 nothing lettered ≡ true
unfolding change_rules sunder_test
nothing_lettered = refl

pub nothing_changes : sunder 2 nothing changes ≡ true
unfolding change_rules sunder_test
nothing_changes = refl
