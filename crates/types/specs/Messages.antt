-- The ten messages of document 01, line by line of its table, as grammars.
use Rattle.std.specs.Prelude.{[], ◌∷◌, ℕ}
use Rattle.scan.specs.declared.Class.TheVariants.{Digit}
use Rattle.scan.specs.Grammar.{G, run, alt, part}
use Rattle.scan.specs.Texts.{◌⨾◌, byte, lit}
use Rattle.fields.specs.Names.{reason, sender, receiver, number, reference_sender, reference_receiver, reference_number}
use Rattle.fields.specs.Fields.{◌─◌, numbered, g07, g07a, g08, g09, g10, g13, g13s, g13o, g14, g15, g16, g16s, g18, g31, g32}
use Rattle.changes.specs.Changes.{changed, change_rules}

-- "(", three letters of type, the number
abbrev pub opened : ℕ → ℕ → ℕ → G
opened a b c = lit (40 ∷ a ∷ b ∷ c ∷ []) ⨾ numbered sender receiver number

-- the same, and the reference
abbrev pub referring : ℕ → ℕ → ℕ → G
referring a b c = opened a b c ⨾ numbered reference_sender reference_receiver reference_number

unfoldable pub fpl : G
fpl = opened 70 80 76 ─ g07 0 ─ g08 0 ─ g09 0 ─ g10 0 ─ g13 0 ─ g15 0 ─ g16 0 ─ g18 0 ⨾ byte 41

unfoldable pub cpl : G
cpl = opened 67 80 76 ─ g07 0 ─ g08 0 ─ g09 0 ─ g10 0 ─ g13s ─ g14 ─ g15 0 ─ g16s ─ g18 0 ⨾ byte 41

unfoldable pub est : G
est = referring 69 83 84 ─ g07 0 ─ g13s ─ g14 ─ g16s ⨾ byte 41

unfoldable pub chg : G
chg = referring 67 72 71 ─ g07a ─ g13o ─ g16s ─ changed ⨾ byte 41

unfoldable pub cnl : G
cnl = referring 67 78 76 ─ g07a ─ g13o ─ g16s ─ g18 0 ⨾ byte 41

unfoldable pub rti : G
rti = referring 82 84 73 ─ g07 0 ─ g13s ─ g16s ─ g31 ─ g32 ⨾ byte 41

unfoldable pub rta : G
rta = referring 82 84 65 ─ g07a ─ g13s ─ g16s ─ g31 ⨾ byte 41

unfoldable pub rla : G
rla = referring 82 76 65 ─ g31 ⨾ byte 41

unfoldable pub lam : G
lam = referring 76 65 77 ⨾ byte 41

-- "RMK/" and two digits
unfoldable pub lrm : G
lrm = referring 76 82 77 ─ lit (82 ∷ 77 ∷ 75 ∷ 47 ∷ []) ⨾ part reason (run Digit 2 2) ⨾ byte 41

unfoldable pub message : G
message = alt fpl (alt cpl (alt est (alt chg (alt cnl (alt rti (alt rta (alt rla (alt lam lrm))))))))

-- `unfolding messageRules` opens all of them, to the last field
unfoldable pub message_rules : Unit {0}
unfolding change_rules fpl cpl est chg cnl rti rta rla lam lrm message
message_rules = tt
