-- Short names for grammars.
use Rattle.std.specs.Prelude.{List, [], ◌∷◌, ℕ}
use Rattle.scan.specs.declared.Class.{Class}
use Rattle.scan.specs.declared.Class.TheVariants.{Byte}
use Rattle.scan.specs.Grammar.{G, eps, run, seq, alt}

-- one after the other
infixr 20 ◌⨾◌
abbrev pub ◌⨾◌ : G → G → G
a ⨾ b = seq a b

-- the byte b
abbrev pub byte : ℕ → G
byte b = run (Byte b) 1 1

-- one byte of a class
abbrev pub one : Class → G
one c = run c 1 1

-- there or not
abbrev pub opt : G → G
opt g = alt eps g

-- a given text
abbrev pub lit : List ℕ → G
lit [] = eps
lit (b ∷ w) = byte b ⨾ lit w
