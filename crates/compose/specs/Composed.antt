-- What the blocks make is the text that the parts compose.
use Rattle.std.specs.Prelude.{◌≡◌, refl, List, [], ◌∷◌, ℕ}
use Rattle.std.proofs.Common.{sym}
use Rattle.scan.specs.Scanner.{among, occurs}
use Rattle.scan.specs.Tests.{names}
use Rattle.fields.specs.Fields.{field_rules}
use Rattle.message.specs.declared.Kind.{Kind}
use Rattle.message.specs.declared.Kind.TheVariants.{None, Fpl, Cpl, Est, Chg, Cnl, Rti, Rta, Rla, Lam, Lrm}
use Rattle.message.specs.declared.Record.{Record}
use Rattle.compose.specs.Layout.{filled, only, is_nil, takes_first, first, laid}
use Rattle.compose.specs.Order.{ordered}
use Rattle.scan.specs.Grammar.{size_of, G}
use Rattle.reader.specs.Reading.{cut}
use Rattle.pen.specs.Listed.{span_of}
use Rattle.pen.specs.Laying.{join, opening, blocks}

-- THE ORDER OF A TYPE

unfoldable pub order_of : Kind → G
order_of None = ordered 32 32 32
order_of Fpl = ordered 70 80 76
order_of Cpl = ordered 67 80 76
order_of Est = ordered 69 83 84
order_of Chg = ordered 67 72 71
order_of Cnl = ordered 67 78 76
order_of Rti = ordered 82 84 73
order_of Rta = ordered 82 84 65
order_of Rla = ordered 82 76 65
order_of Lam = ordered 76 65 77
order_of Lrm = ordered 76 82 77

-- THE RECORD'S PARTS, LAID OUT

abbrev pub sizes : Record → ℕ → ℕ
sizes r k = size_of (span_of r k)

abbrev pub bytes_in : List ℕ → Record → ℕ → List ℕ
bytes_in d r k = cut d (span_of r k)

unfoldable pub composed : List ℕ → Record → List ℕ
composed d r = laid (order_of r.kind) (sizes r) (bytes_in d r)

laid_blocks : (d : List ℕ) (r : Record) (a b c : ℕ) → laid (ordered a b c) (sizes r) (bytes_in d r) ≡ join (blocks (40 ∷ a ∷ b ∷ c ∷ []) d r.parts)
unfolding filled only is_nil takes_first first laid ordered among occurs names field_rules
laid_blocks d r a b c = refl

order_blocks : (d : List ℕ) (r : Record) (k : Kind) → laid (order_of k) (sizes r) (bytes_in d r) ≡ join (blocks (opening k) d r.parts)
unfolding order_of opening
order_blocks d r None = laid_blocks d r 32 32 32
order_blocks d r Fpl = laid_blocks d r 70 80 76
order_blocks d r Cpl = laid_blocks d r 67 80 76
order_blocks d r Est = laid_blocks d r 69 83 84
order_blocks d r Chg = laid_blocks d r 67 72 71
order_blocks d r Cnl = laid_blocks d r 67 78 76
order_blocks d r Rti = laid_blocks d r 82 84 73
order_blocks d r Rta = laid_blocks d r 82 84 65
order_blocks d r Rla = laid_blocks d r 82 76 65
order_blocks d r Lam = laid_blocks d r 76 65 77
order_blocks d r Lrm = laid_blocks d r 76 82 77

pub composed_is : (d : List ℕ) (r : Record) → join (blocks (opening r.kind) d r.parts) ≡ composed d r
unfolding composed
composed_is d r = sym (order_blocks d r r.kind)
