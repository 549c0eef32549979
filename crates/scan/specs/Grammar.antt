-- A grammar over bytes: what it derives, which beginnings can be carried on, and which parts of a text it names.
-- This file is what has to be believed of texts; how they are scanned stands in Scanner, and that the two agree in Theory.
use Rattle.std.specs.Prelude.{◌≡◌, ◌⊎◌, Bool, true, false, cond, ◌&&◌, ◌||◌, List, [], ◌∷◌, ◌++◌, ℕ, ◌+◌, ◌*◌, ◌/◌, ◌%◌, ◌≤◌, length, take, leb, eqb}
use Rattle.scan.specs.declared.Class.{Class}
use Rattle.scan.specs.declared.Class.TheVariants.{Letter, Digit, Octal, Alnum, Word, Byte, Range, Two, Of}

-- a set of bytes: ranges, each from its first byte to its last
abbrev pub Ranges : Type 0
Ranges = List (ℕ × ℕ)

abbrev pub has : Ranges → ℕ → Bool
has [] x = false
has (r ∷ c) x = has c x || (leb r.0 x && leb x r.1)

-- Letter: A to Z. Digit: 0 to 9. Octal: 0 to 7. Alnum: letters and digits.
-- Word: letters, digits and / . , ' + : ?
-- Byte b: b alone. Range a b: a to b. Two a b c d: a to b and c to d. Of a b c d e: these five, of which some may be
-- the same.
abbrev pub ranges : Class → Ranges
ranges Letter = (65, 90) ∷ []
ranges Digit = (48, 57) ∷ []
ranges Octal = (48, 55) ∷ []
ranges Alnum = (65, 90) ∷ (48, 57) ∷ []
ranges Word = (65, 90) ∷ (46, 58) ∷ (43, 44) ∷ (39, 39) ∷ (63, 63) ∷ []
ranges (Byte b) = (b, b) ∷ []
ranges (Range a b) = (a, b) ∷ []
ranges (Two a b c d) = (a, b) ∷ (c, d) ∷ []
ranges (Of a b c d e) = (a, a) ∷ (b, b) ∷ (c, c) ∷ (d, d) ∷ (e, e) ∷ []

abbrev pub is_in : Class → ℕ → Bool
is_in c x = has (ranges c) x

-- every byte is of the class
unfoldable pub all : Class → List ℕ → Bool
all c [] = true
all c (x ∷ s) = is_in c x && all c s

-- runs of word bytes with one blank (32) between; `m` says whether a word byte stands just before
unfoldable pub text : Bool → List ℕ → Bool
text m [] = m
text m (x ∷ s) = cond (is_in Word x) (text true s) (m && is_in (Byte 32) x && text false s)

-- eps: nothing. run c lo hi: from lo to hi bytes of a class. words k: words of at most k bytes.
-- seq: one after the other. alt: the one or the other. part n g: a g that is the part n of the record.
-- field ns g: a g with no parts but those named in ns, so that one need not look inside.
pub data G : Type 0 where
  eps : G
  run : Class → ℕ → ℕ → G
  words : ℕ → G
  seq : G → G → G
  alt : G → G → G
  part : ℕ → G → G
  field : List ℕ → G → G

abbrev pub Derives : G → List ℕ → Type 0
Derives eps w = w ≡ []
Derives (run c lo hi) w = (all c w ≡ true) × (lo ≤ length w) × (length w ≤ hi)
Derives (words k) w = (text false w ≡ true) × (length w ≤ k)
Derives (seq a b) w = (u : List ℕ) × (v : List ℕ) × (w ≡ u ++ v) × Derives a u × Derives b v
Derives (alt a b) w = Derives a w ⊎ Derives b w
Derives (part n g) w = Derives g w
Derives (field ns g) w = Derives g w

-- some continuation is derived
abbrev pub Viable : G → List ℕ → Type 0
Viable g w = (v : List ℕ) × Derives g (w ++ v)

-- s is not derived, and n is the length of its longest beginning that can be carried on
pub record Refusal (g : G) (s : List ℕ) (n : ℕ) : Type 0 where
  pub never : Derives g s → ⊥
  pub within : n ≤ length s
  pub viable : Viable g (take n s)
  pub longest : (m : ℕ) → m ≤ length s → Viable g (take m s) → m ≤ n

-- where a part stands and its length, as one number, which the code has too; no text that is read is as long as 65,536 bytes
abbrev pub Span : Type 0
Span = ℕ

abbrev pub span : ℕ → ℕ → Span
span at len = at * 65536 + len

abbrev pub place_of : Span → ℕ
place_of p = p / 65536

abbrev pub size_of : Span → ℕ
size_of p = p % 65536

-- a part of a text: its name, where it stands and its length
pub record Part : Type 0 where
  pub name : ℕ
  pub span : Span

abbrev pub placed : ℕ → ℕ → ℕ → Part
placed n at len = record { name = n; span = span at len }

-- w, which stands at `at` of a text, is derived, and ps are its parts in their order
abbrev pub Reads : G → ℕ → List ℕ → List Part → Type 0
Reads eps at w ps = (w ≡ []) × (ps ≡ [])
Reads (run c lo hi) at w ps = Derives (run c lo hi) w × (ps ≡ [])
Reads (words k) at w ps = Derives (words k) w × (ps ≡ [])
Reads (seq a b) at w ps =
    (u : List ℕ) × (v : List ℕ) × (p : List Part) × (q : List Part) × (w ≡ u ++ v) × (ps ≡ p ++ q) × Reads a at u p × Reads b (at + length u) v q
Reads (alt a b) at w ps = Reads a at w ps ⊎ Reads b at w ps
Reads (part n g) at w ps = Derives g w × (ps ≡ placed n at (length w) ∷ [])
Reads (field ns g) at w ps = Reads g at w ps

-- an absent part
abbrev pub none : Span
none = 0

-- where the part n stands
abbrev pub look : ℕ → List Part → Span
look n [] = none
look n (p ∷ ps) = cond (eqb n p.name) p.span (look n ps)
