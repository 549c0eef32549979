-- Tests that antt computes over a grammar: `good` says that one byte ahead decides where each piece ends, `plain` that
-- a text has one reading only, `longest` bounds the texts.
use Rattle.std.specs.Prelude.{Bool, true, false, cond, not, ◌&&◌, ◌||◌, List, [], ◌∷◌, ◌++◌, ℕ, ◌+◌, max, replicate, leb, ltb}
use Rattle.scan.specs.declared.Class.TheVariants.{Word}
use Rattle.scan.specs.Grammar.{Ranges, ranges, is_in, G, eps, run, words, seq, alt, part, field}
use Rattle.scan.specs.Scanner.{among, occurs}

unfoldable pub nullable : G → Bool
nullable eps = true
nullable (run c lo hi) = leb lo 0
nullable (words k) = false
nullable (seq a b) = nullable a && nullable b
nullable (alt a b) = nullable a || nullable b
nullable (part n g) = nullable g
nullable (field ns g) = nullable g

-- the bytes that can stand first
unfoldable pub first : G → Ranges
first eps = []
first (run c lo hi) = ranges c
first (words k) = ranges Word
first (seq a b) = first a ++ cond (nullable a) (first b) []
first (alt a b) = first a ++ first b
first (part n g) = first g
first (field ns g) = first g

unfoldable pub clear : ℕ × ℕ → Ranges → Bool
clear r [] = true
clear r (q ∷ d) = (ltb r.1 q.0 || ltb q.1 r.0) && clear r d

-- no byte is in both
unfoldable pub apart : Ranges → Ranges → Bool
apart [] d = true
apart (r ∷ c) d = clear r d && apart c d

-- the bytes that can stand anywhere
unfoldable pub bytes : G → Ranges
bytes eps = []
bytes (run c lo hi) = ranges c
bytes (words k) = (32, 32) ∷ ranges Word
bytes (seq a b) = bytes a ++ bytes b
bytes (alt a b) = bytes a ++ bytes b
bytes (part n g) = bytes g
bytes (field ns g) = bytes g

-- the bytes that can follow a whole text within a longer whole text
unfoldable pub follow : G → Ranges
follow eps = []
follow (run c lo hi) = cond (ltb lo hi) (ranges c) []
follow (words k) = (32, 32) ∷ ranges Word
follow (seq a b) = follow b ++ cond (nullable b) (follow a) []
follow (alt a b) =
    cond (apart (first a) (first b))
    (follow a ++ follow b ++ (cond (nullable a) (first b) [] ++ cond (nullable b) (first a) []))
    (bytes a ++ bytes b)
follow (part n g) = follow g
follow (field ns g) = follow g

unfoldable pub some : Ranges → ℕ
some [] = 0
some (r ∷ c) = r.0

-- no class is empty, and where b follows a, no byte that can start b can carry a whole a on
unfoldable pub good : G → Bool
good eps = true
good (run c lo hi) = leb lo hi && is_in c (some (ranges c))
good (words k) = ltb 0 k
good (seq a b) = good a && good b && apart (follow a) (first b)
good (alt a b) = good a && good b
good (part n g) = good g
good (field ns g) = good g

-- ONE READING

-- whether all texts are of one length
unfoldable pub fixed : G → Bool
fixed eps = true
fixed (run c lo hi) = leb hi lo
fixed (words k) = false
fixed (seq a b) = fixed a && fixed b
fixed (alt a b) = false
fixed (part n g) = fixed g
fixed (field ns g) = fixed g

-- the bytes that can stand first, second and so on, as far as that is plain to see
unfoldable pub heads : G → List Ranges
heads eps = []
heads (run c lo hi) = replicate lo (ranges c)
heads (words k) = ranges Word ∷ []
heads (seq a b) = heads a ++ cond (fixed a) (heads b) []
heads (alt a b) = []
heads (part n g) = heads g
heads (field ns g) = heads g

-- some byte tells them apart
unfoldable pub differ : List Ranges → List Ranges → Bool
differ [] d = false
differ (r ∷ c) [] = false
differ (r ∷ c) (q ∷ d) = apart r q || differ c d

-- no text is of both; b is no alternative
unfoldable pub off_leaf : G → G → Bool
off_leaf (alt x y) b = off_leaf x b && off_leaf y b
off_leaf eps b = not (nullable b)
off_leaf (run c lo hi) b = differ (heads (run c lo hi)) (heads b)
off_leaf (words k) b = differ (heads (words k)) (heads b)
off_leaf (seq x y) b = differ (heads (seq x y)) (heads b)
off_leaf (part n g) b = differ (heads g) (heads b)
off_leaf (field ns g) b = off_leaf g b

-- no text is of both
unfoldable pub off : G → G → Bool
off a (alt x y) = off a x && off a y
off a eps = off_leaf a eps
off a (run c lo hi) = off_leaf a (run c lo hi)
off a (words k) = off_leaf a (words k)
off a (seq x y) = off_leaf a (seq x y)
off a (part n g) = off_leaf a (part n g)
off a (field ns g) = off a g

unfoldable pub names : G → List ℕ
names eps = []
names (run c lo hi) = []
names (words k) = []
names (seq a b) = names a ++ names b
names (alt a b) = names a ++ names b
names (part n g) = n ∷ []
names (field ns g) = ns

-- none of the names occurs
unfoldable pub strange : List ℕ → G → Bool
strange [] g = true
strange (n ∷ ns) g = not (occurs n g) && strange ns g

-- all are among the names
unfoldable pub covers : List ℕ → List ℕ → Bool
covers ns [] = true
covers ns (m ∷ ms) = among m ns && covers ns ms

-- no text is of two alternatives, no name stands twice, no part is empty, no field has parts that it does not name
unfoldable pub plain : G → Bool
plain eps = true
plain (run c lo hi) = true
plain (words k) = true
plain (seq a b) = plain a && plain b && strange (names a) b
plain (alt a b) = plain a && plain b && off a b
plain (part n g) = not (nullable g)
plain (field ns g) = plain g && covers ns (names g)

-- no text is longer
unfoldable pub longest : G → ℕ
longest eps = 0
longest (run c lo hi) = hi
longest (words k) = k
longest (seq a b) = longest a + longest b
longest (alt a b) = max (longest a) (longest b)
longest (part n g) = longest g
longest (field ns g) = longest g

-- WHAT HAS TO BE SEEN THROUGH for a test to be computed: `unfolding goodTest` opens all that `good` is made of

unfoldable pub good_test : Unit {0}
unfolding nullable first clear apart bytes follow some good
good_test = tt

unfoldable pub plain_test : Unit {0}
unfolding among occurs nullable clear apart fixed heads differ off_leaf off names strange covers plain
plain_test = tt
