-- NUMBERS AS BYTES, two for each, high byte first; of a number above 65535, what its two lowest bytes say.
use Rattle.std.specs.Prelude.{◌≡◌, refl, List, [], ◌∷◌, ◌++◌, ℕ, zero, suc, ◌+◌, ◌*◌, ◌<◌, length, get_or}
use Rattle.std.proofs.Common.{ap, ◌∙◌, arith}
use Rattle.places.specs.Bytes.{high, low, number_at}

-- the bytes of some numbers
unfoldable pub bytes_in : List ℕ → List ℕ
bytes_in [] = []
bytes_in (n ∷ ns) = low (high n) ∷ low n ∷ bytes_in ns

-- the k-th number in some bytes
abbrev pub held : List ℕ → ℕ → ℕ
held b k = number_at (2 * k) b

-- each number fits two bytes
unfoldable pub Small : List ℕ → Type 0
Small [] = Unit {0}
Small (n ∷ ns) = (n < 65536) × Small ns

pub bytes_long : (ns : List ℕ) → length (bytes_in ns) ≡ 2 * length ns
unfolding bytes_in
bytes_long [] = refl
bytes_long (n ∷ ns) = omega (arith, bytes_long ns)

pub bytes_join : (ns ks : List ℕ) → bytes_in (ns ++ ks) ≡ bytes_in ns ++ bytes_in ks
unfolding bytes_in
bytes_join [] ks = refl
bytes_join (n ∷ ns) ks = ap (λ (l : List ℕ). low (high n) ∷ low n ∷ l) (bytes_join ns ks)

-- two bytes further on
further : (a b : ℕ) (l : List ℕ) (i : ℕ) → get_or (a ∷ b ∷ l) (i + 2) 0 ≡ get_or l i 0
further a b l i = let e : i + 2 ≡ suc (suc i) = omega arith in ap (λ (j : ℕ). get_or (a ∷ b ∷ l) j 0) e

-- what was packed is what is held
pub held_back : (ns : List ℕ) → Small ns → (k : ℕ) → held (bytes_in ns) k ≡ get_or ns k 0
unfolding bytes_in Small
held_back [] s k = refl
held_back (n ∷ ns) s zero = omega (arith, s.0)
held_back (n ∷ ns) s (suc k) =
    let x : 2 * suc k ≡ 2 * k + 2 = omega arith in
    let y : 2 * suc k + 1 ≡ 2 * k + 1 + 2 = omega arith in
    (λ i. get_or (low (high n) ∷ low n ∷ bytes_in ns) (x i) 0 * 256 + get_or (low (high n) ∷ low n ∷ bytes_in ns) (y i) 0)
    ∙ (λ i. further (low (high n)) (low n) (bytes_in ns) (2 * k) i * 256 + further (low (high n)) (low n) (bytes_in ns) (2 * k + 1) i)
    ∙ held_back ns s.1 k
