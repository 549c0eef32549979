-- THE HEAD AS 12 BYTES, in document 01's order: our unit's name, the partner's, next number, highest number received.
use Rattle.std.specs.Prelude.{◌≡◌, refl, List, [], ◌∷◌, ◌++◌, ℕ, ◌+◌, ◌*◌, ◌≤◌, ◌<◌, length, take, drop, get_or}
use Rattle.std.proofs.Common.{arith, length-append}
use Rattle.head.specs.declared.Head.{Head}
use Rattle.places.specs.Bytes.{number_at, high, low}
use Rattle.packed.specs.Numbers.{bytes_in, bytes_long}

-- the head that stands in 12 bytes
abbrev pub head_in : List ℕ → Head
head_in b = record { ours = take 4 b; partners = take 4 (drop 4 b); next = number_at 8 b; highest = number_at 10 b }

-- its bytes; of a number above 65535, what its two lowest bytes say
unfoldable pub head_bytes : Head → List ℕ
head_bytes h = h.ours ++ h.partners ++ bytes_in (h.next ∷ h.highest ∷ [])

pub head_long : (h : Head) → length h.ours ≡ 4 → length h.partners ≡ 4 → length (head_bytes h) ≡ 12
unfolding head_bytes
head_long h m n = omega (arith, length-append (h.ours ++ h.partners) (bytes_in (h.next ∷ h.highest ∷ [])), length-append h.ours h.partners, bytes_long (h.next ∷ h.highest ∷ []))

-- what stands in them, byte by byte
front_four : (b : List ℕ) → 4 ≤ length b → get_or b 0 0 ∷ get_or b 1 0 ∷ get_or b 2 0 ∷ get_or b 3 0 ∷ [] ≡ take 4 b
front_four [] h = absurd (omega (arith, h))
front_four (w ∷ []) h = absurd (omega (arith, h))
front_four (w ∷ x ∷ []) h = absurd (omega (arith, h))
front_four (w ∷ x ∷ y ∷ []) h = absurd (omega (arith, h))
front_four (w ∷ x ∷ y ∷ z ∷ b) h = refl

next_four : (b : List ℕ) → 8 ≤ length b → get_or b 4 0 ∷ get_or b 5 0 ∷ get_or b 6 0 ∷ get_or b 7 0 ∷ [] ≡ take 4 (drop 4 b)
next_four [] h = absurd (omega (arith, h))
next_four (w ∷ []) h = absurd (omega (arith, h))
next_four (w ∷ x ∷ []) h = absurd (omega (arith, h))
next_four (w ∷ x ∷ y ∷ []) h = absurd (omega (arith, h))
next_four (w ∷ x ∷ y ∷ z ∷ b) h = front_four b (omega (arith, h))

pub head_of : (b : List ℕ) (x y : ℕ) → length b ≡ 12 → x ≡ number_at 8 b → y ≡ number_at 10 b → record { ours = get_or b 0 0 ∷ get_or b 1 0 ∷ get_or b 2 0 ∷ get_or b 3 0 ∷ []; partners = get_or b 4 0 ∷ get_or b 5 0 ∷ get_or b 6 0 ∷ get_or b 7 0 ∷ []; next = x; highest = y } ≡ head_in b
head_of b x y z p q = λ i. record { ours = front_four b (omega arith) i; partners = next_four b (omega arith) i; next = p i; highest = q i }

two : (n : ℕ) → n < 65536 → low (high n) * 256 + low n ≡ n
two n h = omega arith

-- A HEAD COMES BACK from its bytes
pub head_back : (h : Head) → length h.ours ≡ 4 → length h.partners ≡ 4 → h.next < 65536 → h.highest < 65536 → head_in (head_bytes h) ≡ h
unfolding head_bytes bytes_in
head_back h m n x y = go h.ours h.partners m n
  where
    go : (a b : List ℕ) → length a ≡ 4 → length b ≡ 4 → head_in (a ++ b ++ bytes_in (h.next ∷ h.highest ∷ [])) ≡ record { ours = a; partners = b; next = h.next; highest = h.highest }
    go [] b m n = absurd (omega (arith, m))
    go (c ∷ []) b m n = absurd (omega (arith, m))
    go (c ∷ d ∷ []) b m n = absurd (omega (arith, m))
    go (c ∷ d ∷ e ∷ []) b m n = absurd (omega (arith, m))
    go (c ∷ d ∷ e ∷ f ∷ g ∷ a) b m n = absurd (omega (arith, m))
    go (c ∷ d ∷ e ∷ f ∷ []) [] m n = absurd (omega (arith, n))
    go (c ∷ d ∷ e ∷ f ∷ []) (s ∷ []) m n = absurd (omega (arith, n))
    go (c ∷ d ∷ e ∷ f ∷ []) (s ∷ t ∷ []) m n = absurd (omega (arith, n))
    go (c ∷ d ∷ e ∷ f ∷ []) (s ∷ t ∷ u ∷ []) m n = absurd (omega (arith, n))
    go (c ∷ d ∷ e ∷ f ∷ []) (s ∷ t ∷ u ∷ v ∷ w ∷ b) m n = absurd (omega (arith, n))
    go (c ∷ d ∷ e ∷ f ∷ []) (s ∷ t ∷ u ∷ v ∷ []) m n = λ i. record { ours = (c ∷ d ∷ e ∷ f ∷ []); partners = (s ∷ t ∷ u ∷ v ∷ []); next = two h.next x i; highest = two h.highest y i }

-- AND THE BYTES from the head that stands in them
pub bytes_back : (b : List ℕ) → length b ≡ 12 → get_or b 8 0 < 256 → get_or b 9 0 < 256 → get_or b 10 0 < 256 → get_or b 11 0 < 256 → head_bytes (head_in b) ≡ b
unfolding head_bytes bytes_in
bytes_back [] e p q r s = absurd (omega (arith, e))
bytes_back (a0 ∷ []) e p q r s = absurd (omega (arith, e))
bytes_back (a0 ∷ a1 ∷ []) e p q r s = absurd (omega (arith, e))
bytes_back (a0 ∷ a1 ∷ a2 ∷ []) e p q r s = absurd (omega (arith, e))
bytes_back (a0 ∷ a1 ∷ a2 ∷ a3 ∷ []) e p q r s = absurd (omega (arith, e))
bytes_back (a0 ∷ a1 ∷ a2 ∷ a3 ∷ a4 ∷ []) e p q r s = absurd (omega (arith, e))
bytes_back (a0 ∷ a1 ∷ a2 ∷ a3 ∷ a4 ∷ a5 ∷ []) e p q r s = absurd (omega (arith, e))
bytes_back (a0 ∷ a1 ∷ a2 ∷ a3 ∷ a4 ∷ a5 ∷ a6 ∷ []) e p q r s = absurd (omega (arith, e))
bytes_back (a0 ∷ a1 ∷ a2 ∷ a3 ∷ a4 ∷ a5 ∷ a6 ∷ a7 ∷ []) e p q r s = absurd (omega (arith, e))
bytes_back (a0 ∷ a1 ∷ a2 ∷ a3 ∷ a4 ∷ a5 ∷ a6 ∷ a7 ∷ a8 ∷ []) e p q r s = absurd (omega (arith, e))
bytes_back (a0 ∷ a1 ∷ a2 ∷ a3 ∷ a4 ∷ a5 ∷ a6 ∷ a7 ∷ a8 ∷ a9 ∷ []) e p q r s = absurd (omega (arith, e))
bytes_back (a0 ∷ a1 ∷ a2 ∷ a3 ∷ a4 ∷ a5 ∷ a6 ∷ a7 ∷ a8 ∷ a9 ∷ a10 ∷ []) e p q r s = absurd (omega (arith, e))
bytes_back (a0 ∷ a1 ∷ a2 ∷ a3 ∷ a4 ∷ a5 ∷ a6 ∷ a7 ∷ a8 ∷ a9 ∷ a10 ∷ a11 ∷ z ∷ b) e p q r s = absurd (omega (arith, e))
bytes_back (a0 ∷ a1 ∷ a2 ∷ a3 ∷ a4 ∷ a5 ∷ a6 ∷ a7 ∷ a8 ∷ a9 ∷ a10 ∷ a11 ∷ []) e p q r s =
    let w : low (high (a8 * 256 + a9)) ≡ a8 = omega arith in
    let x : low (a8 * 256 + a9) ≡ a9 = omega arith in
    let y : low (high (a10 * 256 + a11)) ≡ a10 = omega arith in
    let z : low (a10 * 256 + a11) ≡ a11 = omega arith in
    λ i. a0 ∷ a1 ∷ a2 ∷ a3 ∷ a4 ∷ a5 ∷ a6 ∷ a7 ∷ w i ∷ x i ∷ y i ∷ z i ∷ []
