-- A field by itself: what a text tells of some parts, a text of the piece that names them tells too.
use Rattle.std.specs.Prelude.{◌≡◌, refl, ◌⊎◌, Bool, true, false, cond, ◌&&◌, List, ℕ, length}
use Rattle.std.proofs.Common.{ap, ◌∙◌, subst, inl, inr, ⊎_elim}
use Rattle.scan.specs.Bools.{and_l, and_r, known}
use Rattle.scan.specs.Grammar.{G, eps, run, words, seq, alt, part, field, Derives}
use Rattle.scan.specs.Scanner.{among}
use Rattle.scan.specs.Tests.{names, strange, covers, plain}
use Rattle.scan.specs.Theory.{good_a, good_b}
use Rattle.scan.specs.Parts.{covers_sound, strange_sound}
use Rattle.compose.specs.Layout.{laid, told, Told, Tells, find, unsaid, find_front, absent_part, tells_derives, text_is}
use Rattle.compose.specs.Order.{Within}

-- the piece of a grammar that names these parts: what stands before it and behind it is left out
unfoldable pub kept : List ℕ → G → G
kept ns eps = eps
kept ns (run c lo hi) = run c lo hi
kept ns (words k) = words k
kept ns (seq a b) = cond (strange ns a) (kept ns b) (cond (strange ns b) (kept ns a) (seq a b))
kept ns (alt a b) = alt (kept ns a) (kept ns b)
kept ns (part n g) = part n g
kept ns (field ms g) = cond (covers ns ms) (field ms g) (kept ns g)

-- a text of h that tells the same of the parts ns
pub record Piece (ns : List ℕ) (h : G) (cs : List Told) : Type 0 where
  pub text : List ℕ
  pub its : List Told
  pub tells : Tells h text its
  pub same : (n : ℕ) → among n ns ≡ true → find n cs ≡ find n its

whole : (ns : List ℕ) (h : G) (w : List ℕ) (cs : List Told) → Tells h w cs → Piece ns h cs
whole ns h w cs t = record { text = w; its = cs; tells = t; same = λ n k. refl }

-- a piece of what tells the same is a piece
through : (ns : List ℕ) (h : G) (cs ds : List Told) → ((n : ℕ) → among n ns ≡ true → find n cs ≡ find n ds) → Piece ns h ds → Piece ns h cs
through ns h cs ds e p = record { text = p.text; its = p.its; tells = p.tells; same = λ n k. e n k ∙ p.same n k }

in_row : (ns : List ℕ) (a b x y : G) → plain a ≡ true → plain b ≡ true → (w : List ℕ) (cs : List Told) (t : Tells (seq a b) w cs) → Piece ns x t.2 → Piece ns y t.3 → Piece ns (cond (strange ns a) y (cond (strange ns b) x (seq a b))) cs
in_row ns a b x y fa fb w cs t p q = go (known (strange ns a)) (known (strange ns b))
  where
    go : (strange ns a ≡ true) ⊎ (strange ns a ≡ false) → (strange ns b ≡ true) ⊎ (strange ns b ≡ false) → Piece ns (cond (strange ns a) y (cond (strange ns b) x (seq a b))) cs
    go (inl e) h = rw e (through ns y cs t.3 (λ n k. ap (find n) t.5 ∙ unsaid n a fa t.0 t.2 t.3 (strange_sound ns a e n k) t.6) q)
    go (inr e) (inl h) = rw (e, h) (through ns x cs t.2 (λ n k. ap (find n) t.5 ∙ find_front n t.2 t.3 (absent_part n b fb t.1 t.3 (strange_sound ns b h n k) t.7)) p)
    go (inr e) (inr h) = rw (e, h) (whole ns (seq a b) w cs t)

either : (ns : List ℕ) (c : Bool) (a b : G) (cs : List Told) → Piece ns a cs → Piece ns b cs → Piece ns (cond c a b) cs
either ns true a b cs p q = p
either ns false a b cs p q = q

pub piece : (ns : List ℕ) (g : G) → plain g ≡ true → (w : List ℕ) (cs : List Told) → Tells g w cs → Piece ns (kept ns g) cs
unfolding kept plain
piece ns eps f w cs t = whole ns eps w cs t
piece ns (run c lo hi) f w cs t = whole ns (run c lo hi) w cs t
piece ns (words k) f w cs t = whole ns (words k) w cs t
piece ns (seq a b) f w cs t =
    let fa = good_a (plain a) (plain b) (strange (names a) b) f in
    let fb = good_b (plain a) (plain b) (strange (names a) b) f in
    in_row ns a b (kept ns a) (kept ns b) fa fb w cs t (piece ns a fa t.0 t.2 t.6) (piece ns b fb t.1 t.3 t.7)
piece ns (alt a b) f w cs t =
    let h = and_l (plain a && plain b) _ f in
    ⊎_elim
    (λ x. let p = piece ns a (and_l (plain a) (plain b) h) w cs x in record { text = p.text; its = p.its; tells = inl p.tells; same = p.same })
    (λ x. let p = piece ns b (and_r (plain a) (plain b) h) w cs x in record { text = p.text; its = p.its; tells = inr p.tells; same = p.same })
    t
piece ns (part n g) f w cs t = whole ns (part n g) w cs t
piece ns (field ms g) f w cs t = either ns (covers ns ms) (field ms g) (kept ns g) cs (whole ns (field ms g) w cs t) (piece ns g (and_l (plain g) (covers ms (names g)) f) w cs t)

-- THE TEST: the parts ns tell a text of h
unfoldable pub fine : List ℕ → G → Bool
fine ns h = told h && plain h && covers ns (names h)

-- THE TEXT THAT THE PARTS LAY OUT IS DERIVED: by x, where the piece is an x, and an x is an h
pub derived : (ns : List ℕ) (g x h : G) → plain g ≡ true → Within (kept ns g) x → Within x h → fine ns h ≡ true → (w : List ℕ) (cs : List Told) → Tells g w cs → (l : ℕ → ℕ) (e : ℕ → List ℕ) → ((n : ℕ) → l n ≡ length (find n cs)) → ((n : ℕ) → e n ≡ find n cs) → Derives x (laid h l e)
unfolding fine
derived ns g x h f i o y w cs t l e m s =
    let p = piece ns g f w cs t in
    let u : Tells x p.text p.its = i.into p.text p.its p.tells in
    let z = and_l (told h && plain h) (covers ns (names h)) y in
    let c = covers_sound ns (names h) (and_r (told h && plain h) (covers ns (names h)) y) in
    let r : p.text ≡ laid h l e =
    text_is h (and_l (told h) (plain h) z) (and_r (told h) (plain h) z) l e p.text p.its (o.into p.text p.its u)
    (λ n k. m n ∙ ap length (p.same n (c n k)))
    (λ n k. s n ∙ p.same n (c n k)) in
    subst (Derives x) r (tells_derives x p.text p.its u)
