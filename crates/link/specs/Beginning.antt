-- What the tests of a set-up decide, and what it leaves.
use Rattle.std.specs.Prelude.{◌≡◌, refl, Bool, false, ◌&&◌, List, [], ◌∷◌, ℕ, ◌*◌, length, get_or, replicate, eqb, leb}
use Rattle.std.proofs.Common.{sym, ap, ◌∙◌, subst, arith}
use Rattle.std.proofs.lemmas.Bool.{false≢true}
use Rattle.std.proofs.lemmas.List.{length-replicate}
use Rattle.scan.specs.declared.Class.TheVariants.{Letter}
use Rattle.scan.specs.Grammar.{Derives, run}
use Rattle.scan.specs.Bools.{Decides, decides_and, decides_as, equals, at_most}
use Rattle.splice.specs.Splice.{Spliced}
use Rattle.head.specs.declared.Head.{Head}
use Rattle.head.specs.Sound.{Names, HeadFormed}
use Rattle.flights.specs.Table.{places}
use Rattle.memory.specs.End.{Memory, lent}
use Rattle.memory.specs.Held.{table_empty, waiting_empty}
use Rattle.rules.specs.declared.Answer.TheVariants.{Done, NotFormed, BadNames}
use Rattle.link.specs.SetUp.{Sized, Sizes, first_head, SetsUp}
use Rattle.splice.specs.Splicing.{over_all}
use Rattle.scan.specs.Laws.{four}

-- SIZES

pub sized_is : (t : List ℕ) → Decides ((leb 1 (places t) && leb (places t) 32) && eqb (length t) (places t * 768)) (Sized t)
sized_is t =
    decides_as (λ p. record { some = p.0.0; most = p.0.1; whole = p.1 }) (λ s. ((s.some, s.most), s.whole))
    (decides_and (decides_and (at_most 1 (places t)) (at_most (places t) 32)) (equals (length t) (places t * 768)))

pub sizes_is : (m : Memory) {a b : Bool} → Decides a (Sized m.sent) → Decides b (Sized m.received) → Decides (((a && b) && eqb (length m.unanswered) 20480) && eqb (length m.answers) 1000) (Sizes m)
sizes_is m a b =
    decides_as (λ p. record { sent = p.0.0.0; received = p.0.0.1; unanswered = p.0.1; answers = p.1 }) (λ s. (((s.sent, s.received), s.unanswered), s.answers))
    (decides_and (decides_and (decides_and a b) (equals (length m.unanswered) 20480)) (equals (length m.answers) 1000))

-- NAMES

pub name_long : (a : List ℕ) → Derives (run Letter 4 4) a → length a ≡ 4
name_long a d = omega (arith, d.1, d.2)

pub names_long : {a b : List ℕ} → Names a b → (length a ≡ 4) × (length b ≡ 4)
names_long {a} {b} n = (name_long a n.ours, name_long b n.partners)

none_such : (a b : List ℕ) → (Names a b → ⊥) → Decides false (Names a b)
none_such a b k = record { yes = λ e. absurd (false≢true e); no = λ n. absurd (k n) }

pub ours_odd : (a b : List ℕ) → (length a ≡ 4 → ⊥) → Decides false (Names a b)
ours_odd a b k = none_such a b (λ n. k (names_long n).0)

pub partners_odd : (a b : List ℕ) → (length b ≡ 4 → ⊥) → Decides false (Names a b)
partners_odd a b k = none_such a b (λ n. k (names_long n).1)

pub names_are : (a b : List ℕ) (h : Head) {t : Bool} → h ≡ first_head a b → Decides t (HeadFormed h) → Decides t (Names a b)
names_are a b h {t} e d =
    decides_as (λ f. f.names) (λ n. record { names = n; next = omega arith; highest = omega arith })
    (subst (λ (x : Head). Decides t (HeadFormed x)) e d)

-- THE HEAD

pub head_first : (a b : List ℕ) → length a ≡ 4 → length b ≡ 4 → first_head (get_or a 0 0 ∷ get_or a 1 0 ∷ get_or a 2 0 ∷ get_or a 3 0 ∷ []) (get_or b 0 0 ∷ get_or b 1 0 ∷ get_or b 2 0 ∷ get_or b 3 0 ∷ []) ≡ first_head a b
head_first a b m n = sym (λ i. first_head (four a m i) (four b n i))

-- ZERO BYTES

pub cleared : (d e : List ℕ) (r : ℕ) → Spliced 0 (replicate (length d) 0) d e r → e ≡ replicate (length d) 0
cleared d e r p =
    let z : length {A = ℕ} (replicate (length d) 0) ≡ length d = length-replicate {A = ℕ} (length d) 0 in
    over_all (replicate (length d) 0) d e r p (omega arith)

-- THE CALL

pub refused_sizes : (a b : List ℕ) (h : Head) (m : Memory) {t : Bool} → Decides t (Sizes m) → t ≡ false → SetsUp a b h m (record { answer = NotFormed; head = h }) m
refused_sizes a b h m d e =
    let n : Sizes m → ⊥ = λ s. false≢true (sym e ∙ d.no s) in
    record { unsized = λ k. (refl, refl, refl, refl); unnamed = λ s k. absurd (n s); begun = λ s k. absurd (n s) }

pub refused_names : (a b : List ℕ) (h : Head) (m : Memory) {t : Bool} → Sizes m → Decides t (Names a b) → t ≡ false → SetsUp a b h m (record { answer = BadNames; head = h }) m
refused_names a b h m s d e =
    record { unsized = λ k. absurd (k s); unnamed = λ k n. (refl, refl, refl, refl); begun = λ k n. absurd (false≢true (sym e ∙ d.no n)) }

pub set_up_done : (a b : List ℕ) (h f : Head) (s r u w s' r' u' w' : List ℕ) → Sizes (lent s r u w) → Names a b → f ≡ first_head a b → s' ≡ replicate (length s) 0 → r' ≡ replicate (length r) 0 → u' ≡ replicate (length u) 0 → w' ≡ replicate (length w) 0 → SetsUp a b h (lent s r u w) (record { answer = Done 0; head = f }) (lent s' r' u' w')
set_up_done a b h f s r u w s' r' u' w' z n e p q x y =
    let sent = p ∙ ap (λ (k : ℕ). replicate k 0) z.sent.whole ∙ sym (table_empty (places s)) in
    let received = q ∙ ap (λ (k : ℕ). replicate k 0) z.received.whole ∙ sym (table_empty (places r)) in
    let unanswered = x ∙ ap (λ (k : ℕ). replicate k 0) z.unanswered ∙ sym waiting_empty in
    let answers = y ∙ ap (λ (k : ℕ). replicate k 0) z.answers in
    record {
      unsized = λ k. absurd (k z);
      unnamed = λ k l. absurd (l n);
      begun = λ k l. (refl, e, (λ i. record { sent = sent i; received = received i; unanswered = unanswered i; answers = answers i }), refl);
    }
