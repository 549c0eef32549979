-- Whether a place is well formed, test by test.
use Rattle.std.specs.Prelude.{◌≡◌, refl, Bool, true, false, not, List, [], ◌∷◌, ◌++◌, ℕ, ◌+◌, ◌-◌, ◌≤◌, ◌<◌, length, get_or, take, drop, replicate}
use Rattle.std.proofs.Common.{sym, ap, ◌∙◌, subst, inr, ⊎_elim, arith, take-append-drop, length-drop, length-take-le, drop-drop, take_all}
use Rattle.std.proofs.lemmas.Bool.{false≢true, not-true}
use Rattle.std.proofs.Math.Seq.{drop-append_seam}
use Rattle.scan.specs.Grammar.{place_of, size_of}
use Rattle.scan.specs.Bools.{Decides, decides_as, decides_by}
use Rattle.fields.specs.Names as n
use Rattle.message.specs.declared.Kind.TheVariants.{None}
use Rattle.message.specs.declared.Verdict.{Verdict}
use Rattle.message.specs.declared.Verdict.TheVariants.{Read, Refused}
use Rattle.message.specs.declared.Record.{Record}
use Rattle.reader.specs.Reading.{Judged, cut}
use Rattle.reader.proofs.Judging.{judged_one, words_within}
use Rattle.places.specs.Bytes.{high, low, number_at, high_of, low_of, two_bytes, each, stretch_is, free}
use Rattle.unanswered.specs.declared.Shown.TheVariants.{Broken, Empty, Message}
use Rattle.unanswered.specs.Waiting.{Waiting, waiting, waiting_bytes, waiting_of, is_answer, Proper, WellFormed, Shows}
use Rattle.unanswered.specs.Encoded.{waiting_back, proper_short}

-- THE TEXT

-- the names lie within the text
pub sender_within : (s : List ℕ) (v : Verdict) (r : Record) → Judged s v r → place_of r.parts.number.sender + size_of r.parts.number.sender ≤ length s
sender_within s v r j = words_within s v r (λ x. x.parts.number.sender) (λ f. (n.sender, refl)) refl j

pub receiver_within : (s : List ℕ) (v : Verdict) (r : Record) → Judged s v r → place_of r.parts.number.receiver + size_of r.parts.number.receiver ≤ length s
receiver_within s v r j = words_within s v r (λ x. x.parts.number.receiver) (λ f. (n.receiver, refl)) refl j

none_answers : is_answer None ≡ true
unfolding is_answer
none_answers = refl

-- what is refused has a record that counts as an answer's
read_of : (s : List ℕ) (v : Verdict) (r : Record) → Judged s v r → is_answer r.kind ≡ false → Judged s Read r
read_of s Read r j e = j
read_of s (Refused place before) r j e = absurd (false≢true (sym e ∙ ap (λ (x : Record). is_answer x.kind) j.2 ∙ none_answers))

abbrev pub Tested : List ℕ → List ℕ → Waiting → Record → Type 0
Tested ours partners m r = ((((is_answer r.kind ≡ false) × (r.figures.number ≡ m.number)) × (m.number ≤ 999)) × (cut m.text r.parts.number.sender ≡ ours)) × (cut m.text r.parts.number.receiver ≡ partners)

pub proper_is : (ours partners : List ℕ) (m : Waiting) (v : Verdict) (r : Record) → Judged m.text v r → (t : Bool) → Decides t (Tested ours partners m r) → Decides t (Proper ours partners m)
proper_is ours partners m v r j t =
    decides_as
    (λ p. record { its = r; read = read_of m.text v r j p.0.0.0.0; message = p.0.0.0.0; sender = p.0.1; receiver = p.1; number = p.0.0.0.1; most = p.0.0.1 })
    (λ p.
    let e : p.its ≡ r = sym (judged_one m.text v Read r p.its j p.read).records in
    subst (Tested ours partners m) e ((((p.message, p.number), p.most), p.sender), p.receiver))

-- and it is the record of a text that is read, where the text may wait
pub proper_read : (ours partners : List ℕ) (m : Waiting) (v : Verdict) (r : Record) → Judged m.text v r → Proper ours partners m → Judged m.text Read r
proper_read ours partners m v r j p = subst (λ (x : Verdict). Judged m.text x r) (judged_one m.text v Read r p.its j p.read).verdicts j

pub no_answer : (b c : Bool) → b ≡ c → Decides (not b) (c ≡ false)
no_answer b c e = record { yes = λ h. sym e ∙ not-true b h; no = λ h. ap not (e ∙ h) }

-- THE BYTES

five : (b : List ℕ) → 5 ≤ length b → b ≡ get_or b 0 0 ∷ get_or b 1 0 ∷ get_or b 2 0 ∷ get_or b 3 0 ∷ get_or b 4 0 ∷ drop 5 b
five [] h = absurd (omega arith)
five (x ∷ []) h = absurd (omega arith)
five (x ∷ y ∷ []) h = absurd (omega arith)
five (x ∷ y ∷ z ∷ []) h = absurd (omega arith)
five (x ∷ y ∷ z ∷ u ∷ []) h = absurd (omega arith)
five (x ∷ y ∷ z ∷ u ∷ v ∷ b) h = refl

-- the bytes beside the text have values that they may have
pub record Shaped (b : List ℕ) : Type 0 where
  pub first : get_or b 0 0 ≡ 1
  pub short : number_at 3 b ≤ 1275
  pub rest : drop (5 + number_at 3 b) b ≡ replicate (1275 - number_at 3 b) 0

-- bytes that are shaped are those of the message that is read off them
shaped_bytes : (b : List ℕ) → length b ≡ 1280 → get_or b 2 0 < 256 → get_or b 4 0 < 256 → Shaped b → waiting_bytes (waiting_of b) ≡ b
shaped_bytes b k lo lu s =
    let t = take (number_at 3 b) (drop 5 b) in
    let l : length t ≡ number_at 3 b = length-take-le (number_at 3 b) (drop 5 b) (omega (arith, length-drop 5 b, s.short)) in
    let d : drop (number_at 3 b) (drop 5 b) ≡ replicate (1275 - length t) 0 = drop-drop (number_at 3 b) 5 b ∙ s.rest ∙ ap (λ (x : ℕ). replicate (1275 - x) 0) (sym l) in
    let r : t ++ replicate (1275 - length t) 0 ≡ drop 5 b = ap (λ (x : List ℕ). t ++ x) (sym d) ∙ take-append-drop (number_at 3 b) (drop 5 b) in
    (λ i. sym s.first i ∷ high_of (get_or b 1 0) (get_or b 2 0) lo i ∷ low_of (get_or b 1 0) (get_or b 2 0) lo i ∷ (ap high l ∙ high_of (get_or b 3 0) (get_or b 4 0) lu) i ∷ (ap low l ∙ low_of (get_or b 3 0) (get_or b 4 0) lu) i ∷ r i) ∙ sym (five b (omega arith))

abbrev pub Used : List ℕ → List ℕ → List ℕ → Type 0
Used ours partners b = (m : Waiting) × (b ≡ waiting_bytes m) × Proper ours partners m

bytes_shaped : (m : Waiting) → length m.text ≤ 1275 → Shaped (waiting_bytes m)
bytes_shaped m h =
    let t = m.text in
    let e : number_at 3 (waiting_bytes m) ≡ length t = two_bytes (length t) in
    record {
      first = refl;
      short = omega (arith, e, h);
      rest =
          sym (drop-drop (number_at 3 (waiting_bytes m)) 5 (waiting_bytes m)) ∙ ap (λ (k : ℕ). drop k (t ++ replicate (1275 - length t) 0)) e ∙ drop-append_seam t (replicate (1275 - length t) 0) ∙ ap (λ (k : ℕ). replicate (1275 - k) 0) (sym e);
    }

pub used_shaped : (ours partners b : List ℕ) → Used ours partners b → Shaped b
used_shaped ours partners b u = subst Shaped (sym u.1) (bytes_shaped u.0 (proper_short u.0 u.2))

-- the stretch behind the text
pub rest_on : (b : List ℕ) (k : ℕ) → length b ≡ 1280 → k ≡ number_at 3 b → k ≤ 1275 → (t : Bool) → t ≡ each 0 (take (length b - (5 + k)) (drop (5 + k) b)) → Decides t (drop (5 + number_at 3 b) b ≡ replicate (1275 - number_at 3 b) 0)
rest_on b k n e h t q =
    let l : length (drop (5 + k) b) ≡ 1275 - k = omega (arith, length-drop (5 + k) b) in
    let u : take (length b - (5 + k)) (drop (5 + k) b) ≡ drop (5 + k) b = take_all (length b - (5 + k)) (drop (5 + k) b) (omega arith) in
    subst (λ (x : ℕ). Decides t (drop (5 + x) b ≡ replicate (1275 - x) 0)) e (decides_by (q ∙ ap (each 0) u) (stretch_is 0 (drop (5 + k) b) (1275 - k) l))

-- the message that was read off
pub read_off : (ours partners b s : List ℕ) (n : ℕ) (t : Bool) → n ≡ number_at 1 b → s ≡ (waiting_of b).text → Decides t (Proper ours partners (waiting n s)) → Decides t (Proper ours partners (waiting_of b))
read_off ours partners b s n t e f d = subst (λ (m : Waiting). Decides t (Proper ours partners m)) (λ i. waiting (e i) (f i)) d

-- A PLACE

module _ (b : List ℕ) where
  module _ (n : length b ≡ 1280) (t : Bool) (e : t ≡ each 0 b) where
    pub is_empty : t ≡ true → Shows b Empty
    is_empty y = (decides_by e (stretch_is 0 b 1280 n)).yes y

    -- one whose first byte is 0 can only be free
    pub not_empty : get_or b 0 0 ≡ 0 → t ≡ false → Shows b Broken
    not_empty z f ours partners w =
        ⊎_elim (λ p. false≢true (sym f ∙ (decides_by e (stretch_is 0 b 1280 n)).no p))
        (λ u. absurd (let q : get_or b 0 0 ≡ 1 = ap (λ (x : List ℕ). get_or x 0 0) u.1 in omega (arith, q, z)))
        w

  -- one whose first byte is another is that of a message; what is not shaped is none
  pub not_shaped : (get_or b 0 0 ≡ 0 → ⊥) → (Shaped b → ⊥) → Shows b Broken
  not_shaped z n ours partners w = ⊎_elim (λ p. z (ap (λ (x : List ℕ). get_or x 0 0) p)) (λ u. n (used_shaped ours partners b u)) w

  pub is_shaped : length b ≡ 1280 → get_or b 2 0 < 256 → get_or b 4 0 < 256 → Shaped b → Shows b Message
  is_shaped n lo lu s = (sym (shaped_bytes b n lo lu s), s.short)

  -- and what is, is well formed where its message is proper
  pub message_is : (ours partners : List ℕ) → b ≡ waiting_bytes (waiting_of b) → (t : Bool) → Decides t (Proper ours partners (waiting_of b)) → Decides t (WellFormed ours partners b)
  message_is ours partners e t =
      decides_as
      (λ p. inr (waiting_of b, e, p))
      (λ w.
      ⊎_elim (λ p. absurd (false≢true (sym (ap free e) ∙ ap free p)))
      (λ u. subst (Proper ours partners) (sym (ap waiting_of u.1 ∙ waiting_back u.0)) u.2)
      w)

-- WHAT A WELL FORMED PLACE GIVES

pub formed_short : (ours partners b : List ℕ) → WellFormed ours partners b → number_at 3 b ≤ 1275
formed_short ours partners b w = ⊎_elim (λ p. let e : number_at 3 b ≡ 0 = ap (number_at 3) p in omega (arith, e)) (λ u. (used_shaped ours partners b u).short) w

module _ (ours partners b : List ℕ) (w : WellFormed ours partners b) (u : free b ≡ false) where
  used_of : Used ours partners b
  used_of = ⊎_elim (λ p. absurd (false≢true (sym u ∙ ap free p))) (λ m. m) w

  pub formed_proper : Proper ours partners (waiting_of b)
  formed_proper = subst (Proper ours partners) (sym (ap waiting_of used_of.1 ∙ waiting_back used_of.0)) used_of.2
