-- WHAT IS LEFT WHERE A MESSAGE COMES TO AN END: the answer that is given, and the end that follows.
use Rattle.std.specs.Prelude.{◌≡◌, refl, ◌⊎◌, Bool, true, false, cond, not, ◌&&◌, List, ◌∷◌, ◌++◌, ℕ, ◌+◌, ◌≤◌, ◌<◌, length, take, drop, set, eqb, leb}
use Rattle.std.proofs.Common.{sym, ap, ◌∙◌, subst, inl, inr, add-one, arith, length-take-le, le-leb, leb-true, leb-false}
use Rattle.std.proofs.lemmas.List.{set_split}
use Rattle.std.proofs.lemmas.Bool.{lt-leb}
use Rattle.scan.specs.Bools.{known}
use Rattle.head.specs.declared.Head.{Head}
use Rattle.head.specs.Head.{received as raised_to}
use Rattle.splice.specs.Splice.{splice, Spliced}
use Rattle.places.specs.Places.{Places}
use Rattle.places.specs.Forms.{bytes_of}
use Rattle.flights.specs.Flight.{Flight}
use Rattle.flights.specs.Decoded.{flights_in, table_of, table_back}
use Rattle.unanswered.specs.Waiting.{Waiting}
use Rattle.answers.specs.Given.{forgotten}
use Rattle.answers.specs.Forgetting.{forgotten_long}
use Rattle.excerpt.specs.Excerpt.{Starts}
use Rattle.deeds.specs.Message.{Message}
use Rattle.deeds.specs.Deeds.{deed_of}
use Rattle.deeds.specs.Applying.{decision, applied}
use Rattle.memory.specs.End.{End, Memory, lent, Formed, waiting_form, waiting_in, end_of}
use Rattle.memory.specs.Held.{waiting_back, memory_back}
use Rattle.response.specs.Answering.{answer_text}
use Rattle.rules.specs.Replies.{Reply, refused, done, number}
use Rattle.rules.specs.Answers.{answer_to, is_offering, is_acceptance}
use Rattle.rules.specs.Receiving.{given, giving, answering, retired, hear_first, hear_again}
use Rattle.rules.specs.declared.Answer.TheVariants.{Done, NoRoom, Stale}
use Rattle.rules.specs.declared.Outcome.{Outcome}
use Rattle.rules.specs.Calls.{refusal_in, Comes, Gives}

-- THE ANSWERS

-- as many are left
pub kept_long : (fresh : Bool) (h n : ℕ) (a : List ℕ) → length (cond fresh (forgotten h n a) a) ≡ length a
kept_long true h n a = forgotten_long h n 0 a
kept_long false h n a = refl

-- one byte of them
pub noting : (n v : ℕ) (a e : List ℕ) → length a ≡ 1000 → n ≤ 999 → e ≡ a → set e n v ≡ given n v a
noting n v a e k l p = ap (λ (x : List ℕ). set x n v) p ∙ set_split a n v (omega arith) ∙ ap (λ (x : ℕ). take n a ++ (v ∷ drop x a)) (sym (add-one n))

-- what comes of a number that is new, and of one that is not
pub if_new : {A : Type 0} (fresh : Bool) (x y e : A) → fresh ≡ true → e ≡ x → e ≡ cond fresh x y
if_new fresh x y e p q = rw p q

pub if_old : {A : Type 0} (fresh : Bool) (x y e : A) → fresh ≡ false → e ≡ y → e ≡ cond fresh x y
if_old fresh x y e p q = rw p q

-- A TEXT THAT THERE IS ROOM FOR, or not

pub room_for : (room : ℕ) (t : List ℕ) (e : End) → length t ≤ room → giving room t e ≡ done e t
room_for room t e l = ap (λ (b : Bool). cond b (done e t) (refused (number 2))) (le-leb (length t) room l)

pub no_room_for : (room : ℕ) (t : List ℕ) (e : End) → room < length t → giving room t e ≡ refused (number 2)
no_room_for room t e l = ap (λ (b : Bool). cond b (done e t) (refused (number 2))) (lt-leb (length t) room l)

-- a text that was laid out is as long as it says
pub laid_fits : {t b e : List ℕ} {k : ℕ} (room : ℕ) → Starts t b e k → k ≤ room → length (take k e) ≤ room
laid_fits {t} {b} {e} {k} room s l = omega (arith, length-take-le k e s.within)

-- the answer was given and noted
pub record Replied (h : Head) (fresh : Bool) (n v : ℕ) (t a out : List ℕ) (o : Outcome) (a' out' : List ℕ) : Type 0 where
  pub answer : o.answer ≡ Done (length t)
  pub head : o.head ≡ cond fresh (raised_to h n) h
  pub noted : a' ≡ given n v (cond fresh (forgotten h.highest n a) a)
  pub text : out' ≡ t ++ drop (length t) out

-- which leaves no choice
pub replied_one : {h : Head} {fresh : Bool} {n v : ℕ} {t a out : List ℕ} {o p : Outcome} {b c x y : List ℕ} → Replied h fresh n v t a out o b x → Replied h fresh n v t a out p c y → (o ≡ p) × (b ≡ c) × (x ≡ y)
replied_one q r = (λ i. record { answer = (q.answer ∙ sym r.answer) i; head = (q.head ∙ sym r.head) i }, q.noted ∙ sym r.noted, q.text ∙ sym r.text)

pub replying : (h x : Head) (fresh : Bool) (n v k : ℕ) (t a out a' out' : List ℕ) → a' ≡ given n v (cond fresh (forgotten h.highest n a) a) → Spliced 0 t out out' k → x ≡ cond fresh (raised_to h n) h → Replied h fresh n v t a out (record { answer = Done k; head = x }) a' out'
unfolding splice
replying h x fresh n v k t a out a' out' p q e =
    let z : k ≡ length t = omega (arith, q.place) in
    let y : 0 + length t ≡ length t = omega arith in
    record { answer = ap Done z; head = e; noted = p; text = q.bytes ∙ ap (λ (x : ℕ). t ++ drop x out) y }

-- AN OLD NUMBER

pub again_stale : (room v : ℕ) (m : Message) (h : Head) (out : List ℕ) (b : Bool) → b ≡ is_offering (deed_of m) → eqb v 2 && not b ≡ true → (l : Memory) → Formed h l → Comes (hear_again room m v (end_of h l)) h l out (record { answer = Stale; head = h }) l out
unfolding hear_again
again_stale room v m h out b e c l f =
    let z : eqb v 2 && not (is_offering (deed_of m)) ≡ true = ap (λ (x : Bool). eqb v 2 && not x) (sym e) ∙ c in
    subst (λ (y : Bool). Comes (cond y (refused (number 4)) (giving room (answer_text m v) (end_of h l))) h l out (record { answer = Stale; head = h }) l out) (sym z) (refl, refl, refl, refl)

-- a text is given, and the memory is left as it is
pub gives_comes : (h : Head) (t out : List ℕ) (o : Outcome) (out' : List ℕ) (l : Memory) → Formed h l → Gives h t out o out' → Comes (giving (length out) t (end_of h l)) h l out o l out'
gives_comes h t out o out' l f g = go (known (leb (length t) (length out)))
  where
    go : (leb (length t) (length out) ≡ true) ⊎ (leb (length t) (length out) ≡ false) → Comes (giving (length out) t (end_of h l)) h l out o l out'
    go (inl e) =
        let k = leb-true (length t) (length out) e in
        let d = g.1.0 k in
        subst (λ (y : Reply). Comes y h l out o l out') (sym (room_for (length out) t (end_of h l) k)) (d.0, g.0, sym (memory_back f), d.1)
    go (inr e) =
        let k = leb-false (length t) (length out) e in
        let d = g.1.1 k in
        subst (λ (y : Reply). Comes y h l out o l out') (sym (no_room_for (length out) t (end_of h l) k)) (ap refusal_in d.0, g.0, refl, d.1)

pub again_given : (v k : ℕ) (m : Message) (h : Head) (b e out : List ℕ) (c : Bool) (o : Outcome) (out' : List ℕ) → c ≡ is_offering (deed_of m) → eqb v 2 && not c ≡ false → Starts (answer_text m v) b e k → Gives h (take k e) out o out' → (l : Memory) → Formed h l → Comes (hear_again (length out) m v (end_of h l)) h l out o l out'
unfolding hear_again
again_given v k m h b e out c o out' p q s g l f =
    let z : eqb v 2 && not (is_offering (deed_of m)) ≡ false = ap (λ (x : Bool). eqb v 2 && not x) (sym p) ∙ q in
    subst (λ (y : Bool). Comes (cond y (refused (number 4)) (giving (length out) (answer_text m v) (end_of h l))) h l out o l out') (sym z)
    (gives_comes h (answer_text m v) out o out' l f (subst (λ (x : List ℕ). Gives h x out o out') s.bytes g))

-- A FIRST ARRIVAL

-- the end at which it is handled: where its number is new, that is now the highest, and the answers that it passed are forgotten
abbrev pub begun : Bool → ℕ → End → End
begun fresh n e = record {
  head = cond fresh (raised_to e.head n) e.head;
  sent = e.sent;
  received = e.received;
  unanswered = e.unanswered;
  answers = cond fresh (forgotten e.head.highest n e.answers) e.answers;
}

-- the end that follows, once it was answered by v
abbrev pub left : Bool → Head → ℕ → ℕ → Places Flight → Places Flight → Places Waiting → List ℕ → End
left fresh h n v s r u a = record {
  head = cond fresh (raised_to h n) h;
  sent = s;
  received = r;
  unanswered = u;
  answers = given n v (cond fresh (forgotten h.highest n a) a);
}

-- the answer v is given, where there is room for its text, and all is changed as it should be; else nothing is
pub record Does (h : Head) (fresh : Bool) (m : Message) (v : ℕ) (changed kept : Type 0) (a out : List ℕ) (o : Outcome) (a' out' : List ℕ) : Type 0 where
  pub room : length (answer_text m v) ≤ length out → changed × Replied h fresh m.number v (answer_text m v) a out o a' out'
  pub none : length out < length (answer_text m v) → kept × (o.answer ≡ NoRoom) × (o.head ≡ h) × (a' ≡ a) × (out' ≡ out)

-- which leaves no choice where neither what is changed nor what is kept does
pub does_one : {h : Head} {fresh : Bool} {m : Message} {v : ℕ} {changed changed' kept kept' Same : Type 0} {a out : List ℕ} {o p : Outcome} {b c x y : List ℕ} → (changed → changed' → Same) → (kept → kept' → Same) → Does h fresh m v changed kept a out o b x → Does h fresh m v changed' kept' a out p c y → Same × (o ≡ p) × (b ≡ c) × (x ≡ y)
does_one {m = m} {v = v} {Same = Same} {out = out} {o = o} {p = p} {b = b} {c = c} {x = x} {y = y} f g d e = go (known (leb (length (answer_text m v)) (length out)))
  where
    go : (leb (length (answer_text m v)) (length out) ≡ true) ⊎ (leb (length (answer_text m v)) (length out) ≡ false) → Same × (o ≡ p) × (b ≡ c) × (x ≡ y)
    go (inl k) =
        let l = leb-true (length (answer_text m v)) (length out) k in
        let q = d.room l in
        let r = e.room l in
        let z = replied_one q.1 r.1 in
        (f q.0 r.0, z.0, z.1, z.2)
    go (inr k) =
        let l = leb-false (length (answer_text m v)) (length out) k in
        let q = d.none l in
        let r = e.none l in
        (g q.0 r.0, λ i. record { answer = (q.1 ∙ sym r.1) i; head = (q.2 ∙ sym r.2) i }, q.3 ∙ sym r.3, q.4 ∙ sym r.4)

module _ {h : Head} {fresh : Bool} {m : Message} {v : ℕ} {changed kept : Type 0} {a out : List ℕ} where
  pub does_none : {x : ℕ} {b e : List ℕ} {k : ℕ} → x ≡ v → Starts (answer_text m x) b e k → length out < k → kept → Does h fresh m v changed kept a out (record { answer = NoRoom; head = h }) a out
  does_none {x} {b} {e} {k} p s l y =
      let z : k ≡ length (answer_text m v) = s.long ∙ ap (λ (i : ℕ). length (answer_text m i)) p in
      record { room = λ c. absurd (omega arith); none = λ c. (y, refl, refl, refl, refl) }

  pub does_room : {x : ℕ} {b e a' out' : List ℕ} {k : ℕ} {o : Outcome} → x ≡ v → Starts (answer_text m x) b e k → k ≤ length out → changed → Replied h fresh m.number x (take k e) a out o a' out' → Does h fresh m v changed kept a out o a' out'
  does_room {x} {b} {e} {a'} {out'} {k} {o} p s l y r =
      let z : k ≡ length (answer_text m v) = s.long ∙ ap (λ (i : ℕ). length (answer_text m i)) p in
      let t : take k e ≡ answer_text m v = s.bytes ∙ ap (answer_text m) p in
      record { room = λ c. (y, subst (λ (i : ℕ). Replied h fresh m.number i (answer_text m v) a out o a' out') p (subst (λ (i : List ℕ). Replied h fresh m.number x i a out o a' out') t r)); none = λ c. absurd (omega arith) }

-- so the call comes to it
module _ {h : Head} {fresh : Bool} {m : Message} {v : ℕ} {changed kept : Type 0} {a out a' out' : List ℕ} {o : Outcome} where
  pub does_comes : Does h fresh m v changed kept a out o a' out' → (s r : Places Flight) (u : Places Waiting) (s₀ r₀ u₀ s' r' u' : List ℕ) → (changed → (s' ≡ table_of s) × (r' ≡ table_of r) × (u' ≡ bytes_of waiting_form u)) → (kept → (s' ≡ s₀) × (r' ≡ r₀) × (u' ≡ u₀)) → Comes (answering (length out) m v (left fresh h m.number v s r u a)) h (lent s₀ r₀ u₀ a) out o (lent s' r' u' a') out'
  does_comes d s r u s₀ r₀ u₀ s' r' u' f g = go (known (leb (length (answer_text m v)) (length out)))
    where
      go : (leb (length (answer_text m v)) (length out) ≡ true) ⊎ (leb (length (answer_text m v)) (length out) ≡ false) → Comes (answering (length out) m v (left fresh h m.number v s r u a)) h (lent s₀ r₀ u₀ a) out o (lent s' r' u' a') out'
      go (inl c) =
          let k = leb-true (length (answer_text m v)) (length out) c in
          let x = d.room k in
          let y = x.1 in
          let p = f x.0 in
          subst (λ (z : Reply). Comes z h (lent s₀ r₀ u₀ a) out o (lent s' r' u' a') out') (sym (room_for (length out) (answer_text m v) (left fresh h m.number v s r u a) k))
          (y.answer, y.head, λ i. record { sent = p.0 i; received = p.1 i; unanswered = p.2 i; answers = y.noted i }, y.text)
      go (inr c) =
          let k = leb-false (length (answer_text m v)) (length out) c in
          let x = d.none k in
          let p = g x.0 in
          subst (λ (z : Reply). Comes z h (lent s₀ r₀ u₀ a) out o (lent s' r' u' a') out') (sym (no_room_for (length out) (answer_text m v) (left fresh h m.number v s r u a) k))
          (ap refusal_in x.1, x.2, λ i. record { sent = p.0 i; received = p.1 i; unanswered = p.2 i; answers = x.3 i }, x.4)

-- ABOUT A FLIGHT OF THE PARTNER'S

-- what is no acceptance is about one of those received
abbrev planned : ℕ → Message → End → Reply
planned room m e =
    let v = answer_to (deed_of m) (decision m e.received) in
    answering room m v (record { head = e.head; sent = e.sent; received = applied m e.received; unanswered = e.unanswered; answers = given m.number v e.answers })

first_planned : (room : ℕ) (m : Message) (e : End) → is_acceptance (deed_of m) ≡ false → hear_first room m e ≡ planned room m e
unfolding hear_first retired
first_planned room m e q = rw q

pub plan_comes : (h : Head) (fresh : Bool) (m : Message) (s r u a out r' a' out' : List ℕ) (o : Outcome) → Formed h (lent s r u a) → is_acceptance (deed_of m) ≡ false → Does h fresh m (answer_to (deed_of m) (decision m (flights_in r))) (r' ≡ table_of (applied m (flights_in r))) (r' ≡ r) a out o a' out' → Comes (hear_first (length out) m (begun fresh m.number (end_of h (lent s r u a)))) h (lent s r u a) out o (lent s r' u a') out'
plan_comes h fresh m s r u a out r' a' out' o f q d =
    subst (λ (z : Reply). Comes z h (lent s r u a) out o (lent s r' u a') out') (sym (first_planned (length out) m (begun fresh m.number (end_of h (lent s r u a))) q))
    (does_comes d (flights_in s) (applied m (flights_in r)) (waiting_in u) s r u s r' u
    (λ p. (sym (table_back s f.sent), p, sym (waiting_back f.unanswered)))
    (λ p. (refl, p, refl)))
