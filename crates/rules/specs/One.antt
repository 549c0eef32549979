-- A CALL'S CONTRACT LEAVES NO CHOICE: any two outcomes that it allows are equal.
use Rattle.std.specs.Prelude.{◌≡◌, refl, ◌⊎◌, Bool, true, false, cond, List, ℕ, ◌≤◌, ◌<◌, length, eqb, ltb}
use Rattle.std.proofs.Common.{sym, ap, ◌∙◌, inl, inr, true≢false, arith, ltb-true, ltb-false}
use Rattle.std.proofs.Math.Decide.{ℕ_discrete}
use Rattle.scan.specs.Bools.{known}
use Rattle.places.specs.Bytes.{same, same_is}
use Rattle.head.specs.declared.Head.{Head}
use Rattle.memory.specs.End.{End, Memory, end_of}
use Rattle.rules.specs.Replies.{Refusal, number, Reply, refused, done}
use Rattle.rules.specs.Refusals.{Numbered}
use Rattle.rules.specs.declared.Answer.{Answer}
use Rattle.rules.specs.declared.Answer.TheVariants.{Done, NotRead, NoRoom, WrongUnits, Stale, NothingUnanswered, WrongAnswer, NamedAlready, TooManyUnanswered, TooFarBack, ConditionFails, TableFull, NotFormed, BreaksRule, BadNames}
use Rattle.rules.specs.declared.Outcome.{Outcome}
use Rattle.rules.specs.Calls.{refusal_in, length_in, Comes, Called, Gives}

-- WHAT A CALL HAS LEFT
pub record Left : Type 0 where
  pub outcome : Outcome
  pub memory : Memory
  pub buffer : List ℕ

abbrev pub left : Outcome → Memory → List ℕ → Left
left o m out = record { outcome = o; memory = m; buffer = out }

-- WHAT CANNOT BE OTHERWISE IS SO, for numbers, texts and what is made of them

abbrev pub Sure : {A : Type 0} → A → A → Type 0
Sure a b = (a ≡ b → ⊥) → ⊥

sure_number : (a b : ℕ) → Sure a b → a ≡ b
sure_number a b s = elim (ℕ_discrete a b) [ yes p ↦ p | no n ↦ absurd (s n) ]

sure_text : (a b : List ℕ) → Sure a b → a ≡ b
sure_text a b s = go (same a b) refl
  where
    go : (x : Bool) → same a b ≡ x → a ≡ b
    go true e = (same_is a b).yes e
    go false e = absurd (s (λ p. true≢false (sym ((same_is a b).no p) ∙ e)))

by : {A B : Type 0} (f : A → B) {a b : A} → Sure a b → Sure (f a) (f b)
by f s n = s (λ p. n (ap f p))

-- an answer is told by its numbers
answer_in : ℕ → ℕ → ℕ → ℕ → Answer
answer_in k place before n =
    cond (eqb k 0) (Done n) (cond (eqb k 1) (NotRead place before) (cond (eqb k 2) NoRoom (cond (eqb k 3) WrongUnits (cond (eqb k 4) Stale
    (cond (eqb k 5) NothingUnanswered (cond (eqb k 6) WrongAnswer (cond (eqb k 7) NamedAlready (cond (eqb k 8) TooManyUnanswered (cond (eqb k 9) TooFarBack
    (cond (eqb k 10) ConditionFails (cond (eqb k 11) TableFull (cond (eqb k 12) NotFormed (cond (eqb k 13) BreaksRule BadNames)))))))))))))

told : (a : Answer) → answer_in (refusal_in a).number (refusal_in a).place (refusal_in a).before (length_in a) ≡ a
unfolding answer_in
told (Done n) = refl
told (NotRead place before) = refl
told NoRoom = refl
told WrongUnits = refl
told Stale = refl
told NothingUnanswered = refl
told WrongAnswer = refl
told NamedAlready = refl
told TooManyUnanswered = refl
told TooFarBack = refl
told ConditionFails = refl
told TableFull = refl
told NotFormed = refl
told BreaksRule = refl
told BadNames = refl

pub same_answer : (a b : Answer) → refusal_in a ≡ refusal_in b → length_in a ≡ length_in b → a ≡ b
same_answer a b p q = sym (told a) ∙ (λ i. answer_in (p i).number (p i).place (p i).before (q i)) ∙ told b

sure_answer : (a b : Answer) → Sure a b → a ≡ b
sure_answer a b s =
    let k = sure_number (refusal_in a).number (refusal_in b).number (by (λ (x : Answer). (refusal_in x).number) s) in
    let p = sure_number (refusal_in a).place (refusal_in b).place (by (λ (x : Answer). (refusal_in x).place) s) in
    let h = sure_number (refusal_in a).before (refusal_in b).before (by (λ (x : Answer). (refusal_in x).before) s) in
    same_answer a b (λ i. record { number = k i; place = p i; before = h i }) (sure_number (length_in a) (length_in b) (by length_in s))

sure_head : (a b : Head) → Sure a b → a ≡ b
sure_head a b s =
    let o = sure_text a.ours b.ours (by (λ (x : Head). x.ours) s) in
    let p = sure_text a.partners b.partners (by (λ (x : Head). x.partners) s) in
    let n = sure_number a.next b.next (by (λ (x : Head). x.next) s) in
    let g = sure_number a.highest b.highest (by (λ (x : Head). x.highest) s) in
    λ i. record { ours = o i; partners = p i; next = n i; highest = g i }

pub sure_left : (x y : Left) → Sure x y → x ≡ y
sure_left x y s =
    let a = sure_answer x.outcome.answer y.outcome.answer (by (λ (l : Left). l.outcome.answer) s) in
    let h = sure_head x.outcome.head y.outcome.head (by (λ (l : Left). l.outcome.head) s) in
    let b = sure_text x.memory.sent y.memory.sent (by (λ (l : Left). l.memory.sent) s) in
    let c = sure_text x.memory.received y.memory.received (by (λ (l : Left). l.memory.received) s) in
    let d = sure_text x.memory.unanswered y.memory.unanswered (by (λ (l : Left). l.memory.unanswered) s) in
    let e = sure_text x.memory.answers y.memory.answers (by (λ (l : Left). l.memory.answers) s) in
    let f = sure_text x.buffer y.buffer (by (λ (l : Left). l.buffer) s) in
    λ i. record {
      outcome = record { answer = a i; head = h i };
      memory = record { sent = b i; received = c i; unanswered = d i; answers = e i };
      buffer = f i;
    }

-- ONE REPLY

-- a refusal gives no length
no_length : (a : Answer) → 1 ≤ (refusal_in a).number → length_in a ≡ 0
no_length (Done n) h = absurd (omega arith)
no_length (NotRead place before) h = refl
no_length NoRoom h = refl
no_length WrongUnits h = refl
no_length Stale h = refl
no_length NothingUnanswered h = refl
no_length WrongAnswer h = refl
no_length NamedAlready h = refl
no_length TooManyUnanswered h = refl
no_length TooFarBack h = refl
no_length ConditionFails h = refl
no_length TableFull h = refl
no_length NotFormed h = refl
no_length BreaksRule h = refl
no_length BadNames h = refl

module _ (h : Head) (m : Memory) (out : List ℕ) (o p : Outcome) (m' n' : Memory) (a b : List ℕ) where
  pub comes_one : (y : Reply) → Numbered y → Comes y h m out o m' a → Comes y h m out p n' b → left o m' a ≡ left p n' b
  comes_one (refused x) k c d =
      let e : refusal_in o.answer ≡ refusal_in p.answer = c.0 ∙ sym d.0 in
      let z : length_in o.answer ≡ length_in p.answer = no_length o.answer (some_number o.answer c.0) ∙ sym (no_length p.answer (some_number p.answer d.0)) in
      let s = same_answer o.answer p.answer e z in
      λ i. left (record { answer = s i; head = (c.1 ∙ sym d.1) i }) ((c.2 ∙ sym d.2) i) ((c.3 ∙ sym d.3) i)
    where
      some_number : (w : Answer) → refusal_in w ≡ x → 1 ≤ (refusal_in w).number
      some_number w e = let q : (refusal_in w).number ≡ x.number = ap (λ (u : Refusal). u.number) e in omega arith
  comes_one (done e t) k c d =
      λ i. left (record { answer = (c.0 ∙ sym d.0) i; head = (c.1 ∙ sym d.1) i }) ((c.2 ∙ sym d.2) i) ((c.3 ∙ sym d.3) i)

  -- THE CALL
  pub called_one : (step : End → Reply) → ((e : End) → Numbered (step e)) → Called step h m out o m' a → Called step h m out p n' b → left o m' a ≡ left p n' b
  called_one step k c d =
      sure_left (left o m' a) (left p n' b)
      (λ n. n (comes_one (refused (number 12)) (omega arith)
      (c.damaged (λ f. n (comes_one (step (end_of h m)) (k (end_of h m)) (c.formed f) (d.formed f))))
      (d.damaged (λ f. n (comes_one (step (end_of h m)) (k (end_of h m)) (c.formed f) (d.formed f))))))

-- A TEXT THAT IS GIVEN
pub gives_one : (h : Head) (t out : List ℕ) (o p : Outcome) (a b : List ℕ) → Gives h t out o a → Gives h t out p b → (o ≡ p) × (a ≡ b)
gives_one h t out o p a b x y = go (known (ltb (length out) (length t)))
  where
    both : {v : Answer} {c : List ℕ} → (o.answer ≡ v) × (a ≡ c) → (p.answer ≡ v) × (b ≡ c) → (o ≡ p) × (a ≡ b)
    both c d = (λ i. record { answer = (c.0 ∙ sym d.0) i; head = (x.0 ∙ sym y.0) i }, c.1 ∙ sym d.1)

    go : (ltb (length out) (length t) ≡ true) ⊎ (ltb (length out) (length t) ≡ false) → (o ≡ p) × (a ≡ b)
    go (inl k) = let l : length out < length t = ltb-true (length out) (length t) k in both (x.1.1 l) (y.1.1 l)
    go (inr k) = let l : length t ≤ length out = ltb-false (length out) (length t) k in both (x.1.0 l) (y.1.0 l)
