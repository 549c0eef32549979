-- UNANSWERED MESSAGES, seen by their numbers: what is found, what one more or one less comes to, and how many there are of a sort.
use Rattle.std.specs.Prelude.{◌≡◌, ◌≢◌, Bool, true, false, length}
use Rattle.std.proofs.Math.Path.{refl, ap, subst, fun_ext}
use Rattle.std.proofs.Common.{sym, ◌∙◌, ⊎_elim, arith, eq-eqb, eqb-true, ne_eqb}
use Rattle.std.proofs.Math.Bool.{cond}
use Rattle.std.proofs.Math.Option.{Option, none, some}
use mathlib.Core.List.{List, [], ◌∷◌}
use Prim.Native.Nat.{ℕ, zero, suc, ◌+◌, ◌<◌}
use Rattle.pair.specs.kinds.Tools.{get_below, upd, upd_same, upd_other, same?, true_false, none_some, some_inj, free_none as none_where_free}
use Rattle.scan.specs.Bools.{neither}
use Rattle.places.specs.Place.{Place, At, Nowhere}
use Rattle.places.specs.Places.{Places, get, set, is_free, get_set, get_other, found_below, found_has, found_none, first_set}
use Rattle.unanswered.specs.Waiting.{Waiting}
use Rattle.deeds.specs.Message.{Message}
use Rattle.deeds.specs.declared.Deed.{Deed}
use Rattle.deeds.specs.Deeds.{deed_of, makes}
use Rattle.deeds.specs.Applying.{lowest_free, held_at}
use Rattle.memory.specs.End.{numbered}
use Rattle.rules.specs.Reads.{message_in}
use Rattle.rules.specs.Answers.{is_acceptance}
use Rattle.rules.specs.Laws.{accepts}
use Rattle.rules.specs.Receiving.{waiting_at}
use Rattle.rules.specs.Sending.{any_waiting, count_waiting}
use Rattle.pair.specs.kinds.Kinds.{Content, own, near, content_of, takes}
use Rattle.pair.specs.kinds.Ends.{WaitingFormed, content_in, waits_in}

-- A PLACE WITH A NUMBER

numbered_is : (n : ℕ) (o : Option Waiting) → numbered n o ≡ true → (q : Waiting) × (o ≡ some q) × (q.number ≡ n)
unfolding numbered
numbered_is n none e = absurd (true_false e refl)
numbered_is n (some q) e = (q, refl, eqb-true q.number n e)

pub number_at_lem : (n : ℕ) (o : Option Waiting) (q : Waiting) → o ≡ some q → q.number ≡ n → numbered n o ≡ true
unfolding numbered
number_at_lem n o q p e = ap (numbered n) p ∙ eq-eqb q.number n e

number_not : (n : ℕ) (q : Waiting) → n ≢ q.number → numbered n (some q) ≡ false
unfolding numbered
number_not n q d = ne_eqb q.number n (λ e. d (sym e))

free_numbered : (n : ℕ) (o : Option Waiting) → o ≡ none → numbered n o ≡ false
unfolding numbered
free_numbered n o e = ap (numbered n) e

-- WHAT IS FOUND

waits_at : (l : Places Waiting) (n : ℕ) (p : Place) (o : Option Waiting) → waiting_at n l ≡ p → held_at p l ≡ o → waits_in l n ≡ content_in o
unfolding waits_in
waits_at l n p o e h = ap (λ (x : Place). content_in (held_at x l)) e ∙ ap content_in h

pub waits_found : (l : Places Waiting) (n i : ℕ) → waiting_at n l ≡ At i → (q : Waiting) × (get i l ≡ some q) × (q.number ≡ n) × (waits_in l n ≡ some (content_of (message_in q.text)))
unfolding content_in
waits_found l n i e =
    let f = numbered_is n (get i l) (found_has (numbered n) i l e) in
    (f.0, f.1, f.2, waits_at l n (At i) (some f.0) e f.1)

pub waits_nowhere : (l : Places Waiting) (n : ℕ) → waiting_at n l ≡ Nowhere → waits_in l n ≡ none
unfolding content_in
waits_nowhere l n e = waits_at l n Nowhere none e refl

pub waits_some : (l : Places Waiting) (n : ℕ) (c : Content) → waits_in l n ≡ some c → (i : ℕ) × (q : Waiting) × (waiting_at n l ≡ At i) × (get i l ≡ some q) × (q.number ≡ n) × (c ≡ content_of (message_in q.text))
waits_some l n c w = go (waiting_at n l) refl
  where
    go : (p : Place) → waiting_at n l ≡ p → (i : ℕ) × (q : Waiting) × (waiting_at n l ≡ At i) × (get i l ≡ some q) × (q.number ≡ n) × (c ≡ content_of (message_in q.text))
    go (At i) e = let f = waits_found l n i e in (i, f.0, e, f.1, f.2, some_inj w f.3)
    go Nowhere e = absurd (none_some (waits_nowhere l n e) w)

-- where nothing waits with a number, no place has it
none_there : (l : Places Waiting) (n : ℕ) → waits_in l n ≡ none → waiting_at n l ≡ Nowhere
none_there l n w = go (waiting_at n l) refl
  where
    go : (p : Place) → waiting_at n l ≡ p → waiting_at n l ≡ Nowhere
    go (At i) e = absurd (none_some w (waits_found l n i e).3)
    go Nowhere e = e

-- ONE PLACE IS CHANGED

-- a number that neither had is seen as before
waits_as : (l : Places Waiting) (n i : ℕ) (y : Option Waiting) → numbered n y ≡ false → numbered n (get i l) ≡ false → waits_in (set i y l) n ≡ waits_in l n
unfolding waits_in
waits_as l n i y a b = ap (λ (p : Place). content_in (held_at p (set i y l))) same ∙ go (waiting_at n l) refl
  where
    same : waiting_at n (set i y l) ≡ waiting_at n l
    same = first_set (numbered n) i 0 y l (a ∙ sym b)

    go : (p : Place) → waiting_at n l ≡ p → content_in (held_at p (set i y l)) ≡ content_in (held_at p l)
    go (At j) e = ap content_in (get_other i j y l (λ z. true_false (found_has (numbered n) j l e) (ap (λ (k : ℕ). numbered n (get k l)) z ∙ b)))
    go Nowhere e = refl

-- the lowest free place is one of them, and free
free_below : {A : Type 0} (l : Places A) (i : ℕ) → lowest_free l ≡ At i → i < length l
free_below l i e = let h : i < 0 + length l = found_below is_free 0 i l e in omega arith

free_none : {A : Type 0} (l : Places A) (i : ℕ) → lowest_free l ≡ At i → get i l ≡ none
free_none l i e = none_where_free (get i l) (found_has is_free i l e)

-- THE NUMBER OF ONE PLACE ALONE

alone_seen : (l : Places Waiting) (n i : ℕ) (q : Waiting) → get i l ≡ some q → q.number ≡ n → ((j : ℕ) (r : Waiting) → get j l ≡ some r → r.number ≡ n → j ≡ i) → waits_in l n ≡ some (content_of (message_in q.text))
alone_seen l n i q g e one = go (waiting_at n l) refl
  where
    go : (p : Place) → waiting_at n l ≡ p → waits_in l n ≡ some (content_of (message_in q.text))
    go (At j) a =
        let f = waits_found l n j a in
        let z : f.0 ≡ q = some_inj (ap (λ (k : ℕ). get k l) (sym (one j f.0 f.1 f.2)) ∙ f.1) g in
        f.3 ∙ ap (λ (x : Waiting). some (content_of (message_in x.text))) z
    go Nowhere a = absurd (true_false (number_at_lem n (get i l) q g e) (found_none (numbered n) 0 i l a (get_below i l q g)))

-- and one that no place has
nowhere_seen : (l : Places Waiting) (n : ℕ) → ((j : ℕ) (r : Waiting) → get j l ≡ some r → r.number ≡ n → ⊥) → waits_in l n ≡ none
nowhere_seen l n never = go (waiting_at n l) refl
  where
    go : (p : Place) → waiting_at n l ≡ p → waits_in l n ≡ none
    go (At j) a = let f = waits_found l n j a in absurd (never j f.0 f.1 f.2)
    go Nowhere a = waits_nowhere l n a

-- A MESSAGE IS PUT where none had its number
module _ (l : Places Waiting) (i : ℕ) (q : Waiting) (f : lowest_free l ≡ At i) where
  put_one : waits_in l q.number ≡ none → (j : ℕ) (r : Waiting) → get j (set i (some q) l) ≡ some r → r.number ≡ q.number → j ≡ i
  put_one w j r g e = ⊎_elim (λ z. z) (λ z. absurd (other (sym (get_other i j (some q) l z) ∙ g))) (same? j i)
    where
      other : get j l ≡ some r → ⊥
      other h = true_false (number_at_lem q.number (get j l) r h e) (found_none (numbered q.number) 0 j l (none_there l q.number w) (get_below j l r h))

  put_same : waits_in l q.number ≡ none → waits_in (set i (some q) l) q.number ≡ some (content_of (message_in q.text))
  put_same w = alone_seen (set i (some q) l) q.number i q (get_set i (some q) l (free_below l i f)) refl (put_one w)

  put_other : (n : ℕ) → n ≢ q.number → waits_in (set i (some q) l) n ≡ waits_in l n
  put_other n d = waits_as l n i (some q) (number_not n q d) (free_numbered n (get i l) (free_none l i f))

pub waits_put : (ours partners : List ℕ) (l : Places Waiting) → WaitingFormed ours partners l → (i : ℕ) (q : Waiting) → lowest_free l ≡ At i → waits_in l q.number ≡ none → waits_in (set i (some q) l) ≡ upd (waits_in l) q.number (some (content_of (message_in q.text)))
waits_put ours partners l v i q f w = fun_ext (λ n. ⊎_elim (here n) (there n) (same? n q.number))
  where
    here : (n : ℕ) → n ≡ q.number → waits_in (set i (some q) l) n ≡ upd (waits_in l) q.number (some (content_of (message_in q.text))) n
    here n e = ap (waits_in (set i (some q) l)) e ∙ put_same l i q f w ∙ sym (upd_same (waits_in l) q.number (some (content_of (message_in q.text))) n e)

    there : (n : ℕ) → n ≢ q.number → waits_in (set i (some q) l) n ≡ upd (waits_in l) q.number (some (content_of (message_in q.text))) n
    there n d = put_other l i q f n d ∙ sym (upd_other (waits_in l) q.number (some (content_of (message_in q.text))) n d)

-- ONE IS TAKEN AWAY

pub waits_freed : (ours partners : List ℕ) (l : Places Waiting) → WaitingFormed ours partners l → (n i : ℕ) → waiting_at n l ≡ At i → waits_in (set i none l) ≡ upd (waits_in l) n none
waits_freed ours partners l v n i a = fun_ext (λ k. ⊎_elim (here k) (there k) (same? k n))
  where
    q : Waiting
    q = (waits_found l n i a).0

    held : get i l ≡ some q
    held = (waits_found l n i a).1

    its : q.number ≡ n
    its = (waits_found l n i a).2

    gone : (j : ℕ) (r : Waiting) → get j (set i none l) ≡ some r → r.number ≡ n → ⊥
    gone j r g e =
        ⊎_elim
        (λ z. none_some (ap (λ (k : ℕ). get k (set i none l)) z ∙ get_set i none l (get_below i l q held)) g)
        (λ z. z (v.numbers j i r q (sym (get_other i j none l z) ∙ g) held (e ∙ sym its)))
        (same? j i)

    here : (k : ℕ) → k ≡ n → waits_in (set i none l) k ≡ upd (waits_in l) n none k
    here k e = ap (waits_in (set i none l)) e ∙ nowhere_seen (set i none l) n gone ∙ sym (upd_same (waits_in l) n none k e)

    there : (k : ℕ) → k ≢ n → waits_in (set i none l) k ≡ upd (waits_in l) n none k
    there k d =
        waits_as l k i none (free_numbered k none refl) (ap (numbered k) held ∙ number_not k q (λ e. d (e ∙ its)))
        ∙ sym (upd_other (waits_in l) n none k d)

-- HOW MANY

count_one : (b : Bool) (n : ℕ) → cond b (suc n) n ≡ cond b 1 0 + n
count_one true n = omega arith
count_one false n = omega arith

count_last : (b : Bool) (n : ℕ) → n + cond b 1 0 ≡ cond b (suc n) n
count_last true n = omega arith
count_last false n = omega arith

-- behind one that counts or not
count_more : (b : Bool) (x y k : ℕ) → x ≡ k + y → cond b (suc x) x ≡ k + cond b (suc y) y
count_more true x y k e = omega arith
count_more false x y k e = e

count_less : (b : Bool) (x y k : ℕ) → x + k ≡ y → cond b (suc x) x + k ≡ cond b (suc y) y
count_less true x y k e = omega arith
count_less false x y k e = e

module _ (p : Waiting → Bool) where
  count_at : (l : Places Waiting) (i : ℕ) (q : Waiting) → get i l ≡ none → i < length l → count_waiting p (set i (some q) l) ≡ cond (p q) 1 0 + count_waiting p l
  unfolding get set count_waiting
  count_at [] i q e h = absurd (omega arith)
  count_at (none ∷ l) zero q e h = count_one (p q) (count_waiting p l)
  count_at (some r ∷ l) zero q e h = absurd (none_some e refl)
  count_at (none ∷ l) (suc i) q e h = count_at l i q e (omega arith)
  count_at (some r ∷ l) (suc i) q e h = count_more (p r) (count_waiting p (set i (some q) l)) (count_waiting p l) (cond (p q) 1 0) (count_at l i q e (omega arith))

  pub count_put : (l : Places Waiting) (i : ℕ) (q : Waiting) → lowest_free l ≡ At i → count_waiting p (set i (some q) l) ≡ cond (p q) 1 0 + count_waiting p l
  count_put l i q f = count_at l i q (free_none l i f) (free_below l i f)

  pub count_freed : (l : Places Waiting) (i : ℕ) (q : Waiting) → get i l ≡ some q → count_waiting p (set i none l) + cond (p q) 1 0 ≡ count_waiting p l
  unfolding get set count_waiting
  count_freed [] i q e = absurd (none_some refl e)
  count_freed (none ∷ l) zero q e = absurd (none_some refl e)
  count_freed (some r ∷ l) zero q e = subst (λ (x : Waiting). count_waiting p l + cond (p x) 1 0 ≡ cond (p r) (suc (count_waiting p l)) (count_waiting p l)) (some_inj refl e) (count_last (p r) (count_waiting p l))
  count_freed (none ∷ l) (suc i) q e = count_freed l i q e
  count_freed (some r ∷ l) (suc i) q e = count_less (p r) (count_waiting p (set i none l)) (count_waiting p l) (cond (p q) 1 0) (count_freed l i q e)

  -- what holds of none holds not of one
  pub any_none : (l : Places Waiting) (i : ℕ) (q : Waiting) → any_waiting p l ≡ false → get i l ≡ some q → p q ≡ false
  unfolding get any_waiting
  any_none [] i q a e = absurd (none_some refl e)
  any_none (none ∷ l) zero q a e = absurd (none_some refl e)
  any_none (some r ∷ l) zero q a e = ap p (some_inj e refl) ∙ (neither (p r) (any_waiting p l) a).0
  any_none (none ∷ l) (suc i) q a e = any_none l i q a e
  any_none (some r ∷ l) (suc i) q a e = any_none l i q (neither (p r) (any_waiting p l) a).1 e

-- an acceptance makes nothing
pub makers_takes : (m : Message) → cond (makes (deed_of m)) 1 0 ≡ takes (content_of m)
unfolding makes takes content_of
makers_takes m = go (is_acceptance (deed_of m)) refl
  where
    go : (b : Bool) → is_acceptance (deed_of m) ≡ b → cond (makes (deed_of m)) 1 0 ≡ takes (cond b (near m) (own m))
    go true e = ap (λ (d : Deed). cond (makes d) 1 0) (accepts (deed_of m) e)
    go false e = refl
