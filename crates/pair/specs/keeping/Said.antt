-- WHAT A MESSAGE THAT WAS READ SAYS of the flight that it names, by what it does.
use Rattle.std.specs.Prelude.{◌≡◌, ◌⊎◌, Bool, true, false, cond, List, [], ◌∷◌, ◌++◌, ℕ, ◌+◌, ◌≤◌}
use Rattle.std.proofs.Math.Path.{refl}
use Rattle.std.proofs.Common.{sym, ap, ◌∙◌, subst}
use Rattle.std.proofs.Math.Logic.{inl, inr, ⊎_elim}
use Rattle.scan.specs.Grammar.{Derives}
use Rattle.scan.specs.Texts.{opt}
use Rattle.scan.specs.Scanner.{among, occurs}
use Rattle.scan.specs.Tests.{names, strange, covers}
use Rattle.fields.specs.Names as n
use Rattle.fields.specs.Fields.{in07, in08, in09, in10, timed, in13, g13, in13o, in14, after15, in15, alternates, in16, rest16, in_three18, in_four18, in18}
use Rattle.message.specs.declared.Kind.{Kind}
use Rattle.message.specs.declared.Kind.TheVariants.{None, Fpl, Cpl, Est, Chg, Cnl, Rti, Rta, Rla, Lam, Lrm}
use Rattle.message.specs.declared.Record.{Record}
use Rattle.message.specs.declared.Verdict.TheVariants.{Read}
use Rattle.message.specs.Record.{is_chg}
use Rattle.reader.specs.Reading.{cut, Judged}
use Rattle.compose.specs.Layout.{Told, Tells, find}
use Rattle.compose.specs.Order.{ordered}
use Rattle.compose.specs.Recorded.{ordered_plain, its, its_bytes}
use Rattle.excerpt.specs.Excerpt.{Texts}
use Rattle.excerpt.specs.Pieces.{kept, Piece, piece}
use Rattle.excerpt.specs.Said.{Said, order, own_said, changes_said}
use Rattle.excerpt.specs.ByKind.{Filed, Coordinated, fpl_said, cpl_said, est_said}
use Rattle.excerpt.specs.Sizes.{number_small}
use Rattle.deeds.specs.declared.Deed.{Deed}
use Rattle.deeds.specs.declared.Deed.TheVariants.{Files, Enters, Amends, Estimates, Cancels, Offers, Retracts, Accepts, Nothing}
use Rattle.deeds.specs.Message.{Message, message_of}
use Rattle.deeds.specs.Deeds.{in_order, turned, rta_deed, deed_by, deed_of, old, changed_key, new}

-- a field 13 within field 22 has both departure and time
abbrev pub Timely : Texts → Type 0
Timely t = (t.departure ≡ []) ⊎ Derives timed t.time

-- THE MESSAGE'S WORD, by its deed: the texts that the flight gets, and the key under which it then stands
abbrev pub Says : Deed → Message → Type 0
Says Files m = Filed m.own m.field14 × (new m ≡ old m)
Says Enters m = Coordinated m.own m.field14 × Derives (rest16 0) m.own.rest16 × (new m ≡ old m)
Says Amends m = Said m.changes × Timely m.changes × (new m ≡ changed_key m)
Says Estimates m = Derives in14 m.field14 × (new m ≡ old m)
Says Cancels m = new m ≡ old m
Says Offers m = new m ≡ old m
Says Retracts m = new m ≡ old m
Says Accepts m = new m ≡ old m
Says Nothing m = Unit

-- what holds of every message that was read
pub record Stated (m : Message) : Type 0 where
  pub number : m.number ≤ 999
  pub says : Says (deed_of m) m

-- THE TIME of a field 13 within field 22

abbrev place13 : List ℕ
place13 = (n.amended + n.departure) ∷ (n.amended + n.time) ∷ []

told_time : (t : List ℕ) (cs : List Told) → Tells (opt (g13 n.amended)) t cs → (find (n.amended + n.departure) cs ≡ []) ⊎ Derives timed (find (n.amended + n.time) cs)
unfolding in13
told_time t cs (inl u) = inl (ap (find (n.amended + n.departure)) u.1)
told_time t cs (inr u) =
    let e : cs ≡ record { name = n.amended + n.departure; its = u.0 } ∷ record { name = n.amended + n.time; its = u.1 } ∷ [] = u.5 ∙ (λ i. u.6.1 i ++ u.7.1 i) in
    inr (subst (Derives timed) (sym (ap (find (n.amended + n.time)) e)) u.7.0)

module _ (w : List ℕ) (r : Record) (j : Judged w Read r) where
  time_ordered : (a b c : ℕ) → Tells (ordered a b c) w (its w r j) → (cut w r.parts.changes.departure ≡ []) ⊎ Derives timed (cut w r.parts.changes.time)
  unfolding kept ordered among occurs names strange covers in07 in08 in09 in10 in13 in13o in14 after15 in15 alternates in16 in_three18 in_four18 in18
  time_ordered a b c t =
      let p : Piece place13 (opt (g13 n.amended)) (its w r j) = piece place13 (ordered a b c) (ordered_plain a b c) w (its w r j) t in
      let d : cut w r.parts.changes.departure ≡ find (n.amended + n.departure) p.its = its_bytes w r j (n.amended + n.departure) ∙ p.same (n.amended + n.departure) refl in
      let e : cut w r.parts.changes.time ≡ find (n.amended + n.time) p.its = its_bytes w r j (n.amended + n.time) ∙ p.same (n.amended + n.time) refl in
      ⊎_elim (λ x. inl (d ∙ x)) (λ x. inr (subst (Derives timed) (sym e) x)) (told_time p.text p.its p.tells)

  time_said : (cut w r.parts.changes.departure ≡ []) ⊎ Derives timed (cut w r.parts.changes.time)
  time_said = order w r j ((cut w r.parts.changes.departure ≡ []) ⊎ Derives timed (cut w r.parts.changes.time)) time_ordered

-- THE KEY

new_old : (m : Message) → is_chg m.kind ≡ false → new m ≡ old m
unfolding new
new_old m e = ap (λ (b : Bool). cond b (changed_key m) (old m)) e

new_changed : (m : Message) → is_chg m.kind ≡ true → new m ≡ changed_key m
unfolding new
new_changed m e = ap (λ (b : Bool). cond b (changed_key m) (old m)) e

-- BY TYPE

rta_says : (m : Message) (a b : Bool) → new m ≡ old m → Says (cond a Retracts (cond b Accepts Nothing)) m
rta_says m true b e = e
rta_says m false true e = e
rta_says m false false e = tt

module _ (w : List ℕ) (r : Record) (j : Judged w Read r) where
  says_by : (k : Kind) → r.kind ≡ k → Says (deed_by k (message_of w r)) (message_of w r)
  unfolding deed_by rta_deed is_chg
  says_by None e = tt
  says_by Fpl e = (fpl_said w r j e, new_old (message_of w r) (ap is_chg e))
  says_by Cpl e = (cpl_said w r j e, (own_said w r j).rest16, new_old (message_of w r) (ap is_chg e))
  says_by Est e = ((est_said w r j e).estimate, new_old (message_of w r) (ap is_chg e))
  says_by Chg e = (changes_said w r j, time_said w r j, new_changed (message_of w r) (ap is_chg e))
  says_by Cnl e = new_old (message_of w r) (ap is_chg e)
  says_by Rti e = new_old (message_of w r) (ap is_chg e)
  says_by Rta e = rta_says (message_of w r) (in_order (message_of w r)) (turned (message_of w r)) (new_old (message_of w r) (ap is_chg e))
  says_by Rla e = tt
  says_by Lam e = tt
  says_by Lrm e = tt

  pub stated : Stated (message_of w r)
  stated = record { number = number_small w r j; says = says_by r.kind refl }
