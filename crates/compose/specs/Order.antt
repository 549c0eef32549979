-- In what order the parts of any message stand: all ten types have their fields in one order, and differ in which they have.
use Rattle.std.specs.Prelude.{◌≡◌, refl, List, [], ◌∷◌, ◌++◌, ℕ}
use Rattle.std.proofs.Common.{sym, ap, ◌∙◌, subst, inl, inr, ⊎_elim, append_assoc, append-nil}
use Rattle.scan.specs.Grammar.{G, eps, run, alt, part, field}
use Rattle.scan.specs.declared.Class.TheVariants.{Digit}
use Rattle.scan.specs.Texts.{◌⨾◌, byte, opt, lit}
use Rattle.fields.specs.Names as n
use Rattle.fields.specs.Fields.{◌─◌, numbered, in07, g07, g07a, g08, g09, g10, in13, g13, g13s, in13o, g13o, g14, g15, alternates, in16, g16, g16s, in18, g18, g31, g32}
use Rattle.changes.specs.Changes.{from18, from16, from15, from13, from10, from09, from08, in_changes, changes, in_changed, changed}
use Rattle.types.specs.Messages.{opened, fpl, cpl, est, chg, cnl, rti, rta, rla, lam, lrm}
use Rattle.compose.specs.Layout.{Told, Tells}

-- a field there or not, after its hyphen
infixr 20 ◌┄◌
abbrev pub ◌┄◌ : G → G → G
g ┄ r = opt (byte 45 ⨾ g) ⨾ r

-- what follows field 32
abbrev pub ends : G
ends = (lit (82 ∷ 77 ∷ 75 ∷ 47 ∷ []) ⨾ part n.reason (run Digit 2 2)) ┄ byte 41

abbrev pub from31 : G
from31 = g31 ┄ g32 ┄ ends

-- fields 22
abbrev pub at18 : G
at18 = (lit (49 ∷ 56 ∷ 47 ∷ []) ⨾ g18 n.amended) ┄ from31

abbrev pub at16 : G
at16 = (lit (49 ∷ 54 ∷ 47 ∷ []) ⨾ g16 n.amended) ┄ at18

abbrev pub at15 : G
at15 = (lit (49 ∷ 53 ∷ 47 ∷ []) ⨾ g15 n.amended) ┄ at16

abbrev pub at13 : G
at13 = (lit (49 ∷ 51 ∷ 47 ∷ []) ⨾ g13 n.amended) ┄ at15

abbrev pub at10 : G
at10 = (lit (49 ∷ 48 ∷ 47 ∷ []) ⨾ g10 n.amended) ┄ at13

abbrev pub at09 : G
at09 = (lit (48 ∷ 57 ∷ 47 ∷ []) ⨾ g09 n.amended) ┄ at10

abbrev pub at08 : G
at08 = (lit (48 ∷ 56 ∷ 47 ∷ []) ⨾ g08 n.amended) ┄ at09

abbrev pub at07 : G
at07 = (lit (48 ∷ 55 ∷ 47 ∷ []) ⨾ g07 n.amended) ┄ at08

-- the reference and all that follows it
abbrev pub referred : G
referred =
    opt (numbered n.reference_sender n.reference_receiver n.reference_number)
    ⨾ g07 0 ┄ g08 0 ┄ g09 0 ┄ g10 0 ┄ g13o ┄ g14 ┄ g15 0 ┄ g16 0 ┄ g18 0 ┄ at07

unfoldable pub ordered : ℕ → ℕ → ℕ → G
ordered a b c = opened a b c ⨾ referred

-- ONE GRAMMAR WITHIN ANOTHER

-- what a text of the one tells, it tells as one of the other
pub record Within (a b : G) : Type 0 where
  pub into : (w : List ℕ) (cs : List Told) → Tells a w cs → Tells b w cs

pub same : {a : G} → Within a a
same = record { into = λ w cs t. t }

-- nothing stands there
lacks : {x r s : G} → Within r s → Within r (opt x ⨾ s)
lacks f = record { into = λ w cs t. ([], w, [], cs, refl, refl, inl (refl, refl), f.into w cs t) }

-- it stands there
there : {x y r s : G} → Within x y → Within r s → Within (x ⨾ r) (opt y ⨾ s)
there f g = record { into = λ w cs t. (t.0, t.1, t.2, t.3, t.4, t.5, inr (f.into t.0 t.2 t.6), g.into t.1 t.3 t.7) }

-- the same piece stands first
leads : {a r s : G} → Within r s → Within (a ⨾ r) (a ⨾ s)
leads g = record { into = λ w cs t. (t.0, t.1, t.2, t.3, t.4, t.5, t.6, g.into t.1 t.3 t.7) }

-- in another pairing
left : {a b c d : G} → Within ((a ⨾ b) ⨾ c) d → Within (a ⨾ (b ⨾ c)) d
left f = record {
  into = λ w cs t.
      let u = t.7 in
      f.into w cs (t.0 ++ u.0, u.1, t.2 ++ u.2, u.3, t.4 ∙ ap (λ (z : List ℕ). t.0 ++ z) u.4 ∙ sym (append_assoc t.0 u.0 u.1), t.5 ∙ ap (λ (z : List Told). t.2 ++ z) u.5 ∙ sym (append_assoc t.2 u.2 u.3), (t.0, u.0, t.2, u.2, refl, refl, t.6, u.6), u.7);
}

right : {a b c d : G} → Within (a ⨾ (b ⨾ c)) d → Within ((a ⨾ b) ⨾ c) d
right f = record {
  into = λ w cs t.
      let u = t.6 in
      f.into w cs (u.0, u.1 ++ t.1, u.2, u.3 ++ t.3, t.4 ∙ ap (λ (z : List ℕ). z ++ t.1) u.4 ∙ append_assoc u.0 u.1 t.1, t.5 ∙ ap (λ (z : List Told). z ++ t.3) u.5 ∙ append_assoc u.2 u.3 t.3, u.6, (u.1, t.1, u.3, t.3, refl, refl, u.7, t.7));
}

-- one of two
pub cases : {a b d : G} → Within a d → Within b d → Within (alt a b) d
cases f g = record { into = λ w cs t. ⊎_elim (f.into w cs) (g.into w cs) t }

pub first : {a b : G} → Within a (alt a b)
first = record { into = λ w cs t. inl t }

pub second : {a b c : G} → Within a c → Within a (alt b c)
second f = record { into = λ w cs t. inr (f.into w cs t) }

named : {a b : G} {ns : List ℕ} → Within a b → Within a (field ns b)
named f = record { into = f.into }

-- with nothing after it
alone : {a b : G} → Tells b [] [] → Within a (a ⨾ b)
alone e = record { into = λ w cs t. (w, [], cs, [], sym (append-nil w), sym (append-nil cs), t, e) }

infixl 10 ◌after◌
◌after◌ : {a b c : G} → Within b c → Within a b → Within a c
f after g = record { into = λ w cs t. f.into w cs (g.into w cs t) }

heads : {a b r : G} → Within a b → Within (a ⨾ r) (b ⨾ r)
heads g = record { into = λ w cs t. (t.0, t.1, t.2, t.3, t.4, t.5, g.into t.0 t.2 t.6, t.7) }

-- one of two, or none, in a row
splits : {h a b r d : G} → Within (h ⨾ (a ⨾ r)) d → Within (h ⨾ (b ⨾ r)) d → Within (h ⨾ (alt a b ⨾ r)) d
splits f g = record {
  into = λ w cs t.
      let u = t.7 in
      ⊎_elim
      (λ x. f.into w cs (t.0, t.1, t.2, t.3, t.4, t.5, t.6, (u.0, u.1, u.2, u.3, u.4, u.5, x, u.7)))
      (λ x. g.into w cs (t.0, t.1, t.2, t.3, t.4, t.5, t.6, (u.0, u.1, u.2, u.3, u.4, u.5, x, u.7)))
      u.6;
}

none : (r d : G) → Within r d → Within (eps ⨾ r) d
none r d f = record {
  into = λ w cs t.
      let i : w ≡ t.1 = t.4 ∙ ap (λ (z : List ℕ). z ++ t.1) t.6.0 in
      let j : cs ≡ t.3 = t.5 ∙ ap (λ (z : List Told). z ++ t.3) t.6.1 in
      f.into w cs (subst (λ (z : List ℕ). Tells r z cs) (sym i) (subst (Tells r t.1) (sym j) t.7));
}

maybe : {q : G} {r d : G} → Within r d → Within (q ⨾ r) d → Within (opt q ⨾ r) d
maybe {r = r} {d = d} f g = record {
  into = λ w cs t. ⊎_elim (λ x. (none r d f).into w cs (t.0, t.1, t.2, t.3, t.4, t.5, x, t.7)) (λ x. g.into w cs (t.0, t.1, t.2, t.3, t.4, t.5, x, t.7)) t.6;
}

-- a field after its hyphen
has : {g h r s : G} → Within g h → Within r s → Within (byte 45 ⨾ (g ⨾ r)) (h ┄ s)
has f k = left (there (leads f) k)

-- Fields with fewer parts

in_07a : Within g07a (g07 0)
unfolding in07
in_07a = named (alone (inl (refl, refl)))

in_13 : Within (g13 0) g13o
unfolding in13 in13o
in_13 = record { into = λ w cs t. (t.0, t.1, t.2, t.3, t.4, t.5, t.6, inr t.7) }

in_13s : Within g13s g13o
unfolding in13o
in_13s = named (alone (inl (refl, refl)))

in_16s : Within g16s (g16 0)
unfolding in16 alternates
in_16s = named (alone ([], [], [], [], refl, refl, inl (refl, refl), inl (refl, refl)))

-- Fields 22: what is left once the text ends, and each number with those that may follow it

end31 : Within (byte 41) from31
end31 = lacks (lacks (lacks same))

end18 : Within (byte 41) at18
end18 = lacks end31

end16 : Within (byte 41) at16
end16 = lacks end18

end15 : Within (byte 41) at15
end15 = lacks end16

end13 : Within (byte 41) at13
end13 = lacks end15

end10 : Within (byte 41) at10
end10 = lacks end13

end09 : Within (byte 41) at09
end09 = lacks end10

end08 : Within (byte 41) at08
end08 = lacks end09

end07 : Within (byte 41) at07
end07 = lacks end08

from_here : {l g f r s : G} → Within (byte 45 ⨾ (f ⨾ r)) s → Within r s → Within (byte 45 ⨾ (alt (l ⨾ (g ⨾ opt (byte 45 ⨾ f))) f ⨾ r)) ((l ⨾ g) ┄ s)
from_here f e = splits (has same (maybe e (right f)) after leads (right same after heads (left same))) (lacks f)

in_18 : Within (byte 45 ⨾ (from18 ⨾ byte 41)) at18
unfolding from18
in_18 = has same end31

in_16 : Within (byte 45 ⨾ (from16 ⨾ byte 41)) at16
unfolding from16
in_16 = from_here in_18 end18

in_15 : Within (byte 45 ⨾ (from15 ⨾ byte 41)) at15
unfolding from15
in_15 = from_here in_16 end16

in_13c : Within (byte 45 ⨾ (from13 ⨾ byte 41)) at13
unfolding from13
in_13c = from_here in_15 end15

in_10 : Within (byte 45 ⨾ (from10 ⨾ byte 41)) at10
unfolding from10
in_10 = from_here in_13c end13

in_09 : Within (byte 45 ⨾ (from09 ⨾ byte 41)) at09
unfolding from09
in_09 = from_here in_10 end10

in_08 : Within (byte 45 ⨾ (from08 ⨾ byte 41)) at08
unfolding from08
in_08 = from_here in_09 end09

in_changes_lem : Within (byte 45 ⨾ (in_changes ⨾ byte 41)) at07
unfolding in_changes
in_changes_lem = splits (has same end08) (lacks in_08)

in_22 : Within (byte 45 ⨾ (changes ⨾ byte 41)) at07
in_22 = record { into = in_changes_lem.into }

-- with the message's own field 18, which has three forms
own_18 : {g : G} → Within g (g18 0) → Within (byte 45 ⨾ ((g ─ changes) ⨾ byte 41)) (g18 0 ┄ at07)
own_18 f = has f (right in_22) after leads (right same)

in_forms : Within (byte 45 ⨾ (in_changed ⨾ byte 41)) (g18 0 ┄ at07)
unfolding in_changed in18
in_forms = splits (lacks in_22) (splits (own_18 (named first)) (splits (own_18 (named (second first))) (own_18 (named (second (second same))))))

in_changed_lem : Within (byte 45 ⨾ (changed ⨾ byte 41)) (g18 0 ┄ at07)
in_changed_lem = record { into = in_forms.into }

-- THE TEN TYPES

refers : {a b r s : G} → Within r s → Within ((a ⨾ b) ⨾ r) (a ⨾ (opt b ⨾ s))
refers f = right (leads (there same f))

pub in_fpl : Within fpl (ordered 70 80 76)
unfolding fpl ordered
in_fpl = leads (lacks (has same (has same (has same (has same (has in_13 (lacks (has same (has same (has same end07))))))))))

pub in_cpl : Within cpl (ordered 67 80 76)
unfolding cpl ordered
in_cpl = leads (lacks (has same (has same (has same (has same (has in_13s (has same (has same (has in_16s (has same end07))))))))))

pub in_est : Within est (ordered 69 83 84)
unfolding est ordered
in_est = refers (has same (lacks (lacks (lacks (has in_13s (has same (lacks (has in_16s (lacks end07)))))))))

pub in_chg : Within chg (ordered 67 72 71)
unfolding chg ordered
in_chg = refers (has in_07a (lacks (lacks (lacks (has same (lacks (lacks (has in_16s in_changed_lem))))))))

pub in_cnl : Within cnl (ordered 67 78 76)
unfolding cnl ordered
in_cnl = refers (has in_07a (lacks (lacks (lacks (has same (lacks (lacks (has in_16s (has same end07)))))))))

-- no field 22
no22 : {r : G} → Within r from31 → Within r at07
no22 f = lacks (lacks (lacks (lacks (lacks (lacks (lacks (lacks f)))))))

pub in_rti : Within rti (ordered 82 84 73)
unfolding rti ordered
in_rti = refers (has same (lacks (lacks (lacks (has in_13s (lacks (lacks (has in_16s (lacks (no22 (has same (has same (lacks same)))))))))))))

pub in_rta : Within rta (ordered 82 84 65)
unfolding rta ordered
in_rta = refers (has in_07a (lacks (lacks (lacks (has in_13s (lacks (lacks (has in_16s (lacks (no22 (has same (lacks (lacks same)))))))))))))

-- no field before 31
no18 : {r : G} → Within r from31 → Within r (g07 0 ┄ g08 0 ┄ g09 0 ┄ g10 0 ┄ g13o ┄ g14 ┄ g15 0 ┄ g16 0 ┄ g18 0 ┄ at07)
no18 f = lacks (lacks (lacks (lacks (lacks (lacks (lacks (lacks (lacks (no22 f)))))))))

pub in_rla : Within rla (ordered 82 76 65)
unfolding rla ordered
in_rla = refers (no18 (has same (lacks (lacks same))))

pub in_lam : Within lam (ordered 76 65 77)
unfolding lam ordered
in_lam = refers (no18 end31)

pub in_lrm : Within lrm (ordered 76 82 77)
unfolding lrm ordered
in_lrm = refers (no18 (lacks (lacks (has same same after leads (left same)))))
