-- How a text is laid out: block by block, each with the parts that stand in it.
use Rattle.std.specs.Prelude.{◌≡◌, refl, ◌⊎◌, Bool, true, false, cond, not, ◌||◌, List, [], ◌∷◌, ◌++◌, ℕ, ◌+◌, ◌≤◌, ◌<◌, length, take, drop, ltb, Option, Some, None}
use Rattle.std.proofs.Common.{sym, ap, ◌∙◌, subst, inl, inr, ⊎_elim, append_assoc, append-nil, arith, length-append, lt-ltb, le-ltb, ltb-true, ltb-false}
use Rattle.std.proofs.lemmas.Bool.{false≢true}
use Rattle.std.specs.List.{list_any}
use Rattle.scan.specs.Bools.{known}
use Rattle.scan.specs.Grammar.{place_of, size_of, Span}
use Rattle.changes.specs.declared.Plan.{Plan}
use Rattle.fields.specs.declared.Estimate.{Estimate}
use Rattle.types.specs.declared.Parts.{Parts}
use Rattle.splice.specs.Splice.{Spliced, total}
use Rattle.splice.specs.Splicing.{front, kept_length}
use Rattle.message.specs.declared.Kind.{Kind}
use Rattle.message.specs.declared.Kind.TheVariants.{None, Fpl, Cpl, Est, Chg, Cnl, Rti, Rta, Rla, Lam, Lrm}
use Rattle.reader.specs.Reading.{cut, cut_none}
use Rattle.pen.specs.declared.Sheet.{Sheet}
use Rattle.pen.specs.Listed.{Inside}
use Rattle.changes.specs.Found.{plan_spans}

-- the blocks one after the other
abbrev pub join : List (List ℕ) → List ℕ
join [] = []
join (x ∷ xs) = x ++ join xs

join_append : (xs ys : List (List ℕ)) → join (xs ++ ys) ≡ join xs ++ join ys
join_append [] ys = refl
join_append (x ∷ xs) ys = ap (λ (z : List ℕ). x ++ z) (join_append xs ys) ∙ sym (append_assoc x (join xs) (join ys))

-- one of the parts is there, by their lengths
abbrev pub some : List ℕ → Bool
some [] = false
some (k ∷ ks) = ltb 0 k || some ks

-- a block that stands only where one of these parts is there
abbrev pub given : List ℕ → List ℕ → List ℕ
given ks x = cond (not (some ks)) [] x

some_total : (ks : List ℕ) → some ks ≡ ltb 0 (total ks)
some_total [] = refl
some_total (k ∷ ks) = go (known (ltb 0 k)) (some_total ks)
  where
    go : (ltb 0 k ≡ true) ⊎ (ltb 0 k ≡ false) → some ks ≡ ltb 0 (total ks) → ltb 0 k || some ks ≡ ltb 0 (k + total ks)
    go (inl e) r = rw e (sym (lt-ltb 0 (k + total ks) (omega (arith, ltb-true 0 k e))))
    go (inr e) r = let z : k + total ks ≡ total ks = omega (arith, ltb-false 0 k e) in rw (e, z) r

pub none_given : (ks x : List ℕ) → total ks ≡ 0 → given ks x ≡ []
none_given ks x e = let z : some ks ≡ false = some_total ks ∙ le-ltb 0 (total ks) (omega arith) in rw z

pub is_given : (ks x : List ℕ) → 0 < total ks → given ks x ≡ x
is_given ks x h = let z : some ks ≡ true = some_total ks ∙ lt-ltb 0 (total ks) h in rw z

-- where a text ends that is being laid out, and whether all of it fitted
pub record End : Type 0 where
  pub at : ℕ
  pub ok : Bool

-- as a pen has it
abbrev pub end_of : Option ℕ → End
end_of None = record { at = 0; ok = false }
end_of (Some n) = record { at = n; ok = true }

abbrev pub start : End
start = record { at = 0; ok = true }

-- what stands at the start of the buffer
pub record Stands (t : List ℕ) (p : End) (w : List ℕ) : Type 0 where
  pub place : p.at ≡ length w
  pub fits : length w ≤ length t
  pub bytes : take (length w) t ≡ w

abbrev pub AllInside : List ℕ → List Span → Type 0
AllInside d [] = Unit
AllInside d (q ∷ qs) = Inside d q × AllInside d qs

-- the parts of these names
abbrev pub spans_at : (ℕ → Span) → List ℕ → List Span
spans_at f [] = []
spans_at f (k ∷ ks) = f k ∷ spans_at f ks

pub all_inside : (w : List ℕ) (f : ℕ → Span) → ((k : ℕ) → Inside w (f k)) → (ks : List ℕ) → AllInside w (spans_at f ks)
all_inside w f h [] = tt
all_inside w f h (k ∷ ks) = (h k, all_inside w f h ks)

-- the blocks xs, with the parts qs in them, were laid out: where all is well they stand behind what stood there, and where
-- all parts lie within d it is well as long as there is room
pub record Adds (d t : List ℕ) (p : End) (xs : List (List ℕ)) (qs : List Span) (e : List ℕ) (r : End) : Type 0 where
  pub size : length e ≡ length t
  pub was : r.ok ≡ true → p.ok ≡ true
  pub all : r.ok ≡ true → AllInside d qs
  pub on : (w : List ℕ) → Stands t p w → r.ok ≡ true → Stands e r (w ++ join xs)
  pub off : (w : List ℕ) → Stands t p w → p.ok ≡ true → AllInside d qs → r.ok ≡ false → length t < length (w ++ join xs)

inside_l : (d : List ℕ) (qs rs : List Span) → AllInside d (qs ++ rs) → AllInside d qs
inside_l d [] rs h = tt
inside_l d (q ∷ qs) rs h = (h.0, inside_l d qs rs h.1)

inside_r : (d : List ℕ) (qs rs : List Span) → AllInside d (qs ++ rs) → AllInside d rs
inside_r d [] rs h = h
inside_r d (q ∷ qs) rs h = inside_r d qs rs h.1

inside_both : (d : List ℕ) (qs rs : List Span) → AllInside d qs → AllInside d rs → AllInside d (qs ++ rs)
inside_both d [] rs g h = h
inside_both d (q ∷ qs) rs g h = (g.0, inside_both d qs rs g.1 h)

joined : (w : List ℕ) (xs ys : List (List ℕ)) → (w ++ join xs) ++ join ys ≡ w ++ join (xs ++ ys)
joined w xs ys = append_assoc w (join xs) (join ys) ∙ ap (λ (z : List ℕ). w ++ z) (sym (join_append xs ys))

-- ONE AFTER THE OTHER
pub then : {d t e f : List ℕ} {p r s : End} {xs ys : List (List ℕ)} {qs rs : List Span} → Adds d t p xs qs e r → Adds d e r ys rs f s → Adds d t p (xs ++ ys) (qs ++ rs) f s
then {d} {t} {e} {f} {p} {r} {s} {xs} {ys} {qs} {rs} a b = record {
  size = b.size ∙ a.size;
  was = λ o. a.was (b.was o);
  all = λ o. inside_both d qs rs (a.all (b.was o)) (b.all o);
  on = λ w h o. subst (Stands f s) (joined w xs ys) (b.on (w ++ join xs) (a.on w h (b.was o)) o);
  off = λ w h o i n.
      ⊎_elim
      (λ y. subst (λ (z : List ℕ). length t < length z) (joined w xs ys) (omega (arith, a.size, b.off (w ++ join xs) (a.on w h y) y (inside_r d qs rs i) n)))
      (λ y. subst (λ (z : List ℕ). length t < length z) (joined w xs ys) (omega (arith, a.off w h o (inside_l d qs rs i) y, length-append (w ++ join xs) (join ys))))
      (known r.ok);
}

-- what was done on a sheet: in the buffer that it has were laid out the blocks that xs makes of its source, with the parts qs in them
pub record Lays (p : Sheet) (xs : List ℕ → List (List ℕ)) (qs : List Span) (r : Sheet) : Type 0 where
  pub buffer : r.text.ghost_name ≡ p.text.ghost_name
  pub source : r.source ≡ p.source
  pub adds : Adds p.source.now p.text.now (end_of p.end) (xs p.source.now) qs r.text.now (end_of r.end)

pub lays_then : {p r s : Sheet} {xs ys : List ℕ → List (List ℕ)} {qs rs : List Span} → Lays p xs qs r → Lays r ys rs s → Lays p (λ d. xs d ++ ys d) (qs ++ rs) s
lays_then a b = record {
  buffer = b.buffer ∙ a.buffer;
  source = b.source ∙ a.source;
  adds = then a.adds (rw (sym a.source) b.adds);
}

-- nothing is added
pub nothing : (d t : List ℕ) (p : End) (xs : List (List ℕ)) (qs : List Span) → join xs ≡ [] → AllInside d qs → Adds d t p xs qs t p
nothing d t p xs qs e i = record {
  size = refl;
  was = λ o. o;
  all = λ o. i;
  on = λ w h o. subst (Stands t p) (sym (ap (λ (z : List ℕ). w ++ z) e ∙ append-nil w)) h;
  off = λ w h o j n. absurd (false≢true (sym n ∙ o));
}

-- the same blocks, otherwise written
pub alike : {d t e : List ℕ} {p r : End} {xs ys : List (List ℕ)} {qs : List Span} → join xs ≡ join ys → Adds d t p xs qs e r → Adds d t p ys qs e r
alike {d} {t} {e} {p} {r} {xs} {ys} {qs} h a = record {
  size = a.size;
  was = a.was;
  all = a.all;
  on = λ w k o. subst (λ (z : List ℕ). Stands e r (w ++ z)) h (a.on w k o);
  off = λ w k o i n. subst (λ (z : List ℕ). length t < length (w ++ z)) h (a.off w k o i n);
}

-- from the start on; e is what stands in the buffer in the end, and o how long the text is
pub lays_from_start : {d t e : List ℕ} {o : Option ℕ} {p r : Sheet} {xs : List ℕ → List (List ℕ)} {qs : List Span} → p.source.now ≡ d → p.text.now ≡ t → p.end ≡ Some 0 → Lays p xs qs r → r.text.now ≡ e → r.end ≡ o → Adds d t start (xs d) qs e (end_of o)
lays_from_start {d} {t} {e} {o} {p} {r} {xs} {qs} s b n a f g = rw (sym s, sym b, sym f, sym g) (subst (λ z. Adds p.source.now p.text.now (end_of z) (xs p.source.now) qs r.text.now (end_of r.end)) n a.adds)

-- it fitted, and is n bytes long
pub fitted : {d t e : List ℕ} {p : End} {xs : List (List ℕ)} {qs : List Span} {o : Option ℕ} (n : ℕ) → o ≡ Some n → Adds d t p xs qs e (end_of o) → Adds d t p xs qs e (end_of (Some n))
fitted {d} {t} {e} {p} {xs} {qs} n i a = subst (λ z. Adds d t p xs qs e (end_of z)) i a

pub lays_alike : {p r : Sheet} {xs ys : List ℕ → List (List ℕ)} {qs : List Span} → ((d : List ℕ) → join (xs d) ≡ join (ys d)) → Lays p xs qs r → Lays p ys qs r
lays_alike {p = p} e a = record { buffer = a.buffer; source = a.source; adds = alike (e p.source.now) a.adds }

-- A BLOCK

pub stayed : (d t : List ℕ) (p : End) (xs : List (List ℕ)) (qs : List Span) → p.ok ≡ false → Adds d t p xs qs t p
stayed d t p xs qs e = record {
  size = refl;
  was = λ o. o;
  all = λ o. absurd (false≢true (sym e ∙ o));
  on = λ w h o. absurd (false≢true (sym e ∙ o));
  off = λ w h o i n. absurd (false≢true (sym e ∙ o));
}

-- it could not be added, and r says so
pub failed : (d t : List ℕ) (p r : End) (xs : List (List ℕ)) (qs : List Span) → r.ok ≡ false → ((w : List ℕ) → Stands t p w → AllInside d qs → length t < length (w ++ join xs)) → Adds d t p xs qs t r
failed d t p r xs qs e h = record {
  size = refl;
  was = λ o. absurd (false≢true (sym e ∙ o));
  all = λ o. absurd (false≢true (sym e ∙ o));
  on = λ w s o. absurd (false≢true (sym e ∙ o));
  off = λ w s o i n. h w s i;
}

-- a block x that is longer than the rest of the buffer
pub no_room : (d t : List ℕ) (p r : End) (x : List ℕ) → r.ok ≡ false → length t < p.at + length x → Adds d t p (x ∷ []) [] t r
no_room d t p r x e h = failed d t p r (x ∷ []) [] e (λ w s i. omega (arith, s.place, length-append w (x ++ []), length-append x []))

pub added : (d t e : List ℕ) (p r : End) (x : List ℕ) → p.ok ≡ true → r.ok ≡ true → p.at + length x ≤ length t → Spliced p.at x t e r.at → Adds d t p (x ∷ []) [] e r
added d t e p r x o v h s = record {
  size = kept_length s (omega (arith, s.place));
  was = λ _. o;
  all = λ _. tt;
  on = λ w k y.
      let l : length (w ++ (x ++ [])) ≡ r.at = omega (arith, length-append w (x ++ []), length-append x [], k.place, s.place) in
      record {
        place = sym l;
        fits = omega (arith, s.place, kept_length s (omega (arith, s.place)));
        bytes = ap (λ (m : ℕ). take m e) l ∙ front s (omega (arith, s.place)) ∙ ap (λ (m : ℕ). take m t ++ x) k.place ∙ ap (λ (z : List ℕ). z ++ x) k.bytes ∙ ap (λ (z : List ℕ). w ++ z) (sym (append-nil x));
      };
  off = λ w k y i m. absurd (false≢true (sym m ∙ v));
}

pub lays_added : (p r : Sheet) (k : ℕ) (x : List ℕ) → r.text.ghost_name ≡ p.text.ghost_name → r.source ≡ p.source → p.end ≡ Some k → k + length x ≤ length p.text.now → (m : ℕ) → r.end ≡ Some m → Spliced k x p.text.now r.text.now m → Lays p (λ _. x ∷ []) [] r
lays_added p r k x b s e v m f h = record {
  buffer = b;
  source = s;
  adds = rw (e, f) (added p.source.now p.text.now r.text.now (end_of (Some k)) (end_of (Some m)) x refl refl v h);
}

-- A PART

pub absent : (d t : List ℕ) (p : End) (q : Span) → size_of q ≡ 0 → Adds d t p (cut d q ∷ []) (q ∷ []) t p
absent d t p q e = nothing d t p (cut d q ∷ []) (q ∷ []) (ap (λ (k : ℕ). take k (drop (place_of q) d) ++ []) e) (inl e, tt)

pub outside : (d t : List ℕ) (p r : End) (q : Span) → (size_of q ≡ 0 → ⊥) → length d < place_of q + size_of q → r.ok ≡ false → Adds d t p (cut d q ∷ []) (q ∷ []) t r
outside d t p r q n h e = failed d t p r (cut d q ∷ []) (q ∷ []) e (λ w s i. ⊎_elim (λ z. absurd (n z)) (λ z. absurd (omega arith)) i.0)

pub within : {d t e : List ℕ} {p r : End} {xs : List (List ℕ)} (qs : List Span) → AllInside d qs → Adds d t p xs [] e r → Adds d t p xs qs e r
within {d} {t} {e} {p} {r} {xs} qs i a = record {
  size = a.size;
  was = a.was;
  all = λ o. i;
  on = a.on;
  off = λ w s o j n. a.off w s o tt n;
}

-- with no part in it, it is the same over any other bytes
pub over_any : {d t e : List ℕ} {p r : End} {xs : List (List ℕ)} (f : List ℕ) → Adds d t p xs [] e r → Adds f t p xs [] e r
over_any f a = record { size = a.size; was = a.was; all = λ o. tt; on = a.on; off = a.off }

-- WHERE NO PART IS THERE, NOTHING STANDS

abbrev pub lens : List Span → List ℕ
lens [] = []
lens (q ∷ qs) = size_of q ∷ lens qs

all_absent : (d : List ℕ) (qs : List Span) → total (lens qs) ≡ 0 → AllInside d qs
all_absent d [] e = tt
all_absent d (q ∷ qs) e = (inl (omega arith), all_absent d qs (omega arith))

-- one of the parts is there
abbrev pub any_of : List Span → Bool
any_of qs = list_any (λ q. ltb 0 (size_of q)) qs

any_some : (qs : List Span) → any_of qs ≡ some (lens qs)
any_some [] = refl
any_some (q ∷ qs) = ap (λ b. ltb 0 (size_of q) || b) (any_some qs)

one_there : (qs : List Span) → any_of qs ≡ true → 0 < total (lens qs)
one_there qs e = ltb-true 0 (total (lens qs)) (sym (some_total (lens qs)) ∙ sym (any_some qs) ∙ e)

pub is_there : (q : Span) → 0 < size_of q → any_of (q ∷ []) ≡ true
is_there q h = rw (lt-ltb 0 (size_of q) h)

pub skipped : (d t : List ℕ) (p : End) (qs : List Span) (y : List ℕ) → total (lens qs) ≡ 0 → Adds d t p (given (lens qs) y ∷ []) qs t p
skipped d t p qs y e = nothing d t p (given (lens qs) y ∷ []) qs (ap (λ (z : List ℕ). z ++ []) (none_given (lens qs) y e)) (all_absent d qs e)

pub stands : {d t e : List ℕ} {p r : End} {xs : List (List ℕ)} {qs : List Span} (y : List ℕ) → 0 < total (lens qs) → join xs ≡ y → Adds d t p xs qs e r → Adds d t p (given (lens qs) y ∷ []) qs e r
stands {qs = qs} y h e a = alike (e ∙ sym (append-nil y) ∙ ap (λ (z : List ℕ). z ++ []) (sym (is_given (lens qs) y h))) a

pub lays_given : {p r : Sheet} {xs : List ℕ → List (List ℕ)} {qs : List Span} (y : List ℕ → List ℕ) → any_of qs ≡ true → ((d : List ℕ) → join (xs d) ≡ y d) → Lays p xs qs r → Lays p (λ d. given (lens qs) (y d) ∷ []) qs r
lays_given {p = p} {qs = qs} y h e a = record {
  buffer = a.buffer;
  source = a.source;
  adds = stands (y p.source.now) (one_there qs h) (e p.source.now) a.adds;
}

pub given_parts : (d : List ℕ) (qs : List Span) (x : List ℕ) → (total (lens qs) ≡ 0 → x ≡ []) → given (lens qs) x ≡ x
given_parts d qs x h = ⊎_elim (λ e. is_given (lens qs) x (ltb-true 0 (total (lens qs)) e)) (λ e. let z : total (lens qs) ≡ 0 = omega (arith, ltb-false 0 (total (lens qs)) e) in none_given (lens qs) x z ∙ sym (h z)) (known (ltb 0 (total (lens qs))))

-- THE TEXTS OF THE FIELDS, each led by its hyphen and, within field 22, its number; where no part is there, nothing stands

abbrev pub led_by : List ℕ → List ℕ → Span → List ℕ
led_by lead d a = given (size_of a ∷ []) (lead ++ cut d a)

abbrev pub text_number : List ℕ → Span → Span → Span → List ℕ
text_number d a b c = cut d a ++ (47 ∷ (cut d b ++ cut d c))

abbrev pub text_reference : List ℕ → Span → Span → Span → List ℕ
text_reference d a b c = given (size_of a ∷ size_of b ∷ size_of c ∷ []) (text_number d a b c)

-- two parts, each with what leads it, of which the second may be absent
abbrev pub text_two : List ℕ → List ℕ → List ℕ → Span → Span → List ℕ
text_two lead between d a b = given (size_of a ∷ size_of b ∷ []) (lead ++ (cut d a ++ led_by between d b))

abbrev pub text07 : List ℕ → List ℕ → Span → Span → List ℕ
text07 lead d a b = given (size_of a ∷ size_of b ∷ []) (lead ++ (cut d a ++ led_by (47 ∷ 65 ∷ []) d b))

-- two parts: 13 within field 22
abbrev pub text_both : List ℕ → List ℕ → Span → Span → List ℕ
text_both lead d a b = given (size_of a ∷ size_of b ∷ []) (lead ++ (cut d a ++ cut d b))

-- two parts, of which the second may be absent: 08, and 13o
abbrev pub text_pair : List ℕ → List ℕ → Span → Span → List ℕ
text_pair lead d a b = given (size_of a ∷ size_of b ∷ []) (lead ++ (cut d a ++ led_by [] d b))

abbrev pub text09 : List ℕ → List ℕ → Span → Span → Span → List ℕ
text09 lead d a b c = given (size_of a ∷ size_of b ∷ size_of c ∷ []) (lead ++ (led_by [] d a ++ (cut d b ++ (47 ∷ cut d c))))

abbrev pub text10 : List ℕ → List ℕ → Span → Span → List ℕ
text10 lead d a b = given (size_of a ∷ size_of b ∷ []) (lead ++ (cut d a ++ (47 ∷ cut d b)))

abbrev pub text14 : List ℕ → List ℕ → Span → Span → Span → Span → Span → List ℕ
text14 lead d a b c e f =
    given (size_of a ∷ size_of b ∷ size_of c ∷ size_of e ∷ size_of f ∷ [])
    (lead ++ (cut d a ++ (47 ∷ (cut d b ++ (cut d c ++ given (size_of e ∷ size_of f ∷ []) (cut d e ++ cut d f))))))

abbrev pub text15 : List ℕ → List ℕ → Span → Span → Span → List ℕ
text15 lead d a b c = given (size_of a ∷ size_of b ∷ size_of c ∷ []) (lead ++ (cut d a ++ (cut d b ++ (32 ∷ cut d c))))

abbrev pub text_alternates : List ℕ → Span → Span → List ℕ
text_alternates d a b = given (size_of a ∷ size_of b ∷ []) (32 ∷ (cut d a ++ led_by (32 ∷ []) d b))

abbrev pub text16 : List ℕ → List ℕ → Span → Span → Span → Span → List ℕ
text16 lead d a b c e =
    given (size_of a ∷ size_of b ∷ size_of c ∷ size_of e ∷ [])
    (lead ++ (cut d a ++ (led_by [] d b ++ text_alternates d c e)))

abbrev pub text18 : List ℕ → List ℕ → Span → Span → List ℕ
text18 lead d a b = given (size_of a ∷ size_of b ∷ []) (lead ++ cond (not (some (size_of b ∷ size_of b ∷ []))) (cut d a) (cut d a ++ (47 ∷ cut d b)))

pub own_part : (d : List ℕ) (a : Span) → led_by [] d a ≡ cut d a
own_part d a = given_parts d (a ∷ []) (cut d a) (λ e. cut_none d a (omega arith))

pub pair_both : {t e : List ℕ} {p r : End} (lead d : List ℕ) (a b : Span) → Adds d t p (text_pair lead d a b ∷ []) (a ∷ b ∷ []) e r → Adds d t p (text_both lead d a b ∷ []) (a ∷ b ∷ []) e r
pair_both lead d a b x = alike (ap (λ (z : List ℕ). given (size_of a ∷ size_of b ∷ []) (lead ++ (cut d a ++ z)) ++ []) (own_part d b)) x

pub lays_both : {p r : Sheet} (lead : List ℕ) (a b : Span) → Lays p (λ d. text_pair lead d a b ∷ []) (a ∷ b ∷ []) r → Lays p (λ d. text_both lead d a b ∷ []) (a ∷ b ∷ []) r
lays_both {p = p} lead a b l = record { buffer = l.buffer; source = l.source; adds = pair_both lead p.source.now a b l.adds }

pub form_18 : (d : List ℕ) (a b : Span) → cut d a ++ led_by (47 ∷ []) d b ≡ cond (not (some (size_of b ∷ size_of b ∷ []))) (cut d a) (cut d a ++ (47 ∷ cut d b))
form_18 d a b = go (known (ltb 0 (size_of b)))
  where
    go : (ltb 0 (size_of b) ≡ true) ⊎ (ltb 0 (size_of b) ≡ false) → cut d a ++ led_by (47 ∷ []) d b ≡ cond (not (some (size_of b ∷ size_of b ∷ []))) (cut d a) (cut d a ++ (47 ∷ cut d b))
    go (inl e) = rw e
    go (inr e) = rw e (append-nil (cut d a))

pub two_parts : (d : List ℕ) (a b : Span) → given (size_of a ∷ size_of b ∷ []) (cut d a ++ cut d b) ≡ cut d a ++ cut d b
two_parts d a b = given_parts d (a ∷ b ∷ []) (cut d a ++ cut d b) (λ e. λ i. cut_none d a (let z : size_of a ≡ 0 = omega arith in z) i ++ cut_none d b (let z : size_of b ≡ 0 = omega arith in z) i)

-- THE BLOCKS OF A TEXT AND THE PARTS IN THEM

abbrev pub own_blocks : List ℕ → Plan → Estimate → List (List ℕ)
own_blocks d p e =
    text07 (45 ∷ []) d p.aircraft p.code
    ∷ text_pair (45 ∷ []) d p.rules p.flight
    ∷ text09 (45 ∷ []) d p.count p.model p.wake
    ∷ text10 (45 ∷ []) d p.equipment p.surveillance
    ∷ text_pair (45 ∷ []) d p.departure p.time
    ∷ text14 (45 ∷ []) d e.point e.over e.crossing e.second e.sense
    ∷ text15 (45 ∷ []) d p.speed p.level p.route
    ∷ text16 (45 ∷ []) d p.destination p.elapsed p.alternate p.alternate2
    ∷ text18 (45 ∷ []) d p.indicator p.other
    ∷ []

abbrev pub own_spans : Plan → Estimate → List Span
own_spans p e =
    p.aircraft ∷ p.code ∷ p.rules ∷ p.flight ∷ p.count ∷ p.model ∷ p.wake ∷ p.equipment ∷ p.surveillance
    ∷ p.departure ∷ p.time ∷ e.point ∷ e.over ∷ e.crossing ∷ e.second ∷ e.sense
    ∷ p.speed ∷ p.level ∷ p.route ∷ p.destination ∷ p.elapsed ∷ p.alternate ∷ p.alternate2 ∷ p.indicator ∷ p.other ∷ []

-- within field 22 a number leads each
abbrev pub change_blocks : List ℕ → Plan → List (List ℕ)
change_blocks d p =
    text07 (45 ∷ 48 ∷ 55 ∷ 47 ∷ []) d p.aircraft p.code
    ∷ text_pair (45 ∷ 48 ∷ 56 ∷ 47 ∷ []) d p.rules p.flight
    ∷ text09 (45 ∷ 48 ∷ 57 ∷ 47 ∷ []) d p.count p.model p.wake
    ∷ text10 (45 ∷ 49 ∷ 48 ∷ 47 ∷ []) d p.equipment p.surveillance
    ∷ text_both (45 ∷ 49 ∷ 51 ∷ 47 ∷ []) d p.departure p.time
    ∷ text15 (45 ∷ 49 ∷ 53 ∷ 47 ∷ []) d p.speed p.level p.route
    ∷ text16 (45 ∷ 49 ∷ 54 ∷ 47 ∷ []) d p.destination p.elapsed p.alternate p.alternate2
    ∷ text18 (45 ∷ 49 ∷ 56 ∷ 47 ∷ []) d p.indicator p.other
    ∷ []

-- what follows the number
abbrev pub rest_blocks : List ℕ → Parts → List (List ℕ)
rest_blocks d p =
    text_reference d p.reference.sender p.reference.receiver p.reference.digits
    ∷ (own_blocks d p.own p.estimate
    ++ (change_blocks d p.changes
    ++ (led_by (45 ∷ []) d p.sector ∷ led_by (45 ∷ []) d p.track ∷ led_by (45 ∷ 82 ∷ 77 ∷ 75 ∷ 47 ∷ []) d p.reason ∷ (41 ∷ []) ∷ [])))

abbrev pub rest_spans : Parts → List Span
rest_spans p =
    p.reference.sender ∷ p.reference.receiver ∷ p.reference.digits
    ∷ (own_spans p.own p.estimate ++ (plan_spans p.changes ++ (p.sector ∷ p.track ∷ p.reason ∷ [])))

abbrev pub blocks : List ℕ → List ℕ → Parts → List (List ℕ)
blocks opening d p =
    opening
    ∷ text_number d p.number.sender p.number.receiver p.number.digits
    ∷ rest_blocks d p

abbrev pub spans : Parts → List Span
spans p = p.number.sender ∷ p.number.receiver ∷ p.number.digits ∷ rest_spans p

unfoldable pub opening : Kind → List ℕ
opening None = 40 ∷ 32 ∷ 32 ∷ 32 ∷ []
opening Fpl = 40 ∷ 70 ∷ 80 ∷ 76 ∷ []
opening Cpl = 40 ∷ 67 ∷ 80 ∷ 76 ∷ []
opening Est = 40 ∷ 69 ∷ 83 ∷ 84 ∷ []
opening Chg = 40 ∷ 67 ∷ 72 ∷ 71 ∷ []
opening Cnl = 40 ∷ 67 ∷ 78 ∷ 76 ∷ []
opening Rti = 40 ∷ 82 ∷ 84 ∷ 73 ∷ []
opening Rta = 40 ∷ 82 ∷ 84 ∷ 65 ∷ []
opening Rla = 40 ∷ 82 ∷ 76 ∷ 65 ∷ []
opening Lam = 40 ∷ 76 ∷ 65 ∷ 77 ∷ []
opening Lrm = 40 ∷ 76 ∷ 82 ∷ 77 ∷ []
