-- THE LOCALS OF A FUNCTION, HELD AS ONE ITEM: a walk takes and gives them by their numbers, however many there are.
--     lies us i            what lies in local i: a value, or nothing yet.        laid i v us      v put there
--     held E us            the locals of E, each with what lies in it and the right to free it
--     env_of ls bs          the locals ls, local i in block bs i.        type_of ls i      the type of local i
--     holds, takes_in, frees_all      a function begins with room for each local, its arguments are stored, and at the end all are freed
--     cell_in, stow        local i is read (with `look_in` of types.Part), or something is put there
--     of_type, typed_in, field_of_lem     the same by the type of local i
--     lie us is, copies is, reads_all     what lies in the locals is, and a call that is given copies of them
-- Assumes `Logic`.
use mathlib.Core.Path.{◌≡◌, refl, sym, ap, subst, ◌∙◌}
use mathlib.Core.Bool.{Bool, true, false, ◌&&◌}
use mathlib.Core.Option.{Option, none, some}
use mathlib.Core.List.{List, [], ◌∷◌}
use Prim.Native.Nat.{ℕ, zero, suc}
use seplogic.Ra.Ura.{Ura}
use base.Fraction.{full_share}
use lib.Dec.{T}
use lib.ListN.{length, drop}
use mir.Syntax.{Ty, ty_enum, ttnil, Opd as Operand, copy, place, Local, local}
use mir.Val.{Val, vunit, vbool, vint, vfloat, vptr, vstruct, vcode, tagged, WT, has_ty}
use base.Logic.{SProp, ent, sep, wand, all, never, emp, id⊢, via, fst∗, snd∗, emp∗, wand_i, apply∗, all_i, all_e, guard_i, never_e}
use base.Fml.{fat, froom, fdies}
use prog.Memory.{field_of}
use prog.Wp.{Heap, Env, spot_of, ty_of, alloc, pass, release}
use types.Logic.{Logic}
use types.Kit.{Item, ‵, raw, ◌⊛◌, mean, ⋆, nth, del, put, pull, fill, push, pop, Goal, allocs, params', frees, aim, Seq, Step, step, ◌$◌, ◌∵◌, !, qed, by, move, use1, use2, split, join, frame, each, assume, done}
use types.Run.{Writes, Opds, load, from, stop, and_then, no_more}
use types.Part.{Part, look_in}

-- ---- what lies in the locals
abbrev pub lies : List (Option Val) → ℕ → Option Val
lies [] i = none
lies (u ∷ us) zero = u
lies (u ∷ us) (suc i) = lies us i

abbrev pub laid : ℕ → Val → List (Option Val) → List (Option Val)
laid zero v [] = some v ∷ []
laid zero v (u ∷ us) = some v ∷ us
laid (suc i) v [] = none ∷ laid i v []
laid (suc i) v (u ∷ us) = u ∷ laid i v us

abbrev pub somes : List Val → List (Option Val)
somes [] = []
somes (v ∷ vs) = some v ∷ somes vs

abbrev Bare : Option Val → Type 0
Bare none = Unit {0}
Bare (some v) = ⊥

abbrev Some : ℕ → Type 0
Some zero = ⊥
Some (suc n) = Unit {0}

laid_lies : (us : List (Option Val)) (i : ℕ) (v : Val) → lies us i ≡ some v → laid i v us ≡ us
laid_lies [] i v e = absurd (subst Bare e tt)
laid_lies (u ∷ us) zero v e = ap (λ (w : Option Val). w ∷ us) (sym e)
laid_lies (u ∷ us) (suc i) v e = ap (λ (ws : List (Option Val)). u ∷ ws) (laid_lies us i v e)

pub lies_laid : (us : List (Option Val)) (i : ℕ) (v : Val) → lies (laid i v us) i ≡ some v
lies_laid [] zero v = refl
lies_laid [] (suc i) v = lies_laid [] i v
lies_laid (u ∷ us) zero v = refl
lies_laid (u ∷ us) (suc i) v = lies_laid us i v

-- what lies in the locals is
abbrev pub lie : List (Option Val) → List ℕ → List (Option Val)
lie us [] = []
lie us (i ∷ is) = lies us i ∷ lie us is

abbrev pub copies : List ℕ → List Operand
copies [] = []
copies (i ∷ is) = copy (place i []) ∷ copies is

-- ---- the locals and their types
abbrev pub type_of : List Local → ℕ → Ty
type_of [] i = ty_enum [] ttnil
type_of (local τ h ∷ ls) zero = τ
type_of (l ∷ ls) (suc i) = type_of ls i

-- each value is of its local's type, as a store asks
abbrev pub Fit : List Local → List Val → Type 0
Fit ls [] = Unit {0}
Fit [] (v ∷ vs) = ⊥
Fit (local τ h ∷ ls) (v ∷ vs) = (T (has_ty τ v) × WT v) × Fit ls vs

never_and : (b : Bool) → T (b && false) → ⊥
never_and true z = z
never_and false z = z

no_value : (v : Val) → T (has_ty (ty_enum [] ttnil) v) → ⊥
no_value vunit z = z
no_value (vbool b) z = z
no_value (vint w n) z = z
no_value (vfloat f x) z = z
no_value (vptr k o) z = z
no_value (vstruct vs) z = never_and (tagged vs) z
no_value (vcode c) z = z

abbrev then : ℕ → (ℕ → ℕ) → ℕ → ℕ
then b bs zero = b
then b bs (suc n) = bs n

module _ {M : Type 1} (𝓤 : Ura M) (H : Heap 𝓤) where
  abbrev pub env_of : List Local → (ℕ → ℕ) → Env 𝓤 H
  env_of [] bs = []
  env_of (l ∷ ls) bs = (ty_of 𝓤 H l, bs zero) ∷ env_of ls (λ n. bs (suc n))

  type_of_lem : (ls : List Local) (bs : ℕ → ℕ) (i : ℕ) → (spot_of 𝓤 H (env_of ls bs) i).0 ≡ type_of ls i
  type_of_lem [] bs i = refl
  type_of_lem (local τ h ∷ ls) bs zero = refl
  type_of_lem (local τ h ∷ ls) bs (suc i) = type_of_lem ls (λ n. bs (suc n)) i

  abbrev cell : Ty × ℕ → Option Val → SProp 𝓤
  cell e none = H.room e.0 e.1 zero
  cell e (some v) = H.at full_share e.0 e.1 zero v

  -- and the right to free it
  abbrev Own : Ty × ℕ → Option Val → SProp 𝓤
  Own e u = sep 𝓤 (cell e u) (H.dies e.0 e.1)

  pub held : Env 𝓤 H → List (Option Val) → SProp 𝓤
  held [] [] = emp 𝓤
  held [] (u ∷ us) = never 𝓤
  held (e ∷ E) [] = sep 𝓤 (Own e none) (held E [])
  held (e ∷ E) (u ∷ us) = sep 𝓤 (Own e u) (held E us)

  module _ (ls : List Local) (bs : ℕ → ℕ) (i : ℕ) where
    -- a value is of local i's type
    pub of_type : {τ : Ty} (v : Val) → type_of ls i ≡ τ → T (has_ty τ v) × WT v → T (has_ty (spot_of 𝓤 H (env_of ls bs) i).0 v) × WT v
    of_type v e = subst (λ (τ : Ty). T (has_ty τ v) × WT v) (sym (type_of_lem ls bs i ∙ e))

    -- where field k of local i begins
    pub field_of_lem : {τ : Ty} (k : ℕ) {f : Option (Ty × ℕ)} → type_of ls i ≡ τ → field_of τ k ≡ f → field_of (spot_of 𝓤 H (env_of ls bs) i).0 k ≡ f
    field_of_lem k e z = ap (λ (τ : Ty). field_of τ k) (type_of_lem ls bs i ∙ e) ∙ z

module _ {M : Type 1} {𝓤 : Ura M} (𝓛 : Logic 𝓤) where
  -- a cell is room, whatever it holds
  open 𝓛 use {H}

  roomy : (e : Ty × ℕ) (u : Option Val) → ent 𝓤 (cell 𝓤 H e u) (H.room e.0 e.1 zero)
  roomy e none = id⊢ 𝓤 (H.room e.0 e.1 zero)
  roomy e (some v) = 𝓛.laws.at_room e.0 e.1 zero v

  -- ---- local i taken out, to be put back with any value
  abbrev Put : Env 𝓤 H → List (Option Val) → ℕ → Val → SProp 𝓤
  Put E us i v = wand 𝓤 (H.at full_share (spot_of 𝓤 H E i).0 (spot_of 𝓤 H E i).1 zero v) (held 𝓤 H E (laid i v us))

  takes : (E : Env 𝓤 H) (us : List (Option Val)) (i : ℕ) (v : Val) → lies us i ≡ some v
      → ent 𝓤 (held 𝓤 H E us) (sep 𝓤 (H.at full_share (spot_of 𝓤 H E i).0 (spot_of 𝓤 H E i).1 zero v) (all 𝓤 (Put E us i)))
  unfolding held
  takes [] [] i v e = absurd (subst Bare e tt)
  takes [] (u ∷ us) i v e = never_e 𝓤 _
  takes (c ∷ E) [] i v e = absurd (subst Bare e tt)
  takes (c ∷ E) (u ∷ us) zero v e =
      subst (λ (w : Option Val). ent 𝓤 (sep 𝓤 (Own 𝓤 H c w) (held 𝓤 H E us)) (sep 𝓤 (H.at full_share c.0 c.1 zero v) (all 𝓤 (Put (c ∷ E) (u ∷ us) zero)))) (sym e)
      (qed 𝓛 (((‵ (fat full_share c.0 c.1 zero v) ⊛ ‵ (fdies c.0 c.1)) ⊛ raw (held 𝓤 H E us)) ∷ []) ∵ split ! $ split ! $ frame ! $
      each ! (Put (c ∷ E) (u ∷ us) zero) (λ x. assume ! (‵ (fat full_share c.0 c.1 zero x)) $ join ! $ join ! $ done !))
  takes (c ∷ E) (u ∷ us) (suc i) v e =
      qed 𝓛 ((raw (Own 𝓤 H c u) ⊛ raw (held 𝓤 H E us)) ∷ []) ∵ split ! $ move ! (1 ∷ []) $
      use1 𝓛 (‵ (fat full_share (spot_of 𝓤 H E i).0 (spot_of 𝓤 H E i).1 zero v) ⊛ raw (all 𝓤 (Put E us i))) (takes E us i v e) $ split ! $ frame ! $
      each ! (Put (c ∷ E) (u ∷ us) (suc i)) (λ x. assume ! (‵ (fat full_share (spot_of 𝓤 H E i).0 (spot_of 𝓤 H E i).1 zero x)) $
      move ! (1 ∷ []) $ use1 𝓛 (raw (Put E us i x)) (all_e 𝓤 (Put E us i) x) $ move ! (1 ∷ 0 ∷ []) $
      use2 𝓛 (raw (held 𝓤 H E (laid i x us))) (apply∗ 𝓤 (H.at full_share (spot_of 𝓤 H E i).0 (spot_of 𝓤 H E i).1 zero x) (held 𝓤 H E (laid i x us))) $ move ! (1 ∷ 0 ∷ []) $ join ! $ done !)

  -- ---- room for a value of local i, whatever lies there
  further : (c : Ty × ℕ) (u : Option Val) (E : Env 𝓤 H) (us : List (Option Val)) (i : ℕ) (v : Val) → ent 𝓤 (held 𝓤 H E us) (sep 𝓤 (H.room (spot_of 𝓤 H E i).0 (spot_of 𝓤 H E i).1 zero) (Put E us i v))
      → ent 𝓤 (sep 𝓤 (Own 𝓤 H c u) (held 𝓤 H E us)) (sep 𝓤 (H.room (spot_of 𝓤 H E i).0 (spot_of 𝓤 H E i).1 zero) (wand 𝓤 (H.at full_share (spot_of 𝓤 H E i).0 (spot_of 𝓤 H E i).1 zero v) (sep 𝓤 (Own 𝓤 H c u) (held 𝓤 H E (laid i v us)))))
  further c u E us i v h =
      qed 𝓛 ((raw (Own 𝓤 H c u) ⊛ raw (held 𝓤 H E us)) ∷ []) ∵ split ! $ move ! (1 ∷ []) $
      use1 𝓛 (‵ (froom (spot_of 𝓤 H E i).0 (spot_of 𝓤 H E i).1 zero) ⊛ raw (Put E us i v)) h $ split ! $ frame ! $
      assume ! (‵ (fat full_share (spot_of 𝓤 H E i).0 (spot_of 𝓤 H E i).1 zero v)) $
      use2 𝓛 (raw (held 𝓤 H E (laid i v us))) (apply∗ 𝓤 (H.at full_share (spot_of 𝓤 H E i).0 (spot_of 𝓤 H E i).1 zero v) (held 𝓤 H E (laid i v us))) $ move ! (1 ∷ 0 ∷ []) $ join ! $ done !

  here : (c : Ty × ℕ) (u : Option Val) (R : SProp 𝓤) (v : Val) → ent 𝓤 (sep 𝓤 (Own 𝓤 H c u) R) (sep 𝓤 (H.room c.0 c.1 zero) (wand 𝓤 (H.at full_share c.0 c.1 zero v) (sep 𝓤 (Own 𝓤 H c (some v)) R)))
  here c u R v =
      qed 𝓛 (((raw (cell 𝓤 H c u) ⊛ ‵ (fdies c.0 c.1)) ⊛ raw R) ∷ []) ∵ split ! $ split ! $ use1 𝓛 (‵ (froom c.0 c.1 zero)) (roomy c u) $ frame ! $
      assume ! (‵ (fat full_share c.0 c.1 zero v)) $ join ! $ join ! $ done !

  makes_room : (E : Env 𝓤 H) (us : List (Option Val)) (i : ℕ) (v : Val) → T (has_ty (spot_of 𝓤 H E i).0 v) → ent 𝓤 (held 𝓤 H E us) (sep 𝓤 (H.room (spot_of 𝓤 H E i).0 (spot_of 𝓤 H E i).1 zero) (Put E us i v))
  unfolding held
  makes_room [] us i v z = absurd (no_value v z)
  makes_room (c ∷ E) [] zero v z = here c none (held 𝓤 H E []) v
  makes_room (c ∷ E) (u ∷ us) zero v z = here c u (held 𝓤 H E us) v
  makes_room (c ∷ E) [] (suc i) v z = further c none E [] i v (makes_room E [] i v z)
  makes_room (c ∷ E) (u ∷ us) (suc i) v z = further c u E us i v (makes_room E us i v z)

  -- ---- the whole life of the locals
  hold : (ls : List Local) (Kt : Env 𝓤 H → SProp 𝓤) (R : SProp 𝓤) → ((bs : ℕ → ℕ) → ent 𝓤 (sep 𝓤 (held 𝓤 H (env_of 𝓤 H ls bs) []) R) (Kt (env_of 𝓤 H ls bs))) → ent 𝓤 R (alloc 𝓤 H ls Kt)
  unfolding held
  hold [] Kt R k = via 𝓤 (sep 𝓤 (emp 𝓤) R) (emp∗ 𝓤 R) (k (λ n. n))
  hold (l ∷ ls) Kt R k =
      all_i 𝓤 (λ (b : ℕ). wand 𝓤 (Own 𝓤 H (ty_of 𝓤 H l, b) none) (alloc 𝓤 H ls (λ E. Kt ((ty_of 𝓤 H l, b) ∷ E))))
      (λ b. wand_i 𝓤 R (Own 𝓤 H (ty_of 𝓤 H l, b) none) (alloc 𝓤 H ls (λ E. Kt ((ty_of 𝓤 H l, b) ∷ E)))
      (hold ls (λ E. Kt ((ty_of 𝓤 H l, b) ∷ E)) (sep 𝓤 R (Own 𝓤 H (ty_of 𝓤 H l, b) none)) (λ bs.
      qed 𝓛 (raw (held 𝓤 H (env_of 𝓤 H ls bs) []) ∷ raw R ∷ raw (Own 𝓤 H (ty_of 𝓤 H l, b) none) ∷ []) ∵ move ! (2 ∷ 0 ∷ []) $ join ! $ by ! (k (then b bs)))))

  stores : (ls : List Local) (bs : ℕ → ℕ) (vs : List Val) (P R : SProp 𝓤) → Fit ls vs → ent 𝓤 (sep 𝓤 (held 𝓤 H (env_of 𝓤 H ls bs) (somes vs)) R) P → ent 𝓤 (sep 𝓤 (held 𝓤 H (env_of 𝓤 H ls bs) []) R) (pass 𝓤 H (env_of 𝓤 H ls bs) vs P)
  unfolding held
  stores ls bs [] P R fits h = h
  stores [] bs (v ∷ vs) P R fits h = absurd fits
  stores (local τ home ∷ ls) bs (v ∷ vs) P R fits h =
      let E : Env 𝓤 H = env_of 𝓤 H ls (λ n. bs (suc n)) in
      let c : Ty × ℕ = (τ, bs zero) in
      via 𝓤 (sep 𝓤 (H.room τ (bs zero) zero) (wand 𝓤 (H.at full_share τ (bs zero) zero v) (pass 𝓤 H E vs P)))
      (qed 𝓛 (((‵ (froom τ (bs zero) zero) ⊛ ‵ (fdies τ (bs zero))) ⊛ raw (held 𝓤 H E [])) ∷ raw R ∷ []) ∵ split ! $ split ! $ frame ! $ assume ! (‵ (fat full_share τ (bs zero) zero v)) $
      join ! $ move ! (1 ∷ 0 ∷ []) $ by ! (stores ls (λ n. bs (suc n)) vs P (sep 𝓤 (Own 𝓤 H c (some v)) R) fits.1
      (qed 𝓛 (raw (held 𝓤 H E (somes vs)) ∷ raw (Own 𝓤 H c (some v)) ∷ raw R ∷ []) ∵ move ! (1 ∷ 0 ∷ []) $ join ! $ by ! h)))
      (guard_i 𝓤 (T (has_ty τ v) × WT v) (sep 𝓤 (H.room τ (bs zero) zero) (wand 𝓤 (H.at full_share τ (bs zero) zero v) (pass 𝓤 H E vs P))) fits.0)

  let_go_first : (c : Ty × ℕ) (u : Option Val) (L R : SProp 𝓤) {Q : SProp 𝓤} → ent 𝓤 (sep 𝓤 L R) Q → ent 𝓤 (sep 𝓤 (sep 𝓤 (Own 𝓤 H c u) L) R) (sep 𝓤 (Own 𝓤 H c none) Q)
  let_go_first c u L R {Q} h =
      qed 𝓛 (((raw (cell 𝓤 H c u) ⊛ ‵ (fdies c.0 c.1)) ⊛ raw L) ∷ raw R ∷ []) ∵ split ! $ split ! $ use1 𝓛 (‵ (froom c.0 c.1 zero)) (roomy c u) $ join ! $ frame ! $ by ! h

  let_go : (E : Env 𝓤 H) (us : List (Option Val)) (P R : SProp 𝓤) → ent 𝓤 R P → ent 𝓤 (sep 𝓤 (held 𝓤 H E us) R) (release 𝓤 H E P)
  unfolding held
  let_go [] [] P R h = via 𝓤 R (snd∗ 𝓤 (emp 𝓤) R) h
  let_go [] (u ∷ us) P R h = via 𝓤 (never 𝓤) (fst∗ 𝓤 (never 𝓤) R) (never_e 𝓤 P)
  let_go (c ∷ E) [] P R h = let_go_first c none (held 𝓤 H E []) R (let_go E [] P R h)
  let_go (c ∷ E) (u ∷ us) P R h = let_go_first c u (held 𝓤 H E us) R (let_go E us P R h)

module _ {M : Type 1} {𝓤 : Ura M} {𝓛 : Logic 𝓤} {K : Type 0} where
  -- local i, within the item
  open 𝓛 use {H}

  pub cell_in : K → (E : Env 𝓤 H) (us : List (Option Val)) (i : ℕ) {v : Val} → lies us i ≡ some v
      → Part K 𝓛 (raw (held 𝓤 H E us)) full_share (spot_of 𝓤 H E i).0 (spot_of 𝓤 H E i).1 zero v (λ u. raw (held 𝓤 H E (laid i u us)))
  cell_in t E us i {v} e = record { out = takes 𝓛 E us i v e; same = ap (λ (ws : List (Option Val)). raw (held 𝓤 H E ws)) (laid_lies us i v e) }

  -- the same, at its type
  pub typed_in : K → (ls : List Local) (bs : ℕ → ℕ) (us : List (Option Val)) (i : ℕ) {τ : Ty} {v : Val} → type_of ls i ≡ τ → lies us i ≡ some v
      → Part K 𝓛 (raw (held 𝓤 H (env_of 𝓤 H ls bs) us)) full_share τ (spot_of 𝓤 H (env_of 𝓤 H ls bs) i).1 zero v (λ u. raw (held 𝓤 H (env_of 𝓤 H ls bs) (laid i u us)))
  typed_in t ls bs us i {τ} {v} e z =
      subst (λ (σ : Ty). Part K 𝓛 (raw (held 𝓤 H (env_of 𝓤 H ls bs) us)) full_share σ (spot_of 𝓤 H (env_of 𝓤 H ls bs) i).1 zero v (λ u. raw (held 𝓤 H (env_of 𝓤 H ls bs) (laid i u us)))) (type_of_lem 𝓤 H ls bs i ∙ e)
      (cell_in t (env_of 𝓤 H ls bs) us i z)

  module _ {Γ : List (Item 𝓤)} where
    pub stow : K → (n : ℕ) (E : Env 𝓤 H) (us : List (Option Val)) (i : ℕ) {v : Val} → nth 𝓛 n Γ ≡ raw (held 𝓤 H E us) → T (has_ty (spot_of 𝓤 H E i).0 v) × WT v
        → Writes K 𝓛 Γ (spot_of 𝓤 H E i).0 (spot_of 𝓤 H E i).1 zero v (put 𝓛 n (raw (held 𝓤 H E (laid i v us))) Γ)
    stow t n E us i {v} e wt = record {
      go = λ P h.
          let τ : Ty = (spot_of 𝓤 H E i).0 in
          let b : ℕ = (spot_of 𝓤 H E i).1 in
          let R : SProp 𝓤 = ⋆ 𝓛 (del 𝓛 n Γ) in
          via 𝓤 (sep 𝓤 (H.room τ b zero) (wand 𝓤 (H.at full_share τ b zero v) P))
          (via 𝓤 (sep 𝓤 (held 𝓤 H E us) R) (subst (λ (j : Item 𝓤). ent 𝓤 (⋆ 𝓛 Γ) (sep 𝓤 (mean 𝓛 j) R)) e (pull 𝓛 n Γ))
          (qed 𝓛 (raw (held 𝓤 H E us) ∷ raw R ∷ []) ∵ use1 𝓛 (‵ (froom τ b zero) ⊛ raw (Put 𝓛 E us i v)) (makes_room 𝓛 E us i v wt.0) $ split ! $ frame ! $
          assume ! (‵ (fat full_share τ b zero v)) $ use2 𝓛 (raw (held 𝓤 H E (laid i v us))) (apply∗ 𝓤 (H.at full_share τ b zero v) (held 𝓤 H E (laid i v us))) $
          by ! (via 𝓤 (⋆ 𝓛 (put 𝓛 n (raw (held 𝓤 H E (laid i v us))) Γ)) (fill 𝓛 n (raw (held 𝓤 H E (laid i v us))) Γ) h)))
          (guard_i 𝓤 (T (has_ty τ v) × WT v) (sep 𝓤 (H.room τ b zero) (wand 𝓤 (H.at full_share τ b zero v) P)) wt);
    }

    pub reads_all : K → (n : ℕ) (E : Env 𝓤 H) (us : List (Option Val)) → nth 𝓛 n Γ ≡ raw (held 𝓤 H E us) → (is : List ℕ) (vs : List Val) → lie us is ≡ somes vs → Opds K 𝓛 Γ E (copies is) vs
    reads_all t n E us e [] [] z = no_more t
    reads_all t n E us e [] (v ∷ vs) z = absurd (subst Bare (ap (λ (ws : List (Option Val)). lies ws 0) z) tt)
    reads_all t n E us e (i ∷ is) [] z = absurd (subst Some (ap length z) tt)
    reads_all t n E us e (i ∷ is) (v ∷ vs) z =
        and_then t (load t (from t (stop t)) (look_in t n (subst (λ (j : Item 𝓤). Part K 𝓛 j full_share (spot_of 𝓤 H E i).0 (spot_of 𝓤 H E i).1 zero v (λ u. raw (held 𝓤 H E (laid i u us)))) (sym e) (cell_in t E us i (ap (λ (ws : List (Option Val)). lies ws 0) z))))) (reads_all t n E us e is vs (ap (drop 1) z))

    pub holds : K → {ls : List Local} {Kt : Env 𝓤 H → Goal 𝓤 H} → ((bs : ℕ → ℕ) → Seq K 𝓛 (raw (held 𝓤 H (env_of 𝓤 H ls bs) []) ∷ Γ) (Kt (env_of 𝓤 H ls bs))) → Seq K 𝓛 Γ (allocs ls Kt)
    holds t {ls} {Kt} k = record {
      prf = hold 𝓛 ls (λ E. aim 𝓤 H (Kt E)) (⋆ 𝓛 Γ) (λ bs. via 𝓤 (⋆ 𝓛 (raw (held 𝓤 H (env_of 𝓤 H ls bs) []) ∷ Γ)) (push 𝓛 (raw (held 𝓤 H (env_of 𝓤 H ls bs) [])) Γ) (k bs).prf);
    }

    -- the result is the first local, and has nothing yet
    pub takes_in : K → (l : Local) (ls : List Local) (bs : ℕ → ℕ) {vs : List Val} {g : Goal 𝓤 H} → Fit ls vs
        → Step K 𝓛 (raw (held 𝓤 H (env_of 𝓤 H (l ∷ ls) bs) (none ∷ somes vs)) ∷ Γ) g (raw (held 𝓤 H (env_of 𝓤 H (l ∷ ls) bs) []) ∷ Γ) (params' (env_of 𝓤 H (l ∷ ls) bs) vs g)
    unfolding held
    takes_in t l ls bs {vs} {g} fits = step (λ s.
        let e : Ty × ℕ = (ty_of 𝓤 H l, bs zero) in
        let E : Env 𝓤 H = env_of 𝓤 H ls (λ n. bs (suc n)) in
        let R : SProp 𝓤 = sep 𝓤 (Own 𝓤 H e none) (⋆ 𝓛 Γ) in
        record {
          prf = via 𝓤 (sep 𝓤 (held 𝓤 H E []) R)
              (via 𝓤 (sep 𝓤 (sep 𝓤 (Own 𝓤 H e none) (held 𝓤 H E [])) (⋆ 𝓛 Γ)) (pop 𝓛 (raw (sep 𝓤 (Own 𝓤 H e none) (held 𝓤 H E []))) Γ)
              (qed 𝓛 ((raw (Own 𝓤 H e none) ⊛ raw (held 𝓤 H E [])) ∷ raw (⋆ 𝓛 Γ) ∷ []) ∵ split ! $ move ! (1 ∷ []) $ done !))
              (stores 𝓛 ls (λ n. bs (suc n)) vs (aim 𝓤 H g) R fits
              (via 𝓤 (sep 𝓤 (sep 𝓤 (Own 𝓤 H e none) (held 𝓤 H E (somes vs))) (⋆ 𝓛 Γ))
              (qed 𝓛 (raw (held 𝓤 H E (somes vs)) ∷ raw (Own 𝓤 H e none) ∷ raw (⋆ 𝓛 Γ) ∷ []) ∵ move ! (1 ∷ 0 ∷ []) $ join ! $ done !)
              (via 𝓤 (⋆ 𝓛 (raw (sep 𝓤 (Own 𝓤 H e none) (held 𝓤 H E (somes vs))) ∷ Γ)) (push 𝓛 (raw (sep 𝓤 (Own 𝓤 H e none) (held 𝓤 H E (somes vs)))) Γ) s.prf)));
        })

    pub frees_all : K → (E : Env 𝓤 H) (us : List (Option Val)) {g : Goal 𝓤 H} → Step K 𝓛 Γ g (raw (held 𝓤 H E us) ∷ Γ) (frees E g)
    frees_all t E us {g} = step (λ s. record { prf = via 𝓤 (sep 𝓤 (held 𝓤 H E us) (⋆ 𝓛 Γ)) (pop 𝓛 (raw (held 𝓤 H E us)) Γ) (let_go 𝓛 E us (aim 𝓤 H g) (⋆ 𝓛 Γ) s.prf) })
