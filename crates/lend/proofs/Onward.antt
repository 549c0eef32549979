-- THE CODE OF A FUNCTION THAT TAKES THE HEAD BY `&mut` AND HANDS EVERYTHING ELSE ON: it copies the head out, lends each `&mut [u8]`
-- again, calls, copies the head that it was answered, stores it, and answers. It is the same for all that may be handed on (Passing).
--     function core ps     the code, where ps is handed on to core
--     locals ps, arguments ps      its locals, and which of them the callee is given.        copy_at, answer_at, again_at, back_at     the locals behind the parameters
--     found, wanted; met, slices   at each slice that is lent again: the types and values that are there, and those that the code wants
--     lent_all             what lies in the locals then
--     lends_all            the slices are lent again, where found is wanted and met are the slices
--     fits_own             the arguments are of their locals' types
-- The last two assume `Logic`.
use mathlib.Core.Path.{◌≡◌, refl, ap}
use mathlib.Core.Option.{Option, some}
use mathlib.Core.List.{List, [], ◌∷◌}
use Prim.Native.Nat.{ℕ, suc}
use seplogic.Ra.Ura.{Ura}
use lib.ListN.{length, get_or, drop}
use mir.Syntax.{Callee, Ty, ty_int, ty_ref, ty_unit, Local, local, value_local, Body as Code, seq, assign, call, return, rv_opd, addr_of, aggregate, copy, place, field, deref, imm, mut, erased, Fn, named, w8, w64}
use mir.Val.{Val, vptr, vint, WT}
use prog.Wp.{Calls, Loops}
use types.Logic.{Logic}
use contract.Lifetimes.{Lfts}
use types.Kit.{Go, Item, raw, Post, runs, Seq, ◌$◌, ! }
use types.Run.{stop, hop, fld, from, load, addr, and_then, no_more, assigns}
use types.Part.{agg, sub, look_in}
use denote.RattleType.{Denots, flat}
use denote.Laws.{Are, Ises, valss}
use denote.Ref.{MutBor}
use denote.Memory.{pointee}
use denote.Slice.{slice_ty, slice_val}
use denote.Signature.{types_at}
use Rattle.message.proofs.Record.TheLaws as Record'
use Rattle.head.specs.contracts.Head as Head·
use Rattle.head.proofs.Head.TheLaws as Head'
use Rattle.rules.proofs.Answer.TheLaws as Answer'
use Rattle.rules.proofs.Outcome.TheLaws as Outcome'
use Rattle.lend.proofs.Locals.{lies, laid, lies_laid, copies, type_of, Fit, env_of, of_type, field_of_lem, held, cell_in, typed_in, stow}
use Rattle.lend.proofs.Passing.{Passed, as_is, lent, shared, count, content, slots_of, spells, lawful}

-- ---- the code. Local 0 is the result, 1 the head, the parameters are 2 and on; behind them come the copy of the head, what the callee answers, two locals for each slice that is lent again, and the head that is to be stored
abbrev bytes : Ty
bytes = ty_ref erased mut (ty_int w8)

abbrev mutable : ℕ → Ty
mutable j = slice_ty (ty_ref (named j) mut (ty_int w8))

-- parameter k, lent again by locals t and t + 1
abbrev lends : ℕ → ℕ → Code → Code
lends k t c = seq (assign (place t []) (addr_of (place k (field 0 ∷ deref (ty_int w8) ∷ [])))) (seq (assign (place (suc t) []) (aggregate (copy (place t []) ∷ copy (place k (field 1 ∷ [])) ∷ []))) c)

module _ {n : ℕ} where
  abbrev written : Passed n → Ty
  written (as_is (shared j ok)) = slice_ty (ty_ref (named j) imm (ty_int w8))
  written (as_is count) = ty_int w64
  written (as_is content) = Record'.mir
  written (lent j ok) = mutable j

  -- two for each slice that is lent again, and the last for the head that is to be stored
  abbrev pub again : List (Passed n) → List Local
  again [] = local Head'.mir value_local ∷ []
  again (as_is p ∷ ps) = again ps
  again (lent j ok ∷ ps) = local bytes value_local ∷ local (slice_ty bytes) value_local ∷ again ps

  abbrev pub own : List (Passed n) → List Local → List Local
  own [] ls = ls
  own (p ∷ ps) ls = local (written p) value_local ∷ own ps ls

  -- all but the result
  abbrev pub others : List (Passed n) → List Local
  others ps = local (ty_ref (named 0) mut (pointee (Head·.the_row).written)) value_local ∷ own ps (local Head'.mir value_local ∷ local Outcome'.mir value_local ∷ again ps)

  abbrev pub locals : List (Passed n) → List Local
  locals ps = local Answer'.mir value_local ∷ others ps

  abbrev all_lent : ℕ → ℕ → List (Passed n) → Code → Code
  all_lent k t [] c = c
  all_lent k t (as_is p ∷ ps) c = all_lent (suc k) t ps c
  all_lent k t (lent j ok ∷ ps) c = lends k t (all_lent (suc k) (suc (suc t)) ps c)

  -- where the callee's arguments stand then
  abbrev handed : ℕ → ℕ → List (Passed n) → List ℕ
  handed k t [] = []
  handed k t (as_is p ∷ ps) = k ∷ handed (suc k) t ps
  handed k t (lent j ok ∷ ps) = suc t ∷ handed (suc k) (suc (suc t)) ps

  abbrev pub copy_at : List (Passed n) → ℕ
  copy_at ps = suc (suc (length ps))

  abbrev pub answer_at : List (Passed n) → ℕ
  answer_at ps = suc (copy_at ps)

  abbrev pub again_at : List (Passed n) → ℕ
  again_at ps = suc (answer_at ps)

  -- the first local behind those of the slices, where t is the first of them
  abbrev past : ℕ → List (Passed n) → ℕ
  past t [] = t
  past t (as_is p ∷ ps) = past t ps
  past t (lent j ok ∷ ps) = past (suc (suc t)) ps

  abbrev pub back_at : List (Passed n) → ℕ
  back_at ps = past (again_at ps) ps

  abbrev pub arguments : List (Passed n) → List ℕ
  arguments ps = copy_at ps ∷ handed 2 (again_at ps) ps

  abbrev pub end : List (Passed n) → Code
  end ps =
      seq (assign (place (back_at ps) []) (rv_opd (copy (place (answer_at ps) (field 1 ∷ [])))))
      (seq (assign (place 1 (deref Head'.mir ∷ [])) (rv_opd (copy (place (back_at ps) []))))
      (seq (assign (place 0 []) (rv_opd (copy (place (answer_at ps) (field 0 ∷ []))))) return))

  abbrev pub body : Callee → List (Passed n) → Code
  body core ps =
      seq (assign (place (copy_at ps) []) (rv_opd (copy (place 1 (deref Head'.mir ∷ [])))))
      (all_lent 2 (again_at ps) ps (seq (call core (copies (arguments ps)) (place (answer_at ps) [])) (end ps)))

abbrev pub function : {n : ℕ} → Callee → List (Passed (suc n)) → Fn
function {n} core ps = record { lifetimes = suc n; outlives = []; ty_params = []; givens = 0; params = suc (length ps); locals = locals ps; body = body core ps }

-- ---- the test: at each slice that is lent again, what is found and what the code wants there
abbrev pointer : MutBor (List ℕ) → Val
pointer x = vptr x.ref_ptr.0 x.ref_ptr.1

abbrev slice : MutBor (List ℕ) → Val
slice x = slice_val x.ref_ptr (length x.now)

-- a slice lent again by locals t and t + 1
abbrev lend : ℕ → MutBor (List ℕ) → List (Option Val) → List (Option Val)
lend t x us = laid (suc t) (slice x) (laid t (pointer x) us)

module _ {n : ℕ} where
  -- types
  abbrev pub found : List Local → ℕ → ℕ → List (Passed n) → List Ty
  found ls k t [] = []
  found ls k t (as_is p ∷ ps) = found ls (suc k) t ps
  found ls k t (lent j ok ∷ ps) = type_of ls k ∷ type_of ls t ∷ type_of ls (suc t) ∷ found ls (suc k) (suc (suc t)) ps

  abbrev pub wanted : List (Passed n) → List Ty
  wanted [] = []
  wanted (as_is p ∷ ps) = wanted ps
  wanted (lent j ok ∷ ps) = mutable j ∷ bytes ∷ slice_ty bytes ∷ wanted ps

  module _ (κs : Lfts n) where
    abbrev pub Denoted : List (Passed n) → Type 0
    Denoted ps = Denots (types_at (slots_of ps) κs)

    -- what lies in the locals once all are lent again
    abbrev pub lent_all : (ps : List (Passed n)) → Denoted ps → ℕ → List (Option Val) → List (Option Val)
    lent_all [] a t us = us
    lent_all (as_is p ∷ ps) a t us = lent_all ps a.1 t us
    lent_all (lent j ok ∷ ps) a t us = lent_all ps a.1 (suc (suc t)) (lend t a.0 us)

    -- values: the slice is read for its pointer, and then for its count
    abbrev pub met : (ps : List (Passed n)) → Denoted ps → ℕ → ℕ → List (Option Val) → List (Option Val)
    met [] a k t us = []
    met (as_is p ∷ ps) a k t us = met ps a.1 (suc k) t us
    met (lent j ok ∷ ps) a k t us = lies us k ∷ lies (laid t (pointer a.0) us) k ∷ met ps a.1 (suc k) (suc (suc t)) (lend t a.0 us)

    abbrev pub slices : (ps : List (Passed n)) → Denoted ps → List (Option Val)
    slices [] a = []
    slices (as_is p ∷ ps) a = slices ps a.1
    slices (lent j ok ∷ ps) a = some (slice a.0) ∷ some (slice a.0) ∷ slices ps a.1

nth_of : (i : ℕ) {τs σs : List Ty} → τs ≡ σs → get_or τs i ty_unit ≡ get_or σs i ty_unit
nth_of i = ap (λ (τs : List Ty). get_or τs i ty_unit)

-- ---- the slices are lent again
module _ {M : Type 1} {𝓤 : Ura M} (𝓛 : Logic 𝓤) (C : Calls 𝓤 𝓛.H) (Λ : Loops 𝓤 𝓛.H) (ls : List Local) (bs : ℕ → ℕ) where
  -- the code c runs, where us lies in the locals
  open 𝓛 use {H}

  abbrev Runs : List (Option Val) → List (Item 𝓤) → Code → Post 𝓤 H → Type 1
  Runs us Γ c q = Seq (Go {0}) 𝓛 (raw (held 𝓤 H (env_of 𝓤 H ls bs) us) ∷ Γ) (runs C Λ (env_of 𝓤 H ls bs) c q)

  lends_one : {Γ : List (Item 𝓤)} {q : Post 𝓤 H} (c : Code) (us : List (Option Val)) (k t j : ℕ) (x : MutBor (List ℕ)) → type_of ls k ≡ mutable j → type_of ls t ≡ bytes → type_of ls (suc t) ≡ slice_ty bytes
      → lies us k ≡ some (slice x) → lies (laid t (pointer x) us) k ≡ some (slice x) → WT (vint w64 (length x.now)) → Runs (lend t x us) Γ c q → Runs us Γ (lends k t c) q
  lends_one c us k t j x e-k e-t e-s z z' wt s =
      assigns ! (addr ! (from ! (fld ! (field_of_lem 𝓤 H ls bs k 0 e-k refl) (hop ! (look_in ! 0 (sub ! 0 refl (typed_in ! ls bs us k e-k z))) (stop !))))) (from ! (stop !))
      (stow ! 0 (env_of 𝓤 H ls bs) us t refl (of_type 𝓤 H ls bs t (pointer x) e-t (tt, tt))) $
      assigns ! (agg ! (and_then ! (load ! (from ! (stop !)) (look_in ! 0 (cell_in ! (env_of 𝓤 H ls bs) (laid t (pointer x) us) t (lies_laid us t (pointer x)))))
      (and_then ! (load ! (from ! (fld ! (field_of_lem 𝓤 H ls bs k 1 e-k refl) (stop !))) (look_in ! 0 (sub ! 1 refl (typed_in ! ls bs (laid t (pointer x) us) k e-k z')))) (no_more !)))) (from ! (stop !))
      (stow ! 0 (env_of 𝓤 H ls bs) (laid t (pointer x) us) (suc t) refl (of_type 𝓤 H ls bs (suc t) (slice x) e-s (tt, (tt, (wt, tt))))) $ s

  pub lends_all : {n : ℕ} (κs : Lfts n) {Γ : List (Item 𝓤)} {q : Post 𝓤 H} (c : Code) (ps : List (Passed n)) (a : Denoted κs ps)
      → Are (types_at (slots_of ps) κs) (Ises (types_at (slots_of ps) κs)) a (valss (types_at (slots_of ps) κs) (spells κs ps) a) → (us : List (Option Val)) (k t : ℕ)
      → found ls k t ps ≡ wanted ps → met κs ps a k t us ≡ slices κs ps a → Runs (lent_all κs ps a t us) Γ c q → Runs us Γ (all_lent k t ps c) q
  lends_all κs c [] a are us k t e z s = s
  lends_all κs c (as_is p ∷ ps) a are us k t e z s = lends_all κs c ps a.1 are.1 us (suc k) t e z s
  lends_all κs c (lent j ok ∷ ps) a are us k t e z s =
      lends_one (all_lent (suc k) (suc (suc t)) ps c) us k t j a.0 (nth_of 0 e) (nth_of 1 e) (nth_of 2 e) (ap (λ (ws : List (Option Val)). lies ws 0) z) (ap (λ (ws : List (Option Val)). lies ws 1) z)
      (record { fits = are.0.0.1.0 }) (lends_all κs c ps a.1 are.1 (lend t a.0 us) (suc k) (suc (suc t)) (ap (drop 3) e) (ap (drop 2) z) s)

-- ---- the arguments are of their locals' types
module _ {M : Type 1} {𝓤 : Ura M} (𝓛 : Logic 𝓤) {n : ℕ} (κs : Lfts n) (ls : List Local) where
  pub fits_own : (ps : List (Passed n)) (a : Denoted κs ps) → Are (types_at (slots_of ps) κs) (Ises (types_at (slots_of ps) κs)) a (valss (types_at (slots_of ps) κs) (spells κs ps) a)
      → Fit (own ps ls) (flat (types_at (slots_of ps) κs) (valss (types_at (slots_of ps) κs) (spells κs ps) a))
  fits_own [] a are = tt
  fits_own (as_is (shared j ok) ∷ ps) a are = (((lawful {n = n} κs 𝓛 (as_is (shared j ok))).typed a.0 _ are.0).0, fits_own ps a.1 are.1)
  fits_own (as_is count ∷ ps) a are = (((lawful {n = n} κs 𝓛 (as_is count)).typed a.0 _ are.0).0, fits_own ps a.1 are.1)
  fits_own (as_is content ∷ ps) a are = (((lawful {n = n} κs 𝓛 (as_is content)).typed a.0 _ are.0).0, fits_own ps a.1 are.1)
  fits_own (lent j ok ∷ ps) a are = (((lawful {n = n} κs 𝓛 (lent j ok)).typed a.0 _ are.0).0, fits_own ps a.1 are.1)
