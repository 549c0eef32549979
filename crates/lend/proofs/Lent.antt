-- A FUNCTION THAT TAKES THE HEAD BY `&mut` AND HANDS EVERYTHING ELSE ON meets its contract, whatever it hands on: one walk of its code
-- (Onward), for every list of parameters.
--     ended ps             its signature: the head by `&mut`, then the parameters ps, and an answer
--     Does                 all that is asked of the callee: called on a copy of the head, it does what the contract says of the head at exit
--     Right                a test that computes: each local is of the type, and has what the code reads there
--     meets                the law
-- The other parameters go to the callee at their own lifetimes, shares and ghost names, all at once (`vals` are their machine values), and
-- what its `post` says of their last values is what is said here.
-- Assumes `Logic`.
use mathlib.Core.Path.{◌≡◌, refl}
use mathlib.Core.Option.{Option, none, some}
use mathlib.Core.List.{List, [], ◌∷◌}
use Prim.Native.Nat.{ℕ, suc}
use seplogic.Ra.Ura.{Ura}
use base.Fraction.{full_share}
use mir.Syntax.{Callee, local, value_local, seq, call, place, named}
use mir.Val.{Val, vptr, vstruct, of_list}
use base.Logic.{SProp, ent, sep, ex, id⊢, comm∗}
use base.Fml.{Fml, flft, fobs, fauth, fbor, fobor, fsep}
use prog.Wp.{Env, Calls, Loops, WpFn, Tables}
use types.Logic.{Logic, sem}
use contract.Monad.{Fun}
use contract.Lifetimes.{Lfts, Shares, toks}
use types.Kit.{Go, Item, ‵, raw, some as any, later, ◌⊛◌, ⋆, at_ret, runs, lands, Seq, ◌$◌, ◌∵◌, !, qed, by, move, drop, use1, use2, split, join, pick, rewrite, fsplit, fsplit3, fjoin, fjoin3, feq_i, suffices, frame, await, done}
use types.Run.{look_raw, store_raw, stop, hop, fld, from, load, of_opd, assigns, land, returns, enter}
use types.Part.{sub, look_in}
use types.SemTy.{Body}
use sound.WpLaws.{FmC, fm_of, WpFn-mono}
use denote.RattleType.{Valss, owns, flat}
use denote.Laws.{Is, Are, Ises, Spells, Tellss, valss, shows}
use denote.Ref.{mut_vals, mut_Tells}
use denote.Memory.{mem, cell_at}
use denote.Exit.{Last, left, yes}
use denote.Signature.{plain, mut_ref_to, types_at}
use denote.Steps.{opens, closes, owned, peeks}
use denote.Struct.Steps.{spelt}
use denote.Triple.Entry.{Args, Vals, on_entry}
use denote.Triple.Spec.{Meets}
use denote.Triple.Call.{calls_from}
use denote.Triple.End.{all, Fins, lasts_of}
use denote.Triple.Clauses.{Ended, Clauses, at_exit, closing}
use denote.Triple.Walked.{Stays, stay_ref, walk_of, on_exit, Goes-ref, ends_at, walked, walk_Meets}
use Rattle.head.specs.declared.Head.{Head}
use Rattle.rules.specs.declared.Outcome.{Outcome}
use Rattle.head.specs.contracts.Head as Head·
use Rattle.head.proofs.Head.TheLaws as Head'
use Rattle.rules.specs.contracts.Answer as Answer·
use Rattle.rules.proofs.Answer.TheLaws as Answer'
use Rattle.rules.specs.contracts.Outcome as Outcome·
use Rattle.rules.proofs.Outcome.TheLaws as Outcome'
use Rattle.lend.proofs.Values.{of_head, head_told, head_typed, head_made, of_answer, answer_typed, answer_made, outcome_told, outcome_typed, head_in, answer_in}
use Rattle.lend.proofs.Locals.{lies, laid, lies_laid, somes, lie, copies, type_of, env_of, of_type, field_of_lem, held, cell_in, typed_in, stow, reads_all, holds, takes_in, frees_all}
use Rattle.lend.proofs.Passing.{Passed, slots_of, spells, tells, said_all, fit, had, go_said_all}
use Rattle.lend.proofs.Onward.{function, locals, others, again, arguments, end, copy_at, answer_at, again_at, back_at, found, wanted, met, slices, lent_all, lends_all, fits_own}

module _ {n : ℕ} (ps : List (Passed (suc n))) where
  abbrev pub ended : Ended
  ended = record {
    signature = record { lifetimes = suc n; outlives = []; params = mut_ref_to (0 ∷ []) tt (plain (λ _. Head·.the_row)) ∷ slots_of ps; result = plain (λ _. Answer·.the_row) };
    kept = (yes, all yes (slots_of ps));
  }

  abbrev stayed : Stays ended.signature.params ended.kept
  stayed = (stay_ref (0 ∷ []) tt (plain (λ _. Head·.the_row)), said_all (slots_of ps) (all yes (slots_of ps)))

  module _ (κs : Lfts (suc n)) where
    abbrev spelled : Spells (types_at ended.signature.params κs)
    spelled = (mut_vals, spells κs ps)

    told : Tellss (types_at ended.signature.params κs) (Ises (types_at ended.signature.params κs)) spelled
    told = (mut_Tells (named 0) κs.0 Head·.the_row, tells κs ps)

    module _ (a : Args ended.signature κs) where
      -- the machine values of the parameters that are handed on, each by itself and all in a row
      abbrev pub vals : Valss (types_at (slots_of ps) κs)
      vals = valss (types_at (slots_of ps) κs) (spells κs ps) a.1

      abbrev row : List Val
      row = flat (types_at (slots_of ps) κs) vals

      -- what the callee binds for the parameters' last values
      abbrev Ends : Type 0
      Ends = Last ((Head·.the_row).exit yes) a.0.now × Fins κs (slots_of ps) (all yes (slots_of ps)) a.1

      abbrev ends : Ends → Fml
      ends zs = fsep (left ((Head·.the_row).exit yes) a.0.now zs.0) (lasts_of κs (slots_of ps) (all yes (slots_of ps)) a.1 zs.1)

      -- what lies in the locals: on entry, then with the head copied, then with every slice lent again
      abbrev entry : List (Option Val)
      entry = none ∷ some (vptr a.0.ref_ptr.0 a.0.ref_ptr.1) ∷ somes row

      abbrev copied : List (Option Val)
      copied = laid (copy_at ps) (of_head a.0.now) entry

      abbrev ready : List (Option Val)
      ready = lent_all κs ps a.1 (again_at ps) copied

      -- and with the outcome u, and the head w taken out of it
      abbrev taken : Val → Val → List (Option Val)
      taken u w = laid (back_at ps) w (laid (answer_at ps) u ready)

  abbrev pub Right : Type 0
  Right =
      (found (locals ps) 2 (again_at ps) ps ≡ wanted ps) × (type_of (locals ps) (copy_at ps) ≡ Head'.mir) × (type_of (locals ps) (answer_at ps) ≡ Outcome'.mir) × (type_of (locals ps) (back_at ps) ≡ Head'.mir) ×
      ((κs : Lfts (suc n)) (a : Args ended.signature κs) → (met κs ps a.1 2 (again_at ps) (copied κs a) ≡ slices κs ps a.1) × (lie (ready κs a) (arguments ps) ≡ somes (of_head a.0.now ∷ row κs a)) ×
      ((u w : Val) → (lies (taken κs a u w) 1 ≡ some (vptr a.0.ref_ptr.0 a.0.ref_ptr.1)) × (lies (taken κs a u w) (answer_at ps) ≡ some u)))

  module _ {M : Type 1} {𝓤 : Ura M} (𝓛 : Logic 𝓤) (c : Clauses 𝓤 ended) (C : Calls 𝓤 𝓛.H) (core : Callee) where
    -- what the callee has answered: the outcome, and what is said of it and of the last values
    open 𝓛 use {H}

    abbrev Answered : (κs : Lfts (suc n)) (qs : Shares (suc n)) (a : Args ended.signature κs) → (c κs a).ghost → Val → SProp 𝓤
    Answered κs qs a g v =
        ex 𝓤 (λ (r : Outcome). sep 𝓤 (sep 𝓤 (toks 𝓛 n κs.1 qs.1) (sem 𝓛 ((Outcome·.the_row).own_val r (v ∷ []))))
        (ex 𝓤 (λ (zs : Ends κs a). sep 𝓤 (sem 𝓛 (ends κs a zs)) ((c κs a).ensures g r.answer (at_exit ended κs a (r.head, zs.1))))))

    abbrev Asked : (κs : Lfts (suc n)) (qs : Shares (suc n)) (a : Args ended.signature κs) → (c κs a).ghost → SProp 𝓤
    Asked κs qs a g =
        sep 𝓤 (sep 𝓤 (toks 𝓛 n κs.1 qs.1) (sem 𝓛 (fsep ((Head·.the_row).own_val a.0.now (of_head a.0.now ∷ [])) (owns (types_at (slots_of ps) κs) a.1 (vals κs a))))) ((c κs a).requires g)

    abbrev pub Does : Type 1
    Does = (κs : Lfts (suc n)) (qs : Shares (suc n)) (a : Args ended.signature κs) (g : (c κs a).ghost) → ent 𝓤 (Asked κs qs a g) (C core (of_head a.0.now ∷ row κs a) (λ v. H.⇛ (Answered κs qs a g v)))

    module _ (Λ : Loops 𝓤 H) (fm : FmC 𝓤 H 𝓛.laws C) (right : Right) (does : Does) (κs : Lfts (suc n)) (qs : Shares (suc n)) (a : Args ended.signature κs) (g : (c κs a).ghost)
        (are : Are (types_at ended.signature.params κs) (Ises (types_at ended.signature.params κs)) a (valss (types_at ended.signature.params κs) (spelled κs) a)) where
      abbrev b : ℕ
      b = a.0.ref_ptr.0

      abbrev o : ℕ
      o = a.0.ref_ptr.1

      abbrev h : Head
      h = a.0.now

      abbrev passed : Vals ended.signature κs
      passed = valss (types_at ended.signature.params κs) (spelled κs) a

      abbrev After : Val → SProp 𝓤
      After = (walk_of 𝓛 ended stayed c).post ((κs, qs, tt, a, passed), g)

      abbrev Ensured : Outcome → Ends κs a → SProp 𝓤
      Ensured r zs = (c κs a).ensures g r.answer (at_exit ended κs a (r.head, zs.1))

      abbrev Out : Outcome → Ends κs a → SProp 𝓤
      Out r zs = on_exit 𝓛 ended stayed κs qs passed (of_answer r.answer) r.answer a (r.head, zs.1)

      -- at the end of the walk: obs, the borrow and its token, the other tokens, the last values of the other parameters, what is ensured
      abbrev Left : Outcome → Ends κs a → List (Item 𝓤)
      Left r zs =
          ‵ (fobs a.0.ghost_name ((Head·.the_row).coded.code r.head)) ∷ ‵ (fbor κs.0 (Body (mem Head·.the_row) b o a.0.ghost_name)) ∷
          ‵ (flft κs.0 qs.0) ∷ raw (toks 𝓛 n κs.1 qs.1) ∷ ‵ (ends κs a zs) ∷ raw (Ensured r zs) ∷ []

      exits : (r : Outcome) (zs : Ends κs a) → Is Answer·.the_row r.answer (of_answer r.answer ∷ []) → ent 𝓤 (⋆ 𝓛 (Left r zs)) (After (of_answer r.answer))
      exits r zs is =
          qed 𝓛 (Left r zs) ∵
          suffices ! _ (ends_at 𝓛 ended stayed c ((κs, qs, tt, a, passed), g) (of_answer r.answer) r.answer (r.head, zs.1) (tt, fit κs (slots_of ps) (all yes (slots_of ps)) a.1 zs.1)) $
          suffices ! (sep 𝓤 (Ensured r zs) (Out r zs)) (comm∗ 𝓤 (Ensured r zs) (Out r zs)) $
          move ! (5 ∷ []) $ frame ! $ move ! (2 ∷ 3 ∷ []) $ join ! $ frame ! $ move ! (2 ∷ []) $ fsplit ! $ drop ! $
          rewrite ! 0 (λ (P : Fml). ‵ P) (had κs (slots_of ps) (all yes (slots_of ps)) a.1 zs.1 (vals κs a)) refl $ move ! (1 ∷ 2 ∷ []) $
          feq_i ! (List Val) (vptr b o ∷ []) (vptr b o ∷ []) refl $ fjoin3 ! $ fjoin ! $ frame ! $
          owned ! Answer·.the_row (Is Answer·.the_row) (answer_made 𝓛) r.answer _ is $ done !

      -- the head's borrow, open: its cell, what it owns, obs and auth
      abbrev opened : List (Item 𝓤) → List (Item 𝓤)
      opened Γ =
          ‵ (cell_at full_share (Head·.the_row).mir (of_head h ∷ []) b o) ∷ ‵ ((Head·.the_row).own_val h (of_head h ∷ [])) ∷ ‵ (fobor κs.0 qs.0 (Body (mem Head·.the_row) b o a.0.ghost_name)) ∷
          ‵ (fobs a.0.ghost_name ((Head·.the_row).coded.code h)) ∷ ‵ (fauth a.0.ghost_name ((Head·.the_row).coded.code h)) ∷ Γ

      module _ (bs : ℕ → ℕ) where
        abbrev E : Env 𝓤 H
        E = env_of 𝓤 H (locals ps) bs

        -- the callee has answered: the head is stored, the borrow is closed there, and the locals are freed
        module _ (r : Outcome) (zs : Ends κs a) (v : Val) (is : Is Outcome·.the_row r (v ∷ [])) where
          abbrev u : Val
          u = vstruct (of_list (of_answer r.answer ∷ of_head r.head ∷ []))

          abbrev us : List (Option Val)
          us = laid (answer_at ps) u (ready κs a)

          abbrev ws : List (Option Val)
          ws = laid (back_at ps) (of_head r.head) us

          answers : Seq (Go {0}) 𝓛 (‵ ((Outcome·.the_row).own_val r (v ∷ [])) ∷ raw (toks 𝓛 n κs.1 qs.1) ∷ ‵ (ends κs a zs) ∷ raw (Ensured r zs) ∷ raw (held 𝓤 H E (ready κs a)) ∷ opened [])
              (lands C Λ E (place (answer_at ps) []) v (end ps) (at_ret E After))
          answers =
              land ! (from ! (stop !)) (stow ! 4 E (ready κs a) (answer_at ps) refl (of_type 𝓤 H (locals ps) bs (answer_at ps) v right.2 (outcome_typed 𝓛 r v is))) $
              rewrite ! 4 (λ (x : Val). raw (held 𝓤 H E (laid (answer_at ps) x (ready κs a)))) (outcome_told r v is) refl $
              assigns ! (of_opd ! (load ! (from ! (fld ! (field_of_lem 𝓤 H (locals ps) bs (answer_at ps) 1 right.2 refl) (stop !)))
              (look_in ! 4 (sub ! 1 refl (typed_in ! (locals ps) bs us (answer_at ps) right.2 (lies_laid (ready κs a) (answer_at ps) u))))))
              (from ! (stop !)) (stow ! 4 E us (back_at ps) refl (of_type 𝓤 H (locals ps) bs (back_at ps) (of_head r.head) right.3 (head_typed 𝓛 r.head _ (head_in r v is)))) $
              assigns ! (of_opd ! (load ! (from ! (stop !)) (look_in ! 4 (cell_in ! E ws (back_at ps) (lies_laid us (back_at ps) (of_head r.head))))))
              (from ! (hop ! (look_in ! 4 (cell_in ! E ws 1 ((right.4 κs a).2 u (of_head r.head)).0)) (stop !))) (store_raw ! 5 refl (head_typed 𝓛 r.head _ (head_in r v is))) $
              assigns ! (of_opd ! (load ! (from ! (fld ! (field_of_lem 𝓤 H (locals ps) bs (answer_at ps) 0 right.2 refl) (stop !)))
              (look_in ! 4 (sub ! 0 refl (typed_in ! (locals ps) bs ws (answer_at ps) right.2 ((right.4 κs a).2 u (of_head r.head)).1)))))
              (from ! (stop !)) (stow ! 4 E ws 0 refl (of_type 𝓤 H (locals ps) bs 0 (of_answer r.answer) refl (answer_typed 𝓛 r.answer _ (answer_in r v is)))) $
              drop ! $ move ! (5 ∷ []) $ drop ! $ owned ! Head·.the_row (Is Head·.the_row) (head_made 𝓛) r.head _ (head_in r v is) $ move ! (5 ∷ 0 ∷ 6 ∷ 7 ∷ 8 ∷ []) $
              closes ! tt Head·.the_row r.head (of_head r.head ∷ []) b o $
              -- [obs; the borrow; its token; the other tokens; the last values; what is ensured; the locals]
              returns ! (look_in ! 6 (cell_in ! E (laid 0 (of_answer r.answer) ws) 0 (lies_laid ws 0 (of_answer r.answer)))) $
              move ! (6 ∷ []) $ frees_all ! E (laid 0 (of_answer r.answer) ws) $ by ! (exits r zs (answer_in r v is))

        -- the head is copied and every slice lent again: the callee is given what it asks
        calls : Is Head·.the_row h (of_head h ∷ [])
            → Seq (Go {0}) 𝓛 (raw (held 𝓤 H E (ready κs a)) ∷ opened (raw (toks 𝓛 n κs.1 qs.1) ∷ ‵ (owns (types_at (slots_of ps) κs) a.1 (vals κs a)) ∷ raw ((c κs a).requires g) ∷ []))
            (runs C Λ E (seq (call core (copies (arguments ps)) (place (answer_at ps) [])) (end ps)) (at_ret E After))
        calls was =
            owned ! Head·.the_row (Is Head·.the_row) (head_made 𝓛) h _ was $ move ! (0 ∷ 8 ∷ []) $ fjoin ! $ move ! (7 ∷ 0 ∷ []) $ join ! $ move ! (0 ∷ 7 ∷ []) $
            use2 𝓛 (raw (Asked κs qs a g)) (id⊢ 𝓤 _) $ calls_from ! fm (raw (Asked κs qs a g)) (of_head h ∷ row κs a) (λ v. H.⇛ (Answered κs qs a g v)) (does κs qs a g)
            (reads_all ! 1 E (ready κs a) refl (arguments ps) (of_head h ∷ row κs a) (right.4 κs a).1) (λ v.
            use1 𝓛 (later (any (λ (r : Outcome). (raw (toks 𝓛 n κs.1 qs.1) ⊛ ‵ ((Outcome·.the_row).own_val r (v ∷ []))) ⊛ any (λ (zs : Ends κs a). ‵ (ends κs a zs) ⊛ raw (Ensured r zs))))) (id⊢ 𝓤 _) $
            await ! tt $ pick ! (λ r. split ! $ move ! (1 ∷ []) $ pick ! (λ zs. split ! $ move ! (2 ∷ []) $ split ! $ move ! (1 ∷ []) $
            peeks ! Outcome·.the_row (Is Outcome·.the_row) (shows 𝓛 Outcome·.the_row) r (v ∷ []) (λ is. answers r zs v is))))

      walk : ent 𝓤 (sep 𝓤 (on_entry 𝓛 ended.signature κs qs a passed) ((c κs a).requires g)) (WpFn 𝓤 H C Λ (function core ps) (flat (types_at ended.signature.params κs) passed) After)
      walk =
          qed 𝓛 (((‵ (flft κs.0 qs.0) ⊛ raw (toks 𝓛 n κs.1 qs.1)) ⊛ ‵ (owns (types_at ended.signature.params κs) a passed)) ∷ raw ((c κs a).requires g) ∷ []) ∵ split ! $
          enter ! C Λ (function core ps) (flat (types_at ended.signature.params κs) passed) _ $
          holds ! (λ bs. takes_in ! (local Answer'.mir value_local) (others ps) bs ((tt, tt), fits_own 𝓛 κs (local Head'.mir value_local ∷ local Outcome'.mir value_local ∷ again ps) ps a.1 are.1) $
          -- [the locals; the tokens; what the parameters own; the requires]
          move ! (2 ∷ []) $ fsplit ! $ fsplit3 ! $ drop ! $ move ! (4 ∷ []) $ split ! $ move ! (2 ∷ 3 ∷ 0 ∷ []) $
          -- [obs; the borrow; its token; the other tokens; what the other parameters own; the locals; the requires]
          opens ! tt Head·.the_row {h = h} b o (λ vs.
          spelt ! Head·.the_row (Is Head·.the_row) (shows 𝓛 Head·.the_row) (λ x. of_head x ∷ []) head_told full_share h vs b o $
          move ! (1 ∷ []) $ peeks ! Head·.the_row (Is Head·.the_row) (shows 𝓛 Head·.the_row) h (of_head h ∷ []) (λ was. move ! (1 ∷ 0 ∷ []) $
          -- [the head's cell, what it owns, its open borrow, obs and auth; the other tokens; what the other parameters own; the locals; the requires]
          assigns ! (of_opd ! (load ! (from ! (hop ! (look_in ! 7 (cell_in ! (E bs) (entry κs a) 1 refl)) (stop !))) (look_raw ! 0 refl))) (from ! (stop !))
          (stow ! 7 (E bs) (entry κs a) (copy_at ps) refl (of_type 𝓤 H (locals ps) bs (copy_at ps) (of_head h) right.1 (head_typed 𝓛 h _ was))) $
          move ! (7 ∷ []) $ lends_all 𝓛 C Λ (locals ps) bs κs (seq (call core (copies (arguments ps)) (place (answer_at ps) [])) (end ps)) ps a.1 are.1 (copied κs a) 2 (again_at ps) right.0 (right.4 κs a).0
          (calls bs was))))

  module _ {M : Type 1} {𝓤 : Ura M} (𝓛 : Logic 𝓤) (c : Clauses 𝓤 ended) (core : Callee) (𝓣 : Tables 𝓤 𝓛.H) where
    open 𝓛 use {H}

    pub meets : Right → Does 𝓛 c 𝓣.C core → Meets 𝓛 ended.signature (WpFn 𝓤 H 𝓣.C 𝓣.Λ (function core ps)) (closing 𝓛 ended c)
    meets right does =
        let run : Fun 𝓤 = WpFn 𝓤 H 𝓣.C 𝓣.Λ (function core ps) in
        walk_Meets 𝓛 ended stayed (Goes-ref 𝓛 (suc n) 0 tt (plain (λ _. Head·.the_row)), go_said_all 𝓛 (suc n) (slots_of ps) (all yes (slots_of ps))) c
        run (WpFn-mono 𝓤 H 𝓛.laws 𝓣 (function core ps))
        (walked 𝓛 ended stayed c run spelled told (λ κs qs bounds a g are. walk 𝓛 c 𝓣.C core 𝓣.Λ (fm_of 𝓤 H 𝓛.laws 𝓣) right does κs qs a g are))
