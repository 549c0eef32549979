-- WHAT A FUNCTION OF LEND HANDS ON: its parameters behind the head, and what the logic knows of each kind of them.
--     Passed n             a parameter in a signature of n lifetimes: one that is handed on as it is (`Plain`: a `&[u8]`, a `usize`, a record), or a `&mut [u8]`, which is lent again
--     slot_of, slots_of      its place in the signature
--     spells, tells        the machine values of a list of parameters, and that they are told by what each denotes
--     lawful               they are of their MIR types
--     said_all             of each parameter: what is had at exit is what the contract says of it there, and nothing more. What a callee's `post` says of a parameter that was passed on is just that
--     go_said_all, had, fit     its laws: it is what is to be left; what is last is had; and nothing else is asked
-- `lawful` and `go_said_all` assume `Logic`.
use mathlib.Core.Path.{◌≡◌, refl, ap}
use mathlib.Core.List.{List, [], ◌∷◌}
use Prim.Native.Nat.{ℕ}
use seplogic.Ra.Ura.{Ura}
use mir.Syntax.{named, w64}
use mir.Val.{Val}
use base.Fml.{Fml, fsep}
use types.Logic.{Logic, sem}
use contract.Lifetimes.{Lfts, Within, lft_at}
use denote.RattleType.{Denots, Valss}
use denote.Laws.{Is, Ises, Tells, Tellss, Spells, Lawful}
use denote.Builtin.{u8, usize}
use denote.Plain.{uint_vals, uint_Tells, uint_Lawful}
use denote.Slice.{shr_slice_vals, mut_slice_vals, mut_slice_Tells, shr_slice_Tells, mut_slice_Lawful, shr_slice_Lawful}
use denote.Struct.Laws as struct
use denote.Exit.{Kept, left}
use denote.Signature.{Slot, plain, mut_slice, shr_slice, types_at}
use denote.Triple.End.{Kepts, Fins, lasts_of}
use denote.Triple.Walked.{Stay, Stays, Goes, AllGo, has_of, fits_of}
use Rattle.message.specs.contracts.Record as Record·
use Rattle.message.proofs.Record.TheLaws as Record'
use Rattle.lend.proofs.Values.{of_record, record_told}

pub data Plain (n : ℕ) : Type 0 where
  shared : (j : ℕ) → Within n j → Plain n
  count : Plain n
  content : Plain n

pub data Passed (n : ℕ) : Type 0 where
  as_is : Plain n → Passed n
  lent : (j : ℕ) → Within n j → Passed n

module _ {n : ℕ} where
  abbrev pub slot_of : Passed n → Slot n
  slot_of (as_is (shared j ok)) = shr_slice j ok (λ _. u8)
  slot_of (lent j ok) = mut_slice j ok (λ _. u8)
  slot_of (as_is count) = plain (λ _. usize)
  slot_of (as_is content) = plain (λ _. Record·.the_row)

  abbrev pub slots_of : List (Passed n) → List (Slot n)
  slots_of [] = []
  slots_of (p ∷ ps) = slot_of p ∷ slots_of ps

  module _ (κs : Lfts n) where
    abbrev spell : (p : Passed n) → ((slot_of p).row κs).Denot → List Val
    spell (as_is (shared j ok)) = shr_slice_vals
    spell (lent j ok) = mut_slice_vals
    spell (as_is count) = uint_vals w64
    spell (as_is content) = λ x. of_record x ∷ []

    tell : (p : Passed n) → Tells ((slot_of p).row κs) (Is ((slot_of p).row κs)) (spell p)
    tell (as_is (shared j ok)) = shr_slice_Tells (named j) (lft_at n j ok κs) u8
    tell (lent j ok) = mut_slice_Tells (named j) (lft_at n j ok κs) u8
    tell (as_is count) = uint_Tells w64
    tell (as_is content) = record_told

    abbrev pub spells : (ps : List (Passed n)) → Spells (types_at (slots_of ps) κs)
    spells [] = tt
    spells (p ∷ ps) = (spell p, spells ps)

    pub tells : (ps : List (Passed n)) → Tellss (types_at (slots_of ps) κs) (Ises (types_at (slots_of ps) κs)) (spells ps)
    tells [] = tt
    tells (p ∷ ps) = (tell p, tells ps)

    module _ {M : Type 1} {𝓤 : Ura M} (𝓛 : Logic 𝓤) where
      pub lawful : (p : Passed n) → Lawful 𝓛 ((slot_of p).row κs)
      lawful (as_is (shared j ok)) = shr_slice_Lawful 𝓛 (named j) (lft_at n j ok κs) u8
      lawful (lent j ok) = mut_slice_Lawful 𝓛 (named j) (lft_at n j ok κs) u8
      lawful (as_is count) = uint_Lawful 𝓛 w64
      lawful (as_is content) = struct.lawful Record·.the_type Record'.the_laws 𝓛

  -- ---- at exit
  abbrev said : (s : Slot n) (k : Kept) → Stay s k
  said s k = record { fit = λ κs x f. Unit {0}; has = λ κs x f vs. left ((s.row κs).exit k) x f }

  abbrev pub said_all : (ss : List (Slot n)) (ks : Kepts ss) → Stays ss ks
  said_all [] ks = tt
  said_all (s ∷ ss) ks = (said s ks.0, said_all ss ks.1)

  pub fit : (κs : Lfts n) (ss : List (Slot n)) (ks : Kepts ss) (a : Denots (types_at ss κs)) (ws : Fins κs ss ks a) → fits_of κs ss ks (said_all ss ks) a ws
  fit κs [] ks a ws = tt
  fit κs (s ∷ ss) ks a ws = (tt, fit κs ss ks.1 a.1 ws.1)

  pub had : (κs : Lfts n) (ss : List (Slot n)) (ks : Kepts ss) (a : Denots (types_at ss κs)) (ws : Fins κs ss ks a) (vss : Valss (types_at ss κs)) → lasts_of κs ss ks a ws ≡ has_of κs ss ks (said_all ss ks) a ws vss
  had κs [] ks a ws vss = refl
  had κs (s ∷ ss) ks a ws vss = ap (λ (P : Fml). fsep (left ((s.row κs).exit ks.0) a.0 ws.0) P) (had κs ss ks.1 a.1 ws.1 vss.1)

module _ {M : Type 1} {𝓤 : Ura M} (𝓛 : Logic 𝓤) where
  go_said : (n : ℕ) (s : Slot n) (k : Kept) → Goes 𝓛 n s k (said s k)
  go_said n s k κs x f vs fits = 𝓛.laws.⇛_intro (sem 𝓛 (left ((s.row κs).exit k) x f))

  pub go_said_all : (n : ℕ) (ss : List (Slot n)) (ks : Kepts ss) → AllGo 𝓛 n ss ks (said_all ss ks)
  go_said_all n [] ks = tt
  go_said_all n (s ∷ ss) ks = (go_said n s ks.0, go_said_all n ss ks.1)
