-- THE MACHINE VALUES of a head, an answer, a record and an outcome. A walk moves them whole and looks into none but an outcome,
-- which has an answer and a head: so they stand folded here, and each step of a walk is small.
--     of_head, of_answer, of_record               the values
--     head_told, record_told, outcome_told     the value of a head (a record, an outcome) is this one
--     head_in, answer_in                       the fields of an outcome are the values of a head and of an answer
--     head_made, answer_made                   whoever has such a value owns what its type owns
--     head_typed, answer_typed, outcome_typed     it is a value of its type
-- The last line assumes `Logic`.
use mathlib.Core.Path.{◌≡◌, ap}
use mathlib.Core.List.{[], ◌∷◌}
use seplogic.Ra.Ura.{Ura}
use lib.Dec.{T as Holds}
use mir.Val.{Val, WT, has_ty, vstruct, of_list}
use types.Logic.{Logic}
use denote.Laws.{Is, Tells, Makes}
use denote.Steps.{only}
use denote.Struct.Laws as struct
use denote.Enum.Laws as enum
use Rattle.message.specs.declared.Record.{Record}
use Rattle.message.specs.contracts.Record as Record·
use Rattle.message.proofs.Record.TheLaws as Record'
use Rattle.head.specs.declared.Head.{Head}
use Rattle.head.specs.contracts.Head as Head·
use Rattle.head.proofs.Head.TheLaws as Head'
use Rattle.rules.specs.declared.Answer.{Answer}
use Rattle.rules.specs.declared.Outcome.{Outcome}
use Rattle.rules.specs.contracts.Answer as Answer·
use Rattle.rules.proofs.Answer.TheLaws as Answer'
use Rattle.rules.specs.contracts.Outcome as Outcome·
use Rattle.rules.proofs.Outcome.TheLaws as Outcome'

pub of_head : Head → Val
of_head x = struct.val Head·.the_type Head'.the_laws x

pub of_answer : Answer → Val
of_answer x = enum.val Answer·.the_type Answer'.the_laws x

pub of_record : Record → Val
of_record x = struct.val Record·.the_type Record'.the_laws x

pub head_told : Tells Head·.the_row (Is Head·.the_row) (λ x. of_head x ∷ [])
unfolding of_head
head_told = struct.tells Head·.the_type Head'.the_laws

pub record_told : Tells Record·.the_row (Is Record·.the_row) (λ x. of_record x ∷ [])
unfolding of_record
record_told = struct.tells Record·.the_type Record'.the_laws

pub outcome_told : (r : Outcome) (v : Val) → Is Outcome·.the_row r (v ∷ []) → v ≡ vstruct (of_list (of_answer r.answer ∷ of_head r.head ∷ []))
unfolding of_head of_answer
outcome_told r v is = ap only (struct.tells Outcome·.the_type Outcome'.the_laws r _ is)

pub head_in : (r : Outcome) (v : Val) → Is Outcome·.the_row r (v ∷ []) → Is Head·.the_row r.head (of_head r.head ∷ [])
unfolding of_head
head_in r v is = (struct.owed Outcome·.the_type Outcome'.the_laws r _ is).1.0

pub answer_in : (r : Outcome) (v : Val) → Is Outcome·.the_row r (v ∷ []) → Is Answer·.the_row r.answer (of_answer r.answer ∷ [])
unfolding of_answer
answer_in r v is = (struct.owed Outcome·.the_type Outcome'.the_laws r _ is).0

module _ {M : Type 1} {𝓤 : Ura M} (𝓛 : Logic 𝓤) where
  pub head_made : Makes 𝓛 Head·.the_row (Is Head·.the_row)
  head_made = struct.makes Head·.the_type Head'.the_plain 𝓛

  pub answer_made : Makes 𝓛 Answer·.the_row (Is Answer·.the_row)
  answer_made = enum.makes Answer·.the_type Answer'.the_plain 𝓛

module _ {M : Type 1} {𝓤 : Ura M} (𝓛 : Logic 𝓤) where
  pub head_typed : (x : Head) (v : Val) → Is Head·.the_row x (v ∷ []) → Holds (has_ty Head'.mir v) × WT v
  head_typed x v is = ((struct.lawful Head·.the_type Head'.the_laws 𝓛).typed x _ is).0

  pub answer_typed : (x : Answer) (v : Val) → Is Answer·.the_row x (v ∷ []) → Holds (has_ty Answer'.mir v) × WT v
  answer_typed x v is = ((enum.lawful Answer·.the_type Answer'.the_laws 𝓛 tt).typed x _ is).0

  pub outcome_typed : (x : Outcome) (v : Val) → Is Outcome·.the_row x (v ∷ []) → Holds (has_ty Outcome'.mir v) × WT v
  outcome_typed x v is = ((struct.lawful Outcome·.the_type Outcome'.the_laws 𝓛).typed x _ is).0
