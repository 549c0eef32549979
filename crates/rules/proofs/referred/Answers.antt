-- `rules::referred` meets its contract.
use borrow.Author.Rules.{rules}
use mathlib.Core.Path.{sym, ap, ◌∙◌}
use mathlib.Core.Bool.{◌||◌}
use Rattle.message.specs.declared.Kind.{Kind}
use Rattle.deeds.specs.Message.{message_of}
use Rattle.rules.specs.Receiving.{referred}
use Rattle.rules.specs.Laws.{reference_inside}
use Rattle.rules.proofs.referred.Goals as goal

pub enum_told-1 : goal.enum_told-1
unfolding referred
enum_told-1 c = search rules

pub enum_told-in-Fpl : goal.enum_told-in-Fpl
unfolding referred
enum_told-in-Fpl c = search rules

pub enum_told-in-Cpl : goal.enum_told-in-Cpl
unfolding referred
enum_told-in-Cpl c = search rules

pub enum_told-in-Est : goal.enum_told-in-Est
unfolding referred
enum_told-in-Est c = search rules

pub has_units-requires : goal.has_units-requires
unfolding referred
has_units-requires c = let a = c.args in reference_inside a.w.now a.r c.requires

pub enum_told-in-Chg : goal.enum_told-in-Chg
unfolding referred
enum_told-in-Chg c = search rules

pub has_units-requires-in-Chg : goal.has_units-requires-in-Chg
unfolding referred
has_units-requires-in-Chg c = let a = c.args in reference_inside a.w.now a.r c.requires

pub enum_told-in-Cnl : goal.enum_told-in-Cnl
unfolding referred
enum_told-in-Cnl c = search rules

pub has_units-requires-in-Cnl : goal.has_units-requires-in-Cnl
unfolding referred
has_units-requires-in-Cnl c = let a = c.args in reference_inside a.w.now a.r c.requires

pub enum_told-in-Rti : goal.enum_told-in-Rti
unfolding referred
enum_told-in-Rti c = search rules

pub has_units-requires-in-Rti : goal.has_units-requires-in-Rti
unfolding referred
has_units-requires-in-Rti c = let a = c.args in reference_inside a.w.now a.r c.requires

pub enum_told-in-Rta : goal.enum_told-in-Rta
unfolding referred
enum_told-in-Rta c = search rules

pub has_units-requires-in-Rta : goal.has_units-requires-in-Rta
unfolding referred
has_units-requires-in-Rta c = let a = c.args in reference_inside a.w.now a.r c.requires

pub has_units-requires-in-Rta-2 : goal.has_units-requires-in-Rta-2
unfolding referred
has_units-requires-in-Rta-2 c = let a = c.args in reference_inside a.w.now a.r c.requires

pub enum_told-in-Rla : goal.enum_told-in-Rla
unfolding referred
enum_told-in-Rla c = search rules

pub answer_refers-requires : goal.answer_refers-requires
unfolding referred
answer_refers-requires c = c.requires

pub enum_told-in-Lam : goal.enum_told-in-Lam
unfolding referred
enum_told-in-Lam c = search rules

pub answer_refers-requires-in-Lam : goal.answer_refers-requires-in-Lam
unfolding referred
answer_refers-requires-in-Lam c = c.requires

pub enum_told-in-Lrm : goal.enum_told-in-Lrm
unfolding referred
enum_told-in-Lrm c = search rules

pub answer_refers-requires-in-Lrm : goal.answer_refers-requires-in-Lrm
unfolding referred
answer_refers-requires-in-Lrm c = c.requires

pub returns-in-None : goal.returns-in-None
unfolding referred
returns-in-None c = let a = c.args in sym (ap (λ (k : Kind). referred k a.h (message_of a.w.now a.r)) c.in-None.is)

pub returns-in-Fpl : goal.returns-in-Fpl
unfolding referred
returns-in-Fpl c = let a = c.args in sym (ap (λ (k : Kind). referred k a.h (message_of a.w.now a.r)) c.in-Fpl.is)

pub returns-in-Cpl : goal.returns-in-Cpl
unfolding referred
returns-in-Cpl c = let a = c.args in sym (ap (λ (k : Kind). referred k a.h (message_of a.w.now a.r)) c.in-Cpl.is)

pub returns-in-Est : goal.returns-in-Est
unfolding referred
returns-in-Est c = let a = c.args in c.has_units.ensures ∙ sym (ap (λ (k : Kind). referred k a.h (message_of a.w.now a.r)) c.in-Est.is)

pub returns-in-Chg : goal.returns-in-Chg
unfolding referred
returns-in-Chg c = let a = c.args in c.has_units-in-Chg.ensures ∙ sym (ap (λ (k : Kind). referred k a.h (message_of a.w.now a.r)) c.in-Chg.is)

pub returns-in-Cnl : goal.returns-in-Cnl
unfolding referred
returns-in-Cnl c = let a = c.args in c.has_units-in-Cnl.ensures ∙ sym (ap (λ (k : Kind). referred k a.h (message_of a.w.now a.r)) c.in-Cnl.is)

pub returns-in-Rti : goal.returns-in-Rti
unfolding referred
returns-in-Rti c = let a = c.args in c.has_units-in-Rti.ensures ∙ sym (ap (λ (k : Kind). referred k a.h (message_of a.w.now a.r)) c.in-Rti.is)

pub returns-in-Rta : goal.returns-in-Rta
unfolding referred
returns-in-Rta c = let a = c.args in (λ k. c.has_units-in-Rta.ensures k || c.has_units-in-Rta-2.ensures k) ∙ sym (ap (λ (k : Kind). referred k a.h (message_of a.w.now a.r)) c.in-Rta.is)

pub returns-in-Rla : goal.returns-in-Rla
unfolding referred
returns-in-Rla c = let a = c.args in c.answer_refers.ensures ∙ sym (ap (λ (k : Kind). referred k a.h (message_of a.w.now a.r)) c.in-Rla.is)

pub returns-in-Lam : goal.returns-in-Lam
unfolding referred
returns-in-Lam c = let a = c.args in c.answer_refers-in-Lam.ensures ∙ sym (ap (λ (k : Kind). referred k a.h (message_of a.w.now a.r)) c.in-Lam.is)

pub returns-in-Lrm : goal.returns-in-Lrm
unfolding referred
returns-in-Lrm c = let a = c.args in c.answer_refers-in-Lrm.ensures ∙ sym (ap (λ (k : Kind). referred k a.h (message_of a.w.now a.r)) c.in-Lrm.is)
