-- `deeds::deed_of` meets its contract.
use borrow.Author.Rules.{rules}
use mathlib.Core.Path.{sym, ap, ◌∙◌}
use Rattle.message.specs.declared.Kind.{Kind}
use Rattle.deeds.specs.Message.{message_of}
use Rattle.deeds.specs.Deeds.{deed_by}
use Rattle.deeds.proofs.deed_of.Goals as goal

pub enum_told-1 : goal.enum_told-1
unfolding deed_by
enum_told-1 c = search rules

pub enum_told-in-Fpl : goal.enum_told-in-Fpl
unfolding deed_by
enum_told-in-Fpl c = search rules

pub enum_told-in-Cpl : goal.enum_told-in-Cpl
unfolding deed_by
enum_told-in-Cpl c = search rules

pub enum_told-in-Est : goal.enum_told-in-Est
unfolding deed_by
enum_told-in-Est c = search rules

pub enum_told-in-Chg : goal.enum_told-in-Chg
unfolding deed_by
enum_told-in-Chg c = search rules

pub enum_told-in-Cnl : goal.enum_told-in-Cnl
unfolding deed_by
enum_told-in-Cnl c = search rules

pub enum_told-in-Rti : goal.enum_told-in-Rti
unfolding deed_by
enum_told-in-Rti c = search rules

pub enum_told-in-Rta : goal.enum_told-in-Rta
unfolding deed_by
enum_told-in-Rta c = search rules

pub rta_deed-requires : goal.rta_deed-requires
unfolding deed_by
rta_deed-requires c = c.requires

pub enum_told-in-Rla : goal.enum_told-in-Rla
unfolding deed_by
enum_told-in-Rla c = search rules

pub enum_told-in-Lam : goal.enum_told-in-Lam
unfolding deed_by
enum_told-in-Lam c = search rules

pub enum_told-in-Lrm : goal.enum_told-in-Lrm
unfolding deed_by
enum_told-in-Lrm c = search rules

pub returns-in-None : goal.returns-in-None
unfolding deed_by
returns-in-None c = let a = c.args in sym (ap (λ (k : Kind). deed_by k (message_of a.w.now a.r)) c.in-None.is)

pub returns-in-Fpl : goal.returns-in-Fpl
unfolding deed_by
returns-in-Fpl c = let a = c.args in sym (ap (λ (k : Kind). deed_by k (message_of a.w.now a.r)) c.in-Fpl.is)

pub returns-in-Cpl : goal.returns-in-Cpl
unfolding deed_by
returns-in-Cpl c = let a = c.args in sym (ap (λ (k : Kind). deed_by k (message_of a.w.now a.r)) c.in-Cpl.is)

pub returns-in-Est : goal.returns-in-Est
unfolding deed_by
returns-in-Est c = let a = c.args in sym (ap (λ (k : Kind). deed_by k (message_of a.w.now a.r)) c.in-Est.is)

pub returns-in-Chg : goal.returns-in-Chg
unfolding deed_by
returns-in-Chg c = let a = c.args in sym (ap (λ (k : Kind). deed_by k (message_of a.w.now a.r)) c.in-Chg.is)

pub returns-in-Cnl : goal.returns-in-Cnl
unfolding deed_by
returns-in-Cnl c = let a = c.args in sym (ap (λ (k : Kind). deed_by k (message_of a.w.now a.r)) c.in-Cnl.is)

pub returns-in-Rti : goal.returns-in-Rti
unfolding deed_by
returns-in-Rti c = let a = c.args in sym (ap (λ (k : Kind). deed_by k (message_of a.w.now a.r)) c.in-Rti.is)

pub returns-in-Rta : goal.returns-in-Rta
unfolding deed_by
returns-in-Rta c = let a = c.args in c.rta_deed.ensures ∙ sym (ap (λ (k : Kind). deed_by k (message_of a.w.now a.r)) c.in-Rta.is)

pub returns-in-Rla : goal.returns-in-Rla
unfolding deed_by
returns-in-Rla c = let a = c.args in sym (ap (λ (k : Kind). deed_by k (message_of a.w.now a.r)) c.in-Rla.is)

pub returns-in-Lam : goal.returns-in-Lam
unfolding deed_by
returns-in-Lam c = let a = c.args in sym (ap (λ (k : Kind). deed_by k (message_of a.w.now a.r)) c.in-Lam.is)

pub returns-in-Lrm : goal.returns-in-Lrm
unfolding deed_by
returns-in-Lrm c = let a = c.args in sym (ap (λ (k : Kind). deed_by k (message_of a.w.now a.r)) c.in-Lrm.is)
