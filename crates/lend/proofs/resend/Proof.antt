-- `lend::resend` meets its contract: it hands the number, the memory and the buffer on to `link::resend`.
use mathlib.Core.Path.{refl}
use mathlib.Core.List.{List, [], ◌∷◌}
use contract.Running.{tables, tables_of}
use denote.Triple.Spec.{triple_of}
use denote.Triple.Table.{entered}
use Rattle.lend.proofs.Values.{of_head}
use Rattle.lend.proofs.Passing.{Passed, as_is, lent, shared, count}
use Rattle.lend.proofs.Lent.{vals, meets}
use Rattle.link.proofs.resend.Symbol.{name as #core}
use Rattle.link.proofs.resend.Met as core_thm
use Rattle.lend.specs.contracts.resend.Key.{name as #f}
use Rattle.lend.specs.contracts.resend as f
use Rattle.lend.proofs.resend.Statement as stated
use Rattle.lend.proofs.resend.Code as code

abbrev passed : List (Passed 6)
passed = as_is count ∷ as_is (shared 1 tt) ∷ as_is (shared 2 tt) ∷ as_is (shared 3 tt) ∷ as_is (shared 4 tt) ∷ lent 5 tt ∷ []

pub resend_spec : {M : Type 1} → stated.statement M
unfolding tables_of
resend_spec 𝓤 𝓛 𝓜 𝓡 wired =
    entered 𝓤 𝓛.H (triple_of 𝓛 f.signature (f.spec 𝓛 𝓜.mem 𝓡.returns))
    (tables 𝓤 𝓛.H 𝓜 𝓡 𝓡.env).C (tables 𝓤 𝓛.H 𝓜 𝓡 𝓡.env).Λ #f code.function (code.unfolded 𝓤 𝓛.H 𝓜 𝓡 wired)
    (meets passed 𝓛 (f.clauses 𝓛 𝓜.mem 𝓡.returns) #core (tables_of 𝓤 𝓛.H 𝓜 (tables 𝓤 𝓛.H 𝓜 𝓡 𝓡.env)) (refl, refl, refl, refl, λ κs a. (refl, refl, λ u w. (refl, refl)))
    (λ κs qs a g. core_thm.met 𝓤 𝓛 𝓜 𝓡 (code.calls-link::resend 𝓡.env wired)
    ((κs.1, qs.1, tt, (a.0.now, a.1), (of_head a.0.now ∷ [], vals passed κs a)), tt)))
