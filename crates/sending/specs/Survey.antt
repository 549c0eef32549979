-- WHAT THE UNANSWERED MESSAGES SHOW, for 12, 7 and 11, each read once.
use Rattle.std.specs.Prelude.{◌≡◌, refl, Bool, true, false, List, ℕ, ◌<◌, length}
use Rattle.std.proofs.Common.{sym, ap, ◌∙◌}
use Rattle.std.proofs.lemmas.Bool.{false≢true}
use Rattle.scan.specs.Bools.{Decides}
use Rattle.unanswered.specs.declared.Shown.TheVariants.{Empty, Message}
use Rattle.unanswered.specs.Waiting.{waiting_of, place, FormedAt, ShowsAt, UnansweredFormed}
use Rattle.unanswered.specs.Formed.{empty_at, unanswered_is}
use Rattle.places.specs.Below.{Below}
use Rattle.deeds.specs.Message as d
use Rattle.memory.specs.End.{waiting_in}
use Rattle.rules.specs.Sending.{any_waiting, count_waiting, making, naming}
use Rattle.sending.specs.declared.Seen.{Seen}
use Rattle.sending.specs.declared.Surveyed.{Surveyed}
use Rattle.sending.specs.Asked.{used_with, free_has_none, used_has}
use Rattle.places.specs.Bytes.{free}

-- what is seen of place i, for the message m: nothing more of one that is not well formed
pub record Sees (ours partners : List ℕ) (m : d.Message) (t : List ℕ) (i : ℕ) (x : Seen) : Type 0 where
  pub formed : Decides x.sound (FormedAt ours partners t i)
  pub named : x.sound ≡ true → x.named ≡ used_with (naming m) (place i t)
  pub makes : x.sound ≡ true → x.makes ≡ used_with making (place i t)

-- of all of them: 7 and 11
pub record Counted (m : d.Message) (t : List ℕ) (x : Surveyed) : Type 0 where
  pub named : x.named ≡ any_waiting (naming m) (waiting_in t)
  pub makers : x.makers ≡ count_waiting making (waiting_in t)

-- and 12 before them
pub record Surveys (ours partners : List ℕ) (m : d.Message) (t : List ℕ) (x : Surveyed) : Type 0 where
  pub formed : Decides x.sound (UnansweredFormed ours partners t)
  pub counted : x.sound ≡ true → Counted m t x

refuted : {Q : Type 0} → (Q → ⊥) → Decides false Q
refuted n = record { yes = λ e. absurd (false≢true e); no = λ q. absurd (n q) }

shown : {Q : Type 0} → Q → Decides true Q
shown q = record { yes = λ e. q; no = λ p. refl }

module _ (ours partners : List ℕ) (m : d.Message) (t : List ℕ) where
  module _ (i : ℕ) where
    pub sees_broken : Decides false (FormedAt ours partners t i) → Sees ours partners m t i (record { sound = false; named = false; makes = false })
    sees_broken d = record { formed = d; named = λ e. absurd (false≢true e); makes = λ e. absurd (false≢true e) }

    pub sees_empty : ShowsAt t i Empty → Sees ours partners m t i (record { sound = true; named = false; makes = false })
    sees_empty p =
        let e : free (place i t) ≡ true = ap free p.0 in
        record { formed = empty_at ours partners t i p; named = λ k. free_has_none (naming m) t i e; makes = λ k. free_has_none making t i e }

    pub sees_message : ShowsAt t i Message → Decides true (FormedAt ours partners t i) → (a b : Bool) → a ≡ naming m (waiting_of (place i t)) → b ≡ making (waiting_of (place i t)) → Sees ours partners m t i (record { sound = true; named = a; makes = b })
    sees_message s d a b p q =
        let e : free (place i t) ≡ false = ap free s.0.0 in
        record { formed = d; named = λ k. used_has (naming m) t i e a p; makes = λ k. used_has making t i e b q }

  module _ (a : Bool) (n : ℕ) where
    pub not_surveyed : (UnansweredFormed ours partners t → ⊥) → Surveys ours partners m t (record { sound = false; named = a; makers = n })
    not_surveyed x = record { formed = refuted x; counted = λ e. absurd (false≢true e) }

    -- all of them, where one is not well formed
    pub one_broken : (i : ℕ) (x : Seen) → i < 16 → Sees ours partners m t i x → x.sound ≡ false → Surveys ours partners m t (record { sound = false; named = a; makers = n })
    one_broken i x h s e = not_surveyed (λ f. false≢true (sym e ∙ s.formed.no (f.each i h, f.numbers i h)))

    pub surveyed : length t ≡ 20480 → Below (FormedAt ours partners t) 16 → a ≡ any_waiting (naming m) (waiting_in t) → n ≡ count_waiting making (waiting_in t) → Surveys ours partners m t (record { sound = true; named = a; makers = n })
    surveyed l f p q = record { formed = unanswered_is ours partners t l true (shown f); counted = λ e. record { named = p; makers = q } }
