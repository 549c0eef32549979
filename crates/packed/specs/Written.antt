-- A head that was written over 12 bytes.
use Rattle.std.specs.Prelude.{◌≡◌, refl, List, [], ◌∷◌, ◌++◌, ℕ}
use Rattle.std.proofs.Common.{◌∙◌}
use native.Mathlib.Omega.{arith}
use Rattle.std.proofs.Math.ListN.{length}
use Rattle.head.specs.declared.Head.{Head}
use Rattle.splice.specs.Splice.{Spliced}
use Rattle.splice.specs.Splicing as splicing
use Rattle.packed.specs.Numbers.{bytes_in}
use Rattle.packed.specs.Laid.{Puts, spliced}
use Rattle.packed.specs.Laid as laid
use Rattle.packed.specs.Head.{head_bytes}
use Rattle.splice.specs.Splicing.{over_all}

module _ (h : Head) (m : length h.ours ≡ 4) (n : length h.partners ≡ 4) (b c d e f : List ℕ) (z : length b ≡ 12) where
  pub head_put : {i j k l : ℕ} → Spliced 0 h.ours b c i → Spliced 4 h.partners c d j → Puts 4 (h.next ∷ []) d e k → Puts 5 (h.highest ∷ []) e f l → f ≡ head_bytes h
  unfolding head_bytes
  head_put p q r s =
      let p' : Spliced 0 h.ours b c 4 = record { bytes = p.bytes; place = omega arith } in
      let q' : Spliced 4 h.partners c d 8 = record { bytes = q.bytes; place = omega arith } in
      let pq : Spliced 0 (h.ours ++ h.partners) b d 8 = splicing.then p' q' (omega arith) in
      let x : length d ≡ 12 = splicing.kept_length pq (omega arith) ∙ z in
      let r' : Puts 4 (h.next ∷ []) d e 5 = record { bytes = r.bytes; place = refl; long = r.long } in
      let s' : Puts 5 (h.highest ∷ []) e f 6 = record { bytes = s.bytes; place = refl; long = s.long } in
      let rs : Puts 4 (h.next ∷ h.highest ∷ []) d f 6 = laid.then r' s' (omega arith) in
      let all : Spliced 0 (h.ours ++ h.partners ++ bytes_in (h.next ∷ h.highest ∷ [])) b f 12 = splicing.then pq (spliced rs) (omega arith) in
      over_all _ b f 12 all (omega (arith, all.place))
