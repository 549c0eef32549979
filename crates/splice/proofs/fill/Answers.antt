use Rattle.std.proofs.Common.{◌≡◌, ℕ, ◌+◌, length, replicate, sym, ap, ◌∙◌, arith, length-drop, length-take-le}
use Rattle.std.proofs.lemmas.List.{length-replicate}
use Rattle.std.proofs.lemmas.Slice.{put_mid-paste}
use Rattle.splice.specs.Splicing.{paste_all}
use Rattle.splice.proofs.fill.Goals as goal

pub returns : goal.returns
returns c =
    let a = c.args in
    let e : a.n ≡ length (replicate a.n a.v) = sym (length-replicate a.n a.v) in
    let h : c.fill.new.self ≡ replicate a.n a.v =
    c.fill.ensures.after (λ y e. e) ∙ ap (λ (k : ℕ). replicate k a.v) (length-take-le _ _ (omega (arith, length-drop a.at a.d.now)) ∙ omega arith) in
    record { bytes = put_mid-paste _ _ _ _ _ _ h (omega arith) e ∙ paste_all _ _ _ _ e; place = ap (λ (k : ℕ). a.at + k) e }
