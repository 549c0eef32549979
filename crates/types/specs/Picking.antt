-- The ten messages as arms, picked by the three letters of the type.
use Rattle.std.specs.Prelude.{◌≡◌, ◌⊎◌, refl, ℕ, ◌+◌, ◌*◌, ◌≤◌, ◌<◌, length, get_or, take, true}
use Rattle.std.proofs.Common.{sym, ap, ◌∙◌, inl, inr, arith, length-take}
use mathlib.Core.List.{List, [], ◌∷◌, head-eq_of_cons-eq}
use Rattle.scan.specs.Grammar.{G}
use Rattle.scan.specs.Scanner.{scan_at}
use Rattle.types.specs.Messages.{fpl, cpl, est, chg, cnl, rti, rta, rla, lam, lrm, message}
use Rattle.types.specs.Scanned.{Scanned, scanned_by, stopped_at, told, told_stopped}
use Rattle.types.specs.Arms.{Arm, led_lit, led_seq, alt_of, keys_of, Misses, all_miss, missed, picked, once, arm_of}

unfoldable pub fpl_arm : Arm
unfolding fpl
fpl_arm = record { a = 70; b = 80; c = 76; g = fpl; led = led_seq (led_seq led_lit) }

unfoldable pub cpl_arm : Arm
unfolding cpl
cpl_arm = record { a = 67; b = 80; c = 76; g = cpl; led = led_seq (led_seq led_lit) }

unfoldable pub est_arm : Arm
unfolding est
est_arm = record { a = 69; b = 83; c = 84; g = est; led = led_seq (led_seq (led_seq led_lit)) }

unfoldable pub chg_arm : Arm
unfolding chg
chg_arm = record { a = 67; b = 72; c = 71; g = chg; led = led_seq (led_seq (led_seq led_lit)) }

unfoldable pub cnl_arm : Arm
unfolding cnl
cnl_arm = record { a = 67; b = 78; c = 76; g = cnl; led = led_seq (led_seq (led_seq led_lit)) }

unfoldable pub rti_arm : Arm
unfolding rti
rti_arm = record { a = 82; b = 84; c = 73; g = rti; led = led_seq (led_seq (led_seq led_lit)) }

unfoldable pub rta_arm : Arm
unfolding rta
rta_arm = record { a = 82; b = 84; c = 65; g = rta; led = led_seq (led_seq (led_seq led_lit)) }

unfoldable pub rla_arm : Arm
unfolding rla
rla_arm = record { a = 82; b = 76; c = 65; g = rla; led = led_seq (led_seq (led_seq led_lit)) }

unfoldable pub lam_arm : Arm
unfolding lam
lam_arm = record { a = 76; b = 65; c = 77; g = lam; led = led_seq (led_seq (led_seq led_lit)) }

unfoldable pub lrm_arm : Arm
unfolding lrm
lrm_arm = record { a = 76; b = 82; c = 77; g = lrm; led = led_seq (led_seq (led_seq led_lit)) }

unfoldable pub other_arms : List Arm
other_arms = cpl_arm ∷ est_arm ∷ chg_arm ∷ cnl_arm ∷ rti_arm ∷ rta_arm ∷ rla_arm ∷ lam_arm ∷ lrm_arm ∷ []

message_arms : alt_of fpl_arm other_arms ≡ message
unfolding fpl_arm cpl_arm est_arm chg_arm cnl_arm rti_arm rta_arm rla_arm lam_arm lrm_arm other_arms message
message_arms = refl

-- three letters as one number
abbrev pub letters_as : ℕ → ℕ → ℕ → ℕ
letters_as a b c = a * 65536 + b * 256 + c

-- the three letters of a text's type
abbrev pub letters_of : List ℕ → ℕ
letters_of s = letters_as (get_or s 1 0) (get_or s 2 0) (get_or s 3 0)

-- the first four bytes
take4 : (s : List ℕ) → 4 ≤ length s → take 4 s ≡ get_or s 0 0 ∷ get_or s 1 0 ∷ get_or s 2 0 ∷ get_or s 3 0 ∷ []
take4 [] h = absurd (omega arith)
take4 (a ∷ []) h = absurd (omega arith)
take4 (a ∷ b ∷ []) h = absurd (omega arith)
take4 (a ∷ b ∷ c ∷ []) h = absurd (omega arith)
take4 (a ∷ b ∷ c ∷ d ∷ s) h = refl

pub key_letters : (s : List ℕ) (a b c : ℕ) → 4 ≤ length s → 40 ∷ a ∷ b ∷ c ∷ [] ≡ take 4 s → letters_of s ≡ a * 65536 + b * 256 + c
key_letters s a b c h e =
    let k : 40 ∷ a ∷ b ∷ c ∷ [] ≡ get_or s 0 0 ∷ get_or s 1 0 ∷ get_or s 2 0 ∷ get_or s 3 0 ∷ [] = e ∙ take4 s h in
    let x : a ≡ get_or s 1 0 = cc in
    let y : b ≡ get_or s 2 0 = cc in
    let z : c ≡ get_or s 3 0 = cc in
    omega arith

-- what is known of a text that can be of some type
pub record Typed (s : List ℕ) : Type 0 where
  pub long : 4 ≤ length s
  pub opens : get_or s 0 0 ≡ 40
  pub one : get_or s 1 0 < 256
  pub two : get_or s 2 0 < 256
  pub three : get_or s 3 0 < 256

pub typed : (s : List ℕ) → 4 ≤ length s → get_or s 0 0 ≡ 40 → get_or s 1 0 < 256 → get_or s 2 0 < 256 → get_or s 3 0 < 256 → Typed s
typed s h o a b c = record { long = h; opens = o; one = a; two = b; three = c }

-- a text that begins with "(" and three letters is scanned by g
abbrev pub Picks : ℕ → ℕ → ℕ → G → Type 0
Picks a b c g = (s : List ℕ) (q : Scanned) → 4 ≤ length s → get_or s 0 0 ≡ 40 → get_or s 1 0 ≡ a → get_or s 2 0 ≡ b → get_or s 3 0 ≡ c → q ≡ scanned_by g s → q ≡ scanned_by message s

-- the message whose letters it has scans it
pub picked_at : (a b c : ℕ) → once a b c fpl_arm other_arms ≡ true → Picks a b c (arm_of a b c fpl_arm other_arms)
unfolding scanned_by
picked_at a b c o s q h p x y z e = e ∙ ap told (picked a b c s (take4 s h ∙ rw (p, x, y, z)) fpl_arm other_arms o) ∙ ap {B = Scanned} (λ (g : G). scanned_by g s) message_arms

-- the same, its letters given as one number
pub picked_by : (a b c : ℕ) → a < 256 → b < 256 → c < 256 → once a b c fpl_arm other_arms ≡ true → (s : List ℕ) (q : Scanned) → Typed s → letters_of s ≡ letters_as a b c → q ≡ scanned_by (arm_of a b c fpl_arm other_arms) s → q ≡ scanned_by message s
picked_by a b c k l m o s q t w e =
    let h = t.one in
    let i = t.two in
    let j = t.three in
    picked_at a b c o s q t.long t.opens (omega arith) (omega arith) (omega arith) e

-- and so each letter by itself
picked_on : (a b c : ℕ) → a < 256 → b < 256 → c < 256 → once a b c fpl_arm other_arms ≡ true → Picks a b c (arm_of a b c fpl_arm other_arms)
picked_on a b c k l m o s q h p x y z e = picked_by a b c k l m o s q (typed s h p (omega (arith, x, k)) (omega (arith, y, l)) (omega (arith, z, m))) (rw (x, y, z)) e

-- `unfolding arms` opens the arm of each message
unfoldable pub arms : Unit {0}
unfolding fpl_arm cpl_arm est_arm chg_arm cnl_arm rti_arm rta_arm rla_arm lam_arm lrm_arm other_arms
arms = tt

pub picks_fpl : Picks 70 80 76 fpl
unfolding arms
picks_fpl = picked_on 70 80 76 (omega arith) (omega arith) (omega arith) refl

pub picks_cpl : Picks 67 80 76 cpl
unfolding arms
picks_cpl = picked_on 67 80 76 (omega arith) (omega arith) (omega arith) refl

pub picks_est : Picks 69 83 84 est
unfolding arms
picks_est = picked_on 69 83 84 (omega arith) (omega arith) (omega arith) refl

pub picks_chg : Picks 67 72 71 chg
unfolding arms
picks_chg = picked_on 67 72 71 (omega arith) (omega arith) (omega arith) refl

pub picks_cnl : Picks 67 78 76 cnl
unfolding arms
picks_cnl = picked_on 67 78 76 (omega arith) (omega arith) (omega arith) refl

pub picks_rti : Picks 82 84 73 rti
unfolding arms
picks_rti = picked_on 82 84 73 (omega arith) (omega arith) (omega arith) refl

pub picks_rta : Picks 82 84 65 rta
unfolding arms
picks_rta = picked_on 82 84 65 (omega arith) (omega arith) (omega arith) refl

pub picks_rla : Picks 82 76 65 rla
unfolding arms
picks_rla = picked_on 82 76 65 (omega arith) (omega arith) (omega arith) refl

pub picks_lam : Picks 76 65 77 lam
unfolding arms
picks_lam = picked_on 76 65 77 (omega arith) (omega arith) (omega arith) refl

pub picks_lrm : Picks 76 82 77 lrm
unfolding arms
picks_lrm = picked_on 76 82 77 (omega arith) (omega arith) (omega arith) refl

pub ruleset picks = (picks_fpl, picks_cpl, picks_est, picks_chg, picks_cnl, picks_rti, picks_rta, picks_rla, picks_lam, picks_lrm)

-- no type begins so
abbrev pub unknown_of : List ℕ → Scanned
unknown_of s = stopped_at (scan_at (keys_of fpl_arm other_arms) s 0)

pub unknown_missed : (s : List ℕ) (q : Scanned) → Misses (take 4 s) fpl_arm other_arms → q ≡ unknown_of s → q ≡ scanned_by message s
unfolding scanned_by
unknown_missed s q m e = e ∙ told_stopped (scan_at (keys_of fpl_arm other_arms) s 0) ∙ ap told (missed s fpl_arm other_arms m) ∙ ap {B = Scanned} (λ (g : G). scanned_by g s) message_arms

pub short_misses : (s : List ℕ) → length s < 4 → Misses (take 4 s) fpl_arm other_arms
short_misses s h = all_miss (take 4 s) (λ a b c e. omega (arith, ap length e, length-take 4 s)) fpl_arm other_arms

pub shut_misses : (s : List ℕ) → 4 ≤ length s → (get_or s 0 0 ≡ 40 → ⊥) → Misses (take 4 s) fpl_arm other_arms
shut_misses s h n = all_miss (take 4 s) (λ a b c e. n (sym (head-eq_of_cons-eq (e ∙ take4 s h)))) fpl_arm other_arms

pub strange_misses : (s : List ℕ) → 4 ≤ length s → (letters_of s ≡ 4608076 → ⊥) → (letters_of s ≡ 4411468 → ⊥) → (letters_of s ≡ 4543316 → ⊥) → (letters_of s ≡ 4409415 → ⊥) → (letters_of s ≡ 4410956 → ⊥) → (letters_of s ≡ 5395529 → ⊥) → (letters_of s ≡ 5395521 → ⊥) → (letters_of s ≡ 5393473 → ⊥) → (letters_of s ≡ 4997453 → ⊥) → (letters_of s ≡ 5001805 → ⊥) → Misses (take 4 s) fpl_arm other_arms
unfolding fpl_arm cpl_arm est_arm chg_arm cnl_arm rti_arm rta_arm rla_arm lam_arm lrm_arm other_arms
strange_misses s h n0 n1 n2 n3 n4 n5 n6 n7 n8 n9 =
    ((λ e. n0 (key_letters s 70 80 76 h e)), ((λ e. n1 (key_letters s 67 80 76 h e)), ((λ e. n2 (key_letters s 69 83 84 h e)), ((λ e. n3 (key_letters s 67 72 71 h e)), ((λ e. n4 (key_letters s 67 78 76 h e)), ((λ e. n5 (key_letters s 82 84 73 h e)), ((λ e. n6 (key_letters s 82 84 65 h e)), ((λ e. n7 (key_letters s 82 76 65 h e)), ((λ e. n8 (key_letters s 76 65 77 h e)), (λ e. n9 (key_letters s 76 82 77 h e)))))))))))

-- the letters of a type
abbrev pub Known : ℕ → ℕ → ℕ → Type 0
Known a b c =
    ((a ≡ 70) × (b ≡ 80) × (c ≡ 76))
    ⊎ ((a ≡ 67) × (b ≡ 80) × (c ≡ 76))
    ⊎ ((a ≡ 69) × (b ≡ 83) × (c ≡ 84))
    ⊎ ((a ≡ 67) × (b ≡ 72) × (c ≡ 71))
    ⊎ ((a ≡ 67) × (b ≡ 78) × (c ≡ 76))
    ⊎ ((a ≡ 82) × (b ≡ 84) × (c ≡ 73))
    ⊎ ((a ≡ 82) × (b ≡ 84) × (c ≡ 65))
    ⊎ ((a ≡ 82) × (b ≡ 76) × (c ≡ 65))
    ⊎ ((a ≡ 76) × (b ≡ 65) × (c ≡ 77))
    ⊎ ((a ≡ 76) × (b ≡ 82) × (c ≡ 77))

-- a text that begins with none of them is scanned as no type's
pub strange : (s : List ℕ) (q : Scanned) → (4 ≤ length s → get_or s 0 0 ≡ 40 → Known (get_or s 1 0) (get_or s 2 0) (get_or s 3 0) → ⊥) → q ≡ unknown_of s → q ≡ scanned_by message s
unfolding arms
strange s q n e = unknown_missed s q misses e
  where
    not : (a b c : ℕ) → Known a b c → 40 ∷ a ∷ b ∷ c ∷ [] ≡ take 4 s → ⊥
    not a b c k m =
        let h : 4 ≤ length s = omega (arith, ap length m, length-take 4 s) in
        let t : 40 ∷ a ∷ b ∷ c ∷ [] ≡ get_or s 0 0 ∷ get_or s 1 0 ∷ get_or s 2 0 ∷ get_or s 3 0 ∷ [] = m ∙ take4 s h in
        let p : get_or s 0 0 ≡ 40 = cc in
        let x : get_or s 1 0 ≡ a = cc in
        let y : get_or s 2 0 ≡ b = cc in
        let z : get_or s 3 0 ≡ c = cc in
        n h p (rw (x, y, z) k)

    misses : Misses (take 4 s) fpl_arm other_arms
    misses = (not 70 80 76 (inl (refl, refl, refl)), (not 67 80 76 (inr (inl (refl, refl, refl))), (not 69 83 84 (inr (inr (inl (refl, refl, refl)))), (not 67 72 71 (inr (inr (inr (inl (refl, refl, refl))))), (not 67 78 76 (inr (inr (inr (inr (inl (refl, refl, refl)))))), (not 82 84 73 (inr (inr (inr (inr (inr (inl (refl, refl, refl))))))), (not 82 84 65 (inr (inr (inr (inr (inr (inr (inl (refl, refl, refl)))))))), (not 82 76 65 (inr (inr (inr (inr (inr (inr (inr (inl (refl, refl, refl))))))))), (not 76 65 77 (inr (inr (inr (inr (inr (inr (inr (inr (inl (refl, refl, refl)))))))))), not 76 82 77 (inr (inr (inr (inr (inr (inr (inr (inr (inr (refl, refl, refl)))))))))))))))))))
