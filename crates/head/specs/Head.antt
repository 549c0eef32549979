-- Numbers, and the head of a link, by document 01's "Rules of an end".
use Rattle.std.specs.Prelude.{◌≡◌, cond, ℕ, ◌+◌, ◌-◌, ◌%◌, ◌≤◌, ◌<◌, eqb, leb}
use Rattle.std.proofs.Common.{eq-eqb, ne_eqb, le-leb}
use Rattle.std.proofs.lemmas.Bool.{lt-leb}
use Rattle.head.specs.declared.Head.{Head}
use Rattle.head.specs.declared.Standing.{Standing}
use Rattle.head.specs.declared.Standing.TheVariants.{New, Old, Stale}
use Rattle.head.specs.declared.Given.{Given}

-- numbers run 000 to 999 and round again; one above 999 counts by its last three digits
abbrev pub after : ℕ → ℕ
after n = (n % 1000 + 1) % 1000

-- receiving number n with highest h: how far n lies past h
abbrev pub past : ℕ → ℕ → ℕ
past h n = (n % 1000 + 1000 - h % 1000) % 1000

-- 1 to 400 is new; 0 or 601 to 999 is old; 401 to 600 is stale
unfoldable pub standing_at : ℕ → Standing
standing_at d = cond (eqb d 0) Old (cond (leb d 400) New (cond (leb d 600) Stale Old))

abbrev pub standing : ℕ → ℕ → Standing
standing h n = standing_at (past h n)

-- the next number, with the head that follows
abbrev pub given : Head → Given
given h = record { number = h.next; head = record { ours = h.ours; partners = h.partners; next = after h.next; highest = h.highest } }

-- n is now the highest
abbrev pub received : Head → ℕ → Head
received h n = record { ours = h.ours; partners = h.partners; next = h.next; highest = n }

-- what the tests of the code come to

pub is_same : (d : ℕ) → d ≡ 0 → standing_at d ≡ Old
unfolding standing_at
is_same d e = rw (eq-eqb d 0 e)

pub is_new : (d : ℕ) → (d ≡ 0 → ⊥) → d ≤ 400 → standing_at d ≡ New
unfolding standing_at
is_new d n h = rw (ne_eqb d 0 n, le-leb d 400 h)

pub is_stale : (d : ℕ) → (d ≡ 0 → ⊥) → 400 < d → d ≤ 600 → standing_at d ≡ Stale
unfolding standing_at
is_stale d n l h = rw (ne_eqb d 0 n, lt-leb d 400 l, le-leb d 600 h)

pub is_old_lem : (d : ℕ) → (d ≡ 0 → ⊥) → 400 < d → 600 < d → standing_at d ≡ Old
unfolding standing_at
is_old_lem d n l h = rw (ne_eqb d 0 n, lt-leb d 400 l, lt-leb d 600 h)
