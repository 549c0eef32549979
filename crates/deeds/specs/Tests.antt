-- What the tests of Deeds tell.
use Rattle.std.specs.Prelude.{◌≡◌, refl, true, not, ◌&&◌}
use Rattle.std.proofs.lemmas.Bool.{false≢true}
use Rattle.scan.specs.Bools.{and_l, and_r}
use Rattle.places.specs.Bytes.{same, same_is}
use Rattle.flights.specs.Flight.{Status, filed, active}
use Rattle.deeds.specs.Deeds.{Key, same_key, is_filed}

-- keys that are the same are one
pub same_key_lem : (a b : Key) → same_key a b ≡ true → a ≡ b
same_key_lem a b e =
    let x = same a.aircraft b.aircraft in
    let y = same a.departure b.departure in
    let z = same a.destination b.destination in
    let t = and_l (x && y) z e in
    let p = (same_is a.aircraft b.aircraft).yes (and_l x y t) in
    let q = (same_is a.departure b.departure).yes (and_r x y t) in
    let r = (same_is a.destination b.destination).yes (and_r (x && y) z e) in
    λ k. record { aircraft = p k; departure = q k; destination = r k }

-- a flight that is not filed is active
pub not_filed : (s : Status) → not (is_filed s) ≡ true → s ≡ active
unfolding is_filed
not_filed filed e = absurd (false≢true e)
not_filed active e = refl
