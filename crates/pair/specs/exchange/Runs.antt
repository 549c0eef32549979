-- TWO ENDS AS PARTNERS, and the channel between them, which loses, repeats and reorders.
use Rattle.std.specs.Prelude.{List, [], ◌∷◌, ℕ, ◌+◌, ◌%◌, ◌≤◌, ◌<◌}
use Rattle.pair.specs.kinds.Tools.{upd}
use Rattle.pair.specs.kinds.Kinds.{Content}
use Rattle.pair.specs.kinds.Views.{View, Sends, Learns, Hears, Fresh}

-- what an end is asked to send, in order: its i-th message, which carries the number i % 1000
abbrev pub Script : Type 0
Script = ℕ → Content

abbrev pub num : ℕ → ℕ
num i = i % 1000

-- an end, how many messages it has sent, and all the answers that its partner has ever given to its i-th, the newest first
pub record Side : Type 0 where
  pub view : View
  pub len : ℕ
  pub given : ℕ → List ℕ

pub data Mem (x : ℕ) : List ℕ → Type 0 where
  here : {l : List ℕ} → Mem x (x ∷ l)
  there : {y : ℕ} {l : List ℕ} → Mem x l → Mem x (y ∷ l)

-- g, and one more answer x to the message i
abbrev pub more : (ℕ → List ℕ) → ℕ → ℕ → ℕ → List ℕ
more g i x = upd g i (x ∷ g i)

-- a side whose end has changed; one that has sent a message; one whose message i was answered x
abbrev pub become : View → Side → Side
become v X = record { view = v; len = X.len; given = X.given }

abbrev pub grow : View → Side → Side
grow v X = record { view = v; len = X.len + 1; given = X.given }

abbrev pub tell : ℕ → ℕ → Side → Side
tell i x X = record { view = X.view; len = X.len; given = more X.given i x }

-- One step, of the first side's messages: it sends the next; or a copy of its message i arrives, if it has sent fewer than
-- 400 later ones, and is answered x; or a copy of an answer to its message i arrives, under the same bound. A call that refuses
-- changes nothing and is no step
pub data Turn (s : Script) : Side → Side → Side → Side → Type 0 where
  sends : {X Y : Side} {v : View} → Sends (s X.len) X.view v → Turn s X Y (grow v X) Y
  hears : {X Y : Side} {v : View} (i x : ℕ) → i < X.len → X.len ≤ i + 400 → Hears (num i) (s i) x Y.view v → Turn s X Y (tell i x X) (become v Y)
  learns : {X Y : Side} {v : View} (i x : ℕ) → i < X.len → X.len ≤ i + 400 → Mem x (X.given i) → Learns (num i) x X.view v → Turn s X Y (become v X) Y

abbrev pub start : View → Side
start v = record { view = v; len = 0; given = λ i. [] }

-- what two fresh ends can come to; each end's tables have any number of places
pub data Reach (s t : Script) : Side → Side → Type 0 where
  begin : {v w : View} → Fresh v → Fresh w → Reach s t (start v) (start w)
  left : {X Y X' Y' : Side} → Reach s t X Y → Turn s X Y X' Y' → Reach s t X' Y'
  right : {X Y X' Y' : Side} → Reach s t X Y → Turn t Y X Y' X' → Reach s t X' Y'

-- what can come after X and Y
pub data Run (s t : Script) (X Y : Side) : Side → Side → Type 0 where
  rest : Run s t X Y X Y
  then_left : {X₁ Y₁ X₂ Y₂ : Side} → Run s t X Y X₁ Y₁ → Turn s X₁ Y₁ X₂ Y₂ → Run s t X Y X₂ Y₂
  then_right : {X₁ Y₁ X₂ Y₂ : Side} → Run s t X Y X₁ Y₁ → Turn t Y₁ X₁ Y₂ X₂ → Run s t X Y X₂ Y₂

pub further : {s t : Script} {X Y X' Y' : Side} → Reach s t X Y → Run s t X Y X' Y' → Reach s t X' Y'
further R rest = R
further R (then_left q u) = left (further R q) u
further R (then_right q u) = right (further R q) u
