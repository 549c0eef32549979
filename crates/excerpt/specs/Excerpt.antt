-- The texts that a flight's record keeps of a message, field by field.
use Rattle.std.specs.Prelude.{◌≡◌, List, [], ◌∷◌, ◌++◌, ℕ, ◌≤◌, length, take}
use Rattle.changes.specs.declared.Plan.{Plan}
use Rattle.fields.specs.declared.Estimate.{Estimate}
use Rattle.reader.specs.Reading.{cut}
use Rattle.pen.specs.Laying.{AllInside, led_by, text_pair, text09, text10, text14, text15, text_alternates, text18}
use Rattle.changes.specs.Found.{plan_spans}

-- the texts of the fields 07 to 18, each empty where it is not given; of field 16 the destination, and the rest from its
-- fifth byte
pub record Texts : Type 0 where
  pub aircraft : List ℕ
  pub code : List ℕ
  pub departure : List ℕ
  pub time : List ℕ
  pub destination : List ℕ
  pub field08 : List ℕ
  pub field09 : List ℕ
  pub field10 : List ℕ
  pub rest16 : List ℕ
  pub field15 : List ℕ
  pub field18 : List ℕ

-- those of the parts p of the text w
abbrev pub texts_of : List ℕ → Plan → Texts
texts_of w p = record {
  aircraft = cut w p.aircraft;
  code = cut w p.code;
  departure = cut w p.departure;
  time = cut w p.time;
  destination = cut w p.destination;
  field08 = text_pair [] w p.rules p.flight;
  field09 = text09 [] w p.count p.model p.wake;
  field10 = text10 [] w p.equipment p.surveillance;
  rest16 = led_by [] w p.elapsed ++ text_alternates w p.alternate p.alternate2;
  field15 = text15 [] w p.speed p.level p.route;
  field18 = text18 [] w p.indicator p.other;
}

abbrev pub field14_of : List ℕ → Estimate → List ℕ
field14_of w e = text14 [] w e.point e.over e.crossing e.second e.sense

-- HOW LONG THEY ARE: as many bytes as a flight's record has for each

pub record Short (t : Texts) : Type 0 where
  pub aircraft : length t.aircraft ≤ 7
  pub code : length t.code ≤ 4
  pub departure : length t.departure ≤ 4
  pub time : length t.time ≤ 4
  pub destination : length t.destination ≤ 4
  pub field08 : length t.field08 ≤ 2
  pub field09 : length t.field09 ≤ 8
  pub field10 : length t.field10 ≤ 61
  pub rest16 : length t.rest16 ≤ 14
  pub field15 : length t.field15 ≤ 300
  pub field18 : length t.field18 ≤ 300

-- the parts lie within the text w, and their texts are short
pub record FitsIn (w : List ℕ) (p : Plan) : Type 0 where
  pub inside : AllInside w (plan_spans p)
  pub short : Short (texts_of w p)

pub record Fits14 (w : List ℕ) (e : Estimate) : Type 0 where
  pub inside : AllInside w (e.point ∷ e.over ∷ e.crossing ∷ e.second ∷ e.sense ∷ [])
  pub short : length (field14_of w e) ≤ 27

-- WHAT A BUFFER HOLDS: it was b and is e, and its first k bytes are the text t
pub record Starts (t b e : List ℕ) (k : ℕ) : Type 0 where
  pub size : length e ≡ length b
  pub long : k ≡ length t
  pub within : k ≤ length e
  pub bytes : take k e ≡ t
