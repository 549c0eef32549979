-- What the scan of each field finds: where it ends, and where its parts stand.
use Rattle.std.specs.Prelude.{List, ◌≡◌, refl, ℕ, ◌+◌}
use Rattle.scan.specs.declared.Scan.{Scan}
use Rattle.scan.specs.Grammar.{words, none}
use Rattle.scan.specs.Texts.{◌⨾◌, byte}
use Rattle.scan.specs.Scanner.{scan, among, occurs, between16, span_by, spot}
use Rattle.fields.specs.declared.Found.{Found}
use Rattle.fields.specs.declared.Number.{Number}
use Rattle.fields.specs.declared.Estimate.{Estimate}
use Rattle.fields.specs.declared.Found07.{Found07}
use Rattle.fields.specs.declared.Found08.{Found08}
use Rattle.fields.specs.declared.Found09.{Found09}
use Rattle.fields.specs.declared.Found10.{Found10}
use Rattle.fields.specs.declared.Found13.{Found13}
use Rattle.fields.specs.declared.Found15.{Found15}
use Rattle.fields.specs.declared.Found16.{Found16}
use Rattle.fields.specs.declared.Found18.{Found18}
use Rattle.fields.specs.Names as n
use Rattle.fields.specs.Fields.{in_numbered, numbered, in07, g07, in08, g08, in09, g09, in10, g10, in13, in13o, g13, g13o, g14, after15, in15, g15, alternates, in16, g16, in_three18, in_four18, in18, g18, in14, rest16}

abbrev pub found_number : List ℕ → Scan → Found Number
found_number s r = record {
  end = scan (numbered n.sender n.receiver n.number) s r;
  parts = record {
    sender = spot n.sender (numbered n.sender n.receiver n.number) s r;
    receiver = spot n.receiver (numbered n.sender n.receiver n.number) s r;
    digits = spot n.number (numbered n.sender n.receiver n.number) s r;
  };
}

abbrev pub found07 : ℕ → List ℕ → Scan → Found07
found07 o s r = record { end = scan (g07 o) s r; aircraft = spot (o + n.aircraft) (g07 o) s r; code = spot (o + n.code) (g07 o) s r }

abbrev pub found08 : ℕ → List ℕ → Scan → Found08
found08 o s r = record { end = scan (g08 o) s r; rules = spot (o + n.rules) (g08 o) s r; flight = spot (o + n.flight) (g08 o) s r }

abbrev pub found09 : ℕ → List ℕ → Scan → Found09
found09 o s r = record { end = scan (g09 o) s r; count = spot (o + n.count) (g09 o) s r; model = spot (o + n.model) (g09 o) s r; wake = spot (o + n.wake) (g09 o) s r }

abbrev pub found10 : ℕ → List ℕ → Scan → Found10
found10 o s r = record { end = scan (g10 o) s r; equipment = spot (o + n.equipment) (g10 o) s r; surveillance = spot (o + n.surveillance) (g10 o) s r }

abbrev pub found13 : ℕ → List ℕ → Scan → Found13
found13 o s r = record { end = scan (g13 o) s r; departure = spot (o + n.departure) (g13 o) s r; time = spot (o + n.time) (g13 o) s r }

abbrev pub found13o : List ℕ → Scan → Found13
found13o s r = record { end = scan g13o s r; departure = spot n.departure g13o s r; time = spot n.time g13o s r }

abbrev pub found14 : List ℕ → Scan → Found Estimate
found14 s r = record {
  end = scan g14 s r;
  parts = record {
    point = spot n.point g14 s r;
    over = spot n.over g14 s r;
    crossing = spot n.crossing g14 s r;
    second = spot n.second g14 s r;
    sense = spot n.sense g14 s r;
  };
}

-- a level from r to l, a blank and words of at most k bytes
unfoldable pub found_routed : List ℕ → Scan → Scan → ℕ → Found15
found_routed s r l k = record {
  end = scan (byte 32 ⨾ words k) s l;
  speed = none;
  level = between16 r l;
  route = between16 (scan (byte 32) s l) (scan (byte 32 ⨾ words k) s l);
}

-- a level, a blank and words, of which k bytes are left
unfoldable pub found_after15 : ℕ → List ℕ → Scan → Found15
found_after15 k s r = record { end = scan (after15 0 k) s r; speed = none; level = spot n.level (after15 0 k) s r; route = spot n.route (after15 0 k) s r }

-- a speed from r to v, and what follows it in k bytes
unfoldable pub found_sped : List ℕ → Scan → Scan → ℕ → Found15
found_sped s r v k = record { end = (found_after15 k s v).end; speed = between16 r v; level = (found_after15 k s v).level; route = (found_after15 k s v).route }

abbrev pub found15 : ℕ → List ℕ → Scan → Found15
found15 o s r = record { end = scan (g15 o) s r; speed = spot (o + n.speed) (g15 o) s r; level = spot (o + n.level) (g15 o) s r; route = spot (o + n.route) (g15 o) s r }

abbrev pub found_alternates : List ℕ → Scan → Found16
found_alternates s r = record {
  end = scan (alternates 0) s r;
  destination = none;
  elapsed = none;
  alternate = spot n.alternate (alternates 0) s r;
  alternate2 = spot n.alternate2 (alternates 0) s r;
}

abbrev pub found16 : ℕ → List ℕ → Scan → Found16
found16 o s r = record {
  end = scan (g16 o) s r;
  destination = spot (o + n.destination) (g16 o) s r;
  elapsed = spot (o + n.elapsed) (g16 o) s r;
  alternate = spot (o + n.alternate) (g16 o) s r;
  alternate2 = spot (o + n.alternate2) (g16 o) s r;
}

abbrev pub found18 : ℕ → List ℕ → Scan → Found18
found18 o s r = record { end = scan (g18 o) s r; indicator = spot (o + n.indicator) (g18 o) s r; other = spot (o + n.other) (g18 o) s r }

-- within field 22 a field's parts have other names and stand at the same places
pub same07 : (s : List ℕ) (r : Scan) → found07 n.amended s r ≡ found07 0 s r
unfolding in07 among occurs span_by
same07 s r = refl

pub same08 : (s : List ℕ) (r : Scan) → found08 n.amended s r ≡ found08 0 s r
unfolding in08 among occurs span_by
same08 s r = refl

pub same09 : (s : List ℕ) (r : Scan) → found09 n.amended s r ≡ found09 0 s r
unfolding in09 among occurs span_by
same09 s r = refl

pub same10 : (s : List ℕ) (r : Scan) → found10 n.amended s r ≡ found10 0 s r
unfolding in10 among occurs span_by
same10 s r = refl

pub same13 : (s : List ℕ) (r : Scan) → found13 n.amended s r ≡ found13 0 s r
unfolding in13 among occurs span_by
same13 s r = refl

pub same15 : (s : List ℕ) (r : Scan) → found15 n.amended s r ≡ found15 0 s r
unfolding in15 after15 among occurs span_by
same15 s r = refl

pub same16 : (s : List ℕ) (r : Scan) → found16 n.amended s r ≡ found16 0 s r
unfolding in16 alternates among occurs span_by
same16 s r = refl

pub same18 : (s : List ℕ) (r : Scan) → found18 n.amended s r ≡ found18 0 s r
unfolding in18 in_three18 in_four18 among occurs span_by
same18 s r = refl

-- `unfolding found_rules` opens where the parts of every field stand, down to its pieces
unfoldable pub found_rules : Unit {0}
unfolding in_numbered in07 in08 in09 in10 in13 in13o in14 in15 alternates in16 rest16 in_three18 in_four18 in18 among occurs span_by
found_rules = tt
