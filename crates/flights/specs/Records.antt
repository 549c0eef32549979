-- Decoding after encoding gives the flight, and encoding after decoding the bytes.
use Rattle.std.specs.Prelude.{◌≡◌, refl, List, ℕ, length, replicate}
use Rattle.std.proofs.Common.{sym, ap, ◌∙◌, arith}
use Rattle.scan.specs.declared.Class.TheVariants.{Letter, Octal, Alnum}
use Rattle.scan.specs.Grammar.{run}
use Rattle.scan.specs.Texts.{opt}
use Rattle.scan.specs.Tests.{nullable, longest}
use Rattle.fields.specs.Fields.{in08, in09, in10, hour, minute, timed, in14, in15, rest16, in18, field_rules}
use Rattle.places.specs.Bytes.{two_bytes}
use Rattle.flights.specs.Padding.{trimmed, Neat, AllNeat, cut_row_lem, row_back}
use Rattle.flights.specs.Ends.{unblank, neat}
use Rattle.flights.specs.Flight.{Status, filed, active, Handoff, none, offered, accepted, Flight, status_byte, handoff_byte, status_of, handoff_of, widths, texts_of, record_of, flight_by, flight_of, Timed, Estimated, Sound}

time_neat : (s : Status) (t : List ℕ) → Timed s t → Neat 4 t
unfolding unblank longest nullable hour minute timed
time_neat filed t d = neat timed 4 refl refl t d
time_neat active t d = neat (opt timed) 4 refl refl t d

estimate_neat : (s : Status) (t : List ℕ) → Estimated s t → Neat 27 t
unfolding trimmed unblank longest nullable field_rules
estimate_neat filed t e = (omega (arith, ap length e), ap trimmed e ∙ sym e)
estimate_neat active t d = neat in14 27 refl refl t d

pub texts_neat : (f : Flight) → Sound f → AllNeat widths (texts_of f)
unfolding unblank longest nullable field_rules
texts_neat f s = (
  neat (run Alnum 2 7) 7 refl refl f.aircraft s.aircraft,
  (
    neat (opt (run Octal 4 4)) 4 refl refl f.code s.code,
    (
      neat (run Letter 4 4) 4 refl refl f.departure s.departure,
      (
        time_neat f.status f.time s.time,
        (
          neat (run Letter 4 4) 4 refl refl f.destination s.destination,
          (
            neat (in08 0) 2 refl refl f.field08 s.field08,
            (
              neat (in09 0) 8 refl refl f.field09 s.field09,
              (
                neat (in10 0) 61 refl refl f.field10 s.field10,
                (
                  estimate_neat f.status f.field14 s.field14,
                  (
                    neat (rest16 0) 14 refl refl f.rest16 s.rest16,
                    (
                      neat (in15 0) 300 refl refl f.field15 s.field15,
                      (neat (in18 0) 300 refl refl f.field18 s.field18, tt),
                    ),
                  ),
                ),
              ),
            ),
          ),
        ),
      ),
    ),
  ),
)

pub status_back : (s : Status) → status_of (status_byte s) ≡ s
unfolding status_of status_byte
status_back filed = refl
status_back active = refl

pub handoff_back : (h : Handoff) → handoff_of (handoff_byte h) ≡ h
unfolding handoff_of handoff_byte
handoff_back none = refl
handoff_back offered = refl
handoff_back accepted = refl

-- THE FLIGHT FROM ITS RECORD
pub flight_back : (f : Flight) → Sound f → flight_of (record_of f) ≡ f
flight_back f s = λ i. flight_by (status_back f.status i) (handoff_back f.handoff i) (two_bytes f.first i) (two_bytes f.offer i) ((cut_row_lem widths 6 (record_of f) ∙ row_back widths (texts_of f) (replicate 27 0) (texts_neat f s)) i)

-- and the record from its flight
pub record_back : (b : List ℕ) (f : Flight) → b ≡ record_of f → Sound f → record_of (flight_of b) ≡ b
record_back b f e s = ap (λ (x : List ℕ). record_of (flight_of x)) e ∙ ap record_of (flight_back f s) ∙ sym e
