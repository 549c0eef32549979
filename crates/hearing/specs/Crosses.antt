-- AN ACCEPTANCE: of a flight that we sent, and of one whose offer still waits for its answer.
use Rattle.std.specs.Prelude.{◌≡◌, refl, Bool, true, false, not, ◌&&◌, List, ℕ, ◌*◌, ◌≤◌, ◌<◌}
use Rattle.std.proofs.Math.Path.{sym, ap, subst}
use Rattle.std.proofs.Common.{◌∙◌, inl, inr, arith}
use Rattle.std.proofs.Math.Bool.{cond}
use Rattle.std.proofs.lemmas.Bool.{false≢true}
use Rattle.std.proofs.Math.Option.{Option, none, some}
use Rattle.std.proofs.Math.ListN.{length}
use Rattle.scan.specs.Bools.{and_l}
use Rattle.scan.specs.Grammar.{Derives}
use Rattle.types.specs.Messages.{message}
use Rattle.message.specs.declared.Verdict.TheVariants.{Read}
use Rattle.message.specs.declared.Kind.TheVariants.{Rla}
use Rattle.message.specs.declared.Record.{Record}
use Rattle.reader.specs.Reading.{Judged}
use Rattle.reader.specs.Reader.{derived_read}
use Rattle.reader.proofs.Judging.{one_record}
use Rattle.head.specs.declared.Head.{Head}
use Rattle.head.specs.Head.{received as raised_to}
use Rattle.answers.specs.Given.{forgotten}
use Rattle.splice.specs.Splice.{splice}
use Rattle.places.specs.Place.{Place, At, Nowhere}
use Rattle.places.specs.Places.{Places, get, set, get_set, set_set}
use Rattle.flights.specs.Flight.{active, offered, Flight, flight_of, record_of, Sound, WellFormed}
use Rattle.flights.specs.Table.{places, place}
use Rattle.flights.specs.Formed.{TableFormed}
use Rattle.flights.specs.Decoded.{read_flight, flights_in, table_of, table_back, flight_at, flights_many, read_record_lem}
use Rattle.unanswered.specs.Waiting as kept
use Rattle.unanswered.specs.Waiting.{Waiting, waiting_of, free_bytes, found}
use Rattle.deeds.specs.declared.Deed.{Deed}
use Rattle.deeds.specs.declared.Deed.TheVariants.{Offers, Accepts}
use Rattle.deeds.specs.declared.Decision.{Decision}
use Rattle.deeds.specs.declared.Decision.TheVariants.{Fails, Full, Done}
use Rattle.deeds.specs.Message.{Message, message_of}
use Rattle.deeds.specs.Deeds.{old, deed_of, is_filed, is_calm, refers, code_fits, makes, may_on, may, same_key, handed_off, becomes_on, becomes}
use Rattle.deeds.specs.Applying.{where_is, held_at, flight_under, other, or_free, home, decided_at, decision, done_at, after, applied}
use Rattle.perform.specs.Performed.{Held, formed_held, Written, performed, places_after, sound_after, written_over, offered_sound}
use Rattle.perform.specs.Ready.{ready, read_used}
use Rattle.memory.specs.End.{End, lent, Formed, waiting_in, end_of}
use Rattle.memory.specs.Held.{NumberedAt, waiting_at_lem, found_waiting, waiting_back, freed}
use Rattle.rules.specs.Replies.{Reply}
use Rattle.rules.specs.Reads.{message_in, read_message}
use Rattle.rules.specs.Answers.{answer_to, is_offering, is_acceptance}
use Rattle.rules.specs.Laws.{offers, accepts}
use Rattle.rules.specs.Crossing.{crossing_applied, retires_is, retired_sent}
use Rattle.rules.specs.Receiving.{given, answering, about, handled, settled, settled_sent, retires, retire_held, retire_at, retired, waiting_at, hear_first}
use Rattle.rules.specs.declared.Outcome.{Outcome}
use Rattle.rules.specs.Calls.{Comes}
use Rattle.hearing.specs.Hearing.{begun, Does, does_comes}
use Rattle.places.specs.Bytes.{free}
use Rattle.deeds.specs.Tests.{not_filed}

-- WHAT IS DECIDED OF THE TWO

-- our offer q, and the acceptance m that names it by number and key
pub record Crosses (q m : Message) : Type 0 where
  pub offering : is_offering (deed_of q) ≡ true
  pub accepting : is_acceptance (deed_of m) ≡ true
  pub one_flight : same_key (old q) (old m) ≡ true
  pub named : m.reference ≡ q.number

-- where the offer is done at a place, so is the acceptance; else the table is as it was
unfoldable pub crossed : Decision → Decision → Decision
crossed Fails c = c
crossed Full c = c
crossed (Done i) c = Done i

pub crossed_is : (q m : Message) (l : Places Flight) → Crosses q m → (d : Decision) → d ≡ decision q l → crossed d (decision m l) ≡ decision m (applied q l)
unfolding crossed after
crossed_is q m l x Fails e = ap (λ (d : Decision). decision m (after d q l)) e
crossed_is q m l x Full e = ap (λ (d : Decision). decision m (after d q l)) e
crossed_is q m l x (Done i) e = sym (crossing_applied q m l i x.offering x.one_flight x.accepting x.named (sym e))

pub after_fails : (d c r : Decision) → d ≡ Fails → r ≡ c → r ≡ crossed d c
unfolding crossed
after_fails d c r e p = p ∙ ap (λ (x : Decision). crossed x c) (sym e)

pub after_full : (d c r : Decision) → d ≡ Full → r ≡ c → r ≡ crossed d c
unfolding crossed
after_full d c r e p = p ∙ ap (λ (x : Decision). crossed x c) (sym e)

pub after_done : (d c : Decision) (i : ℕ) → d ≡ Done i → Done i ≡ crossed d c
unfolding crossed
after_done d c i e = ap (λ (x : Decision). crossed x c) (sym e)

-- where the offer is not done, what is decided is so of the table as it is
pub fails_alone : (q m : Message) (l : Places Flight) (d c : Decision) → d ≡ decision q l → c ≡ crossed d (decision m l) → d ≡ Fails → (c ≡ decision m l) × (applied q l ≡ l)
unfolding crossed after
fails_alone q m l d c e f g = (f ∙ ap (λ (x : Decision). crossed x (decision m l)) g, ap (λ (x : Decision). after x q l) (sym e ∙ g))

pub full_alone : (q m : Message) (l : Places Flight) (d c : Decision) → d ≡ decision q l → c ≡ crossed d (decision m l) → d ≡ Full → (c ≡ decision m l) × (applied q l ≡ l)
unfolding crossed after
full_alone q m l d c e f g = (f ∙ ap (λ (x : Decision). crossed x (decision m l)) g, ap (λ (x : Decision). after x q l) (sym e ∙ g))

pub followed_alone : (q m : Message) (l : Places Flight) (e : List ℕ) → applied q l ≡ l → e ≡ table_of (applied m l) → e ≡ table_of (applied m (applied q l))
followed_alone q m l e p f = f ∙ ap (λ (x : Places Flight). table_of (applied m x)) (sym p)

-- where it is, both are done there
pub followed_both : (q m : Message) (l : Places Flight) (d : Decision) (i : ℕ) (e : List ℕ) → Crosses q m → d ≡ decision q l → d ≡ Done i → e ≡ table_of (done_at i m (done_at i q l)) → e ≡ table_of (applied m (applied q l))
unfolding after
followed_both q m l d i e x f g h =
    let p : decision q l ≡ Done i = sym f ∙ g in
    h
    ∙ ap (λ (c : Decision). table_of (after c m (done_at i q l))) (sym (crossing_applied q m l i x.offering x.one_flight x.accepting x.named p) ∙ ap (λ (c : Decision). decision m (after c q l)) p)
    ∙ ap (λ (c : Decision). table_of (applied m (after c q l))) (sym p)

-- THE TWO WRITES

done_by : (b : Bool) (j i : ℕ) → cond b (Done j) Fails ≡ Done i → (b ≡ true) × (j ≡ i)
done_by true j i e = (refl, cc)
done_by false j i e = let z : ◌≡◌ {A = ℕ} 0 1 = cc in absurd (omega arith)

-- an offer that is done may be done on the flight of its place
offer_may : (q : Message) (l : Places Flight) (i : ℕ) (x : Flight) (p : Place) → get i l ≡ some x → cond (may Offers q (held_at p l) (other q l)) (decided_at (or_free p l)) Fails ≡ Done i → may_on Offers q x (other q l) ≡ true
unfolding may makes
offer_may q l i x (At j) g c =
    let d = done_by (may Offers q (get j l) (other q l)) j i c in
    ap (λ (y : Option Flight). may Offers q y (other q l)) (sym g) ∙ ap (λ (k : ℕ). may Offers q (get k l) (other q l)) (sym d.1) ∙ d.0
offer_may q l i x Nowhere g c = let z : ◌≡◌ {A = ℕ} 0 1 = cc in absurd (omega arith)

-- so that is active
may_active : (q : Message) (x : Flight) (y : Option Flight) → may_on Offers q x y ≡ true → x.status ≡ active
unfolding may_on
may_active q x y e =
    let a = not (is_filed x.status) in
    let b = is_calm x.handoff in
    let c = refers q x in
    not_filed x.status (and_l a b (and_l (a && b) c (and_l ((a && b) && c) (code_fits q.own.code x.code) e)))

used_flight : (b : List ℕ) → WellFormed b → free b ≡ false → (x : Flight) × (b ≡ record_of x) × Sound x
used_flight b (inl e) n = absurd (false≢true (sym n ∙ ap free e))
used_flight b (inr x) n = x

module _ (q : Message) (t : List ℕ) (i : ℕ) (k : TableFormed t) (o : is_offering (deed_of q) ≡ true) (h : decision q (flights_in t) ≡ Done i) where
  pub offer_ready : (i < places t) × Held (place i t) × (makes Offers ≡ free (place i t))
  offer_ready =
      let r = ready q t i h in
      (r.within, formed_held (place i t) (k.each i r.within), ap makes (sym (offers (deed_of q) o)) ∙ r.free_or_not)

  -- the flight, and that it is sound once it is offered
  offered_flight : q.number ≤ 999 → (x : Flight) × (read_flight (place i t) ≡ some x) × Sound (handed_off offered q.number x)
  unfolding decision makes
  offered_flight n =
      let r = offer_ready in
      let u = used_flight (place i t) (k.each i r.0) (sym r.2) in
      let x = u.0 in
      let e : read_flight (place i t) ≡ some x = ap read_flight u.1 ∙ read_record_lem x u.2 in
      let c : cond (may Offers q (flight_under (old q) (flights_in t)) (other q (flights_in t))) (decided_at (home q (flights_in t))) Fails ≡ Done i = ap (λ (d : Deed). cond (may d q (flight_under (old q) (flights_in t)) (other q (flights_in t))) (decided_at (home q (flights_in t))) Fails) (sym (offers (deed_of q) o)) ∙ h in
      let a = may_active q x (other q (flights_in t)) (offer_may q (flights_in t) i x (where_is (old q) (flights_in t)) (flight_at t i r.0 ∙ e) c) in
      (x, e, offered_sound x q.number u.2 a n)

  module _ (n : q.number ≤ 999) (e : List ℕ) (w : Written i (becomes Offers q (read_flight (place i t))) t e) where
    -- the flight as it was written
    written_flight : (x : Flight) × (read_flight (place i t) ≡ some x) × Written i (some (handed_off offered q.number x)) t e × Held (place i e) × (read_flight (place i e) ≡ some (handed_off offered q.number x))
    unfolding becomes becomes_on
    written_flight =
        let f = offered_flight n in
        let y = handed_off offered q.number f.0 in
        let v : Written i (some y) t e = subst (λ (z : Option Flight). Written i (becomes Offers q z) t e) f.1 w in
        let s = sound_after i y t e offer_ready.0 v f.2 in
        (f.0, f.1, v, s.0, s.1)

    pub accept_ready : (i < places e) × Held (place i e) × (makes Accepts ≡ free (place i e))
    unfolding makes
    accept_ready =
        let f = written_flight in
        (omega (arith, places_after offer_ready.0 f.2, offer_ready.0), f.3, sym (read_used (free (place i e)) (flight_of (place i e)) (handed_off offered q.number f.0) f.4))

    pub both_done : (m : Message) (g : List ℕ) → is_acceptance (deed_of m) ≡ true → Written i (becomes Accepts m (read_flight (place i e))) e g → g ≡ table_of (done_at i m (done_at i q (flights_in t)))
    unfolding becomes becomes_on
    both_done m g a b =
        let f = written_flight in
        let l = flights_in t in
        let y = handed_off offered q.number f.0 in
        let c : i < length l = omega (arith, flights_many t, offer_ready.0) in
        let z : becomes (deed_of q) q (get i l) ≡ some y = λ j. becomes (offers (deed_of q) o j) q ((flight_at t i offer_ready.0 ∙ f.1) j) in
        let p : get i (done_at i q l) ≡ read_flight (place i e) = get_set i (becomes (deed_of q) q (get i l)) l c ∙ z ∙ sym f.4 in
        performed t g i _ k offer_ready.0 (written_over i (some y) _ t e g offer_ready.0 f.2 b)
        ∙ sym (λ j. table_of (set i (becomes (accepts (deed_of m) a j) m (p j)) l))
        ∙ ap table_of (sym (set_set i (becomes (deed_of m) m (get i (done_at i q l))) (becomes (deed_of q) q (get i l)) l))

-- WHAT WAITS UNDER THE NUMBER THAT THE ACCEPTANCE NAMES

pub nothing_waits : (m : Message) (e : End) → waiting_at m.reference e.unanswered ≡ Nowhere → retire_at (waiting_at m.reference e.unanswered) m e ≡ e
nothing_waits m e p = ap (λ (x : Place). retire_at x m e) p

held_waits : (m : Message) (e : End) (i : ℕ) (x : Waiting) (b : Bool) → waiting_at m.reference e.unanswered ≡ At i → get i e.unanswered ≡ some x → retires m (message_in x.text) ≡ b → retire_at (waiting_at m.reference e.unanswered) m e ≡ cond b (settled i Rla (message_in x.text) e) e
held_waits m e i x b p g r = ap (λ (y : Place). retire_at y m e) p ∙ ap (retire_held i m e) g ∙ ap (λ (c : Bool). cond c (settled i Rla (message_in x.text) e) e) r

module _ {n : ℕ} {ours partners t : List ℕ} {i : ℕ} (w : NumberedAt n ours partners t i) where
  -- it is one that is read
  pub waits_derived : (s : List ℕ) → s ≡ (waiting_of (kept.place i t)).text → Derives message s
  waits_derived s e = subst (Derives message) (sym e) (derived_read (waiting_of (kept.place i t)).text w.proper.its w.proper.read)

  waits_number : (q : Record) → Judged (waiting_of (kept.place i t)).text Read q → q.figures.number ≡ n
  waits_number q j = ap (λ (x : Record). x.figures.number) (one_record (waiting_of (kept.place i t)).text q w.proper.its j w.proper.read) ∙ w.proper.number ∙ w.number

  pub waits_crosses : (m : Message) (q : Record) → Judged (waiting_of (kept.place i t)).text Read q → m.reference ≡ n → is_acceptance (deed_of m) ≡ true → retires m (message_of (waiting_of (kept.place i t)).text q) ≡ true → Crosses (message_of (waiting_of (kept.place i t)).text q) m
  waits_crosses m q j e a r =
      let c = retires_is m (message_of (waiting_of (kept.place i t)).text q) r in
      record { offering = c.0; accepting = a; one_flight = c.1; named = e ∙ sym (waits_number q j) }

-- what the code finds of the text, it finds of what waits
pub retires_as : (m : Message) (q : Record) (s t : List ℕ) (b c : Bool) → s ≡ t → b ≡ retires m (message_of s q) → b ≡ c → retires m (message_of t q) ≡ c
retires_as m q s t b c e p r = ap (λ (x : List ℕ). retires m (message_of x q)) (sym e) ∙ sym p ∙ r

-- WHAT IS ANSWERED, where the offer is retired
pub crossing_answer : (s t : List ℕ) (q : Record) (m : Message) (l : Places Flight) (first c : Decision) (d : Deed) (v : ℕ) → s ≡ t → Crosses (message_of t q) m → first ≡ decision (message_of s q) l → c ≡ crossed first (decision m l) → d ≡ deed_of m → v ≡ answer_to d c → v ≡ answer_to (deed_of m) (decision m (applied (message_of t q) l))
crossing_answer s t q m l first c d v e x f g k p =
    let y : c ≡ decision m (applied (message_of t q) l) = g ∙ crossed_is (message_of t q) m l x first (f ∙ ap (λ (z : List ℕ). decision (message_of z q) l) e) in
    p ∙ (λ j. answer_to (k j) (y j))

-- A FIRST ARRIVAL OF AN ACCEPTANCE

-- once the offer is retired, if there is one
abbrev taken_up : ℕ → Message → End → Reply
taken_up room m e =
    let v = answer_to (deed_of m) (decision m e.sent) in
    answering room m v (record { head = e.head; sent = applied m e.sent; received = e.received; unanswered = e.unanswered; answers = given m.number v e.answers })

retired_is : (m : Message) (e x : End) → is_acceptance (deed_of m) ≡ true → retire_at (waiting_at m.reference e.unanswered) m e ≡ x → retired m e ≡ x
unfolding retired
retired_is m e x a p = ap (λ (b : Bool). cond b (retire_at (waiting_at m.reference e.unanswered) m e) e) a ∙ p

first_of : (room : ℕ) (m : Message) (e x : End) → retired m e ≡ x → hear_first room m e ≡ answering room m (answer_to (deed_of m) (decision m (about m x))) (handled m x)
unfolding hear_first
first_of room m e x p = ap (λ (y : End). answering room m (answer_to (deed_of m) (decision m (about m y))) (handled m y)) p

about_ours : (room : ℕ) (m : Message) (x : End) → is_acceptance (deed_of m) ≡ true → answering room m (answer_to (deed_of m) (decision m (about m x))) (handled m x) ≡ taken_up room m x
about_ours room m x a = rw a

first_taken : (room : ℕ) (m : Message) (e x : End) → is_acceptance (deed_of m) ≡ true → retire_at (waiting_at m.reference e.unanswered) m e ≡ x → hear_first room m e ≡ taken_up room m x
first_taken room m e x a p = first_of room m e x (retired_is m e x a p) ∙ about_ours room m x a

module _ (h : Head) (fresh : Bool) (m : Message) (s r u a out s' u' a' out' : List ℕ) (o : Outcome) (f : Formed h (lent s r u a)) (c : is_acceptance (deed_of m) ≡ true) where
  -- no offer is retired
  accept_comes : retire_at (waiting_at m.reference (waiting_in u)) m (begun fresh m.number (end_of h (lent s r u a))) ≡ begun fresh m.number (end_of h (lent s r u a)) → u' ≡ u → Does h fresh m (answer_to (deed_of m) (decision m (flights_in s))) (s' ≡ table_of (applied m (flights_in s))) (s' ≡ s) a out o a' out' → Comes (hear_first (length out) m (begun fresh m.number (end_of h (lent s r u a)))) h (lent s r u a) out o (lent s' r u' a') out'
  accept_comes p q d =
      subst (λ (z : Reply). Comes z h (lent s r u a) out o (lent s' r u' a') out') (sym (first_taken (length out) m (begun fresh m.number (end_of h (lent s r u a))) (begun fresh m.number (end_of h (lent s r u a))) c p))
      (does_comes d (applied m (flights_in s)) (flights_in r) (waiting_in u) s r u s' r u'
      (λ e. (e, sym (table_back r f.received), q ∙ sym (waiting_back f.unanswered)))
      (λ e. (e, refl, q)))

  pub alone_comes : found m.reference u ≡ Nowhere → u' ≡ u → Does h fresh m (answer_to (deed_of m) (decision m (flights_in s))) (s' ≡ table_of (applied m (flights_in s))) (s' ≡ s) a out o a' out' → Comes (hear_first (length out) m (begun fresh m.number (end_of h (lent s r u a)))) h (lent s r u a) out o (lent s' r u' a') out'
  alone_comes p = accept_comes (nothing_waits m (begun fresh m.number (end_of h (lent s r u a))) (sym (found_waiting m.reference u) ∙ p))

  module _ (i : ℕ) (p : found m.reference u ≡ At i) (q : Record) (j : Judged (waiting_of (kept.place i u)).text Read q) where
    its_place : waiting_at m.reference (waiting_in u) ≡ At i
    its_place = sym (found_waiting m.reference u) ∙ p

    its_waiting : NumberedAt m.reference h.ours h.partners u i
    its_waiting = waiting_at_lem f.unanswered m.reference i its_place

    its_retired : (b : Bool) → retires m (message_of (waiting_of (kept.place i u)).text q) ≡ b → retire_at (waiting_at m.reference (waiting_in u)) m (begun fresh m.number (end_of h (lent s r u a))) ≡ cond b (settled i Rla (message_of (waiting_of (kept.place i u)).text q) (begun fresh m.number (end_of h (lent s r u a)))) (begun fresh m.number (end_of h (lent s r u a)))
    its_retired b e =
        let w = waiting_of (kept.place i u) in
        let k : message_of w.text q ≡ message_in w.text = read_message w.text q j in
        held_waits m (begun fresh m.number (end_of h (lent s r u a))) i w b its_place its_waiting.holds (ap (retires m) (sym k) ∙ e)
        ∙ ap (λ (x : Message). cond b (settled i Rla x (begun fresh m.number (end_of h (lent s r u a)))) (begun fresh m.number (end_of h (lent s r u a)))) (sym k)

    pub beside_comes : retires m (message_of (waiting_of (kept.place i u)).text q) ≡ false → u' ≡ u → Does h fresh m (answer_to (deed_of m) (decision m (flights_in s))) (s' ≡ table_of (applied m (flights_in s))) (s' ≡ s) a out o a' out' → Comes (hear_first (length out) m (begun fresh m.number (end_of h (lent s r u a)))) h (lent s r u a) out o (lent s' r u' a') out'
    beside_comes e = accept_comes (its_retired false e)

    abbrev settled_offer : End
    settled_offer = record {
      head = cond fresh (raised_to h m.number) h;
      sent = applied (message_of (waiting_of (kept.place i u)).text q) (flights_in s);
      received = flights_in r;
      unanswered = set i none (waiting_in u);
      answers = cond fresh (forgotten h.highest m.number a) a;
    }

    -- the offer is retired
    pub crossing_comes : retires m (message_of (waiting_of (kept.place i u)).text q) ≡ true → Does h fresh m (answer_to (deed_of m) (decision m (applied (message_of (waiting_of (kept.place i u)).text q) (flights_in s)))) ((s' ≡ table_of (applied m (applied (message_of (waiting_of (kept.place i u)).text q) (flights_in s)))) × (u' ≡ splice (i * 1280) free_bytes u)) ((s' ≡ s) × (u' ≡ u)) a out o a' out' → Comes (hear_first (length out) m (begun fresh m.number (end_of h (lent s r u a)))) h (lent s r u a) out o (lent s' r u' a') out'
    crossing_comes e d =
        let x : Message = message_of (waiting_of (kept.place i u)).text q in
        let g : settled_sent Rla x (flights_in s) ≡ applied x (flights_in s) = retired_sent x (flights_in s) (retires_is m x e).0 in
        let b : settled i Rla x (begun fresh m.number (end_of h (lent s r u a))) ≡ settled_offer = λ k. record { head = cond fresh (raised_to h m.number) h; sent = g k; received = flights_in r; unanswered = set i none (waiting_in u); answers = cond fresh (forgotten h.highest m.number a) a } in
        subst (λ (z : Reply). Comes z h (lent s r u a) out o (lent s' r u' a') out') (sym (first_taken (length out) m (begun fresh m.number (end_of h (lent s r u a))) settled_offer c (its_retired true e ∙ b)))
        (does_comes d (applied m (applied x (flights_in s))) (flights_in r) (set i none (waiting_in u)) s r u s' r u'
        (λ y. (y.0, sym (table_back r f.received), y.1 ∙ freed f.unanswered i its_waiting.below))
        (λ y. (y.0, refl, y.1)))
