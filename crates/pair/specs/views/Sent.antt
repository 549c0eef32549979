-- SENDING, RESENDING AND SETTING UP, seen as views.
use Rattle.std.specs.Prelude.{◌≡◌, Bool, cond, not, ◌&&◌, ◌||◌, List, ℕ, zero, suc, ◌+◌, ◌%◌, ◌<◌, length, get_or, replicate, eqb, leb}
use Rattle.std.proofs.Math.Path.{refl}
use Rattle.std.proofs.Common.{sym, ◌∙◌, ap, subst, arith, leb-false, eq-eqb}
use Rattle.std.proofs.Math.Bool.{true, false}
use Rattle.std.proofs.lemmas.Bool.{false≢true, not-false}
use Rattle.std.proofs.Math.Option.{Option, none, some}
use Rattle.scan.specs.Bools.{and_l, and_r, both, or_l, or_r, neither, same_bool}
use Rattle.message.specs.declared.Kind.{Kind}
use Rattle.message.specs.declared.Kind.TheVariants.{None, Fpl, Cpl, Est, Chg, Cnl, Rti, Rta, Rla, Lam, Lrm}
use Rattle.head.specs.declared.Head.{Head}
use Rattle.places.specs.Place.{Place, At, Nowhere}
use Rattle.places.specs.Bytes.{same, same_is}
use Rattle.places.specs.Places.{Places, get, first_of, used, empty, is_free as is_none}
use Rattle.flights.specs.Flight.{Flight}
use Rattle.unanswered.specs.Waiting.{Waiting, is_answer}
use Rattle.deeds.specs.declared.Deed.TheVariants.{Retracts, Accepts, Nothing}
use Rattle.deeds.specs.Message.{Message}
use Rattle.deeds.specs.Deeds.{deed_of, deed_by, rta_deed, in_order, turned, refers, old, new, makes, may, may_on, becomes, is_filed, is_calm, is_offered, code_fits}
use Rattle.deeds.specs.Applying.{allowed, applied, lowest_free, flight_under, other}
use Rattle.memory.specs.End.{End, numbered}
use Rattle.rules.specs.Replies.{Reply, refused, done, Refusal, number, refused_done, done_end, done_text}
use Rattle.rules.specs.Reads.{message_in}
use Rattle.rules.specs.Answers.{is_acceptance}
use Rattle.rules.specs.Receiving.{waiting_at, giving, units, referred, directed}
use Rattle.rules.specs.Sending.{any_waiting, count_waiting, too_old, one_of, names_one, naming, may_be_sent, making, fills, sending, send_at, send, resend_held, resend_at, resend, fresh}
use Rattle.pair.specs.kinds.Tools.{true_false}
use Rattle.pair.specs.kinds.Kinds.{Content, own, near, content_of, message_of, clash}
use Rattle.pair.specs.kinds.Views.{gap, Opening, Sends, Fresh}
use Rattle.pair.specs.kinds.Ends.{SoundEnd, by_key, waits_in, kept_in, view_of}
use Rattle.pair.specs.views.Tables.{eff_is, close_is, applied_near, table_empty}
use Rattle.pair.specs.views.Waits.{waits_put, waits_nowhere, waits_some, count_put, any_none, makers_takes}

-- WHAT A REPLY WAS

-- a check was passed
passed : (b : Bool) (x : Refusal) (r : Reply) (e : End) (t : List ℕ) → cond b (refused x) r ≡ done e t → (b ≡ false) × (r ≡ done e t)
passed true x r e t p = absurd (refused_done p)
passed false x r e t p = (refl, p)

-- and a text was given
gave : (room : ℕ) (w : List ℕ) (e e' : End) (t : List ℕ) → giving room w e ≡ done e' t → (e' ≡ e) × (t ≡ w)
gave room w e e' t p = go (leb (length w) room) p
  where
    go : (b : Bool) → cond b (done e w) (refused (number 2)) ≡ done e' t → (e' ≡ e) × (t ≡ w)
    go true q = (sym (done_end q), sym (done_text q))
    go false q = absurd (refused_done q)

-- SENDING

-- what it passed
record Passed (p : Place) (w : List ℕ) (m : Message) (e e' : End) (t : List ℕ) : Type 0 where
  place : ℕ
  free : p ≡ At place
  young : any_waiting (too_old e.head.next) e.unanswered ≡ false
  apart : any_waiting (naming m) e.unanswered ≡ false
  may : may_be_sent m e ≡ true
  room : fills m e ≡ false
  end : e' ≡ sending place w m e
  text : t ≡ w

send_passed : (p : Place) (room : ℕ) (w : List ℕ) (m : Message) (e e' : End) (t : List ℕ) → send_at p room w m e ≡ done e' t → Passed p w m e e' t
unfolding send_at
send_passed Nowhere room w m e e' t s = absurd (refused_done s)
send_passed (At i) room w m e e' t s =
    let a = passed (any_waiting (too_old e.head.next) e.unanswered) _ _ e' t s in
    let b = passed (any_waiting (naming m) e.unanswered) _ _ e' t a.1 in
    let c = passed (not (may_be_sent m e)) _ _ e' t b.1 in
    let d = passed (fills m e) _ _ e' t c.1 in
    let g = gave room w (sending i w m e) e' t d.1 in
    record { place = i; free = refl; young = a.0; apart = b.0; may = not-false (may_be_sent m e) c.0; room = d.0; end = g.0; text = g.1 }

-- the condition held, in the table that it is about
may_table : (b x y : Bool) → cond b x y ≡ true → (b ≡ true → x ≡ true) × (b ≡ false → y ≡ true)
may_table true x y e = ((λ p. e), (λ p. absurd (false≢true (sym p))))
may_table false x y e = ((λ p. absurd (false≢true p)), (λ p. e))

pub send_may : (room : ℕ) (w : List ℕ) (e e' : End) (t : List ℕ) → send room w e ≡ done e' t → (is_acceptance (deed_of (message_in w)) ≡ true → allowed (message_in w) e.received ≡ true) × (is_acceptance (deed_of (message_in w)) ≡ false → allowed (message_in w) e.sent ≡ true)
send_may room w e e' t s =
    let m = message_in w in
    may_table (is_acceptance (deed_of m)) (allowed m e.received) (allowed m e.sent) (send_passed (lowest_free e.unanswered) room w m e e' t s).may

-- 9: a waiting number is less than 400 back, and is not the next
young_gap : (n : ℕ) (q : Waiting) → too_old n q ≡ false → (gap n q.number < 400) × (gap n q.number ≡ 0 → ⊥)
unfolding too_old
young_gap n q e =
    let d : ℕ = gap n q.number in
    let o = neither (eqb d 0) (leb 400 d) e in
    (leb-false 400 d o.1, (λ z. true_false (eq-eqb d 0 z) o.0))

gap_self : (n : ℕ) → gap n n ≡ 0
gap_self n = omega arith

-- 7: two messages that do not name one flight do not clash
apart_is : (m q : Message) → names_one m q ≡ false → clash (content_of m) (content_of q) ≡ false
unfolding names_one same_bool content_of clash
apart_is m q = go (is_acceptance (deed_of m)) (is_acceptance (deed_of q))
  where
    go : (a b : Bool) → (same_bool a b && (one_of (old m) q || one_of (new m) q)) ≡ false → clash (cond a (near m) (own m)) (cond b (near q) (own q)) ≡ false
    go true true e = e
    go true false e = refl
    go false true e = refl
    go false false e = e

-- 11: there is room for what is made
makes_fit : (b : Bool) (r u : ℕ) → (b && leb r u) ≡ false → b ≡ true → u < r
makes_fit true r u e t = leb-false r u e
makes_fit false r u e t = absurd (false≢true t)

content_number : (m : Message) → (message_of (content_of m)).number ≡ m.number
unfolding content_of message_of
content_number m = go (is_acceptance (deed_of m))
  where
    go : (b : Bool) → (message_of (cond b (near m) (own m))).number ≡ m.number
    go true = refl
    go false = refl

module _ (e : End) (s : SoundEnd e) (w : List ℕ) (m : Message) (i : ℕ) where
  -- an acceptance is applied to the flights received, and nothing else is applied
  opened : may_be_sent m e ≡ true → fills m e ≡ false → Opening (content_of m) (view_of e) (view_of (sending i w m e))
  unfolding content_of
  opened a f = go (is_acceptance (deed_of m)) refl
    where
      tables : (is_acceptance (deed_of m) ≡ true → allowed m e.received ≡ true) × (is_acceptance (deed_of m) ≡ false → allowed m e.sent ≡ true)
      tables = may_table (is_acceptance (deed_of m)) (allowed m e.received) (allowed m e.sent) a

      then : (b : Bool) → is_acceptance (deed_of m) ≡ b → by_key (cond (is_acceptance (deed_of m)) (applied m e.received) e.received) ≡ by_key (cond b (applied m e.received) e.received)
      then b p = ap (λ (x : Bool). by_key (cond x (applied m e.received) e.received)) p

      go : (b : Bool) → is_acceptance (deed_of m) ≡ b → Opening (cond b (near m) (own m)) (view_of e) (view_of (sending i w m e))
      go true p =
          let c = (close_is m e.received s.received p).0 (tables.0 p) in
          (c.0, c.1, then true p ∙ (applied_near m e.received s.received p c.0 c.1).0)
      go false p = (
        (becomes (deed_of m) m (by_key e.sent (old m)), (eff_is m e.sent s.sent p).0 (tables.1 p)),
        makes_fit (makes (deed_of m)) (length e.sent) (used e.sent + count_waiting making e.unanswered) f,
        then false p,
      )

-- each waiting message is young, and about another flight
waiting_young : (next n : ℕ) (l : Places Waiting) (d : Content) → any_waiting (too_old next) l ≡ false → waits_in l n ≡ some d → (gap next n < 400) × (gap next n ≡ 0 → ⊥)
waiting_young next n l d y h =
    let f = waits_some l n d h in
    subst (λ (k : ℕ). (gap next k < 400) × (gap next k ≡ 0 → ⊥)) f.4 (young_gap next f.1 (any_none (too_old next) l f.0 f.1 y f.3))

waiting_apart : (m : Message) (n : ℕ) (l : Places Waiting) (d : Content) → any_waiting (naming m) l ≡ false → waits_in l n ≡ some d → clash (content_of m) d ≡ false
waiting_apart m n l d a h =
    let f = waits_some l n d h in
    ap (clash (content_of m)) f.5 ∙ apart_is m (message_in f.1.text) (any_none (naming m) l f.0 f.1 a f.3)

-- so the next number is unused
next_unused : (next : ℕ) (l : Places Waiting) → any_waiting (too_old next) l ≡ false → waits_in l next ≡ none
next_unused next l y = go (waits_in l next) refl
  where
    go : (o : Option Content) → waits_in l next ≡ o → o ≡ none
    go none p = refl
    go (some d) p = absurd ((waiting_young next next l d y p).1 (gap_self next))

after_next : (n : ℕ) → (n % 1000 + 1) % 1000 ≡ (n + 1) % 1000
after_next n = omega arith

sent_seen : (e : End) → SoundEnd e → (w : List ℕ) → (message_in w).number ≡ e.head.next → (e' : End) (t : List ℕ) (x : Passed (lowest_free e.unanswered) w (message_in w) e e' t) → Sends (content_of (message_in w)) (view_of e) (view_of (sending x.place w (message_in w) e))
sent_seen e s w n e' t x =
    let m = message_in w in
    let q : Waiting = record { number = e.head.next; text = w } in
    let u = next_unused e.head.next e.unanswered x.young in
    record {
      number = content_number m ∙ n;
      unused = u;
      young = λ k d h. (waiting_young e.head.next k e.unanswered d x.young h).0;
      apart = λ k d h. waiting_apart m k e.unanswered d x.apart h;
      opening = opened e s w m x.place x.may x.room;
      next = after_next e.head.next;
      high = refl;
      sent = refl;
      used = refl;
      room = refl;
      waits = waits_put e.head.ours e.head.partners e.unanswered s.unanswered x.place q x.free u;
      makers = count_put making e.unanswered x.place q x.free ∙ ap (λ (k : ℕ). k + count_waiting making e.unanswered) (makers_takes m);
      kept = refl;
    }

pub send_seen : {e e' : End} {t : List ℕ} → SoundEnd e → (w : List ℕ) (room : ℕ) → (message_in w).number ≡ e.head.next → send room w e ≡ done e' t → Sends (content_of (message_in w)) (view_of e) (view_of e') × (t ≡ w)
send_seen {e} {e'} {t} s w room n r =
    let x = send_passed (lowest_free e.unanswered) room w (message_in w) e e' t r in
    (subst (λ (z : End). Sends (content_of (message_in w)) (view_of e) (view_of z)) (sym x.end) (sent_seen e s w n e' t x), x.text)

-- RESENDING changes nothing, and gives the kept text

abbrev Resends : ℕ → End → End → List ℕ → Type 0
Resends n e e' t = (e' ≡ e) × ((q : Waiting) × (i : ℕ) × (waiting_at n e.unanswered ≡ At i) × (get i e.unanswered ≡ some q) × (t ≡ q.text))

pub resend_seen : (room n : ℕ) (e e' : End) (t : List ℕ) → resend room n e ≡ done e' t → (e' ≡ e) × ((q : Waiting) × (i : ℕ) × (waiting_at n e.unanswered ≡ At i) × (get i e.unanswered ≡ some q) × (t ≡ q.text))
resend_seen room n e e' t r = from (waiting_at n e.unanswered) refl r
  where
    held : (i : ℕ) → waiting_at n e.unanswered ≡ At i → (o : Option Waiting) → get i e.unanswered ≡ o → resend_held o room e ≡ done e' t → Resends n e e' t
    held i a none g p = absurd (refused_done p)
    held i a (some q) g p = let f = gave room q.text e e' t p in (f.0, (q, i, a, g, f.1))

    from : (p : Place) → waiting_at n e.unanswered ≡ p → resend_at p room e ≡ done e' t → Resends n e e' t
    from (At i) a p = held i a (get i e.unanswered) refl p
    from Nowhere a p = absurd (refused_done p)

-- A FRESH END

length_empty : (k : ℕ) → length (empty {A = Flight} k) ≡ k
unfolding empty
length_empty zero = refl
length_empty (suc k) = ap suc (length_empty k)

first_empty : {A : Type 0} (p : Option A → Bool) → p none ≡ false → (i k : ℕ) → first_of p i (empty k) ≡ Nowhere
unfolding empty first_of
first_empty p e i zero = refl
first_empty p e i (suc k) = ap (λ (b : Bool). cond b (At i) (first_of p (i + 1) (empty k))) e ∙ first_empty p e (i + 1) k

waits_empty : (k n : ℕ) → waits_in (empty k) n ≡ none
unfolding numbered
waits_empty k n = waits_nowhere (empty k) n (first_empty (numbered n) refl 0 k)

count_empty : (p : Waiting → Bool) (k : ℕ) → count_waiting p (empty k) ≡ 0
unfolding empty count_waiting
count_empty p zero = refl
count_empty p (suc k) = count_empty p k

-- no number was answered
zeros : (k n : ℕ) → ◌≡◌ {A = ℕ} (get_or (replicate k 0) n 0) 0
zeros zero n = refl
zeros (suc k) zero = refl
zeros (suc k) (suc n) = zeros k n

kept_zeros : (k n : ℕ) → kept_in (replicate k 0) n ≡ none
unfolding kept_in
kept_zeros k n = ap (λ (x : ℕ). cond (eqb x 0) none (some x)) (zeros k n)

pub fresh_seen : (ours partners : List ℕ) (a b : ℕ) → Fresh (view_of (fresh ours partners a b)) × ((view_of (fresh ours partners a b)).room ≡ a)
fresh_seen ours partners a b = (
  record {
    next = refl;
    high = refl;
    sent = (table_empty a).0;
    received = (table_empty b).0;
    used = (table_empty a).1;
    waits = waits_empty 16;
    makers = count_empty making 16;
    kept = kept_zeros 1000;
  },
  length_empty a,
)

-- WHAT MAY BE SENT IS DIRECTED TO THE PARTNER: the condition asks for the reference's units

-- what names a flight by its first number does it in order
ordered : (m : Message) (x : Flight) → refers m x ≡ true → in_order m ≡ true
ordered m x e = and_l (in_order m) (eqb m.reference x.first) e

module _ (h : Head) (m : Message) (f : m.from ≡ h.partners) (t : m.to ≡ h.ours) where
  in_units : in_order m ≡ true → units m.reference_from m.reference_to h.partners h.ours ≡ true
  in_units e = (λ j. same m.reference_from (sym f j) && same m.reference_to (sym t j)) ∙ e

  turned_units : turned m ≡ true → units m.reference_from m.reference_to h.ours h.partners ≡ true
  turned_units e = (λ j. same m.reference_from (sym t j) && same m.reference_to (sym f j)) ∙ e

  -- an RTA that may be sent is one of the two
  rta_units : (x y : Option Flight) (a b : Bool) → in_order m ≡ a → turned m ≡ b → may (cond a Retracts (cond b Accepts Nothing)) m x y ≡ true → units m.reference_from m.reference_to h.partners h.ours || units m.reference_from m.reference_to h.ours h.partners ≡ true
  unfolding may may_on makes
  rta_units x y true b p q e = or_l (units m.reference_from m.reference_to h.partners h.ours) (units m.reference_from m.reference_to h.ours h.partners) (in_units p)
  rta_units x y false true p q e = or_r (units m.reference_from m.reference_to h.partners h.ours) (units m.reference_from m.reference_to h.ours h.partners) (turned_units q)
  rta_units none y false false p q e = absurd (false≢true e)
  rta_units (some x) y false false p q e = absurd (false≢true e)

  referred_may : (k : Kind) (x y : Option Flight) → is_answer k ≡ false → may (deed_by k m) m x y ≡ true → referred k h m ≡ true
  unfolding referred is_answer deed_by rta_deed may may_on makes
  referred_may None x y n e = refl
  referred_may Fpl x y n e = refl
  referred_may Cpl x y n e = refl
  referred_may Est none y n e = absurd (false≢true e)
  referred_may Est (some x) y n e = in_units (ordered m x (and_r (is_filed x.status) (refers m x) (and_l (is_filed x.status && refers m x) (code_fits m.own.code x.code) e)))
  referred_may Chg none y n e = absurd (false≢true e)
  referred_may Chg (some x) y n e = in_units (ordered m x (and_r (is_filed x.status) (refers m x) (and_l (is_filed x.status && refers m x) (is_none y) e)))
  referred_may Cnl none y n e = absurd (false≢true e)
  referred_may Cnl (some x) y n e = in_units (ordered m x (and_r (not (is_offered x.handoff)) (refers m x) e))
  referred_may Rti none y n e = absurd (false≢true e)
  referred_may Rti (some x) y n e = in_units (ordered m x (and_r (not (is_filed x.status) && is_calm x.handoff) (refers m x) (and_l ((not (is_filed x.status) && is_calm x.handoff) && refers m x) (code_fits m.own.code x.code) e)))
  referred_may Rta x y n e = rta_units x y (in_order m) (turned m) refl refl e
  referred_may Rla x y n e = absurd (false≢true (sym n))
  referred_may Lam x y n e = absurd (false≢true (sym n))
  referred_may Lrm x y n e = absurd (false≢true (sym n))

pub send_directed : (h : Head) (m : Message) (l : Places Flight) → allowed m l ≡ true → m.from ≡ h.partners → m.to ≡ h.ours → is_answer m.kind ≡ false → directed h m ≡ true
send_directed h m l a f t n =
    both (units m.from m.to h.partners h.ours) (referred m.kind h m)
    (both (same m.from h.partners) (same m.to h.ours) ((same_is m.from h.partners).no f) ((same_is m.to h.ours).no t))
    (referred_may h m f t m.kind (flight_under (old m) l) (other m l) n a)
