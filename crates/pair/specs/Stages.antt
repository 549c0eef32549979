-- HOW A WORLD IS BUILT STEP BY STEP from what the rules come to on decoded ends, so that a run can be computed with no bytes of
-- tables.
use Rattle.std.specs.Prelude.{◌≡◌, Bool, true, false, not, cond, ◌&&◌, List, [], ◌∷◌, ◌++◌, ℕ, ◌+◌, ◌*◌, ◌≤◌, length, drop, replicate, eqb, leb}
use Rattle.std.proofs.Math.Path.{refl, subst}
use Rattle.std.proofs.Common.{sym, ap, ◌∙◌, arith, eqb-true, leb-true}
use Rattle.std.proofs.Math.Option.{Option, some}
use Rattle.std.proofs.Math.ListN.{length-replicate}
use Rattle.std.proofs.lemmas.Bool.{not-true}
use Rattle.fields.specs.Names as name
use Rattle.message.specs.declared.Figures.{Figures}
use Rattle.message.specs.declared.Record.{Record}
use Rattle.message.specs.declared.Verdict.{Verdict}
use Rattle.reader.specs.Reading.{cut}
use Rattle.pen.specs.Listed.{span_of}
use Rattle.compose.specs.Recorded.{its_inside}
use Rattle.writer.specs.Draft.{digits, figures_as, numbered, Drafted}
use Rattle.writer.specs.Moved.{drafted_one}
use Rattle.head.specs.declared.Head.{Head}
use Rattle.head.specs.Head.{standing_at}
use Rattle.places.specs.Bytes.{same, same_is}
use Rattle.places.specs.Places.{get, set, first_of, used, empty}
use Rattle.flights.specs.Table.{places}
use Rattle.unanswered.specs.Waiting.{is_answer}
use Rattle.answers.specs.Given.{forgotten_from}
use Rattle.answers.specs.Given as answers
use Rattle.deeds.specs.Message.{Message}
use Rattle.deeds.specs.Deeds.{rta_deed, deed_by, or_held, new, is_filed, is_calm, is_offered, code_fits, may_on, makes, may, with_field, becomes_on, begins, becomes}
use Rattle.deeds.specs.Applying.{lowest_free, other, decision}
use Rattle.deeds.specs.Applying as applying
use Rattle.response.specs.Answering.{hyphened, answer_text}
use Rattle.memory.specs.End.{End, Memory, end_of, memory_of}
use Rattle.memory.specs.End as memory
use Rattle.rules.specs.Replies.{Reply, refused, done}
use Rattle.rules.specs.Reads.{message_in}
use Rattle.rules.specs.Answers.{good_answer, answer_to, is_offering, is_acceptance, proper, is_good}
use Rattle.rules.specs.Receiving.{referred, settled_sent, settle, retires, retired, hear_first, hear_again, hear_old, hear_message, hear, receive_by, receive}
use Rattle.rules.specs.Sending.{any_waiting, count_waiting, too_old, one_of, names_one, send_at, send, resend, fresh}
use Rattle.rules.specs.declared.Answer.{Answer}
use Rattle.rules.specs.declared.Answer.TheVariants.{Done}
use Rattle.rules.specs.declared.Outcome.{Outcome}
use Rattle.rules.specs.Calls.{refusal_in, Comes, Called}
use Rattle.head.specs.Sound.{Names}
use Rattle.link.specs.SetUp.{Sized, Sizes}
use Rattle.link.specs.Sends.{Sent}
use Rattle.pair.specs.kinds.Tools.{true_false}
use Rattle.pair.specs.kinds.Ends.{SoundEnd}
use Rattle.pair.specs.keeping.Memory.{formed_of, end_back, fresh_sound}
use Rattle.pair.specs.keeping.Calls as k
use Rattle.pair.specs.World.{Copy, Among, Side, latest, given, logged, copied, sent, resent, answered, Turn, sends, resends, hears, learns, Begun, Reach, begin, left}
use Rattle.pair.specs.World as world
use Rattle.pair.specs.Came.{came_done}
use Rattle.pair.specs.Demand.{partners}
use Rattle.pair.specs.Trees.{reading, is_read, record_in, told, read_judged, verdict_read, message_told}
use Rattle.scan.specs.Bools.{same_bool, and_yes}

-- WHAT A SIDE HAS BEHIND IT
pub record Past : Type 0 where
  pub log : List (List ℕ)
  pub messages : List Copy
  pub answers : List Copy

abbrev pub copy : ℕ → List ℕ → Copy
copy i w = record { index = i; text = w }

abbrev pub nothing : Past
nothing = record { log = []; messages = []; answers = [] }

-- it has sent w
abbrev pub wrote : List ℕ → Past → Past
wrote w p = record { log = w ∷ p.log; messages = copy (length p.log) w ∷ p.messages; answers = p.answers }

-- it has sent w once more, which is its message i
abbrev pub repeated : ℕ → List ℕ → Past → Past
repeated i w p = record { log = p.log; messages = copy i w ∷ p.messages; answers = p.answers }

-- its message i was answered by t
abbrev pub replied : ℕ → List ℕ → Past → Past
replied i t p = record { log = p.log; messages = p.messages; answers = copy i t ∷ p.answers }

-- A STAGE: the ends e and f, decoded, and what is behind them
abbrev pub side : End → Past → Side
side e p = record { head = e.head; memory = memory_of e; log = p.log; messages = p.messages; answers = p.answers }

pub record Stage (a b : List ℕ) (e f : End) (p q : Past) : Type 0 where
  pub reach : Reach a b (side e p) (side f q)
  pub here : SoundEnd e
  pub there : SoundEnd f

-- seen from the other side
pub across : {a b : List ℕ} {e f : End} {p q : Past} → Stage a b e f p q → Stage b a f e q p
across S = record { reach = partners S.reach; here = S.there; there = S.here }

-- A CALL THAT IS DONE, on a well formed end

abbrev outcome : End → List ℕ → Outcome
outcome e t = record { answer = Done (length t); head = e.head }

-- what stood in the lent buffer
abbrev before : ℕ → List ℕ
before room = replicate room 0

abbrev after : ℕ → List ℕ → List ℕ
after room t = t ++ drop (length t) (before room)

module _ (e : End) (s : SoundEnd e) (room : ℕ) (e' : End) (t : List ℕ) where
  comes : (y : Reply) → y ≡ done e' t → Comes y e.head (memory_of e) (before room) (outcome e' t) (memory_of e') (after room t)
  comes y q = subst (λ (x : Reply). Comes x e.head (memory_of e) (before room) (outcome e' t) (memory_of e') (after room t)) (sym q) (refl, refl, refl, refl)

  called : (step : End → Reply) → step e ≡ done e' t → Called step e.head (memory_of e) (before room) (outcome e' t) (memory_of e') (after room t)
  called step q = record { formed = λ f. comes (step (end_of e.head (memory_of e))) (ap step (end_back e s) ∙ q); damaged = λ d. absurd (d (formed_of e s)) }

  gives : given (outcome e' t) (after room t) ≡ some t
  gives = (came_done e.head (memory_of e) (before room) (outcome e' t) (memory_of e') (after room t) e' t (refl, refl, refl, refl)).given

long : (room : ℕ) → length (before room) ≡ room
long room = length-replicate {A = ℕ} room 0

-- WHAT MAY BE SENT: a text that is read and no answer, under the next number already, so that it is a draft of itself

unfoldable pub is_ready : Head → List ℕ → Bool
is_ready h w =
    is_read w
    && (not (is_answer (told w).kind)
    && (same (told w).from h.ours
    && (same (told w).to h.partners
    && (same (told w).digits (digits h.next) && eqb (told w).number h.next))))

record Ready (h : Head) (w : List ℕ) : Type 0 where
  read : is_read w ≡ true
  message : is_answer (told w).kind ≡ false
  from : (told w).from ≡ h.ours
  to : (told w).to ≡ h.partners
  digits : (told w).digits ≡ digits h.next
  number : (told w).number ≡ h.next

ready : (h : Head) (w : List ℕ) → is_ready h w ≡ true → Ready h w
unfolding is_ready
ready h w e =
    let m = told w in
    let p = and_yes (is_read w) _ e in
    let q = and_yes (not (is_answer m.kind)) _ p.1 in
    let r = and_yes (same m.from h.ours) _ q.1 in
    let s = and_yes (same m.to h.partners) _ r.1 in
    let t = and_yes (same m.digits (digits h.next)) _ s.1 in
    record {
      read = p.0;
      message = not-true (is_answer m.kind) q.0;
      from = (same_is m.from h.ours).yes r.0;
      to = (same_is m.to h.partners).yes s.0;
      digits = (same_is m.digits (digits h.next)).yes t.0;
      number = eqb-true m.number h.next t.1;
    }

module _ (ours partners : List ℕ) (n : ℕ) (w : List ℕ) (r : Record) (from : cut w r.parts.number.sender ≡ ours) (to : cut w r.parts.number.receiver ≡ partners) (d : cut w r.parts.number.digits ≡ digits n) where
  bytes_same : (i : ℕ) → cut w (span_of r i) ≡ cond (eqb i name.sender) ours (cond (eqb i name.receiver) partners (cond (eqb i name.number) (digits n) (cut w (span_of r i))))
  bytes_same i = go (eqb i name.sender) refl (eqb i name.receiver) refl (eqb i name.number) refl
    where
      part_is : (j : ℕ) → eqb i j ≡ true → cut w (span_of r i) ≡ cut w (span_of r j)
      part_is j e = ap (λ (x : ℕ). cut w (span_of r x)) (eqb-true i j e)

      go : (x : Bool) → eqb i name.sender ≡ x → (y : Bool) → eqb i name.receiver ≡ y → (z : Bool) → eqb i name.number ≡ z → cut w (span_of r i) ≡ cond x ours (cond y partners (cond z (digits n) (cut w (span_of r i))))
      go true e y u z v = part_is name.sender e ∙ from
      go false e true u z v = part_is name.receiver u ∙ to
      go false e false u true v = part_is name.number v ∙ d
      go false e false u false v = refl

figures_same : (n : ℕ) (f : Figures) → f.number ≡ n → f ≡ figures_as n f
figures_same n f e = λ i. record {
  number = e i;
  reference = f.reference;
  own = f.own;
  form = f.form;
  crossing = f.crossing;
  second = f.second;
  changes = f.changes;
  reason = f.reason;
}

drafts_itself : (h : Head) (w : List ℕ) → Ready h w → Drafted h.ours h.partners h.next w (record_in w) w
unfolding told numbered
drafts_itself h w y =
    let r = record_in w in
    let j = read_judged w y.read in
    record {
      inside = λ i o. its_inside w r j i;
      its = r;
      read = j;
      says = λ i. record { kind = r.kind; bytes = λ k. bytes_same h.ours h.partners h.next w r y.from y.to y.digits k i; figures = figures_same h.next r.figures y.number i };
    }

-- WHAT THE RULES COME TO, where the texts are read by computing

heard_so : (room : ℕ) (w : List ℕ) (e : End) (y : Reply) → is_read w ≡ true → hear room (told w) e ≡ y → receive room w e ≡ y
unfolding receive_by
heard_so room w e y r c = ap (λ (v : Verdict). receive_by v room w e) (verdict_read w r) ∙ ap (λ (m : Message). hear room m e) (message_told w r) ∙ c

-- t answers the text w, which waits at place i
settled_so : (room : ℕ) (t w : List ℕ) (i : ℕ) (e : End) (y : Reply) → is_read t ≡ true → is_read w ≡ true → hear room (told t) e ≡ settle i (told t).kind (message_in w) e → settle i (told t).kind (told w) e ≡ y → receive room t e ≡ y
settled_so room t w i e y r s c d = heard_so room t e y r (c ∙ ap (λ (m : Message). settle i (told t).kind m e) (message_told w s) ∙ d)

-- THE STEPS

module _ {a b : List ℕ} {e f : End} {p q : Past} (S : Stage a b e f p q) (room : ℕ) where
  pub sent_on : (w : List ℕ) → is_ready e.head w ≡ true → (e' : End) → send_at (lowest_free e.unanswered) room w (told w) e ≡ done e' w → Stage a b e' f (wrote w p) q
  unfolding told logged copied
  sent_on w x e' c = record {
    reach = subst (λ (g : Option (List ℕ)). Reach a b (sent (outcome e' w) (memory_of e') g (side e p)) (side f q)) (gives e S.here room e' w) (left S.reach turn);
    here = (k.send_sound e S.here w r (read_judged w y.read) y.message y.from y.to y.number room e' w done_so).sound;
    there = S.there;
  }
    where
      r : Record
      r = record_in w

      y : Ready e.head w
      y = ready e.head w x

      draft : Drafted e.head.ours e.head.partners e.head.next w r w
      draft = drafts_itself e.head w y

      done_so : send room w e ≡ done e' w
      done_so = ap (λ (m : Message). send_at (lowest_free e.unanswered) room w m e) (message_told w y.read) ∙ c

      comes_so : (v : List ℕ) → Drafted e.head.ours e.head.partners e.head.next w r v → send (length (before room)) v (end_of e.head (memory_of e)) ≡ done e' w
      comes_so v d = (λ i. send (long room i) (drafted_one e.head.ours e.head.partners e.head.next w r v w d draft i) (end_back e S.here i)) ∙ done_so

      call : Sent w r e.head (memory_of e) (before room) (outcome e' w) (memory_of e') (after room w)
      call = record {
        damaged = λ d. absurd (d (formed_of e S.here));
        answer = λ f z. absurd (true_false z y.message);
        broken = λ f z. absurd (z w draft);
        drafted = λ f z v d. comes e S.here room e' w (send (length (before room)) v (end_of e.head (memory_of e))) (comes_so v d);
      }

      turn : Turn (side e p) (side f q) (sent (outcome e' w) (memory_of e') (given (outcome e' w) (after room w)) (side e p)) (side f q)
      turn = sends w r (before room) (after room w) (outcome e' w) (memory_of e') (world.text w y.message draft) call

  pub resent_on : (n : ℕ) (w : List ℕ) → resend room n e ≡ done e w → Stage a b e f (repeated (latest (length p.log) n) w p) q
  unfolding copied
  resent_on n w c = record {
    reach = subst (λ (g : Option (List ℕ)). Reach a b (resent n (outcome e w) (memory_of e) g (side e p)) (side f q)) (gives e S.here room e w)
        (left S.reach (resends n (before room) (after room w) (outcome e w) (memory_of e) (called e S.here room e w (λ x. resend (length (before room)) n x) (ap (λ (l : ℕ). resend l n e) (long room) ∙ c))));
    here = S.here;
    there = S.there;
  }

  pub heard_on : (i : ℕ) (w : List ℕ) → Among (copy i w) p.messages → leb (length p.log) (i + 400) ≡ true → is_read w ≡ true → (f' : End) (t : List ℕ) → hear room (told w) f ≡ done f' t → Stage a b e f' (replied i t p) q
  unfolding copied
  heard_on i w l o r f' t c =
      let d = heard_so room w f (done f' t) r c in
      record {
        reach = subst (λ (g : Option (List ℕ)). Reach a b (answered i g (side e p)) (side f' q)) (gives f S.there room f' t)
            (left S.reach (hears (copy i w) (before room) (after room t) (outcome f' t) (memory_of f') l (leb-true (length p.log) (i + 400) o) (called f S.there room f' t (λ x. receive (length (before room)) w x) (ap (λ (n : ℕ). receive n w f) (long room) ∙ d))));
        here = S.here;
        there = (k.receive_sound room w f f' t S.there d).sound;
      }

  -- t answers the message i, whose text w waits at place n
  pub learnt_on : (i : ℕ) (t w : List ℕ) (n : ℕ) → Among (copy i t) p.answers → leb (length p.log) (i + 400) ≡ true → is_read t ≡ true → is_read w ≡ true → hear room (told t) e ≡ settle n (told t).kind (message_in w) e → (e' : End) → settle n (told t).kind (told w) e ≡ done e' [] → Stage a b e' f p q
  learnt_on i t w n l o r s h e' c =
      let d = settled_so room t w n e (done e' []) r s h c in
      record {
        reach = left S.reach (learns (copy i t) (before room) (after room []) (outcome e' []) (memory_of e') l (leb-true (length p.log) (i + 400) o) (called e S.here room e' [] (λ x. receive (length (before room)) t x) (ap (λ (m : ℕ). receive m t e) (long room) ∙ d)));
        here = (k.receive_sound room t e e' [] S.here d).sound;
        there = S.there;
      }

  -- t answers nothing that waits: all is as it was
  pub refused_on : (i : ℕ) (t : List ℕ) → Among (copy i t) p.answers → leb (length p.log) (i + 400) ≡ true → is_read t ≡ true → (z : Answer) → hear room (told t) e ≡ refused (refusal_in z) → Stage a b e f p q
  refused_on i t l o r z c =
      let d = ap (λ (m : ℕ). receive m t e) (long room) ∙ heard_so room t e (refused (refusal_in z)) r c in
      record {
        reach = left S.reach (learns (copy i t) (before room) (before room) (record { answer = z; head = e.head }) (memory_of e) l (leb-true (length p.log) (i + 400) o)
            (record {
              formed = λ f. subst (λ (x : Reply). Comes x e.head (memory_of e) (before room) (record { answer = z; head = e.head }) (memory_of e) (before room)) (sym (ap (receive (length (before room)) t) (end_back e S.here) ∙ d)) (refl, refl, refl, refl);
              damaged = λ x. absurd (x (formed_of e S.here));
            }));
        here = S.here;
        there = S.there;
      }

-- WHAT IS SHOWN BY A STAGE: two fresh partners can come to a world whose ends are e and f
pub record Shown (a b : List ℕ) (e f : End) : Type 0 where
  pub first : Side
  pub second : Side
  pub reach : Reach a b first second
  pub first_end : end_of first.head first.memory ≡ e
  pub second_end : end_of second.head second.memory ≡ f

unfoldable pub shown : {a b : List ℕ} {e f : End} {p q : Past} → Stage a b e f p q → Shown a b e f
shown {a} {b} {e} {f} {p} {q} S = record { first = side e p; second = side f q; reach = S.reach; first_end = end_back e S.here; second_end = end_back f S.there }

-- A FRESH STAGE, over memory in which any byte stands

lent : ℕ → ℕ → ℕ → Memory
lent v m n = record { sent = replicate (m * 768) v; received = replicate (n * 768) v; unanswered = replicate 20480 v; answers = replicate 1000 v }

filled_places : (v m : ℕ) → places (replicate (m * 768) v) ≡ m
filled_places v m = let l = length-replicate {A = ℕ} (m * 768) v in omega arith

filled_sized : (v m : ℕ) → 1 ≤ m → m ≤ 32 → Sized (replicate (m * 768) v)
filled_sized v m a b =
    let l = length-replicate {A = ℕ} (m * 768) v in
    let k : places (replicate (m * 768) v) ≡ m = filled_places v m in
    record { some = omega arith; most = omega arith; whole = omega arith }

module _ (v m n : ℕ) (m₁ : 1 ≤ m) (m₂ : m ≤ 32) (n₁ : 1 ≤ n) (n₂ : n ≤ 32) where
  lent_sizes : Sizes (lent v m n)
  unfolding lent
  lent_sizes = record { sent = filled_sized v m m₁ m₂; received = filled_sized v n n₁ n₂; unanswered = length-replicate {A = ℕ} 20480 v; answers = length-replicate {A = ℕ} 1000 v }

  begun : (a b : List ℕ) → Names a b → Begun a b (side (fresh a b m n) nothing)
  unfolding lent
  begun a b x = record {
    head_before = record { ours = []; partners = []; next = v; highest = v };
    memory_before = lent v m n;
    sizes = lent_sizes;
    names = x;
    outcome = outcome (fresh a b m n) [];
    set_up = record {
      unsized = λ s. absurd (s lent_sizes);
      unnamed = λ s y. absurd (y x);
      begun = λ s y. (refl, refl, (λ i. memory_of (fresh a b (sym (filled_places v m) i) (sym (filled_places v n) i))), refl);
    };
    head = refl;
    log = refl;
    messages = refl;
    answers = refl;
  }

  begun_sound : (a b : List ℕ) → Names a b → SoundEnd (fresh a b m n)
  begun_sound a b x = fresh_sound a b m n x m₁ m₂ n₁ n₂

  pub start : (a b : List ℕ) → Names a b → Names b a → Stage a b (fresh a b m n) (fresh b a m n) nothing nothing
  start a b x y = record { reach = begin (begun a b x) (begun b a y); here = begun_sound a b x; there = begun_sound b a y }

-- what has to be seen through for the rules to be computed: `unfolding ruling` opens all of it. The rule that settles stays shut,
-- since the text that waited is read by itself
unfoldable pub ruling : Unit {0}
unfolding reading latest digits is_ready standing_at get set first_of used empty is_answer answers.after forgotten_from rta_deed deed_by or_held new is_filed is_calm is_offered code_fits may_on makes may with_field becomes_on begins becomes other decision applying.after hyphened answer_text memory.numbered good_answer answer_to is_offering is_acceptance proper is_good referred settled_sent retires retired hear_first hear_again hear_old hear_message hear any_waiting count_waiting too_old one_of same_bool names_one send_at
ruling = tt
