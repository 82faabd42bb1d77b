-- The whole call, by what ends it.
use Rattle.std.proofs.Common.{◌≡◌, refl, sym, ap, ◌∙◌, [], ◌∷◌, ℕ, ◌-◌, ◌*◌, ◌≤◌, ◌<◌, min, nat_le, leb-true, arith}
use Rattle.std.proofs.Common.{length, take, take_at, length-append, Result, Err}
use Rattle.calculus.specs.Types.{Ty}
use Rattle.rules.specs.Answer.{Bytes, Octets, Answer, accepted, refused, ◌>>=◌, ◌>>◌}
use Rattle.rules.specs.Limits.{script_width, work_length}
use Rattle.rules.specs.Groups.{rows, properties_of}
use Rattle.rules.specs.Types.{type_at}
use Rattle.rules.specs.Script.{records, encode, term, q13}
use Rattle.rules.specs.Typing.{q21, typing}
use Rattle.rules.specs.Run.{Ran, run}
use Rattle.rules.specs.Calls.{zeros, q25, q26, own_check, script_check, first_after, scratch_after}
use Rattle.rules.specs.Packet.{application, q1_work, q39_if, q37, q38, q18_whole, before_typing, application_check}
use Rattle.rules.specs.Packet.{desk_check, desk_run, Packet as Paged, packet_of_run, packet_call, packet_report}
use Rattle.rules.specs.Packet.{desk_work_after, packet_page_after}
use Rattle.rules.proofs.Asked.{ask_true, and_then, regroup}
use Rattle.promises.specs.Packet.{PacketByHand}
use Rattle.promises.proofs.Checked.{script_passed}
use Rattle.promises.proofs.AcceptedByTheRules.{goes}
use Rattle.promises.proofs.PacketQuestions.{issuing_is}
use Rattle.promises.proofs.Packet.{packet_by_hand, RunnableApplication, ready}
use Rattle.answer.specs.Numbers.{question_number}
use Rattle.answer.specs.declared.Refusal.{Refusal}
use Rattle.substitution.proofs.Reading.{term_length}
use Rattle.evaluation.specs.Runs.{ReportsRun}
use Rattle.evaluation.specs.declared.Halt.{Halt}
use Rattle.packet.specs.Checks.{entry_asked, call_check, size_check, from_26, from_typing, Accepted19}
use Rattle.packet.specs.Reports.{said_packet}
use Rattle.packet.specs.Runs.{Runnable, LeftByRun}
use Rattle.packet.specs.declared.Packet.{Packet}
use Rattle.packet.proofs.Passing.{whole_of}
use Rattle.packet.proofs.Sizes.{whole_length}

-- the questions, as the pieces ask them
bind_same : (m : Answer Ty) (f f' : Ty → Answer (Unit {0})) → ((s : Ty) → f s ≡ f' s) → ◌>>=◌ m f ≡ ◌>>=◌ m f'
bind_same (accepted s) f f' h = h s
bind_same (refused q p) f f' h = refl

then_same : (m : Answer (Unit {0})) {a b : Answer (Unit {0})} → a ≡ b → ◌>>◌ m a ≡ ◌>>◌ m b
then_same m h = ap (λ (x : Answer (Unit {0})). ◌>>◌ m x) h

last_pieces : (g script entry : Bytes) (group first scratch : ℕ) (s u : Ty) → application_check g script entry group first scratch s u ≡ from_26 g script entry group first scratch s u
unfolding application_check from_26 call_check size_check
last_pieces g script entry group first scratch s u =
    let whole = application group script entry in
    let size = ◌>>◌ (q13 (first ∷ scratch ∷ []) whole) (q18_whole whole) in
    let reads = q21 (properties_of g) 0 s group in
    let side = q38 (properties_of g) u s in
    then_same (q26 (term entry))
    (then_same (q25 0 group (rows g))
    (sym (regroup (q37 s) (◌>>◌ reads side) size ∙ then_same (q37 s) (regroup reads side size))))

pub pieces : (g t script entry : Bytes) (group profile work first scratch : ℕ)
    → desk_check g t script entry group profile work first scratch ≡ ◌>>◌ (before_typing g t script profile work) (from_typing g t script entry group profile first scratch)
unfolding desk_check from_typing entry_asked
pieces g t script entry group profile work first scratch =
    let typed = typing (properties_of g) (type_at t) [] 0 (term entry) in
    then_same (before_typing g t script profile work)
    (bind_same (typing (properties_of g) (type_at t) [] 0 (term script)) _ _
    (λ s.
    then_same (own_check [] g t entry)
    (then_same (q39_if profile entry)
    (bind_same typed _ _ (λ u. last_pieces g script entry group first scratch s u)))
    ∙ sym (regroup (own_check [] g t entry) (q39_if profile entry) (◌>>=◌ typed (λ u. from_26 g script entry group first scratch s u)))))

module _ (g t script entry : Bytes) (G : Octets g) (O : Octets script) (E : Octets entry) (group budget profile : ℕ) (work first scratch sheet : Bytes) where
  abbrev begun : Answer (Unit {0})
  begun = before_typing g t script profile (length work)

  abbrev later : Answer (Unit {0})
  later = from_typing g t script entry group profile (length first) (length scratch)

  abbrev ran : Answer Ran
  ran = desk_run g t script entry group budget profile (length work) (length first) (length scratch)

  abbrev packet : Answer Paged
  packet = packet_call g t script entry group budget profile (length work) (length first) (length scratch) (length sheet)

  abbrev pub Says : Result Packet Refusal → Bytes → Bytes → Bytes → Bytes → Type 0
  Says r work' first' scratch' sheet' =
      (said_packet r ≡ packet_report packet)
      × (work' ≡ desk_work_after begun work)
      × (first' ≡ first_after ran first)
      × (scratch' ≡ scratch_after ran scratch)
      × (sheet' ≡ packet_page_after packet sheet)
      × PacketByHand g t script entry group budget profile (length work) first scratch (length sheet)

  by_hand : PacketByHand g t script entry group budget profile (length work) first scratch (length sheet)
  by_hand = packet_by_hand g t script entry group budget profile (length work) first scratch (length sheet) G O E

  -- a refusal before the run
  stops : (e : Refusal) {r : Result Packet Refusal} {work' : Bytes} → desk_check g t script entry group profile (length work) (length first) (length scratch) ≡ refused (question_number e.question) e.place
      → r ≡ Err e → work' ≡ desk_work_after begun work → Says r work' first scratch sheet
  unfolding desk_run packet_call packet_report
  stops e h i k = rw (i, h) (refl, k, refl, refl, refl, by_hand)

  pub refused_early : (e : Refusal) {r : Result Packet Refusal} → refused (question_number e.question) e.place ≡ begun → r ≡ Err e → Says r work first scratch sheet
  refused_early e h i =
      stops e (pieces g t script entry group profile (length work) (length first) (length scratch) ∙ ap (λ (m : Answer (Unit {0})). ◌>>◌ m later) (sym h)) i
      (ap (λ (m : Answer (Unit {0})). desk_work_after m work) h)

  pub refused_later : (e : Refusal) {r : Result Packet Refusal} {work' : Bytes} → accepted tt ≡ begun → refused (question_number e.question) e.place ≡ later → r ≡ Err e
      → work' ≡ zeros (length work) → Says r work' first scratch sheet
  refused_later e b h i k =
      stops e (pieces g t script entry group profile (length work) (length first) (length scratch) ∙ goes begun later (sym b) ∙ sym h) i
      (k ∙ ap (λ (m : Answer (Unit {0})). desk_work_after m work) b)

  -- the questions before typing, all answered yes
  pub begun_well : accepted tt ≡ begun → Accepted19 g t script × (work_length ≤ length work)
  unfolding before_typing
  begun_well b =
      let p = and_then (q1_work (length work)) _ (sym b) in
      let q = and_then (script_check [] g t script) (q39_if profile script) p.1 in
      (record { groups = G; script = O; passed = q.0 }, leb-true work_length (length work) (ask_true 1 0 (nat_le work_length (length work)) p.0))

  module _ (b : accepted tt ≡ begun) (l : accepted tt ≡ later) where
    asked : desk_check g t script entry group profile (length work) (length first) (length scratch) ≡ accepted tt
    asked = pieces g t script entry group profile (length work) (length first) (length scratch) ∙ goes begun later (sym b) ∙ sym l

    abbrev started : Ran
    started = run (properties_of g) (type_at t) (min (length first) (length scratch)) budget (term (application group script entry))

    pub whole_ready : RunnableApplication g t script entry group budget profile (length work) (length first) (length scratch) started
    whole_ready = ready g t script entry G O E group budget profile (length work) (length first) (length scratch) asked

    pub narrow : group < 256
    narrow = whole_ready.narrow

    -- what the run is given
    pub runnable : Runnable g t script entry group (length first) (length scratch)
    runnable =
        let A = (begun_well b).0 in
        let P = entry_whole in
        record {
          groups = G;
          whole = whole_ready.octets;
          passed = whole_ready.passed;
          script_whole = whole_length (whole_of g t script A);
          entry_whole = P;
          in_first = whole_ready.in_first;
          in_scratch = whole_ready.in_scratch;
        }
      where
        entry_whole : length entry ≡ script_width * records entry
        entry_whole =
            let W = script_passed [] g t (application group script entry) whole_ready.octets whole_ready.passed in
            omega
            (arith, length-append script entry, whole_length (whole_of g t script (begun_well b).0), ap length W.encoded, term_length (term (application group script entry)))

    module _ {halt : Halt} {first' scratch' : Bytes} (q : ReportsRun started first scratch halt first' scratch') (l' : length first' ≡ length first) where
      -- and what it leaves
      abbrev pub ended : LeftByRun g t group halt first'
      ended =
          record {
            ran = started;
            told = q.told;
            fits = omega (arith, q.told.records, ap length q.first_is, term_length started.last, length-append (encode started.last) (zeros (length first - length (encode started.last))));
            holds = ap (take (script_width * halt.records)) q.first_is
                ∙ take_at (encode started.last) (zeros (length first - length (encode started.last))) (script_width * halt.records) (omega (arith, q.told.records, term_length started.last));
            shows = whole_ready.shows;
          }

      pub says : (r : Result Packet Refusal) {work' sheet' : Bytes} → work' ≡ zeros (length work)
          → (said_packet r ≡ packet_report (packet_of_run g group (length sheet) started)) × (sheet' ≡ packet_page_after (packet_of_run g group (length sheet) started) sheet)
          → Says r work' first' scratch' sheet'
      says r k p =
          let i = issuing_is g t script entry group budget profile (length work) (length first) (length scratch) (length sheet) ∙ goes (desk_check g t script entry group profile (length work) (length first) (length scratch)) _ asked in (
            p.0 ∙ sym (ap packet_report i),
            k ∙ ap (λ (m : Answer (Unit {0})). desk_work_after m work) b,
            q.first_is ∙ sym (ap (λ (m : Answer Ran). first_after m first) whole_ready.runs),
            q.scratch_is ∙ sym (ap (λ (m : Answer Ran). scratch_after m scratch) whole_ready.runs),
            p.1 ∙ sym (ap (λ (m : Answer Paged). packet_page_after m sheet) i),
            by_hand,
          )
