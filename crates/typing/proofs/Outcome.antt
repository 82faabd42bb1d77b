-- What checking answers and leaves, by the question that ends it.
use Rattle.std.proofs.Common.{Result, Ok, Err, IsErrAnd, ◌≡◌, refl, sym, ap, subst, ◌∙◌, true, false, cond, ◌&&◌, ◌↔◌}
use Rattle.std.proofs.Common.{[], ℕ, ◌≤◌, nat_le, length}
use Rattle.calculus.specs.Types.{Ty, size_t}
use Rattle.rules.specs.Answer.{Bytes, Octets, Answer, accepted, refused, ◌>>◌ as then}
use Rattle.rules.specs.Limits.{work_length, answer_length}
use Rattle.rules.specs.Groups.{properties_of}
use Rattle.rules.specs.Types.{type_at}
use Rattle.rules.specs.Script.{records, term}
use Rattle.rules.specs.Typing.{of_typing, typing}
use Rattle.rules.specs.Calls.{zeros, q1, script_check, check_call, type_records, answer_after, work_after}
use Rattle.rules.specs.Profile.{ok39, q39, profile_checking}
use Rattle.promises.proofs.Answers.{accepted_inj, accepted≢refused, number_inj}
use Rattle.promises.proofs.Deciding.{Own, own_yes, own_no, ask_own, each_own}
use Rattle.promises.proofs.EveryCallAnswers.{every_call_answers, script_early}
use Rattle.promises.proofs.AcceptedByTheRules.{longer_same, accepted_by_the_rules}
use Rattle.promises.proofs.Profile.{page_scripts, longer_in_profile}
use Rattle.answer.specs.Numbers.{question_number}
use Rattle.answer.specs.Said.{answer_of}
use Rattle.answer.specs.declared.Refusal.{Refusal}
use Rattle.inference.specs.Memory.{Meets, meets_type, meets_refusal}
use Rattle.typing.specs.Judged.{HandsOver, Reports, Judged, JudgedInProfile}

abbrev pub Outcome : Answer Ty → Result ℕ Refusal → Bytes → Bytes → Bytes → Bytes → Type 0
Outcome o x work work' answer answer' = HandsOver o (answer_of x) work work' answer answer'

-- a question that comes before typing leaves both buffers as they were
early : (o : Answer Ty) (e : Refusal) (x : Result ℕ Refusal) (work answer : Bytes) → o ≡ refused (question_number e.question) e.place → of_typing (question_number e.question) ≡ false → IsErrAnd x (λ y. y ≡ e)
    → Outcome o x work work answer answer
unfolding type_records
early o e (Ok n) work answer h l p = absurd p
early o e (Err y) work answer h l p = record {
  says = ap (λ (z : Refusal). refused (question_number z.question) z.place) p ∙ sym (ap type_records h);
  clears = sym (ap (λ y. work_after y work) h ∙ ap (λ b. cond b (zeros (length work)) work) l);
  writes = sym (ap (λ y. answer_after y answer) h);
}

-- a question of another number than typing's comes before it
before_typing : {n : ℕ} {q p : ℕ} {a : Answer (Unit {0})} → Own n a → of_typing n ≡ false → refused q p ≡ a → of_typing q ≡ false
before_typing own_yes l e = accepted≢refused (sym e)
before_typing own_no l e = ap of_typing (number_inj e) ∙ l

-- the answer's first part
counted : {o : Answer Ty} {b : ℕ} {w : Bytes} {x : Result ℕ Refusal} {v : Bytes} → Meets o b w x v → answer_of x ≡ type_records o
unfolding type_records
counted (meets_type m) = ap accepted m.sized.count
counted meets_refusal = refl

-- a question of typing clears the work buffer
cleared : (o : Answer Ty) (work : Bytes) → ((q p : ℕ) → o ≡ refused q p → of_typing q ≡ true) → zeros (length work) ≡ work_after o work
cleared (accepted t) work h = refl
cleared (refused q p) work h = sym (ap (λ b. cond b (zeros (length work)) work) (h q p refl))

module _ (g t s work answer : Bytes) where
  abbrev pub typed : Answer Ty
  typed = typing (properties_of g) (type_at t) [] 0 (term s)

  -- typing's answer, as the buffers have it
  pub given : {x : Result ℕ Refusal} {w₁ work' answer' : Bytes} → Meets typed 0 work x w₁ → work' ≡ zeros (length work) → answer' ≡ answer_after typed answer
      → Outcome typed x work work' answer answer'
  given m p q = record {
    says = counted m;
    clears = p ∙ cleared typed work (λ n i k. ((every_call_answers g t s).typing_asks n i k).0);
    writes = q;
  }

  -- A call that asks question 1, then 2 to 19, and then goes on with the rest.
  abbrev pub GoesOn : Answer Ty → Answer Ty → Type 0
  GoesOn call rest = call ≡ then (q1 (length work) (length answer)) (then (script_check [] g t s) rest)

  abbrev pub checked : Answer Ty
  checked = check_call (length work) (length answer) g t s

  pub checked_goes_on : GoesOn checked typed
  unfolding check_call
  checked_goes_on = refl

  abbrev pub profiled : Answer Ty
  profiled = profile_checking (length work) (length answer) g t s

  pub profiled_goes_on : GoesOn profiled (then (q39 s) typed)
  unfolding profile_checking
  profiled_goes_on = refl

  module _ (call rest : Answer Ty) (c : GoesOn call rest) where
    pub short : (e : Refusal) (x : Result ℕ Refusal) → answer_of {A = Unit {0}} (Err e) ≡ q1 (length work) (length answer) → IsErrAnd x (λ y. y ≡ e)
        → Outcome call x work work answer answer
    short e x h p =
        early call e x work answer (c ∙ ap (λ y. then y (then (script_check [] g t s) rest)) (sym h))
        (before_typing (ask_own 1 0 (nat_le work_length (length work) && nat_le answer_length (length answer))) refl h) p

    module _ (r : accepted tt ≡ q1 (length work) (length answer)) where
      roomy : call ≡ then (script_check [] g t s) rest
      roomy = c ∙ ap (λ y. then y (then (script_check [] g t s) rest)) (sym r)

      pub script_refused : (e : Refusal) (x : Result ℕ Refusal) → answer_of {A = Unit {0}} (Err e) ≡ script_check [] g t s → IsErrAnd x (λ y. y ≡ e)
          → Outcome call x work work answer answer
      script_refused e x h p =
          early call e x work answer (roomy ∙ ap (λ y. then y rest) (sym h)) (script_early [] g t s (question_number e.question) e.place (sym h)) p

      pub asked_19 : accepted tt ≡ script_check [] g t s → call ≡ rest
      asked_19 h = roomy ∙ ap (λ y. then y rest) (sym h)

  -- 39, once the script's other questions are answered yes
  pub recursion_refused : profiled ≡ then (q39 s) typed → (e : Refusal) (x : Result ℕ Refusal) → answer_of {A = Unit {0}} (Err e) ≡ q39 s → IsErrAnd x (λ y. y ≡ e)
      → Outcome profiled x work work answer answer
  recursion_refused c e x h p =
      early profiled e x work answer (c ∙ ap (λ y. then y typed) (sym h)) (before_typing (each_own 39 (records s) (ok39 s)) refl h) p

  pub asked_39 : profiled ≡ then (q39 s) typed → accepted tt ≡ q39 s → profiled ≡ typed
  asked_39 c h = c ∙ ap (λ y. then y typed) (sym h)

-- an answer with the outcome of typing
pub as_typed : (x : Result ℕ Refusal) (work work' answer answer' : Bytes) {call typed : Answer Ty} → call ≡ typed → Outcome typed x work work' answer answer'
    → Outcome call x work work' answer answer'
as_typed x work work' answer answer' e h = subst (λ o. Outcome o x work work' answer answer') (sym e) h

-- the answer reports the verdict
counts_when : (o : Answer Ty) (n : ℕ) → (type_records o ≡ accepted n) ↔ ((type : Ty) × (o ≡ accepted type) × (n ≡ size_t type))
unfolding type_records
counts_when (accepted type) n = (λ e. (type, refl, sym (accepted_inj e)), λ h. ap accepted (ap size_t (accepted_inj h.1) ∙ sym h.2))
counts_when (refused q p) n = (λ e. accepted≢refused (sym e), λ h. accepted≢refused (sym h.1))

reported : (x : Result ℕ Refusal) (work work' answer answer' : Bytes) {call verdict : Answer Ty} → call ≡ verdict → Outcome call x work work' answer answer'
    → Reports (λ type. verdict ≡ accepted type) answer (answer_of x) answer'
reported x work work' answer answer' {call} {verdict} same h =
    record {
      counts_when = λ n.
          let c = counts_when verdict n in
          (λ e. c.0 (sym (h.says ∙ ap type_records same) ∙ e), λ w. h.says ∙ ap type_records same ∙ c.1 w);
      writes = λ type a. h.writes ∙ ap (λ (o : Answer Ty). answer_after o answer) (same ∙ a);
    }

-- With buffers as long as question 1 asks a check reports what it promises.
module _ (g t s work answer : Bytes) (G : Octets g) (O : Octets s) (x : Result ℕ Refusal) (work' answer' : Bytes) where
  pub judged : Outcome (checked g t s work answer) x work work' answer answer'
      → work_length ≤ length work → answer_length ≤ length answer → Judged g t s answer (answer_of x) answer'
  judged h l m =
      record {
        promise = accepted_by_the_rules g t s G O;
        reports = reported x work work' answer answer' (longer_same g t s (length work) (length answer) l m) h;
      }

  pub judged_in_profile : Outcome (profiled g t s work answer) x work work' answer answer'
      → work_length ≤ length work → answer_length ≤ length answer → JudgedInProfile g t s answer (answer_of x) answer'
  judged_in_profile h l m =
      record {
        promise = page_scripts g t s G O;
        reports = reported x work work' answer answer' (longer_in_profile g t s (length work) (length answer) l m) h;
      }
