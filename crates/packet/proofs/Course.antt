-- From the script's typing on, stage by stage.
use Rattle.std.proofs.Common.{◌≡◌, refl, sym, ap, ◌∙◌, subst, [], ℕ, Result, Ok, Err, IsErrAnd}
use Rattle.calculus.specs.Types.{Ty}
use Rattle.rules.specs.Answer.{Bytes, Octets, Answer, accepted, refused, ◌>>=◌, ◌>>◌}
use Rattle.rules.specs.Groups.{properties_of}
use Rattle.rules.specs.Types.{type_at}
use Rattle.rules.specs.Script.{term}
use Rattle.rules.specs.Typing.{typing}
use Rattle.rules.specs.Calls.{types_check, own_check, script_check}
use Rattle.rules.specs.Packet.{q39_if}
use Rattle.rules.proofs.Asked.{and_then}
use Rattle.promises.proofs.Answers.{accepted≢refused, go_on}
use Rattle.promises.proofs.Checked.{script_passed}
use Rattle.answer.specs.Numbers.{question_number}
use Rattle.answer.specs.Said.{answer_of}
use Rattle.answer.specs.declared.Refusal.{Refusal}
use Rattle.answer.proofs.Passed.{returned, left_by, then_asked}
use Rattle.types.specs.Held.{Held}
use Rattle.inference.specs.Memory.{Meets}
use Rattle.inference.proofs.Rules.{refused_as}
use Rattle.packet.specs.Checks.{entry_asked, from_26, from_typing, Accepted19, SetApart, found_apart, refused_apart}
use Rattle.packet.specs.Checks.{TypesAtHand}
use Rattle.packet.proofs.Apart.{type_found}

-- a type that is set apart
pub record TypeInFront (T : Answer Ty) (w : Bytes) : Type 0 where
  pub type : Ty
  pub is : T ≡ accepted type
  pub held : Held w type

pub apart_yes : {T : Answer Ty} {a : Answer (Unit {0})} {w : Bytes} → SetApart T a w → a ≡ accepted tt → TypeInFront T w
apart_yes (found_apart {s} h) e = record { type = s; is = refl; held = h }
apart_yes refused_apart e = accepted≢refused (sym e)

pub apart_no : {T : Answer Ty} {a : Answer (Unit {0})} {w : Bytes} {q p : ℕ} → SetApart T a w → a ≡ refused q p → T ≡ refused q p
apart_no (found_apart h) e = accepted≢refused e
apart_no refused_apart e = cc

module _ {T : Answer Ty} (f : Ty → Answer (Unit {0})) where
  pub typing_stops : (r : Result (Unit {0}) Refusal) (e : Refusal) → IsErrAnd r (λ y. y ≡ e) → T ≡ refused (question_number e.question) e.place → answer_of r ≡ ◌>>=◌ T f
  typing_stops r e p h = ap answer_of (returned r p) ∙ sym (ap (λ (o : Answer Ty). ◌>>=◌ o f) h)

  pub typing_goes : {s : Ty} {a : Answer (Unit {0})} → T ≡ accepted s → a ≡ f s → a ≡ ◌>>=◌ T f
  typing_goes h k = k ∙ sym (ap (λ (o : Answer Ty). ◌>>=◌ o f) h)

module _ (g t script entry : Bytes) (group profile first scratch : ℕ) where
  abbrev script_typing : Answer Ty
  script_typing = typing (properties_of g) (type_at t) [] 0 (term script)

  abbrev entry_typing : Answer Ty
  entry_typing = typing (properties_of g) (type_at t) [] 0 (term entry)

  abbrev after_entry : Ty → Answer (Unit {0})
  after_entry s = ◌>>=◌ entry_typing (λ u. from_26 g script entry group first scratch s u)

  abbrev after_script : Ty → Answer (Unit {0})
  after_script s = ◌>>◌ (entry_asked g t entry profile) (after_entry s)

  abbrev whole : Answer (Unit {0})
  whole = from_typing g t script entry group profile first scratch

  pub script_untyped : {x : Result (Unit {0}) Refusal} {w : Bytes} {e : Refusal} (r : Result (Unit {0}) Refusal) → SetApart script_typing (answer_of x) w → x ≡ Err e
      → IsErrAnd r (λ y. y ≡ e) → answer_of r ≡ whole
  unfolding from_typing
  script_untyped {e = e} r h i p = typing_stops after_script r e p (apart_no h (ap answer_of i))

  pub entry_refused : {w : Bytes} (e : Refusal) (r : Result (Unit {0}) Refusal) → TypeInFront script_typing w → answer_of {A = Unit {0}} (Err e) ≡ entry_asked g t entry profile
      → IsErrAnd r (λ y. y ≡ e) → answer_of r ≡ whole
  unfolding from_typing
  entry_refused e r F h p = typing_goes after_script F.is (left_by (entry_asked g t entry profile) (after_entry F.type) r e h p)

  -- an entry that is asked no more before its typing
  pub entry_passed : types_check g t ≡ accepted tt → accepted tt ≡ entry_asked g t entry profile → script_check [] g t entry ≡ accepted tt
  unfolding entry_asked script_check
  entry_passed T h = go_on T (and_then (own_check [] g t entry) (q39_if profile entry) (sym h)).0

  pub entry_untyped : {w v v' : Bytes} {x : Result ℕ Refusal} {e : Refusal} (r : Result (Unit {0}) Refusal) → TypeInFront script_typing w
      → accepted tt ≡ entry_asked g t entry profile → Meets entry_typing 0 v x v' → x ≡ Err e → IsErrAnd r (λ y. y ≡ e) → answer_of r ≡ whole
  unfolding from_typing
  entry_untyped {v = v} {v' = v'} {e = e} r F h m i p =
      typing_goes after_script F.is
      (then_asked (entry_asked g t entry profile) (after_entry F.type) h
      (typing_stops (λ u. from_26 g script entry group first scratch F.type u) r e p
      (refused_as (subst (λ (y : Result ℕ Refusal). Meets entry_typing 0 v y v') i m))))

  pub goes_on : {w : Bytes} {u : Ty} {a : Answer (Unit {0})} (F : TypeInFront script_typing w) → accepted tt ≡ entry_asked g t entry profile → entry_typing ≡ accepted u
      → a ≡ from_26 g script entry group first scratch F.type u → a ≡ whole
  unfolding from_typing
  goes_on F h k l =
      typing_goes after_script F.is
      (then_asked (entry_asked g t entry profile) (after_entry F.type) h (typing_goes (λ u. from_26 g script entry group first scratch F.type u) k l))

  -- the tables of a script that has passed
  pub tables_passed : Accepted19 g t script → types_check g t ≡ accepted tt
  tables_passed A = (script_passed [] g t script A.script A.passed).types

  abbrev pub typed_of : {w v v' : Bytes} {x : Result ℕ Refusal} {n : ℕ} → Accepted19 g t script → Octets entry → TypeInFront script_typing w → accepted tt ≡ entry_asked g t entry profile
      → Meets entry_typing 0 v x v' → x ≡ Ok n → TypesAtHand g t script entry w v'
  typed_of A E F h m i =
      record {
        script_passed = A;
        entry_passed = record { groups = A.groups; script = E; passed = entry_passed (tables_passed A) h };
        script_type = F.type;
        script_held = F.held;
        entry_type = (type_found m i).type;
        entry_held = (type_found m i).wrote.sized.held;
      }
