-- Questions one after another, by what each call has answered.
use Rattle.std.proofs.Common.{◌≡◌, sym, ap, ◌∙◌, [], ℕ, ◌<◌, nat_lt, ltb-true, Result, Ok, Err}
use Rattle.rules.specs.Answer.{Bytes, Answer, accepted, ◌>>◌}
use Rattle.rules.specs.Calls.{q25, groups_check, types_check}
use Rattle.rules.specs.Groups.{rows}
use Rattle.rules.proofs.Asked.{ask_true, and_then}
use Rattle.promises.proofs.Checked.{script_passed}
use Rattle.promises.proofs.Packet.{byte_group}
use Rattle.answer.specs.declared.Refusal.{Refusal}
use Rattle.answer.specs.Said.{answer_of}
use Rattle.answer.proofs.Passed.{then_asked, stopped}
use Rattle.packet.specs.Checks.{Accepted19, WholeTerm}

pub said_yes : (a : Answer (Unit {0})) {x : Result (Unit {0}) Refusal} {u : Unit {0}} → x ≡ Ok u → answer_of x ≡ a → a ≡ accepted tt
said_yes a i h = sym h ∙ ap answer_of i

pub after_yes : {B : Type 0} (a : Answer (Unit {0})) (b : Answer B) {x : Result (Unit {0}) Refusal} {u : Unit {0}} {c : Answer B} → x ≡ Ok u → answer_of x ≡ a → c ≡ b → c ≡ ◌>>◌ a b
after_yes a b i h k = then_asked a b (sym (said_yes a i h)) k

pub at_no : (a b : Answer (Unit {0})) {x : Result (Unit {0}) Refusal} {e : Refusal} → x ≡ Err e → answer_of x ≡ a → answer_of x ≡ ◌>>◌ a b
at_no a b i h = stopped a b i (sym (ap answer_of i) ∙ h)

-- what a script that has passed is
pub whole_of : (g t s : Bytes) → Accepted19 g t s → WholeTerm s
whole_of g t s A =
    let P = script_passed [] g t s A.script A.passed in
    record { encoded = P.encoded; small = P.fit.small; shallow = P.fit.shallow }

-- a group of the table is a byte
pub narrow : (g t s : Bytes) (group : ℕ) → Accepted19 g t s → q25 0 group (rows g) ≡ accepted tt → group < 256
unfolding types_check
narrow g t s group A h =
    let P = script_passed [] g t s A.script A.passed in
    byte_group g group (and_then (groups_check g) _ P.types).0 (ltb-true group (rows g) (ask_true 25 0 (nat_lt group (rows g)) h))
