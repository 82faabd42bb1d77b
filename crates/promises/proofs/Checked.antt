-- Questions 2 to 19 and 36, all answered yes, say that a script is the encoding of a formed term within the limits, and
-- back.
use Rattle.std.proofs.Common.{◌≡◌, List, ℕ, ◌≤◌, ◌<◌, arith, length, get_or}
use Rattle.calculus.specs.Groups.{Lattice}
use Rattle.calculus.specs.Terms.{Term}
use Rattle.rules.specs.Answer.{Bytes, Octets, accepted}
use Rattle.rules.specs.Limits.{script_limit, depth_limit}
use Rattle.rules.specs.Groups.{groups_of}
use Rattle.rules.specs.Script.{encode, term, size, depth, q13, q19}
use Rattle.rules.specs.Calls.{types_check, form_check, own_check, script_check}
use Rattle.rules.proofs.ScriptLength.{q13_fitting, q13_encode}
use Rattle.rules.proofs.Scripts.{whole, q17_encode}
use Rattle.rules.proofs.NodeQuestions.{q14_encode}
use Rattle.rules.proofs.Depth.{q18_depth, q18_encode}
use Rattle.promises.proofs.Answers.{go_on}
use Rattle.rules.proofs.Asked.{and_then}
use Rattle.rules.proofs.Form.{form_yes, yes_form}
use Rattle.promises.proofs.Formed.{Formed}
use Rattle.promises.proofs.Questions.{questions_formed, formed_questions}

-- a formed term within the limits
pub record Fit (g t : Bytes) (e : Term) : Type 0 where
  pub formed : Formed g t 0 e
  pub small : size e ≤ script_limit
  pub shallow : depth e ≤ depth_limit

-- question 13's last part: room in a run's buffers
abbrev pub Roomy : List ℕ → Bytes → Type 0
Roomy rooms s = (i : ℕ) → i < length rooms → length s ≤ get_or rooms i 0

pub record Passed (rooms : List ℕ) (g t s : Bytes) : Type 0 where
  pub types : types_check g t ≡ accepted tt
  pub encoded : encode (term s) ≡ s
  pub fit : Fit g t (term s)
  pub room : Roomy rooms s

pub script_passed : (rooms : List ℕ) (g t s : Bytes) → Octets s → script_check rooms g t s ≡ accepted tt → Passed rooms g t s
unfolding own_check script_check
script_passed rooms g t s octets p =
    let a = and_then (types_check g t) _ p in
    let b = and_then (q13 rooms s) _ a.1 in
    let c = and_then (form_check g t s) (q19 s) b.1 in
    let f = form_yes g t s c.0 in
    let w = whole rooms s octets b.0 f.fields f.one_term in
    let n = q13_fitting rooms s b.0 in
    record {
      types = a.0;
      encoded = w.encoded;
      fit = record {
        formed = questions_formed g t (term s) (rw w.encoded f.groups) (rw w.encoded f.creators) (rw w.encoded f.types) (rw w.encoded c.1) (rw w.encoded octets);
        small = omega (arith, w.sized, n.limited);
        shallow = q18_depth (term s) (rw w.encoded f.shallow);
      };
      room = n.roomy;
    }

pub script_passes : (rooms : List ℕ) (g t : Bytes) (e : Term) → types_check g t ≡ accepted tt → Lattice (groups_of g) → Fit g t e → Roomy rooms (encode e)
    → script_check rooms g t (encode e) ≡ accepted tt
unfolding own_check script_check
script_passes rooms g t e types X F room = grind (arith, formed_questions, yes_form, q14_encode, q17_encode, q18_encode, go_on, q13_encode)
