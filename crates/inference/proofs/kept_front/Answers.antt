-- The node's record tells whether it is an injection.
use Rattle.std.proofs.Common.{◌≡◌, ℕ, ◌<◌, Bool, cond, sym, ap, ◌∙◌, arith}
use Rattle.calculus.specs.Terms.{Term}
use Rattle.rules.specs.Answer.{Bytes}
use Rattle.rules.specs.Limits.{type_width}
use Rattle.rules.specs.Script.{kind, encode}
use Rattle.records.specs.Kinds.{is_injection}
use Rattle.inference.specs.Stages.{kept_front}
use Rattle.records.specs.Kinds as kinds
use Rattle.records.proofs.Stands.{stands_known}
use Rattle.inference.proofs.Shapes.{front_is, at_front}
use Rattle.inference.proofs.kept_front.Goals as goal

kept : {s : Bytes} {k : ℕ} {b : Bool} (e : Term) → s ≡ encode e → k ≡ kind s 0 → b ≡ is_injection k → cond b type_width 0 ≡ kept_front e
kept e p f q = ap (λ b. cond b type_width 0) (q ∙ ap is_injection f ∙ ap (λ b. is_injection (kind b 0)) p) ∙ sym (front_is e)

pub returns-in-Some : goal.returns-in-Some
returns-in-Some c e p = kept e p c.in-Some.ensures (sym c.if-is_injection.true ∙ c.is_injection.ensures)

pub returns-in_default : goal.returns-in_default
returns-in_default c e p = kept e p c.in-Some.ensures (sym c.if-is_injection.false ∙ c.is_injection.ensures)

pub returns-in_default-2 : goal.returns-in_default-2
returns-in_default-2 c e p =
    let h : kinds.less < kind c.args.part.now 0 = c.in_default.ensures in
    absurd (omega (arith, stands_known _ _ e (at_front e p)))
