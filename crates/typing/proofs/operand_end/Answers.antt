-- The node's last operand ends where its part does, and another is scanned.
use Rattle.std.proofs.Common.{◌≡◌, sym, ap, ◌∙◌, ℕ, ◌+◌, ◌/◌, arith, length}
use Rattle.calculus.specs.Terms.{Term}
use Rattle.rules.specs.Limits.{script_width}
use Rattle.rules.specs.Answer.{Bytes}
use Rattle.rules.specs.Script.{size}
use Rattle.rules.proofs.PrefixLaws.{unique}
use Rattle.rules.proofs.TermCode.{term_prefix}
use Rattle.records.specs.Place.{At}
use Rattle.typing.specs.Parts.{OperandAt}
use Rattle.typing.proofs.operand_end.Goals as goal

-- the last operand's end, for whichever term stands there
ends_with : (s : Bytes) (o j i : ℕ) (p : OperandAt s o j i) → j ≡ o → (e : Term) → At s i e → length s / script_width ≡ i + size e
ends_with s o j i p z e a =
    let q = (unique term_prefix e p.tree a.rest p.at.rest (sym a.stands ∙ p.at.stands)).0 in
    omega (arith, p.whole z, ap size q)

pub returns-then-j-o : goal.returns-then-j-o
returns-then-j-o c e w = let a = c.args in
    c.record_count.ensures ∙ ends_with a.s.now a.o a.j a.i c.requires c.if-j-o.true e w
