-- The step of a node that lies left: what its pieces are given, and what they leave.
use Rattle.std.specs.Prelude.{◌≡◌, true, false, [], ℕ, ◌+◌, ◌*◌, length, Option, Some, None, IsTrue}
use Rattle.calculus.specs.Terms.{Term}
use Rattle.calculus.specs.Reduction.{Context, plug}
use Rattle.rules.specs.Answer.{Bytes}
use Rattle.rules.specs.Limits.{script_width}
use Rattle.rules.specs.Groups.{properties_of}
use Rattle.rules.specs.Types.{type_at}
use Rattle.rules.specs.Script.{encode, size}
use Rattle.rules.specs.Step.{exceeds}
use Rattle.memory.specs.Splice.{splice}
use Rattle.records.specs.Place.{At}
use Rattle.redex.specs.Contexts.{offset, level}
use Rattle.redex.specs.Fates.{reduces, is_potential_redex, fate}
use Rattle.redex.specs.declared.Found.{Found}
use Rattle.redex.specs.declared.Found.TheVariants.{Value, Redex, Denied, Stuck}
use Rattle.contraction.specs.Plans.{Planned}
use Rattle.contraction.specs.declared.Plan.{Plan}
use Rattle.reduction.specs.Steps.{Startable}
use Rattle.reduction.specs.declared.Stop.{Stop}
use Rattle.reduction.specs.declared.Stop.TheVariants.{MayNot, WrongKind}
use Rattle.refocusing.specs.declared.Point.{Point}
use Rattle.refocusing.specs.Gap.{Gap}

-- why a node that this is said of takes no step
abbrev pub why_not : Found → Option Stop
why_not (Value end) = Some WrongKind
why_not (Redex place around) = None
why_not Denied = Some MayNot
why_not Stuck = Some WrongKind

-- The redex e of a term that can be stepped stands at record `at` of s, and this is its plan.
pub record Contracting (g t s : Bytes) (at : ℕ) (plan : Plan) (E : Context) (e : Term) : Type 0 where
  pub start : Startable g t (encode (plug E e))
  pub stands : At s at e
  pub turn : IsTrue (is_potential_redex e)
  pub goes : fate (properties_of g) (type_at t) e ≡ reduces
  pub planned : Planned s e plan

-- such a redex lies left, with `around` levels around it
pub record Foremost (g t : Bytes) (at around : ℕ) (plan : Plan) (p : Point) (a b : Bytes)
    (E : Context) (e : Term) : Type 0 where
  pub contracts : Contracting g t a at plan E e
  pub gap : Gap E (encode e) [] p a b
  pub at_is : at ≡ offset E
  pub around_is : around ≡ level E

-- The contractum c of a redex in E comes next, or the new term is too big for as many bytes as b has, and b is as it
-- was.
pub data ContractumAhead (at : ℕ) (p : Point) (E : Context) (c : Term) (b : Bytes) : Option Point → Bytes → Type 0 where
  comes_next : {q : Point} {b' : Bytes} → exceeds (length b) (plug E c) ≡ false
      → q.left ≡ at → q.right + size c ≡ p.right → q.steps ≡ p.steps + 1
      → b' ≡ splice (script_width * q.right) (encode c) b → ContractumAhead at p E c b (Some q) b'
  exceeds_room : {b' : Bytes} → exceeds (length b) (plug E c) ≡ true → b' ≡ b → ContractumAhead at p E c b None b'
