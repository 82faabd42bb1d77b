-- The kind of the node tells which operands are read.
use Rattle.std.proofs.Common.{◌≡◌, sym, ap, ◌∙◌, ℕ, ◌+◌, ◌⊎◌, inl, inr, arith, IsTrue}
use Rattle.calculus.specs.Terms.{Term}
use Rattle.rules.specs.Answer.{Bytes}
use Rattle.rules.specs.Groups.{properties_of}
use Rattle.rules.specs.Types.{type_at}
use Rattle.rules.specs.Script.{kind, size}
use Rattle.records.specs.Numbers.{kind_number}
use Rattle.records.specs.Operands.{first_operand}
use Rattle.records.specs.Place.{At}
use Rattle.records.specs.declared.Kind.{Kind}
use Rattle.records.specs.declared.Kind.TheVariants.{Application, FirstProjection, SecondProjection, Case, Protect}
use Rattle.records.specs.declared.Kind.TheVariants.{Recursion, Sum, Less}
use Rattle.records.proofs.Numbered.{same_kind}
use Rattle.records.proofs.Stands.{kind_of, there, here, stands_kind, at_first, at_second}
use Rattle.redex.specs.Found.{is_destructor, is_reckoning, ReckonAt}
use Rattle.redex.proofs.Forms.{variable_fate, variable_left, protect_fate, reckoned_operands, application_reads}
use Rattle.redex.proofs.Forms.{one_reads}
use Rattle.redex.proofs.Stages.{kind_read}
use Rattle.redex.proofs.turn.Goals as goal

module _ {s : Bytes} {at : ℕ} {k : Kind} {e : Term} (is : kind_number k ≡ kind s at) (a : At s at e) where
  reckons : (k ≡ Sum) ⊎ (k ≡ Less) → IsTrue (is_reckoning (kind_of e))
  reckons (inl h) = rw (kind_read is a h)
  reckons (inr h) = rw (kind_read is a h)

  left_at : (k ≡ Sum) ⊎ (k ≡ Less) → At s (at + 1) (first_operand e)
  left_at h = at_first s at e a (omega (arith, reckoned_operands e (reckons h)))

  reckoning_at : (k ≡ Sum) ⊎ (k ≡ Less) → {next : ℕ} → next ≡ at + 1 + size (first_operand e) → ReckonAt s at next e
  reckoning_at h n =
      record {
        at = a;
        reckons = rw (stands_kind s at e a) (reckons h);
        left = left_at h;
        right = at_second s at e a _ (reckoned_operands e (reckons h)) n;
      }

-- the kinds of destructors
abbrev Destructor : Kind → Type 0
Destructor k = (k ≡ Application) ⊎ ((k ≡ FirstProjection) ⊎ ((k ≡ SecondProjection) ⊎ (k ≡ Case)))

destructs : (n : ℕ) (k : Kind) → kind_number k ≡ n → Destructor k → IsTrue (is_destructor n)
destructs n k is (inl h) = rw (sym is ∙ ap kind_number h) application_reads
destructs n k is (inr (inl h)) = one_reads _ (inl (sym is ∙ ap kind_number h))
destructs n k is (inr (inr (inl h))) = one_reads _ (inr (inl (sym is ∙ ap kind_number h)))
destructs n k is (inr (inr (inr h))) = one_reads _ (inr (inr (sym is ∙ ap kind_number h)))

pub unrolling-requires : goal.unrolling-requires
unrolling-requires c = there _ _ _ c.requires.stands

pub end_of-second-requires : goal.end_of-second-requires
end_of-second-requires c = here (left_at c.kind_of.ensures c.requires.stands c.in-Sum.is)

pub reckoning-requires : goal.reckoning-requires
reckoning-requires c =
    let a = c.requires.stands in
    let n = c.end_of-second.ensures _ (left_at c.kind_of.ensures a c.in-Sum.is) in
    record { tree = c.requires.tree; stands = reckoning_at c.kind_of.ensures a c.in-Sum.is n }

pub reading-requires : goal.reading-requires
reading-requires c =
    record { here = here c.requires.stands; destructor = destructs _ _ c.kind_of.ensures c.in-Application.is }

pub returns-in-Protect : goal.returns-in-Protect
returns-in-Protect c e a h =
    rw (protect_fate (properties_of c.args.groups.now) (type_at c.args.types.now) e (kind_read c.kind_of.ensures a c.in-Protect.is))

pub returns-in-Sum : goal.returns-in-Sum
returns-in-Sum c e a h =
    let n = c.end_of-second.ensures _ (left_at c.kind_of.ensures a c.in-Sum.is) in
    c.reckoning.ensures (type_at c.args.types.now) e (reckoning_at c.kind_of.ensures a c.in-Sum.is n)

pub returns-in_default : goal.returns-in_default
returns-in_default c e a h =
    let d = c.in_default in
    let is : kind_number c.kind_of.result ≡ kind_of e = c.kind_of.ensures ∙ stands_kind _ _ e a in
    let other : (l : Kind) → (c.kind_of.result ≡ l → ⊥) → kind_of e ≡ kind_number l → ⊥ = λ l n k. n (same_kind c.kind_of.result l (is ∙ k)) in
    let v = variable_left e h (other Protect d.not-Protect) (other Recursion d.not-Recursion) (other Sum d.not-Sum) (other Less d.not-Less) (other Application d.not-Application)
    (other FirstProjection d.not-FirstProjection) (other SecondProjection d.not-SecondProjection) (other Case d.not-Case) in
    rw (variable_fate (properties_of c.args.groups.now) (type_at c.args.types.now) e v)
