-- A term's record is there, and has a kind.
use Rattle.std.proofs.Common.{◌≤◌, ℕ, Option, Some, None, IsSome, refl, subst, arith}
use Rattle.rules.specs.Script.{kind}
use Rattle.records.specs.Kinds as kinds
use Rattle.records.specs.Numbers.{KindIs}
use Rattle.records.specs.declared.Kind.{Kind}
use Rattle.records.proofs.Stands.{there, stands_known}
use Rattle.records.proofs.kind_of.Goals as goal

-- a number that some kind has
named : (n : ℕ) (o : Option Kind) → n ≤ kinds.less → KindIs n o → IsSome o
named n None l h = absurd (omega arith)
named n (Some k) l h = refl

pub kind_at-requires : goal.kind_at-requires
kind_at-requires c = there _ _ c.requires.tree c.requires.at

pub unwrap-requires : goal.unwrap-requires
unwrap-requires c = named _ _ (stands_known _ _ c.requires.tree c.requires.at) c.kind_at.ensures

pub returns : goal.returns
returns c = let P : Option Kind → Type 0 = KindIs (kind c.args.script.now c.args.index) in subst P c.unwrap.ensures c.kind_at.ensures
