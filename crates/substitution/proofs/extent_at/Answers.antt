use Rattle.std.proofs.Common.{refl, ◌∙◌, arith}
use Rattle.calculus.specs.Terms.{var}
use Rattle.rules.specs.Script.{size, depth}
use Rattle.substitution.proofs.Nodes.{subst_same}
use Rattle.substitution.proofs.extent_at.Goals as goal

pub measure-requires : goal.measure-requires
unfolding size depth
measure-requires c = let q = c.requires in
    record {
      tree = q.tree;
      at = q.at;
      value = var 0;
      records_of = refl;
      depth_of = refl;
      shallow = omega (arith, q.shallow);
      small = q.small;
      small_value = omega arith;
    }

pub returns : goal.returns
unfolding size depth
returns c e a = let m = c.measure.ensures e (var 0) a refl refl in
    let s = subst_same (var 0) refl refl e 0 in
    record { next = m.next; records = m.records ∙ s.0; deep = m.deep ∙ s.1 }
