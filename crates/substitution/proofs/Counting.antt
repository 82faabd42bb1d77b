-- A node from its operands, as a walk passes them one after the other, counted.
use Rattle.std.proofs.Common.{◌≡◌, refl, sym, ap, ◌∙◌, Bool, true, false, cond, List, [], ◌∷◌, ◌++◌, ℕ, suc, ◌+◌, ◌*◌}
use Rattle.std.proofs.Common.{◌≤◌, ◌<◌, max, arith, nat_eq, length}
use Rattle.calculus.specs.Terms.{Term, var, substitute}
use Rattle.rules.specs.Answer.{Bytes}
use Rattle.rules.specs.Script.{size, depth, kind, number}
use Rattle.rules.proofs.Prefix.{total}
use Rattle.rules.proofs.Parts.{total_append}
use Rattle.rules.proofs.TermCode.{term_operands, term_size_is}
use Rattle.records.specs.Place.{At}
use Rattle.records.specs.Kinds as kinds
use Rattle.records.proofs.Passing.{Passed, Ahead, started, passed_more, operand_here, split_at, whole}
use Rattle.records.proofs.Stands.{kind_of, stands_kind}
use Rattle.records.specs.Binders.{binds}
use Rattle.records.proofs.WeightOf.{weight_of}
use Rattle.substitution.specs.Substituted.{value_limit, Sizes, Measured}
use Rattle.substitution.specs.declared.Extent.{Extent}
use Rattle.substitution.specs.declared.Size.{Size}
use Rattle.substitution.proofs.Nodes.{greatest, greatest_append, View, variable, node, view, under, under_append}
use Rattle.substitution.proofs.Nodes.{subst_var, subst_size, subst_depth, operand_size, operand_depth, greatest_records}
use Rattle.substitution.proofs.Nodes.{under_bound}
use Rattle.substitution.proofs.Reading.{variable_at}

-- the operands passed, with v for the node's variable n, and one more
pub under_more : (k n : ℕ) (v : Term) (before : List Term) (j : ℕ) (d : Term) (level : ℕ) → length before ≡ j → level ≡ n + binds k j
    → under k n v 0 (before ++ d ∷ []) ≡ under k n v 0 before ++ substitute level v d ∷ []
under_more k n v before j d level c h =
    let z : 0 + length before ≡ j = omega arith in
    under_append k n v 0 before (d ∷ []) ∙ rw (z, h)

-- their records and depth so far
pub record Counted (i n : ℕ) (e v : Term) (j next sum below : ℕ) : Type 0 where
  pub passed : Passed i e j next
  pub sum_is : sum ≡ suc (total size (under (kind_of e) n v 0 passed.before))
  pub below_is : below ≡ greatest depth (under (kind_of e) n v 0 passed.before)

pub counted_none : (i n : ℕ) (e v : Term) → Counted i n e v 0 (i + 1) 1 0
counted_none i n e v = record { passed = started i e; sum_is = refl; below_is = refl }

module _ {i n : ℕ} {e v : Term} {j next sum below : ℕ} (p : Counted i n e v j next sum below) where
  pub counted_more : (a : Ahead p.passed) (level : ℕ) → level ≡ n + binds (kind_of e) j → (x : Extent) → Measured next level a.operand v x
      → Counted i n e v (j + 1) x.next (sum + x.size.records) (max below x.size.depth)
  counted_more a level h x m =
      let q = p.passed in
      let u = under_more (kind_of e) n v q.before j a.operand level q.count h in
      let s = under (kind_of e) n v 0 q.before in
      record {
        passed = passed_more q a x.next m.next;
        sum_is = omega (arith, p.sum_is, m.records, ap (total size) u, total_append size s (substitute level v a.operand ∷ []));
        below_is = omega (arith, p.below_is, m.deep, ap (greatest depth) u, greatest_append depth s (substitute level v a.operand ∷ []));
      }

  pub counted_bound : size v ≤ value_limit → (sum ≤ value_limit * size e) × (below < 2 * sum)
  counted_bound small =
      let q = p.passed in (
        omega
            (arith, p.sum_is, under_bound v small q.before (kind_of e) n 0, term_size_is e, ap (total size) q.split, total_append size q.before q.after),
        omega (arith, p.sum_is, p.below_is, greatest_records (under (kind_of e) n v 0 q.before)),
      )

  pub counted_all : (kind_of e ≡ kinds.variable → ⊥) → j ≡ length (term_operands e) → (weight : ℕ) → weight ≡ weight_of e
      → Measured i n e v (record { next = next; size = record { records = sum; depth = below + weight } })
  counted_all h l weight weighs =
      let q = p.passed in
      let w = whole q l in
      let u = ap (under (kind_of e) n v 0) w in
      record {
        next = omega (arith, q.next_is, ap (total size) w, term_size_is e);
        records = omega (arith, p.sum_is, ap (total size) u, subst_size n v e h);
        deep = omega (arith, p.below_is, ap (greatest depth) u, subst_depth n v e h);
      }

-- what counting an operand is given
abbrev pub operand_sizes : {s : Bytes} {i n : ℕ} {m : Size} (q : Sizes s i n m) {j next : ℕ} (p : Passed i q.tree j next) (a : Ahead p) (level : ℕ)
    → level ≤ n + 1 → Sizes s next level m
operand_sizes q p a level l = record {
  tree = a.operand;
  at = operand_here p a q.at;
  value = q.value;
  records_of = q.records_of;
  depth_of = q.depth_of;
  shallow = omega (arith, operand_depth q.tree p.before a.operand a.later (split_at p a), q.shallow);
  small = omega (arith, operand_size q.tree p.before a.operand a.later (split_at p a), q.small);
  small_value = q.small_value;
}

-- a variable
pub measured_variable : (s : Bytes) (i n : ℕ) (e v : Term) → At s i e → kind s i ≡ kinds.variable → (records deep : ℕ) → records ≡ size v → deep ≡ depth v → (x : Extent)
    → x.next ≡ i + 1 → x.size.records ≡ cond (nat_eq (number s i) n) records 1 → x.size.depth ≡ cond (nat_eq (number s i) n) deep 1 → Measured i n e v x
unfolding size depth
measured_variable s i n e v a k records deep hr hd x e1 e2 e3 = go e (view e) a
  where
    by : (b : Bool) (m : ℕ) → (cond b records 1 ≡ size (cond b v (var m))) × (cond b deep 1 ≡ depth (cond b v (var m)))
    by true m = (hr, hd)
    by false m = (refl, refl)

    go : (e : Term) → View e → At s i e → Measured i n e v x
    go e (variable m) a =
        let y = by (nat_eq m n) m in
        let z = variable_at a in
        record {
          next = e1;
          records = e2 ∙ ap (λ l. cond (nat_eq l n) records 1) z ∙ y.0 ∙ ap size (sym (subst_var n v m));
          deep = e3 ∙ ap (λ l. cond (nat_eq l n) deep 1) z ∙ y.1 ∙ ap depth (sym (subst_var n v m));
        }
    go e (node h) a = absurd (h (sym (stands_kind _ _ _ a) ∙ k))
