-- A node from its operands, as a walk passes them one after the other, written.
use Rattle.std.proofs.Common.{◌≡◌, refl, sym, ap, ◌∙◌, List, [], ◌∷◌, ◌++◌, append_assoc, append-nil, ℕ, suc, ◌+◌, ◌≤◌}
use Rattle.std.proofs.Common.{arith, length, subst as transport, eq-eqb, ne_eqb}
use Rattle.calculus.specs.Terms.{Term, substitute}
use Rattle.rules.specs.Answer.{Bytes}
use Rattle.rules.specs.Script.{encode, size, kind, number}
use Rattle.rules.proofs.Prefix.{joined, total}
use Rattle.rules.proofs.Parts.{joined_append}
use Rattle.rules.proofs.TermCode.{term_operands, term_head, term_size_is}
use Rattle.records.specs.Place.{At}
use Rattle.memory.specs.Written.{Room, Written}
use Rattle.memory.specs.declared.Writer.{Writer}
use Rattle.memory.proofs.Placed.{nothing, then, room_first, room_next}
use Rattle.records.specs.Kinds as kinds
use Rattle.records.proofs.Passing.{Passed, Ahead, started, split_at, operand_here, passed_more, whole}
use Rattle.records.proofs.Stands.{kind_of, stands_kind}
use Rattle.records.specs.Binders.{binds}
use Rattle.substitution.specs.Substituted.{Substitution, Substituted}
use Rattle.substitution.proofs.Nodes.{View, variable, node, view, under, under_append, subst_var, subst_encode}
use Rattle.substitution.proofs.Nodes.{operand_depth}
use Rattle.substitution.proofs.Reading.{variable_at}
use Rattle.substitution.proofs.Counting.{under_more}

-- The operands passed, with v for the node's variable n, are written.
pub record Copied (i n : ℕ) (e v : Term) (w : Writer) (j next : ℕ) (w' : Writer) : Type 0 where
  pub passed : Passed i e j next
  pub wrote : Written (joined encode (under (kind_of e) n v 0 passed.before)) w w'

pub copied_none : (i n : ℕ) (e v : Term) (w : Writer) → Room [] w → Copied i n e v w 0 (i + 1) w
copied_none i n e v w l = record { passed = started i e; wrote = nothing w l }

module _ {i n : ℕ} {e v : Term} {w : Writer} {j next : ℕ} {w' : Writer} (p : Copied i n e v w j next w') where
  pub copied_more : (a : Ahead p.passed) (level : ℕ) → level ≡ n + binds (kind_of e) j → {next' : ℕ} {w'' : Writer}
      → Substituted next level a.operand v w' next' w'' → Copied i n e v w (j + 1) next' w''
  copied_more a level h {next'} {w''} m =
      let q = p.passed in
      let d = substitute level v a.operand in
      let us = under (kind_of e) n v 0 q.before in
      let u = under_more (kind_of e) n v q.before j a.operand level q.count h in
      let b : joined encode us ++ encode d ≡ joined encode (under (kind_of e) n v 0 (q.before ++ a.operand ∷ [])) =
      ap (λ y. joined encode us ++ y) (sym (append-nil (encode d))) ∙ sym (joined_append encode us (d ∷ [])) ∙ ap (joined encode) (sym u) in
      record { passed = passed_more q a next' m.next_is; wrote = transport (λ (y : Bytes). Written y w w'') b (then p.wrote m.wrote) }

  -- with the record in front of them
  pub copied_all : {w₀ : Writer} → (kind_of e ≡ kinds.variable → ⊥) → j ≡ length (term_operands e) → Written (term_head e) w₀ w
      → Substituted i n e v w₀ next w'
  copied_all {w₀} h l r =
      let q = p.passed in
      let f = whole q l in
      record {
        next_is = omega (arith, q.next_is, ap (total size) f, term_size_is e);
        wrote = transport (λ (y : Bytes). Written y w₀ w')
            (ap (λ es. term_head e ++ joined encode (under (kind_of e) n v 0 es)) f ∙ sym (subst_encode n v e h)) (then r p.wrote);
      }

-- a node's record and the operands passed, and what follows them: the next operand, and those after it
abbrev apart : (n : ℕ) (e v : Term) (before : List Term) (d : Term) (later : List Term) (j level : ℕ) → (kind_of e ≡ kinds.variable → ⊥)
    → term_operands e ≡ before ++ d ∷ later → length before ≡ j → level ≡ n + binds (kind_of e) j
    → encode (substitute n v e)
    ≡ (term_head e ++ joined encode (under (kind_of e) n v 0 before)) ++ (encode (substitute level v d) ++ joined encode (under (kind_of e) n v (suc j) later))
apart n e v before d later j level h s c l =
    let k = kind_of e in
    let us = under k n v 0 before in
    let z : 0 + length before ≡ j = omega arith in
    let u : under k n v 0 (before ++ d ∷ later) ≡ us ++ (substitute level v d ∷ under k n v (suc j) later) =
    under_append k n v 0 before (d ∷ later) ∙ rw (z, l) in
    subst_encode n v e h
    ∙ ap (λ es. term_head e ++ joined encode (under k n v 0 es)) s
    ∙ ap (λ es. term_head e ++ joined encode es) u
    ∙ ap (λ (b : Bytes). term_head e ++ b) (joined_append encode us (substitute level v d ∷ under k n v (suc j) later))
    ∙ sym (append_assoc (term_head e) (joined encode us) (encode (substitute level v d) ++ joined encode (under k n v (suc j) later)))

-- what writing an operand is given
abbrev pub operand_given : {s : Bytes} {i : ℕ} {f m b : Bytes} {n : ℕ} {w₀ : Writer} (q : Substitution s i f m b n w₀) {w : Writer} {j next : ℕ} {w' : Writer}
    (p : Copied i n q.tree q.value w j next w') (a : Ahead p.passed) (level : ℕ) → Written (term_head q.tree) w₀ w → (kind_of q.tree ≡ kinds.variable → ⊥)
    → level ≡ n + binds (kind_of q.tree) j → level ≤ n + 1 → Substitution s next f m b level w'
operand_given {n = n} {w₀ = w₀} q {j = j} {w' = w'} p a level r h l g =
    let o = p.passed in
    let rest = joined encode (under (kind_of q.tree) n q.value (suc j) a.later) in
    let b = apart n q.tree q.value o.before a.operand a.later j level h (split_at o a) o.count l in
    record {
      tree = a.operand;
      at = operand_here o a q.at;
      value = q.value;
      pieces = q.pieces;
      shallow = omega (arith, operand_depth q.tree o.before a.operand a.later (split_at o a), q.shallow);
      room = room_first (encode (substitute level q.value a.operand)) rest w'
          (room_next (encode (substitute level q.value a.operand) ++ rest) (then r p.wrote) (transport (λ (y : Bytes). Room y w₀) b q.room));
    }

-- a variable: the one that the value is put for, or another
module _ {s : Bytes} {i : ℕ} {e : Term} (a : At s i e) (k : kind s i ≡ 0) (n : ℕ) (v : Term) where
  pub variable_here : number s i ≡ n → (substitute n v e ≡ v) × (size e ≡ 1)
  unfolding size
  variable_here h = go e (view e) a
    where
      go : (e : Term) → View e → At s i e → (substitute n v e ≡ v) × (size e ≡ 1)
      go e (variable m) a = (subst_var n v m ∙ rw (eq-eqb m n (sym (variable_at a) ∙ h)), refl)
      go e (node g) a = absurd (g (sym (stands_kind _ _ _ a) ∙ k))

  pub variable_else : (number s i ≡ n → ⊥) → (substitute n v e ≡ e) × (encode e ≡ term_head e) × (size e ≡ 1)
  unfolding size encode
  variable_else h = go e (view e) a
    where
      go : (e : Term) → View e → At s i e → (substitute n v e ≡ e) × (encode e ≡ term_head e) × (size e ≡ 1)
      go e (variable m) a = (subst_var n v m ∙ rw (ne_eqb m n (λ z. h (variable_at a ∙ z))), refl, refl)
      go e (node g) a = absurd (g (sym (stands_kind _ _ _ a) ∙ k))

  pub written_here : number s i ≡ n → {w w' : Writer} {b : Bytes} → b ≡ encode v → Written b w w' → Substituted i n e v w (i + 1) w'
  written_here h {w} {w'} p m =
      let z = variable_here h in
      record { next_is = omega (arith, z.1); wrote = transport (λ (y : Bytes). Written y w w') (p ∙ ap encode (sym z.0)) m }

  pub written_else : (number s i ≡ n → ⊥) → {w w' : Writer} → Written (term_head e) w w' → Substituted i n e v w (i + 1) w'
  written_else h {w} {w'} m =
      let z = variable_else h in
      record { next_is = omega (arith, z.2); wrote = transport (λ (y : Bytes). Written y w w') (sym z.1 ∙ ap encode (sym z.0)) m }
