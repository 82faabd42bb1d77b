-- A walk over a term's operands, one after the other: what is written.
use Rattle.std.proofs.Common.{◌≡◌, refl, sym, ap, ◌∙◌, List, [], ◌∷◌, ◌++◌, append_assoc, append-nil, ℕ, suc, ◌+◌, ◌*◌}
use Rattle.std.proofs.Common.{◌≤◌, arith, length, length-append, subst as transport}
use Rattle.calculus.specs.Terms.{Term}
use Rattle.rules.specs.Answer.{Bytes}
use Rattle.rules.specs.Limits.{office_width}
use Rattle.rules.specs.Script.{size, depth}
use Rattle.rules.specs.Names.{level_names}
use Rattle.rules.specs.Office.{office}
use Rattle.rules.proofs.Prefix.{total}
use Rattle.rules.proofs.Parts.{joined_append}
use Rattle.rules.proofs.TermCode.{term_operands, term_size_is}
use Rattle.rules.proofs.Exports.{office_head, head_length}
use Rattle.memory.specs.Written.{Written}
use Rattle.memory.specs.declared.Writer.{Writer}
use Rattle.memory.proofs.Placed.{then, keeps}
use Rattle.records.specs.Binders.{binds}
use Rattle.records.proofs.Passing.{Passed, Ahead, started, split_at, operand_here, passed_more, whole}
use Rattle.records.proofs.Stands.{kind_of}
use Rattle.substitution.proofs.Nodes.{operand_size, operand_depth}
use Rattle.exporting.specs.Export.{Exportable, Exported}
use Rattle.exporting.proofs.Nodes.{named_from, offices, office_node, named_append, offices_length}

-- the record and the first j operands are written, and the next one stands at record `next`
pub record Copied (i n : ℕ) (e : Term) (w : Writer) (j next : ℕ) (w' : Writer) : Type 0 where
  pub passed : Passed i e j next
  pub wrote : Written (office_head (n, e) ++ offices (named_from (kind_of e) n 0 passed.before)) w w'

pub copied_none : (i n : ℕ) (e : Term) {w w' : Writer} → Written (office_head (n, e)) w w' → Copied i n e w 0 (i + 1) w'
copied_none i n e {w} {w'} m =
    record { passed = started i e; wrote = transport (λ (b : Bytes). Written b w w') (sym (append-nil (office_head (n, e)))) m }

module _ {i n : ℕ} {e : Term} {w : Writer} {j next : ℕ} {w' : Writer} (p : Copied i n e w j next w') where
  pub copied_more : (a : Ahead p.passed) (level : ℕ) → level ≡ n + binds (kind_of e) j → {next' : ℕ} {w'' : Writer}
      → Exported next level a.operand w' next' w'' → Copied i n e w (j + 1) next' w''
  copied_more a level h {next'} {w''} m =
      let q = p.passed in
      let us = named_from (kind_of e) n 0 q.before in
      let d = level_names level a.operand in
      let z : 0 + length q.before ≡ j = omega (arith, q.count) in
      let more : named_from (kind_of e) n 0 (q.before ++ a.operand ∷ []) ≡ us ++ (d ∷ []) =
      named_append (kind_of e) n 0 q.before (a.operand ∷ [])
      ∙ ap (λ x. us ++ (level_names (n + binds (kind_of e) x) a.operand ∷ [])) z ∙ ap (λ x. us ++ (level_names x a.operand ∷ [])) (sym h) in
      let bytes : (office_head (n, e) ++ offices us) ++ office d ≡ office_head (n, e) ++ offices (named_from (kind_of e) n 0 (q.before ++ a.operand ∷ [])) =
      append_assoc (office_head (n, e)) (offices us) (office d)
      ∙ ap (λ b. office_head (n, e) ++ b) (ap (λ b. offices us ++ b) (sym (append-nil (office d))) ∙ sym (joined_append office us (d ∷ [])) ∙ ap offices (sym more)) in
      record { passed = passed_more q a next' m.next_is; wrote = transport (λ (b : Bytes). Written b w w'') bytes (then p.wrote m.wrote) }

  pub copied_all : j ≡ length (term_operands e) → Exported i n e w next w'
  copied_all l =
      let q = p.passed in
      let f = whole q l in
      record {
        next_is = omega (arith, q.next_is, ap (total size) f, term_size_is e);
        wrote = transport (λ (b : Bytes). Written b w w')
            (ap (λ es. office_head (n, e) ++ offices (named_from (kind_of e) n 0 es)) f ∙ sym (office_node n e)) p.wrote;
      }

-- what writing an operand is given
module _ {s : Bytes} {i n : ℕ} {w : Writer} (q : Exportable s i n w) {j next : ℕ} {w' : Writer} (p : Copied i n q.tree w j next w') (a : Ahead p.passed) where
  pub room_left : w'.end + office_width * size a.operand ≤ length w'.out.now
  room_left =
      let t = p.passed in
      omega (
        arith,
        q.room,
        p.wrote.ends,
        keeps p.wrote,
        length-append (office_head (n, q.tree)) (offices (named_from (kind_of q.tree) n 0 t.before)),
        head_length (n, q.tree),
        offices_length (kind_of q.tree) n 0 t.before,
        operand_size q.tree t.before a.operand a.later (split_at t a),
      )

  pub deeper : suc (depth a.operand) ≤ depth q.tree
  deeper = let t = p.passed in operand_depth q.tree t.before a.operand a.later (split_at t a)

  abbrev pub operand_ready : (level : ℕ) → level ≤ n + 1 → Exportable s next level w'
  operand_ready level l =
      record { tree = a.operand; at = operand_here p.passed a q.at; shallow = omega (arith, q.shallow, deeper); room = room_left }
