-- A turn of the loop over a record's operands: the operand's name is put after the names over the record, and the walk
-- goes on with the operand.
use Rattle.std.proofs.Common.{◌≡◌, refl, sym, ap, ap₂, ◌∙◌, List, [], ◌∷◌, ◌++◌, ℕ, suc, ◌+◌, ◌*◌, ◌≤◌, ◌<◌, arith}
use Rattle.std.proofs.Common.{length, set, length-append, subst as transport}
use Rattle.std.proofs.lemmas.List.{length-set}
use Rattle.calculus.specs.Terms.{Term}
use Rattle.rules.specs.Answer.{Bytes, Answer, accepted, refused}
use Rattle.rules.specs.Limits.{script_width}
use Rattle.rules.specs.Script.{encode, size, depth, records}
use Rattle.rules.specs.Names.{meant, scopes}
use Rattle.rules.specs.Office.{office_records, office_kind, with_names}
use Rattle.rules.proofs.Prefix.{joined, total}
use Rattle.rules.proofs.PrefixLaws.{joined_length}
use Rattle.rules.proofs.TermCode.{term_code, term_operands, term_head, term_head_length}
use Rattle.rules.proofs.Names.{blank, blank_size, blank_meant}
use Rattle.memory.specs.Written.{Written}
use Rattle.memory.specs.declared.Writer.{Writer}
use Rattle.memory.proofs.Placed.{keeps}
use Rattle.records.specs.Binders.{binds}
use Rattle.records.specs.Place.{At}
use Rattle.records.proofs.Passing.{Passed, Ahead, split_at, operand_here}
use Rattle.records.proofs.Stands.{kind_of}
use Rattle.records.proofs.Weights.{weights}
use Rattle.substitution.proofs.Nodes.{term_depth_is, operand_size, operand_depth}
use Rattle.importing.specs.Fields.{name_over, is_bound}
use Rattle.importing.specs.Scope.{scope, Importable, Resolved}
use Rattle.importing.proofs.Names.{scope_set, scope_inner, at_most_one}
use Rattle.importing.proofs.Operands.{meant_from}
use Rattle.importing.proofs.Walks.{scanned, Reached, stop, pass}
use Rattle.importing.proofs.NamesOver.{inner}

-- what a term means has as many records
pub meant_size : (o : Bytes) (i : ℕ) (ns : List ℕ) (e : Term) → size (meant ns (with_names o i e)) ≡ size e
meant_size o i ns e = sym (blank_size (meant ns (with_names o i e))) ∙ ap size (blank_meant o i ns e) ∙ blank_size e

meant_total : (o : Bytes) (i kind : ℕ) (ns : List ℕ) (j next : ℕ) (es : List Term) → total size (meant_from o i kind ns j next es) ≡ total size es
meant_total o i kind ns j next [] = refl
meant_total o i kind ns j next (e ∷ es) = omega (arith, meant_size o next (inner o i kind j ns) e, meant_total o i kind ns (suc j) (next + size e) es)

depth_positive : (e : Term) → 1 ≤ depth e
depth_positive e = omega (arith, term_depth_is e, (weights e).0)

-- the names over a record stay
pub record Kept (names : List ℕ) (n : ℕ) (names₁ : List ℕ) : Type 0 where
  pub same : (m : ℕ) → m ≤ n → scope names₁ m ≡ scope names m
  pub levels : length names₁ ≡ length names

pub kept_all : (names : List ℕ) (n : ℕ) → Kept names n names
kept_all names n = record { same = λ m l. refl; levels = refl }

-- where v was put after them, and what was put after that
module _ {names : List ℕ} {n : ℕ} {names₁ : List ℕ} (x : Kept names n names₁) where
  pub under_is : (o : Bytes) (i j : ℕ) {k b v : ℕ} (e : Term) → n < length names → v ≡ name_over o i j → k ≡ kind_of e → b ≡ binds k j
      → scope (set names₁ n v) (n + b) ≡ inner o i (kind_of e) j (scope names n)
  under_is o i j {k} {b} {v} e l h p q =
      ap₂ (λ a d. scope (set names₁ n a) (n + d)) h (q ∙ ap (λ y. binds y j) p)
      ∙ scope_inner o i (kind_of e) j names₁ n (omega (arith, x.levels)) ∙ ap (inner o i (kind_of e) j) (x.same n (omega arith))

  pub kept_on : (b v : ℕ) (names₂ : List ℕ) → ((m : ℕ) → m ≤ n + b → scope names₂ m ≡ scope (set names₁ n v) m) → length names₂ ≡ length (set names₁ n v)
      → Kept names n names₂
  kept_on b v names₂ f h = record {
    same = λ m l. f m (omega arith) ∙ scope_set names₁ n m v l ∙ x.same m l;
    levels = h ∙ length-set names₁ n v ∙ x.levels;
  }

-- What the walk over the next operand is given.
module _ {s o : Bytes} {i n : ℕ} {names : List ℕ} {w : Writer} (q : Importable s o i n names w) {j next : ℕ} {w' : Writer}
    (p : Reached o i (scope names n) q.tree w j next w') (a : Ahead p.passed) where
  pub room_left : w'.end + script_width * size a.operand ≤ length w'.out.now
  room_left =
      let t = p.passed in
      let before = meant_from o i (kind_of q.tree) (scope names n) 0 (1 + i) t.before in
      omega (
        arith,
        q.room,
        p.wrote.ends,
        keeps p.wrote,
        length-append (term_head q.tree) (joined encode before),
        term_head_length q.tree,
        joined_length term_code before,
        meant_total o i (kind_of q.tree) (scope names n) 0 (1 + i) t.before,
        operand_size q.tree t.before a.operand a.later (split_at t a),
      )

  pub deeper : suc (depth a.operand) ≤ depth q.tree
  deeper = let t = p.passed in operand_depth q.tree t.before a.operand a.later (split_at t a)

  pub level_here : n < length names
  level_here = omega (arith, q.shallow, q.levels, deeper, depth_positive a.operand)

  abbrev pub operand_ready : (names₁ : List ℕ) (b v : ℕ) → b ≤ 1 → length names₁ ≡ length names → Importable s o next (n + b) (set names₁ n v) w'
  operand_ready names₁ b v l h = record {
    tree = a.operand;
    at = operand_here p.passed a q.at;
    shallow = omega (arith, q.shallow, deeper);
    levels = length-set names₁ n v ∙ h ∙ q.levels;
    old = q.old;
    room = room_left;
  }

-- and what it gives
refused_not : {A : Type 0} {x y : ℕ} {next : A} → refused x y ≡ accepted next → ⊥
refused_not f = let z : ◌≡◌ {A = ℕ} 0 1 = cc in omega arith

module _ {o : Bytes} {i n : ℕ} {names : List ℕ} {e : Term} {w : Writer} {j next : ℕ} {w' : Writer} (p : Reached o i (scope names n) e w j next w') (a : Ahead p.passed)
    {names₁ : List ℕ} (x : Kept names n names₁) (l : n < length names)
    {k b v : ℕ} (h : v ≡ name_over o i j) (kind_is : k ≡ kind_of e) (binds_is : b ≡ binds k j) where
  abbrev under : scope (set names₁ n v) (n + b) ≡ inner o i (kind_of e) j (scope names n)
  under = under_is x o i j e l h kind_is binds_is

  pub turn_refused : {y z : ℕ} {names₂ : List ℕ} {w'' : Writer} {c : Answer ℕ} → Resolved o next (n + b) a.operand (set names₁ n v) w' (refused y z) names₂ w'' → c ≡ refused y z
      → Resolved o i n e names w c names₂ w''
  turn_refused {names₂ = names₂} r f =
      let on = kept_on x b v names₂ r.kept r.levels in
      record {
        asked = f ∙ stop p a (r.asked ∙ ap (λ ns. scanned o next ns a.operand) under);
        written = λ m g. absurd (refused_not (sym f ∙ g));
        kept = on.same;
        levels = on.levels;
      }

  pub turn_passed : {m : ℕ} {names₂ : List ℕ} {w'' : Writer} → Resolved o next (n + b) a.operand (set names₁ n v) w' (accepted m) names₂ w''
      → Reached o i (scope names n) e w (j + 1) m w'' × Kept names n names₂
  turn_passed {m} {names₂} {w''} r = (
    pass p a m (r.asked ∙ ap (λ ns. scanned o next ns a.operand) under)
        (transport (λ (ns : List ℕ). Written (encode (meant ns (with_names o next a.operand))) w' w'') under (r.written m refl)),
    kept_on x b v names₂ r.kept r.levels,
  )
