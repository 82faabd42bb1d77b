-- A walk over a term's operands, one after the other: which are passed, and where the next one stands.
use Rattle.std.proofs.Common.{◌≡◌, refl, sym, ap, ◌∙◌, List, [], ◌∷◌, ◌++◌, append_assoc, append-nil, ℕ, suc, ◌+◌, ◌*◌}
use Rattle.std.proofs.Common.{◌≤◌, ◌<◌, arith, length, drop, length-append}
use Rattle.calculus.specs.Terms.{Term}
use Rattle.rules.specs.Answer.{Bytes}
use Rattle.rules.specs.Limits.{script_width}
use Rattle.rules.specs.Script.{encode, size}
use Rattle.rules.proofs.Prefix.{joined, total}
use Rattle.rules.proofs.Parts.{total_append}
use Rattle.rules.proofs.Nodes.{operand_at}
use Rattle.rules.proofs.TermCode.{term_operands, term_code}
use Rattle.records.specs.Place.{At}

-- the first j operands of e, which stands at record i, are passed
pub record Passed (i : ℕ) (e : Term) (j next : ℕ) : Type 0 where
  pub before : List Term
  pub after : List Term
  pub split : term_operands e ≡ before ++ after
  pub count : length before ≡ j
  pub next_is : next ≡ suc i + total size before

-- an operand is still to come
pub record Ahead {i : ℕ} {e : Term} {j next : ℕ} (p : Passed i e j next) : Type 0 where
  pub operand : Term
  pub later : List Term
  pub is : p.after ≡ operand ∷ later

abbrev pub started : (i : ℕ) (e : Term) → Passed i e 0 (i + 1)
started i e = record { before = []; after = term_operands e; split = refl; count = refl; next_is = omega arith }

module _ {i : ℕ} {e : Term} {j next : ℕ} (p : Passed i e j next) where
  pub ahead : j < length (term_operands e) → Ahead p
  ahead h = some p.after refl (omega (arith, p.count, ap length p.split, length-append p.before p.after))
    where
      some : (l : List Term) → p.after ≡ l → 1 ≤ length l → Ahead p
      some [] is g = absurd (omega arith)
      some (d ∷ l) is g = record { operand = d; later = l; is = is }

  pub split_at : (a : Ahead p) → term_operands e ≡ p.before ++ a.operand ∷ a.later
  split_at a = p.split ∙ ap (λ l. p.before ++ l) a.is

  -- the operand stands where the walk is
  abbrev pub operand_here : (a : Ahead p) {s : Bytes} → At s i e → At s next a.operand
  operand_here a {s} w = record {
    rest = joined encode a.later ++ w.rest;
    stands = ap (λ n. drop (script_width * n) s) p.next_is
        ∙ operand_at term_code s i e w.rest w.stands p.before a.operand a.later (split_at a);
  }

  abbrev pub passed_more : (a : Ahead p) (next' : ℕ) → next' ≡ next + size a.operand → Passed i e (j + 1) next'
  passed_more a next' h = record {
    before = p.before ++ a.operand ∷ [];
    after = a.later;
    split = split_at a ∙ sym (append_assoc p.before (a.operand ∷ []) a.later);
    count = omega (arith, p.count, length-append p.before (a.operand ∷ []));
    next_is = omega (arith, p.next_is, total_append size p.before (a.operand ∷ []));
  }

  -- all operands are passed
  pub none_left : j ≡ length (term_operands e) → p.after ≡ []
  none_left h = none p.after refl (omega (arith, p.count, ap length p.split, length-append p.before p.after))
    where
      none : (l : List Term) → p.after ≡ l → length l ≡ 0 → p.after ≡ []
      none [] is g = is
      none (d ∷ l) is g = absurd (omega arith)

  pub whole : j ≡ length (term_operands e) → p.before ≡ term_operands e
  whole h = sym (append-nil p.before) ∙ ap (λ l. p.before ++ l) (sym (none_left h)) ∙ sym p.split
