-- A script that has passed questions 2 to 19 is ready for typing.
use Rattle.std.proofs.Common.{◌≡◌, refl, sym, subst, false, ◌||◌, eqb-true, [], ℕ, suc, ◌≤◌, ◌<◌, arith, ltb-true}
use Rattle.std.proofs.Common.{nat_lt, length, length-drop, IsTrue}
use Rattle.std.proofs.Math.Bool.{and-eq-true_iff}
use Rattle.calculus.specs.Typing.{finds_own}
use Rattle.calculus.specs.Terms.{plus, less, Term, var, unit, lam, pair, inj, app, proj, case, protect, mu, literal}
use Rattle.calculus.specs.Terms.{reckon}
use Rattle.rules.specs.Limits.{work_length}
use Rattle.rules.specs.Answer.{Bytes, Octets, accepted}
use Rattle.calculus.specs.Types.{sum}
use Rattle.rules.specs.Types.{former_kind, type_count, type_kind}
use Rattle.rules.specs.Script.{sum_of_units, term}
use Rattle.rules.specs.Calls.{types_check, script_check}
use Rattle.promises.proofs.Formed.{Formed as FormedOver}
use Rattle.promises.proofs.Checked.{Passed, script_passed}
use Rattle.types_table.proofs.Table.{type_held, type_short}
use Rattle.inference.specs.Operands.{WellFormed}
use Rattle.inference.specs.Memory.{high, HoldsContext, SlotTable, CheckerInput}

pub table_of : (g t : Bytes) → types_check g t ≡ accepted tt → SlotTable t
table_of g t h = record { entry = λ i l. record { held = type_held g t h i l; small = type_short g t h i l } }

-- question 16 of a case
named_of : (i n : ℕ) → IsTrue (finds_own i || nat_lt i n) → finds_own i ≡ false → i < n
named_of i n h e = ltb-true i n (subst (λ b. IsTrue (b || nat_lt i n)) e h)

-- and of a less than: a sum of two units is a sum
sum_of : (t : Bytes) (i : ℕ) → IsTrue (sum_of_units t i) → type_kind t i ≡ former_kind sum
sum_of t i h = eqb-true (type_kind t i) (former_kind sum) ((and-eq-true_iff _ _).0 h).0

-- what it names is in the table, and its variables are bound; its groups are not asked for here
pub formed_of : (g t : Bytes) (e : Term) (b : ℕ) → FormedOver g t b e → WellFormed t b e
unfolding WellFormed FormedOver
formed_of g t (var n) b F = F
formed_of g t (unit k) b F = tt
formed_of g t (lam k i e) b F = (F.1, formed_of g t e (suc b) F.2)
formed_of g t (pair k x y) b F = (formed_of g t x b F.1, formed_of g t y b F.2)
formed_of g t (inj d k i e) b F = ((F.1, F.2), formed_of g t e b F.3)
formed_of g t (app w x y) b F = (formed_of g t x b F.1, formed_of g t y b F.2)
formed_of g t (proj d w e) b F = formed_of g t e b F.1
formed_of g t (case w i e x y) b F = (named_of i (type_count t) F.1, (formed_of g t e b F.2, (formed_of g t x (suc b) F.3, formed_of g t y (suc b) F.4)))
formed_of g t (protect m e) b F = formed_of g t e b F.1
formed_of g t (mu w i e) b F = ((F.1, F.2), formed_of g t e (suc b) F.3)
formed_of g t (literal k n) b F = tt
formed_of g t (reckon plus w x y) b F = (formed_of g t x b F.1, formed_of g t y b F.2)
formed_of g t (reckon (less i) w x y) b F = ((F.1, sum_of t i F.2), (formed_of g t x b F.3, formed_of g t y b F.4))

pub no_binders : (w : Bytes) → HoldsContext [] (high 0 w)
no_binders w = record { len = simp length-drop (omega arith); slot = λ n l. absurd (omega arith) }

module _ (g t s w : Bytes) (o : Octets s) (h : script_check [] g t s ≡ accepted tt) (room : work_length ≤ length w) where
  pub pass : Passed [] g t s
  pass = script_passed [] g t s o h

  abbrev pub ready : CheckerInput t s 0 0 w
  ready =
      record {
        table = table_of g t pass.types;
        ctx = [];
        binders = refl;
        holds = no_binders w;
        tree = term s;
        is = sym pass.encoded;
        formed = formed_of g t (term s) 0 pass.fit.formed;
        room = omega (arith, pass.fit.shallow);
        placed = omega (arith, pass.fit.small);
      }
