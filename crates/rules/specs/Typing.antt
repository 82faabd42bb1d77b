-- Typing with its questions, 20 to 24 and 31 (manual, 5). It goes operands first, left to right: 20, 21 and 22 come as
-- soon as the operand concerned has its type, 23 before the body, 31 after both branches, 24 last. The place is the
-- node that asks.
use Rattle.std.specs.Prelude.{Bool, false, if◌then◌else◌, ◌&&◌, ◌||◌, List, ◌∷◌, ℕ, ◌+◌, nat_eq, nat_le, get_or}
use Rattle.std.proofs.Math.Option.{Option, none, some}
use Rattle.calculus.specs.Security.{Property, Reader, Security}
use Rattle.calculus.specs.Types.{one, number, Former, sum, product, function, Ty, leaf, node, equal_formers, same_leaf}
use Rattle.calculus.specs.Types.{top, raise_t, fits}
use Rattle.calculus.specs.Subtyping.{subtype, below}
use Rattle.calculus.specs.Common.{nearest_type}
use Rattle.calculus.specs.Typing.{finds_own}
use Rattle.calculus.specs.Terms.{choose, Operation, plus, less, Term, var, unit, lam, pair, inj, app, proj, case}
use Rattle.calculus.specs.Terms.{protect, mu, literal, reckon}
use Rattle.calculus.specs.Numbers.{of_both}
use Rattle.rules.specs.Answer.{Answer, accepted, refused, ◌>>=◌, ◌>>◌, ask}
use Rattle.rules.specs.Types.{no_type}
use Rattle.rules.specs.Script.{size}

-- is it a type of this form?
abbrev pub has_form : Former → Ty → Bool
has_form f (leaf b k) = false
has_form f (node f' k s t) = equal_formers f f'

-- the left side; a type without sides has a stand-in
abbrev pub left : Ty → Ty
left (leaf b k) = no_type
left (node f k s t) = s

-- the right side; a type without sides has a stand-in
abbrev pub right : Ty → Ty
right (leaf b k) = no_type
right (node f k s t) = t

-- 20. Is the type of what is applied, projected or tested a function, a pair, a sum? Place: the node.
abbrev pub q20 : ℕ → Former → Ty → Answer (Unit {0})
q20 place f s = ask 20 place (has_form f s)

-- is it the type of a number?
abbrev pub is_number : Ty → Bool
is_number (leaf b k) = same_leaf b number
is_number (node f k s t) = false

-- 20 of each operand of a sum or less than: is its type a number? Place: the node.
abbrev pub q20_number : ℕ → Ty → Answer (Unit {0})
q20_number place s = ask 20 place (is_number s)

-- 21. Is r of that type ⊑ the node's r, or of a recursion's type ⊑ the group that it is called as? Place: the node.
abbrev pub q21 : Security → ℕ → Ty → Reader → Answer (Unit {0})
q21 S place s w = ask 21 place (S.permits (top s) w)

-- 22. Is the type of the operand, argument, branch or body at or below what is wanted? Place: the node.
abbrev pub q22 : Security → ℕ → Ty → Ty → Answer (Unit {0})
q22 S place s wanted = ask 22 place (subtype S below s wanted)

-- 23. Of a recursion: is ir of its type ⊑ ir of its result, and c of its result ⊑ ic of its type ⊓ the group that it is
-- called as? Place: the node.
abbrev pub q23 : Security → ℕ → Ty → Reader → Answer (Unit {0})
q23 S place s w = ask 23 place (S.absorbs (top s) w (top (right s)))

-- 24. Has the found type of a function or a pair at most 63 records? Place: the node.
abbrev pub q24 : ℕ → Ty → Answer (Unit {0})
q24 place s = ask 24 place (fits s)

-- 22 of a branch, which isn't asked where the case finds its own type
abbrev pub q22_of_branch : Security → ℕ → (ℕ → Ty) → ℕ → Ty → Answer (Unit {0})
q22_of_branch S place tab i t = if finds_own i then accepted tt else q22 S place t (tab i)

-- 31. Have both branches of a case with number 65,535 a common type? Place: the node.
abbrev pub found_or : ℕ → Option Ty → Answer Ty
found_or place none = refused 31 place
found_or place (some t) = accepted t

-- the result type of a case's branches
abbrev pub branch_type : Security → ℕ → (ℕ → Ty) → ℕ → Ty → Ty → Answer Ty
branch_type S place tab i t u = if finds_own i then found_or place (nearest_type S below t u) else accepted (tab i)

-- the type of a sum, or of less than, which 16 has asked for a sum of two units; k are the result's groups
abbrev pub number_result : (ℕ → Ty) → Operation → Property → Ty
number_result tab plus k = leaf number k
number_result tab (less i) k = node sum k (left (tab i)) (right (tab i))

-- The questions that typing asks, 20 to 24 and 31; the order of questions isn't that of their numbers.
abbrev pub of_typing : ℕ → Bool
of_typing q = (nat_le 20 q && nat_le q 24) || nat_eq q 31

-- The found type of the term that starts at record p. `tab i` is the type that starts at record i of the types table; Γ
-- has the types of the binders, the nearest first.
unfoldable pub typing : Security → (ℕ → Ty) → List Ty → ℕ → Term → Answer Ty
typing S tab Γ p (var n) = accepted (get_or Γ n no_type)
typing S tab Γ p (unit k) = accepted (leaf one k)
typing S tab Γ p (lam k i e) = do
  t ← typing S tab (tab i ∷ Γ) (1 + p) e
  q24 p (node function k (tab i) t)
  accepted (node function k (tab i) t)
typing S tab Γ p (pair k a b) = do
  s ← typing S tab Γ (1 + p) a
  t ← typing S tab Γ (1 + p + size a) b
  q24 p (node product k s t)
  accepted (node product k s t)
typing S tab Γ p (inj d k i e) = do
  t ← typing S tab Γ (1 + p) e
  q22 S p t (choose d (left (tab i)) (right (tab i)))
  accepted (node sum k (left (tab i)) (right (tab i)))
typing S tab Γ p (app w f a) = do
  s ← typing S tab Γ (1 + p) f
  q20 p function s
  q21 S p s w
  t ← typing S tab Γ (1 + p + size f) a
  q22 S p t (left s)
  accepted (raise_t S (right s) (S.influence (top s) w))
typing S tab Γ p (proj d w e) = do
  s ← typing S tab Γ (1 + p) e
  q20 p product s
  q21 S p s w
  accepted (raise_t S (choose d (left s) (right s)) (S.influence (top s) w))
typing S tab Γ p (case w i e a b) = do
  s ← typing S tab Γ (1 + p) e
  q20 p sum s
  q21 S p s w
  t ← typing S tab (left s ∷ Γ) (1 + p + size e) a
  q22_of_branch S p tab i t
  u ← typing S tab (right s ∷ Γ) (1 + p + size e + size a) b
  q22_of_branch S p tab i u
  r ← branch_type S p tab i t u
  accepted (raise_t S r (S.influence (top s) w))
typing S tab Γ p (protect m e) = do
  t ← typing S tab Γ (1 + p) e
  accepted (raise_t S t m)
typing S tab Γ p (mu w i e) = do
  q21 S p (tab i) (S.caller (top (tab i)) w)
  q23 S p (tab i) (S.caller (top (tab i)) w)
  t ← typing S tab (tab i ∷ Γ) (1 + p) e
  q22 S p t (tab i)
  accepted (tab i)
typing S tab Γ p (literal k n) = accepted (leaf number k)
typing S tab Γ p (reckon o w a b) = do
  s ← typing S tab Γ (1 + p) a
  q20_number p s
  q21 S p s w
  t ← typing S tab Γ (1 + p + size a) b
  q20_number p t
  q21 S p t w
  accepted (number_result tab o (of_both S w (top s) (top t)))
