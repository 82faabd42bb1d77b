-- What becomes of a node once its evaluated operands are values, apart from what it contracts to.
use Rattle.std.specs.Prelude.{Bool, true, false, if◌then◌else◌, ◌&&◌, ℕ, zero}
use Rattle.std.proofs.Math.Option.{Option, none, some}
use Rattle.calculus.specs.Security.{Property, Reader, Security}
use Rattle.calculus.specs.Types.{sum, product, function, Ty, leaf, node, equal_formers, top, exists}
use Rattle.calculus.specs.Terms.{Side, first, choose, Term, var, unit, lam, pair, inj, app, proj, case, protect, mu}
use Rattle.calculus.specs.Terms.{literal, reckon, is_value, substitute, raise_value}
use Rattle.calculus.specs.Numbers.{Literal, literal_of, of_both, reckon_result}
use Rattle.calculus.specs.Reduction.{unrolled_function, Outcome, moved, denied, stuck}
use Rattle.calculus.specs.Stuck.{built_by}
use Rattle.records.specs.Operands.{first_operand, second_operand}

-- the groups of a record that names a reader only; unnamed fields are 0
abbrev pub only_reader : Reader → Property
only_reader w = record { r = w; ir = 0; c = 0; ic = 0 }

-- the groups of a term's own record
abbrev pub property_of : Term → Property
property_of (var n) = only_reader 0
property_of (unit k) = k
property_of (lam k i e) = k
property_of (pair k a b) = k
property_of (inj d k i e) = k
property_of (app w f a) = only_reader w
property_of (proj d w e) = only_reader w
property_of (case w i e a b) = only_reader w
property_of (protect m e) = record { r = 0; ir = m.ir; c = 0; ic = m.ic }
property_of (mu w i e) = only_reader w
property_of (literal k n) = k
property_of (reckon o w a b) = only_reader w

-- The parts of a term that a reduction rule takes apart. Each is total: a term without the part has a stand-in, which
-- no rule uses.
abbrev pub side_of : Term → Side
side_of (inj d k i e) = d
side_of (proj d w e) = d
side_of _ = first

abbrev value_or : Option Literal → ℕ
value_or none = 0
value_or (some x) = x.value

-- the number of a literal
abbrev pub value_of : Term → ℕ
value_of e = value_or (literal_of e)

-- Is it a function type?
abbrev pub is_function : Ty → Bool
is_function (leaf b k) = false
is_function (node f k s t) = equal_formers function f

-- Is it a node's own turn to reduce: no value, and its evaluated operands are values?
unfoldable pub is_potential_redex : Term → Bool
unfolding is_value
is_potential_redex (var n) = true
is_potential_redex (app w f a) = is_value f && is_value a
is_potential_redex (proj d w e) = is_value e
is_potential_redex (case w i e a b) = is_value e
is_potential_redex (protect m e) = is_value e
is_potential_redex (mu w i e) = true
is_potential_redex (reckon o w a b) = is_value a && is_value b
is_potential_redex _ = false

-- what becomes of a node whose own turn it is
pub data Fate : Type 0 where
  -- the node contracts
  reduces : Fate
  -- the node's group may not read the operand
  not_permitted : Fate
  -- no rule has the operand's kind, or the node is a free variable
  no_rule : Fate

-- The fate of a node whose operands have the wanted kinds or not, and which may read them or not: a wrong kind comes
-- before a reader that may not.
abbrev pub reading_fate : Bool → Bool → Fate
reading_fate fits may = if fits then (if may then reduces else not_permitted) else no_rule

-- the fate of a node by its own kind
unfoldable pub fate : Security → (ℕ → Ty) → Term → Fate
unfolding built_by
fate S tab (app w f a) = reading_fate (built_by function f) (S.permits (property_of f) w)
fate S tab (proj d w e) = reading_fate (built_by product e) (S.permits (property_of e) w)
fate S tab (case w i e a b) = reading_fate (built_by sum e) (S.permits (property_of e) w)
fate S tab (protect m e) = reduces
fate S tab (mu w i e) = if is_function (tab i) then reduces else no_rule
fate S tab (reckon o w a b) =
    reading_fate (exists (literal_of a) && exists (literal_of b))
    (S.permits (property_of a) w && S.permits (property_of b) w)
fate S tab _ = no_rule

-- What each redex becomes by the reduction rules. A term that no rule fits stays as it is.
unfoldable pub contractum : Security → (ℕ → Ty) → Term → Term
unfolding substitute raise_value
contractum S tab (var n) = var n
contractum S tab (unit k) = unit k
contractum S tab (lam k i e) = lam k i e
contractum S tab (pair k a b) = pair k a b
contractum S tab (inj d k i e) = inj d k i e
contractum S tab (app w f a) = protect (S.influence (property_of f) w) (substitute zero a (first_operand f))
contractum S tab (proj d w e) = protect (S.influence (property_of e) w) (choose d (first_operand e) (second_operand e))
contractum S tab (case w i e a b) =
    protect (S.influence (property_of e) w) (substitute zero (first_operand e) (choose (side_of e) a b))
contractum S tab (protect m e) = raise_value S e m
contractum S tab (mu w i e) = substitute zero (unrolled_function S w i (top (tab i)) e) e
contractum S tab (literal k n) = literal k n
contractum S tab (reckon o w a b) =
    reckon_result tab o (of_both S w (property_of a) (property_of b)) (value_of a) (value_of b)
