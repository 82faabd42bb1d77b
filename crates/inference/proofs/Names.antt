-- The types that a formed node names.
use Rattle.std.proofs.Common.{◌≡◌, ap, subst, false, ◌&&◌, ℕ, ◌*◌, ◌<◌, ◌≤◌, length, drop, arith, nat_eq, get_or-drop}
use Rattle.calculus.specs.Security.{Property}
use Rattle.calculus.specs.Types.{sum, function}
use Rattle.calculus.specs.Typing.{finds_own}
use Rattle.calculus.specs.Terms.{Side, less, Term, lam, inj, case, mu, reckon}
use Rattle.rules.specs.Limits.{type_width}
use Rattle.rules.specs.Answer.{Bytes}
use Rattle.rules.specs.Types.{former_kind, type_count, type_kind, sides, type_at}
use Rattle.rules.specs.Script.{kind, number, own_at, encode}
use Rattle.records.specs.Kinds as kinds
use Rattle.types.specs.Held.{kind_of_type}
use Rattle.inference.specs.Operands.{WellFormed}
use Rattle.inference.specs.Memory.{Slot, SlotTable, SlotType, SlotSided}
use Rattle.inference.specs.Stages.{CaseNode}
use Rattle.types.proofs.Parts.{kind_is}
use Rattle.inference.proofs.Shapes.{of_kind}

-- the type that a number names, in the part of the table that starts with it
pub within : (types : Bytes) (i : ℕ) → i < type_count types → type_width * i ≤ length types
within types i h = omega arith

pub named_slot : {types l : Bytes} {i : ℕ} → SlotTable types → i < type_count types → l ≡ drop (type_width * i) types → Slot l (type_at types i)
named_slot {i = i} t h e = rw e (t.entry i h)

pub named : {types l : Bytes} {i : ℕ} → SlotTable types → i < type_count types → l ≡ drop (type_width * i) types → SlotType l
named {types} {l} {i} t h e = record { type = type_at types i; slot = named_slot t h e }

pub kind_at : {types : Bytes} {i : ℕ} → SlotTable types → i < type_count types → type_kind types i ≡ kind_of_type (type_at types i)
kind_at {types} {i} t l = grind (arith, get_or-drop, type_width, kind_is, type_at)

pub named_sided : {types l : Bytes} {i k : ℕ} → SlotTable types → i < type_count types → type_kind types i ≡ k → sides k ≡ 2 → l ≡ drop (type_width * i) types → SlotSided l
named_sided {types} {l} {i} t h q two e = record { type = type_at types i; slot = named_slot t h e; two = rw (← kind_at t h, q) two }

module _ (t : Bytes) (b i : ℕ) (e : Term) (f : WellFormed t b e) where
  pub lam_index : {k : Property} {a : Term} → e ≡ lam k i a → i < type_count t
  unfolding WellFormed
  lam_index p = (subst (λ d. WellFormed t b d) p f).0

  pub inj_index : {d : Side} {k : Property} {a : Term} → e ≡ inj d k i a → (i < type_count t) × (type_kind t i ≡ former_kind sum)
  unfolding WellFormed
  inj_index p = (subst (λ d. WellFormed t b d) p f).0

  pub mu_index : {w : ℕ} {a : Term} → e ≡ mu w i a → (i < type_count t) × (type_kind t i ≡ former_kind function)
  unfolding WellFormed
  mu_index p = (subst (λ d. WellFormed t b d) p f).0

  pub less_index : {w : ℕ} {x y : Term} → e ≡ reckon (less i) w x y → (i < type_count t) × (type_kind t i ≡ former_kind sum)
  unfolding WellFormed
  less_index p = (subst (λ d. WellFormed t b d) p f).0

  pub case_index : {w : ℕ} {a x y : Term} → e ≡ case w i a x y → finds_own i ≡ false → i < type_count t
  unfolding WellFormed
  case_index p = (subst (λ d. WellFormed t b d) p f).0

-- the same by the kind of the node's record
module _ (types s : Bytes) (b : ℕ) (e : Term) (is : s ≡ encode e) (f : WellFormed types b e) where
  pub function_index : kinds.function ≡ kind s 0 → number s 0 < type_count types
  function_index k = lam_index types b _ e f (of_kind s e kinds.function is k)

  pub recursion_index : kinds.recursion ≡ kind s 0 → (number s 0 < type_count types) × (type_kind types (number s 0) ≡ former_kind function)
  recursion_index k = mu_index types b _ e f (of_kind s e kinds.recursion is k)

  pub flag_index : kinds.less ≡ kind s 0 → (number s 0 < type_count types) × (type_kind types (number s 0) ≡ former_kind sum)
  flag_index k = less_index types b _ e f (of_kind s e kinds.less is k)

-- whether a case finds its own type is told by its number alone
pub owns : {types s : Bytes} → CaseNode types s → own_at s 0 ≡ finds_own (number s 0)
owns {s = s} c = ap (λ k. nat_eq k kinds.case && finds_own (number s 0)) c.kind_is
