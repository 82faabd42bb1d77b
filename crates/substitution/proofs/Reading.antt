-- What a term at a record tells of the bytes there.
use denote.Enum.Bare.{sameb}
use Rattle.std.proofs.Common.{◌≡◌, ℕ, ◌+◌, ◌*◌, ◌≤◌, true, false, length, sym, ap, ◌∙◌}
use Rattle.std.proofs.lemmas.Bool.{eqb-true, eqb-false}
use Rattle.records.specs.Numbers.{kind_number}
use Rattle.records.specs.declared.Kind.{Kind}
use Rattle.records.specs.declared.Kind.TheVariants.{Variable}
use Rattle.records.specs.contracts.Kind.{the_type}
use Rattle.calculus.specs.Terms.{Term, var}
use Rattle.rules.specs.Answer.{Bytes}
use Rattle.rules.specs.Limits.{script_width}
use Rattle.rules.specs.Script.{encode, size, kind, number, arity}
use Rattle.rules.proofs.PrefixLaws.{encode_length, size_positive}
use Rattle.rules.proofs.TermCode.{term_code, term_operands, two_bytes}
use Rattle.records.specs.Place.{At}
use Rattle.records.specs.Kinds as kinds
use Rattle.records.specs.Binders.{binds}
use Rattle.records.proofs.Made.{number_at}
use Rattle.records.proofs.Numbered.{tests_numbers}
use Rattle.records.proofs.Stands.{kind_of, stands_kind, stands_arity}

pub term_length : (e : Term) → length (encode e) ≡ script_width * size e
term_length e = encode_length term_code e

pub size_from : (e : Term) → 1 ≤ size e
size_from e = size_positive term_code e

pub variable_at : {s : Bytes} {i m : ℕ} → At s i (var m) → number s i ≡ m
variable_at {m = m} a = number_at a ∙ two_bytes m

pub variable_kind : (k : Kind) {n : ℕ} → true ≡ sameb the_type k Variable → kind_number k ≡ n → n ≡ kinds.variable
variable_kind k same is = sym is ∙ eqb-true _ _ (sym (tests_numbers k Variable) ∙ sym same)

pub other_kind : (k : Kind) {s : Bytes} {i : ℕ} {u : Term} → false ≡ sameb the_type k Variable → kind_number k ≡ kind s i → At s i u → kind_of u ≡ kinds.variable → ⊥
other_kind k same is a h = eqb-false _ _ (sym (tests_numbers k Variable) ∙ sym same) (is ∙ stands_kind _ _ _ a ∙ h)

-- What a loop over the operands of the node at record i knows of it, once its kind k is read: how many operands
-- it has, and the level of a variable under the binders over operand j.
module _ {s : Bytes} {i k : ℕ} {u : Term} (k_is : k ≡ kind s i) (a : At s i u) where
  pub count_is : {n : ℕ} → n ≡ arity k → n ≡ length (term_operands u)
  count_is e = e ∙ ap arity k_is ∙ stands_arity _ _ _ a

  pub level_is : {b : ℕ} (n j : ℕ) → b ≡ binds k j → n + b ≡ n + binds (kind_of u) j
  level_is n j e = ap (λ (x : ℕ). n + x) (e ∙ ap (λ (y : ℕ). binds y j) (k_is ∙ stands_kind _ _ _ a))
