-- What a term with names means, and the names over its records, by its operands, whatever its kind.
use Rattle.std.proofs.Common.{◌≡◌, refl, sym, ap, ap₂, ◌∙◌, List, [], ◌∷◌, ◌++◌, append-nil, ℕ, suc, ◌+◌, ◌<◌, arith}
use Rattle.std.proofs.Common.{nat_eq, length, ne_eqb}
use Rattle.calculus.specs.Terms.{first, second, plus, less, Term, var, unit, lam, pair, inj, app, proj, case, protect}
use Rattle.calculus.specs.Terms.{mu, literal, reckon}
use Rattle.rules.specs.Answer.{Bytes}
use Rattle.rules.specs.Script.{encode, size}
use Rattle.rules.specs.Names.{meant, scopes}
use Rattle.rules.specs.Office.{with_names}
use Rattle.rules.proofs.Prefix.{joined, total}
use Rattle.rules.proofs.TermCode.{term_operands, term_head, term_encode_is}
use Rattle.records.specs.Kinds as kinds
use Rattle.records.specs.Binders.{binds}
use Rattle.records.proofs.Stands.{kind_of}
use Rattle.importing.proofs.NamesOver.{inner}

module _ (o : Bytes) where
  -- the operands from the j-th on of record i, which has this kind and stands under ns; the first of them is at record
  -- `next`
  abbrev pub scopes_from : ℕ → ℕ → List ℕ → ℕ → ℕ → List Term → List (List ℕ)
  scopes_from i kind ns j next [] = []
  scopes_from i kind ns j next (e ∷ es) = scopes (inner o i kind j ns) (with_names o next e) ++ scopes_from i kind ns (suc j) (next + size e) es

  abbrev pub meant_from : ℕ → ℕ → List ℕ → ℕ → ℕ → List Term → List Term
  meant_from i kind ns j next [] = []
  meant_from i kind ns j next (e ∷ es) = meant (inner o i kind j ns) (with_names o next e) ∷ meant_from i kind ns (suc j) (next + size e) es

  pub scopes_are : (i : ℕ) (ns : List ℕ) (e : Term) → scopes ns (with_names o i e) ≡ ns ∷ scopes_from i (kind_of e) ns 0 (1 + i) (term_operands e)
  unfolding scopes with_names binds
  scopes_are i ns (var n) = refl
  scopes_are i ns (unit k) = refl
  scopes_are i ns (inj first k t e) = simp append-nil
  scopes_are i ns (proj first w e) = simp append-nil
  scopes_are i ns (literal k n) = refl
  scopes_are i ns (reckon plus w a b) = simp append-nil
  scopes_are i ns _ = simp append-nil

  record Node (i : ℕ) (ns : List ℕ) (e : Term) : Type 0 where
    head : term_head (meant ns (with_names o i e)) ≡ term_head e
    operands : term_operands (meant ns (with_names o i e)) ≡ meant_from i (kind_of e) ns 0 (1 + i) (term_operands e)

  meant_node : (i : ℕ) (ns : List ℕ) (e : Term) → (kind_of e ≡ kinds.variable → ⊥) → Node i ns e
  unfolding meant with_names binds
  meant_node i ns (var n) h = absurd (h refl)
  meant_node i ns (inj first k t e) h = record { head = refl; operands = refl }
  meant_node i ns (proj first w e) h = record { head = refl; operands = refl }
  meant_node i ns (reckon plus w a b) h = record { head = refl; operands = refl }
  meant_node i ns _ h = record { head = refl; operands = refl }

  -- a record that is no variable's stays, and its operands are what they mean
  pub meant_encode : (i : ℕ) (ns : List ℕ) (e : Term) → (kind_of e ≡ kinds.variable → ⊥)
      → encode (meant ns (with_names o i e)) ≡ term_head e ++ joined encode (meant_from i (kind_of e) ns 0 (1 + i) (term_operands e))
  meant_encode i ns e h =
      let d = meant_node i ns e h in
      term_encode_is (meant ns (with_names o i e))
      ∙ ap₂ (λ (a : Bytes) (es : List Term). a ++ joined encode es) d.head d.operands

  pub meant_append : (i kind : ℕ) (ns : List ℕ) (j next : ℕ) (xs ys : List Term)
      → meant_from i kind ns j next (xs ++ ys) ≡ meant_from i kind ns j next xs ++ meant_from i kind ns (j + length xs) (next + total size xs) ys
  meant_append i kind ns j next [] ys =
      let p : j ≡ j + 0 = omega arith in
      let q : next ≡ next + 0 = omega arith in
      ap₂ (λ x y. meant_from i kind ns x y ys) p q
  meant_append i kind ns j next (e ∷ xs) ys =
      let p : suc j + length xs ≡ j + suc (length xs) = omega arith in
      let q : next + size e + total size xs ≡ next + (size e + total size xs) = omega arith in
      let d = meant (inner o i kind j ns) (with_names o next e) in
      ap (λ es. d ∷ es)
      (meant_append i kind ns (suc j) (next + size e) xs ys ∙ ap₂ (λ x y. meant_from i kind ns (suc j) (next + size e) xs ++ meant_from i kind ns x y ys) p q)

-- a variable stands alone
pub variable_alone : (e : Term) → kind_of e ≡ kinds.variable → (m : ℕ) × (e ≡ var m)
variable_alone (var m) h = (m, refl)
variable_alone (inj first k i e) h = absurd (omega arith)
variable_alone (proj first w e) h = absurd (omega arith)
variable_alone (reckon plus w a b) h = absurd (omega arith)
variable_alone _ h = absurd (omega arith)
