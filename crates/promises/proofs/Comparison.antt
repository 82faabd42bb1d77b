-- The laws of the comparison.
use Rattle.std.proofs.Common.{◌≡◌, refl, ap, sym, subst, ◌∙◌, Bool, true, false, cond, ◌&&◌, [], append-nil, ℕ, ◌<◌}
use Rattle.std.proofs.Common.{min, arith, eqb-true, eq-eqb, lt-ltb, nat_eq, IsTrue}
use Rattle.std.proofs.Math.Bool.{false≢true}
use Rattle.calculus.specs.Security.{Property, Security}
use Rattle.calculus.specs.Types.{Leaf, one, number, Former, sum, product, function, Ty, leaf, node}
use Rattle.calculus.specs.Types as formers
use Rattle.calculus.specs.Subtyping.{Subtype, Direction, subtype}
use Rattle.calculus.specs.Subtyping as directions
use Rattle.calculus.proofs.Properties.{properties_laws}
use Rattle.calculus.proofs.Directed.{same_refl, same_eq}
use Rattle.calculus.proofs.Subtyping.{subtype_sound, subtype_complete, subtype_opposite, subtype_reflexive}
use Rattle.calculus.proofs.Subtyping.{subtype_antisymmetric}
use Rattle.rules.specs.Answer.{Bytes, Octets, accepted}
use Rattle.rules.specs.Groups.{properties_of}
use Rattle.rules.specs.Types.{type_count, type_at, encode_type}
use Rattle.rules.specs.Comparison.{Comparison, same, strictly_below, neither, equal_properties, equal_types, comparison}
use Rattle.rules.specs.Comparison.{comparison_number}
use Rattle.rules.specs.Calls.{types_check, compare_call}
use Rattle.rules.proofs.Asked.{ask_true}
use Rattle.rules.proofs.PrefixLaws.{unique}
use Rattle.rules.proofs.TypeCode.{type_prefix}
use Rattle.promises.specs.Comparison.{Compares, left_sides, Composes, Comparisons}
use Rattle.promises.proofs.Answers.{accepted_inj, both, asks, and_true}
use Rattle.promises.proofs.Tables.{Tables}
use Rattle.promises.proofs.TypesTable.{tables}
use Rattle.std.proofs.lemmas.Grind.{common_steps}

-- Equal in every record is equal.
equal_property : (k l : Property) → equal_properties k l ≡ true → k ≡ l
equal_property k l h = grind arith

equal_sound : (s t : Ty) → equal_types s t ≡ true → s ≡ t
unfolding equal_types
equal_sound (leaf one k) (leaf one l) h = ap (leaf one) (equal_property k l h)
equal_sound (leaf one k) (leaf number l) h = absurd (false≢true h)
equal_sound (leaf number k) (leaf one l) h = absurd (false≢true h)
equal_sound (leaf number k) (leaf number l) h = ap (leaf number) (equal_property k l h)
equal_sound (leaf b k) (node f l s t) h = absurd (false≢true h)
equal_sound (node f k s t) (leaf b l) h = absurd (false≢true h)
equal_sound (node f k s t) (node f' l s' t') h =
    let a = both (formers.equal_formers f f') (equal_properties k l && (equal_types s s' && equal_types t t')) h in
    let b = both (equal_properties k l) (equal_types s s' && equal_types t t') a.1 in
    let c = both (equal_types s s') (equal_types t t') b.1 in
    λ i. node (same_eq f f' a.0 i) (equal_property k l b.0 i) (equal_sound s s' c.0 i) (equal_sound t t' c.1 i)

own_property : (k : Property) → equal_properties k k ≡ true
own_property k = grind arith

equal_refl : (s : Ty) → equal_types s s ≡ true
unfolding equal_types
equal_refl (leaf one k) = own_property k
equal_refl (leaf number k) = own_property k
equal_refl (node f k s t) = and_true (same_refl f) (and_true (own_property k) (and_true (equal_refl s) (equal_refl t)))

-- two tests, each of which implies the other
alike_tests : (a b : Bool) → (a ≡ true → b ≡ true) → (b ≡ true → a ≡ true) → a ≡ b
alike_tests a b p q = grind arith

equal_swap : (s t : Ty) → equal_types s t ≡ equal_types t s
equal_swap s t =
    alike_tests (equal_types s t) (equal_types t s)
    (λ h. ap (λ e. equal_types e s) (sym (equal_sound s t h)) ∙ equal_refl s)
    (λ h. ap (λ e. equal_types e t) (sym (equal_sound t s h)) ∙ equal_refl t)

-- The answer from its two tests.
abbrev of_tests : Bool → Bool → Comparison
of_tests b c = cond b (cond c same strictly_below) neither

is_same : (b c : Bool) → of_tests b c ≡ same → c ≡ true
is_same b c h = grind arith

is_related : (b c : Bool) → (of_tests b c ≡ neither → ⊥) → b ≡ true
is_related b c h = grind arith

not_neither : (b c : Bool) → b ≡ true → of_tests b c ≡ neither → ⊥
not_neither b c h e = grind arith

module _ (S : Security) (s t : Ty) where
  abbrev Related : Type 0
  Related = comparison S s t ≡ neither → ⊥

  related_below : Related → IsTrue (subtype S directions.below s t)
  related_below h = is_related (subtype S directions.below s t) (equal_types s t) h

  below_related : IsTrue (subtype S directions.below s t) → Related
  below_related h = not_neither (subtype S directions.below s t) (equal_types s t) h

  same_equal : comparison S s t ≡ same → s ≡ t
  same_equal h = equal_sound s t (is_same (subtype S directions.below s t) (equal_types s t) h)

  equal_same : IsTrue (subtype S directions.below s t) → s ≡ t → comparison S s t ≡ same
  equal_same h e = rw (h, sym (ap (equal_types s) e) ∙ equal_refl s)

module _ (S : Security) where
  -- at or above is at or below of the two exchanged, and the same is the same
  turned_round : (s t : Ty) → of_tests (subtype S directions.above s t) (equal_types s t) ≡ comparison S t s
  turned_round s t =
      let a = alike_tests (subtype S directions.above s t) (subtype S directions.below t s)
      (subtype_opposite S directions.above s t) (subtype_opposite S directions.below t s) in
      rw (a, equal_swap s t)

  -- the left sides compared in a direction
  three : (d : Direction) (k l : Property) (s s' t t' : Ty)
      → comparison_number (of_tests (S.le k l && (subtype S d s s' && subtype S directions.below t t')) (equal_properties k l && (equal_types s s' && equal_types t t')))
      ≡ min (comparison_number (of_tests (S.le k l) (equal_properties k l)))
      (min (comparison_number (of_tests (subtype S d s s') (equal_types s s'))) (comparison_number (comparison S t t')))
  three d k l s s' t t' = grind arith

  nodes : (f : Former) (k l : Property) (s s' t t' : Ty) → comparison_number (comparison S (node f k s t) (node f l s' t'))
      ≡ min (comparison_number (comparison S (leaf one k) (leaf one l))) (min (comparison_number (left_sides S f s s')) (comparison_number (comparison S t t')))
  unfolding subtype equal_types
  nodes sum k l s s' t t' = three directions.below k l s s' t t'
  nodes product k l s s' t t' = three directions.below k l s s' t t'
  nodes function k l s s' t t' =
      three directions.above k l s s' t t'
      ∙ ap (λ c. min (comparison_number (of_tests (S.le k l) (equal_properties k l))) (min (comparison_number c) (comparison_number (comparison S t t'))))
      (turned_round s s')

  other_formers : (f f' : Former) (k l : Property) (s s' t t' : Ty) → (f ≡ f' → ⊥) → comparison S (node f k s t) (node f' l s' t') ≡ neither
  unfolding subtype
  other_formers f f' k l s s' t t' n = grind arith

  leaves : (b : Leaf) (k l : Property) → comparison S (leaf b k) (leaf b l) ≡ cond (S.le k l) (cond (equal_properties k l) same strictly_below) neither
  unfolding subtype equal_types
  leaves b k l = grind arith

  other_leaves : (b b' : Leaf) (k l : Property) → (b ≡ b' → ⊥) → comparison S (leaf b k) (leaf b' l) ≡ neither
  unfolding subtype
  other_leaves b b' k l n = grind arith

  pub composes : Composes S
  unfolding subtype equal_types
  composes = record {
    leaves = leaves;
    sides = nodes;
    other_leaves = other_leaves;
    leaf_other = λ b f k l s t. refl;
    other_leaf = λ b f k l s t. refl;
    others = other_formers;
    alike = λ place s t. (
      λ h. below_related S s t (ask_true 22 place (subtype S directions.below s t) h),
      λ h. asks 22 place (subtype S directions.below s t) (related_below S s t h),
    );
  }

-- Two types of a table.
module _ (g t : Bytes) (o : Octets g) (yes : types_check g t ≡ accepted tt) where
  X : Tables g t
  X = tables g t o yes

  abbrev S : Security
  S = properties_of g

  answer : (i j : ℕ) → i < type_count t → j < type_count t → compare_call g t i j ≡ accepted (comparison S (type_at t i) (type_at t j))
  unfolding compare_call
  answer i j l m = grind (arith, common_steps)

  module _ (i j : ℕ) (l : i < type_count t) (m : j < type_count t) where
    abbrev a : Ty
    a = type_at t i

    abbrev b : Ty
    b = type_at t j

    told : {c : Comparison} → compare_call g t i j ≡ accepted c → comparison S a b ≡ c
    told h = accepted_inj (sym (answer i j l m) ∙ h)

    says : {c : Comparison} → comparison S a b ≡ c → compare_call g t i j ≡ accepted c
    says h = answer i j l m ∙ ap (λ c. accepted c) h

    pub to_subtyping : (compare_call g t i j ≡ accepted neither → ⊥) → Subtype S a b
    to_subtyping h = subtype_sound a b (related_below S a b (λ e. h (says e)))

    pub from_subtyping : Subtype S a b → compare_call g t i j ≡ accepted neither → ⊥
    from_subtyping p e = below_related S a b (subtype_complete (properties_laws X.lattice) p) (told e)

    to_same : a ≡ b → compare_call g t i j ≡ accepted same
    to_same e =
        let r : Subtype S a a = subtype_reflexive (properties_laws X.lattice) a (X.table.secure i) in
        says (equal_same S a b (subtype_complete (properties_laws X.lattice) (subst (λ (u : Ty). Subtype S a u) e r)) e)

  pub compares : (i j : ℕ) → i < type_count t → j < type_count t → Compares g t i j
  compares i j l m =
      let L = properties_laws X.lattice in
      record {
        answers = (comparison S (type_at t i) (type_at t j), answer i j l m);
        same_when = (
          λ h. ap encode_type (same_equal S (type_at t i) (type_at t j) (told i j l m h)),
          λ h. to_same i j l m (unique type_prefix (type_at t i) (type_at t j) [] [] (append-nil _ ∙ h ∙ sym (append-nil _))).0,
        );
        related_when = (to_subtyping i j l m, from_subtyping i j l m);
        both_ways = (
          λ h. to_same i j l m (subtype_antisymmetric L (to_subtyping i j l m h.0) (to_subtyping j i m l h.1)),
          λ h.
              let e = same_equal S (type_at t i) (type_at t j) (told i j l m h) in
              let r = subtype_reflexive L (type_at t i) (X.table.secure i) in (
                from_subtyping i j l m (subst (λ (u : Ty). Subtype S (type_at t i) u) e r),
                from_subtyping j i m l (subst (λ (u : Ty). Subtype S u (type_at t i)) e r),
              ),
        );
      }

pub comparisons : Comparisons
comparisons = record { of_table = λ g t i j o yes l m. compares g t o yes i j l m; of_types = composes }
