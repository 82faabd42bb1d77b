-- A types table that passes, stripped, passes over the one-group table.
use Rattle.std.proofs.Common.{◌≡◌, refl, ap, ap₂, ◌∙◌, Bool, true, not, ◌&&◌, ℕ, suc, zero, ◌+◌, ◌-◌, ◌/◌, ◌%◌, nat_eq}
use Rattle.std.proofs.Common.{nat_le, nat_lt, arith}
use Rattle.std.proofs.Math.Option.{Option}
use Rattle.rules.specs.Answer.{Bytes, accepted, ask, each, is_absent, ◌⇒◌}
use Rattle.rules.specs.Limits.{type_width, table_limit}
use Rattle.rules.specs.Groups.{rows, leq}
use Rattle.rules.specs.Types.{type_count, type_kind, sides, end_after, type_end, pending, short, ok9, ok10, ok36_type}
use Rattle.rules.specs.Types.{ok11, ok12, q8}
use Rattle.rules.specs.Strip.{strip_types, one_group}
use Rattle.rules.specs.Calls.{groups_check, types_check}
use Rattle.rules.proofs.Search.{each_all, each_accepted}
use Rattle.promises.proofs.Answers.{go_on, and_true}
use Rattle.rules.proofs.Asked.{and_then}
use Rattle.promises.proofs.Stripping.{strip_type_count, strip_type_kind, strip_type_r, strip_type_ir, strip_type_zero}
use Rattle.promises.proofs.Stripping.{strip_type_c, strip_type_ic}
use Rattle.rules.proofs.Strip.{strip_length}

-- what is read of the kinds alone
end_after_same : (f h : ℕ → ℕ) → ((i : ℕ) → f i ≡ h i) → (left need i : ℕ) → end_after f left need i ≡ end_after h left need i
unfolding end_after
end_after_same f h e zero zero i = refl
end_after_same f h e zero (suc need) i = refl
end_after_same f h e (suc left) zero i = refl
end_after_same f h e (suc left) (suc need) i =
    end_after_same f h e left (need + f i) (suc i) ∙ ap (λ (n : ℕ). end_after h left (need + n) (suc i)) (e i)

module _ (t : Bytes) where
  sides_same : (i : ℕ) → sides (type_kind (strip_types t) i) ≡ sides (type_kind t i)
  sides_same i = ap sides (strip_type_kind t i)

  type_end_same : (i : ℕ) → type_end (strip_types t) i ≡ type_end t i
  unfolding type_end
  type_end_same i = grind (arith, strip_type_count, end_after_same, sides_same)

  pending_same : (i : ℕ) → pending (strip_types t) i ≡ pending t i
  unfolding pending
  pending_same zero = refl
  pending_same (suc i) = ap₂ (λ (a b : ℕ). (a - 1) + b) (pending_same i) (sides_same i)

  ok11_same : (i : ℕ) → ok11 (strip_types t) i ≡ ok11 t i
  unfolding ok11
  ok11_same i = ap₂ (λ (n : ℕ) (o : Option ℕ). nat_eq n 0 ⇒ not (is_absent o)) (pending_same i) (type_end_same i)

  ok12_same : (i : ℕ) → ok12 (strip_types t) i ≡ ok12 t i
  unfolding ok12
  ok12_same i = ap₂ (λ (n : ℕ) (o : Option ℕ). nat_eq n 0 ⇒ short o i) (pending_same i) (type_end_same i)

  -- question q of every record, where stripping makes no no
  each_kept : (q : ℕ) (ok ok' : ℕ → Bool) → ((i : ℕ) → ok i ≡ true → ok' i ≡ true) → each q (type_count t) ok ≡ accepted tt
      → each q (type_count (strip_types t)) ok' ≡ accepted tt
  each_kept q ok ok' k h =
      ap (λ (n : ℕ). each q n ok') (strip_type_count t) ∙ each_accepted q (type_count t) ok' (λ i l. k i (each_all q (type_count t) ok h i l))

  -- the stripped fields, each against what was there
  ok9_kept : (n i : ℕ) → ok9 n t i ≡ true → ok9 (rows one_group) (strip_types t) i ≡ true
  unfolding ok9
  ok9_kept n i h = grind (arith, nat_le, nat_eq, and_true, strip_type_kind, strip_type_zero, strip_type_r, strip_type_ir, strip_type_c, strip_type_ic, nat_lt)

  ok10_kept : (i : ℕ) → ok10 one_group (strip_types t) i ≡ true
  unfolding ok10
  ok10_kept i = ap₂ (λ (x y : ℕ). leq one_group x y) (strip_type_ir t i) (strip_type_r t i)

  ok36_kept : (i : ℕ) → ok36_type one_group (strip_types t) i ≡ true
  unfolding ok36_type
  ok36_kept i = ap₂ (λ (x y : ℕ). leq one_group x y) (strip_type_ic t i) (strip_type_c t i)

  q8_same : q8 (strip_types t) ≡ q8 t
  q8_same = grind (arith, nat_eq, nat_le, strip_length)

one_group_passes : groups_check one_group ≡ accepted tt
unfolding groups_check
one_group_passes = refl

pub stripped_passes : (g t : Bytes) → types_check g t ≡ accepted tt → types_check one_group (strip_types t) ≡ accepted tt
unfolding types_check
stripped_passes g t h = grind (arith, and_then, go_on, one_group_passes, q8_same, each_kept, ok9_kept, ok10_kept, ok36_kept, ok11_same, ok12_same)
