-- Sums and comparisons at work, over two groups 0 ⊑ 1: each line is computed.
use Rattle.std.proofs.Common.{◌≡◌, refl, ◌&&◌, [], ℕ, min, max, nat_le, nat_lt}
use Rattle.std.proofs.Math.Option.{some}
use Rattle.calculus.specs.Security.{Property, Security}
use Rattle.calculus.specs.Groups.{properties}
use Rattle.calculus.specs.Types.{one, number, sum, Ty, leaf, node}
use Rattle.calculus.specs.Terms.{first, second, plus, less, Term, unit, inj, literal, reckon}
use Rattle.calculus.specs.Numbers.{literal_of, reckon_result}
use Rattle.calculus.specs.Reduction.{moved, denied, stuck, step, operand_first, if_permitted, calculate}
use Rattle.calculus.specs.Typing.{infer}

abbrev two : Security
two = properties (record { group = λ g. nat_lt g 2; leq = λ g h. nat_le g h && nat_lt h 2; join = max; meet = min })

-- (r, ir, c, ic)
abbrev κ : ℕ → ℕ → ℕ → ℕ → Property
κ r ir c ic = record { r = r; ir = ir; c = c; ic = ic }

-- every type a sum of two units
abbrev flags : ℕ → Ty
flags i = node sum (κ 1 1 0 0) (leaf one (κ 0 0 1 1)) (leaf one (κ 1 0 1 0))

-- a number that 1 reads, and one that 1 read and 0 helped to make
abbrev read_by_1 : ℕ → Term
read_by_1 n = literal (κ 1 0 1 1) n

abbrev learned_by_1 : ℕ → Term
learned_by_1 n = literal (κ 1 1 0 0) n

-- A sum over 65,535 is 65,535; the operands' r and c don't enter.
sum_step : step two flags (reckon plus 1 (read_by_1 65000) (read_by_1 1000)) ≡ moved (literal (κ 0 0 1 1) 65535)
unfolding step operand_first calculate literal_of reckon_result if_permitted
sum_step = refl

-- The result is raised by the left operand's ir and by its ic ⊓ the node's group, then by the right's.
left_raises : step two flags (reckon plus 1 (learned_by_1 3) (read_by_1 4)) ≡ moved (literal (κ 1 1 0 0) 7)
unfolding step operand_first calculate literal_of reckon_result if_permitted
left_raises = refl

right_raises : step two flags (reckon plus 1 (read_by_1 3) (learned_by_1 4)) ≡ moved (literal (κ 1 1 0 0) 7)
unfolding step operand_first calculate literal_of reckon_result if_permitted
right_raises = refl

sum_typed : infer two flags [] (reckon plus 1 (read_by_1 3) (learned_by_1 4)) ≡ some (leaf number (κ 1 1 0 0))
unfolding infer
sum_typed = refl

-- Less than gives the first injection, otherwise the second, of a unit with that side's property.
less_step : step two flags (reckon (less 5) 1 (read_by_1 3) (read_by_1 4)) ≡ moved (inj first (κ 0 0 1 1) 5 (unit (κ 0 0 1 1)))
unfolding step operand_first calculate literal_of reckon_result if_permitted
less_step = refl

not_less_step : step two flags (reckon (less 5) 1 (read_by_1 4) (read_by_1 4)) ≡ moved (inj second (κ 0 0 1 1) 5 (unit (κ 1 0 1 0)))
unfolding step operand_first calculate literal_of reckon_result if_permitted
not_less_step = refl

less_typed : infer two flags [] (reckon (less 5) 1 (read_by_1 3) (read_by_1 4))
    ≡ some (node sum (κ 0 0 1 1) (leaf one (κ 0 0 1 1)) (leaf one (κ 1 0 1 0)))
unfolding infer
less_typed = refl

-- both kinds come before either reader
wrong_right : step two flags (reckon plus 0 (read_by_1 3) (unit (κ 0 0 1 1))) ≡ stuck
unfolding step operand_first calculate literal_of
wrong_right = refl

denied_right : step two flags (reckon plus 0 (literal (κ 0 0 1 1) 3) (read_by_1 4)) ≡ denied
unfolding step operand_first calculate literal_of reckon_result if_permitted
denied_right = refl
