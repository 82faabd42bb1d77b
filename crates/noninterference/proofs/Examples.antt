-- The conditions of nothing learned at work, over two groups 0 ⊑ 1: each line is computed.
use Rattle.std.proofs.Common.{◌≡◌, refl, true, false, ◌&&◌, [], ◌∷◌, ℕ, min, max, nat_le, nat_lt}
use Rattle.std.proofs.Math.Option.{some}
use Rattle.calculus.specs.Security.{Property}
use Rattle.calculus.specs.Groups.{Groups, properties}
use Rattle.calculus.specs.Types.{one, number, sum, product, function, Ty, leaf, node, size_t}
use Rattle.calculus.specs.Terms.{first, second, less, unit, pair, inj, literal}
use Rattle.calculus.specs.Numbers.{literal_of, reckon_result}
use Rattle.calculus.specs.Reduction.{moved, step, operand_first, if_permitted, calculate}
use Rattle.calculus.specs.Typing.{HasType, t_pair, t_proj, t_literal, infer}
use Rattle.noninterference.specs.Places.{Place, whole, in_pair_left, at_proj, in_reckon_left, put, shown_kind}
use Rattle.noninterference.specs.Places.{shown_literal, shown_records, plain, type_within}
use Rattle.noninterference.specs.Noninterference.{SamePlace}

abbrev two : Groups
two = record { group = λ g. nat_lt g 2; leq = λ g h. nat_le g h && nat_lt h 2; join = max; meet = min }

-- (r, ir, c, ic), of which creators are 0 throughout
abbrev κ : ℕ → ℕ → Property
κ r ir = record { r = r; ir = ir; c = 0; ic = 0 }

-- every type a sum of two units
abbrev flags : ℕ → Ty
flags i = node sum (κ 0 0) (leaf one (κ 0 0)) (leaf one (κ 0 0))

-- the second of a pair, the first of which stands open
abbrev beside : Place
beside = at_proj second 0 (in_pair_left (κ 0 0) whole (literal (κ 0 0) 7))

beside_typed : (n : ℕ) → HasType (properties two) flags [] (put beside (literal (κ 1 1) n)) (leaf number (κ 0 0))
unfolding put size_t
beside_typed n =
    let p : HasType (properties two) flags [] (pair (κ 0 0) (literal (κ 1 1) n) (literal (κ 0 0) 7))
    (node product (κ 0 0) (leaf number (κ 1 1)) (leaf number (κ 0 0))) = t_pair refl (t_literal refl) (t_literal refl) refl in
    t_proj {d = second} {w = 0} p refl

-- The promise isn't empty: two numbers that 0 may learn nothing of, in a script that 0 reads.
unseen_numbers : SamePlace two flags beside (literal (κ 1 1) 1) (literal (κ 1 1) 2) (leaf number (κ 1 1)) (leaf number (κ 0 0))
unfolding infer put plain
unseen_numbers = record {
  exchanged = record { first_reported = refl; second_reported = refl; first_typed = beside_typed 1; second_typed = beside_typed 2 };
  read_whole = refl;
  not_seen = refl;
}

-- Readers alone hide nothing from what follows: ir ⋢ ir', not r ⋢ r'. Here r is 1 and ir is 0, and the script tells one
-- number from another.
abbrev asked : Place
asked = in_reckon_left (less 0) 1 whole (literal (κ 0 0) 2)

told_1 : step (properties two) flags (put asked (literal (κ 1 0) 1)) ≡ moved (inj first (κ 0 0) 0 (unit (κ 0 0)))
unfolding put step operand_first calculate literal_of reckon_result if_permitted
told_1 = refl

told_2 : step (properties two) flags (put asked (literal (κ 1 0) 2)) ≡ moved (inj second (κ 0 0) 0 (unit (κ 0 0)))
unfolding put step operand_first calculate literal_of reckon_result if_permitted
told_2 = refl

told_type : infer (properties two) flags [] (put asked (literal (κ 1 0) 1)) ≡ some (flags 0)
unfolding put infer
told_type = refl

-- no function, all readers ⊑ those of the first record, and all indirect readers ⊑ its
all_within : type_within two (κ 1 0) (node product (κ 0 0) (leaf number (κ 1 0)) (flags 0)) ≡ true
unfolding plain
all_within = refl

reader_without : type_within two (κ 0 0) (node sum (κ 0 0) (leaf one (κ 0 0)) (leaf one (κ 1 0))) ≡ false
unfolding plain
reader_without = refl

influence_without : type_within two (κ 1 0) (node product (κ 1 0) (leaf one (κ 1 1)) (leaf one (κ 1 0))) ≡ false
unfolding plain
influence_without = refl

function_held : type_within two (κ 0 0) (node sum (κ 0 0) (flags 0) (node function (κ 0 0) (leaf one (κ 0 0)) (leaf one (κ 0 0)))) ≡ false
unfolding plain
function_held = refl

-- the kinds of record in order, and equal literals
records_of : shown_records (pair (κ 0 0) (inj second (κ 0 0) 0 (unit (κ 0 0))) (literal (κ 0 0) 7)) ≡ shown_kind 3 ∷ shown_kind 5 ∷ shown_kind 1 ∷ shown_literal 7 ∷ []
unfolding shown_records
records_of = refl
