-- A groups table that passes questions 2 to 7 is a lattice with 0 at the bottom, so properties over it obey the
-- calculus's laws.
use Rattle.std.proofs.Common.{◌≡◌, refl, sym, subst, ◌∙◌, Bool, true, false, ◌&&◌, ℕ, ◌+◌, ◌*◌, ◌%◌, ◌^◌, ◌≤◌, ◌<◌}
use Rattle.std.proofs.Common.{arith, eqb-true, leb-true, ltb-true, lt-ltb, nat_eq, nat_le, nat_lt, length, IsTrue}
use Rattle.std.proofs.Math.Bool.{beq, false≢true}
use Rattle.std.proofs.Math.Option.{none, some, Option}
use Rattle.std.proofs.Math.Decide.{dec_lt}
use Rattle.std.proofs.Math.Nat.{zero-div, div-eq_of_lt, pow-le-pow_right}
use Rattle.std.proofs.Math.ListN.{get_or-eq_default}
use Rattle.calculus.specs.Groups.{Lattice}
use Rattle.rules.specs.Answer.{Bytes, byte, Octets, accepted, first_below, ◌⇒◌}
use Rattle.rules.specs.Limits.{row_width, group_limit}
use Rattle.rules.specs.Groups.{rows, row, bit, leq, in_both_rows, join, below_both, meet, or_zero, is_row_within}
use Rattle.rules.specs.Groups.{row_of_lowest, holds_number, ok3, ok4, ok5, ok6, ok7, q2, q3, q4, q5, q6, q7, groups_of}
use Rattle.rules.specs.Calls.{groups_check}
use Rattle.rules.proofs.Search.{each_all, all_below_all, IsFirst, found, Last, last}
use Rattle.promises.proofs.Answers.{both}
use Rattle.rules.proofs.Asked.{ask_true, implied}
use Rattle.calculus.proofs.Booleans.{same_bits}

module _ (t : Bytes) (octets : Octets t) (passed : groups_check t ≡ accepted tt) where
  asked_all : (q2 t ≡ accepted tt) × (q3 t ≡ accepted tt) × (q4 t ≡ accepted tt) × (q5 t ≡ accepted tt) × (q6 t ≡ accepted tt) × (q7 t ≡ accepted tt)
  unfolding groups_check
  asked_all = grind arith

  -- question 2
  shape : (nat_eq (length t % row_width) 0 ≡ true) × (nat_le 1 (rows t) && nat_le (rows t) group_limit ≡ true)
  shape = grind (arith, nat_eq, ask_true, nat_le, asked_all)

  few : rows t ≤ group_limit
  few = leb-true (rows t) group_limit (both (nat_le 1 (rows t)) _ shape.1).1

  pub some_rows : 0 < rows t
  some_rows = leb-true 1 (rows t) (both (nat_le 1 (rows t)) _ shape.1).0

  whole : length t ≡ row_width * rows t
  whole = let e : length t % row_width ≡ 0 = eqb-true (length t % row_width) 0 shape.0 in omega arith

  -- a byte past the table is 0, and so is a row
  past : (i : ℕ) → length t ≤ i → byte t i ≡ 0
  past i h = get_or-eq_default t 0 {n = i} h

  row_outside : (g : ℕ) → rows t ≤ g → row t g ≡ 0
  row_outside g h =
      let w = whole in
      omega (arith, past (row_width * g) (omega arith), past (row_width * g + 1) (omega arith), past (row_width * g + 2) (omega arith), past (row_width * g + 3) (omega arith))

  -- a word has 32 bits
  word_bound : (g : ℕ) → row t g < 2 ^ 32
  word_bound g = grind arith

  zero_bit : (w h : ℕ) → w < 2 ^ h → bit w h ≡ false
  zero_bit w h l = rw (div-eq_of_lt l)

  bit_past : (g h : ℕ) → group_limit ≤ h → bit (row t g) h ≡ false
  bit_past g h l =
      let p : 2 ^ 32 ≤ 2 ^ h = pow-le-pow_right (omega arith) l in
      zero_bit (row t g) h (omega (arith, word_bound g))

  row_in : (g h : ℕ) → IsTrue (leq t g h) → g < rows t
  row_in g h p = grind (arith, dec_lt, row_outside, nat_eq, zero-div)

  bit_in : (g h : ℕ) → IsTrue (leq t g h) → h < group_limit
  bit_in g h p = grind (arith, dec_lt, bit_past)

  -- question 3
  col_in : (g h : ℕ) → IsTrue (leq t g h) → h < rows t
  unfolding ok3
  col_in g h p =
      ltb-true h (rows t)
      (implied _ _ (all_below_all group_limit (λ h. bit (row t g) h ⇒ nat_lt h (rows t)) (each_all 3 (rows t) (ok3 t) asked_all.1 g (row_in g h p)) h (bit_in g h p)) p)

  -- question 4
  lowest_is : (n : ℕ) (o : Option ℕ) → holds_number o n ≡ true → o ≡ some n
  lowest_is n o e = grind arith

  lowest : (g : ℕ) → g < rows t → IsFirst (bit (row t g)) group_limit 0 g
  unfolding ok4
  lowest g l = found (bit (row t g)) group_limit 0 g (lowest_is g _ (each_all 4 (rows t) (ok4 t) asked_all.2 g l))

  reflexive : (g : ℕ) → g < rows t → IsTrue (leq t g g)
  reflexive g l = (lowest g l).passes

  rising : (g h : ℕ) → IsTrue (leq t g h) → g ≤ h
  rising g h p = go (dec_lt h g)
    where
      go : Dec (h < g) → g ≤ h
      go (yes l) = absurd (false≢true (sym ((lowest g (row_in g h p)).least h (omega arith) l) ∙ p))
      go (no l) = omega arith

  -- question 5
  transitive : (g h k : ℕ) → IsTrue (leq t g h) → IsTrue (leq t h k) → IsTrue (leq t g k)
  unfolding ok5
  transitive g h k p q =
      let row_within = implied _ _ (all_below_all group_limit (λ h. bit (row t g) h ⇒ is_row_within (row t h) (row t g)) (each_all 5 (rows t) (ok5 t) asked_all.3 g (row_in g h p)) h (bit_in g h p)) p in
      implied _ _ (all_below_all group_limit (λ k. bit (row t h) k ⇒ bit (row t g) k) row_within k (bit_in h k q)) q

  -- question 6
  abbrev Joined : ℕ → ℕ → ℕ → Type 0
  Joined g h j = (IsFirst (in_both_rows t g h) group_limit 0 j) × ((k : ℕ) → k < group_limit → in_both_rows t g h k ≡ leq t j k)

  joined : (g h : ℕ) → g < rows t → h < rows t → Joined g h (join t g h)
  unfolding ok6 join
  joined g h l m =
      go (first_below (in_both_rows t g h) group_limit) refl
      (all_below_all (rows t) (λ h. row_of_lowest t (in_both_rows t g h) (first_below (in_both_rows t g h) group_limit)) (each_all 6 (rows t) (ok6 t) asked_all.4 g l) h m)
    where
      go : (o : Option ℕ) → first_below (in_both_rows t g h) group_limit ≡ o → row_of_lowest t (in_both_rows t g h) o ≡ true → Joined g h (or_zero o)
      go none e p = absurd (false≢true p)
      go (some j) e p = (
        found (in_both_rows t g h) group_limit 0 j e,
        λ k b. same_bits _ _ (all_below_all group_limit (λ k. beq (in_both_rows t g h k) (bit (row t j) k)) p k b),
      )

  upper : (g h : ℕ) → g < rows t → h < rows t → (IsTrue (leq t g (join t g h))) × (IsTrue (leq t h (join t g h)))
  upper g h l m = both _ _ (joined g h l m).0.passes

  least_upper : (g h k : ℕ) → IsTrue (leq t g k) → IsTrue (leq t h k) → IsTrue (leq t (join t g h) k)
  least_upper g h k p q = sym ((joined g h (row_in g k p) (row_in h k q)).1 k (bit_in g k p)) ∙ and_true _ _ p q
    where
      and_true : (a b : Bool) → a ≡ true → b ≡ true → a && b ≡ true
      and_true a b x y = rw (x, y)

  -- question 7
  bottom_row : (h : ℕ) → h < rows t → IsTrue (leq t 0 h)
  unfolding ok7
  bottom_row h l = all_below_all (rows t) (λ h. bit (row t 0) h) (ask_true 7 0 _ asked_all.5) h l

  -- the meet: 0 is below both, so there is a highest; and the join with any other is one of them, so it is no other
  met : (g h : ℕ) → g < rows t → h < rows t → Last (below_both t g h) group_limit (meet t g h)
  unfolding meet
  met g h l m =
      let f = few in
      let z : below_both t g h 0 ≡ true = rw (bottom_row g l, bottom_row h m) in
      last (below_both t g h) group_limit 0 (omega arith) z λ j e x. rw e x

  greatest_lower : (g h k : ℕ) → IsTrue (leq t k g) → IsTrue (leq t k h) → IsTrue (leq t k (meet t g h))
  greatest_lower g h k p q =
      let x = met g h (col_in k g p) (col_in k h q) in
      let b = both (leq t (meet t g h) g) (leq t (meet t g h) h) x.passes in
      let u = upper (meet t g h) k (row_in (meet t g h) g b.0) (row_in k g p) in
      let f = few in
      let r = row_in (join t (meet t g h) k) g (least_upper (meet t g h) k g b.0 p) in
      let j : below_both t g h (join t (meet t g h) k) ≡ true = rw (least_upper (meet t g h) k g b.0 p, least_upper (meet t g h) k h b.1 q) in
      let up = x.greatest (join t (meet t g h) k) (omega arith) j in
      let low = rising (meet t g h) (join t (meet t g h) k) u.0 in
      let e : join t (meet t g h) k ≡ meet t g h = omega arith in
      subst (λ (n : ℕ). IsTrue (leq t k n)) e u.1

  pub lattice : Lattice (groups_of t)
  lattice = record {
    self_left = λ g h p. reflexive g (row_in g h p);
    self_right = λ g h p. reflexive h (col_in g h p);
    trans = transitive;
    antisym = λ g h p q. let a = rising g h p in let b = rising h g q in omega arith;
    upper_left = λ g h p q. (upper g h (row_in g g p) (row_in h h q)).0;
    upper_right = λ g h p q. (upper g h (row_in g g p) (row_in h h q)).1;
    least = least_upper;
    lower_left = λ g h p q. (both _ _ (met g h (row_in g g p) (row_in h h q)).passes).0;
    lower_right = λ g h p q. (both (leq t (meet t g h) g) _ (met g h (row_in g g p) (row_in h h q)).passes).1;
    greatest = greatest_lower;
    bottom = λ g p. bottom_row g (row_in g g p);
    in_table = λ g h. reflexive g (ltb-true g (rows t) h);
    groups_only = λ g h p. lt-ltb g (rows t) (row_in g h p);
  }
