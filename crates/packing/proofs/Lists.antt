-- Lists of scripts and of amendments: a refusal's place and the answer fit the exported number. An entry that is looked
-- at comes after entries with different scripts, so its index is at most their number.
use Rattle.std.proofs.Common.{◌≡◌, refl, ap, Bool, true, false, cond, not}
use Rattle.std.proofs.Common.{◌&&◌, ℕ, zero, suc, ◌%◌, ◌≤◌, arith, nat_eq, nat_le, eqb-true, leb-true, length}
use Rattle.std.proofs.Math.Option.{Option, none, some}
use Rattle.rules.specs.Answer.{Bytes, Answer, accepted, refused, ◌>>◌, ask, each, first_from}
use Rattle.rules.specs.Limits.{listed_width, entry_width, listed_limit, no_script, last_question}
use Rattle.rules.specs.Calls.{types_check}
use Rattle.rules.specs.InForce.{script_count, entry_count, entry_first, entry_replaced, ok25, ok40, ok41, ok42}
use Rattle.rules.specs.InForce.{q40_lengths, q25_scripts, entry_check, entries_check, lists_check, script_in_force}
use Rattle.rules.specs.InForce.{in_force}
use Rattle.rules.proofs.Asked.{ask_true}
use Rattle.rules.proofs.Search.{found}
use Rattle.rules.proofs.InForce.{few_entries, all_pass}
use Rattle.promises.specs.InForce.{newest, newest_after, or_no_script}
use Rattle.promises.proofs.InForce.{ListsPass, lists_pass, pass_finds}
use Rattle.packing.specs.Packed.{Holds, holds_yes, holds_no, Bounded, bounded_no, BoundedByLists, lists_yes}
use Rattle.packing.specs.Packed.{lists_no}
use Rattle.packing.proofs.Bounds.{types_bounded}

then : {B : Type 0} (a : Answer (Unit {0})) (b : Answer B) → BoundedByLists a → (a ≡ accepted tt → BoundedByLists b) → BoundedByLists (◌>>◌ a b)
then (accepted tt) b x f = f refl
then (refused q p) b (lists_no l m n) f = lists_no l m n

of_tables : (a : Answer (Unit {0})) → Bounded a → BoundedByLists a
of_tables (accepted tt) x = lists_yes
of_tables (refused q p) (bounded_no l m n) = lists_no l m (omega arith)

asked : (q p : ℕ) (b : Bool) → 1 ≤ q → q ≤ last_question → p ≤ listed_limit → BoundedByLists (ask q p b)
asked q p true l m n = lists_yes
asked q p false l m n = lists_no l m n

each_script : (q n : ℕ) (ok : ℕ → Bool) → 1 ≤ q → q ≤ last_question → n ≤ listed_limit → BoundedByLists (each q n ok)
each_script q n ok l m b = go (first_from (λ i. not (ok i)) n 0) refl
  where
    go : (o : Option ℕ) → first_from (λ i. not (ok i)) n 0 ≡ o → BoundedByLists (each q n ok)
    go none e = rw e lists_yes
    go (some p) e = rw e (lists_no {p = p} l m (omega (arith, (found (λ i. not (ok i)) n 0 p e).high)))

module _ (g t l a : Bytes) (few : script_count l ≤ listed_limit) where
  entry_bounded : (e : ℕ) → e ≤ listed_limit → BoundedByLists (entry_check g t l a e)
  unfolding entry_check
  entry_bounded e m =
      then (ask 40 e (ok40 l a e)) _ (asked 40 e (ok40 l a e) (omega arith) (omega arith) m) λ e40.
      then (ask 41 e (ok41 a e)) _ (asked 41 e (ok41 a e) (omega arith) (omega arith) m) λ e41.
      asked 42 e (ok42 g t l a e) (omega arith) (omega arith) m

  entries_bounded : (n : ℕ) → BoundedByLists (entries_check g t l a n)
  unfolding entries_check
  entries_bounded zero = lists_yes
  entries_bounded (suc n) =
      then (entries_check g t l a n) _ (entries_bounded n) λ h. entry_bounded n (omega (arith, few_entries g t l a n h))

at_40 : (l a : Bytes) → BoundedByLists (q40_lengths l a)
at_40 l a =
    asked 40 0 (nat_eq (length l % listed_width) 0 && (nat_le (script_count l) listed_limit && nat_eq (length a % entry_width) 0)) (omega arith) (omega arith) (omega arith)

both : (a b : Bool) → a && b ≡ true → (a ≡ true) × (b ≡ true)
both true b e = (refl, e)
both false b e = let x : ◌≡◌ {A = ℕ} 0 1 = ap (λ (c : Bool). cond c 1 0) e in absurd (omega arith)

few_scripts : (l a : Bytes) → q40_lengths l a ≡ accepted tt → script_count l ≤ listed_limit
few_scripts l a h =
    let lengths = both (nat_eq (length l % listed_width) 0) (nat_le (script_count l) listed_limit && nat_eq (length a % entry_width) 0) (ask_true 40 0 _ h) in
    leb-true (script_count l) listed_limit (both (nat_le (script_count l) listed_limit) (nat_eq (length a % entry_width) 0) lengths.1).0

pub lists_bounded : (g t l a : Bytes) → BoundedByLists (lists_check g t l a)
unfolding lists_check
lists_bounded g t l a =
    then (types_check g t) _ (of_tables (types_check g t) (types_bounded g t)) λ e12.
    then (q40_lengths l a) _ (at_40 l a) λ e40.
    let few = few_scripts l a e40 in
    then (q25_scripts t l) _ (each_script 25 (script_count l) (ok25 t l) (omega arith) (omega arith) few) λ e25.
    entries_bounded g t l a few (entry_count a)

pub in_force_bounded : (g t l a : Bytes) (i : ℕ) → BoundedByLists (in_force g t l a i)
unfolding in_force
in_force_bounded g t l a i = then (lists_check g t l a) _ (lists_bounded g t l a) λ h. lists_yes

-- what is answered is a script of the list, or 65,535
newest_small : (g t l a : Bytes) → ListsPass g t l a → (i m : ℕ) → m ≤ entry_count a → or_no_script (newest a i m) ≤ no_script
unfolding newest
newest_small g t l a P i zero h = omega arith
newest_small g t l a P i (suc m) h = go (newest a i m) (newest_small g t l a P i m (omega arith))
  where
    first : entry_first a m ≤ no_script
    first = omega (arith, (all_pass g t l a (entry_count a) m P.entries_pass (omega arith)).in_order.inside, P.limited)

    found_first : (b : Bool) → nat_eq (entry_first a m) i ≡ b → or_no_script (cond b (some i) none) ≤ no_script
    found_first true e = omega (arith, first, eqb-true (entry_first a m) i e)
    found_first false e = omega arith

    found_next : (b : Bool) (j : ℕ) → j ≤ no_script → or_no_script (cond b (some (entry_first a m)) (some j)) ≤ no_script
    found_next true j k = first
    found_next false j k = k

    go : (o : Option ℕ) → or_no_script o ≤ no_script → or_no_script (newest_after a i m o) ≤ no_script
    go none k = found_first (nat_eq (entry_first a m) i) refl
    go (some j) k = found_next (nat_eq (entry_replaced a m) j) j k

pub in_force_holds : (g t l a : Bytes) (i : ℕ) → Holds (in_force g t l a i)
unfolding in_force
in_force_holds g t l a i = go (lists_check g t l a) refl (lists_bounded g t l a)
  where
    go : (x : Answer (Unit {0})) → lists_check g t l a ≡ x → BoundedByLists x → Holds (◌>>◌ x (accepted (script_in_force a i)))
    go (accepted u) h b =
        let P = lists_pass g t l a h in
        holds_yes {n = script_in_force a i} (omega (arith, pass_finds g t l a P i, newest_small g t l a P i (entry_count a) (omega arith)))
    go (refused q p) h (lists_no m k r) = holds_no {q = q} {p = p} m k (omega arith)
