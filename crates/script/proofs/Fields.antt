-- Questions 14 and 15 of one record, from the fields that the code has read.
use Rattle.std.proofs.Common.{rules, ◌≡◌, ℕ, Bool, true, not, ◌&&◌, ◌||◌, nat_eq, nat_le, nat_lt}
use Rattle.std.proofs.Math.Bool.{and_assoc}
use Rattle.calculus.specs.Security.{Property}
use Rattle.rules.specs.Answer.{Bytes, ◌⇒◌}
use Rattle.rules.specs.Groups.{rows, leq}
use Rattle.rules.specs.Script.{kind, zero_byte, number, Signature, signature_of, is_object, ok14, ok15}
use Rattle.records.specs.declared.Kind.{Kind}
use Rattle.records.specs.Kinds as kinds
use Rattle.records.specs.Numbers.{kind_number}
use Rattle.records.specs.Labels.{property_at}
use Rattle.answer.proofs.Implications.{or_implies, not_or_implies}

-- each kind's number is at most the last
pub known : (k : Kind) → nat_le (kind_number k) kinds.less ≡ true
known k = search rules

module _ (s : Bytes) (i : ℕ) {k : ℕ} {f : Signature} {p : Property} (kind_is : k ≡ kind s i) (line_is : f ≡ signature_of k) (property_is : p ≡ property_at s i) where
  pub ok14_is : {z n : ℕ} → nat_le k kinds.less ≡ true → z ≡ zero_byte s i → n ≡ number s i
      → (((((nat_eq z 0 && (f.r || nat_eq p.r 0)) && (f.ir || nat_eq p.ir 0)) && (f.number || nat_eq n 0)) && (f.c || nat_eq p.c 0)) && (f.ic || nat_eq p.ic 0)) ≡ ok14 s i
  unfolding ok14
  ok14_is known ez en = rw (line_is, property_is, ez, en, kind_is) (simp (or_implies, and_assoc, rw kind_is at known))

  pub ok15_is : (g : Bytes) {n : ℕ} {w : Bool} → n ≡ rows g → w ≡ leq g p.ir p.r
      → (((((f.r ⇒ nat_lt p.r n) && (f.ir ⇒ nat_lt p.ir n)) && (f.c ⇒ nat_lt p.c n)) && (f.ic ⇒ nat_lt p.ic n)) && (not (is_object k) || w)) ≡ ok15 g s i
  unfolding ok15
  ok15_is g en ew = rw (ew, line_is, property_is, kind_is, en) (simp (not_or_implies, and_assoc))
