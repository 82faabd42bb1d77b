-- A script and the same with other bytes 1 in its recursions get the same answers to questions 13 to 19, where those
-- bytes are groups: no other question looks at them.
use Rattle.std.proofs.Common.{ap₂, ◌≡◌, refl, sym, ap, ◌∙◌, Bool, true, false, ◌&&◌, List, ℕ, ◌+◌, ◌*◌, ◌-◌, ◌/◌, ◌<◌, arith}
use Rattle.std.proofs.Common.{eqb-true, nat_eq, nat_le, nat_lt, length}
use Rattle.calculus.specs.Relabelling.{Labels, relabel}
use Rattle.rules.specs.Answer.{Bytes, byte, accepted, each, ◌⇒◌}
use Rattle.rules.specs.Limits.{script_width}
use Rattle.rules.specs.Groups.{rows, leq}
use Rattle.rules.specs.Types.{end_after}
use Rattle.rules.specs.Script.{records, kind, r, ir, zero_byte, number, c, ic, signature_of, is_object, arity, term}
use Rattle.rules.specs.Script.{term_end, exactly, ok14, ok15, ok36_object, ok16, ok19, q13, q14, q15, q36_objects, q16}
use Rattle.rules.specs.Script.{ok18, q17, q18, q19, depths, binders}
use Rattle.rules.specs.Calls.{form_check}
use Rattle.rules.proofs.Search.{each_same}
use Rattle.promises.proofs.Answers.{then_same}
use Rattle.promises.proofs.RelabelledBytes.{relabel_depths, relabel_binders}

-- `new` is `old` but for byte 1 of recursions
pub record Recalled (old new : Bytes) : Type 0 where
  pub same_length : length new ≡ length old
  pub field_same : (i n : ℕ) → n < script_width → (n ≡ 1 → ⊥) → byte new (script_width * i + n) ≡ byte old (script_width * i + n)
  pub r_kept : (i : ℕ) → i < records old → nat_eq (kind old i) 11 ≡ false → r new i ≡ r old i

module _ {old new : Bytes} (x : Recalled old new) where
  pub count : records new ≡ records old
  count = ap (λ (n : ℕ). n / script_width) x.same_length

  pub kind_same : (i : ℕ) → kind new i ≡ kind old i
  kind_same i =
      let z : script_width * i ≡ script_width * i + 0 = omega arith in
      ap (byte new) z ∙ x.field_same i 0 (omega arith) (λ e. omega arith) ∙ ap (byte old) (sym z)

  ir_same : (i : ℕ) → ir new i ≡ ir old i
  ir_same i = x.field_same i 2 (omega arith) (λ e. omega arith)

  zero_same : (i : ℕ) → zero_byte new i ≡ zero_byte old i
  zero_same i = x.field_same i 3 (omega arith) (λ e. omega arith)

  pub number_same : (i : ℕ) → number new i ≡ number old i
  number_same i = grind arith

  c_same : (i : ℕ) → c new i ≡ c old i
  c_same i = x.field_same i 6 (omega arith) (λ e. omega arith)

  ic_same : (i : ℕ) → ic new i ≡ ic old i
  ic_same i = x.field_same i 7 (omega arith) (λ e. omega arith)

  pub q13_same : (rooms : List ℕ) → q13 rooms new ≡ q13 rooms old
  q13_same rooms = rw x.same_length

  -- byte 1 of a recursion is named, so 14 doesn't ask it
  ok14_same : (i : ℕ) → i < records old → ok14 new i ≡ ok14 old i
  unfolding ok14 signature_of
  ok14_same i l = grind (arith, kind_same, ir_same, zero_same, number_same, c_same, ic_same, nat_eq, nat_le, eqb-true)

  pub q14_same : q14 new ≡ q14 old
  q14_same = ap (λ (n : ℕ). each 14 n (ok14 new)) count ∙ each_same 14 (records old) (ok14 new) (ok14 old) ok14_same

  ok36_same : (g : Bytes) (i : ℕ) → ok36_object g new i ≡ ok36_object g old i
  unfolding ok36_object
  ok36_same g i = rw (kind_same i, c_same i, ic_same i)

  pub q36_same : (g : Bytes) → q36_objects g new ≡ q36_objects g old
  q36_same g = grind (arith, each_same, ok36_same)

  ok16_same : (u : Bytes) (i : ℕ) → ok16 u new i ≡ ok16 u old i
  unfolding ok16
  ok16_same u i = rw (kind_same i, number_same i)

  pub q16_same : (u : Bytes) → q16 u new ≡ q16 u old
  q16_same u = grind (arith, each_same, ok16_same)

  pub q17_same : q17 new ≡ q17 old
  unfolding term_end
  q17_same d = exactly (count d) (end_after (λ (j : ℕ). arity (kind_same j d)) (count d - 0) 1 0)

  -- 18 and 19 are asked of its term
  module _ (R : Labels) (e : term new ≡ relabel R (term old)) where
    pub q18_same : q18 new ≡ q18 old
    q18_same = ap₂ (λ (n : ℕ) (ds : List ℕ). each 18 n (ok18 ds)) count (ap depths e ∙ relabel_depths R 1 (term old))

    ok19_same : (bs : List ℕ) (i : ℕ) → ok19 bs new i ≡ ok19 bs old i
    unfolding ok19
    ok19_same bs i = rw (kind_same i, number_same i)

    pub q19_same : q19 new ≡ q19 old
    q19_same =
        ap₂ (λ (n : ℕ) (bs : List ℕ). each 19 n (ok19 bs new)) count (ap binders e ∙ relabel_binders R 0 (term old))
        ∙ each_same 19 (records old) _ _ (λ i l. ok19_same (binders (term old)) i)

  -- 14 to 18, where 15 is answered alike and the script, once it is one term, is read so
  pub form_same : (g t : Bytes) (R : Labels) → q15 g new ≡ q15 g old → (q14 old ≡ accepted tt → q17 old ≡ accepted tt → term new ≡ relabel R (term old))
      → form_check g t new ≡ form_check g t old
  unfolding form_check
  form_same g t R q15_same read = grind (arith, q15_same, then_same, q14_same, q36_same, q16_same, q17_same, q18_same)

  -- where byte 1 of a recursion is a group in both, 15 is answered alike
  module _ (g : Bytes) (was_group : (i : ℕ) → i < records old → kind old i ≡ 11 → nat_lt (r old i) (rows g) ≡ true)
      (is_group : (i : ℕ) → i < records old → kind old i ≡ 11 → nat_lt (r new i) (rows g) ≡ true) where
    ok15_same : (i : ℕ) → i < records old → ok15 g new i ≡ ok15 g old i
    unfolding ok15 signature_of
    ok15_same i l = rw (kind_same i, ir_same i, c_same i, ic_same i) (go (nat_eq (kind old i) 11) refl)
      where
        go : (b : Bool) → nat_eq (kind old i) 11 ≡ b
            → ((signature_of (kind old i)).r ⇒ nat_lt (r new i) (rows g)) && (((signature_of (kind old i)).ir ⇒ nat_lt (ir old i) (rows g))
            && (((signature_of (kind old i)).c ⇒ nat_lt (c old i) (rows g)) && (((signature_of (kind old i)).ic ⇒ nat_lt (ic old i) (rows g))
            && (is_object (kind old i) ⇒ leq g (ir old i) (r new i)))))
            ≡ ok15 g old i
        go true e = let k = eqb-true (kind old i) 11 e in rw (is_group i l k, was_group i l k, k)
        go false e = rw (x.r_kept i l e)

    pub q15_same : q15 g new ≡ q15 g old
    q15_same = grind (arith, each_same, ok15_same)
