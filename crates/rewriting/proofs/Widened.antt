-- Records widened one by one, whatever their width.
use Rattle.std.proofs.Common.{◌≡◌, refl, sym, ap, ap₂, ◌∙◌, [], ◌∷◌, ◌++◌, append_assoc, ℕ, zero, suc, ◌+◌, ◌*◌, ◌-◌}
use Rattle.std.proofs.Common.{◌≤◌, ◌<◌, arith, length, take, drop, length-append, length-drop, drop-drop}
use Rattle.std.proofs.Common.{length-take-le, take_at, drop_at}
use Rattle.rules.specs.Answer.{Bytes}
use Rattle.rules.specs.Limits.{old_type_width, old_script_width, office_width}
use Rattle.rules.specs.Office.{office_records, first_six, nameless}
use Rattle.rules.proofs.Widening.{widen_script_first}
use Rattle.rules.specs.Callers.{old_records}
use Rattle.rules.specs.Rewriting.{widen_types, widen_script}
use Rattle.rules.proofs.OldTables.{old_type_count}
use Rattle.memory.specs.Splice.{splice}
use Rattle.memory.proofs.Laws.{length_splice, join_after, splice_none}
use Rattle.rewriting.specs.Widened.{widened_records}

next : (width i : ℕ) → width * suc i ≡ width * i + width
next width i = grind arith

-- record i of n is there whole
pub within : (width i n : ℕ) → i < n → width * i + width ≤ width * n
within width i n l = grind arith

module _ (width kept : ℕ) (less : kept ≤ width) where
  pub widened_length : (n : ℕ) (s : Bytes) → width * n ≤ length s → length (widened_records width kept n s) ≡ (kept + 2) * n
  unfolding widened_records
  widened_length zero s l = let z : (kept + 2) * 0 ≡ 0 = omega arith in sym z
  widened_length (suc n) s l =
      let m : kept ≤ length s = omega (arith, next width n) in
      let r : width * n ≤ length (drop width s) = simp length-drop (omega (arith, next width n)) in
      length-append (take kept s) (0 ∷ 0 ∷ widened_records width kept n (drop width s))
      ∙ omega (arith, length-take-le kept s m, widened_length n (drop width s) r, next (kept + 2) n)

  -- the last of them
  pub widened_last : (n : ℕ) (s : Bytes)
      → widened_records width kept (suc n) s ≡ widened_records width kept n s ++ (take kept (drop (width * n) s) ++ (0 ∷ 0 ∷ []))
  unfolding widened_records
  widened_last zero s = let z : width * 0 ≡ 0 = omega arith in ap (λ m. take kept (drop m s) ++ (0 ∷ 0 ∷ [])) (sym z)
  widened_last (suc n) s =
      let rest : drop (width * n) (drop width s) ≡ drop (width * suc n) s =
      drop-drop (width * n) width s ∙ ap (λ m. drop m s) sums in
      ap (λ b. take kept s ++ (0 ∷ 0 ∷ b)) (widened_last n (drop width s) ∙ ap (λ b. widened_records width kept n (drop width s) ++ (take kept b ++ (0 ∷ 0 ∷ []))) rest)
      ∙ sym (append_assoc (take kept s) (0 ∷ 0 ∷ widened_records width kept n (drop width s)) (take kept (drop (width * suc n) s) ++ (0 ∷ 0 ∷ [])))
    where
      sums : width + width * n ≡ width * suc n
      sums = omega (arith, next width n)

-- Both tables are made of such records.
pub widen_types_is : (t : Bytes) → widen_types t ≡ widened_records old_type_width old_type_width (old_type_count t) t
unfolding widen_types widened_records
widen_types_is (k ∷ r ∷ ir ∷ z ∷ t) =
    let p : old_type_count (k ∷ r ∷ ir ∷ z ∷ t) ≡ suc (old_type_count t) = omega arith in
    ap (λ b. k ∷ r ∷ ir ∷ z ∷ 0 ∷ 0 ∷ b) (widen_types_is t) ∙ ap (λ n. widened_records old_type_width old_type_width n (k ∷ r ∷ ir ∷ z ∷ t)) (sym p)
widen_types_is _ = refl

pub widen_script_is : (s : Bytes) → widen_script s ≡ widened_records old_script_width old_script_width (old_records s) s
unfolding widen_script widened_records
widen_script_is (k ∷ r ∷ ir ∷ z ∷ lo ∷ hi ∷ s) =
    let p : old_records (k ∷ r ∷ ir ∷ z ∷ lo ∷ hi ∷ s) ≡ suc (old_records s) = omega arith in
    ap (λ b. k ∷ r ∷ ir ∷ z ∷ lo ∷ hi ∷ 0 ∷ 0 ∷ b) (widen_script_is s) ∙ ap (λ n. widened_records old_script_width old_script_width n (k ∷ r ∷ ir ∷ z ∷ lo ∷ hi ∷ s)) (sym p)
widen_script_is _ = refl

-- what the loop wrote is the new form
pub types_written : (t w : Bytes) {w' : Bytes} → w' ≡ splice 0 (widened_records old_type_width old_type_width (old_type_count t) t) w → w' ≡ splice 0 (widen_types t) w
types_written t w e = e ∙ ap (λ (b : Bytes). splice 0 b w) (sym (widen_types_is t))

pub script_written : (s w : Bytes) {w' : Bytes} → w' ≡ splice 0 (widened_records old_script_width old_script_width (old_records s) s) w → w' ≡ splice 0 (widen_script s) w
script_written s w e = e ∙ ap (λ (b : Bytes). splice 0 b w) (sym (widen_script_is s))

-- The records of an old office script, of which six bytes are kept.
present_is : (n : ℕ) (s : Bytes) → office_width * n ≤ length s → widen_script (first_six n s) ≡ widened_records office_width old_script_width n s
unfolding first_six widen_script widened_records
present_is zero s l = refl
present_is (suc n) s l =
    let six = take 6 s in
    let rest = first_six n (drop 10 s) in
    let e : length six ≡ 6 = length-take-le 6 s (omega arith) in
    widen_script_first (six ++ rest) (simp length-append (omega (arith, e)))
    ∙ ap₂ (λ a b. a ++ (0 ∷ 0 ∷ widen_script b)) (take_at six rest 6 e) (drop_at six rest 6 e)
    ∙ ap (λ b. six ++ (0 ∷ 0 ∷ b)) (present_is n (drop 10 s) (simp length-drop (omega arith)))

pub nameless_is : (s : Bytes) → nameless s ≡ widened_records office_width old_script_width (office_records s) s
unfolding nameless
nameless_is s = present_is (office_records s) s (omega arith)

pub nameless_written : (s w : Bytes) {w' : Bytes} → w' ≡ splice 0 (widened_records office_width old_script_width (office_records s) s) w → w' ≡ splice 0 (nameless s) w
nameless_written s w e = e ∙ ap (λ (b : Bytes). splice 0 b w) (sym (nameless_is s))

-- The first i records of `old` stand widened in front of what was w₀.
pub record Widens (width kept : ℕ) (old w₀ : Bytes) (i : ℕ) (w : Bytes) : Type 0 where
  pub length_kept : length w ≡ length w₀
  pub bytes : w ≡ splice 0 (widened_records width kept i old) w₀

module _ {width kept : ℕ} {old w₀ : Bytes} where
  pub none_widened : Widens width kept old w₀ 0 w₀
  unfolding widened_records
  none_widened = record { length_kept = refl; bytes = sym (splice_none 0 w₀) }

  -- a record and the two zeros after it
  pub one_widened : {i n : ℕ} {w w1 w2 : Bytes} → kept ≤ width → i < n → width * n ≤ length old → (kept + 2) * n ≤ length w₀ → Widens width kept old w₀ i w
      → w1 ≡ splice ((kept + 2) * i) (take kept (drop (width * i) old)) w → w2 ≡ splice ((kept + 2) * i + kept) (0 ∷ 0 ∷ []) w1
      → Widens width kept old w₀ (i + 1) w2
  one_widened {i} {n} {w} {w1} {w2} less l long room x e1 e2 =
      let here = within width i n l in
      let there = within (kept + 2) i n l in
      let to = (kept + 2) * i in
      let own = take kept (drop (width * i) old) in
      let size : length own ≡ kept = length-take-le kept (drop (width * i) old) (simp length-drop (omega arith)) in
      let front = widened_length width kept less i old (omega arith) in
      let both : w2 ≡ splice to (own ++ (0 ∷ 0 ∷ [])) w =
      e2 ∙ ap (splice (to + kept) (0 ∷ 0 ∷ [])) e1 ∙ join_after to (to + kept) own (0 ∷ 0 ∷ []) w (omega arith) (omega (arith, x.length_kept)) in
      let whole : w2 ≡ splice 0 (widened_records width kept i old ++ (own ++ (0 ∷ 0 ∷ []))) w₀ =
      both ∙ ap (splice to (own ++ (0 ∷ 0 ∷ []))) x.bytes
      ∙ join_after 0 to (widened_records width kept i old) (own ++ (0 ∷ 0 ∷ [])) w₀ (omega (arith, front)) (omega (arith, front)) in
      let p : suc i ≡ i + 1 = omega arith in
      let all : widened_records width kept i old ++ (own ++ (0 ∷ 0 ∷ [])) ≡ widened_records width kept (i + 1) old =
      sym (widened_last width kept less i old) ∙ ap (λ m. widened_records width kept m old) p in
      record {
        length_kept = ap length whole
            ∙ length_splice 0 (widened_records width kept i old ++ (own ++ (0 ∷ 0 ∷ []))) w₀
            (omega (
              arith,
              ap length all,
              widened_length width kept less (i + 1) old (omega (arith, next width i, ap (λ m. width * m) p)),
              next (kept + 2) i,
              ap (λ m. (kept + 2) * m) p,
            ));
        bytes = whole ∙ ap (λ b. splice 0 b w₀) all;
      }
