-- The questions of an old table, one after another, and what then stands in front of the copy.
use Rattle.std.proofs.Common.{◌≡◌, refl, sym, ap, ◌∙◌, Bool, true, ◌&&◌, [], ℕ, ◌*◌, ◌/◌, ◌%◌, ◌≤◌, leb-true, nat_eq}
use Rattle.std.proofs.Common.{nat_le, length, take, drop, take_at, arith}
use Rattle.std.proofs.Math.Bool.{and-eq-true_iff}
use Rattle.rules.specs.Answer.{Bytes, Answer, accepted, refused, ◌>>◌, ask}
use Rattle.rules.proofs.Widening.{widen_types_length, widen_script_length}
use Rattle.rules.specs.Callers.{old_records}
use Rattle.rules.specs.Limits.{type_width, script_width, old_type_width, old_script_width, table_limit, script_limit}
use Rattle.rules.specs.Script.{q13_of}
use Rattle.rules.specs.Rewriting.{widen_types, widen_script, old_types_check, old_script_check, rewriting_types}
use Rattle.rules.specs.Rewriting.{rewriting_script, rewritten_records, rewritten_after}
use Rattle.rules.proofs.Asked.{ask_true, and_then}
use Rattle.rules.proofs.OldTables.{old_type_count}
use Rattle.memory.specs.Splice.{splice}
use Rattle.memory.proofs.Laws.{splice_front}
use Rattle.rewriting.specs.HandsOver.{HandsOver}
use Rattle.rewriting.specs.Widened.{after_27}
use Rattle.std.proofs.lemmas.Grind.{common_steps}

pub rewriting_types_is : (g t : Bytes) (room : ℕ) → ◌>>◌ (old_types_check g t) (after_27 (widen_types t) room) ≡ rewriting_types g t room
unfolding rewriting_types
rewriting_types_is g t room = refl

pub rewriting_script_is : (g t s : Bytes) (room : ℕ) → ◌>>◌ (old_script_check g t s) (after_27 (widen_script s) room) ≡ rewriting_script g t s room
unfolding rewriting_script
rewriting_script_is g t s room = refl

-- a yes to 8 or 13 is one to each of their tests
third_test : (q : ℕ) (a b c : Bool) → ask q 0 (a && (b && c)) ≡ accepted tt → c ≡ true
third_test q a b c e = ((and-eq-true_iff b c).0 ((and-eq-true_iff a (b && c)).0 (ask_true q 0 (a && (b && c)) e)).1).1

-- an old table that passes has no more records than a table may have
pub few_types : (g t : Bytes) → old_types_check g t ≡ accepted tt → length t / old_type_width ≤ table_limit
unfolding old_types_check
few_types g t q = grind (arith, common_steps)

pub few_records : (g t s : Bytes) → old_script_check g t s ≡ accepted tt → length s / old_script_width ≤ script_limit
unfolding old_script_check
few_records g t s q =
    leb-true (length s / old_script_width) script_limit
    ((and-eq-true_iff (nat_le (length s / old_script_width) script_limit) _).0
    (third_test 13 (nat_eq (length s % old_script_width) 0) (nat_le 1 (length s / old_script_width)) _ (and_then (q13_of old_script_width [] s) _ (and_then (old_types_check g t) _ q).1).0)).0

-- what was written in front
front_is : (b w w' : Bytes) (n : ℕ) → n ≡ length b → w' ≡ splice 0 b w → take n w' ≡ b
front_is b w w' n l e = ap (take n) (e ∙ splice_front b w) ∙ take_at b (drop (length b) w) n (sym l)

pub types_front : (t w : Bytes) {w' : Bytes} → w' ≡ splice 0 (widen_types t) w → take (type_width * old_type_count t) w' ≡ widen_types t
types_front t w e = front_is (widen_types t) w _ (type_width * old_type_count t) (sym (widen_types_length t)) e

pub script_front : (s w : Bytes) {w' : Bytes} → w' ≡ splice 0 (widen_script s) w → take (script_width * old_records s) w' ≡ widen_script s
script_front s w e = front_is (widen_script s) w _ (script_width * old_records s) (sym (widen_script_length s)) e

-- a refused question is the answer
pub refused_delivered : (width : ℕ) {q n : ℕ} (asked : Answer (Unit {0})) (later : Answer Bytes) {o : Answer Bytes} {r : Answer ℕ} (w : Bytes) → refused q n ≡ asked → ◌>>◌ asked later ≡ o
    → r ≡ refused q n → HandsOver width o w r w
unfolding rewritten_records
refused_delivered width {q} {n} asked later {o} w e p f =
    let same : refused q n ≡ o = ap (λ (a : Answer (Unit {0})). ◌>>◌ a later) e ∙ p in
    record { answer = f ∙ ap (rewritten_records width) same; written = ap (λ (a : Answer Bytes). rewritten_after a w) same }

-- after a yes, what is handed over is
pub delivered : (width : ℕ) (asked : Answer (Unit {0})) (later : Answer Bytes) {o handed : Answer Bytes} {r : Answer ℕ} (w w' : Bytes) → accepted tt ≡ asked
    → ◌>>◌ asked later ≡ o → handed ≡ later → HandsOver width handed w r w' → HandsOver width o w r w'
delivered width asked later w w' e p h d =
    let same = h ∙ ap (λ (a : Answer (Unit {0})). ◌>>◌ a later) e ∙ p in
    record {
      answer = d.answer ∙ ap (rewritten_records width) same;
      written = d.written ∙ ap (λ (a : Answer Bytes). rewritten_after a w) same;
    }
