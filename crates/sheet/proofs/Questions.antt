-- The questions in order, and the answer from what was asked.
use Rattle.std.proofs.Common.{◌≡◌, sym, ap, ◌∙◌, true, false, [], ℕ, ◌*◌, ◌/◌, ◌≤◌, ◌<◌, arith, le-leb, ltb-true}
use Rattle.std.proofs.Common.{nat_le, nat_lt, length}
use Rattle.calculus.specs.Terms.{is_value}
use Rattle.rules.specs.Answer.{Bytes, Octets, Answer, accepted, refused, ask, ◌>>◌}
use Rattle.rules.specs.Limits.{sheet_width, group_limit}
use Rattle.rules.specs.Groups.{rows, q2}
use Rattle.rules.specs.Script.{encode, term}
use Rattle.rules.specs.Sheet.{sheet}
use Rattle.rules.specs.Calls.{groups_check, types_check, script_check, q25, q26, q27, sheet_call, sheet_records}
use Rattle.rules.specs.Calls.{sheet_after}
use Rattle.rules.proofs.Asked.{ask_true, and_then, regroup, few_rows}
use Rattle.promises.proofs.Checked.{script_passed}
use Rattle.memory.specs.Splice.{splice}
use Rattle.memory.proofs.Laws.{splice_front}
use Rattle.sheet.specs.Value.{lines}
use Rattle.sheet.specs.Before.{before_26}
use Rattle.sheet.proofs.Sheets.{sheet_length}

-- what a yes to all of them says
few_of : (g t : Bytes) → types_check g t ≡ accepted tt → rows g ≤ group_limit
unfolding types_check groups_check
few_of g t e = few_rows g (and_then (q2 g) _ (and_then (groups_check g) _ e).0).0

all_of : (g t s : Bytes) (group : ℕ) → before_26 g t s group ≡ accepted tt → (script_check [] g t s ≡ accepted tt) × (group < rows g)
unfolding before_26
all_of g t s group e =
    let a = and_then (script_check [] g t s) (q25 0 group (rows g)) e in
    (a.0, ltb-true group (rows g) (ask_true 25 0 (nat_lt group (rows g)) a.1))

-- the questions after 25, and the sheet
abbrev pub from_26 : Bytes → Bytes → ℕ → ℕ → Answer Bytes
from_26 g s group room = do
  q26 (term s)
  q27 (sheet g group (term s)) room
  accepted (sheet g group (term s))

sheeting_is : (g t s : Bytes) (group room : ℕ) → sheet_call g t s group room ≡ ◌>>◌ (before_26 g t s group) (from_26 g s group room)
unfolding sheet_call before_26 script_check is_value sheet term
sheeting_is g t s group room = sym (regroup (script_check [] g t s) (q25 0 group (rows g)) (from_26 g s group room))

-- the answer and the buffer, from the call's
pub record Paged (o : Answer Bytes) (old : Bytes) (a : Answer ℕ) (new : Bytes) : Type 0 where
  pub answer : a ≡ sheet_records o
  pub after : new ≡ sheet_after o old

no_sheet : (o : Answer Bytes) (old : Bytes) (q p : ℕ) → o ≡ refused q p → Paged o old (refused q p) old
unfolding sheet_records
no_sheet o old q p e = record { answer = sym (ap sheet_records e); after = sym (ap (λ x. sheet_after x old) e) }

the_sheet : (o : Answer Bytes) (b old new : Bytes) (n : ℕ) → o ≡ accepted b → length b ≡ sheet_width * n → new ≡ splice 0 b old → Paged o old (accepted n) new
unfolding sheet_records
the_sheet o b old new n e l h =
    let k : n ≡ length b / sheet_width = omega arith in
    record { answer = ap accepted k ∙ sym (ap sheet_records e); after = h ∙ splice_front b old ∙ sym (ap (λ x. sheet_after x old) e) }

module _ (g t s : Bytes) (group : ℕ) (old : Bytes) where
  abbrev call : Answer Bytes
  call = sheet_call g t s group (length old)

  pub stopped : {q p : ℕ} → refused q p ≡ before_26 g t s group → Paged call old (refused q p) old
  stopped {q} {p} e =
      no_sheet call old q p (sheeting_is g t s group (length old) ∙ ap (λ a. ◌>>◌ a (from_26 g s group (length old))) (sym e))

  module _ (yes : before_26 g t s group ≡ accepted tt) where
    after_25 : call ≡ from_26 g s group (length old)
    after_25 = sheeting_is g t s group (length old) ∙ ap (λ a. ◌>>◌ a (from_26 g s group (length old))) yes

    pub no_value : is_value (term s) ≡ false → Paged call old (refused 26 0) old
    no_value v = no_sheet call old 26 0 (after_25 ∙ rw v)

    pub room_asked : {n q p : ℕ} → is_value (term s) ≡ true → n ≡ lines g group (term s) → refused q p ≡ ask 27 0 (nat_le (sheet_width * n) (length old))
        → Paged call old (refused q p) old
    room_asked {n} {q} {p} v c e =
        let l : sheet_width * n ≡ length (sheet g group (term s)) = omega (arith, c, sheet_length g group (term s)) in
        no_sheet call old q p (after_25 ∙ rw (v, ← l, ← e))

    pub written : is_value (term s) ≡ true → sheet_width * lines g group (term s) ≤ length old → (n : ℕ) → n ≡ lines g group (term s) → (new : Bytes)
        → new ≡ splice 0 (sheet g group (term s)) old → Paged call old (accepted n) new
    written v l n h new e =
        the_sheet call (sheet g group (term s)) old new n
        (after_25 ∙ rw (v, le-leb (length (sheet g group (term s))) (length old) (omega (arith, sheet_length g group (term s)))))
        (sheet_length g group (term s) ∙ ap (λ x. sheet_width * x) (sym h)) e

    -- the script is the encoding of its term
    pub encoded : Octets s → encode (term s) ≡ s
    encoded o = (script_passed [] g t s o (all_of g t s group yes).0).encoded

    -- a group of the table is a byte
    pub narrow : Octets s → group < 256
    narrow o =
        let a = all_of g t s group yes in
        omega (arith, a.1, few_of g t (script_passed [] g t s o a.0).types)
