-- The questions in order; the value stands at the script's start.
use Rattle.std.proofs.Common.{◌≡◌, ℕ, ◌*◌, ◌≤◌, true, length, sym, ap, ◌∙◌, arith, rules, leb-true, Option, Some, None}
use Rattle.std.proofs.Common.{Err, ok_or}
use Rattle.calculus.specs.Terms.{Term, is_value}
use Rattle.rules.specs.Answer.{Bytes, Octets, accepted}
use Rattle.rules.specs.Limits.{script_width}
use Rattle.rules.specs.Script.{term}
use Rattle.records.specs.Place.{At}
use Rattle.records.proofs.Stands.{here, at_start, room}
use Rattle.rules.proofs.Asked.{ask_true}
use Rattle.answer.specs.declared.Refusal.{Refusal}
use Rattle.answer.proofs.Passed.{returned}
use Rattle.sheet.specs.Before.{before_26}
use Rattle.sheet.specs.Value.{lines, value_found}
use Rattle.sheet.specs.declared.Reached.{Reached}
use Rattle.sheet.proofs.Values.{found, lost, lines_size}
use Rattle.sheet.proofs.Sheets.{sheet_length}
use Rattle.sheet.proofs.Questions.{stopped, no_value, room_asked, written, narrow, encoded}
use Rattle.sheet.proofs.page.Goals as goal

-- a value stands at the script's start, and its records are counted
record Counted (g s : Bytes) (group count : ℕ) : Type 0 where
  at : At s 0 (term s)
  value : is_value (term s) ≡ true
  count_is : count ≡ lines g group (term s)
  fits : script_width * count ≤ length s

module _ (g t s : Bytes) (group : ℕ) (yes : accepted tt ≡ before_26 g t s group) (octets : Octets s) where
  stands : At s 0 (term s)
  stands = at_start s (encoded g t s group s (sym yes) octets)

  counted : {x : Reached} → ((e : Term) → At s 0 e → Some x ≡ value_found g group true e 0 0) → Counted g s group x.line
  counted {x} look =
      let f = found g group true (term s) 0 0 x (look (term s) stands) in
      record {
        at = stands;
        value = f.value;
        count_is = omega (arith, f.count);
        fits = omega (arith, f.count, lines_size g group true (term s), room _ _ _ stands);
      }

pub returns-in_err-asked : goal.returns-in_err-asked
returns-in_err-asked c =
    let a = c.args in
    let q = stopped a.groups.now a.types.now a.value.now a.group a.sheet.now c.in_err-asked.ensures in
    record { answer = rw (returned _ c.from_residual.ensures.1) q.answer; sheet = q.after }

pub overflow_cast-reader : goal.overflow_cast-reader
overflow_cast-reader c =
    let a = c.args in
    let l = narrow a.groups.now a.types.now a.value.now a.group a.sheet.now (sym c.in_ok-asked.ensures) (λ j. omega (arith, c.type_inv.value j)) in
    omega (arith, l)

pub look-requires : goal.look-requires
look-requires c =
    let a = c.args in
    record {
      here = here (stands a.groups.now a.types.now a.value.now a.group c.in_ok-asked.ensures (λ j. omega (arith, c.type_inv.value j)));
      before = omega arith;
    }

-- what a value that is missing is refused with
refused_with : (o : Option Reached) {e r : Refusal} → o ≡ None → Err e ≡ ok_or o r → e ≡ r
refused_with None n h = cc
refused_with (Some x) n h = absurd cc

pub returns-in_err-end : goal.returns-in_err-end
returns-in_err-end c =
    let a = c.args in
    let s = a.value.now in
    let at = stands a.groups.now a.types.now s a.group c.in_ok-asked.ensures (λ j. omega (arith, c.type_inv.value j)) in
    let o = c.in_err-end.ensures.ok_part in
    let v = lost _ _ true (term s) _ _ (sym o ∙ c.look.ensures (term s) at) in
    let p = no_value a.groups.now a.types.now s a.group a.sheet.now (sym c.in_ok-asked.ensures) v in
    let e = refused_with c.look.result o c.in_err-end.ensures.value in
    record { answer = rw (returned _ c.from_residual-in_err-end.ensures.1, e) p.answer; sheet = p.after }

pub overflow_mul-end : goal.overflow_mul-end
overflow_mul-end c =
    let a = c.args in
    let n = counted a.groups.now a.types.now a.value.now a.group c.in_ok-asked.ensures (λ j. omega (arith, c.type_inv.value j))
    (λ e w. sym c.in_ok-end.ensures.ok_part ∙ c.look.ensures e w) in
    omega (arith, n.fits)

pub returns-in_err-ask : goal.returns-in_err-ask
returns-in_err-ask c =
    let a = c.args in
    let n = counted a.groups.now a.types.now a.value.now a.group c.in_ok-asked.ensures (λ j. omega (arith, c.type_inv.value j))
    (λ e w. sym c.in_ok-end.ensures.ok_part ∙ c.look.ensures e w) in
    let p = room_asked a.groups.now a.types.now a.value.now a.group a.sheet.now (sym c.in_ok-asked.ensures) n.value n.count_is c.in_err-ask.ensures in
    record { answer = rw (returned _ c.from_residual-in_err-ask.ensures.1) p.answer; sheet = p.after }

pub write-requires : goal.write-requires
write-requires c =
    let a = c.args in
    let n = counted a.groups.now a.types.now a.value.now a.group c.in_ok-asked.ensures (λ j. omega (arith, c.type_inv.value j))
    (λ e w. sym c.in_ok-end.ensures.ok_part ∙ c.look.ensures e w) in
    record {
      tree = term a.value.now;
      at = n.at;
      value = n.value;
      fits = omega
          (arith, c.new-out.ensures.empty, ap (λ b. length b.now) c.new-out.ensures.lent, n.count_is, sheet_length a.groups.now a.group (term a.value.now), leb-true _ _ (ask_true 27 0 _ (sym c.in_ok-ask.ensures)));
    }

pub returns : goal.returns
returns c =
    let a = c.args in
    let s = a.value.now in
    let n = counted a.groups.now a.types.now s a.group c.in_ok-asked.ensures (λ j. omega (arith, c.type_inv.value j))
    (λ e w. sym c.in_ok-end.ensures.ok_part ∙ c.look.ensures e w) in
    let w = (c.write.ensures (term s) n.at n.value).wrote in
    let p = written a.groups.now a.types.now s a.group a.sheet.now (sym c.in_ok-asked.ensures) n.value
    (omega (arith, n.count_is, leb-true _ _ (ask_true 27 0 _ (sym c.in_ok-ask.ensures)))) _ n.count_is _ (rw (c.new-out.ensures.empty, c.new-out.ensures.lent) at w.holds) in
    let h = p.after in
    record { answer = p.answer; sheet = search rules }
