-- Questions 14 to 18, the form of a script.
use Rattle.std.proofs.Common.{◌≡◌, []}
use Rattle.rules.specs.Answer.{Bytes, Octets, accepted}
use Rattle.rules.specs.Script.{q13, q14, q15, q36_objects, q16, q17, q18}
use Rattle.rules.specs.Calls.{form_check}
use Rattle.rules.proofs.Asked.{and_then}
use Rattle.rules.proofs.Scripts.{Whole, whole}

-- Each of them, where all are yes.
pub record Formed (g t s : Bytes) : Type 0 where
  pub fields : q14 s ≡ accepted tt
  pub groups : q15 g s ≡ accepted tt
  pub creators : q36_objects g s ≡ accepted tt
  pub types : q16 t s ≡ accepted tt
  pub one_term : q17 s ≡ accepted tt
  pub shallow : q18 s ≡ accepted tt

pub form_yes : (g t s : Bytes) → form_check g t s ≡ accepted tt → Formed g t s
unfolding form_check
form_yes g t s q =
    let a = and_then (q14 s) _ q in
    let b = and_then (q15 g s) _ a.1 in
    let c = and_then (q36_objects g s) _ b.1 in
    let d = and_then (q16 t s) _ c.1 in
    let e = and_then (q17 s) (q18 s) d.1 in
    record { fields = a.0; groups = b.0; creators = c.0; types = d.0; one_term = e.0; shallow = e.1 }

pub yes_form : (g t s : Bytes) → Formed g t s → form_check g t s ≡ accepted tt
unfolding form_check
yes_form g t s f = rw (f.fields, f.groups, f.creators, f.types, f.one_term, f.shallow)

-- then the script is a term
pub form_whole : (g t s : Bytes) → Octets s → q13 [] s ≡ accepted tt → form_check g t s ≡ accepted tt → Whole s
form_whole g t s o q13_yes q = let f = form_yes g t s q in whole [] s o q13_yes f.fields f.one_term
