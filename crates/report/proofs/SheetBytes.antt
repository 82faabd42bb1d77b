-- A sheet's bytes are below 256, if the table's and the script's are.
use Rattle.std.proofs.Common.{◌≡◌, ℕ, zero, suc, ◌≤◌, ◌<◌, Bool, true, false, cond, min, subst, ltb-true, refl, sym, []}
use Rattle.std.proofs.Common.{◌∷◌, arith}
use Rattle.calculus.specs.Security.{Property}
use Rattle.calculus.specs.Terms.{first, second, Term, var, unit, lam, pair, inj, app, proj, case, protect, mu, literal}
use Rattle.calculus.specs.Terms.{reckon}
use Rattle.calculus.proofs.Booleans.{and_left}
use Rattle.rules.specs.Answer.{Bytes, Octets, accepted}
use Rattle.rules.specs.Limits.{group_limit}
use Rattle.rules.specs.Groups.{rows, leq, properties_of, q2}
use Rattle.rules.specs.Types.{type_at}
use Rattle.rules.specs.Script.{encode, term}
use Rattle.rules.specs.Sheet.{shown_record, sheet_record, sheet}
use Rattle.rules.specs.Step.{End, at_value, moves, may_not, wrong_kind, too_big, step_in}
use Rattle.rules.specs.Run.{Ran, run}
use Rattle.rules.specs.Calls.{q25, q26, q27, groups_check, types_check, script_check, run_call, sheet_call}
use Rattle.rules.proofs.Asked.{and_then, few_rows}
use Rattle.rules.proofs.Octets.{octets_append}
use Rattle.rules.proofs.Scripts.{term_encode}
use Rattle.promises.proofs.Answers.{accepted_inj}
use Rattle.promises.proofs.Formed.{Secure, Formed}
use Rattle.promises.proofs.Tables.{Tables}
use Rattle.promises.proofs.TypesTable.{tables}
use Rattle.promises.proofs.Checked.{Fit, script_passed}
use Rattle.promises.proofs.Steps.{fit_moves}

none_octets : Octets []
none_octets i = omega arith

record_octets : (kind r ir n : ℕ) → kind < 256 → r < 256 → ir < 256 → n < 65536 → Octets (shown_record kind r ir n)
record_octets kind r ir n a b c l zero = a
record_octets kind r ir n a b c l (suc zero) = b
record_octets kind r ir n a b c l (suc (suc zero)) = c
record_octets kind r ir n a b c l (suc (suc (suc zero))) = omega arith
record_octets kind r ir n a b c l (suc (suc (suc (suc zero)))) = omega arith
record_octets kind r ir n a b c l (suc (suc (suc (suc (suc zero))))) = omega arith
record_octets kind r ir n a b c l (suc (suc (suc (suc (suc (suc i)))))) = omega arith

told_or_closed : (told : Bool) (kind r ir n : ℕ) → kind < 256 → r < 256 → ir < 256 → n < 65536 → Octets (cond told (shown_record kind r ir n) (shown_record 5 0 0 0))
told_or_closed true kind r ir n a b c l = record_octets kind r ir n a b c l
told_or_closed false kind r ir n a b c l = record_octets 5 0 0 0 (omega arith) (omega arith) (omega arith) (omega arith)

parts_octets : (told : Bool) (parts : Bytes) → Octets parts → Octets (cond told parts [])
parts_octets true parts o = o
parts_octets false parts o = none_octets

-- of a formed term
module _ (g t : Bytes) (X : Tables g t) (few : rows g ≤ group_limit) (group : ℕ) where
  own_octets : (kind : ℕ) (k : Property) (n : ℕ) → kind < 256 → Secure g k → n < 65536 → Octets (sheet_record g group kind k n)
  own_octets kind k n a h l =
      let r : k.r < rows g = ltb-true _ _ (X.lattice.groups_only _ _ (X.lattice.self_right _ _ (and_left _ _ h))) in
      let ir : k.ir < rows g = ltb-true _ _ (X.lattice.groups_only _ _ (and_left _ _ h)) in
      told_or_closed (leq g k.r group) kind k.r k.ir n a (omega arith) (omega arith) l

  sheet_octets : (e : Term) (n : ℕ) → Formed g t n e → Octets (sheet g group e)
  unfolding sheet Formed
  sheet_octets (unit k) n F = own_octets 0 k 0 (omega arith) F (omega arith)
  sheet_octets (lam k i e) n F = own_octets 4 k 0 (omega arith) F.0 (omega arith)
  sheet_octets (pair k a b) n F =
      octets_append _ _ (own_octets 3 k 0 (omega arith) F.0 (omega arith))
      (parts_octets (leq g k.r group) _ (octets_append _ _ (sheet_octets a n F.1) (sheet_octets b n F.2)))
  sheet_octets (inj first k i e) n F = octets_append _ _ (own_octets 1 k 0 (omega arith) F.0 (omega arith)) (parts_octets (leq g k.r group) _ (sheet_octets e n F.3))
  sheet_octets (inj second k i e) n F = octets_append _ _ (own_octets 2 k 0 (omega arith) F.0 (omega arith)) (parts_octets (leq g k.r group) _ (sheet_octets e n F.3))
  sheet_octets (literal k m) n F = own_octets 6 k m (omega arith) F.0 F.1
  sheet_octets _ n F = none_octets

-- of a value that passes its questions
page_octets : (g t v : Bytes) (group room : ℕ) → Octets g → (script_check [] g t v ≡ accepted tt → Fit g t (term v)) → (b : Bytes)
    → sheet_call g t v group room ≡ accepted b → Octets b
unfolding sheet_call script_check types_check
page_octets g t v group room octets F b h =
    let e1 = and_then (script_check [] g t v) _ h in
    let types = (and_then (types_check g t) _ e1.0).0 in
    let few = few_rows g (and_then (q2 g) _ (and_then (groups_check g) _ types).0).0 in
    let e2 = (and_then (q25 0 group (rows g)) _ e1.1).1 in
    let e3 = (and_then (q26 (term v)) _ e2).1 in
    let e4 = (and_then (q27 (sheet g group (term v)) room) _ e3).1 in
    subst Octets (accepted_inj e4) (sheet_octets g t (tables g t octets types) few group (term v) 0 (F e1.0).formed)

pub value_octets : (g t v : Bytes) (group room : ℕ) → Octets g → Octets v → (b : Bytes) → sheet_call g t v group room ≡ accepted b → Octets b
value_octets g t v group room octets_g octets_v = page_octets g t v group room octets_g (λ e. (script_passed [] g t v octets_v e).fit)

pub term_octets : (g t : Bytes) (e : Term) (group room : ℕ) → Octets g → Fit g t e → (b : Bytes) → sheet_call g t (encode e) group room ≡ accepted b → Octets b
term_octets g t e group room octets F = page_octets g t (encode e) group room octets (λ p. subst (λ (u : Term). Fit g t u) (sym (term_encode e)) F)

-- a run's last term is formed
module _ (g t : Bytes) (types : types_check g t ≡ accepted tt) (X : Tables g t) (room : ℕ) where
  run_fits : (budget : ℕ) (e : Term) → Fit g t e → Fit g t (run (properties_of g) (type_at t) room budget e).last
  unfolding run
  run_fits zero e F = F
  run_fits (suc budget) e F = go (step_in (properties_of g) (type_at t) room e) refl (λ e' F'. run_fits budget e' F')
    where
      go : (x : End) → step_in (properties_of g) (type_at t) room e ≡ x → ((e' : Term) → Fit g t e' → Fit g t (run (properties_of g) (type_at t) room budget e').last)
          → Fit g t (run (properties_of g) (type_at t) room (suc budget) e).last
      go (moves e') h ih = rw (h, run) (ih e' (fit_moves g t types X room e e' F h))
      go _ h ih = rw (h, run) F

pub last_fits : (g t s : Bytes) (budget room room' : ℕ) → Octets g → Octets s → (x : Ran) → run_call g t s budget room room' ≡ accepted x → Fit g t x.last
unfolding run_call
last_fits g t s budget room room' octets_g octets_s x h =
    let p = and_then (script_check (room ∷ room' ∷ []) g t s) _ h in
    let P = script_passed (room ∷ room' ∷ []) g t s octets_s p.0 in
    subst (λ (y : Ran). Fit g t y.last) (accepted_inj p.1) (run_fits g t P.types (tables g t octets_g P.types) (min room room') budget (term s) P.fit)
