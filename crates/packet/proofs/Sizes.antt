-- The records and the depth of an application, from those of its operands.
use Rattle.std.proofs.Common.{◌≡◌, refl, sym, ap, ap₂, ◌∙◌, Bool, true, false, not, ◌&&◌, [], ◌∷◌, ℕ, suc, ◌+◌, ◌*◌}
use Rattle.std.proofs.Common.{◌/◌, ◌%◌, ◌≤◌, max, nat_le, nat_lt, arith, length, get_or, length-append, eq-eqb, le-leb}
use Rattle.std.proofs.Math.Option.{none, some}
use Rattle.calculus.specs.Terms.{app}
use Rattle.rules.specs.Answer.{Bytes, ask, all_below, first_from, is_absent}
use Rattle.rules.specs.Limits.{script_width, script_limit, depth_limit}
use Rattle.rules.specs.Script.{records, term, depth, q13}
use Rattle.rules.specs.Packet.{application, q18_whole}
use Rattle.rules.proofs.Scripts.{term_encode}
use Rattle.promises.proofs.Packet.{built}
use Rattle.records.proofs.Stands.{start_records}
use Rattle.substitution.proofs.Reading.{term_length}
use Rattle.packet.specs.Checks.{WholeTerm}

-- two buffers
two_rooms : (test : ℕ → Bool) → all_below test 2 ≡ test 0 && test 1
unfolding first_from
two_rooms test = go (test 0) (test 1)
  where
    go : (a b : Bool) → is_absent {A = ℕ} (elim (not a) [ true ↦ some 0 | false ↦ elim (not b) [ true ↦ some 1 | false ↦ none ] ]) ≡ a && b
    go true true = refl
    go true false = refl
    go false b = refl

pub whole_length : {s : Bytes} → WholeTerm s → length s ≡ script_width * records s
whole_length {s} W = omega (arith, ap length W.encoded, term_length (term s), start_records s W.encoded)

module _ (group : ℕ) (s e : Bytes) (W : WholeTerm s) (E : WholeTerm e) where
  pub application_length : length (application group s e) ≡ script_width * (1 + (records s + records e))
  application_length = omega (arith, length-append s e, whole_length W, whole_length E)

  pub application_term : term (application group s e) ≡ app group (term s) (term e)
  application_term =
      ap term (sym (ap₂ (application group) W.encoded E.encoded) ∙ sym (built group (term s) (term e))) ∙ term_encode (app group (term s) (term e))

  pub application_depth : depth (term (application group s e)) ≡ 1 + max (depth (term s)) (depth (term e))
  unfolding depth
  application_depth = ap depth application_term

  pub asked_18 : (n : ℕ) → n ≡ max (depth (term s)) (depth (term e)) → ask 18 0 (nat_lt n depth_limit) ≡ q18_whole (application group s e)
  asked_18 n h =
      let d : suc n ≡ depth (term (application group s e)) = omega (arith, h, application_depth) in
      ap (λ (k : ℕ). ask 18 0 (nat_le k depth_limit)) d

  pub asked_13 : (n first scratch : ℕ) → n ≡ 1 + (records s + records e)
      → ask 13 0 (nat_le n script_limit && (nat_le (script_width * n) first && nat_le (script_width * n) scratch)) ≡ q13 (first ∷ scratch ∷ []) (application group s e)
  asked_13 n first scratch h =
      let l = application_length in
      let len = length (application group s e) in
      let a : len % script_width ≡ 0 = omega (arith, l) in
      let b : len / script_width ≡ n = omega (arith, l, h) in
      let c : script_width * n ≡ len = omega (arith, l, h) in
      let d : 1 ≤ n = omega (arith, h) in
      rw (two_rooms (λ i. nat_le len (get_or (first ∷ scratch ∷ []) i 0)), eq-eqb (len % script_width) 0 a, b, le-leb 1 n d, c) refl
