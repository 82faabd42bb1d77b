-- One step of bytes is the step of their term, and keeps it within the limits.
use Rattle.std.proofs.Common.{◌≡◌, refl, ap, Bool, true, false, cond, ◌||◌, [], ℕ, ◌/◌, ◌≤◌, arith}
use Rattle.calculus.specs.Security.{Security}
use Rattle.calculus.specs.Terms.{Term}
use Rattle.calculus.specs.Reduction.{Outcome, value, moved, denied, stuck, step}
use Rattle.rules.specs.Answer.{Bytes, accepted}
use Rattle.rules.specs.Limits.{script_width, script_limit, depth_limit}
use Rattle.rules.specs.Groups.{properties_of}
use Rattle.rules.specs.Types.{type_at}
use Rattle.rules.specs.Script.{encode, size, depth}
use Rattle.rules.specs.Step.{End, at_value, moves, may_not, wrong_kind, too_big, exceeds, end_of_outcome, step_in}
use Rattle.rules.specs.Calls.{types_check, script_check, step_call}
use Rattle.rules.proofs.Scripts.{term_encode}
use Rattle.promises.proofs.Answers.{accepted_inj}
use Rattle.promises.proofs.Tables.{Tables}
use Rattle.promises.proofs.Stepping.{Stays, properties_stay, formed_step}
use Rattle.promises.proofs.Checked.{Fit, Roomy, script_passes}

-- the ends, apart
abbrev end_tag : End → ℕ
end_tag at_value = 0
end_tag (moves e) = 1
end_tag may_not = 2
end_tag wrong_kind = 3
end_tag too_big = 4

pub ends_differ : {P : Type 0} (x y : End) → (end_tag x ≡ end_tag y → ⊥) → x ≡ y → P
ends_differ x y n e = absurd (n (ap end_tag e))

pub moves_inj : {e e' : Term} → moves e ≡ moves e' → e ≡ e'
moves_inj h = cc

-- what an end says of the outcome without limits
pub limited_moves : (room : ℕ) (o : Outcome) (e : Term) → end_of_outcome room o ≡ moves e → (o ≡ moved e) × (exceeds room e ≡ false)
limited_moves room o e h = grind arith

pub limited_too_big : (room : ℕ) (o : Outcome) → end_of_outcome room o ≡ too_big → (e : Term) × (o ≡ moved e) × (exceeds room e ≡ true)
limited_too_big room value h = ends_differ at_value too_big (λ x. omega arith) h
limited_too_big room (moved e') h = go (exceeds room e') refl h
  where
    go : (b : Bool) → exceeds room e' ≡ b → cond b too_big (moves e') ≡ too_big → (e : Term) × (moved e' ≡ moved e) × (exceeds room e ≡ true)
    go true x k = (e', refl, x)
    go false x k = ends_differ (moves e') too_big (λ x. omega arith) k
limited_too_big room denied h = ends_differ may_not too_big (λ x. omega arith) h
limited_too_big room stuck h = ends_differ wrong_kind too_big (λ x. omega arith) h

pub limited_value : (room : ℕ) (o : Outcome) → end_of_outcome room o ≡ at_value → o ≡ value
limited_value room o h = grind arith

pub limited_may_not : (room : ℕ) (o : Outcome) → end_of_outcome room o ≡ may_not → o ≡ denied
limited_may_not room o h = grind arith

pub limited_wrong_kind : (room : ℕ) (o : Outcome) → end_of_outcome room o ≡ wrong_kind → o ≡ stuck
limited_wrong_kind room o h = grind arith

pub within_limits : (room : ℕ) (e : Term) → exceeds room e ≡ false → (size e ≤ script_limit) × (size e ≤ room / script_width) × (depth e ≤ depth_limit)
unfolding exceeds
within_limits room e h = grind arith

no_rooms : (s : Bytes) → Roomy [] s
no_rooms s i l = absurd (omega arith)

module _ (g t : Bytes) (types : types_check g t ≡ accepted tt) (X : Tables g t) where
  pub fit_passes : (e : Term) → Fit g t e → script_check [] g t (encode e) ≡ accepted tt
  fit_passes e F = script_passes [] g t e types X.lattice F (no_rooms (encode e))

  pub fit_steps : (room : ℕ) (e : Term) → Fit g t e → step_call g t (encode e) room ≡ accepted (step_in (properties_of g) (type_at t) room e)
  unfolding step_call
  fit_steps room e F = rw (fit_passes e F, term_encode e)

  -- what a step of its bytes answers is the step of the term
  pub fit_step_is : (room : ℕ) (e : Term) {s : Bytes} {x : End} → encode e ≡ s → Fit g t e → step_call g t s room ≡ accepted x
      → step_in (properties_of g) (type_at t) room e ≡ x
  fit_step_is room e {s} {x} p F h = grind (arith, accepted_inj, fit_steps)

  pub fit_moves_by : {S : Security} → Stays g S → (room : ℕ) (e e' : Term) → Fit g t e → step_in S (type_at t) room e ≡ moves e' → Fit g t e'
  unfolding step_in
  fit_moves_by {S} stays room e e' F h =
      let m = limited_moves room (step S (type_at t) e) e' h in
      let l = within_limits room e' m.1 in
      record { formed = formed_step X stays e e' m.0 F.formed; small = l.0; shallow = l.2 }

  pub fit_moves : (room : ℕ) (e e' : Term) → Fit g t e → step_in (properties_of g) (type_at t) room e ≡ moves e' → Fit g t e'
  fit_moves = fit_moves_by (properties_stay X)
