-- What the search reports of a term, from what it reports of the operand that is evaluated next.
use Rattle.std.proofs.Common.{◌≡◌, refl, sym, ap, ◌∙◌, ℕ, ◌+◌, ◌≤◌, arith, IsTrue}
use Rattle.calculus.specs.Security.{Security}
use Rattle.calculus.specs.Types.{Ty}
use Rattle.calculus.specs.Terms.{Term, is_value}
use Rattle.calculus.specs.Reduction.{hole, plug, value, moved, denied, stuck, step}
use Rattle.calculus.proofs.Contexts.{compose, plug_compose, plug_step}
use Rattle.calculus.proofs.Values.{value_step}
use Rattle.rules.specs.Answer.{Bytes}
use Rattle.rules.specs.Limits.{depth_limit}
use Rattle.rules.specs.Script.{size, depth}
use Rattle.records.specs.Place.{At}
use Rattle.redex.specs.Contexts.{offset, level}
use Rattle.redex.specs.Fates.{Fate, reduces, not_permitted, no_rule, is_potential_redex, fate, contractum}
use Rattle.redex.specs.Found.{Site, Finds, finds_value, finds_redex, finds_denied, finds_stuck, answer}
use Rattle.redex.specs.declared.Found.{Found}
use Rattle.redex.specs.declared.Found.TheVariants.{Value, Redex, Denied, Stuck}
use Rattle.redex.proofs.Plugs.{plug_depth, compose_offset, compose_level}
use Rattle.redex.proofs.Places.{hole_at}
use Rattle.redex.proofs.Turns.{turn_step, site_moves}
use Rattle.redex.proofs.Forms.{Position}

-- An answer tells the step, and so the step tells which answer it is.
abbrev pub OutcomeOf : (S : Security) (tab : ℕ → Ty) (e : Term) → Found → Type 0
OutcomeOf S tab e (Value end) = step S tab e ≡ value
OutcomeOf S tab e (Redex place around) = (e' : Term) × (step S tab e ≡ moved e')
OutcomeOf S tab e Denied = step S tab e ≡ denied
OutcomeOf S tab e Stuck = step S tab e ≡ stuck

pub finds_step : {S : Security} {tab : ℕ → Ty} {i d : ℕ} {e : Term} {a : Found} → Finds S tab i d e a → OutcomeOf S tab e a
finds_step {S} {tab} {e = e} (finds_value v n) = value_step S tab e v
finds_step {S} {tab} (finds_redex x) = (plug x.context (contractum S tab x.redex), site_moves S tab x)
finds_step (finds_denied h) = h
finds_step (finds_stuck h) = h

-- the end of what is reported as a value
pub found_value : {S : Security} {tab : ℕ → Ty} {i d : ℕ} {e : Term} {n : ℕ} → Finds S tab i d e (Value n) → IsTrue (is_value e) × (n ≡ i + size e)
found_value (finds_value v n) = (v, n)

-- an operand's place
pub position_at : {s : Bytes} {i : ℕ} {e x : Term} {n m : ℕ} (j : ℕ) → Position e x n m → At s i e → j ≡ i + n → At s j x
position_at {s} {i} {e} {x} j p a h =
    let q : i + offset p.context ≡ j = omega (arith, p.from) in
    rw (← q) (hole_at p.context x a p.whole)

pub position_shallow : {e x : Term} {n m : ℕ} (d : ℕ) → Position e x n m → d + depth e ≤ depth_limit → d + m + depth x ≤ depth_limit
position_shallow {e} {x} d p h = omega (arith, p.under, ap depth p.whole, plug_depth p.context x)

-- what is no value
abbrev pub Other : Found → Type 0
Other a = (n : ℕ) → a ≡ Value n → ⊥

module _ (S : Security) (tab : ℕ → Ty) (i d : ℕ) (e : Term) where
  lift_site : {x : Term} {n m place around : ℕ} (j : ℕ) → j ≡ i + n → Position e x n m → Site S tab j (d + m) x place around → Site S tab i d e place around
  lift_site j h p s =
      record {
        context = compose p.context s.context;
        redex = s.redex;
        whole = p.whole ∙ ap (plug p.context) s.whole ∙ sym (plug_compose p.context s.context s.redex);
        place_is = omega (arith, s.place_is, p.from, compose_offset p.context s.context);
        around_is = omega (arith, s.around_is, p.under, compose_level p.context s.context);
        turn = s.turn;
        goes = s.goes;
      }

  -- what is reported of the operand is reported of the whole term, as it is, unless it is a value
  pub lift : {x : Term} {n m : ℕ} {a : Found} (j : ℕ) → j ≡ i + n → Position e x n m → Finds S tab j (d + m) x a → Other a → Finds S tab i d e a
  lift j h p (finds_value v n) k = absurd (k _ refl)
  lift j h p (finds_redex s) k = finds_redex (lift_site j h p s)
  lift {x} j h p (finds_denied q) k = finds_denied (ap (step S tab) p.whole ∙ plug_step S tab p.context x denied refl q)
  lift {x} j h p (finds_stuck q) k = finds_stuck (ap (step S tab) p.whole ∙ plug_step S tab p.context x stuck refl q)

  own_site : IsTrue (is_potential_redex e) → fate S tab e ≡ reduces → Site S tab i d e i d
  unfolding plug offset level
  own_site t g =
      record { context = hole; redex = e; whole = refl; place_is = omega arith; around_is = omega arith; turn = t; goes = g }

  -- the answer of a node whose own turn it is
  pub fired : {a : Found} → IsTrue (is_potential_redex e) → a ≡ answer (fate S tab e) i d → Finds S tab i d e a
  fired t h = rw h (by (fate S tab e) refl)
    where
      by : (x : Fate) → fate S tab e ≡ x → Finds S tab i d e (answer x i d)
      by reduces g = finds_redex (own_site t g)
      by not_permitted g = finds_denied (turn_step S tab e t ∙ rw g)
      by no_rule g = finds_stuck (turn_step S tab e t ∙ rw g)
