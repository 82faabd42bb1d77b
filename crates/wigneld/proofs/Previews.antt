-- What the exported preview and move pass on.
use Rattle.std.proofs.Common.{◌≡◌, refl, ap, ◌∙◌, false, true, ℕ, nat_eq, length, eq-eqb}
use Rattle.rules.specs.Answer.{Bytes, Answer, accepted, refused, ◌>>=◌}
use Rattle.rules.specs.Script.{records}
use Rattle.rules.specs.Step.{End, at_value, moves, may_not, wrong_kind, too_big, end_number, end_count}
use Rattle.rules.specs.Calls.{step_call, step_report, written_after}
use Rattle.rules.specs.Preview.{Preview, preview_call, move_call, moved_steps}
use Rattle.promises.proofs.Preview.{preview_then_move}
use Rattle.packing.specs.Packed.{packed_number, step_lower, preview_lower, steps_in, steps_of, steps_left}
use Rattle.wigneld.specs.Exported.{handed_back, Followed}

-- a preview's number tells nothing of the steps so far
pub any_steps : (g t s : Bytes) (room n m : ℕ) → packed_number (preview_lower (preview_call g t s room n)) ≡ packed_number (preview_lower (preview_call g t s room m))
unfolding preview_call
any_steps g t s room n m = go (step_call g t s room)
  where
    shown : Answer End → ℕ → ℕ
    shown a k = packed_number (preview_lower (◌>>=◌ a (λ x. accepted (record { end = end_number x; count = end_count (records s) x; steps = k }))))

    go : (a : Answer End) → shown a n ≡ shown a m
    go (accepted x) = refl
    go (refused q p) = refl

module _ (g t s : Bytes) (end count : ℕ) (written steps : Bytes) (same : steps_in (steps_of steps) steps ≡ steps) where
  abbrev given : Preview
  given = handed_back end count steps

  abbrev moved : Answer End
  moved = move_call g t s (length written) given

  -- a move that isn't told end 1 keeps all that is lent
  module _ (written' steps' : Bytes) (w : written' ≡ written_after moved written) (n : steps' ≡ steps_left (moved_steps given moved) steps)
      (other : nat_eq end 1 ≡ false) where
    abbrev Kept : Type 0
    Kept = (written' ≡ written) × (steps' ≡ steps)

    both_kept : (o : Answer End) → moved ≡ o → ((x : End) → o ≡ accepted x → end ≡ end_number x) → Kept
    unfolding moved_steps
    both_kept (accepted (moves e')) e h = let one : nat_eq end 1 ≡ true = eq-eqb end 1 (h (moves e') refl) in absurd cc
    both_kept (refused q p) e h = (w ∙ ap (λ o. written_after o written) e, n ∙ ap (λ o. steps_left (moved_steps given o) steps) e)
    both_kept _ e h = (w ∙ ap (λ o. written_after o written) e, n ∙ ap (λ o. steps_left (moved_steps given o) steps) e ∙ same)

  pub followed : (n : ℕ) (written' steps' : Bytes) → n ≡ packed_number (step_lower (step_report s moved)) → written' ≡ written_after moved written
      → steps' ≡ steps_left (moved_steps given moved) steps → Followed g t s end count written steps n written' steps'
  followed n written' steps' a w k =
      let p = preview_then_move g t s written given.steps in
      record {
        promise = p;
        number = λ h. a ∙ ap (λ (o : Answer End). packed_number (step_lower (step_report s o))) (p.same_answer given h);
        written_is = λ h. w ∙ p.same_bytes given h;
        steps_is = λ h. k ∙ ap (λ (o : Answer ℕ). steps_left o steps) (p.counts given h).1;
        keeps = λ e. both_kept written' steps' w k e moved refl (λ x h. ((p.takes given x).0 h).1);
      }
