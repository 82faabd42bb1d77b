-- Where c and ic are group 0, today's rules answer and do what the rules without creators did.
use Rattle.std.proofs.Common.{◌≡◌, refl, sym, Bool, true, ◌&&◌, ℕ, zero, IsTrue, arith}
use Rattle.calculus.specs.Security.{Property, Reader}
use Rattle.calculus.specs.Groups.{Groups, properties}
use Rattle.calculus.specs.Types.{Ty, top}
use Rattle.calculus.specs.Callers.{called_as, as_written}
use Rattle.calculus.specs.Creators.{without_creators, readers, rewriting_labels}
use Rattle.calculus.proofs.RelabelledTypes.{Agrees}

-- what the rules do with group 0, whatever the other group is
pub record Least (G : Groups) : Type 0 where
  pub leq : IsTrue (G.leq zero zero)
  pub join : G.join zero zero ≡ zero
  pub meet : (g : ℕ) → G.meet zero g ≡ zero
  pub meet_with : (g : ℕ) → G.meet g zero ≡ zero

also_true : (b : Bool) → (b && true) ≡ b
also_true b = grind arith

module _ (G : Groups) (caller : Property → Reader → Reader) (tab : ℕ → Ty) where
  -- the rules without creators and those of today
  pub rewritten_agrees : Least G → Agrees (rewriting_labels caller tab) (called_as caller (readers G)) (properties G) tab
  rewritten_agrees X = record {
    le = λ k l. rw (X.leq, also_true (G.leq k.ir l.ir));
    permits = λ k w. refl;
    absorbs = λ k w l. rw (X.meet w, X.leq, also_true (G.leq k.ir l.ir));
    join = λ k l. rw (X.meet zero);
    meet = λ k l. rw X.join;
    raise = λ k m. rw (X.meet zero);
    influence = λ k w. rw (X.meet w);
    reckoning = λ w k l. rw (X.meet w, X.meet_with w, X.meet zero);
    caller = λ i w. refl;
    nothing = refl;
  }

  -- the rules without creators keep none
  pub uncreated_agrees : ((k : Property) (w : Reader) → caller (without_creators k) w ≡ caller k w)
      → Agrees (rewriting_labels as_written tab) (called_as caller (readers G)) (called_as caller (readers G)) tab
  uncreated_agrees unread = record {
    le = λ k l. refl;
    permits = λ k w. refl;
    absorbs = λ k w l. refl;
    join = λ k l. refl;
    meet = λ k l. refl;
    raise = λ k m. refl;
    influence = λ k w. refl;
    reckoning = λ w k l. refl;
    caller = λ i w. sym (unread (top (tab i)) w);
    nothing = refl;
  }
