-- The walk writes the common type over the first, or the two are apart.
use Rattle.std.proofs.Common.{ℕ, ◌≤◌, Option, length, ok_or, refl, ap, arith}
use Rattle.std.proofs.Math.Option as math
use Rattle.calculus.specs.Types.{Ty, size_t, type_limit}
use Rattle.rules.specs.Answer.{Bytes}
use Rattle.rules.specs.Typing.{found_or}
use Rattle.answer.specs.declared.Question.TheVariants.{CommonType}
use Rattle.common_types.specs.Walks.{TwoTypes, Walked}
use Rattle.types.proofs.Parts.{type_length}
use Rattle.inference.specs.Memory.{TwoTypesHeld, Gives, meets_refusal}
use Rattle.inference.proofs.Regions.{written}
use Rattle.inference.proofs.common_type.Goals as goal

abbrev two_types : {w : Bytes} → TwoTypesHeld w → TwoTypes w 0 type_limit
two_types v =
    record {
      first = v.first;
      second = v.second;
      first_at = record { held = v.slot.held };
      second_at = record { held = v.other };
      past = omega (arith, v.slot.small);
    }

-- what is found, by whether there is a common type
found : (o : math.Option Ty) (place : ℕ) {s : Ty} {w w' : Bytes} {x : Option ℕ} → Walked o s 0 w x w' → size_t s ≤ type_limit
    → Gives (found_or place o) w (ok_or x (record { question = CommonType; place = place })) w'
found math.none place h m = λ b l. rw h.says meets_refusal
found (math.some u) place h m = rw h.says (written refl (omega (arith, ap length (h.is u refl), type_length u, h.within)) (h.is u refl) h.wrote)

pub returns : goal.returns
returns c v = rw c.ok_or.ensures.value (found _ _ (c.common.ensures (two_types v)) v.slot.small)
