-- Pieces written into a buffer one after the other.
use Rattle.std.proofs.Common.{◌≡◌, List, [], ℕ, ◌++◌, length, refl, sym, ap, ◌∙◌, arith, length-append}
use Rattle.memory.proofs.Laws.{length_splice, splice_none, join_after}
use Rattle.memory.specs.Splice.{splice}
use Rattle.memory.specs.Written.{Room, Written}
use Rattle.memory.specs.declared.Writer.{Writer}

-- nothing
pub nothing : (x : Writer) → Room [] x → Written [] x x
nothing x l = record { fits = l; ends = omega arith; holds = sym (splice_none x.end x.out.now); same_buffer = refl }

-- what was written keeps the buffer's length
pub keeps : {b : List ℕ} {x y : Writer} → Written b x y → length y.out.now ≡ length x.out.now
keeps {b} {x} w = ap length w.holds ∙ length_splice x.end b x.out.now w.fits

-- a piece after another
pub then : {b c : List ℕ} {x y z : Writer} → Written b x y → Written c y z → Written (b ++ c) x z
then {b} {c} {x} {y} {z} v w =
    record {
      fits = omega (arith, v.ends, w.fits, keeps v, length-append b c);
      ends = omega (arith, v.ends, w.ends, length-append b c);
      holds = w.holds ∙ ap (splice y.end c) v.holds ∙ join_after x.end y.end b c x.out.now v.ends v.fits;
      same_buffer = w.same_buffer ∙ v.same_buffer;
    }

-- room for a piece and what follows it is room for the piece,
pub room_first : (b rest : List ℕ) (x : Writer) → Room (b ++ rest) x → Room b x
room_first b rest x l = omega (arith, length-append b rest)

-- and, once it is written, for the rest
pub room_next : {b : List ℕ} {x y : Writer} (rest : List ℕ) → Written b x y → Room (b ++ rest) x → Room rest y
room_next {b} rest w l = omega (arith, length-append b rest, w.ends, keeps w)
