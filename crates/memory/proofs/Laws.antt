-- Laws of writing over a piece.
use Rattle.std.proofs.Common.{◌≡◌, List, [], ◌++◌, ℕ, ◌+◌, ◌-◌, ◌≤◌, arith, length, take, drop, append_assoc}
use Rattle.std.proofs.Common.{length-take-le, drop-drop}
use Rattle.std.proofs.lemmas.Grind.{common_steps}
use Rattle.std.proofs.lemmas.Slice.{drop-append-drop}
use Rattle.std.proofs.lemmas.List.{drop-append-le, drop-take, take_at}
use Rattle.memory.specs.Splice.{splice}

pub length_splice : (at : ℕ) (x w : List ℕ) → at + length x ≤ length w → length (splice at x w) ≡ length w
length_splice at x w h = grind (arith, common_steps)

-- the list from a place past the piece on
pub drop_past : (at k : ℕ) (x w : List ℕ) → at + length x ≤ k → at + length x ≤ length w → drop k (splice at x w) ≡ drop k w
drop_past at k x w l f = rw (← append_assoc) (drop-append-drop (at + length x) w (take at w ++ x) k l (grind (arith, common_steps)))

-- what stands before the piece
pub take_before : (at k : ℕ) (x w : List ℕ) → k ≤ at → at ≤ length w → take k (splice at x w) ≡ take k w
take_before at k x w l f = grind (arith, common_steps)

-- two pieces that meet, the first one last
pub join_before : (at : ℕ) (x y w : List ℕ) → at + (length x + length y) ≤ length w → splice at x (splice (at + length x) y w) ≡ splice at (x ++ y) w
join_before at x y w f = grind (arith, common_steps)

-- a piece in front
pub splice_front : (x w : List ℕ) → splice 0 x w ≡ x ++ drop (length x) w
splice_front x w = grind (arith, common_steps)

-- an empty piece
pub splice_none : (at : ℕ) (w : List ℕ) → splice at [] w ≡ w
splice_none at w = grind (arith, common_steps)

-- two pieces that meet, the second one last
pub join_after : (at end : ℕ) (b c w : List ℕ) → end ≡ at + length b → at + length b ≤ length w → splice end c (splice at b w) ≡ splice at (b ++ c) w
join_after at end b c w e l =
    let t : take end (splice at b w) ≡ take at w ++ b = rw (← append_assoc) (take_at (take at w ++ b) _ end (grind (arith, common_steps))) in
    rw (t, drop_past at (end + length c) b w (omega arith) l) (grind (arith, common_steps))
