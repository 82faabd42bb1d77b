-- A term moved within a buffer: with another record for its own, and behind a record.
use Rattle.std.proofs.Common.{◌≡◌, refl, ◌++◌, ℕ, ◌+◌, ◌*◌, ◌≤◌, arith, length, take, drop, length-take-le, take_at}
use Rattle.std.proofs.Common.{drop_at, drop-drop}
use Rattle.std.proofs.Math.Seq.{drop-append-le}
use Rattle.calculus.specs.Security.{Indirect}
use Rattle.calculus.specs.Terms.{Term, protect}
use Rattle.rules.specs.Answer.{Bytes}
use Rattle.rules.specs.Limits.{script_width}
use Rattle.rules.specs.Script.{encode, size}
use Rattle.memory.specs.Splice.{splice}
use Rattle.memory.proofs.Laws.{take_before, join_before}
use Rattle.records.specs.Place.{At}
use Rattle.substitution.proofs.Reading.{term_length, size_from}
use Rattle.contraction.specs.Plans.{protect_record}
use Rattle.std.proofs.lemmas.Grind.{common_steps}

-- the bytes of a term that stands at a record, as they are taken
pub term_taken : {s : Bytes} {i : ℕ} {e : Term} → At s i e → take (script_width * size e) (drop (script_width * i) s) ≡ encode e
term_taken {s} {i} {e} a = rw a.stands (take_at (encode e) a.rest _ (term_length e))

-- a front put over a piece
put_over : (at : ℕ) (own x w : Bytes) → at + length x ≤ length w → length own ≤ length x
    → splice at own (splice at x w) ≡ splice at (own ++ drop (length own) x) w
put_over at own x w l f =
    let d : drop (at + length own) (splice at x w) ≡ drop (length own) x ++ drop (at + length x) w =
    rw (← drop-drop (length own) at (splice at x w), drop_at (take at w) (x ++ drop (at + length x) w) at (length-take-le at w (omega (arith, l)))) (drop-append-le (length own) x (drop (at + length x) w) f) in
    rw (take_before at at x w (omega arith) (omega (arith, l)), d) (grind (arith, common_steps))

module _ {a : Bytes} {i : ℕ} {v : Term} (stands : At a i v) (at n : ℕ) (count : n ≡ size v) (own : Bytes) {moved put : Bytes} (width : length own ≡ script_width)
    (over : put ≡ splice (script_width * at) own moved) where
  -- with another record for its own
  pub moved_up : at ≤ i → moved ≡ splice (script_width * at) (take (script_width * n) (drop (script_width * i) a)) a
      → put ≡ splice (script_width * at) (own ++ drop script_width (encode v)) a
  moved_up l m = grind (arith, common_steps, term_taken, put_over, term_length, size_from)

  -- behind a record
  pub moved_behind : script_width * (at + 1 + size v) ≤ length a → moved ≡ splice (script_width * (at + 1)) (take (script_width * n) (drop (script_width * i) a)) a
      → put ≡ splice (script_width * at) (own ++ encode v) a
  moved_behind l m = grind (arith, common_steps, term_taken, join_before, term_length)

-- the bytes of a protect
pub protect_bytes : (m : Indirect) (e : Term) → protect_record m ++ encode e ≡ encode (protect m e)
unfolding encode
protect_bytes m e = refl
