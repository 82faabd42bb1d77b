-- The first side is past the record, the second past the first.
use Rattle.std.proofs.Common.{◌≡◌, ℕ, ◌+◌, ◌*◌, ◌≤◌, length, arith}
use Rattle.calculus.specs.Types.{size_t}
use Rattle.rules.specs.Answer.{Bytes}
use Rattle.rules.specs.Limits.{type_width}
use Rattle.types.specs.Held.{TwoSided, left_of}
use Rattle.inference.proofs.Front.{held_within, held_left, held_right}
use Rattle.types.proofs.Parts.{two_of}
use Rattle.inference.proofs.side_at.Goals as goal

fits : {l : Bytes} {n : ℕ} (p : TwoSided l) → n ≡ size_t (left_of p.type) → type_width + type_width * n ≤ length l
fits {l} {n} p e = omega (arith, held_within (type_width + type_width * n) l (held_right p.type p.two p.held n e))

pub type_records-requires : goal.type_records-requires
type_records-requires c = let p = c.requires in record { type = left_of p.type; held = c.left_side.ensures.side p.type p.held }

pub overflow_mul-result : goal.overflow_mul-result
overflow_mul-result c =
    let p = c.requires in
    omega (arith, fits p (c.type_records.ensures _ (c.left_side.ensures.side p.type p.held)))

pub overflow_add-result : goal.overflow_add-result
overflow_add-result c =
    let p = c.requires in
    omega (arith, fits p (c.type_records.ensures _ (c.left_side.ensures.side p.type p.held)))

pub returns-in-Second : goal.returns-in-Second
returns-in-Second c t h =
    rw c.in-Second.is (held_right t (two_of c.requires t h) h c.type_records.result (c.type_records.ensures _ (c.left_side.ensures.side t h)))

pub returns-in-First : goal.returns-in-First
returns-in-First c t h = rw c.in-First.is (held_left t (two_of c.requires t h) h)
