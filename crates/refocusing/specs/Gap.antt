-- A term in two buffers: what stands before the gap is the front of a, what stands after it the end of b.
use Rattle.std.specs.Prelude.{◌≡◌, ◌++◌, ◌*◌, ◌≤◌, length, take, drop}
use Rattle.calculus.specs.Reduction.{Context}
use Rattle.rules.specs.Answer.{Bytes}
use Rattle.rules.specs.Limits.{script_width}
use Rattle.redex.specs.Contexts.{before, after}
use Rattle.refocusing.specs.declared.Point.{Point}

-- Of the term in the hole of E, the bytes x are passed and the bytes y come next.
pub record Gap (E : Context) (x y : Bytes) (p : Point) (a b : Bytes) : Type 0 where
  pub front : take (script_width * p.left) a ≡ before E ++ x
  pub back : drop (script_width * p.right) b ≡ y ++ after E
  pub inside_a : script_width * p.left ≤ length a
  pub inside_b : script_width * p.right ≤ length b
