-- The gap between the records that are passed and those that come next: what stands on both sides of it, and how it
-- moves.
use Rattle.std.proofs.Common.{◌≡◌, ap, [], ◌++◌, append_assoc, append-nil, ℕ, ◌+◌, ◌*◌, ◌≤◌, arith, length, take, drop}
use Rattle.std.proofs.Common.{length-append, length-drop, length-take-le, take-append-drop, take_at, drop_at, take-take}
use Rattle.calculus.specs.Terms.{Term}
use Rattle.calculus.specs.Reduction.{Context, plug}
use Rattle.rules.specs.Answer.{Bytes, Octets}
use Rattle.rules.specs.Limits.{script_width}
use Rattle.rules.specs.Script.{encode, size}
use Rattle.rules.proofs.Octets.{octets_append, octets_drop, octets_take}
use Rattle.memory.specs.Splice.{splice}
use Rattle.memory.proofs.Laws.{length_splice}
use Rattle.records.specs.Place.{At}
use Rattle.redex.specs.Contexts.{before, after, offset}
use Rattle.redex.proofs.Plugs.{plug_bytes, before_length}
use Rattle.substitution.proofs.Reading.{term_length}
use Rattle.refocusing.specs.declared.Point.{Point}
use Rattle.refocusing.specs.Gap.{Gap}
use Rattle.std.proofs.lemmas.Grind.{common_steps}

-- What is put at a place stands there, after what stood before it.
pub put_there : (at : ℕ) (m w : Bytes) → at ≤ length w → take (at + length m) (splice at m w) ≡ take at w ++ m
put_there at m w l = rw (← append_assoc) (take_at (take at w ++ m) _ _ (grind (arith, common_steps)))

put_from : (at : ℕ) (m w : Bytes) → at ≤ length w → drop at (splice at m w) ≡ m ++ drop (at + length m) w
put_from at m w l = drop_at (take at w) _ at (length-take-le at w l)

module _ {E : Context} {x y : Bytes} {p : Point} {a b : Bytes} (g : Gap E x y p a b) where
  pub left_size : script_width * p.left ≡ script_width * offset E + length x
  left_size = omega (arith, g.inside_a, simp length-append at (ap length g.front), length-take-le (script_width * p.left) a g.inside_a, before_length E)

  pub right_size : length b ≡ script_width * p.right + (length y + length (after E))
  right_size = omega (arith, g.inside_b, simp (length-append, length-drop) at (ap length g.back))

  -- the bytes on both sides are those of the whole term
  pub whole_bytes : (e : Term) → x ++ y ≡ encode e → take (script_width * p.left) a ++ drop (script_width * p.right) b ≡ encode (plug E e)
  whole_bytes e h = rw (g.front, g.back, plug_bytes E e, ← h) (simp append_assoc)

  pub whole_octets : (e : Term) → x ++ y ≡ encode e → Octets a → Octets b → Octets (encode (plug E e))
  whole_octets e h oa ob =
      rw (← whole_bytes e h) (octets_append (take (script_width * p.left) a) (drop (script_width * p.right) b) (octets_take (script_width * p.left) a oa) (octets_drop (script_width * p.right) b ob))

  -- what is passed stands at the record after those before the hole
  pub at_left : (e : Term) (rest : Bytes) → x ≡ encode e ++ rest → At a (offset E) e
  at_left e rest h =
      let behind = drop (script_width * p.left) a in
      let whole : a ≡ before E ++ (encode e ++ (rest ++ behind)) = grind (arith, take-append-drop (script_width * p.left) a, g.front, h, append_assoc) in
      record { rest = rest ++ behind; stands = cc (whole, drop_at (before E) (encode e ++ (rest ++ behind)) (script_width * offset E) (before_length E)) }

-- What is passed in the hole is given up for a term, in front of what comes next,
pub put_ahead : {E : Context} {x : Bytes} {p q : Point} {a b b' : Bytes} → Gap E x [] p a b → (c : Term) → q.left ≡ offset E → q.right + size c ≡ p.right
    → b' ≡ splice (script_width * q.right) (encode c) b → Gap E [] (encode c) q a b'
put_ahead {E} {x} {p} {q} {a} {b} g c l r w =
    let s = left_size g in
    let k : script_width * q.right + length (encode c) ≡ script_width * p.right = omega (arith, r, term_length c) in
    let f : script_width * q.right ≤ length b = omega (arith, k, g.inside_b) in
    record {
      front = rw (l, append-nil, ← take-take (script_width * offset E) (script_width * p.left) a (omega (arith, s)), g.front) (take_at (before E) x _ (before_length E));
      back = rw (w, put_from (script_width * q.right) (encode c) b f, k, g.back);
      inside_a = omega (arith, l, s, g.inside_a);
      inside_b = omega (arith, f, ap length w, length_splice (script_width * q.right) (encode c) b (omega (arith, k, g.inside_b)));
    }

-- or for one that is no longer, in its place
pub put_back : {E : Context} {x : Bytes} {p q : Point} {a a' b : Bytes} → Gap E x [] p a b → (c : Term) → q.left ≡ offset E + size c → q.left ≤ p.left
    → q.right ≡ p.right → a' ≡ splice (script_width * offset E) (encode c) a → Gap E (encode c) [] q a' b
put_back {E} {x} {p} {q} {a} {a'} {b} g c l s r w =
    let z = left_size g in
    let k : script_width * q.left ≡ script_width * offset E + length (encode c) = omega (arith, l, term_length c) in
    let f : script_width * offset E ≤ length a = omega (arith, z, g.inside_a) in
    record {
      front = rw (k, w, put_there (script_width * offset E) (encode c) a f, ← take-take (script_width * offset E) (script_width * p.left) a (omega (arith, z)), g.front, take_at (before E) x _ (before_length E));
      back = rw r g.back;
      inside_a = omega (arith, s, g.inside_a, ap length w, length_splice (script_width * offset E) (encode c) a (omega (arith, k, s, g.inside_a)));
      inside_b = omega (arith, r, g.inside_b);
    }
