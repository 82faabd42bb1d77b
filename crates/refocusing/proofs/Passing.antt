-- How far the term in focus is passed. The two buffers hold the whole term, and so what stands on either side of the
-- gap is told by the place of the gap alone: to go into an operand or out of it moves nothing.
use Rattle.std.proofs.Common.{◌≡◌, sym, ap, subst, ◌∙◌, ◌++◌, append_assoc, ℕ, ◌+◌, ◌-◌, ◌*◌, ◌≤◌, arith, length, take}
use Rattle.std.proofs.Common.{drop, length-append, length-take, length-drop, length-take-le, take_at, drop_at}
use Rattle.std.proofs.Common.{drop-drop, take-append-drop}
use Rattle.calculus.specs.Terms.{Term}
use Rattle.calculus.specs.Reduction.{Context, plug}
use Rattle.calculus.proofs.Contexts.{compose, plug_compose}
use Rattle.rules.specs.Answer.{Bytes}
use Rattle.rules.specs.Limits.{script_width, depth_limit}
use Rattle.rules.specs.Script.{encode, size, depth}
use Rattle.rules.proofs.PrefixLaws.{encode_length}
use Rattle.rules.proofs.Scripts.{term_encode}
use Rattle.rules.proofs.TermCode.{term_code}
use Rattle.records.specs.Place.{At}
use Rattle.memory.specs.Splice.{splice}
use Rattle.redex.specs.Contexts.{before, after, offset, level}
use Rattle.redex.proofs.Plugs.{plug_bytes, plug_size, plug_depth, before_length, after_length, compose_offset}
use Rattle.redex.proofs.Forms.{Position}
use Rattle.reduction.proofs.Starts.{started}
use Rattle.refocusing.specs.Focus.{RunReaches, Stands}
use Rattle.refocusing.specs.Moves.{PassesOver}
use Rattle.refocusing.specs.declared.Point.{Point}
use Rattle.refocusing.proofs.Gaps.{put_there, left_size, whole_bytes}

-- A run of `whole` has come to e in E, and n records of e are passed.
pub record Passed (g t : Bytes) (room budget : ℕ) (whole : Term) (E : Context) (e : Term) (n : ℕ) (p : Point) (a b : Bytes) : Type 0 where
  pub reached : RunReaches g t room budget whole (plug E e) p.steps
  pub holds : take (script_width * p.left) a ++ drop (script_width * p.right) b ≡ encode (plug E e)
  pub left_is : p.left ≡ offset E + n
  pub inside_a : script_width * p.left ≤ length a
  pub inside_b : script_width * p.right ≤ length b

module _ {g t : Bytes} {room budget : ℕ} {whole : Term} {E : Context} {e : Term} {p : Point} {a b : Bytes} where
  pub passed : (n : ℕ) {x y : Bytes} → Stands g t room budget whole E e x y p a b → x ++ y ≡ encode e → length x ≡ script_width * n
      → Passed g t room budget whole E e n p a b
  passed n {x} {y} s w l = record {
    reached = s.reached;
    holds = whole_bytes s.gap e w;
    left_is = omega (arith, left_size s.gap);
    inside_a = s.gap.inside_a;
    inside_b = s.gap.inside_b;
  }

  pub stands : {n : ℕ} (x y : Bytes) → Passed g t room budget whole E e n p a b → x ++ y ≡ encode e → length x ≡ script_width * n
      → Stands g t room budget whole E e x y p a b
  stands {n} x y q w l =
      let L : Bytes = take (script_width * p.left) a in
      let n : length L ≡ script_width * p.left = length-take-le (script_width * p.left) a q.inside_a in
      let m : length (before E ++ x) ≡ script_width * p.left = omega (arith, length-append (before E) x, before_length E, q.left_is) in
      let h : L ++ drop (script_width * p.right) b ≡ (before E ++ x) ++ (y ++ after E) = rw (q.holds, plug_bytes E e, ← w) (simp append_assoc) in
      record {
        reached = q.reached;
        gap = record {
          front = cc (h, take_at L (drop (script_width * p.right) b) (script_width * p.left) n, take_at (before E ++ x) (y ++ after E) (script_width * p.left) m);
          back = cc (h, drop_at L (drop (script_width * p.right) b) (script_width * p.left) n, drop_at (before E ++ x) (y ++ after E) (script_width * p.left) m);
          inside_a = q.inside_a;
          inside_b = q.inside_b;
        };
      }

  -- what is not passed yet has room on both sides
  pub roomy : {n : ℕ} → Passed g t room budget whole E e n p a b → (k : ℕ) → n + k ≤ size e
      → (script_width * (p.right + k) ≤ length b) × (script_width * (p.left + k) ≤ room)
  roomy q k l =
      let m : script_width * p.left + (length b - script_width * p.right) ≡ script_width * size (plug E e) =
      omega (arith, simp (length-append, length-take, length-drop) at (ap length q.holds), q.inside_a, encode_length term_code (plug E e)) in (
        omega (arith, m, q.left_is, q.inside_b, plug_size E e, after_length E),
        omega (arith, q.left_is, plug_size E e, after_length E, q.reached.fits),
      )

  -- the term that comes next
  pub next_at : {n : ℕ} {z : Term} → Passed g t room budget whole E e n p a b → At (encode (plug E e)) p.left z → At b p.right z
  next_at q z = record { rest = z.rest; stands = cc (q.holds, z.stands, drop_at (take (script_width * p.left) a) (drop (script_width * p.right) b) (script_width * p.left) (length-take-le (script_width * p.left) a q.inside_a)) }

  -- k records more
  pub went_on : {n : ℕ} {a' : Bytes} → Passed g t room budget whole E e n p a b → (k : ℕ) → n + k ≤ size e → (p' : Point)
      → PassesOver k (take (script_width * k) (drop (script_width * p.right) b)) p p' a a'
      → Passed g t room budget whole E e (n + k) p' a' b
  went_on {n} {a'} q k l p' h =
      let m = take (script_width * k) (drop (script_width * p.right) b) in
      let f = take (script_width * p.left) a in
      let r = roomy q k l in
      let c : length m ≡ script_width * k = length-take-le (script_width * k) (drop (script_width * p.right) b) (omega (arith, r.0, length-drop (script_width * p.right) b)) in
      let d : length f ≡ script_width * p.left = length-take-le (script_width * p.left) a q.inside_a in
      let o : script_width * p'.left ≡ script_width * p.left + length m = omega (arith, c, h.left) in
      let u : take (script_width * p'.left) a' ≡ f ++ m = rw (h.front, o) (put_there (script_width * p.left) m a q.inside_a) in
      let j : script_width * p'.right ≡ script_width * p.right + script_width * k = omega (arith, h.right) in
      record {
        reached = rw h.steps q.reached;
        holds = rw (u, append_assoc, j, ← drop-drop (script_width * k) (script_width * p.right) b, take-append-drop) q.holds;
        left_is = omega (arith, h.left, q.left_is);
        inside_a = omega (arith, length-take (script_width * p'.left) a', ap length u, length-append f m, c, d, h.left);
        inside_b = omega (arith, h.right, r.0);
      }

  -- into an operand
  pub entered : {n m : ℕ} {z : Term} → Passed g t room budget whole E e n p a b → (q : Position e z n m)
      → Passed g t room budget whole (compose E q.context) z 0 p a b
  entered {z = z} s q =
      let w : plug E e ≡ plug (compose E q.context) z = ap (plug E) q.whole ∙ sym (plug_compose E q.context z) in
      record {
        reached = subst (λ x. RunReaches g t room budget whole x p.steps) w s.reached;
        holds = s.holds ∙ ap encode w;
        left_is = omega (arith, s.left_is, q.from, compose_offset E q.context);
        inside_a = s.inside_a;
        inside_b = s.inside_b;
      }

  -- and out of it
  pub came_out : {n m j : ℕ} {z : Term} (v : Term) (q : Position e z n m) → Passed g t room budget whole (compose E q.context) v j p a b
      → Passed g t room budget whole E (plug q.context v) (n + j) p a b
  came_out v q s =
      let w : plug (compose E q.context) v ≡ plug E (plug q.context v) = plug_compose E q.context v in
      record {
        reached = subst (λ x. RunReaches g t room budget whole x p.steps) w s.reached;
        holds = s.holds ∙ ap encode w;
        left_is = omega (arith, s.left_is, q.from, compose_offset E q.context);
        inside_a = s.inside_a;
        inside_b = s.inside_b;
      }

  -- the term in focus is not too deep
  pub shallow : {n : ℕ} → Passed g t room budget whole E e n p a b → level E + depth e ≤ depth_limit
  shallow q = omega (arith, (started q.reached.start).fit.shallow, ap depth (term_encode (plug E e)), plug_depth E e)
