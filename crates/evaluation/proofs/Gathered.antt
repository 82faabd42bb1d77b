-- A run in two buffers of one length: how it begins, and what it leaves.
use Rattle.std.proofs.Common.{◌≡◌, refl, sym, ap, ◌∙◌, [], ◌++◌, append_assoc, append-nil, ℕ, ◌+◌, ◌-◌, ◌*◌, ◌≤◌, arith}
use Rattle.std.proofs.Common.{length, take, drop, length-append, length-drop, length-take-le, take_at, drop_at, Some}
use Rattle.std.proofs.Common.{Result, subst as transport}
use Rattle.std.proofs.Math.ListN.{drop_of_length-le}
use Rattle.calculus.specs.Terms.{Term}
use Rattle.calculus.specs.Reduction.{hole, plug}
use Rattle.rules.specs.Answer.{Bytes}
use Rattle.rules.specs.Limits.{script_width}
use Rattle.rules.specs.Groups.{properties_of}
use Rattle.rules.specs.Types.{type_at}
use Rattle.rules.specs.Script.{records, encode, size}
use Rattle.rules.specs.Run.{Ran, run}
use Rattle.memory.specs.Splice.{splice}
use Rattle.substitution.proofs.Reading.{term_length}
use Rattle.redex.specs.Contexts.{before, after, level}
use Rattle.reduction.proofs.Starts.{started}
use Rattle.reduction.specs.Steps.{Startable}
use Rattle.reduction.specs.declared.Stop.TheVariants.{Value}
use Rattle.refocusing.specs.declared.Point.{Point}
use Rattle.refocusing.specs.declared.Ended.{Ended}
use Rattle.refocusing.specs.Focus.{Stands, Standing, focus_value, Settled, settled_at_value, run_ended, EndedRun}
use Rattle.refocusing.proofs.Stages.{Settles}
use Rattle.refocusing.proofs.Runs.{begun, run_of_value, ended}
use Rattle.evaluation.specs.Runs.{front_term, Loaded, Halted, run_end}

-- a whole term that is settled is the value that its run ends at
settled_ends : {g t : Bytes} {room budget : ℕ} {whole : Term} {m : ℕ} {a b : Bytes} {r : Result Point Ended} → Settled g t room budget whole hole m a b r
    → EndedRun g t room budget whole a b (run_end r)
unfolding plug
settled_ends (settled_at_value (focus_value v h s) l) = ended s (append-nil (encode v)) (Some Value) (run_of_value s.reached h)
settled_ends (run_ended x) = x

-- the term at the front of a, put at the end of b
module _ {g t a : Bytes} {n : ℕ} (q : Loaded g t a n (length a)) (b : Bytes) {b' : Bytes} (same : length b ≡ length a) (whole : script_width * records b ≡ length b)
    (right : ℕ) (ends : right ≡ records b - n) (kept : length b' ≡ length b) (put : b' ≡ splice (script_width * right) (take (script_width * n) a) b) (budget : ℕ) where
  pub begins : Stands g t (length b') budget (front_term a n) hole (front_term a n) [] (encode (front_term a n)) (record { left = 0; right = right; steps = 0 }) a b'
  unfolding plug before after
  begins =
      let s = take (script_width * n) a in
      let w : encode (front_term a n) ≡ s = (started q.start).encoded in
      let f = q.fits in
      let l : length s ≡ script_width * n = length-take-le (script_width * n) a f in
      let at = script_width * right in
      let z : drop (at + length s) b ≡ [] = drop_of_length-le b {i = at + length s} (omega arith) in
      record {
        reached = begun budget (front_term a n) (transport (λ x. Startable g t x) (sym w) q.start) (omega (arith, term_length (front_term a n), ap length w));
        gap = record {
          front = refl;
          back = ap (drop at) put ∙ drop_at (take at b) (s ++ drop (at + length s) b) at (length-take-le at b (omega arith))
              ∙ ap (λ x. s ++ x) z ∙ ap (λ x. x ++ []) (sym w);
          inside_a = omega arith;
          inside_b = omega arith;
        };
      }

  pub begins_so : Standing g t budget 0 (record { left = 0; right = right; steps = 0 }) a b'
  unfolding level
  begins_so = record { whole = front_term a n; context = hole; term = front_term a n; stands = begins; around_is = refl; same_length = omega arith }

  pub run_ends : {x y : Bytes} {r : Result Point Ended} {z : Ended} → Settles g t budget 0 (record { left = 0; right = right; steps = 0 }) a b' x y r → z ≡ run_end r
      → EndedRun g t (length a) budget (front_term a n) x y z
  unfolding level
  run_ends {x} {y} {r} f h =
      transport (λ z. EndedRun g t (length a) budget (front_term a n) x y z) (sym h)
      (transport (λ m. EndedRun g t m budget (front_term a n) x y (run_end r)) (kept ∙ same) (settled_ends (f (front_term a n) hole (front_term a n) begins refl)))

-- what is left, gathered in a
module _ {g t : Bytes} {room budget : ℕ} {whole : Term} {a b : Bytes} {x : Ended} (z : EndedRun g t room budget whole a b x) (same : length a ≡ room) where
  counted : script_width * x.point.left + (length b - script_width * x.point.right) ≡ script_width * size z.last
  counted =
      let i = z.inside_a in
      omega (
        arith,
        ap length z.holds,
        length-append (take (script_width * x.point.left) a) (drop (script_width * x.point.right) b),
        length-take-le (script_width * x.point.left) a i,
        length-drop (script_width * x.point.right) b,
        term_length z.last,
      )

  pub gathers : (script_width * x.point.right ≤ length b) × (script_width * x.point.left + (length b - script_width * x.point.right) ≤ length a)
  gathers = (z.inside_b, omega (arith, counted, z.fits, same))

  pub gathered : (n : ℕ) {a' : Bytes} → script_width * records b ≡ length b → n ≡ x.point.left + (records b - x.point.right)
      → a' ≡ splice (script_width * x.point.left) (drop (script_width * x.point.right) b) a
      → Halted (run (properties_of g) (type_at t) room budget whole) room (record { stop = x.stop; steps = x.point.steps; records = n }) a'
  gathered n {a'} w k h =
      let f = take (script_width * x.point.left) a in
      let r = drop (script_width * x.point.right) b in
      let i = z.inside_b in
      let m : n ≡ size z.last = omega (arith, counted) in
      let l : length (f ++ r) ≡ script_width * n = omega (arith, ap length z.holds, term_length z.last) in
      record {
        told = record { end = sym (ap (λ (y : Ran). y.end) z.is); steps = omega (arith, ap (λ (y : Ran). y.steps) z.is); records = m ∙ sym (ap (λ (y : Ran). size y.last) z.is) };
        holds = ap (take (script_width * n)) (h ∙ sym (append_assoc f r (drop (script_width * x.point.left + length r) a)))
            ∙ take_at (f ++ r) (drop (script_width * x.point.left + length r) a) (script_width * n) l
            ∙ z.holds ∙ sym (ap (λ (y : Ran). encode y.last) z.is);
        fits = omega (arith, m, z.fits);
      }
