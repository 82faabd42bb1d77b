-- Zeros to the end of a buffer, and a script copied to its front.
use Rattle.std.proofs.Common.{◌≡◌, sym, ap, ◌∙◌, ◌++◌, ℕ, ◌+◌, ◌-◌, ◌*◌, ◌≤◌, arith, length, take, drop, take_at}
use Rattle.std.proofs.Common.{length-take-le, subst as transport}
use Rattle.calculus.specs.Terms.{Term}
use Rattle.rules.specs.Answer.{Bytes}
use Rattle.rules.specs.Limits.{script_width}
use Rattle.rules.specs.Script.{records, encode, term}
use Rattle.rules.specs.Calls.{zeros}
use Rattle.records.proofs.Stands.{start_records}
use Rattle.memory.specs.Splice.{splice}
use Rattle.substitution.proofs.Reading.{term_length}
use Rattle.reduction.specs.Steps.{Startable}
use Rattle.reduction.proofs.Starts.{started}
use Rattle.evaluation.specs.Runs.{Loaded}

-- a term at the front, and zeros to the end
pub cleared : (e : Term) (a a' : Bytes) (k n : ℕ) → a' ≡ take k a ++ zeros (length a - k) → take k a ≡ encode e → k ≤ length a → length a ≡ n
    → a' ≡ encode e ++ zeros (n - length (encode e))
cleared e a a' k n h p l m =
    let z : length a - k ≡ n - length (encode e) = omega (arith, ap length p, length-take-le k a l) in
    h ∙ ap (λ (b : Bytes). b ++ zeros (length a - k)) p ∙ ap (λ (j : ℕ). encode e ++ zeros j) z

-- A whole script, copied to the front of a buffer.
module _ {g t : Bytes} (s a a' : Bytes) (st : Startable g t s) (h : a' ≡ splice 0 s a) where
  pub whole_bytes : script_width * records s ≡ length s
  whole_bytes = omega (arith, ap length (started st).encoded, term_length (term s), start_records s (started st).encoded)

  pub copied_script : take (script_width * records s) a' ≡ s
  copied_script =
      ap (take (script_width * records s)) h
      ∙ take_at s (drop (0 + length s) a) (script_width * records s) (sym whole_bytes)

  pub loaded : (room : ℕ) → length s ≤ room → Loaded g t a' (records s) room
  loaded room l = record {
    start = transport (λ (b : Bytes). Startable g t b) (sym copied_script) st;
    fits = omega (arith, whole_bytes);
  }
