use Rattle.std.proofs.Common.{ℕ, ap, ◌∙◌, arith, w64}
use Rattle.std.specs.Int.{from_le_bytes}
use Rattle.packing.specs.Packed.{steps_in, steps_of}
use Rattle.packing.proofs.Steps.{number_read, read_again, kept}
use Rattle.packing.proofs.steps_of.Goals as goal

pub returns : goal.returns
returns c =
    let h = c.from_le_bytes.ensures ∙ ap (from_le_bytes w64) c.put_fitting.ensures ∙ number_read c.args.steps.now in
    let s = c.args.steps.now in
    record {
      value = h;
      read_again = λ n old l m e. h ∙ ap steps_of e ∙ read_again n old l m;
      kept = ap (λ (n : ℕ). steps_in n s) h ∙ kept s (λ k. omega (arith, c.type_inv.steps k));
    }
