use Rattle.std.proofs.Common.{ℕ, sym, ap, subst, ◌∙◌}
use Rattle.rules.specs.Answer.{Answer}
use Rattle.rules.specs.Preview.{Preview}
use Rattle.packing.specs.Packed.{packed_number, preview_lower, PreviewCounted}
use Rattle.packing.proofs.Exported.{preview_counted, preview_read}
use Rattle.wigneld.proofs.Previews.{any_steps}
use Rattle.wigneld.proofs.wigneld_preview.Goals as goal

pub preview_number-requires : goal.preview_number-requires
preview_number-requires c =
    let a = c.args in
    subst PreviewCounted (sym c.preview.ensures) (preview_counted a.groups.now a.types.now a.script.now a.written_length 0)

pub returns : goal.returns
returns c =
    let a = c.args in
    let h = λ (steps : ℕ). c.preview_number.ensures ∙ ap (λ (p : Answer Preview). packed_number (preview_lower p)) c.preview.ensures
    ∙ any_steps a.groups.now a.types.now a.script.now a.written_length 0 steps in
    record {
      answer = h;
      read_off = λ steps. preview_read a.groups.now a.types.now a.script.now a.written_length steps _ (h steps);
    }
