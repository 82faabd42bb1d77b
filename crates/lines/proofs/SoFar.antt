-- The lines of a sheet's first records, and those that follow.
use Rattle.std.proofs.Common.{◌≡◌, ◌<◌, [], ◌++◌, length, refl, sym, ap, ◌∙◌, append_assoc, append-nil}
use Rattle.rules.specs.Answer.{Bytes}
use Rattle.rules.specs.Limits.{sheet_width}
use Rattle.rules.specs.Report.{sheet_lines}
use Rattle.memory.specs.Written.{Room, Written}
use Rattle.memory.specs.declared.Writer.{Writer}
use Rattle.memory.proofs.Placed.{nothing, then, room_first, room_next}
use Rattle.lines.proofs.Lines.{line, no_line, one_line}

-- the lines so far, and that the others follow: those of what is left of the sheet
pub record SoFar (w s left : Bytes) (x y : Writer) : Type 0 where
  pub lines : Bytes
  pub splits : sheet_lines w s ≡ lines ++ sheet_lines w left
  pub wrote : Written lines x y

pub begins : {w s left : Bytes} (x : Writer) → left ≡ s → Room (sheet_lines w s) x → SoFar w s left x x
begins {w} {s} x e l = rw e (record { lines = []; splits = refl; wrote = nothing x (room_first [] (sheet_lines w s) x l) })

module _ {w s left : Bytes} {x y : Writer} (f : SoFar w s left x y) where
  pub all : length left < sheet_width → Written (sheet_lines w s) x y
  all l = rw (f.splits, no_line w left l, append-nil f.lines) f.wrote

  -- a record and what is left after it
  module _ (b rest : Bytes) (e : left ≡ b ++ rest) (l : length b ≡ sheet_width) where
    next_line : sheet_lines w left ≡ line w b ++ sheet_lines w rest
    next_line = ap (sheet_lines w) e ∙ one_line w b rest l

    pub room : Room (sheet_lines w s) x → Room (line w b) y
    room r = room_first (line w b) (sheet_lines w rest) y (rw next_line at (room_next (sheet_lines w left) f.wrote (rw f.splits at r)))

    pub goes_on : {z : Writer} → Written (line w b) y z → SoFar w s rest x z
    goes_on g =
        record {
          lines = f.lines ++ line w b;
          splits = f.splits ∙ ap (λ (o : Bytes). f.lines ++ o) next_line ∙ sym (append_assoc f.lines (line w b) (sheet_lines w rest));
          wrote = then f.wrote g;
        }
