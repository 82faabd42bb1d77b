-- A case that names a type has it in the table.
use Rattle.std.proofs.Common.{◌≡◌, false, sym, ◌∙◌, Bool, ◌<◌}
use Rattle.rules.specs.Answer.{Bytes}
use Rattle.rules.specs.Types.{type_count}
use Rattle.rules.specs.Script.{number, own_at}
use Rattle.inference.specs.Stages.{CaseNode}
use Rattle.inference.proofs.Names.{within, named_slot, owns}
use Rattle.inference.proofs.branch_fits.Goals as goal

-- the number names a type, where the case does not find its own
names : {types s : Bytes} {x : Bool} (v : CaseNode types s) → x ≡ own_at s 0 → x ≡ false → number s 0 < type_count types
names v f e = v.named (sym (owns v) ∙ sym f ∙ e)

pub named-requires : goal.named-requires
named-requires c =
    let v = c.requires.node in
    record { node = v.long; in_table = within _ _ (names v c.finds_own.ensures c.if-finds_own.false) }

pub is_subtype-requires : goal.is_subtype-requires
is_subtype-requires c =
    let v = c.requires.node in
    let p = named_slot v.table (names v c.finds_own.ensures c.if-finds_own.false) c.named.ensures in
    record { first = c.requires.starts; second = record { type = _; held = p.held } }
