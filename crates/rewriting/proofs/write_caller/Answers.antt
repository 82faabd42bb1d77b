use Rattle.std.proofs.Common.{sym, ap, ◌∙◌, ◌*◌, ◌+◌, arith}
use Rattle.rules.specs.Answer.{byte}
use Rattle.rewriting.proofs.Callers.{there, names_type, tested, left_as_is, set_in}
use Rattle.rewriting.proofs.write_caller.Goals as goal

pub returns-then-not-recursion_of_type : goal.returns-then-not-recursion_of_type
returns-then-not-recursion_of_type c =
    let a = c.args in
    left_as_is a.type_width a.width a.types.now a.script.now a.i
    (tested a.type_width a.width a.types.now a.script.now a.i c.kind.ensures c.number-named.ensures c.recursion_of_type.ensures ∙ c.if-not-recursion_of_type.true)

pub reader-caller-requires : goal.reader-caller-requires
reader-caller-requires c =
    let a = c.args in record {
      wide = c.requires.types_wide;
      there = there a.type_width _ c.number-named.result (omega (arith, c.requires.types_wide))
          (names_type a.type_width a.types.now c.kind.result c.number-named.result (sym c.recursion_of_type.ensures ∙ c.if-not-recursion_of_type.false));
    }

pub returns : goal.returns
returns c =
    let a = c.args in
    set_in a.type_width a.width a.types.now a.script.now a.i c.reader-caller.result.0
    (tested a.type_width a.width a.types.now a.script.now a.i c.kind.ensures c.number-named.ensures c.recursion_of_type.ensures ∙ c.if-not-recursion_of_type.false)
    (c.reader-caller.ensures ∙ ap (λ n. byte a.types.now (a.type_width * n + 1)) c.number-named.ensures)
