use Rattle.std.proofs.Common.{◌*◌, ◌-◌, ap, ◌∙◌, arith, take, take_at}
use Rattle.rules.specs.Limits.{script_width}
use Rattle.rules.specs.Script.{encode}
use Rattle.records.proofs.Stands.{inside}
use Rattle.substitution.proofs.Reading.{term_length}
use Rattle.contraction.proofs.term_bytes.Goals as goal

pub part-requires : goal.part-requires
part-requires c =
    let e = c.end_of.ensures _ c.requires.at in record { order = omega arith; there = omega (arith, inside _ _ _ c.requires.at) }

pub returns : goal.returns
returns c e a =
    let n = script_width * (c.end_of.result - c.args.i) in
    c.part.ensures ∙ ap (take n) a.stands ∙ take_at (encode e) a.rest n (omega (arith, c.end_of.ensures e a, term_length e))
