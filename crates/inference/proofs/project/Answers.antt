-- A type that passes question 20 has two sides, and the named one is read.
use Rattle.std.proofs.Common.{refl, sym}
use Rattle.rules.specs.Answer.{accepted}
use Rattle.rules.specs.Groups.{properties_of}
use Rattle.types.specs.declared.Kind.TheVariants.{Pair}
use Rattle.inference.specs.Sides.{said_side}
use Rattle.inference.specs.Stages.{reads, type_side}
use Rattle.inference.proofs.Rules.{read_two, passed, stopped}
use Rattle.inference.proofs.project.Goals as goal

pub returns-in_err-may_read : goal.returns-in_err-may_read
returns-in_err-may_read c t h =
    stopped (accepted (reads (properties_of c.args.groups.now) t c.args.r.0 (type_side (said_side c.args.side) t))) _ (c.in_err-may_read.ensures t h.held) c.from_residual.ensures.1

pub read_side-requires : goal.read_side-requires
read_side-requires c =
    let p = c.requires.starts in
    let two = read_two (properties_of c.args.groups.now) c.args.place Pair p.type c.args.r.0 refl (sym (c.in_ok-may_read.ensures p.type p.held)) in
    record { sided = record { type = p.type; held = p.held; two = two }; room = c.requires.room }

pub returns : goal.returns
returns c t h = passed (c.in_ok-may_read.ensures t h.held) (c.read_side.ensures t h)
