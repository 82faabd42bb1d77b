-- A type that is one record is that record.
use Rattle.std.proofs.Common.{◌≡◌, ap, sym, arith, length}
use Rattle.calculus.specs.Types.{size_t}
use Rattle.types.proofs.Parts.{type_length}
use Rattle.inference.proofs.Regions.{written}
use Rattle.inference.proofs.one_record.Goals as goal

pub returns : goal.returns
returns c t e =
    let n : 1 ≡ size_t t = omega (arith, ap length e, type_length t) in
    written n (omega arith) (sym e) c.put.ensures
