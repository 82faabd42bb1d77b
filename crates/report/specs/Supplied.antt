-- A file as the program hands it on: its bytes, if there is one.
use Rattle.std.specs.Prelude.{Option, Some, None}
use Rattle.std.specs.Borrow.{Bor}
use Rattle.std.proofs.Math.Option as math
use Rattle.rules.specs.Answer.{Bytes}

-- the bytes of a file, or none
abbrev pub file : Option (Bor Bytes) → math.Option Bytes
file None = math.none
file (Some bytes) = math.some bytes.now
