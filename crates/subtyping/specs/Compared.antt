-- What a walk over two types answers.
use Rattle.std.specs.Prelude.{if◌then◌else◌, Option, Some, None}
use Rattle.calculus.specs.Security.{Security}
use Rattle.calculus.specs.Types.{Ty, size_t}
use Rattle.calculus.specs.Subtyping.{Direction, subtype}
use Rattle.rules.specs.Comparison.{equal_types}
use Rattle.subtyping.specs.declared.Related.{Related}

-- where they are related: are they the same, and the number of records walked, which is that of both
abbrev pub relation_of : Security → Direction → Ty → Ty → Option Related
relation_of S d s t = if subtype S d s t then Some (record { same = equal_types s t; records = size_t s }) else None
