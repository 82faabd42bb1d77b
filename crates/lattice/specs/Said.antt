-- The code's properties and influences as the calculus has them.
use Rattle.calculus.specs.Security as security
use Rattle.lattice.specs.declared.Property.{Property}
use Rattle.lattice.specs.declared.Influence.{Influence}

-- a property, as the calculus has it
abbrev pub said_property : Property → security.Property
said_property k = record { r = k.r.0; ir = k.ir.0; c = k.c.0; ic = k.ic.0 }

-- an influence, as the calculus has it
abbrev pub said_influence : Influence → security.Indirect
said_influence m = record { ir = m.ir.0; ic = m.ic.0 }
