-- Erasure on types and terms: every label is group 0.
use Rattle.std.proofs.Common.{zero}
use Rattle.calculus.specs.Security.{Indirect, Property}
use Rattle.calculus.specs.Relabelling.{Labels, relabel, relabel_t}
use Rattle.calculus.specs.Types.{Ty}
use Rattle.calculus.specs.Terms.{Term}
use Rattle.calculus.specs.Reduction.{Outcome}
use Rattle.calculus.proofs.RelabelledOutcomes.{relabel_o}

abbrev pub public : Property
public = record { r = zero; ir = zero; c = zero; ic = zero }

abbrev pub no_influence : Indirect
no_influence = record { ir = zero; ic = zero }

abbrev pub erasure_labels : Labels
erasure_labels = record { property = λ k. public; reader = λ w. zero; indirect = λ m. no_influence; recursion = λ i w. zero }

abbrev pub erase_t : Ty → Ty
erase_t t = relabel_t erasure_labels t

abbrev pub erase : Term → Term
erase e = relabel erasure_labels e

abbrev pub erase_o : Outcome → Outcome
erase_o x = relabel_o erasure_labels x
