-- What the rules ask of a type for each kind that its first record may have.
use Rattle.std.specs.Prelude.{Bool}
use Rattle.calculus.specs.Types.{sum, product, function, Ty}
use Rattle.calculus.specs.Numbers.{is_unit}
use Rattle.rules.specs.Typing.{has_form, is_number}
use Rattle.types.specs.declared.Kind.{Kind}
use Rattle.types.specs.declared.Kind.TheVariants.{Unit, Sum, Pair, Function, Number}

-- is the type of this kind? Of a unit and a number too.
abbrev pub has_kind : Kind → Ty → Bool
has_kind Unit t = is_unit t
has_kind Sum t = has_form sum t
has_kind Pair t = has_form product t
has_kind Function t = has_form function t
has_kind Number t = is_number t
