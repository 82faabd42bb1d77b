-- The rules' answer to a comparison.
use Rattle.std.specs.Prelude.{if◌then◌else◌, Option, Some, None, Result, Ok, Err}
use Rattle.rules.specs.Answer.{Answer, accepted, refused}
use Rattle.rules.specs.Comparison as rules
use Rattle.answer.specs.declared.Refusal.{Refusal}
use Rattle.answer.specs.Numbers.{question_number}
use Rattle.subtyping.specs.declared.Related.{Related}
use Rattle.types_table.specs.declared.Comparison.{Comparison}
use Rattle.types_table.specs.declared.Comparison.TheVariants.{Neither, Below, Same}

-- a comparison, as the rules have it
abbrev pub said_comparison : Comparison → rules.Comparison
said_comparison Neither = rules.neither
said_comparison Below = rules.strictly_below
said_comparison Same = rules.same

-- the call's answer, as the rules have it
abbrev pub comparison_answer : Result Comparison Refusal → Answer rules.Comparison
comparison_answer (Ok c) = accepted (said_comparison c)
comparison_answer (Err e) = refused (question_number e.question) e.place

-- what a walk found
abbrev pub comparison_of : Option Related → Comparison
comparison_of (Some r) = if r.same then Same else Below
comparison_of None = Neither
