-- The numbers of the questions.
use Rattle.std.specs.Prelude.{ℕ}
use Rattle.answer.specs.declared.Question.{Question}
use Rattle.answer.specs.declared.Question.TheVariants.{BufferLengths, GroupsLength, BitsInTable, LowestBit, Transitive}
use Rattle.answer.specs.declared.Question.TheVariants.{Joins, LowestGroup, TypesLength, TypeFields, TypeReaders}
use Rattle.answer.specs.declared.Question.TheVariants.{WholeTypes, TypeLengths, ScriptLength, Fields, Groups}
use Rattle.answer.specs.declared.Question.TheVariants.{NamedTypes, OneTerm, Depth, Scope, Former, Reader, Wanted}
use Rattle.answer.specs.declared.Question.TheVariants.{Recursion, FoundLength, Given, Value, Room, CommonType}
use Rattle.answer.specs.declared.Question.TheVariants.{WordsLength, Letters, DistinctWords, Preview, Creators, Applied}
use Rattle.answer.specs.declared.Question.TheVariants.{Entry, Profile, Lists, ReplacedOnce, AmendedType, OfficeLength}
use Rattle.answer.specs.declared.Question.TheVariants.{UnusedNames, BoundNames}

-- a question's number
abbrev pub question_number : Question → ℕ
question_number BufferLengths = 1
question_number GroupsLength = 2
question_number BitsInTable = 3
question_number LowestBit = 4
question_number Transitive = 5
question_number Joins = 6
question_number LowestGroup = 7
question_number TypesLength = 8
question_number TypeFields = 9
question_number TypeReaders = 10
question_number WholeTypes = 11
question_number TypeLengths = 12
question_number ScriptLength = 13
question_number Fields = 14
question_number Groups = 15
question_number NamedTypes = 16
question_number OneTerm = 17
question_number Depth = 18
question_number Scope = 19
question_number Former = 20
question_number Reader = 21
question_number Wanted = 22
question_number Recursion = 23
question_number FoundLength = 24
question_number Given = 25
question_number Value = 26
question_number Room = 27
question_number OfficeLength = 28
question_number UnusedNames = 29
question_number BoundNames = 30
question_number CommonType = 31
question_number WordsLength = 32
question_number Letters = 33
question_number DistinctWords = 34
question_number Preview = 35
question_number Creators = 36
question_number Applied = 37
question_number Entry = 38
question_number Profile = 39
question_number Lists = 40
question_number ReplacedOnce = 41
question_number AmendedType = 42
