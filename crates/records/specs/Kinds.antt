-- The kinds of records, by the names that the code has for them.
use Rattle.std.specs.Prelude.{Bool, ◌||◌, ℕ, nat_eq}

abbrev pub variable : ℕ
variable = 0

abbrev pub unit : ℕ
unit = 1

abbrev pub function : ℕ
function = 2

abbrev pub pair : ℕ
pair = 3

abbrev pub first_injection : ℕ
first_injection = 4

abbrev pub second_injection : ℕ
second_injection = 5

abbrev pub application : ℕ
application = 6

abbrev pub first_projection : ℕ
first_projection = 7

abbrev pub second_projection : ℕ
second_projection = 8

abbrev pub case : ℕ
case = 9

abbrev pub protect : ℕ
protect = 10

abbrev pub recursion : ℕ
recursion = 11

abbrev pub literal : ℕ
literal = 12

abbrev pub sum : ℕ
sum = 13

abbrev pub less : ℕ
less = 14

-- Is it the kind of an injection, the first or the second?
abbrev pub is_injection : ℕ → Bool
is_injection kind = nat_eq kind first_injection || nat_eq kind second_injection
