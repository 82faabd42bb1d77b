-- What an old office record holds beside its kind and groups: a variable its own name and number 0, a function or a
-- recursion the name that it binds, a case a name for each branch (manual, 7.9).
use Rattle.std.specs.Prelude.{if◌then◌else◌, ℕ, suc, ◌-◌, nat_eq}
use Rattle.rules.specs.Office.{has_first_name, has_second_name}

-- its number, where m is the script's
abbrev pub number_in : ℕ → ℕ → ℕ
number_in kind m = if nat_eq kind 0 then 0 else m

-- its first name, where n binders are outside of it: variable m's binder has m binders inside it
abbrev pub first_in : ℕ → ℕ → ℕ → ℕ
first_in kind m n = if nat_eq kind 0 then n - suc m else (if has_first_name kind then n else 0)

-- and its second
abbrev pub second_in : ℕ → ℕ → ℕ
second_in kind n = if has_second_name kind then n else 0
