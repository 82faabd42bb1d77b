-- What questions 15, 36, 16 and 19 ask of each record, said of each node of a term.
use Rattle.std.proofs.Common.{◌≡◌, ◌||◌, nat_lt, ℕ, suc, ◌<◌, IsTrue}
use Rattle.calculus.specs.Security.{Property, Indirect}
use Rattle.calculus.specs.Terms.{plus, less, Term, var, unit, lam, pair, inj, app, proj, case, protect, mu, literal}
use Rattle.calculus.specs.Terms.{reckon}
use Rattle.calculus.specs.Typing.{finds_own}
use Rattle.rules.specs.Answer.{Bytes}
use Rattle.rules.specs.Groups.{rows, properties_of}
use Rattle.rules.specs.Types.{type_count, type_kind}
use Rattle.rules.specs.Script.{sum_of_units}

-- ir ⊑ r and ic ⊑ c, so all four are groups
abbrev pub Secure : Bytes → Property → Type 0
Secure g k = IsTrue ((properties_of g).secure k)

-- both are groups
abbrev pub SecureI : Bytes → Indirect → Type 0
SecureI g m = IsTrue ((properties_of g).secure_i m)

-- a term under n binders
unfoldable pub Formed : Bytes → Bytes → ℕ → Term → Type 0
Formed g t n (var m) = m < n
Formed g t n (unit k) = Secure g k
Formed g t n (lam k i e) = Secure g k × (i < type_count t) × Formed g t (suc n) e
Formed g t n (pair k a b) = Secure g k × Formed g t n a × Formed g t n b
Formed g t n (inj d k i e) = Secure g k × (i < type_count t) × (type_kind t i ≡ 1) × Formed g t n e
Formed g t n (app w f a) = (w < rows g) × Formed g t n f × Formed g t n a
Formed g t n (proj d w e) = (w < rows g) × Formed g t n e
Formed g t n (case w i e a b) = (w < rows g) × IsTrue (finds_own i || nat_lt i (type_count t)) × Formed g t n e × Formed g t (suc n) a × Formed g t (suc n) b
Formed g t n (protect m e) = SecureI g m × Formed g t n e
Formed g t n (mu w i e) = (w < rows g) × (i < type_count t) × (type_kind t i ≡ 3) × Formed g t (suc n) e
Formed g t n (literal k m) = Secure g k × (m < 65536)
Formed g t n (reckon plus w a b) = (w < rows g) × Formed g t n a × Formed g t n b
Formed g t n (reckon (less i) w a b) = (w < rows g) × (i < type_count t) × IsTrue (sum_of_units t i) × Formed g t n a × Formed g t n b
