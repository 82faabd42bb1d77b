-- The scripts of the profile: those without a recursion (manual, 7.6).
use Rattle.std.specs.Prelude.{Bool, true, false, ◌&&◌}
use Rattle.calculus.specs.Terms.{Term, var, unit, lam, pair, inj, app, proj, case, protect, mu, literal, reckon}

-- does no recursion stand in the term, also not where it won't run?
unfoldable pub recursion_free : Term → Bool
recursion_free (var n) = true
recursion_free (unit k) = true
recursion_free (lam k i e) = recursion_free e
recursion_free (pair k a b) = recursion_free a && recursion_free b
recursion_free (inj d k i e) = recursion_free e
recursion_free (app w f a) = recursion_free f && recursion_free a
recursion_free (proj d w e) = recursion_free e
recursion_free (case w i e a b) = recursion_free e && (recursion_free a && recursion_free b)
recursion_free (protect m e) = recursion_free e
recursion_free (mu w i e) = false
recursion_free (literal k n) = true
recursion_free (reckon o w a b) = recursion_free a && recursion_free b
