-- The pairs, run.
use Rattle.std.proofs.Common.{zero, IsTrue, suc, ◌≡◌, ℕ, refl, false, true≢false, sym, ◌∙◌, arith}
use Rattle.std.proofs.Math.Bool.{false≢true}
use Rattle.calculus.specs.Security.{Property}
use Rattle.calculus.specs.Types.{Former, Ty, node, secure_t, size_t, fits}
use Rattle.noninterference.specs.Pairs.{TypesOfPairs}
use Rattle.calculus.specs.Groups.{properties}
use Rattle.calculus.specs.Terms.{first, second, Term, unit, lam, inj, literal, is_value, substitute, raise_value}
use Rattle.calculus.specs.Numbers.{reckon_result}
use Rattle.calculus.specs.Reduction.{Contracts, c_app, c_mu, c_reckon, c_protect, hole, plug}
use Rattle.noninterference.specs.Noninterference.{EndsInValue}
use Rattle.calculus.specs.Runs.{runs_end, runs_on}
use Rattle.noninterference.specs.Hidden.{Observer, dark, Alike, both_dark, functions, applications, recursions}
use Rattle.noninterference.specs.Hidden.{literals, reckonings, pairs, variables, protects, units}
use Rattle.noninterference.specs.Observers.{reader_at, who_trusts}
use Rattle.noninterference.specs.Pairs.{two, types, open_to_all, made_by_1, asked, forgetful, unrolled_as_0}
use Rattle.noninterference.specs.Pairs.{ReadersAloneHideNothing, ArgumentsHideNothing, RecursionsHideNothing}
use Rattle.noninterference.specs.Pairs.{SecretsHide, OthersHide, ReadersDoNotHeed, WhoTrustsDoesNotHeed}

stand : (v : Term) → IsTrue (is_value v) → EndsInValue (properties two) types v v
stand v h = record { steps = 0; runs = runs_end; ended = h }

go : {e e' v : Term} → Contracts (properties two) types e e' → EndsInValue (properties two) types e' v → EndsInValue (properties two) types e v
unfolding plug
go c x = record {
  steps = suc x.steps;
  runs = runs_on (record { context = hole; redex = _; contractum = _; contracts = c; before = refl; after = refl }) x.runs;
  ended = x.ended;
}

-- Literals that aren't hidden are apart by their numbers, and so is what has them in a part that counts.
other_number : {O : Observer} {k l : Property} {m n : ℕ} → O.hidden k ≡ false → (m ≡ n → ⊥) → Alike O (literal k m) (literal l n) → ⊥
unfolding dark
other_number h d (both_dark x y) = true≢false (sym x ∙ h)
other_number h d (literals e) = d refl

other_body : {O : Observer} {k l : Property} {i j m n : ℕ} → O.hidden k ≡ false → (m ≡ n → ⊥) → Alike O (lam k i (literal k m)) (lam l j (literal l n)) → ⊥
unfolding dark
other_body h d (both_dark x y) = true≢false (sym x ∙ h)
other_body h d (functions e f a) = other_number h d a

other_answer : Alike (reader_at two 0) (inj first open_to_all 0 (unit open_to_all)) (inj second open_to_all 0 (unit open_to_all)) → ⊥
unfolding dark
other_answer (both_dark x y) = false≢true x

asked_apart : Alike (reader_at two 0) (asked 1) (asked 2) → ⊥
unfolding dark
asked_apart (both_dark x y) = false≢true x
asked_apart (reckonings g a b) = other_number refl (λ e. absurd (omega arith)) a

forgetful_apart : Alike (reader_at two 0) (forgetful 1) (forgetful 2) → ⊥
unfolding dark
forgetful_apart (both_dark x y) = false≢true x
forgetful_apart (applications g a b) = other_body refl (λ e. absurd (omega arith)) a

unrolled_apart : Alike (who_trusts two 1) (unrolled_as_0 1) (unrolled_as_0 2) → ⊥
unfolding dark
unrolled_apart (both_dark x y) = false≢true x
unrolled_apart (recursions g a) = other_body refl (λ e. absurd (omega arith)) a

pub readers_alone_hide_nothing : ReadersAloneHideNothing
unfolding ReadersAloneHideNothing reckon_result is_value
readers_alone_hide_nothing = record {
  first = inj first open_to_all 0 (unit open_to_all);
  second = inj second open_to_all 0 (unit open_to_all);
  first_ends = go (c_reckon refl refl) (stand _ refl);
  second_ends = go (c_reckon refl refl) (stand _ refl);
  apart = other_answer;
  not_alike = asked_apart;
}

pub arguments_hide_nothing : ArgumentsHideNothing
unfolding ArgumentsHideNothing substitute raise_value is_value
arguments_hide_nothing = record {
  first = literal open_to_all 1;
  second = literal open_to_all 2;
  first_ends = go (c_app refl refl) (go (c_protect refl) (stand _ refl));
  second_ends = go (c_app refl refl) (go (c_protect refl) (stand _ refl));
  apart = other_number refl (λ e. absurd (omega arith));
  not_alike = forgetful_apart;
}

pub recursions_hide_nothing : RecursionsHideNothing
unfolding RecursionsHideNothing substitute is_value
recursions_hide_nothing = record {
  first = lam made_by_1 0 (literal made_by_1 1);
  second = lam made_by_1 0 (literal made_by_1 2);
  first_ends = go (c_mu refl) (stand _ refl);
  second_ends = go (c_mu refl) (stand _ refl);
  apart = other_body refl (λ e. absurd (omega arith));
  not_alike = unrolled_apart;
}

pub secrets_hide : SecretsHide
unfolding SecretsHide dark
secrets_hide m n = pairs refl (both_dark refl refl) (both_dark refl refl)

pub others_hide : OthersHide
unfolding OthersHide dark
others_hide m n = pairs refl (both_dark refl refl) (both_dark refl refl)

pub readers_do_not_heed : ReadersDoNotHeed
unfolding ReadersDoNotHeed
readers_do_not_heed = applications refl (functions refl refl variables) (protects refl (units refl))

pub who_trusts_does_not_heed : WhoTrustsDoesNotHeed
unfolding WhoTrustsDoesNotHeed
who_trusts_does_not_heed = functions refl refl (protects refl (units refl))

pub types_of_pairs : TypesOfPairs
unfolding TypesOfPairs secure_t size_t
types_of_pairs = record { secure = secure; small = small; left = left }
  where
    secure : (i : ℕ) → IsTrue (secure_t (properties two) (types i))
    secure zero = refl
    secure (suc zero) = refl
    secure (suc (suc zero)) = refl
    secure (suc (suc (suc zero))) = refl
    secure (suc (suc (suc (suc i)))) = refl

    small : (i : ℕ) → IsTrue (fits (types i))
    small zero = refl
    small (suc zero) = refl
    small (suc (suc zero)) = refl
    small (suc (suc (suc zero))) = refl
    small (suc (suc (suc (suc i)))) = refl

    left : {f : Former} {k : Property} {s t : Ty} (i : ℕ) → types i ≡ node f k s t → types (suc i) ≡ s
    left zero e = cc
    left (suc zero) e = absurd cc
    left (suc (suc zero)) e = absurd cc
    left (suc (suc (suc zero))) e = cc
    left (suc (suc (suc (suc i)))) e = absurd cc
