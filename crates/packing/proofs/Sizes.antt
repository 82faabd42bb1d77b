-- What a call gives is small: a found type has at most 63 records, a term that a step or a run comes to at most 8,192,
-- and so has a sheet. Assumes nothing.
use Rattle.std.proofs.Common.{◌≡◌, refl, Bool, true, false, cond, ◌||◌, List, [], ◌∷◌, ◌++◌, ℕ, zero, suc, ◌+◌, ◌*◌}
use Rattle.std.proofs.Common.{◌≤◌, arith, leb-true, ltb-false, length, get_or, length-append}
use Rattle.std.proofs.Math.Option.{Option, none, some}
use Rattle.calculus.specs.Security.{Property, Reader, Indirect, Security}
use Rattle.calculus.specs.Types.{one, number, Former, sum, product, function, Ty, leaf, node, top, raise_t, size_t}
use Rattle.calculus.specs.Types.{fits, type_limit}
use Rattle.calculus.specs.Terms.{Side, first, second, choose, Operation, plus, less, Term, var, unit, lam, pair, inj}
use Rattle.calculus.specs.Terms.{app, proj, case, protect, mu, literal, reckon, is_value}
use Rattle.calculus.specs.Reduction.{Outcome, value, moved, denied, stuck, step}
use Rattle.calculus.specs.Subtyping.{below}
use Rattle.calculus.specs.Common.{nearest_type}
use Rattle.calculus.specs.Typing.{finds_own}
use Rattle.calculus.specs.Numbers.{of_both}
use Rattle.calculus.proofs.Raising.{raise_size}
use Rattle.calculus.proofs.Common.{common_size}
use Rattle.rules.specs.Answer.{Bytes, Answer, accepted, refused, ◌>>=◌, ◌>>◌, ask}
use Rattle.rules.specs.Limits.{sheet_width, script_limit}
use Rattle.rules.specs.Groups.{leq}
use Rattle.rules.specs.Types.{no_type}
use Rattle.rules.specs.Script.{size}
use Rattle.rules.specs.Typing.{left, right, q20, q20_number, q21, q22, q23, q24, found_or, number_result, typing}
use Rattle.rules.specs.Step.{End, at_value, moves, may_not, wrong_kind, too_big, exceeds, end_of_outcome, step_in}
use Rattle.rules.specs.Run.{Ran, run}
use Rattle.rules.specs.Sheet.{shown_record, sheet}

-- ---- found types

pub data Small : Answer Ty → Type 0 where
  small_yes : {s : Ty} → size_t s ≤ type_limit → Small (accepted s)
  small_no : {q p : ℕ} → Small (refused q p)

bind : (m : Answer Ty) (f : Ty → Answer Ty) → Small m → ((s : Ty) → size_t s ≤ type_limit → Small (f s)) → Small (◌>>=◌ m f)
bind (accepted s) f (small_yes l) k = k s l
bind (refused q p) f small_no k = small_no

then : (a : Answer (Unit {0})) (n : Answer Ty) → Small n → Small (◌>>◌ a n)
then (accepted tt) n x = x
then (refused q p) n x = small_no

asked_size : (p : ℕ) (s : Ty) → Small (◌>>◌ (q24 p s) (accepted s))
asked_size p s = go (fits s) refl
  where
    go : (b : Bool) → fits s ≡ b → Small (◌>>◌ (ask 24 p b) (accepted s))
    go true e = small_yes (leb-true (size_t s) type_limit e)
    go false e = small_no

left_size : (s : Ty) → size_t s ≤ type_limit → size_t (left s) ≤ type_limit
unfolding size_t
left_size (leaf b k) l = omega arith
left_size (node f k s t) l = omega arith

right_size : (s : Ty) → size_t s ≤ type_limit → size_t (right s) ≤ type_limit
unfolding size_t
right_size (leaf b k) l = omega arith
right_size (node f k s t) l = omega arith

side_size : (d : Side) (s : Ty) → size_t s ≤ type_limit → size_t (choose d (left s) (right s)) ≤ type_limit
side_size first s l = left_size s l
side_size second s l = right_size s l

sides_size : (f : Former) (k : Property) (s : Ty) → size_t s ≤ type_limit → size_t (node f k (left s) (right s)) ≤ type_limit
unfolding size_t
sides_size f k (leaf b k') l = omega arith
sides_size f k (node f' k' s t) l = omega arith

raised : (S : Security) (s : Ty) (m : Indirect) → size_t s ≤ type_limit → size_t (raise_t S s m) ≤ type_limit
raised S s m l = omega (arith, raise_size S s m)

-- a number's type has one record, and that of less than the records of the type that it names
reckoned_size : (tab : ℕ → Ty) → ((i : ℕ) → size_t (tab i) ≤ type_limit) → (o : Operation) (k : Property) → size_t (number_result tab o k) ≤ type_limit
unfolding size_t
reckoned_size tab T plus k = omega arith
reckoned_size tab T (less i) k = sides_size sum k (tab i) (T i)

-- every type of a context
abbrev Smalls : List Ty → Type 0
Smalls Γ = (i : ℕ) → size_t (get_or Γ i no_type) ≤ type_limit

no_types : Smalls []
unfolding size_t
no_types i = omega arith

more : (s : Ty) (Γ : List Ty) → size_t s ≤ type_limit → Smalls Γ → Smalls (s ∷ Γ)
more s Γ l h zero = l
more s Γ l h (suc i) = h i

-- the rules, over what their operands answer
module _ (S : Security) (p : ℕ) where
  inj_small : (d : Side) (k : Property) (a : Ty) (m : Answer Ty) → size_t a ≤ type_limit → Small m
      → Small (◌>>=◌ m (λ s. ◌>>◌ (q22 S p s (choose d (left a) (right a))) (accepted (node sum k (left a) (right a)))))
  inj_small d k a m l x = bind m _ x (λ s h. then (q22 S p s (choose d (left a) (right a))) _ (small_yes {s = node sum k (left a) (right a)} (sides_size sum k a l)))

  app_small : (w : Reader) (m m' : Answer Ty) → Small m → Small m'
      → Small (◌>>=◌ m (λ s. ◌>>◌ (q20 p function s) (◌>>◌ (q21 S p s w)
      (◌>>=◌ m' (λ s'. ◌>>◌ (q22 S p s' (left s)) (accepted (raise_t S (right s) (S.influence (top s) w))))))))
  app_small w m m' x y =
      bind m _ x (λ s h. then (q20 p function s) _ (then (q21 S p s w) _ (bind m' _ y
      (λ s' h'. then (q22 S p s' (left s)) _ (small_yes {s = raise_t S (right s) (S.influence (top s) w)} (raised S (right s) (S.influence (top s) w) (right_size s h)))))))

  proj_small : (d : Side) (w : Reader) (m : Answer Ty) → Small m
      → Small (◌>>=◌ m (λ s. ◌>>◌ (q20 p product s) (◌>>◌ (q21 S p s w) (accepted (raise_t S (choose d (left s) (right s)) (S.influence (top s) w))))))
  proj_small d w m x =
      bind m _ x (λ s h. then (q20 p product s) _ (then (q21 S p s w) _
      (small_yes {s = raise_t S (choose d (left s) (right s)) (S.influence (top s) w)} (raised S (choose d (left s) (right s)) (S.influence (top s) w) (side_size d s h)))))

  -- a found result type has as many records as the first branch's
  result_small : (own : Bool) (a u v : Ty) → size_t a ≤ type_limit → size_t u ≤ type_limit
      → Small (cond own (found_or p (nearest_type S below u v)) (accepted a))
  result_small true a u v l h = go (nearest_type S below u v) refl
    where
      go : (c : Option Ty) → nearest_type S below u v ≡ c → Small (found_or p c)
      go none e = small_no
      go (some r) e = small_yes {s = r} (omega (arith, common_size S below u v e))
  result_small false a u v l h = small_yes l

  case_small : (w : Reader) (own : Bool) (a : Ty) (m : Answer Ty) (m' m'' : Ty → Answer Ty) → size_t a ≤ type_limit → Small m
      → ((s : Ty) → size_t s ≤ type_limit → Small (m' s)) → ((s : Ty) → size_t s ≤ type_limit → Small (m'' s))
      → Small (◌>>=◌ m (λ s. ◌>>◌ (q20 p sum s) (◌>>◌ (q21 S p s w)
      (◌>>=◌ (m' (left s)) (λ u. ◌>>◌ (cond own (accepted tt) (q22 S p u a)) (◌>>=◌ (m'' (right s)) (λ v. ◌>>◌ (cond own (accepted tt) (q22 S p v a))
      (◌>>=◌ (cond own (found_or p (nearest_type S below u v)) (accepted a)) (λ r. accepted (raise_t S r (S.influence (top s) w)))))))))))
  case_small w own a m m' m'' l x y z =
      bind m _ x (λ s h. then (q20 p sum s) _ (then (q21 S p s w) _
      (bind (m' (left s)) _ (y (left s) (left_size s h)) (λ u h'. then (cond own (accepted tt) (q22 S p u a)) _
      (bind (m'' (right s)) _ (z (right s) (right_size s h)) (λ v h''. then (cond own (accepted tt) (q22 S p v a)) _
      (bind (cond own (found_or p (nearest_type S below u v)) (accepted a)) _ (result_small own a u v l h')
      (λ r k. small_yes {s = raise_t S r (S.influence (top s) w)} (raised S r (S.influence (top s) w) k)))))))))

  mu_small : (w : Reader) (a : Ty) (m : Answer Ty) → size_t a ≤ type_limit → Small m
      → Small (◌>>◌ (q21 S p a w) (◌>>◌ (q23 S p a w) (◌>>=◌ m (λ s. ◌>>◌ (q22 S p s a) (accepted a)))))
  mu_small w a m l x = then (q21 S p a w) _ (then (q23 S p a w) _ (bind m _ x (λ s h. then (q22 S p s a) _ (small_yes {s = a} l))))

  reckon_small : (tab : ℕ → Ty) → ((i : ℕ) → size_t (tab i) ≤ type_limit) → (o : Operation) (w : Reader) (m m' : Answer Ty) → Small m → Small m'
      → Small (◌>>=◌ m (λ s. ◌>>◌ (q20_number p s) (◌>>◌ (q21 S p s w)
      (◌>>=◌ m' (λ t. ◌>>◌ (q20_number p t) (◌>>◌ (q21 S p t w) (accepted (number_result tab o (of_both S w (top s) (top t))))))))))
  reckon_small tab T o w m m' x y =
      bind m _ x (λ s h. then (q20_number p s) _ (then (q21 S p s w) _ (bind m' _ y
      (λ t l. then (q20_number p t) _ (then (q21 S p t w) _
      (small_yes {s = number_result tab o (of_both S w (top s) (top t))} (reckoned_size tab T o (of_both S w (top s) (top t)))))))))

pub typing_small : (S : Security) (tab : ℕ → Ty) (T : (i : ℕ) → size_t (tab i) ≤ type_limit) (Γ : List Ty) → Smalls Γ → (p : ℕ) (e : Term) → Small (typing S tab Γ p e)
unfolding typing size_t
typing_small S tab T Γ h p (var n) = small_yes {s = get_or Γ n no_type} (h n)
typing_small S tab T Γ h p (unit k) = small_yes {s = leaf one k} (omega arith)
typing_small S tab T Γ h p (lam k i e) =
    bind (typing S tab (tab i ∷ Γ) (1 + p) e) _ (typing_small S tab T (tab i ∷ Γ) (more (tab i) Γ (T i) h) (1 + p) e) (λ s l. asked_size p (node function k (tab i) s))
typing_small S tab T Γ h p (pair k a b) =
    bind (typing S tab Γ (1 + p) a) _ (typing_small S tab T Γ h (1 + p) a)
    (λ s l. bind (typing S tab Γ (1 + p + size a) b) _ (typing_small S tab T Γ h (1 + p + size a) b) (λ t m. asked_size p (node product k s t)))
typing_small S tab T Γ h p (inj d k i e) = inj_small S p d k (tab i) (typing S tab Γ (1 + p) e) (T i) (typing_small S tab T Γ h (1 + p) e)
typing_small S tab T Γ h p (app w f a) =
    app_small S p w (typing S tab Γ (1 + p) f) (typing S tab Γ (1 + p + size f) a) (typing_small S tab T Γ h (1 + p) f) (typing_small S tab T Γ h (1 + p + size f) a)
typing_small S tab T Γ h p (proj d w e) = proj_small S p d w (typing S tab Γ (1 + p) e) (typing_small S tab T Γ h (1 + p) e)
typing_small S tab T Γ h p (case w i e a b) =
    case_small S p w (finds_own i) (tab i) (typing S tab Γ (1 + p) e) (λ s. typing S tab (s ∷ Γ) (1 + p + size e) a) (λ s. typing S tab (s ∷ Γ) (1 + p + size e + size a) b) (T i)
    (typing_small S tab T Γ h (1 + p) e) (λ s l. typing_small S tab T (s ∷ Γ) (more s Γ l h) (1 + p + size e) a)
    (λ s l. typing_small S tab T (s ∷ Γ) (more s Γ l h) (1 + p + size e + size a) b)
typing_small S tab T Γ h p (protect m e) =
    bind (typing S tab Γ (1 + p) e) _ (typing_small S tab T Γ h (1 + p) e) (λ s l. small_yes {s = raise_t S s m} (raised S s m l))
typing_small S tab T Γ h p (mu w i e) =
    mu_small S p (S.caller (top (tab i)) w) (tab i) (typing S tab (tab i ∷ Γ) (1 + p) e) (T i) (typing_small S tab T (tab i ∷ Γ) (more (tab i) Γ (T i) h) (1 + p) e)
typing_small S tab T Γ h p (literal k n) = small_yes {s = leaf number k} (omega arith)
typing_small S tab T Γ h p (reckon o w a b) =
    reckon_small S p tab T o w (typing S tab Γ (1 + p) a) (typing S tab Γ (1 + p + size a) b) (typing_small S tab T Γ h (1 + p) a) (typing_small S tab T Γ h (1 + p + size a) b)

pub no_binders : Smalls []
no_binders = no_types

-- ---- terms of steps and runs

pub data EndBounded : End → Type 0 where
  within_move : {e : Term} → size e ≤ script_limit → EndBounded (moves e)
  within_value : EndBounded at_value
  within_may_not : EndBounded may_not
  within_wrong : EndBounded wrong_kind
  within_big : EndBounded too_big

first_false : (a b : Bool) → a || b ≡ false → a ≡ false
first_false false b e = refl
first_false true b e = e

limited_within : (room : ℕ) (o : Outcome) → EndBounded (end_of_outcome room o)
unfolding exceeds
limited_within room value = within_value
limited_within room (moved e) = go (exceeds room e) refl
  where
    go : (b : Bool) → exceeds room e ≡ b → EndBounded (cond b too_big (moves e))
    go true h = within_big
    go false h = within_move (ltb-false script_limit (size e) (first_false _ _ h))
limited_within room denied = within_may_not
limited_within room stuck = within_wrong

pub step_within : (S : Security) (tab : ℕ → Ty) (room : ℕ) (e : Term) → EndBounded (step_in S tab room e)
unfolding step_in
step_within S tab room e = limited_within room (step S tab e)

-- a run's end is at most 4, and its last term is as small
pub record RunBounds (x : Ran) : Type 0 where
  pub end : x.end ≤ 4
  pub last : size x.last ≤ script_limit

value_or_spent : (b : Bool) → cond b 0 1 ≤ 4
value_or_spent true = omega arith
value_or_spent false = omega arith

module _ (S : Security) (tab : ℕ → Ty) (room : ℕ) where
  pub run_within : (budget : ℕ) (e : Term) → size e ≤ script_limit → RunBounds (run S tab room budget e)
  unfolding run
  run_within zero e l = record { end = value_or_spent (is_value e); last = l }
  run_within (suc budget) e l = go (step_in S tab room e) refl (step_within S tab room e) (λ e' m. run_within budget e' m)
    where
      go : (x : End) → step_in S tab room e ≡ x → EndBounded x → ((e' : Term) → size e' ≤ script_limit → RunBounds (run S tab room budget e'))
          → RunBounds (run S tab room (suc budget) e)
      go at_value h w ih = rw (h, run) (record { end = omega arith; last = l })
      go (moves e') h (within_move m) ih = let x = ih e' m in rw (h, run) (record { end = x.end; last = x.last })
      go may_not h w ih = rw (h, run) (record { end = omega arith; last = l })
      go wrong_kind h w ih = rw (h, run) (record { end = omega arith; last = l })
      go too_big h w ih = rw (h, run) (record { end = omega arith; last = l })

-- ---- sheets

-- an object's record, alone or with the sheets of its parts behind it
own_record : (told : Bool) (kind r ir n : ℕ) → length (cond told (shown_record kind r ir n) (shown_record 5 0 0 0)) ≤ sheet_width
own_record true kind r ir n = omega arith
own_record false kind r ir n = omega arith

with_parts : (told : Bool) (kind r ir : ℕ) (parts : Bytes) (n : ℕ) → length parts ≤ sheet_width * n
    → length (cond told (shown_record kind r ir 0) (shown_record 5 0 0 0) ++ cond told parts []) ≤ sheet_width * (1 + n)
with_parts true kind r ir parts n l = omega arith
with_parts false kind r ir parts n l = omega arith

-- no more sheet records than records
pub sheet_length : (t : Bytes) (g : ℕ) (e : Term) → length (sheet t g e) ≤ sheet_width * size e
unfolding sheet size
sheet_length t g (unit k) = own_record (leq t k.r g) 0 k.r k.ir 0
sheet_length t g (lam k i e) = omega (arith, own_record (leq t k.r g) 4 k.r k.ir 0)
sheet_length t g (pair k a b) =
    with_parts (leq t k.r g) 3 k.r k.ir (sheet t g a ++ sheet t g b) (size a + size b)
    (omega (arith, length-append (sheet t g a) (sheet t g b), sheet_length t g a, sheet_length t g b))
sheet_length t g (inj d k i e) = with_parts (leq t k.r g) (choose d 1 2) k.r k.ir (sheet t g e) (size e) (sheet_length t g e)
sheet_length t g (literal k n) = own_record (leq t k.r g) 6 k.r k.ir n
sheet_length t g _ = omega arith
