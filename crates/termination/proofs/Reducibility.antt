-- Reducible values, by their type: a function is one that takes reducible values to terms that end in reducible values.
use Rattle.std.proofs.Common.{[], ℕ, zero, IsTrue}
use Rattle.calculus.specs.Security.{Property, Indirect, Security}
use Rattle.calculus.specs.Types.{Leaf, Former, sum, product, function, Ty, leaf, node, raise_t, secure_t}
use Rattle.calculus.specs.Subtyping.{Subtype, Direction, below, above, leftward}
use Rattle.calculus.specs.Terms.{first, second, Term, lam, pair, inj, is_value, substitute, raise_value}
use Rattle.calculus.specs.Typing.{HasType, t_sub}
use Rattle.calculus.proofs.Directed.{Directed, d_leaf, d_node, directed_opposite, directed_subtype}
use Rattle.calculus.proofs.SecureTyping.{secure_parts}
use Rattle.termination.proofs.Reaching.{Reaches}

-- e comes to a value in P
pub record ReachesValue (S : Security) (tab : ℕ → Ty) (P : Term → Type 0) (e : Term) : Type 0 where
  pub value : Term
  pub reaches : Reaches S tab e value
  pub stands : IsTrue (is_value value)
  pub holds : P value

pub data PairOf (P Q : Term → Type 0) : Term → Type 0 where
  pair_of : {k : Property} {a b : Term} → P a → Q b → PairOf P Q (pair k a b)

pub data InjectionOf (P Q : Term → Type 0) : Term → Type 0 where
  first_of : {k : Property} {i : ℕ} {a : Term} → P a → InjectionOf P Q (inj first k i a)
  second_of : {k : Property} {i : ℕ} {a : Term} → Q a → InjectionOf P Q (inj second k i a)

-- what may be put for a variable of type t
pub record Argument (S : Security) (tab : ℕ → Ty) (t : Ty) (P : Term → Type 0) (v : Term) : Type 0 where
  pub stands : IsTrue (is_value v)
  pub typed : HasType S tab [] v t
  pub holds : P v

pub data FunctionOf (S : Security) (tab : ℕ → Ty) (s : Ty) (P Q : Term → Type 0) : Term → Type 0 where
  function_of : {k : Property} {i : ℕ} {e : Term} → ((v : Term) → Argument S tab s P v → ReachesValue S tab Q (substitute zero v e))
      → FunctionOf S tab s P Q (lam k i e)

unfoldable pub Reducible : Security → (ℕ → Ty) → Ty → Term → Type 0
Reducible S tab (leaf b k) v = Unit {0}
Reducible S tab (node sum k s t) v = InjectionOf (Reducible S tab s) (Reducible S tab t) v
Reducible S tab (node product k s t) v = PairOf (Reducible S tab s) (Reducible S tab t) v
Reducible S tab (node function k s t) v = FunctionOf S tab s (Reducible S tab s) (Reducible S tab t) v

pub ends_map : {S : Security} {tab : ℕ → Ty} {P Q : Term → Type 0} {e : Term} → ((v : Term) → P v → Q v) → ReachesValue S tab P e → ReachesValue S tab Q e
ends_map f x = record { value = x.value; reaches = x.reaches; stands = x.stands; holds = f _ x.holds }

-- A reducible value is one of every greater type.

abbrev Along : Direction → Type 0 → Type 0 → Type 0
Along below A B = A → B
Along above A B = B → A

pair_map : {P Q P' Q' : Term → Type 0} → ((v : Term) → P v → P' v) → ((v : Term) → Q v → Q' v) → {v : Term} → PairOf P Q v → PairOf P' Q' v
pair_map f g (pair_of p q) = pair_of (f _ p) (g _ q)

injection_map : {P Q P' Q' : Term → Type 0} → ((v : Term) → P v → P' v) → ((v : Term) → Q v → Q' v) → {v : Term} → InjectionOf P Q v
    → InjectionOf P' Q' v
injection_map f g (first_of p) = first_of (f _ p)
injection_map f g (second_of q) = second_of (g _ q)

function_map : {S : Security} {tab : ℕ → Ty} {s s' : Ty} {P Q P' Q' : Term → Type 0} → Subtype S s' s → IsTrue (secure_t S s) → ((v : Term) → P' v → P v)
    → ((v : Term) → Q v → Q' v) → {v : Term} → FunctionOf S tab s P Q v → FunctionOf S tab s' P' Q' v
function_map b h f g (function_of c) =
    function_of λ v x. ends_map g (c v (record { stands = x.stands; typed = t_sub x.typed b h; holds = f v x.holds }))

reducible_node : (S : Security) (tab : ℕ → Ty) (f : Former) (d : Direction) (k l : Property) (s t s' t' : Ty) (v : Term)
    → Directed S (leftward f d) s s'
    → IsTrue (secure_t S s) → IsTrue (secure_t S s')
    → ((u : Term) → Along (leftward f d) (Reducible S tab s u) (Reducible S tab s' u))
    → ((u : Term) → Along d (Reducible S tab t u) (Reducible S tab t' u))
    → Along d (Reducible S tab (node f k s t) v) (Reducible S tab (node f l s' t') v)
unfolding Reducible
reducible_node S tab sum below k l s t s' t' v p h h' f g = λ x. injection_map f g x
reducible_node S tab sum above k l s t s' t' v p h h' f g = λ x. injection_map f g x
reducible_node S tab product below k l s t s' t' v p h h' f g = λ x. pair_map f g x
reducible_node S tab product above k l s t s' t' v p h h' f g = λ x. pair_map f g x
reducible_node S tab function below k l s t s' t' v p h h' f g = λ x. function_map (directed_subtype (directed_opposite p)) h f g x
reducible_node S tab function above k l s t s' t' v p h h' f g = λ x. function_map (directed_subtype p) h' f g x

reducible_leaf : (S : Security) (tab : ℕ → Ty) (d : Direction) (b : Leaf) (k l : Property) (v : Term)
    → Along d (Reducible S tab (leaf b k) v) (Reducible S tab (leaf b l) v)
unfolding Reducible
reducible_leaf S tab below b k l v = λ x. tt
reducible_leaf S tab above b k l v = λ x. tt

reducible_along : {S : Security} (tab : ℕ → Ty) {d : Direction} {s t : Ty} → Directed S d s t → IsTrue (secure_t S s) → IsTrue (secure_t S t) → (v : Term)
    → Along d (Reducible S tab s v) (Reducible S tab t v)
reducible_along {S} tab (d_leaf {d = d} {b = b} h) x y v = reducible_leaf S tab d b _ _ v
reducible_along {S} tab (d_node {d = d} {f = f} h p q) x y v =
    let a = secure_parts S _ _ _ _ x in
    let b = secure_parts S _ _ _ _ y in
    reducible_node S tab f d _ _ _ _ _ _ v p a.left b.left
    (reducible_along tab p a.left b.left) (reducible_along tab q a.right b.right)

pub reducible_above : {S : Security} (tab : ℕ → Ty) {s t : Ty} → Directed S below s t → IsTrue (secure_t S s) → IsTrue (secure_t S t) → (v : Term)
    → Reducible S tab s v → Reducible S tab t v
reducible_above tab p x y v = reducible_along tab p x y v

-- Raising changes labels only.

raised_injection : (S : Security) {P Q : Term → Type 0} {v : Term} (m : Indirect) → InjectionOf P Q v → InjectionOf P Q (raise_value S v m)
unfolding raise_value
raised_injection S m (first_of p) = first_of p
raised_injection S m (second_of q) = second_of q

raised_pair : (S : Security) {P Q : Term → Type 0} {v : Term} (m : Indirect) → PairOf P Q v → PairOf P Q (raise_value S v m)
unfolding raise_value
raised_pair S m (pair_of p q) = pair_of p q

raised_function : {S : Security} {tab : ℕ → Ty} {s : Ty} {P Q : Term → Type 0} {v : Term} (m : Indirect) → FunctionOf S tab s P Q v
    → FunctionOf S tab s P Q (raise_value S v m)
unfolding raise_value
raised_function m (function_of f) = function_of f

pub reducible_raised : (S : Security) (tab : ℕ → Ty) (t : Ty) (m n : Indirect) (v : Term) → Reducible S tab t v
    → Reducible S tab (raise_t S t n) (raise_value S v m)
unfolding Reducible
reducible_raised S tab (leaf b k) m n v x = tt
reducible_raised S tab (node sum k s t) m n v x = raised_injection S m x
reducible_raised S tab (node product k s t) m n v x = raised_pair S m x
reducible_raised S tab (node function k s t) m n v x = raised_function m x
