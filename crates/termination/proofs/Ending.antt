-- A lemma a rule: where its operands end in reducible values, so does the whole.
use Rattle.std.proofs.Common.{◌≡◌, refl, [], ℕ, zero, IsTrue}
use Rattle.std.proofs.Math.Bool.{false≢true}
use Rattle.std.proofs.Math.Option.{Option, none, some}
use Rattle.calculus.specs.Security.{Property, Reader, Indirect, Security, Laws}
use Rattle.calculus.specs.Types.{one, number, sum, product, function, Ty, leaf, node, raise_t, secure_t, exists}
use Rattle.calculus.specs.Subtyping.{below}
use Rattle.calculus.specs.Terms.{Side, first, second, choose, Operation, Term, unit, lam, pair, inj, app, proj, case}
use Rattle.calculus.specs.Terms.{protect, literal, reckon, is_value, substitute, raise_value}
use Rattle.calculus.specs.Numbers.{Literal, literal_of, of_both, less_side, reckon_result, Reckons, a_number, a_flag}
use Rattle.calculus.specs.Reduction.{c_app, c_proj, c_case, c_reckon, c_protect, hole, app_left, app_right, in_proj}
use Rattle.calculus.specs.Reduction.{in_inj, pair_left, pair_right, in_protect, in_case, reckon_left, reckon_right}
use Rattle.calculus.specs.Reduction.{plug}
use Rattle.calculus.specs.Typing.{HasType, t_app, t_proj, t_reckon, Table}
use Rattle.calculus.proofs.Sides.{choose_both}
use Rattle.calculus.proofs.Booleans.{both, and_left, and_right}
use Rattle.calculus.proofs.Directed.{Directed, d_leaf, d_node}
use Rattle.calculus.proofs.Inferred.{Inferred, i_lam, i_pair, i_inj, i_app, i_proj, i_case, i_literal, i_reckon}
use Rattle.calculus.proofs.SecureTyping.{sc_empty, secure_parts, side_secure, table_parts, typed_secure}
use Rattle.calculus.proofs.Soundness.{subsumption}
use Rattle.calculus.proofs.Completeness.{n_empty, typed_inferred}
use Rattle.calculus.proofs.TypedContexts.{closed_typed}
use Rattle.calculus.proofs.Progress.{canonical_numbers}
use Rattle.calculus.proofs.Numbers.{literal_some}
use Rattle.calculus.proofs.Values.{raised_stands, reckoned_stands}
use Rattle.termination.proofs.Reaching.{Reaches, here, reaches_then, reaches_plug, reaches_contraction, reaches_typed}
use Rattle.termination.proofs.Reducibility.{ReachesValue, PairOf, pair_of, InjectionOf, first_of, second_of, Argument}
use Rattle.termination.proofs.Reducibility.{FunctionOf, function_of, Reducible, reducible_raised}

-- What a typed redex says of its parts.
module _ {S : Security} {tab : ℕ → Ty} where
  app_permitted : {w : Reader} {k : Property} {i : ℕ} {e v : Term} {t : Ty} → Inferred S tab [] (app w (lam k i e) v) t → IsTrue (S.permits k w)
  app_permitted (i_app (i_lam h p f) q s m) = m

  proj_permitted : {d : Side} {w : Reader} {k : Property} {a b : Term} {t : Ty} → Inferred S tab [] (proj d w (pair k a b)) t → IsTrue (S.permits k w)
  proj_permitted (i_proj (i_pair h p q f) m) = m

  case_permitted : {d : Side} {w : Reader} {k : Property} {i j : ℕ} {v a b : Term} {t : Ty} → Inferred S tab [] (case w j (inj d k i v) a b) t
      → IsTrue (S.permits k w)
  case_permitted (i_case (i_inj h e p s) m q q' r) = m

  reckon_permitted : {o : Operation} {w : Reader} {k l : Property} {m n : ℕ} {t : Ty} → Inferred S tab [] (reckon o w (literal k m) (literal l n)) t
      → IsTrue (S.permits k w) × IsTrue (S.permits l w)
  reckon_permitted (i_reckon (i_literal h) m (i_literal h') n x) = (m, n)

  -- the operand of an injection that has a sum type
  injected : {d : Side} {k l : Property} {i : ℕ} {v : Term} {s t u : Ty} → Laws S → Table S tab → IsTrue (secure_t S (node sum k s t))
      → Inferred S tab [] (inj d l i v) u → Directed S below u (node sum k s t) → HasType S tab [] v (choose d s t)
  injected L T g (i_inj {d = d} {i = i} h e p z) (d_node _ a b) =
      subsumption (subsumption (closed_typed L T p) z (side_secure d (table_parts T i e)))
      (choose_both (Directed S below) d a b) (side_secure d (secure_parts S _ _ _ _ g))

  -- a value of a number's type is a literal
  number_value : {P : Type 0} {v : Term} {k : Property} → Laws S → Table S tab → HasType S tab [] v (leaf number k) → IsTrue (is_value v)
      → ((x : Literal) → v ≡ literal x.own x.value → P) → P
  number_value {P} {v} {k} L T h x f = let y = typed_inferred L T h n_empty in go y.inferred y.below
    where
      found : (z : Option Literal) → literal_of v ≡ z → IsTrue (exists z) → P
      found none e y = absurd (false≢true y)
      found (some z) e y = literal_some v e (f z)

      go : {s : Ty} → Inferred S tab [] v s → Directed S below s (leaf number k) → P
      go p (d_leaf h) = found (literal_of v) refl (canonical_numbers x p)

module _ {S : Security} {tab : ℕ → Ty} (L : Laws S) (T : Table S tab) where
  abbrev pub EndsAt : Ty → Term → Type 0
  EndsAt t e = ReachesValue S tab (Reducible S tab t) e

  abbrev pub ArgumentAt : Ty → Term → Type 0
  ArgumentAt t v = Argument S tab t (Reducible S tab t) v

  pub value_ends : (t : Ty) (v : Term) → IsTrue (is_value v) → Reducible S tab t v → EndsAt t v
  value_ends t v x r = record { value = v; reaches = here; stands = x; holds = r }

  ends_after : (t : Ty) {a b : Term} → Reaches S tab a b → EndsAt t b → EndsAt t a
  ends_after t p x = record { value = x.value; reaches = reaches_then p x.reaches; stands = x.stands; holds = x.holds }

  inferred : {P : Type 0} {e : Term} {t : Ty} → HasType S tab [] e t → ((s : Ty) → Inferred S tab [] e s → Directed S below s t → P) → P
  inferred h k = let x = typed_inferred L T h n_empty in k x.least x.inferred x.below

  -- A lemma a rule, over the ends of its operands.

  pub protect_ends : (t : Ty) (m n : Indirect) (e : Term) → EndsAt t e → EndsAt (raise_t S t n) (protect m e)
  unfolding plug
  protect_ends t m n e x = record {
    value = raise_value S x.value m;
    reaches = reaches_then (reaches_plug (in_protect m hole) x.reaches) (reaches_contraction (c_protect x.stands));
    stands = raised_stands S x.value m x.stands;
    holds = reducible_raised S tab t m n x.value x.holds;
  }

  pub pair_ends : (k : Property) (s t : Ty) (a b : Term) → EndsAt s a → EndsAt t b → EndsAt (node product k s t) (pair k a b)
  unfolding Reducible plug is_value
  pair_ends k s t a b x y =
      ends_after (node product k s t)
      (reaches_then (reaches_plug (pair_left k hole b) x.reaches) (reaches_plug (pair_right k x.value x.stands hole) y.reaches))
      (value_ends (node product k s t) (pair k x.value y.value) (both x.stands y.stands) (pair_of x.holds y.holds))

  injection_of : (d : Side) (k l : Property) (i : ℕ) (s t : Ty) (v : Term) → Reducible S tab (choose d s t) v
      → Reducible S tab (node sum k s t) (inj d l i v)
  unfolding Reducible
  injection_of first k l i s t v x = first_of x
  injection_of second k l i s t v x = second_of x

  pub inj_ends : (d : Side) (k : Property) (i : ℕ) (s t : Ty) (e : Term) → EndsAt (choose d s t) e → EndsAt (node sum k s t) (inj d k i e)
  unfolding plug is_value
  inj_ends d k i s t e x =
      ends_after (node sum k s t) (reaches_plug (in_inj d k i hole) x.reaches)
      (value_ends (node sum k s t) (inj d k i x.value) x.stands (injection_of d k k i s t x.value x.holds))

  apply_ends : {s u : Ty} (t : Ty) {f a : Term} (w : Reader) (n : Indirect) → HasType S tab [] (app w f a) u → ArgumentAt s a
      → FunctionOf S tab s (Reducible S tab s) (Reducible S tab t) f → EndsAt (raise_t S t n) (app w f a)
  apply_ends t {a = a} w n h x (function_of {k = k} {e = e} g) =
      inferred h λ v p z.
      ends_after (raise_t S t n) (reaches_contraction (c_app x.stands (app_permitted p))) (protect_ends t _ n (substitute zero a e) (g a x))

  pub app_ends : (k : Property) (w : Reader) (s t : Ty) (f a : Term) → IsTrue (S.permits k w) → HasType S tab [] f (node function k s t)
      → HasType S tab [] a s
      → EndsAt (node function k s t) f → EndsAt s a → EndsAt (raise_t S t (S.influence k w)) (app w f a)
  unfolding Reducible plug
  app_ends k w s t f a m hf ha x y =
      let ha' = reaches_typed L T ha y.reaches in
      ends_after (raise_t S t (S.influence k w))
      (reaches_then (reaches_plug (app_left w hole a) x.reaches) (reaches_plug (app_right w x.value x.stands hole) y.reaches))
      (apply_ends t w (S.influence k w) (t_app (reaches_typed L T hf x.reaches) ha' m)
      (record { stands = y.stands; typed = ha'; holds = y.holds }) x.holds)

  chosen_ends : (d : Side) (s t : Ty) (a b : Term) → IsTrue (is_value a) → IsTrue (is_value b) → Reducible S tab s a → Reducible S tab t b
      → EndsAt (choose d s t) (choose d a b)
  chosen_ends first s t a b x y p q = value_ends s a x p
  chosen_ends second s t a b x y p q = value_ends t b y q

  project_ends : (s t : Ty) {u : Ty} {v : Term} (d : Side) (w : Reader) (n : Indirect) → HasType S tab [] (proj d w v) u → IsTrue (is_value v)
      → PairOf (Reducible S tab s) (Reducible S tab t) v → EndsAt (raise_t S (choose d s t) n) (proj d w v)
  unfolding is_value
  project_ends s t d w n h x (pair_of {a = a} {b = b} p q) =
      inferred h λ v r z.
      let va = and_left _ _ x in
      let vb = and_right (is_value a) _ x in
      ends_after (raise_t S (choose d s t) n) (reaches_contraction (c_proj va vb (proj_permitted r)))
      (protect_ends (choose d s t) _ n (choose d a b) (chosen_ends d s t a b va vb p q))

  pub proj_ends : (d : Side) (k : Property) (w : Reader) (s t : Ty) (e : Term) → IsTrue (S.permits k w) → HasType S tab [] e (node product k s t)
      → EndsAt (node product k s t) e → EndsAt (raise_t S (choose d s t) (S.influence k w)) (proj d w e)
  unfolding Reducible plug
  proj_ends d k w s t e m h x =
      ends_after (raise_t S (choose d s t) (S.influence k w)) (reaches_plug (in_proj d w hole) x.reaches)
      (project_ends s t d w (S.influence k w) (t_proj {d = d} (reaches_typed L T h x.reaches) m) x.stands x.holds)

  branch_ends : {k : Property} (s t r : Ty) {u : Ty} {v a b : Term} (w : Reader) (i : ℕ) (n : Indirect) → HasType S tab [] (case w i v a b) u
      → HasType S tab [] v (node sum k s t) → IsTrue (is_value v) → InjectionOf (Reducible S tab s) (Reducible S tab t) v
      → ((v : Term) → ArgumentAt s v → EndsAt r (substitute zero v a)) → ((v : Term) → ArgumentAt t v → EndsAt r (substitute zero v b))
      → EndsAt (raise_t S r n) (case w i v a b)
  unfolding is_value
  branch_ends s t r w i n h hv x (first_of {a = v} p) f g =
      inferred h λ _ q _.
      inferred hv λ _ q' z.
      ends_after (raise_t S r n) (reaches_contraction (c_case x (case_permitted q)))
      (protect_ends r _ n _ (f v (record { stands = x; typed = injected L T (typed_secure L T sc_empty hv) q' z; holds = p })))
  branch_ends s t r w i n h hv x (second_of {a = v} p) f g =
      inferred h λ _ q _.
      inferred hv λ _ q' z.
      ends_after (raise_t S r n) (reaches_contraction (c_case x (case_permitted q)))
      (protect_ends r _ n _ (g v (record { stands = x; typed = injected L T (typed_secure L T sc_empty hv) q' z; holds = p })))

  pub case_ends : (k : Property) (w : Reader) (i : ℕ) (s t r : Ty) (e a b : Term) → HasType S tab [] (case w i e a b) (raise_t S r (S.influence k w))
      → HasType S tab [] e (node sum k s t) → EndsAt (node sum k s t) e
      → ((v : Term) → ArgumentAt s v → EndsAt r (substitute zero v a)) → ((v : Term) → ArgumentAt t v → EndsAt r (substitute zero v b))
      → EndsAt (raise_t S r (S.influence k w)) (case w i e a b)
  unfolding Reducible plug
  case_ends k w i s t r e a b hc h x f g =
      let p = reaches_plug (in_case w i hole a b) x.reaches in
      ends_after (raise_t S r (S.influence k w)) p
      (branch_ends s t r w i (S.influence k w) (reaches_typed L T hc p) (reaches_typed L T h x.reaches) x.stands x.holds f g)

  pub lam_ends : (k : Property) (i : ℕ) (t : Ty) (e : Term) → ((v : Term) → ArgumentAt (tab i) v → EndsAt t (substitute zero v e))
      → EndsAt (node function k (tab i) t) (lam k i e)
  unfolding Reducible is_value
  lam_ends k i t e f = value_ends (node function k (tab i) t) (lam k i e) refl (function_of f)

  pub unit_ends : (k : Property) → EndsAt (leaf one k) (unit k)
  unfolding Reducible is_value
  unit_ends k = value_ends (leaf one k) (unit k) refl tt

  pub literal_ends : (k : Property) (n : ℕ) → EndsAt (leaf number k) (literal k n)
  unfolding Reducible is_value
  literal_ends k n = value_ends (leaf number k) (literal k n) refl tt

  flag_reducible : (d : Side) (k l : Property) (i : ℕ) (p q : Property) (v : Term)
      → Reducible S tab (node sum k (leaf one p) (leaf one q)) (inj d l i v)
  unfolding Reducible
  flag_reducible first k l i p q v = first_of tt
  flag_reducible second k l i p q v = second_of tt

  reckoned_reducible : {o : Operation} {t : Ty} {k : Property} (l : Property) (m n : ℕ) → Reckons tab o k t → Reducible S tab t (reckon_result tab o l m n)
  unfolding reckon_result Reducible
  reckoned_reducible l m n a_number = tt
  reckoned_reducible l m n (a_flag {i = i} {k = k} {p = p} {q = q} e) = flag_reducible (less_side m n) k l i p q _

  pub reckon_ends : (o : Operation) (w : Reader) (k l : Property) (t : Ty) (a b : Term) → IsTrue (S.permits k w) → IsTrue (S.permits l w)
      → Reckons tab o (of_both S w k l) t → HasType S tab [] a (leaf number k) → HasType S tab [] b (leaf number l)
      → EndsAt (leaf number k) a → EndsAt (leaf number l) b → EndsAt t (reckon o w a b)
  unfolding plug
  reckon_ends o w k l t a b m n u ha hb x y =
      let ha' = reaches_typed L T ha x.reaches in
      let hb' = reaches_typed L T hb y.reaches in
      number_value L T ha' x.stands λ p a_is.
      number_value L T hb' y.stands λ q b_is.
      inferred (rw (a_is, b_is) at (t_reckon ha' m hb' n u)) λ _ z _.
      let g = reckon_permitted z in
      ends_after t
      (reaches_then (reaches_plug (reckon_left o w hole b) x.reaches) (reaches_plug (reckon_right o w x.value x.stands hole) y.reaches))
      (rw (a_is, b_is)
      (ends_after t (reaches_contraction (c_reckon g.0 g.1))
      (value_ends t _ (reckoned_stands tab o _ p.value q.value) (reckoned_reducible _ p.value q.value u))))
