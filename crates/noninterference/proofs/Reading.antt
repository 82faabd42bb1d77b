-- One reading keeps what an observer may not see from it: alike values contract to related terms.
use Rattle.std.proofs.Common.{◌≡◌, refl, sym, Bool, [], ◌∷◌, ℕ, zero, IsTrue}
use Rattle.std.proofs.Math.Bool.{false≢true}
use Rattle.calculus.specs.Security.{Property, Reader, Indirect, Security, Laws}
use Rattle.calculus.specs.Types.{number, sum, product, function, Ty, leaf, node, raise_t, secure_t}
use Rattle.calculus.specs.Subtyping.{below}
use Rattle.calculus.specs.Terms.{Side, first, second, choose, Term, app, proj, case, protect, is_value, substitute}
use Rattle.calculus.specs.Terms.{raise_value}
use Rattle.calculus.specs.Reduction.{Contracts, c_app, c_proj, c_case}
use Rattle.calculus.specs.Typing.{Table}
use Rattle.calculus.proofs.Booleans.{and_left, and_right}
use Rattle.calculus.proofs.Sides.{choose_both}
use Rattle.calculus.proofs.Directed.{Directed, d_node, directed_formed, directed_opposite, directed_refl}
use Rattle.calculus.proofs.Directed.{directed_subtype}
use Rattle.calculus.proofs.Raising.{raise_directed, raise_secure, raise_fits}
use Rattle.calculus.proofs.SecureTyping.{SecureParts, side_secure, read_secure}
use Rattle.noninterference.proofs.Related.{Related, q_sub, q_unit, q_lam, q_pair, q_inj, q_protect, q_literal}
use Rattle.noninterference.proofs.Related.{related_substitution}
use Rattle.noninterference.proofs.Observing.{Alike, a_unit, a_literal, a_lam, a_pair, a_inj}

-- two redexes, and related terms that they contract to
pub record Contracted (S : Security) (tab : ℕ → Ty) (seen : Property → Bool) (e e' : Term) (t : Ty) : Type 0 where
  pub left : Term
  pub right : Term
  pub left_contracts : Contracts S tab e left
  pub right_contracts : Contracts S tab e' right
  pub relation : Related S tab seen [] left right t

module _ {S : Security} {tab : ℕ → Ty} (L : Laws S) (T : Table S tab) {seen : Property → Bool} where
  -- [Sub] for two terms
  pub lifted : {e e' : Term} {s t : Ty} → Related S tab seen [] e e' s → Directed S below s t → IsTrue (secure_t S t) → Related S tab seen [] e e' t
  lifted p q h = q_sub p (directed_subtype q) h

  chosen_related : (d : Side) {a b a' b' : Term} {s t : Ty} → Related S tab seen [] a a' s → Related S tab seen [] b b' t
      → Related S tab seen [] (choose d a b) (choose d a' b') (choose d s t)
  chosen_related first p q = p
  chosen_related second p q = q

  -- what is read of a lesser property, protected, and lifted to what is read of a greater
  read_related : {e e' : Term} {s t : Ty} (k l : Property) (w : Reader) → IsTrue (S.secure k) → IsTrue (S.secure l) → IsTrue (secure_t S t) → IsTrue (S.le k l)
      → IsTrue (S.permits l w) → Directed S below s t → Related S tab seen [] e e' s
      → Related S tab seen [] (protect (S.influence k w) e) (protect (S.influence k w) e') (raise_t S t (S.influence l w))
  read_related {t = t} k l w h g y z m p r =
      lifted (q_protect (L.influence_secure k w h (L.permits_mono k l w z m)) r)
      (raise_directed L _ _ p (L.influence_mono k l w z m)) (read_secure L T l w t g m y)

  pub apply_related : {f a f' a' : Term} {s t : Ty} {k : Property} (w : Reader) → Alike S tab seen f f' (node function k s t)
      → SecureParts S k s t → IsTrue (S.permits k w) → Related S tab seen [] a a' s → IsTrue (is_value a) → IsTrue (is_value a')
      → Contracted S tab seen (app w f a) (app w f' a') (raise_t S t (S.influence k w))
  apply_related w (a_unit h u) x m r va va' = absurd (false≢true (directed_formed function u))
  apply_related w (a_literal h u) x m r va va' = absurd (false≢true (directed_formed function u))
  apply_related w (a_lam {k = j} {i = i} h p f (d_node {l = k} z a b)) x m r va va' = record {
    left = _;
    right = _;
    left_contracts = c_app va (L.permits_mono j k w z m);
    right_contracts = c_app va' (L.permits_mono j k w z m);
    relation = read_related j k w h x.own x.right z m b (related_substitution (lifted r (directed_opposite a) (T.secure i)) [] p);
  }
  apply_related w (a_pair h p q f u) x m r va va' = absurd (false≢true (directed_formed function u))
  apply_related w (a_inj h e p u) x m r va va' = absurd (false≢true (directed_formed function u))

  pub project_related : {v v' : Term} {s t : Ty} {k : Property} (d : Side) (w : Reader) → Alike S tab seen v v' (node product k s t)
      → SecureParts S k s t → IsTrue (S.permits k w) → IsTrue (is_value v) → IsTrue (is_value v')
      → Contracted S tab seen (proj d w v) (proj d w v') (raise_t S (choose d s t) (S.influence k w))
  unfolding is_value
  project_related d w (a_unit h u) x m y y' = absurd (false≢true (directed_formed product u))
  project_related d w (a_literal h u) x m y y' = absurd (false≢true (directed_formed product u))
  project_related d w (a_lam h p f u) x m y y' = absurd (false≢true (directed_formed product u))
  project_related d w (a_pair {k = j} {a = a} {a' = a'} h p q f (d_node {l = k} z b c)) x m y y' = record {
    left = _;
    right = _;
    left_contracts = c_proj (and_left _ _ y) (and_right (is_value a) _ y) (L.permits_mono j k w z m);
    right_contracts = c_proj (and_left _ _ y') (and_right (is_value a') _ y') (L.permits_mono j k w z m);
    relation = read_related j k w h x.own (side_secure d x) z m (choose_both (Directed S below) d b c) (chosen_related d p q);
  }
  project_related d w (a_inj h e p u) x m y y' = absurd (false≢true (directed_formed product u))

  branch_chosen : (d : Side) {v v' a b a' b' : Term} {s t u : Ty} → Related S tab seen [] v v' (choose d s t) → Related S tab seen (s ∷ []) a a' u
      → Related S tab seen (t ∷ []) b b' u → Related S tab seen [] (substitute zero v (choose d a b)) (substitute zero v' (choose d a' b')) u
  branch_chosen first p q r = related_substitution p [] q
  branch_chosen second p q r = related_substitution p [] r

  pub branch_related : {v v' a b a' b' : Term} {s t u : Ty} {k : Property} (w : Reader) (i : ℕ) → Alike S tab seen v v' (node sum k s t)
      → SecureParts S k s t → IsTrue (secure_t S u) → IsTrue (S.permits k w) → IsTrue (is_value v) → IsTrue (is_value v') → Related S tab seen (s ∷ []) a a' u
      → Related S tab seen (t ∷ []) b b' u → Contracted S tab seen (case w i v a b) (case w i v' a' b') (raise_t S u (S.influence k w))
  unfolding is_value
  branch_related w i (a_unit h z) x g m y y' q r = absurd (false≢true (directed_formed sum z))
  branch_related w i (a_literal h z) x g m y y' q r = absurd (false≢true (directed_formed sum z))
  branch_related w i (a_lam h p f z) x g m y y' q r = absurd (false≢true (directed_formed sum z))
  branch_related w i (a_pair h p p' f z) x g m y y' q r = absurd (false≢true (directed_formed sum z))
  branch_related {u = u} w i (a_inj {d = d} {k = j} h e p (d_node {l = k} z b c)) x g m y y' q r = record {
    left = _;
    right = _;
    left_contracts = c_case y (L.permits_mono j k w z m);
    right_contracts = c_case y' (L.permits_mono j k w z m);
    relation = read_related j k w h x.own g z m (directed_refl L below u g)
        (branch_chosen d (lifted p (choose_both (Directed S below) d b c) (side_secure d x)) q r);
  }

  raised : {e e' : Term} {s t : Ty} (m : Indirect) → IsTrue (S.secure_i m) → IsTrue (secure_t S t) → Directed S below s t
      → Related S tab seen [] e e' (raise_t S s m) → Related S tab seen [] e e' (raise_t S t m)
  raised {t = t} m g x u r = lifted r (raise_directed L m m u (L.le_i_refl m g)) (raise_secure L t m x g)

  -- Raising keeps values alike.
  pub raise_related : {v v' : Term} {t : Ty} (m : Indirect) → IsTrue (S.secure_i m) → IsTrue (secure_t S t) → Alike S tab seen v v' t
      → Related S tab seen [] (raise_value S v m) (raise_value S v' m) (raise_t S t m)
  unfolding raise_value
  raise_related m g x (a_unit {k = k} h u) = raised m g x u (q_unit (L.raise_secure k m h g))
  raise_related m g x (a_literal {k = k} h u) = raised m g x u (q_literal (L.raise_secure k m h g))
  raise_related m g x (a_lam {k = k} h p f u) = raised m g x u (q_lam (L.raise_secure k m h g) p (raise_fits S _ m f))
  raise_related m g x (a_pair {k = k} h p q f u) = raised m g x u (q_pair (L.raise_secure k m h g) p q (raise_fits S _ m f))
  raise_related m g x (a_inj {k = k} h e p u) = raised m g x u (q_inj (L.raise_secure k m h g) e p)

  -- Two seen numbers are one.
  pub same_number : {v v' : Term} {k : Property} → Alike S tab seen v v' (leaf number k) → v ≡ v'
  same_number (a_unit h u) = refl
  same_number (a_literal h u) = refl
  same_number (a_lam h p f u) = absurd (false≢true (sym (directed_formed function u)))
  same_number (a_pair h p q f u) = absurd (false≢true (sym (directed_formed product u)))
  same_number (a_inj h e p u) = absurd (false≢true (sym (directed_formed sum u)))
