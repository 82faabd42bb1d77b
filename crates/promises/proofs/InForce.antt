-- The script in force: following ends, the pass finds its end, and types only go down on the way.
use Rattle.std.proofs.Common.{◌≡◌, refl, sym, ap, subst, ◌∙◌, Bool, true, false, cond, ◌&&◌, ◌++◌, append-nil, ℕ, zero}
use Rattle.std.proofs.Common.{suc, ◌+◌, ◌%◌, ◌≤◌, ◌<◌, arith, eqb-true, eq-eqb, leb-true, ltb-true, lt-ltb, nat_eq}
use Rattle.std.proofs.Common.{nat_le, length, IsTrue}
use Rattle.std.proofs.Math.Option.{none, some, Option}
use Rattle.std.proofs.Math.Bool.{false≢true}
use Rattle.std.proofs.Math.Decide.{ℕ_discrete, dec_lt}
use Rattle.calculus.specs.Security.{Security}
use Rattle.calculus.specs.Types.{Ty}
use Rattle.calculus.specs.Subtyping.{subtype}
use Rattle.calculus.specs.Subtyping as directions
use Rattle.calculus.proofs.Properties.{properties_laws}
use Rattle.calculus.proofs.Subtyping.{subtype_complete, subtype_reflexive, subtype_transitive}
use Rattle.rules.specs.Answer.{Bytes, Octets, Answer, accepted, refused, ◌>>◌, ask}
use Rattle.rules.specs.Limits.{listed_width, entry_width, listed_limit, no_script}
use Rattle.rules.specs.Groups.{properties_of}
use Rattle.rules.specs.Types.{type_count, type_at}
use Rattle.rules.specs.Calls.{types_check, compare_call}
use Rattle.rules.specs.InForce.{script_count, type_of, entry_count, entry_first, entry_replaced, is_listed, q40_lengths}
use Rattle.rules.specs.InForce.{ok25, q25_scripts, ok40, ok41, ok42, scripts_compared, entry_check, entries_check}
use Rattle.rules.specs.InForce.{lists_check, replacement, end_of_replacements, script_in_force, in_force, LeadsTo}
use Rattle.rules.specs.InForce.{stays, replaced_by, NamedFirst, InForceFrom}
use Rattle.rules.proofs.Asked.{ask_true, and_then, regroup}
use Rattle.rules.proofs.Search.{from_all, found, each_all}
use Rattle.rules.proofs.InForce.{among_these, among_at, not_among, none_among, usable_is, EntryPasses, all_pass}
use Rattle.rules.proofs.InForce.{few_entries}
use Rattle.promises.specs.Questions.{of_groups, of_types}
use Rattle.promises.specs.InForce.{of_amendment, of_entries, of_lists, newest_after, newest, or_no_script, SameOrBelow}
use Rattle.promises.specs.InForce.{FindsInForce, Amendments}
use Rattle.promises.proofs.Answers.{accepted_inj, both, go_on, asks}
use Rattle.promises.proofs.Deciding.{Decided, decides, ask_own, each_own, decided_one, decided_then, decided_yes}
use Rattle.promises.proofs.EveryCallAnswers.{types_decided}
use Rattle.promises.proofs.Tables.{Tables}
use Rattle.promises.proofs.TypesTable.{tables}

-- ---- the questions in their order

entry_decided : (g t l a : Bytes) (e : ℕ) → Decided (of_amendment g t l a e) (entry_check g t l a e)
unfolding entry_check
entry_decided g t l a e =
    decided_then (ask 40 e (ok40 l a e)) _ (decided_one (ask_own 40 e (ok40 l a e)))
    (decided_then (ask 41 e (ok41 a e)) (ask 42 e (ok42 g t l a e)) (decided_one (ask_own 41 e (ok41 a e))) (decided_one (ask_own 42 e (ok42 g t l a e))))

entries_decided : (g t l a : Bytes) (n : ℕ) → Decided (of_entries g t l a n) (entries_check g t l a n)
unfolding of_entries entries_check
entries_decided g t l a zero = decided_yes tt
entries_decided g t l a (suc n) = decided_then (entries_check g t l a n) (entry_check g t l a n) (entries_decided g t l a n) (entry_decided g t l a n)

lists_decided : (g t l a : Bytes) → Decided (of_lists g t l a) (◌>>◌ (q40_lengths l a) (◌>>◌ (q25_scripts t l) (entries_check g t l a (entry_count a))))
lists_decided g t l a =
    decided_then (q40_lengths l a) _ (decided_one (ask_own 40 0 (nat_eq (length l % listed_width) 0 && (nat_le (script_count l) listed_limit && nat_eq (length a % entry_width) 0))))
    (decided_then (q25_scripts t l) (entries_check g t l a (entry_count a)) (decided_one (each_own 25 (script_count l) (ok25 t l))) (entries_decided g t l a (entry_count a)))

-- ---- lists that pass

pub record ListsPass (g t l a : Bytes) : Type 0 where
  pub tables_pass : types_check g t ≡ accepted tt
  pub limited : script_count l ≤ listed_limit
  pub typed : (i : ℕ) → i < script_count l → type_of l i < type_count t
  pub entries_pass : entries_check g t l a (entry_count a) ≡ accepted tt

pub lists_pass : (g t l a : Bytes) → lists_check g t l a ≡ accepted tt → ListsPass g t l a
unfolding lists_check ok25
lists_pass g t l a h =
    let p = and_then (types_check g t) (◌>>◌ (q40_lengths l a) (◌>>◌ (q25_scripts t l) (entries_check g t l a (entry_count a)))) h in
    let q = and_then (q40_lengths l a) (◌>>◌ (q25_scripts t l) (entries_check g t l a (entry_count a))) p.1 in
    let r = and_then (q25_scripts t l) (entries_check g t l a (entry_count a)) q.1 in
    let lengths = both (nat_eq (length l % listed_width) 0) (nat_le (script_count l) listed_limit && nat_eq (length a % entry_width) 0) (ask_true 40 0 _ q.0) in
    let limit = both (nat_le (script_count l) listed_limit) (nat_eq (length a % entry_width) 0) lengths.1 in
    record {
      tables_pass = p.0;
      limited = leb-true (script_count l) listed_limit limit.0;
      typed = λ i m. ltb-true (type_of l i) (type_count t) (each_all 25 (script_count l) (ok25 t l) r.0 i m);
      entries_pass = r.1;
    }

module _ (g t l a : Bytes) (P : ListsPass g t l a) where
  abbrev n : ℕ
  n = entry_count a

  passes : (e : ℕ) → e < n → EntryPasses g t l a e
  passes e m = all_pass g t l a n e P.entries_pass m

  -- every first number is a script of the list, and so not 65,535
  first_there : (e : ℕ) → e < n → entry_first a e < script_count l
  first_there e m = (passes e m).in_order.inside

  some_script : (i : ℕ) → i < script_count l → i ≡ no_script → ⊥
  some_script i m p = omega (arith, P.limited)

  -- no script is listed twice
  one_entry : (e e' : ℕ) → e < n → e' < n → entry_first a e ≡ entry_first a e' → e' ≤ e
  one_entry e e' m m' p =
      elim (dec_lt e e') [
        | yes k ↦ absurd (not_among (entry_first a) e' (entry_first a e') e (passes e' m').in_order.new k p)
        | no k ↦ omega arith
      ]

  -- an entry that replaces what entry e lists comes after it
  later : (e e' : ℕ) → e < n → e' < n → entry_replaced a e' ≡ entry_first a e → e < e'
  later e e' m m' p =
      let k = first_there e m in
      let x = among_at (entry_first a) e' (entry_replaced a e') ((passes e' m').in_order.older (λ z. some_script (entry_first a e) k (sym p ∙ z))).1 in
      let there = x.there in
      omega (arith, one_entry x.entry e (omega arith) m (x.is ∙ p))

  -- a script is replaced once
  replaced_once : (e e' : ℕ) → e < n → e' < n → (entry_replaced a e' ≡ no_script → ⊥) → entry_replaced a e ≡ entry_replaced a e' → e' ≤ e
  replaced_once e e' m m' d p =
      elim (dec_lt e e') [
        | yes k ↦ absurd (not_among (entry_replaced a) e' (entry_replaced a e') e ((passes e' m').once d) k p)
        | no k ↦ omega arith
      ]

  one_replacement : (e e' : ℕ) → e < n → e' < n → (entry_replaced a e ≡ no_script → ⊥) → entry_replaced a e ≡ entry_replaced a e' → e ≡ e'
  one_replacement e e' m m' d p = grind (arith, replaced_once)

  abbrev NoneReplaces : ℕ → Type 0
  NoneReplaces j = (e : ℕ) → e < n → entry_replaced a e ≡ j → ⊥

  -- ---- following ends

  -- Where following ends from what entry e lists, with so many steps left.
  record ReplacedToEnd (e k : ℕ) : Type 0 where
    pub replacements : ℕ
    pub leads : LeadsTo a (entry_first a e) replacements (end_of_replacements a k (entry_first a e))
    pub last : NoneReplaces (end_of_replacements a k (entry_first a e))

  -- the step from script i, which entry e lists
  follow : (k e i : ℕ) → e < n → entry_first a e ≡ i → n ≤ e + suc k → ((e' : ℕ) → e' < n → n ≤ e' + k → ReplacedToEnd e' k)
      → (r : ℕ) × LeadsTo a i r (end_of_replacements a (suc k) i) × NoneReplaces (end_of_replacements a (suc k) i)
  unfolding end_of_replacements
  follow k e i m z h ih = by (replacement a i) refl
    where
      by : (o : Option ℕ) → replacement a i ≡ o → (r : ℕ) × LeadsTo a i r (end_of_replacements a (suc k) i) × NoneReplaces (end_of_replacements a (suc k) i)
      by none p =
          let last : NoneReplaces i = λ e' m' q. false≢true (sym (from_all (λ x. nat_eq (entry_replaced a x) i) n 0 p e' (omega arith) (omega arith)) ∙ eq-eqb (entry_replaced a e') i q) in
          (0, rw (p, end_of_replacements) stays, rw (p, end_of_replacements) last)
      by (some e') p =
          let f = found (λ x. nat_eq (entry_replaced a x) i) n 0 e' p in
          let m' : e' < n = omega (arith, f.high) in
          let q : entry_replaced a e' ≡ i = eqb-true (entry_replaced a e') i f.passes in
          let r = ih e' m' (omega (arith, later e e' m m' (q ∙ sym z))) in (
            suc r.replacements,
            rw (p, end_of_replacements) (replaced_by e' m' q (λ y. some_script (entry_first a e) (first_there e m) (z ∙ y)) r.leads),
            rw (p, end_of_replacements) r.last,
          )

  follow_on : (k e : ℕ) → e < n → n ≤ e + k → ReplacedToEnd e k
  follow_on zero e m h = absurd (omega arith)
  follow_on (suc k) e m h =
      let x = follow k e (entry_first a e) m refl h (follow_on k) in record { replacements = x.0; leads = x.1; last = x.2 }

  -- from any script that is named first
  named_ends : (i : ℕ) → NamedFirst a i → InForceFrom a i (end_of_replacements a n i)
  named_ends i x =
      let r = follow_on n x.0 x.1 (omega arith) in
      subst (λ (j : ℕ). InForceFrom a j (end_of_replacements a n j)) x.2
      (record { named = (x.0, x.1, refl); replacements = r.replacements; leads = r.leads; last = r.last })

  -- no way goes on past an end, so that there is one end
  one_end : {i r r' j j' : ℕ} → LeadsTo a i r j → NoneReplaces j → LeadsTo a i r' j' → NoneReplaces j' → j ≡ j'
  one_end stays h stays h' = refl
  one_end stays h (replaced_by e m p d x) h' = absurd (h e m p)
  one_end (replaced_by e m p d x) h stays h' = absurd (h' e m p)
  one_end (replaced_by e m p d x) h (replaced_by {n = k} {j = j'} e' m' p' d' x') h' =
      let q : e' ≡ e = one_replacement e' e m' m (λ z. d (sym p' ∙ z)) (p' ∙ sym p) in
      one_end x h (subst (λ (y : ℕ). LeadsTo a (entry_first a y) k j') q x') h'

  -- no entry is passed twice
  few_steps : (e i r j : ℕ) → e < n → entry_first a e ≡ i → LeadsTo a i r j → r + e < n
  few_steps e i r j m z stays = omega arith
  few_steps e i r j m z (replaced_by e' m' p d x) = omega (arith, later e e' m m' (p ∙ sym z), few_steps e' (entry_first a e') _ j m' refl x)

  -- the end is a script of the list
  end_there : (i r j : ℕ) → i < script_count l → LeadsTo a i r j → j < script_count l
  end_there i r j m stays = m
  end_there i r j m (replaced_by e m' p d x) = end_there (entry_first a e) _ j (first_there e m') x

  -- one replacement more
  one_more : (i r j e : ℕ) → LeadsTo a i r j → e < n → entry_replaced a e ≡ j → (j ≡ no_script → ⊥) → LeadsTo a i (suc r) (entry_first a e)
  one_more i r j e stays m p d = replaced_by e m p d stays
  one_more i r j e (replaced_by e' m' p' d' x) m p d = replaced_by e' m' p' d' (one_more (entry_first a e') _ j e x m p d)

  -- ---- types only go down on the way

  module _ (o : Octets g) where
    X : Tables g t
    X = tables g t o P.tables_pass

    abbrev S : Security
    S = properties_of g

    abbrev type : ℕ → Ty
    type i = type_at t (type_of l i)

    goes_down : {i r j : ℕ} → LeadsTo a i r j → IsTrue (subtype S directions.below (type j) (type i))
    goes_down {i} stays = subtype_complete (properties_laws X.lattice) (subtype_reflexive (properties_laws X.lattice) (type i) (X.table.secure (type_of l i)))
    goes_down {i} {j = j} (replaced_by e m p d x) =
        let step : IsTrue (subtype S directions.below (type (entry_first a e)) (type (entry_replaced a e))) =
        sym (usable_is S (type (entry_first a e)) (type (entry_replaced a e))) ∙ (passes e m).lower (λ z. d (sym p ∙ z)) in
        subtype_transitive (properties_laws X.lattice) (type j) (type (entry_first a e)) (type i) (goes_down x)
        (subst (λ (y : ℕ). IsTrue (subtype S directions.below (type (entry_first a e)) (type y))) p step)

    same_or_below_of : (i j : ℕ) → i < script_count l → InForceFrom a i j → SameOrBelow g t l j i
    unfolding compare_call
    same_or_below_of i j m x =
        let m' = end_there i x.replacements j m x.leads in
        record {
          answer = scripts_compared g t l j i;
          compared = go_on P.tables_pass (go_on (asks 25 0 _ (lt-ltb (type_of l j) (type_count t) (P.typed j m'))) (go_on (asks 25 1 _ (lt-ltb (type_of l i) (type_count t) (P.typed i m))) refl));
          usable = usable_is S (type j) (type i) ∙ goes_down x.leads;
        }

  -- ---- the pass

  -- after the first m entries, from script i
  data SoFar (i m : ℕ) : Option ℕ → Type 0 where
    not_yet : ((e : ℕ) → e < m → entry_first a e ≡ i → ⊥) → SoFar i m none
    so_far : {r j : ℕ} → NamedFirst a i → LeadsTo a i r j → (e : ℕ) → e < m → entry_first a e ≡ j → ((e' : ℕ) → e' < m → entry_replaced a e' ≡ j → ⊥) → SoFar i m (some j)

  -- what entry m lists, none up to it replaces
  none_yet : (m : ℕ) → m < n → (e : ℕ) → e < suc m → entry_replaced a e ≡ entry_first a m → ⊥
  none_yet m k e k' p = omega (arith, later m e k (omega arith) p)

  turn : (i m : ℕ) (o : Option ℕ) → m < n → SoFar i m o → SoFar i (suc m) (newest_after a i m o)
  turn i m none k (not_yet h) = by (nat_eq (entry_first a m) i) refl
    where
      none_before : nat_eq (entry_first a m) i ≡ false → (e : ℕ) → e < suc m → entry_first a e ≡ i → ⊥
      none_before p e l q =
          elim (ℕ_discrete e m) [
            | yes z ↦ false≢true (sym p ∙ eq-eqb (entry_first a m) i (ap (entry_first a) (sym z) ∙ q))
            | no d ↦ h e (omega arith) q
          ]

      by : (b : Bool) → nat_eq (entry_first a m) i ≡ b → SoFar i (suc m) (cond b (some i) none)
      by true p =
          let q = eqb-true (entry_first a m) i p in
          so_far (m, k, q) stays m (omega arith) q (λ e l z. none_yet m k e l (z ∙ sym q))
      by false p = not_yet (none_before p)
  turn i m (some j) k (so_far {r} named x e l q h) = by (nat_eq (entry_replaced a m) j) refl
    where
      none_before : nat_eq (entry_replaced a m) j ≡ false → (e' : ℕ) → e' < suc m → entry_replaced a e' ≡ j → ⊥
      none_before p e' l' z =
          elim (ℕ_discrete e' m) [
            | yes y ↦ false≢true (sym p ∙ eq-eqb (entry_replaced a m) j (ap (entry_replaced a) (sym y) ∙ z))
            | no d ↦ h e' (omega arith) z
          ]

      by : (b : Bool) → nat_eq (entry_replaced a m) j ≡ b → SoFar i (suc m) (cond b (some (entry_first a m)) (some j))
      by true p =
          let z = eqb-true (entry_replaced a m) j p in
          so_far named (one_more i r j m x k z (λ y. some_script (entry_first a e) (first_there e (omega arith)) (q ∙ y))) m (omega arith) refl (none_yet m k)
      by false p = so_far named x e (omega arith) q (none_before p)

  so_far_after : (i m : ℕ) → m ≤ n → SoFar i m (newest a i m)
  unfolding newest
  so_far_after i zero h = not_yet (λ e l p. omega arith)
  so_far_after i (suc m) h = turn i m (newest a i m) (omega arith) (so_far_after i m (omega arith))

  named_listed : (i : ℕ) → NamedFirst a i → is_listed a n i ≡ true
  named_listed i x = among_these (entry_first a) n i x.0 x.1 x.2

  in_force_of_named : (i : ℕ) → NamedFirst a i → script_in_force a i ≡ end_of_replacements a n i
  unfolding script_in_force
  in_force_of_named i x = rw (named_listed i x)

  in_force_of_other : (i : ℕ) → (NamedFirst a i → ⊥) → script_in_force a i ≡ no_script
  unfolding script_in_force
  in_force_of_other i d = rw (none_among (entry_first a) n i (λ e m p. d (e, m, p)))

  finds_end : (i : ℕ) (o : Option ℕ) → SoFar i n o → or_no_script o ≡ script_in_force a i
  finds_end i none (not_yet h) = sym (in_force_of_other i (λ x. h x.0 x.1 x.2))
  finds_end i (some j) (so_far named x e l q h) =
      let y = named_ends i named in
      one_end x h y.leads y.last ∙ sym (in_force_of_named i named)

  pub pass_finds : (i : ℕ) → or_no_script (newest a i n) ≡ script_in_force a i
  pass_finds i = finds_end i (newest a i n) (so_far_after i n (omega arith))

  -- ---- any index

  in_range : (i : ℕ) → NamedFirst a i → i < script_count l
  in_range i x = omega (arith, first_there x.0 x.1, x.2)

  -- an index past the list has none
  pub far_has_none : (i : ℕ) → script_count l ≤ i → script_in_force a i ≡ no_script
  far_has_none i h = in_force_of_other i (λ x. omega (arith, in_range i x))

  module _ (yes_lists : lists_check g t l a ≡ accepted tt) where
    answers : (i : ℕ) → in_force g t l a i ≡ accepted (script_in_force a i)
    unfolding in_force
    answers i = go_on yes_lists refl

    from_answer : (i j : ℕ) → in_force g t l a i ≡ accepted j → script_in_force a i ≡ j
    from_answer i j h = accepted_inj (sym (answers i) ∙ h)

    to_answer : (i j : ℕ) → script_in_force a i ≡ j → in_force g t l a i ≡ accepted j
    to_answer i j h = answers i ∙ ap (λ (k : ℕ). accepted k) h

    -- 65,535 is no script, and so the answer where there is none
    no_named : (i : ℕ) → script_in_force a i ≡ no_script → NamedFirst a i → ⊥
    no_named i h x =
        let y = named_ends i x in
        some_script (end_of_replacements a n i) (end_there i y.replacements (end_of_replacements a n i) (in_range i x) y.leads) (sym (in_force_of_named i x) ∙ h)

    finds_in_force : Octets g → (i : ℕ) → FindsInForce g t l a i
    finds_in_force o i = record {
      ends = λ x. (end_of_replacements a n i, named_ends i x);
      short = λ r j x y. omega (arith, few_steps x.0 i r j x.1 x.2 y);
      found = λ j x. (
        λ h. subst (λ (k : ℕ). InForceFrom a i k) (sym (in_force_of_named i x) ∙ from_answer i j h) (named_ends i x),
        λ y. to_answer i j (in_force_of_named i x ∙ (let z = named_ends i x in one_end z.leads z.last y.leads y.last)),
      );
      none_when = (λ h. no_named i (from_answer i no_script h), λ d. to_answer i no_script (in_force_of_other i d));
      pass_finds = pass_finds i;
      in_list = λ j x. let m = in_range i x.named in (m, end_there i x.replacements j m x.leads);
      type_below = λ j x. same_or_below_of o i j (in_range i x.named) x;
    }

-- a refusal is the same whatever is looked up, and nothing is where 65,535 is
alone : (g t l a : Bytes) → in_force g t l a no_script ≡ ◌>>◌ (lists_check g t l a) (accepted no_script)
unfolding in_force
alone g t l a = by (lists_check g t l a) refl
  where
    by : (x : Answer (Unit {0})) → lists_check g t l a ≡ x → ◌>>◌ (lists_check g t l a) (accepted (script_in_force a no_script)) ≡ ◌>>◌ (lists_check g t l a) (accepted no_script)
    by (accepted u) h =
        let P = lists_pass g t l a h in
        ap (λ (k : ℕ). ◌>>◌ (lists_check g t l a) (accepted k)) (in_force_of_other g t l a P no_script (λ x. some_script g t l a P no_script (in_range g t l a P no_script x) refl))
    by (refused q p) h = rw h refl

asks_all : (g t l a : Bytes) (i : ℕ) → Decided (of_groups g ++ of_types g t ++ of_lists g t l a) (in_force g t l a i)
unfolding in_force lists_check
asks_all g t l a i =
    rw (regroup (types_check g t) (◌>>◌ (q40_lengths l a) (◌>>◌ (q25_scripts t l) (entries_check g t l a (entry_count a)))) (accepted (script_in_force a i)))
    (decided_then (types_check g t) _ (types_decided g t) (rw (← append-nil (of_lists g t l a)) (decided_then _ (accepted (script_in_force a i)) (lists_decided g t l a) (decided_yes (script_in_force a i)))))

pub amendments : Amendments
amendments = record {
  asks = λ g t l a i. decides (asks_all g t l a i);
  alone = alone;
  few = λ g t l a h. few_entries g t l a (entry_count a) (lists_pass g t l a h).entries_pass;
  finds = λ g t l a i o h. finds_in_force g t l a (lists_pass g t l a h) h o i;
}
