-- Questions 15, 36, 16 and 19 of an encoding say that its term is formed, and back.
use Rattle.std.proofs.Common.{◌≡◌, ap, Bool, true, ℕ, suc, ◌+◌, ◌*◌, ◌/◌, ◌%◌, ◌<◌, arith, ltb-true, lt-ltb, nat_lt}
use Rattle.calculus.specs.Groups.{Lattice}
use Rattle.calculus.specs.Terms.{plus, less, Term, var, unit, lam, pair, inj, app, proj, case, protect, mu, literal}
use Rattle.calculus.specs.Terms.{reckon}
use Rattle.rules.specs.Groups.{groups_of}
use Rattle.rules.specs.Answer.{Bytes, Octets, accepted}
use Rattle.rules.specs.Limits.{script_width}
use Rattle.rules.specs.Script.{records, number, encode, q15, q36_objects, q16, q19}
use Rattle.rules.proofs.Nodes.{Every, every_here, every_below, every_node, every_map}
use Rattle.rules.proofs.Search.{each_accepted}
use Rattle.rules.proofs.TermCode.{term_shape, term_head}
use Rattle.rules.proofs.RecordFields.{number_is}
use Rattle.rules.proofs.NodeFacts.{Named}
use Rattle.rules.proofs.NodeQuestions.{asked_of_nodes, q16_named, q16_encode}
use Rattle.rules.proofs.Scope.{Scoped, q19_scoped, q19_encode}
use Rattle.promises.proofs.Formed.{Formed}
use Rattle.promises.proofs.Grouped.{Grouped, questions_grouped, grouped_questions}

-- A literal's number is held by two bytes.
abbrev Holds : Term → Type 0
Holds (literal k n) = n < 65536
Holds _ = Unit {0}

abbrev Bounded : Term → Type 0
Bounded e = Every term_shape Holds e

abbrev two_held : Bytes → ℕ → Bool
two_held s i = nat_lt (number s i) 65536

holds : (c : Term) → two_held (term_head c) 0 ≡ true → Holds c
holds (literal k n) h = let l : n % 256 + 256 * (n / 256) < 65536 = ltb-true (n % 256 + 256 * (n / 256)) 65536 h in omega (arith, l)
holds _ h = tt

octets_bounded : (e : Term) → Octets (encode e) → Bounded e
octets_bounded e o =
    every_map holds
    (asked_of_nodes 14 two_held (λ s i. ap (λ n. nat_lt n 65536) (number_is s i)) e
    (each_accepted 14 (records (encode e)) (two_held (encode e))
    (λ i l. lt-ltb (number (encode e) i) 65536 (omega (arith, o (script_width * i + 4), o (script_width * i + 5))))))

module _ (g t : Bytes) where
  abbrev Labelled : Term → Type 0
  Labelled e = Every term_shape (Grouped g) e

  abbrev Typed : Term → Type 0
  Typed e = Every term_shape (Named t) e

  to_formed : (e : Term) (n : ℕ) → Labelled e → Typed e → Scoped n e → Bounded e → Formed g t n e
  unfolding Formed
  to_formed (var m) n G T S N = S
  to_formed (unit k) n G T S N = every_here G
  to_formed (lam k i e) n G T S N = (every_here G, every_here T, to_formed e (suc n) (every_below G).0 (every_below T).0 S (every_below N).0)
  to_formed (pair k a b) n G T S N =
      (every_here G, to_formed a n (every_below G).0 (every_below T).0 S.0 (every_below N).0, to_formed b n (every_below G).1.0 (every_below T).1.0 S.1 (every_below N).1.0)
  to_formed (inj d k i e) n G T S N = (every_here G, (every_here T).0, (every_here T).1, to_formed e n (every_below G).0 (every_below T).0 S (every_below N).0)
  to_formed (app w f a) n G T S N =
      (every_here G, to_formed f n (every_below G).0 (every_below T).0 S.0 (every_below N).0, to_formed a n (every_below G).1.0 (every_below T).1.0 S.1 (every_below N).1.0)
  to_formed (proj d w e) n G T S N = (every_here G, to_formed e n (every_below G).0 (every_below T).0 S (every_below N).0)
  to_formed (case w i e a b) n G T S N = (
    every_here G,
    every_here T,
    to_formed e n (every_below G).0 (every_below T).0 S.0 (every_below N).0,
    to_formed a (suc n) (every_below G).1.0 (every_below T).1.0 S.1 (every_below N).1.0,
    to_formed b (suc n) (every_below G).1.1.0 (every_below T).1.1.0 S.2 (every_below N).1.1.0,
  )
  to_formed (protect m e) n G T S N = (every_here G, to_formed e n (every_below G).0 (every_below T).0 S (every_below N).0)
  to_formed (mu w i e) n G T S N = (every_here G, (every_here T).0, (every_here T).1, to_formed e (suc n) (every_below G).0 (every_below T).0 S (every_below N).0)
  to_formed (literal k m) n G T S N = (every_here G, every_here N)
  to_formed (reckon plus w a b) n G T S N =
      (every_here G, to_formed a n (every_below G).0 (every_below T).0 S.0 (every_below N).0, to_formed b n (every_below G).1.0 (every_below T).1.0 S.1 (every_below N).1.0)
  to_formed (reckon (less i) w a b) n G T S N = (
    every_here G,
    (every_here T).0,
    (every_here T).1,
    to_formed a n (every_below G).0 (every_below T).0 S.0 (every_below N).0,
    to_formed b n (every_below G).1.0 (every_below T).1.0 S.1 (every_below N).1.0,
  )

  pub questions_formed : (e : Term) → q15 g (encode e) ≡ accepted tt → q36_objects g (encode e) ≡ accepted tt → q16 t (encode e) ≡ accepted tt → q19 (encode e) ≡ accepted tt
      → Octets (encode e) → Formed g t 0 e
  questions_formed e a b c d o = to_formed e 0 (questions_grouped g e a b) (q16_named t e c) (q19_scoped e d) (octets_bounded e o)

  from_formed : (e : Term) (n : ℕ) → Formed g t n e → Labelled e × Typed e × Scoped n e
  unfolding Formed
  from_formed (var m) n F = (every_node tt tt, every_node tt tt, F)
  from_formed (unit k) n F = (every_node F tt, every_node tt tt, tt)
  from_formed (lam k i e) n F =
      let x = from_formed e (suc n) F.2 in
      (every_node F.0 (x.0, tt), every_node F.1 (x.1, tt), x.2)
  from_formed (pair k a b) n F =
      let x = from_formed a n F.1 in
      let y = from_formed b n F.2 in
      (every_node F.0 (x.0, (y.0, tt)), every_node tt (x.1, (y.1, tt)), (x.2, y.2))
  from_formed (inj d k i e) n F =
      let x = from_formed e n F.3 in
      (every_node F.0 (x.0, tt), every_node (F.1, F.2) (x.1, tt), x.2)
  from_formed (app w f a) n F =
      let x = from_formed f n F.1 in
      let y = from_formed a n F.2 in
      (every_node F.0 (x.0, (y.0, tt)), every_node tt (x.1, (y.1, tt)), (x.2, y.2))
  from_formed (proj d w e) n F = let x = from_formed e n F.1 in (every_node F.0 (x.0, tt), every_node tt (x.1, tt), x.2)
  from_formed (case w i e a b) n F =
      let x = from_formed e n F.2 in
      let y = from_formed a (suc n) F.3 in
      let z = from_formed b (suc n) F.4 in
      (every_node F.0 (x.0, (y.0, (z.0, tt))), every_node F.1 (x.1, (y.1, (z.1, tt))), (x.2, y.2, z.2))
  from_formed (protect m e) n F = let x = from_formed e n F.1 in (every_node F.0 (x.0, tt), every_node tt (x.1, tt), x.2)
  from_formed (mu w i e) n F = let x = from_formed e (suc n) F.3 in (every_node F.0 (x.0, tt), every_node (F.1, F.2) (x.1, tt), x.2)
  from_formed (literal k m) n F = (every_node F.0 tt, every_node tt tt, tt)
  from_formed (reckon plus w a b) n F =
      let x = from_formed a n F.1 in
      let y = from_formed b n F.2 in
      (every_node F.0 (x.0, (y.0, tt)), every_node tt (x.1, (y.1, tt)), (x.2, y.2))
  from_formed (reckon (less i) w a b) n F =
      let x = from_formed a n F.3 in
      let y = from_formed b n F.4 in
      (every_node F.0 (x.0, (y.0, tt)), every_node (F.1, F.2) (x.1, (y.1, tt)), (x.2, y.2))

  -- and back, over a lattice: the groups of a secure property are in the table
  pub formed_questions : Lattice (groups_of g) → (e : Term) → Formed g t 0 e
      → (q15 g (encode e) ≡ accepted tt) × (q16 t (encode e) ≡ accepted tt) × (q19 (encode e) ≡ accepted tt) × (q36_objects g (encode e) ≡ accepted tt)
  formed_questions X e F =
      let x = from_formed e 0 F in
      let q = grouped_questions g X e x.0 in
      (q.0, q16_encode t e x.1, q19_encode e x.2, q.1)
