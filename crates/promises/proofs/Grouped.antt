-- What questions 15 and 36 ask of an encoding, said of each node of its term, and back.
use Rattle.std.proofs.Common.{◌≡◌, refl, ℕ, ◌<◌, ltb-true, lt-ltb, nat_lt, IsTrue}
use Rattle.calculus.specs.Security.{Property}
use Rattle.calculus.specs.Groups.{Lattice}
use Rattle.calculus.specs.Terms.{first, second, plus, Term, var, unit, lam, pair, inj, app, proj, case, protect, mu}
use Rattle.calculus.specs.Terms.{literal, reckon}
use Rattle.calculus.proofs.Booleans.{both, and_left, and_right}
use Rattle.rules.specs.Answer.{Bytes, accepted}
use Rattle.rules.specs.Groups.{rows, leq, groups_of}
use Rattle.rules.specs.Script.{encode, ok36_object, q15, q36_objects}
use Rattle.rules.proofs.Nodes.{Every, every_map}
use Rattle.rules.proofs.TermCode.{term_shape, term_head}
use Rattle.rules.proofs.RecordFields.{ok36_object_record}
use Rattle.rules.proofs.NodeFacts.{Label, Labelled}
use Rattle.rules.proofs.NodeQuestions.{asked_of_nodes, asked_of_records, q15_labelled, q15_encode}
use Rattle.promises.proofs.Formed.{Secure, SecureI}

module _ (g : Bytes) where
  abbrev pub Grouped : Term → Type 0
  Grouped (var n) = Unit {0}
  Grouped (unit k) = Secure g k
  Grouped (lam k i e) = Secure g k
  Grouped (pair k a b) = Secure g k
  Grouped (inj d k i e) = Secure g k
  Grouped (app w f a) = w < rows g
  Grouped (proj d w e) = w < rows g
  Grouped (case w i e a b) = w < rows g
  Grouped (protect m e) = SecureI g m
  Grouped (mu w i e) = w < rows g
  Grouped (literal k n) = Secure g k
  Grouped (reckon o w a b) = w < rows g

  -- question 36 of a node's record
  abbrev Created : Term → Type 0
  Created c = IsTrue (ok36_object g (term_head c) 0)

  readers_in_order : (k : Property) → Secure g k → IsTrue (leq g k.ir k.r)
  readers_in_order k h = and_left _ _ h

  creators_in_order : (k : Property) → Secure g k → IsTrue (leq g k.ic k.c)
  creators_in_order k h = and_right (leq g k.ir k.r) _ h

  grouped : (c : Term) → Labelled g c → Created c → Grouped c
  unfolding ok36_object
  grouped (var n) l h = tt
  grouped (inj first k i e) l h = both l.4 h
  grouped (app w f a) l h = l
  grouped (proj d w e) l h = l
  grouped (case w i e a b) l h = l
  grouped (protect m e) l h = both (lt-ltb _ _ l.0) (lt-ltb _ _ l.1)
  grouped (mu w i e) l h = l
  grouped (reckon o w a b) l h = l
  grouped _ l h = both l.4 h

  pub questions_grouped : (e : Term) → q15 g (encode e) ≡ accepted tt → q36_objects g (encode e) ≡ accepted tt → Every term_shape Grouped e
  questions_grouped e a b =
      let L = q15_labelled g e a in
      let C = asked_of_nodes 36 (ok36_object g) (λ s i. ok36_object_record s i g) e b in
      record { at = λ j c p. grouped c (L.at j c p) (C.at j c p) }

  -- back, over a lattice: what is at or below another is a group, and so is the other
  module _ (X : Lattice (groups_of g)) where
    lower : (a b : ℕ) → IsTrue (leq g a b) → a < rows g
    lower a b h = ltb-true a (rows g) (X.groups_only a b h)

    upper : (a b : ℕ) → IsTrue (leq g a b) → b < rows g
    upper a b h = lower b b (X.self_right a b h)

    label : (k : Property) → Secure g k → Label g k
    label k h =
        let p = readers_in_order k h in
        let q = creators_in_order k h in
        (upper _ _ p, lower _ _ p, upper _ _ q, lower _ _ q, p)

    labelled : (c : Term) → Grouped c → Labelled g c
    labelled (var n) h = tt
    labelled (unit k) h = label k h
    labelled (lam k i e) h = label k h
    labelled (pair k a b) h = label k h
    labelled (inj d k i e) h = label k h
    labelled (app w f a) h = h
    labelled (proj d w e) h = h
    labelled (case w i e a b) h = h
    labelled (protect m e) h = (ltb-true _ _ (and_left _ _ h), ltb-true _ _ (and_right (nat_lt m.ir (rows g)) _ h))
    labelled (mu w i e) h = h
    labelled (literal k n) h = label k h
    labelled (reckon o w a b) h = h

  created : (c : Term) → Grouped c → Created c
  unfolding ok36_object
  created (unit k) h = creators_in_order k h
  created (lam k i e) h = creators_in_order k h
  created (pair k a b) h = creators_in_order k h
  created (inj first k i e) h = creators_in_order k h
  created (inj second k i e) h = creators_in_order k h
  created (proj first w e) h = refl
  created (literal k n) h = creators_in_order k h
  created (reckon plus w a b) h = refl
  created _ h = refl

  pub grouped_questions : Lattice (groups_of g) → (e : Term) → Every term_shape Grouped e → (q15 g (encode e) ≡ accepted tt) × (q36_objects g (encode e) ≡ accepted tt)
  grouped_questions X e h =
      (q15_encode g e (every_map (labelled X) h), asked_of_records 36 (ok36_object g) (λ s i. ok36_object_record s i g) e (every_map created h))
