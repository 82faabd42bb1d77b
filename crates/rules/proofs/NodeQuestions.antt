-- Questions 14, 15 and 16 of an encoding, as facts about every node of its tree.
use Rattle.std.proofs.Common.{◌≡◌, ap, sym, ◌∙◌, Bool, true, [], ℕ, ◌+◌, arith, zero-add}
use Rattle.calculus.specs.Terms.{Term}
use Rattle.rules.specs.Answer.{Bytes, accepted, each}
use Rattle.rules.specs.Limits.{script_width}
use Rattle.rules.specs.Script.{encode, records, ok14, ok15, ok16, q14, q15, q16}
use Rattle.rules.proofs.Search.{each_all, each_accepted}
use Rattle.rules.proofs.Prefix.{record_at}
use Rattle.rules.proofs.PrefixLaws.{alone}
use Rattle.rules.proofs.Nodes.{Every, every_of, every_map, to_records, to_nodes}
use Rattle.rules.proofs.TermCode.{term_shape, term_code, term_head}
use Rattle.rules.proofs.RecordFields.{ok14_record, ok15_record, ok16_record}
use Rattle.rules.proofs.NodeFacts.{Labelled, labelled, labelled_ok15, Named, named, named_ok16}
use Rattle.rules.proofs.Scripts.{records_encode}

-- a question that looks at one record
module _ (q : ℕ) (ok : Bytes → ℕ → Bool) (own : (s : Bytes) (i : ℕ) → ok (record_at script_width s i) 0 ≡ ok s i) (e : Term) where
  pub asked_of_nodes : each q (records (encode e)) (ok (encode e)) ≡ accepted tt → Every term_shape (λ c. ok (term_head c) 0 ≡ true) e
  asked_of_nodes h =
      to_nodes term_code (λ b. ok b 0 ≡ true) (encode e) 0 e [] (alone term_code e)
      (λ j l. own (encode e) (0 + j) ∙ each_all q (records (encode e)) (ok (encode e)) h (0 + j) (omega (arith, records_encode e)))

  pub asked_of_records : Every term_shape (λ c. ok (term_head c) 0 ≡ true) e → each q (records (encode e)) (ok (encode e)) ≡ accepted tt
  asked_of_records h =
      each_accepted q (records (encode e)) (ok (encode e))
      (λ k l. ap (ok (encode e)) (sym (zero-add k)) ∙ sym (own (encode e) (0 + k))
      ∙ to_records term_code (λ b. ok b 0 ≡ true) (encode e) 0 e [] (alone term_code e) h k (omega (arith, records_encode e)))

pub head_ok14 : (e : Term) → ok14 (term_head e) 0 ≡ true
unfolding ok14
head_ok14 e = grind arith

-- every encoding passes 14, so a term that was reached passes it again
pub q14_encode : (e : Term) → q14 (encode e) ≡ accepted tt
q14_encode e = asked_of_records 14 ok14 ok14_record e (every_of head_ok14 e)

pub q15_labelled : (g : Bytes) (e : Term) → q15 g (encode e) ≡ accepted tt → Every term_shape (Labelled g) e
q15_labelled g e q = every_map (labelled g) (asked_of_nodes 15 (ok15 g) (λ s i. ok15_record s i g) e q)

pub q15_encode : (g : Bytes) (e : Term) → Every term_shape (Labelled g) e → q15 g (encode e) ≡ accepted tt
q15_encode g e h = asked_of_records 15 (ok15 g) (λ s i. ok15_record s i g) e (every_map (labelled_ok15 g) h)

pub q16_named : (t : Bytes) (e : Term) → q16 t (encode e) ≡ accepted tt → Every term_shape (Named t) e
q16_named t e q = every_map (named t) (asked_of_nodes 16 (ok16 t) (λ s i. ok16_record s i t) e q)

pub q16_encode : (t : Bytes) (e : Term) → Every term_shape (Named t) e → q16 t (encode e) ≡ accepted tt
q16_encode t e h = asked_of_records 16 (ok16 t) (λ s i. ok16_record s i t) e (every_map (named_ok16 t) h)
