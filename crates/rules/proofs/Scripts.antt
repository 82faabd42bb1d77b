-- A script that passes questions 13, 14 and 17 is the encoding of its term, and every encoding passes 17.
use Rattle.std.proofs.Common.{◌≡◌, ap, sym, subst, ◌∙◌, List, [], ◌++◌, append-nil, ℕ, ◌+◌, ◌*◌, ◌-◌, ◌%◌, ◌<◌, arith}
use Rattle.std.proofs.Common.{eqb-true, eq-eqb, length, get_or, drop, drop_of_length-le}
use Rattle.std.proofs.Math.Bool.{and-eq-true_iff}
use Rattle.std.proofs.Math.Option.{some}
use Rattle.calculus.specs.Terms.{Term}
use Rattle.rules.specs.Answer.{Bytes, Octets, accepted}
use Rattle.rules.specs.Types.{end_after}
use Rattle.rules.specs.Script.{encode, size, term, no_term, arity, kind, records, term_end, ok14, q13, q14, q17}
use Rattle.rules.proofs.Search.{each_all}
use Rattle.rules.proofs.Asked.{ask_true, exactly_some}
use Rattle.rules.proofs.Parts.{record_byte}
use Rattle.rules.proofs.PrefixLaws.{encode_length, round_trip, tree_end}
use Rattle.rules.proofs.WayBack.{Tree, way_back, one_tree}
use Rattle.rules.proofs.TermCode.{term_code, term_prefix}
use Rattle.rules.proofs.RecordFields.{ok14_record}

-- Reading back and uniqueness, for terms.
pub term_of_encode : (e : Term) (s : Bytes) → term (encode e ++ s) ≡ e
unfolding term
term_of_encode e s = ap (λ ts. get_or ts 0 no_term) (round_trip term_prefix e s)

pub term_encode : (e : Term) → term (encode e) ≡ e
term_encode e = ap term (sym (append-nil (encode e))) ∙ term_of_encode e []

pub encode_injective : (e e' : Term) → encode e ≡ encode e' → e ≡ e'
encode_injective e e' h = sym (term_encode e) ∙ ap term h ∙ term_encode e'

pub records_encode : (e : Term) → records (encode e) ≡ size e
records_encode e = omega (arith, encode_length term_code e)

-- s is the encoding of its term
pub record Whole (s : Bytes) : Type 0 where
  pub encoded : encode (term s) ≡ s
  pub sized : size (term s) ≡ records s

pub encode_whole : (e : Term) → Whole (encode e)
encode_whole e = record { encoded = ap encode (term_encode e); sized = ap size (term_encode e) ∙ sym (records_encode e) }

whole_tree : (s : Bytes) → length s % 8 ≡ 0 → Tree term_code s 0 (records s) → Whole s
whole_tree s l t =
    let d : drop (8 * records s) s ≡ [] = drop_of_length-le s {i = 8 * records s} (omega arith) in
    let p : s ≡ encode t.tree = t.bytes ∙ ap (λ b. encode t.tree ++ b) d ∙ append-nil (encode t.tree) in
    subst Whole (sym p) (encode_whole t.tree)

pub whole : (rooms : List ℕ) (s : Bytes) → Octets s → q13 rooms s ≡ accepted tt → q14 s ≡ accepted tt → q17 s ≡ accepted tt → Whole s
unfolding term_end
whole rooms s o q13_yes q14_yes q17_yes =
    let l : length s % 8 ≡ 0 = eqb-true _ 0 ((and-eq-true_iff _ _).0 (ask_true 13 0 _ q13_yes)).0 in
    let walk : end_after (λ j. arity (kind s j)) (records s - 0) 1 0 ≡ some (records s) = exactly_some (records s) (term_end s 0) q17_yes in
    whole_tree s l
    (one_tree
    (way_back term_prefix s (records s - 0) 1 0 (records s) (omega arith) walk
    (λ j a b. record { passes = ok14_record s j ∙ each_all 14 (records s) (ok14 s) q14_yes j b; low = subst (λ x. x < 256) (sym (record_byte 8 s j 4 (omega arith))) (o (8 * j + 4)) })))

-- The other way: a term that was reached passes 17 again.
pub q17_encode : (e : Term) → q17 (encode e) ≡ accepted tt
unfolding term_end
q17_encode e = cc (tree_end term_prefix e (encode e) 0 (records (encode e) - 0) [] (omega (arith, records_encode e)) (sym (append-nil (encode e))), eq-eqb (0 + size e) (records (encode e)) (omega (arith, records_encode e)))
