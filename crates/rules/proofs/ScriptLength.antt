-- Question 13: what it says of a script, and which encodings pass it.
use Rattle.std.proofs.Common.{◌≡◌, List, ℕ, ◌%◌, ◌≤◌, ◌<◌, arith, eqb-true, leb-true, eq-eqb, le-leb, nat_le, length}
use Rattle.std.proofs.Common.{get_or}
use Rattle.std.proofs.Math.Bool.{and-eq-true_iff}
use Rattle.calculus.specs.Terms.{Term}
use Rattle.rules.specs.Answer.{Bytes, accepted}
use Rattle.rules.specs.Limits.{script_width, script_limit}
use Rattle.rules.specs.Script.{encode, size, records, q13}
use Rattle.rules.proofs.Search.{all_below_all, all_below_true}
use Rattle.rules.proofs.Asked.{ask_true}
use Rattle.rules.proofs.PrefixLaws.{encode_length, size_positive}
use Rattle.rules.proofs.TermCode.{term_code}
use Rattle.rules.proofs.Scripts.{records_encode}

pub record Fitting (rooms : List ℕ) (s : Bytes) : Type 0 where
  pub whole : length s % script_width ≡ 0
  pub some_record : 1 ≤ records s
  pub limited : records s ≤ script_limit
  pub roomy : (i : ℕ) → i < length rooms → length s ≤ get_or rooms i 0

pub q13_fitting : (rooms : List ℕ) (s : Bytes) → q13 rooms s ≡ accepted tt → Fitting rooms s
q13_fitting rooms s q =
    let a = (and-eq-true_iff _ _).0 (ask_true 13 0 _ q) in
    let b = (and-eq-true_iff _ _).0 a.1 in
    let c = (and-eq-true_iff _ _).0 b.1 in
    record {
      whole = eqb-true (length s % script_width) 0 a.0;
      some_record = leb-true 1 (records s) b.0;
      limited = leb-true (records s) script_limit c.0;
      roomy = λ i l. leb-true (length s) (get_or rooms i 0) (all_below_all (length rooms) (λ k. nat_le (length s) (get_or rooms k 0)) c.1 i l);
    }

pub fitting_q13 : (rooms : List ℕ) (s : Bytes) → Fitting rooms s → q13 rooms s ≡ accepted tt
fitting_q13 rooms s f = grind (arith, eq-eqb, le-leb, all_below_true, nat_le)

pub q13_encode : (rooms : List ℕ) (e : Term) → size e ≤ script_limit → ((i : ℕ) → i < length rooms → length (encode e) ≤ get_or rooms i 0)
    → q13 rooms (encode e) ≡ accepted tt
q13_encode rooms e l r =
    fitting_q13 rooms (encode e)
    (record {
      whole = omega (arith, encode_length term_code e);
      some_record = omega (arith, records_encode e, size_positive term_code e);
      limited = omega (arith, records_encode e);
      roomy = r;
    })
