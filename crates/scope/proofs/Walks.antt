-- A walk over a term, operand by operand: what is scanned, and what is left.
use Rattle.std.proofs.Common.{◌≡◌, refl, ap, sym, ◌∙◌, length, List, [], ◌∷◌, ◌++◌, ℕ, suc, ◌+◌, add-one, arith}
use Rattle.std.proofs.Math.Nat.{add-zero}
use Rattle.std.proofs.lemmas.List.{append-nil}
use Rattle.calculus.specs.Terms.{first, second, plus, less, Term, var, unit, lam, pair, inj, app, proj, case, protect}
use Rattle.calculus.specs.Terms.{mu, literal, reckon}
use Rattle.rules.specs.Answer.{Bytes, Answer, accepted, refused, ask, ◌>>◌}
use Rattle.rules.specs.Script.{records, term, encode, size, depths_from, binders_from}
use Rattle.rules.proofs.TermCode.{term_operands}
use Rattle.rules.proofs.Counts.{depths_length, binders_length}
use Rattle.answer.proofs.Passed.{then_asked}
use Rattle.records.specs.Binders.{binds}
use Rattle.records.proofs.Passing.{Passed, Ahead, started, passed_more, none_left}
use Rattle.records.proofs.Stands.{kind_of, operands, start_records}
use Rattle.records.proofs.WeightOf.{weight_of}
use Rattle.scope.specs.Walk.{WalkCount, depth_count, binder_count, question_of_count, root, scan_records, count_within}
use Rattle.scope.specs.Walk.{numbers_from, increment, count_question}
use Rattle.scope.proofs.Scans.{then, past_then, scan_first, scan_nothing, scan_append, scan_end, scan_each, finish}

-- the numbers of the records of `es`, the operands from the j-th on of a record of weight m, kind k and number n
abbrev numbers : (q : WalkCount) (m k n j : ℕ) → List Term → List ℕ
numbers q m k n j [] = []
numbers q m k n j (e ∷ es) = numbers_from q (n + increment q m k j) e ++ numbers q m k n (suc j) es

numbers_are : (q : WalkCount) (n : ℕ) (e : Term) → numbers_from q n e ≡ n ∷ numbers q (weight_of e) (kind_of e) n 0 (term_operands e)
unfolding depths_from binders_from binds
numbers_are depth_count n (var m) = refl
numbers_are binder_count n (var m) = refl
numbers_are depth_count n (unit k) = refl
numbers_are binder_count n (unit k) = refl
numbers_are depth_count n (literal k m) = refl
numbers_are binder_count n (literal k m) = refl
numbers_are depth_count n (case w i e a b) = simp append-nil
numbers_are binder_count n (lam k i e) = simp (add-one, append-nil)
numbers_are binder_count n (pair k a b) = simp (add-zero, append-nil)
numbers_are binder_count n (inj first k i e) = simp (add-zero, append-nil)
numbers_are binder_count n (inj second k i e) = simp (add-zero, append-nil)
numbers_are binder_count n (app w a b) = simp (add-zero, append-nil)
numbers_are binder_count n (proj first w e) = simp (add-zero, append-nil)
numbers_are binder_count n (proj second w e) = simp (add-zero, append-nil)
numbers_are binder_count n (case w i e a b) = simp (add-zero, add-one, append-nil)
numbers_are binder_count n (protect m e) = simp (add-zero, append-nil)
numbers_are binder_count n (mu w i e) = simp (add-one, append-nil)
numbers_are binder_count n (reckon plus w a b) = simp (add-zero, append-nil)
numbers_are binder_count n (reckon (less i) w a b) = simp (add-zero, append-nil)
numbers_are depth_count n _ = simp (add-one, append-nil)

numbers_length : (q : WalkCount) (n : ℕ) (e : Term) → length (numbers_from q n e) ≡ size e
numbers_length depth_count n e = depths_length n e
numbers_length binder_count n e = binders_length n e

-- the scan of the term u at record i, whose record has number n
abbrev pub scanned : (q : WalkCount) (s : Bytes) (i n : ℕ) (u : Term) → Answer ℕ
scanned q s i n u = scan_records (question_of_count q) (count_within q s) i (numbers_from q n u)

-- the record itself is asked, and then its operands
pub asked_first : (q : WalkCount) (s : Bytes) (i n : ℕ) (u : Term)
    → scanned q s i n u ≡ ◌>>◌ (ask (question_of_count q) i (count_within q s i n)) (scan_records (question_of_count q) (count_within q s) (i + 1) (numbers q (weight_of u) (kind_of u) n 0 (term_operands u)))
asked_first q s i n u =
    let p : suc i ≡ i + 1 = omega arith in
    let ns = numbers q (weight_of u) (kind_of u) n 0 (term_operands u) in
    ap (scan_records (question_of_count q) (count_within q s) i) (numbers_are q n u) ∙ scan_first (question_of_count q) (count_within q s) i n ns
    ∙ ap (λ x. ◌>>◌ (ask (question_of_count q) i (count_within q s i n)) (scan_records (question_of_count q) (count_within q s) x ns)) p

-- the first j operands of u are scanned, and the next one stands at record `next`
pub record Reached (q : WalkCount) (s : Bytes) (i n : ℕ) (u : Term) (j next : ℕ) : Type 0 where
  pub passed : Passed i u j next
  pub goes_on : scanned q s i n u ≡ scan_records (question_of_count q) (count_within q s) next (numbers q (weight_of u) (kind_of u) n j passed.after)

pub reach : (q : WalkCount) (s : Bytes) (i n : ℕ) (u : Term) → accepted tt ≡ ask (question_of_count q) i (count_within q s i n) → Reached q s i n u 0 (i + 1)
reach q s i n u h = record { passed = started i u; goes_on = asked_first q s i n u ∙ sym (then_asked _ _ h refl) }

module _ {q : WalkCount} {s : Bytes} {i n : ℕ} {u : Term} {j next : ℕ} (p : Reached q s i n u j next) where
  pub end : j ≡ operands u → accepted next ≡ scanned q s i n u
  end h =
      sym (p.goes_on ∙ ap (λ l. scan_records (question_of_count q) (count_within q s) next (numbers q (weight_of u) (kind_of u) n j l)) (none_left p.passed h) ∙ scan_nothing (question_of_count q) (count_within q s) next)

  -- what the walk over the next operand, whose number is m, says
  module _ (a : Ahead p.passed) (m : ℕ) (m_is : m ≡ n + increment q (weight_of u) (kind_of u) j) where
    onward : scanned q s i n u ≡ then (scanned q s next m a.operand) (λ k. scan_records (question_of_count q) (count_within q s) k (numbers q (weight_of u) (kind_of u) n (suc j) a.later))
    onward =
        p.goes_on ∙ ap (λ l. scan_records (question_of_count q) (count_within q s) next (numbers q (weight_of u) (kind_of u) n j l)) a.is
        ∙ scan_append (question_of_count q) (count_within q s) next (numbers_from q (n + increment q (weight_of u) (kind_of u) j) a.operand) (numbers q (weight_of u) (kind_of u) n (suc j) a.later)
        ∙ ap (λ y. then (scanned q s next y a.operand) (λ k. scan_records (question_of_count q) (count_within q s) k (numbers q (weight_of u) (kind_of u) n (suc j) a.later))) (sym m_is)

    pub stop : {x y : ℕ} → refused x y ≡ scanned q s next m a.operand → refused x y ≡ scanned q s i n u
    stop h = ap (λ y. then y (λ k. scan_records (question_of_count q) (count_within q s) k (numbers q (weight_of u) (kind_of u) n (suc j) a.later))) h ∙ sym onward

    pub pass : (k : ℕ) → accepted k ≡ scanned q s next m a.operand → Reached q s i n u (j + 1) k
    pass k h =
        let e : scanned q s next m a.operand ≡ accepted k = sym h in
        let z : k ≡ next + size a.operand =
        omega (arith, scan_end (question_of_count q) (count_within q s) next k _ e, numbers_length q m a.operand) in
        let w : suc j ≡ j + 1 = omega arith in
        record {
          passed = passed_more p.passed a k z;
          goes_on =
              onward ∙ past_then _ k (λ k. scan_records (question_of_count q) (count_within q s) k (numbers q (weight_of u) (kind_of u) n (suc j) a.later)) e
              ∙ ap (λ y. scan_records (question_of_count q) (count_within q s) k (numbers q (weight_of u) (kind_of u) n y a.later)) w;
        }

-- a walk over the whole script asks each record
pub whole : (q : WalkCount) (s : Bytes) (n : ℕ) (o : Answer ℕ) → encode (term s) ≡ s → n ≡ root q → o ≡ scanned q s 0 n (term s) → finish o ≡ count_question q s
whole q s n o h f w =
    rw (← f) (scan_each (question_of_count q) (count_within q s) 0 o _ (records s) w (start_records s h ∙ sym (numbers_length q n (term s))))
