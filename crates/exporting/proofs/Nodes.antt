-- The records of a term in the old office form, by its operands, whatever its kind.
use Rattle.std.proofs.Common.{◌≡◌, refl, sym, ap, ap₂, ◌∙◌, List, [], ◌∷◌, ◌++◌, append-nil, ℕ, suc, ◌+◌, ◌*◌, ◌-◌, ◌/◌}
use Rattle.std.proofs.Common.{◌%◌, ◌<◌, arith, add-one, add-zero, length, length-append}
use Rattle.calculus.specs.Terms.{first, second, plus, less, Term, var, unit, lam, pair, inj, app, proj, case, protect}
use Rattle.calculus.specs.Terms.{mu, literal, reckon}
use Rattle.rules.specs.Answer.{Bytes, byte}
use Rattle.rules.specs.Limits.{office_width}
use Rattle.rules.specs.Script.{size, kind, r, ir, number}
use Rattle.rules.specs.Names.{Named, level_names}
use Rattle.rules.specs.Office.{office_record, office}
use Rattle.rules.proofs.Prefix.{joined, total}
use Rattle.rules.proofs.TermCode.{term_operands, term_head, two_bytes}
use Rattle.rules.proofs.RecordFields.{r_is, ir_is}
use Rattle.rules.proofs.Exports.{office_head, office_length}
use Rattle.records.specs.Binders.{binds}
use Rattle.records.specs.Place.{At}
use Rattle.records.proofs.Stands.{kind_of, stands_kind}
use Rattle.records.proofs.Made.{own_record, number_of, number_at}
use Rattle.exporting.specs.Numbers.{number_in, first_in, second_in}

-- the operands from the j-th on of a record of this kind with n binders outside it
abbrev pub named_from : ℕ → ℕ → ℕ → List Term → List Named
named_from kind n j [] = []
named_from kind n j (e ∷ es) = level_names (n + binds kind j) e ∷ named_from kind n (suc j) es

abbrev pub offices : List Named → Bytes
offices es = joined office es

pub office_node : (n : ℕ) (e : Term) → office (level_names n e) ≡ office_head (n, e) ++ offices (named_from (kind_of e) n 0 (term_operands e))
unfolding office level_names binds
office_node n (var m) = refl
office_node n (unit k) = refl
office_node n (lam k i e) = simp (add-one, append-nil)
office_node n (inj first k i e) = simp (add-zero, append-nil)
office_node n (proj first w e) = simp (add-zero, append-nil)
office_node n (case w i e a b) = simp (add-zero, add-one, append-nil)
office_node n (mu w i e) = simp (add-one, append-nil)
office_node n (literal k m) = refl
office_node n (reckon plus w a b) = simp (add-zero, append-nil)
office_node n _ = simp (add-zero, append-nil)

pub named_append : (kind n j : ℕ) (xs ys : List Term) → named_from kind n j (xs ++ ys) ≡ named_from kind n j xs ++ named_from kind n (j + length xs) ys
named_append kind n j [] ys = let p : j ≡ j + 0 = omega arith in ap (λ x. named_from kind n x ys) p
named_append kind n j (e ∷ xs) ys =
    let p : suc j + length xs ≡ j + suc (length xs) = omega arith in
    ap (λ es. level_names (n + binds kind j) e ∷ es) (named_append kind n (suc j) xs ys ∙ ap (λ x. named_from kind n (suc j) xs ++ named_from kind n x ys) p)

pub offices_length : (kind n j : ℕ) (es : List Term) → length (offices (named_from kind n j es)) ≡ office_width * total size es
offices_length kind n j [] = refl
offices_length kind n j (e ∷ es) =
    length-append (office (level_names (n + binds kind j) e)) (offices (named_from kind n (suc j) es))
    ∙ omega (arith, office_length (n + binds kind j) e, offices_length kind n (suc j) es)

-- what a record of these fields is in the old office form
abbrev pub record_of : ℕ → ℕ → ℕ → ℕ → ℕ → Bytes
record_of k a b m n = office_record k a b (number_in k m) (first_in k m n) (second_in k n)

-- a number of two bytes is that number
kept : (k a b m n x y : ℕ) → office_record k a b (m % 256 + 256 * (m / 256)) x y ≡ office_record k a b m x y
kept k a b m n x y = ap (λ z. office_record k a b z x y) (two_bytes m)

head_of : (n : ℕ) (e : Term) → record_of (kind_of e) (r (term_head e) 0) (ir (term_head e) 0) (number_of e) n ≡ office_head (n, e)
head_of n (var m) = ap (λ z. office_record 0 0 0 0 (n - suc z) 0) (two_bytes m)
head_of n (lam k i e) = kept 2 k.r k.ir i n n 0
head_of n (inj first k i e) = kept 4 k.r k.ir i n 0 0
head_of n (inj second k i e) = kept 5 k.r k.ir i n 0 0
head_of n (proj first w e) = refl
head_of n (case w i e a b) = kept 9 w 0 i n n n
head_of n (mu w i e) = kept 11 w 0 i n n 0
head_of n (literal k m) = kept 12 k.r k.ir m n 0 0
head_of n (reckon (less i) w a b) = kept 14 w 0 i n 0 0
head_of n _ = refl

-- the record of a term that stands there
pub record_here : {s : Bytes} {i : ℕ} {e : Term} (n : ℕ) → At s i e → record_of (kind s i) (r s i) (ir s i) (number s i) n ≡ office_head (n, e)
record_here {s} {i} {e} n a =
    let own = own_record a in
    let r_here : r s i ≡ r (term_head e) 0 = sym (r_is s i) ∙ ap (λ (b : Bytes). r b 0) own in
    let ir_here : ir s i ≡ ir (term_head e) 0 = sym (ir_is s i) ∙ ap (λ (b : Bytes). ir b 0) own in
    rw (stands_kind s i e a, r_here, ir_here, number_at a) (head_of n e)
