-- A term is made of its own record and its operands, so its kind alone tells its form.
use Rattle.std.proofs.Common.{◌≡◌, refl, ap, sym, subst, ◌∙◌, ℕ}
use Rattle.calculus.specs.Security.{Property, Indirect}
use Rattle.calculus.specs.Terms.{first, second, plus, less, Term, var, unit, lam, pair, inj, app, proj, case, protect}
use Rattle.calculus.specs.Terms.{mu, literal, reckon}
use Rattle.rules.specs.Answer.{Bytes}
use Rattle.rules.specs.Limits.{script_width}
use Rattle.rules.specs.Script.{r, ir, c, ic, number, make}
use Rattle.rules.proofs.Prefix.{record_at}
use Rattle.rules.proofs.PrefixLaws.{record_is}
use Rattle.rules.proofs.RecordFields.{r_is, ir_is, number_is, c_is, ic_is}
use Rattle.rules.proofs.TermCode.{term_head, term_code, two_bytes}
use Rattle.records.specs.Place.{At}
use Rattle.records.specs.Labels.{property_at, influence_at}
use Rattle.records.specs.Operands.{first_operand, second_operand}
use Rattle.records.proofs.Stands.{kind_of}
use Rattle.records.proofs.ThirdOperand.{third_operand}

-- the number of a term's own record
abbrev pub number_of : Term → ℕ
number_of e = number (term_head e) 0

-- its property and its influence, where it is an object or a protect
abbrev pub property_of : Term → Property
property_of e = property_at (term_head e) 0

abbrev pub influence_of : Term → Indirect
influence_of e = influence_at (term_head e) 0

-- a term of kind k with the fields and the operands of e
abbrev pub form : ℕ → Term → Term
form k e =
    make k (r (term_head e) 0) (ir (term_head e) 0) (number_of e) (c (term_head e) 0) (ic (term_head e) 0) (first_operand e) (second_operand e) (third_operand e)

made : (e : Term) → e ≡ form (kind_of e) e
made (var n) = ap var (sym (two_bytes n))
made (lam k i e) = ap (λ n. lam k n e) (sym (two_bytes i))
made (inj first k i e) = ap (λ n. inj first k n e) (sym (two_bytes i))
made (inj second k i e) = ap (λ n. inj second k n e) (sym (two_bytes i))
made (proj first w e) = refl
made (case w i e a b) = ap (λ n. case w n e a b) (sym (two_bytes i))
made (mu w i e) = ap (λ n. mu w n e) (sym (two_bytes i))
made (literal k n) = ap (literal k) (sym (two_bytes n))
made (reckon (less i) w a b) = ap (λ n. reckon (less n) w a b) (sym (two_bytes i))
made _ = refl

of_kind : (k : ℕ) (e : Term) → kind_of e ≡ k → e ≡ form k e
of_kind k e h = made e ∙ ap (λ n. form n e) h

-- what is shown of the form that e's kind tells is shown of e
pub by_kind : (P : Term → Type 0) (k : ℕ) (e : Term) → kind_of e ≡ k → P (form k e) → P e
by_kind P k e h p = subst P (sym (of_kind k e h)) p

-- the own record of a term that stands at record i, and what is in it
pub own_record : {s : Bytes} {i : ℕ} {e : Term} → At s i e → record_at script_width s i ≡ term_head e
own_record {s} {i} {e} a = record_is term_code s i e a.rest a.stands

pub number_at : {s : Bytes} {i : ℕ} {e : Term} → At s i e → number s i ≡ number_of e
number_at {s} {i} a = sym (number_is s i) ∙ ap (λ b. number b 0) (own_record a)

pub property_stands : {s : Bytes} {i : ℕ} {e : Term} → At s i e → property_at s i ≡ property_of e
property_stands {s} {i} a = sym (λ x. record { r = r_is s i x; ir = ir_is s i x; c = c_is s i x; ic = ic_is s i x }) ∙ ap (λ b. property_at b 0) (own_record a)

pub influence_stands : {s : Bytes} {i : ℕ} {e : Term} → At s i e → influence_at s i ≡ influence_of e
influence_stands {s} {i} a = sym (λ x. record { ir = ir_is s i x; ic = ic_is s i x }) ∙ ap (λ b. influence_at b 0) (own_record a)
