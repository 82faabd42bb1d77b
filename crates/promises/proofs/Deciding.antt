-- A call that asks its questions one after another answers its yes, or by the first no.
use Rattle.std.proofs.Common.{◌≡◌, refl, sym, ap, subst, ◌∙◌, Bool, true, false, not, List, [], ◌∷◌, ◌++◌, ℕ, nat_eq}
use Rattle.std.proofs.Common.{arith}
use Rattle.std.proofs.Math.Option.{none, some, Option}
use Rattle.rules.specs.Answer.{Answer, accepted, refused, ◌>>=◌, ◌>>◌, ask, refused_at, each, first_below}
use Rattle.rules.specs.Script.{exactly}
use Rattle.rules.proofs.Asked.{regroup}
use Rattle.promises.proofs.Answers.{accepted≢refused, number_inj, place_inj}
use Rattle.promises.specs.Questions.{Question, question, AllYes, none_left, yes, FirstNo, first_no_here, first_no_later}
use Rattle.promises.specs.Questions.{QuestionsDecide, Checks}

-- one question, which refuses with its own number
pub data Own (n : ℕ) : Answer (Unit {0}) → Type 0 where
  own_yes : Own n (accepted tt)
  own_no : {place : ℕ} → Own n (refused n place)

pub ask_own : (n place : ℕ) (b : Bool) → Own n (ask n place b)
ask_own n place true = own_yes
ask_own n place false = own_no

pub each_own : (n count : ℕ) (ok : ℕ → Bool) → Own n (each n count ok)
each_own n count ok = go (first_below (λ i. not (ok i)) count)
  where
    go : (o : Option ℕ) → Own n (refused_at n o)
    go none = own_yes
    go (some place) = own_no

pub exactly_own : (n : ℕ) (o : Option ℕ) → Own 17 (exactly n o)
exactly_own n none = own_no
exactly_own n (some e) = ask_own 17 e (nat_eq e n)

-- an answer that comes of the questions: its yes, or the refusal by the first no
pub data Decided {A : Type 0} (qs : List Question) : Answer A → Type 0 where
  says_yes : {a : A} → AllYes qs → Decided qs (accepted a)
  refuses : {q place : ℕ} → FirstNo qs q place → Decided qs (refused q place)

-- All yes and a first no exclude each other, and there is one first no: so the answer tells which of them is the case.
not_both : {P : Type 0} {qs : List Question} {q place : ℕ} → AllYes qs → FirstNo qs q place → P
not_both (yes h Y) (first_no_here n) = accepted≢refused (sym h ∙ n)
not_both (yes h Y) (first_no_later k F) = not_both Y F
not_both none_left F = elim F [ ]

same_no : {A : Type 0} {qs : List Question} {q q' place place' : ℕ} → FirstNo qs q place → FirstNo qs q' place'
    → ◌≡◌ {A = Answer A} (refused q place) (refused q' place')
same_no {q = q} (first_no_here n) (first_no_here m) = ap (refused q) (place_inj (sym n ∙ m))
same_no (first_no_here n) (first_no_later h F) = accepted≢refused (sym h ∙ n)
same_no (first_no_later h F) (first_no_here n) = accepted≢refused (sym h ∙ n)
same_no (first_no_later h F) (first_no_later k E) = same_no F E

abbrev Refusal : {A : Type 0} → List Question → Answer A → Type 0
Refusal qs (accepted a) = ⊥
Refusal qs (refused q place) = FirstNo qs q place

pub decides : {A : Type 0} {qs : List Question} {a : Answer A} → Decided qs a → QuestionsDecide qs a
decides (says_yes {a = x} Y) = record { yes_when = (λ h. Y, λ h. (x, refl)); no_when = λ q place. (λ e. accepted≢refused e, λ F. not_both Y F) }
decides {A} {qs} (refuses {q} {place} F) = record {
  yes_when = (λ h. accepted≢refused (sym h.1), λ Y. not_both Y F);
  no_when = λ q' place'. (λ e. subst (λ (x : Answer A). Refusal qs x) e F, λ E. same_no F E);
}

pub decided_one : {n : ℕ} {a : Answer (Unit {0})} → Own n a → Decided (question n a ∷ []) a
decided_one own_yes = says_yes (yes refl none_left)
decided_one own_no = refuses (first_no_here refl)

-- questions after questions
all_yes : {qs rs : List Question} → AllYes qs → AllYes rs → AllYes (qs ++ rs)
all_yes none_left Y = Y
all_yes (yes h X) Y = yes h (all_yes X Y)

after_yes : {qs rs : List Question} {q place : ℕ} → AllYes qs → FirstNo rs q place → FirstNo (qs ++ rs) q place
after_yes none_left F = F
after_yes (yes h X) F = first_no_later h (after_yes X F)

before_more : {qs : List Question} {q place : ℕ} (rs : List Question) → FirstNo qs q place → FirstNo (qs ++ rs) q place
before_more rs (first_no_here h) = first_no_here h
before_more rs (first_no_later h F) = first_no_later h (before_more rs F)

pub decided_then : {A : Type 0} {qs rs : List Question} (m : Answer (Unit {0})) (n : Answer A) → Decided qs m → Decided rs n → Decided (qs ++ rs) (◌>>◌ m n)
decided_then {A} {qs} {rs} m n (says_yes Y) D = later n D
  where
    later : (n : Answer A) → Decided rs n → Decided (qs ++ rs) n
    later n (says_yes Z) = says_yes (all_yes Y Z)
    later n (refuses F) = refuses (after_yes Y F)
decided_then {A} {qs} {rs} m n (refuses F) D = refuses (before_more rs F)

pub decided_yes : {A : Type 0} (a : A) → Decided [] (accepted a)
decided_yes a = says_yes none_left

-- An answer that comes of a yes goes on.
pub then_found : {A B : Type 0} (m : Answer (Unit {0})) (a : A) (f : A → Answer B) → ◌>>=◌ (◌>>◌ m (accepted a)) f ≡ ◌>>◌ m (f a)
then_found m a f = grind arith

pub checks_more : {A : Type 0} {qs rs : List Question} (l m : Answer (Unit {0})) (n : Answer A) → Decided qs l → Decided rs m
    → Checks (qs ++ rs) n (◌>>◌ l (◌>>◌ m n))
checks_more l m n D E = record { asked = ◌>>◌ l m; decides = decides (decided_then l m D E); goes_on = sym (regroup l m n) }

-- a refusal has the number of one of the questions: what holds of each of these holds of it
unfoldable pub Numbers : (ℕ → Type 0) → List Question → Type 0
Numbers P [] = Unit {0}
Numbers P (x ∷ qs) = P x.number × Numbers P qs

module _ (P : ℕ → Type 0) where
  first_no_number : {qs : List Question} {q place : ℕ} → Numbers P qs → FirstNo qs q place → P q
  unfolding Numbers
  first_no_number n (first_no_here h) = n.0
  first_no_number n (first_no_later h F) = first_no_number n.1 F

  pub refusal_number : {A : Type 0} {qs : List Question} {a : Answer A} {q place : ℕ} → Numbers P qs → Decided qs a → a ≡ refused q place → P q
  refusal_number n (says_yes Y) e = accepted≢refused e
  refusal_number n (refuses F) e = subst P (number_inj e) (first_no_number n F)
