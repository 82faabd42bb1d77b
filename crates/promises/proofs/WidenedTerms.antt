-- Widened bytes on trees: their types have no creators, and the term of a script whose callers were put in is the
-- earlier one's, rewritten.
use Rattle.std.proofs.Common.{◌≡◌, refl, sym, ap, ap₂, ◌∙◌, Bool, true, false, cond, List, [], ◌∷◌, map, ℕ, zero, suc}
use Rattle.std.proofs.Common.{◌+◌, ◌*◌, ◌<◌, arith, eqb-true, lt-ltb, ltb-true, nat_eq, nat_lt, get_or, drop}
use Rattle.std.proofs.Math.Decide.{dec_lt}
use Rattle.std.proofs.Math.ListN.{get_or-map}
use Rattle.calculus.specs.Security.{Property, Reader}
use Rattle.calculus.specs.Types.{Ty, top}
use Rattle.calculus.specs.Terms.{Term}
use Rattle.calculus.specs.Relabelling.{Labels, relabel_t, relabel}
use Rattle.calculus.specs.Creators.{rewriting_labels}
use Rattle.rules.specs.Answer.{Bytes}
use Rattle.rules.specs.Types.{type_count, type_at, no_type, make_type, parse_types, sides}
use Rattle.rules.specs.Script.{arity, make, no_term, parse, term}
use Rattle.rules.specs.Limits.{old_type_width}
use Rattle.rules.specs.Callers.{old_records, old_kind, old_r, caller, put_callers, write_callers}
use Rattle.rules.specs.Rewriting.{widen_types, widen_script}
use Rattle.rules.proofs.Callers.{record_past, callers_first}
use Rattle.rules.proofs.TypePlaces.{Standing, r_at, type_at_outside}
use Rattle.rules.proofs.Widening.{widen_types_drop, widen_types_byte, widen_types_count}
use Rattle.rules.proofs.OldTables.{old_type_count, old_type_r}

map_drop : {A B : Type 0} (f : A → B) (n : ℕ) (xs : List A) → drop n (map f xs) ≡ map f (drop n xs)
map_drop f zero xs = refl
map_drop f (suc n) [] = refl
map_drop f (suc n) (x ∷ xs) = map_drop f n xs

-- the whole records of a script whose recursions hold 0 in r
abbrev Uncalled : Bytes → Type 0
Uncalled s = (i : ℕ) → i < old_records s → old_kind s i ≡ 11 → old_r s i ≡ 0

module _ (called : Property → Reader → Reader) (tab : ℕ → Ty) where
  abbrev R : Labels
  R = rewriting_labels called tab

  -- Types.
  made_type : (k r ir : ℕ) (a b : Ty)
      → relabel_t R (make_type k (record { r = r; ir = ir; c = 0; ic = 0 }) a b) ≡ make_type k (record { r = r; ir = ir; c = 0; ic = 0 }) (relabel_t R a) (relabel_t R b)
  unfolding relabel_t
  made_type k r ir a b = grind arith

  after_record : (k r ir : ℕ) (ts : List Ty) → map (relabel_t R) ts ≡ ts
      → map (relabel_t R) (make_type k (record { r = r; ir = ir; c = 0; ic = 0 }) (get_or ts 0 no_type) (get_or ts 1 no_type) ∷ drop (sides k) ts)
      ≡ make_type k (record { r = r; ir = ir; c = 0; ic = 0 }) (get_or ts 0 no_type) (get_or ts 1 no_type) ∷ drop (sides k) ts
  unfolding relabel_t
  after_record k r ir ts e =
      let at : (n : ℕ) → relabel_t R (get_or ts n no_type) ≡ get_or ts n no_type = λ n. sym (get_or-map (relabel_t R) ts n no_type) ∙ ap (λ (us : List Ty). get_or us n no_type) e in
      ap₂ ◌∷◌ (made_type k r ir (get_or ts 0 no_type) (get_or ts 1 no_type) ∙ ap₂ (make_type k (record { r = r; ir = ir; c = 0; ic = 0 })) (at 0) (at 1))
      (sym (map_drop (relabel_t R) (sides k) ts) ∙ ap (drop (sides k)) e)

  parsed_types : (t : Bytes) → map (relabel_t R) (parse_types (widen_types t)) ≡ parse_types (widen_types t)
  unfolding parse_types widen_types
  parsed_types (k ∷ r ∷ ir ∷ z ∷ t) = after_record k r ir (parse_types (widen_types t)) (parsed_types t)
  parsed_types _ = refl

  pub widened_type : (t : Bytes) (i : ℕ) → relabel_t R (type_at (widen_types t) i) ≡ type_at (widen_types t) i
  unfolding type_at relabel_t
  widened_type t i = grind (arith, widen_types_drop, get_or-map, parsed_types)

  -- Terms. A record whose r is the group of the call, where it is a recursion.
  abbrev Put : ℕ → ℕ → ℕ → ℕ → Type 0
  Put k n r r' = (k ≡ 11 → r' ≡ called (top (tab n)) r) × ((k ≡ 11 → ⊥) → r' ≡ r)

  made : (k r r' ir n : ℕ) (a b d : Term) → Put k n r r'
      → make k r' ir n 0 0 (relabel R a) (relabel R b) (relabel R d) ≡ relabel R (make k r ir n 0 0 a b d)
  unfolding relabel
  made k r r' ir n a b d h = grind arith

  -- in front of the terms that follow it
  in_front : (k r r' ir n : ℕ) (ts ts' : List Term) → Put k n r r' → ts' ≡ map (relabel R) ts
      → make k r' ir n 0 0 (get_or ts' 0 no_term) (get_or ts' 1 no_term) (get_or ts' 2 no_term) ∷ drop (arity k) ts'
      ≡ map (relabel R) (make k r ir n 0 0 (get_or ts 0 no_term) (get_or ts 1 no_term) (get_or ts 2 no_term) ∷ drop (arity k) ts)
  unfolding relabel
  in_front k r r' ir n ts ts' h e =
      let at : (j : ℕ) → get_or ts' j no_term ≡ relabel R (get_or ts j no_term) = λ j. ap (λ (us : List Term). get_or us j no_term) e ∙ get_or-map (relabel R) ts j no_term in
      rw (at 0, at 1, at 2)
      (ap₂ ◌∷◌ (made k r r' ir n (get_or ts 0 no_term) (get_or ts 1 no_term) (get_or ts 2 no_term) h) (ap (drop (arity k)) e ∙ map_drop (relabel R) (arity k) ts))

  -- a script as it stands, where the call is made as the group that is written
  pub kept_parse : ((n r : ℕ) → r ≡ called (top (tab n)) r) → (s : Bytes) → parse (widen_script s) ≡ map (relabel R) (parse (widen_script s))
  unfolding parse widen_script
  kept_parse h (k ∷ r ∷ ir ∷ z ∷ lo ∷ hi ∷ s) =
      in_front k r r ir (lo + 256 * hi) (parse (widen_script s)) (parse (widen_script s)) (λ e. h (lo + 256 * hi) r, λ ne. refl) (kept_parse h s)
  kept_parse h _ = refl

  -- one whose recursions hold 0 in r, with r of their type written
  module _ (t : Bytes) (calls : (n : ℕ) → cond (nat_lt n (old_type_count t)) (old_type_r t n) 0 ≡ called (top (tab n)) 0) where
    put : (k r n : ℕ) → (k ≡ 11 → r ≡ 0) → Put k n r (caller old_type_width t k r n)
    put k r n h = (λ e. rw (e, h e) (calls n), λ ne. other ne (nat_eq k 11) refl)
      where
        other : (k ≡ 11 → ⊥) → (b : Bool) → nat_eq k 11 ≡ b → caller old_type_width t k r n ≡ r
        other ne true e = absurd (ne (eqb-true k 11 e))
        other ne false e = rw e

    later : (a b c d e f : ℕ) (s : Bytes) → Uncalled (a ∷ b ∷ c ∷ d ∷ e ∷ f ∷ s) → Uncalled s
    later a b c d e f s h i l k =
        sym (record_past a b c d e f s (6 * suc i + 1) (6 * i + 1) (omega arith))
        ∙ h (suc i) (omega arith) (record_past a b c d e f s (6 * suc i) (6 * i) (omega arith) ∙ k)

    pub put_parse : (s : Bytes) → Uncalled s → parse (widen_script (write_callers t s)) ≡ map (relabel R) (parse (widen_script s))
    unfolding parse widen_script put_callers
    put_parse (k ∷ r ∷ ir ∷ z ∷ lo ∷ hi ∷ s) h =
        ap (λ (b : Bytes). parse (widen_script b)) (callers_first t k r ir z lo hi s)
        ∙ in_front k r _ ir (lo + 256 * hi) (parse (widen_script s)) (parse (widen_script (write_callers t s))) (put k r (lo + 256 * hi) (h 0 (omega arith)))
        (put_parse s (later k r ir z lo hi s h))
    put_parse _ h = refl

  -- the first term
  pub parsed_term : (b b' : Bytes) → parse b' ≡ map (relabel R) (parse b) → term b' ≡ relabel R (term b)
  unfolding term relabel
  parsed_term b b' e = ap (λ (ts : List Term). get_or ts 0 no_term) e ∙ get_or-map (relabel R) (parse b) 0 no_term

-- Over a table that passes, r of a type is its first record's.
pub own_r : (t : Bytes) → ((i : ℕ) → i < type_count (widen_types t) → Standing (widen_types t) i)
    → (n : ℕ) → cond (nat_lt n (old_type_count t)) (old_type_r t n) 0 ≡ (top (type_at (widen_types t) n)).r
own_r t stands n = grind (arith, dec_lt, nat_lt, lt-ltb, widen_types_byte, r_at, widen_types_count, type_at_outside, ltb-true)
