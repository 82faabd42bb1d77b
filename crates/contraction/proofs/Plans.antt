-- What a plan's contractum is: counted, and as bytes.
use Rattle.std.proofs.Common.{◌≡◌, refl, sym, ap, ◌∙◌, cond, Bool, [], ◌++◌, ℕ, suc, ◌+◌, ◌*◌, ◌≤◌, ◌<◌, arith, drop}
use Rattle.std.proofs.Common.{drop_at, subst as transport, IsTrue}
use Rattle.calculus.specs.Security.{Property, Reader, Indirect, Security}
use Rattle.calculus.specs.Types.{Ty, top}
use Rattle.calculus.specs.Terms.{first, second, Operation, plus, less, Term, unit, protect, mu, literal, reckon, is_value, substitute, raise_value, var, lam, pair, inj}
use Rattle.calculus.specs.Numbers.{Literal, literal_of, of_both, side, reckon_result}
use Rattle.calculus.specs.Reduction.{unrolled_function}
use Rattle.calculus.proofs.Booleans.{and_left, and_right}
use Rattle.rules.specs.Answer.{Bytes}
use Rattle.rules.specs.Limits.{script_width, script_limit}
use Rattle.rules.specs.Groups.{properties_of}
use Rattle.rules.specs.Types.{type_at}
use Rattle.rules.specs.Script.{records, kind, number, object_record, encode, size, depth}
use Rattle.rules.proofs.Prefix.{joined}
use Rattle.rules.proofs.TermCode.{term_head, term_head_length, term_operands, term_encode_is, two_bytes}
use Rattle.records.specs.Kinds as kinds
use Rattle.records.specs.Place.{At}
use Rattle.records.specs.Operands.{first_operand}
use Rattle.records.proofs.Stands.{kind_of, operands, there, stands_kind, at_first, at_second}
use Rattle.records.proofs.Numbered.{same_kind}
use Rattle.records.specs.Numbers.{kind_number}
use Rattle.records.specs.declared.Kind.{Kind}
use Rattle.records.specs.declared.Kind.TheVariants.{Sum}
use Rattle.redex.proofs.Stages.{kind_read}
use Rattle.redex.specs.Fates.{only_reader, property_of, is_function, reduces, no_rule, is_potential_redex, fate, contractum}
use Rattle.records.proofs.Made.{number_of, number_at, influence_of}
use Rattle.types.specs.Held.{type_property}
use Rattle.redex.proofs.Answers.{function_top}
use Rattle.memory.specs.Written.{Room, Written}
use Rattle.memory.specs.declared.Writer.{Writer}
use Rattle.memory.proofs.Placed.{then, room_first, room_next}
use Rattle.substitution.specs.Substituted.{value_limit}
use Rattle.substitution.proofs.Nodes.{subst_bound}
use Rattle.contraction.specs.declared.Plan.TheVariants.{Part, Body, Raised, Unrolled, Reckoned}
use Rattle.substitution.specs.declared.Size.{Size}
use Rattle.contraction.specs.Plans.{Planned, applied, projected, branched, lifted, unrolled_one, reckoned_one}
use Rattle.contraction.specs.Plans.{protect_record, Measures, Literals, Sides, flag_side, flag}

-- what the protection of a destructor's contractum is
abbrev pub protection_of : Security → Term → Indirect
protection_of S e = S.influence (property_of (first_operand e)) (property_of e).r

-- What is projected is a component, and its protect takes no more room than the projection.
pub record PartPlan (s : Bytes) (e : Term) (x : ℕ) : Type 0 where
  pub part : Term
  pub stands : At s x part
  pub small : size part + 1 ≤ size e
  pub shallow : depth part + 1 ≤ depth e
  pub value : IsTrue (is_potential_redex e) → IsTrue (is_value part)
  pub operand : 1 ≤ operands e
  pub is : (S : Security) (tab : ℕ → Ty) → contractum S tab e ≡ protect (protection_of S e) part

pub part_plan : {s : Bytes} {e : Term} {x : ℕ} → Planned s e (Part x) → PartPlan s e x
unfolding contractum size depth is_potential_redex is_value
part_plan (projected {d = first} {a = a} h) =
    record {
      part = a;
      stands = h;
      small = omega arith;
      shallow = omega arith;
      value = λ r. and_left _ _ r;
      operand = omega arith;
      is = λ S tab. refl;
    }
part_plan (projected {d = second} {a = a} {b = b} h) =
    record {
      part = b;
      stands = h;
      small = omega arith;
      shallow = omega arith;
      value = λ r. and_right (is_value a) _ r;
      operand = omega arith;
      is = λ S tab. refl;
    }

pub record BodyPlan (s : Bytes) (e : Term) (x y : ℕ) : Type 0 where
  pub body : Term
  pub value : Term
  pub at_body : At s x body
  pub at_value : At s y value
  pub small : size body + size value ≤ size e
  pub shallow_body : depth body ≤ depth e
  pub shallow_value : depth value ≤ depth e
  pub operand : 1 ≤ operands e
  pub is : (S : Security) (tab : ℕ → Ty) → contractum S tab e ≡ protect (protection_of S e) (substitute 0 value body)

pub body_plan : {s : Bytes} {e : Term} {x y : ℕ} → Planned s e (Body x y) → BodyPlan s e x y
unfolding contractum size depth
body_plan (applied {b = b} {v = v} h k) =
    record {
      body = b;
      value = v;
      at_body = h;
      at_value = k;
      small = omega arith;
      shallow_body = omega arith;
      shallow_value = omega arith;
      operand = omega arith;
      is = λ S tab. refl;
    }
body_plan (branched {d = first} {v = v} {a = a} h k) =
    record {
      body = a;
      value = v;
      at_body = h;
      at_value = k;
      small = omega arith;
      shallow_body = omega arith;
      shallow_value = omega arith;
      operand = omega arith;
      is = λ S tab. refl;
    }
body_plan (branched {d = second} {v = v} {b = b} h k) =
    record {
      body = b;
      value = v;
      at_body = h;
      at_value = k;
      small = omega arith;
      shallow_body = omega arith;
      shallow_value = omega arith;
      operand = omega arith;
      is = λ S tab. refl;
    }

pub record LiftPlan (s : Bytes) (at : ℕ) (e : Term) : Type 0 where
  pub value : Term
  pub stands : At s (at + 1) value
  pub is_one : IsTrue (is_value value)
  pub small : size e ≡ 1 + size value
  pub shallow : depth value ≤ depth e
  pub is : (S : Security) (tab : ℕ → Ty) → contractum S tab e ≡ raise_value S value (influence_of e)

pub lift_plan : {s : Bytes} {at : ℕ} {e : Term} → At s at e → Planned s e Raised → LiftPlan s at e
unfolding contractum size depth
lift_plan {s} {at} a (lifted {v = v} h) =
    record {
      value = v;
      stands = at_first s at _ a (omega arith);
      is_one = h;
      small = refl;
      shallow = omega arith;
      is = λ S tab. refl;
    }

pub record RollPlan (e : Term) : Type 0 where
  pub label : Reader
  pub type : ℕ
  pub body : Term
  pub is : e ≡ mu label type body

pub roll_plan : {s : Bytes} {e : Term} → Planned s e Unrolled → RollPlan e
roll_plan (unrolled_one {w = w} {i = i} {b = b}) = record { label = w; type = i; body = b; is = refl }

pub record ReckonPlan (e : Term) : Type 0 where
  pub operation : Operation
  pub label : Reader
  pub left : Literal
  pub right : Literal
  pub is : e ≡ reckon operation label (literal left.own left.value) (literal right.own right.value)

pub reckon_plan : {s : Bytes} {e : Term} → Planned s e Reckoned → ReckonPlan e
reckon_plan (reckoned_one {o = o} {w = w} {k = k} {l = l} {m = m} {n = n}) =
    record { operation = o; label = w; left = record { own = k; value = m }; right = record { own = l; value = n }; is = refl }

pub reckon_is : (S : Security) (tab : ℕ → Ty) (o : Operation) (w : Reader) (x y : Literal)
    → contractum S tab (reckon o w (literal x.own x.value) (literal y.own y.value)) ≡ reckon_result tab o (of_both S w x.own y.own) x.value y.value
unfolding contractum literal_of
reckon_is S tab o w x y = refl

-- the records of what is reckoned, each within the one before
abbrev pub reckoned_records : Operation → ℕ
reckoned_records plus = 1
reckoned_records (less i) = 2

pub reckoned_size : (tab : ℕ → Ty) (o : Operation) (k : Property) (m n : ℕ)
    → (size (reckon_result tab o k m n) ≡ reckoned_records o) × (depth (reckon_result tab o k m n) ≡ reckoned_records o)
unfolding size depth reckon_result
reckoned_size tab o k m n = grind arith

-- Raising changes neither the records nor the depth.
pub raise_size : (S : Security) (v : Term) (m : Indirect) → (size (raise_value S v m) ≡ size v) × (depth (raise_value S v m) ≡ depth v)
unfolding size depth raise_value
raise_size S v m = grind arith

pub unrolled_size : (S : Security) (w : Reader) (i : ℕ) (k : Property) (b : Term)
    → (size (unrolled_function S w i k b) ≡ size (mu w i b) + 3) × (depth (unrolled_function S w i k b) ≡ depth (mu w i b) + 2)
unfolding size depth
unrolled_size S w i k b = (omega arith, omega arith)

pub protect_size : (m : Indirect) (e : Term) → (size (protect m e) ≡ size e + 1) × (depth (protect m e) ≡ depth e + 1)
unfolding size depth
protect_size m e = (omega arith, omega arith)

pub body_size : (w : Reader) (i : ℕ) (b : Term) → (size (mu w i b) ≡ 1 + size b) × (depth (mu w i b) ≡ 1 + depth b)
unfolding size depth
body_size w i b = (refl, refl)

-- a substitution's records are few enough to be counted: each of the body's may be a variable that the value is put for
abbrev pub contractum_limit : ℕ
contractum_limit = script_limit * value_limit

pub few : (v b : Term) → size v ≤ value_limit → size b ≤ script_limit → size (substitute 0 v b) ≤ contractum_limit
few v b l h = omega (arith, subst_bound v l b 0)

-- a term's bytes after its own record are those of its operands
operand_bytes : (e : Term) → drop script_width (encode e) ≡ joined encode (term_operands e)
operand_bytes e = grind (arith, term_encode_is, drop_at, term_head, term_operands, term_head_length)

-- a raised value: its own record with other groups, and its operands as they are
raised_bytes : (S : Security) (v : Term) (m : Indirect) → IsTrue (is_value v)
    → object_record (kind_of v) (S.raise (property_of v) m) (number_of v) ++ joined encode (term_operands v) ≡ encode (raise_value S v m)
unfolding raise_value is_value
raised_bytes S v m h = grind (arith, term_encode_is, two_bytes)

-- as the code puts it together
pub raised_from : (S : Security) (v : Term) (m : Indirect) → IsTrue (is_value v) → {k n : ℕ} {p : Property} {own : Bytes} → own ≡ object_record k p n → k ≡ kind_of v
    → p ≡ S.raise (property_of v) m → n ≡ number_of v → encode (raise_value S v m) ≡ own ++ drop script_width (encode v)
raised_from S v m h o k p n = rw (o, k, p, n, operand_bytes v) (sym (raised_bytes S v m h))

-- the unrolled function: two records, the recursion, a variable
pub rolled_bytes : (g : Bytes) (w : Reader) (i : ℕ) (k : Property) (b : Term)
    → (object_record kinds.function k (i + 1) ++ (object_record kinds.application (only_reader w) 0 ++ [])) ++ (encode (mu w i b) ++ object_record kinds.variable (only_reader 0) 0)
    ≡ encode (unrolled_function (properties_of g) w i k b)
unfolding encode
rolled_bytes g w i k b = let z : i + 1 ≡ suc i = omega arith in rw z

-- a protect's record, and the term after it
pub protect_room : (w : Writer) (m : Indirect) (e : Term) → Room (encode (protect m e)) w → Room (protect_record m) w
unfolding encode
protect_room w m e r = room_first (protect_record m) (encode e) w r

pub inner_room : {m : Indirect} {w w₁ : Writer} (e : Term) → Room (encode (protect m e)) w → Written (protect_record m) w w₁ → Room (encode e) w₁
unfolding encode
inner_room e r p = room_next (encode e) p r

pub protect_written : {m : Indirect} {w w₁ w₂ : Writer} (e : Term) → Written (protect_record m) w w₁ → Written (encode e) w₁ w₂ → Written (encode (protect m e)) w w₂
unfolding encode
protect_written e p v = then p v

-- a recursion goes when its type is a function
pub goes_function : (S : Security) (tab : ℕ → Ty) (w : Reader) (i : ℕ) (b : Term) → fate S tab (mu w i b) ≡ reduces → IsTrue (is_function (tab i))
unfolding fate
goes_function S tab w i b h = grind arith

-- the record after that of a node with an operand
pub operand_there : {s : Bytes} {at : ℕ} {e : Term} → At s at e → 1 ≤ operands e → at + 1 < records s
operand_there {s} {at} {e} a h = there s (at + 1) (first_operand e) (at_first s at e a h)

pub counted : {e f : Term} {m : Size} → f ≡ e → Measures e m → Measures f m
counted {m = m} h q = transport (λ (d : Term). Measures d m) (sym h) q

-- a protect around a term is one more record, and one deeper
pub protect_counted : (m : Indirect) {e : Term} {x y : Size} → Measures e x → (y.records ≡ x.records + 1) × (y.depth ≡ x.depth + 1) → Measures (protect m e) y
protect_counted m {e} q h = let z = protect_size m e in record { records = omega (arith, q.records, h.0, z.0); deep = omega (arith, q.deep, h.1, z.1) }

-- what is written of a term is written of one equal to it
pub renamed : {w w' : Writer} {e f : Term} → e ≡ f → Written (encode f) w w' → Written (encode e) w w'
renamed {w} {w'} h m = transport (λ (b : Bytes). Written b w w') (ap encode (sym h)) m

-- the groups of a recursion's type, as they stand in its first record
pub type_groups : (t : Bytes) (i n : ℕ) → IsTrue (is_function (type_at t i)) → n ≡ i → type_property t n ≡ top (type_at t i)
type_groups t i n h e = ap (type_property t) e ∙ sym (function_top t i h)

pub recursion_number : {s : Bytes} {at : ℕ} {w : Reader} {i : ℕ} {b : Term} → At s at (mu w i b) → number s at ≡ i
recursion_number {i = i} a = number_at a ∙ two_bytes i

pub unroll_is : (S : Security) (tab : ℕ → Ty) (w : Reader) (i : ℕ) (b : Term) → contractum S tab (mu w i b) ≡ substitute 0 (unrolled_function S w i (top (tab i)) b) b
unfolding contractum
unroll_is S tab w i b = refl

-- what is reckoned, counted
pub reckon_counted : (S : Security) (tab : ℕ → Ty) (o : Operation) (w : Reader) (x y : Literal) {m : Size}
    → (m.records ≡ reckoned_records o) × (m.depth ≡ reckoned_records o) → Measures (contractum S tab (reckon o w (literal x.own x.value) (literal y.own y.value))) m
reckon_counted S tab o w x y {m} h =
    let z = reckoned_size tab o (of_both S w x.own y.own) x.value y.value in
    counted {m = m} (reckon_is S tab o w x y) (record { records = h.0 ∙ sym z.0; deep = h.1 ∙ sym z.1 })

-- the operation of a node, by the kind of its record
module _ {s : Bytes} {at : ℕ} {o : Operation} {w : Reader} {a b : Term} (stands : At s at (reckon o w a b)) {k : Kind} (kind_is : kind_number k ≡ kind s at) where
  pub is_plus : k ≡ Sum → o ≡ plus
  is_plus h = of_sum o (kind_read kind_is stands h)
    where
      of_sum : (o : Operation) → kind_of (reckon o w a b) ≡ kinds.sum → o ≡ plus
      of_sum plus h = refl
      of_sum (less i) h = absurd (omega arith)

  pub is_less : (k ≡ Sum → ⊥) → (i : ℕ) × (o ≡ less i)
  is_less h = of_less o (λ z. h (same_kind k Sum (kind_is ∙ stands_kind s at _ stands ∙ z)))
    where
      of_less : (o : Operation) → (kind_of (reckon o w a b) ≡ kinds.sum → ⊥) → (i : ℕ) × (o ≡ less i)
      of_less plus h = absurd (h refl)
      of_less (less i) h = (i, refl)

-- the two literals stand one after the other
module _ {s : Bytes} {at : ℕ} (q : Literals s at) where
  pub left_at : At s (at + 1) (literal q.left.own q.left.value)
  left_at = at_first s at _ q.stands (omega arith)

  pub right_at : At s (at + 2) (literal q.right.own q.right.value)
  unfolding size
  right_at = at_second s at _ q.stands (at + 2) (omega arith) (omega arith)

  pub left_number : number s (at + 1) ≡ q.left.value
  left_number = number_at left_at ∙ two_bytes q.left.value

  pub right_number : number s (at + 2) ≡ q.right.value
  right_number = number_at right_at ∙ two_bytes q.right.value

  -- the type that a comparison names
  pub flag_number : {i : ℕ} → q.operation ≡ less i → number s at ≡ i
  flag_number {i} h = number_at q.stands ∙ ap (λ o. number_of (reckon o q.label (literal q.left.own q.left.value) (literal q.right.own q.right.value))) h ∙ two_bytes i

-- the unit of a side of a sum of two units
pub side_groups : {t : Bytes} {i : ℕ} → Sides t i → (is_less : Bool) {n : ℕ} → n ≡ cond is_less (i + 1) (i + 2) → type_property t n ≡ top (side (flag_side is_less) (type_at t i))
side_groups q is_less h = grind arith

pub flag_bytes : (tab : ℕ → Ty) (i : ℕ) (k : Property) (is_less : Bool)
    → object_record (cond is_less kinds.first_injection kinds.second_injection) k i ++ object_record kinds.unit (top (side (flag_side is_less) (tab i))) 0
    ≡ encode (flag tab i k is_less)
unfolding encode
flag_bytes tab i k is_less = grind arith
