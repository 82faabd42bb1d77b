-- A node of which an operand has come to a value: it is still of its kind, and its operands are those that were, with
-- the value among them. That is read off the bytes before the operand, which stay as they are, and so it is said once
-- for every kind.
use Rattle.std.proofs.Common.{◌≡◌, refl, sym, ap, subst, ◌∙◌, [], ◌++◌, append_assoc, append-nil, ℕ, ◌+◌, ◌*◌, ◌≤◌}
use Rattle.std.proofs.Common.{arith, take, drop, length-drop, take_at, drop_at, take-append-drop, IsTrue}
use Rattle.std.proofs.Math.Seq.{drop-append-le, take-append-le}
use Rattle.calculus.specs.Terms.{Term, is_value}
use Rattle.calculus.specs.Reduction.{Context, plug}
use Rattle.calculus.proofs.Contexts.{compose}
use Rattle.rules.specs.Answer.{Bytes}
use Rattle.rules.specs.Limits.{script_width}
use Rattle.rules.specs.Script.{encode, size}
use Rattle.rules.proofs.PrefixLaws.{encode_length, unique}
use Rattle.rules.proofs.TermCode.{term_code, term_prefix, term_head}
use Rattle.records.specs.declared.Kind.{Kind}
use Rattle.records.specs.declared.Kind.TheVariants.{FirstInjection, SecondInjection, FirstProjection, SecondProjection}
use Rattle.records.specs.declared.Kind.TheVariants.{Case, Protect}
use Rattle.records.specs.Place.{At}
use Rattle.records.specs.Operands.{first_operand, second_operand}
use Rattle.records.proofs.Made.{own_record}
use Rattle.records.proofs.Stands.{kind_of}
use Rattle.records.proofs.Numbered.{same_kind}
use Rattle.records.specs.Numbers.{kind_number}
use Rattle.redex.specs.Contexts.{before, after, offset}
use Rattle.redex.proofs.Plugs.{plug_bytes, before_length}
use Rattle.redex.proofs.Forms.{Position, Evaluates, first_position, Second, Twofold, second_position}
use Rattle.redex.proofs.Searches.{position_at}
use Rattle.redex.proofs.Stages.{Opened, FirstValue}
use Rattle.refocusing.specs.Focus.{Focused, focus_value}
use Rattle.refocusing.specs.declared.Point.{Point}
use Rattle.refocusing.specs.declared.Focus.TheVariants.{Value}
use Rattle.refocusing.proofs.Passing.{Passed, passed, came_out}

same_at : {s : Bytes} {i : ℕ} {x y : Term} → At s i x → At s i y → x ≡ y
same_at {x = x} {y = y} p q = (unique term_prefix x y p.rest q.rest (sym p.stands ∙ q.stands)).0

alone : (e : Term) → At (encode e) 0 e
alone e = record { rest = []; stands = sym (append-nil (encode e)) }

-- the term in the hole of E, where it stands
pub in_place : (E : Context) (e : Term) → At (encode (plug E e)) (offset E) e
in_place E e = record {
  rest = after E;
  stands = ap (drop (script_width * offset E)) (plug_bytes E e) ∙ drop_at (before E) (encode e ++ after E) (script_width * offset E) (before_length E);
}

module _ (F : Context) where
  head_before : (x : Term) → 1 ≤ offset F → term_head (plug F x) ≡ take script_width (before F)
  head_before x l =
      sym (own_record (alone (plug F x))) ∙ ap (take script_width) (plug_bytes F x)
      ∙ take-append-le script_width (before F) (encode x ++ after F) (omega (arith, before_length F))

  -- what stands before the hole stays
  stays : (x y : Term) {i : ℕ} {z : Term} → At (encode (plug F x)) i z → i + size z ≤ offset F → At (encode (plug F y)) i z
  stays x y {i} {z} p l =
      let d = drop (script_width * i) (before F) in
      let cut : (w : Term) → drop (script_width * i) (encode (plug F w)) ≡ d ++ (encode w ++ after F) =
      λ w. ap (drop (script_width * i)) (plug_bytes F w) ∙ drop-append-le (script_width * i) (before F) (encode w ++ after F) (omega (arith, before_length F)) in
      let n = script_width * size z in
      let f : take n d ≡ encode z =
      sym (take-append-le n d (encode x ++ after F) (omega (arith, before_length F, length-drop (script_width * i) (before F))))
      ∙ ap (take n) (sym (cut x) ∙ p.stands) ∙ take_at (encode z) p.rest n (encode_length term_code z) in
      record {
        rest = drop n d ++ (encode y ++ after F);
        stands = cut y ∙ ap (λ b. b ++ (encode y ++ after F)) (sym (take-append-drop n d) ∙ ap (λ b. b ++ drop n d) f)
            ∙ append_assoc (encode z) (drop n d) (encode y ++ after F);
      }

module _ {e z : Term} {n m : ℕ} (q : Position e z n m) (v : Term) where
  kind_stays : 1 ≤ n → kind_of (plug q.context v) ≡ kind_of e
  kind_stays l = grind (arith, head_before, term_head)

  evaluates_still : 1 ≤ n → Evaluates e → Evaluates (plug q.context v)
  evaluates_still l h = rw (kind_stays l) h

  put_at : At (encode (plug q.context v)) n v
  put_at = subst (λ i. At (encode (plug q.context v)) i v) q.from (in_place q.context v)

-- the first operand of a node
first_place : (e : Term) → Evaluates e → At (encode e) 1 (first_operand e)
first_place e h = position_at 1 (first_position e h _ refl) (alone e) refl

-- the kind of a node with a second operand that is evaluated
abbrev pub Twofolds : Kind → Type 0
Twofolds k =
    (k ≡ FirstInjection → ⊥) × (k ≡ SecondInjection → ⊥) × (k ≡ FirstProjection → ⊥) × (k ≡ SecondProjection → ⊥) × (k ≡ Case → ⊥) × (k ≡ Protect → ⊥)

pub twofold : {k : Kind} (e : Term) → Twofolds k → kind_number k ≡ kind_of e → Twofold e
twofold {k} e t is = (
  λ h. t.0 (same_kind k FirstInjection (is ∙ h)),
  λ h. t.1 (same_kind k SecondInjection (is ∙ h)),
  λ h. t.2 (same_kind k FirstProjection (is ∙ h)),
  λ h. t.3 (same_kind k SecondProjection (is ∙ h)),
  λ h. t.4 (same_kind k Case (is ∙ h)),
  λ h. t.5 (same_kind k Protect (is ∙ h)),
)

pub two : {s : Bytes} {i next : ℕ} {k : Kind} {e : Term} → Twofolds k → FirstValue s i k e next → Second e
two {e = e} t f = second_position e f.own.evaluates (twofold e t f.own.kind_is) f.value

module _ (g t : Bytes) (room budget : ℕ) (whole : Term) (E : Context) (k : Kind) (p : Point) (a b : Bytes) where
  -- A node of kind k stands in E, and its first operand is a value and is passed.
  pub record FirstPassed : Type 0 where
    pub node : Term
    pub value : FirstValue (encode (plug E node)) (offset E) k node p.left
    pub passed : Passed g t room budget whole E node (1 + size (first_operand node)) p a b

  -- so is its second, which is its last
  pub record BothPassed : Type 0 where
    pub node : Term
    pub first : FirstValue (encode (plug E node)) (offset E) k node (offset E + 1 + size (first_operand node))
    pub second : IsTrue (is_value (second_operand node))
    pub passed : Passed g t room budget whole E node (size node) p a b

module _ {g t : Bytes} {room budget : ℕ} {whole : Term} {E : Context} {k : Kind} {p : Point} {a b : Bytes} where
  pub first_passed : {s : Bytes} {i m : ℕ} {e : Term} → Opened s i k e → (q : Position e (first_operand e) 1 m)
      → Focused g t room budget whole (compose E q.context) a b (Value p) → FirstPassed g t room budget whole E k p a b
  first_passed {e = e} o q (focus_value v h s) =
      let node = plug q.context v in
      let c = came_out v q (passed (size v) s (append-nil (encode v)) (encode_length term_code v)) in
      let still = evaluates_still q v (omega arith) o.evaluates in
      let is : first_operand node ≡ v = same_at (first_place node still) (put_at q v) in
      record {
        node = node;
        value = record {
          own = record { stands = in_place E node; kind_is = o.kind_is ∙ sym (kind_stays q v (omega arith)); evaluates = still };
          value = subst (λ x. IsTrue (is_value x)) (sym is) h;
          ends = omega (arith, c.left_is, ap size is);
        };
        passed = subst (λ x. Passed g t room budget whole E node (1 + size x) p a b) (sym is) c;
      }

  pub both_passed : {p₀ : Point} {a₀ b₀ : Bytes} (f : FirstPassed g t room budget whole E k p₀ a₀ b₀)
      → Twofolds k → (x : Second f.node)
      → Focused g t room budget whole (compose E x.position.context) a b (Value p) → BothPassed g t room budget whole E k p a b
  both_passed f h₂ x (focus_value w h s) =
      let q = x.position in
      let node = plug q.context w in
      let c = came_out w q (passed (size w) s (append-nil (encode w)) (encode_length term_code w)) in
      let still = evaluates_still q w (omega arith) f.value.own.evaluates in
      let was = subst (λ y. At (encode y) 1 (first_operand f.node)) q.whole (first_place f.node f.value.own.evaluates) in
      let is : first_operand node ≡ first_operand f.node =
      same_at (first_place node still) (stays q.context (second_operand f.node) w was (omega (arith, q.from))) in
      let v : FirstValue (encode (plug E node)) (offset E) k node (offset E + 1 + size (first_operand node)) =
      record {
        own = record { stands = in_place E node; kind_is = f.value.own.kind_is ∙ sym (kind_stays q w (omega arith)); evaluates = still };
        value = subst (λ y. IsTrue (is_value y)) (sym is) f.value.value;
        ends = refl;
      } in
      let y = two h₂ v in
      let too : second_operand node ≡ w =
      same_at (position_at _ y.position (alone node) refl) (subst (λ n. At (encode node) n w) (omega (arith, ap size is)) (put_at q w)) in
      record {
        node = node;
        first = v;
        second = subst (λ y. IsTrue (is_value y)) (sym too) h;
        passed = subst (λ n. Passed g t room budget whole E node n p a b) (omega (arith, y.sizes, ap size is, ap size too)) c;
      }
