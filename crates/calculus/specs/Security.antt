-- Properties of objects, and what the calculus does with them (manual, 2.4 and 2.5). Everything above this file goes
-- through the operations of `Security`, so that rules which don't read creators are an instance too.
use Rattle.std.specs.Prelude.{◌≡◌, Bool, ℕ, IsTrue}

-- κ ::= (r, ir, c, ic): the readers and the indirect readers of an object, its creators and its indirect creators.
pub record Property : Type 0 where
  pub r : ℕ
  pub ir : ℕ
  pub c : ℕ
  pub ic : ℕ

-- The security group with which a destructor is labelled.
abbrev pub Reader : Type 0
Reader = ℕ

-- What a protect is labelled with, and what a reading leaves on its result: indirect readers and indirect creators.
pub record Indirect : Type 0 where
  pub ir : ℕ
  pub ic : ℕ

-- What the calculus does with properties; the operations over a groups table are `properties` in Groups.
pub record Security : Type 0 where
  -- κ ≤ κ'
  pub le : Property → Property → Bool
  -- ir ⊑ ir' and ic' ⊑ ic
  pub le_i : Indirect → Indirect → Bool
  -- κ ⊔ κ' and κ ⊓ κ': the least property at or above both, and the greatest at or below both
  pub join : Property → Property → Property
  pub meet : Property → Property → Property
  -- what the result of a sum or comparison labelled with this group starts with
  pub fresh : Reader → Property
  -- κ • (ir, ic)
  pub raise : Property → Indirect → Property
  -- r ⊑ r': may a destructor labelled r' read an object with this property?
  pub permits : Property → Reader → Bool
  -- what the result of such a reading is protected by
  pub influence : Property → Reader → Indirect
  -- the group as which a recursion of this property, labelled with this group, is called when it unrolls
  pub caller : Property → Reader → Reader
  -- the condition on a recursion: may its result, of the second property, be read through the first by a call as this
  -- group?
  pub absorbs : Property → Reader → Property → Bool
  -- ir ⊑ r and ic ⊑ c, and all are groups
  pub secure : Property → Bool
  pub secure_i : Indirect → Bool

-- The laws that the theory needs. A property that is compared is made of groups; only reflexivity has to ask for that.
pub record Laws (S : Security) : Type 0 where
  pub le_refl : (k : Property) → IsTrue (S.secure k) → IsTrue (S.le k k)
  pub le_trans : (k l m : Property) → IsTrue (S.le k l) → IsTrue (S.le l m) → IsTrue (S.le k m)
  pub le_antisym : (k l : Property) → IsTrue (S.le k l) → IsTrue (S.le l k) → k ≡ l
  pub join_left : (k l : Property) → IsTrue (S.secure k) → IsTrue (S.secure l) → IsTrue (S.le k (S.join k l))
  pub join_right : (k l : Property) → IsTrue (S.secure k) → IsTrue (S.secure l) → IsTrue (S.le l (S.join k l))
  pub join_least : (k l m : Property) → IsTrue (S.le k m) → IsTrue (S.le l m) → IsTrue (S.le (S.join k l) m)
  pub join_secure : (k l : Property) → IsTrue (S.secure k) → IsTrue (S.secure l) → IsTrue (S.secure (S.join k l))
  pub meet_left : (k l : Property) → IsTrue (S.secure k) → IsTrue (S.secure l) → IsTrue (S.le (S.meet k l) k)
  pub meet_right : (k l : Property) → IsTrue (S.secure k) → IsTrue (S.secure l) → IsTrue (S.le (S.meet k l) l)
  pub meet_greatest : (k l m : Property) → IsTrue (S.le m k) → IsTrue (S.le m l) → IsTrue (S.le m (S.meet k l))
  pub meet_secure : (k l : Property) → IsTrue (S.secure k) → IsTrue (S.secure l) → IsTrue (S.secure (S.meet k l))
  pub le_i_refl : (m : Indirect) → IsTrue (S.secure_i m) → IsTrue (S.le_i m m)
  pub raise_mono : (k l : Property) (m n : Indirect) → IsTrue (S.le k l) → IsTrue (S.le_i m n) → IsTrue (S.le (S.raise k m) (S.raise l n))
  pub raise_secure : (k : Property) (m : Indirect) → IsTrue (S.secure k) → IsTrue (S.secure_i m) → IsTrue (S.secure (S.raise k m))
  pub raise_comm : (k : Property) (m n : Indirect) → IsTrue (S.secure k) → IsTrue (S.secure_i m) → IsTrue (S.secure_i n)
      → S.raise (S.raise k m) n ≡ S.raise (S.raise k n) m
  pub fresh_secure : (k : Property) (w : Reader) → IsTrue (S.permits k w) → IsTrue (S.secure (S.fresh w))
  pub permits_mono : (k l : Property) (w : Reader) → IsTrue (S.le k l) → IsTrue (S.permits l w) → IsTrue (S.permits k w)
  pub influence_mono : (k l : Property) (w : Reader) → IsTrue (S.le k l) → IsTrue (S.permits l w) → IsTrue (S.le_i (S.influence k w) (S.influence l w))
  pub influence_secure : (k : Property) (w : Reader) → IsTrue (S.secure k) → IsTrue (S.permits k w) → IsTrue (S.secure_i (S.influence k w))
  pub absorption : (k l : Property) (w : Reader) → IsTrue (S.secure k) → IsTrue (S.secure l) → IsTrue (S.permits k w) → IsTrue (S.absorbs k w l)
      → IsTrue (S.le (S.raise l (S.influence k w)) l)
