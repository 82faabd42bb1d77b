-- Stripping bytes is erasure of what they encode.
use Rattle.std.proofs.Common.{◌≡◌, refl, sym, ap, ◌∙◌, Bool, true, false, cond, List, [], ◌∷◌, ◌++◌, map, ℕ, zero, suc}
use Rattle.std.proofs.Common.{◌+◌, ◌*◌, ◌/◌, ◌%◌, suc-add, add-suc, add-zero, arith, get_or, drop}
use Rattle.calculus.specs.Security.{Property}
use Rattle.calculus.specs.Types.{Ty}
use Rattle.calculus.specs.Terms.{Term}
use Rattle.calculus.specs.Relabelling.{relabel_t, relabel}
use Rattle.calculus.proofs.Erased.{public, erasure_labels, erase_t, erase}
use Rattle.rules.specs.Answer.{Bytes, byte}
use Rattle.rules.specs.Limits.{type_width, script_width}
use Rattle.rules.specs.Types.{type_count, type_kind, type_r, type_ir, type_zero, type_c, type_ic, sides, no_type}
use Rattle.rules.specs.Types.{make_type, parse_types, type_at}
use Rattle.rules.specs.Script.{encode, size, depth}
use Rattle.rules.proofs.Nodes.{every_of}
use Rattle.rules.proofs.TermCode.{term_head}
use Rattle.rules.specs.Strip.{group_byte, strip_from, strip_script, strip_types}
use Rattle.rules.proofs.Strip.{strip_length}
use Rattle.promises.proofs.RelabelledBytes.{relabel_size, relabel_depth, change_encode}

-- Only the place within a record matters. `next` is what a width has to know of its remainders.
module _ (w : ℕ) (next : (i j : ℕ) → i % w ≡ j % w → suc i % w ≡ suc j % w) where
  strip_mod : (i j : ℕ) (s : Bytes) → i % w ≡ j % w → strip_from w i s ≡ strip_from w j s
  unfolding strip_from
  strip_mod i j [] e = refl
  strip_mod i j (b ∷ s) e =
      ap {B = Bytes} (λ (x : ℕ). cond (group_byte w x) 0 b ∷ strip_from w (suc i) s) e
      ∙ ap {B = Bytes} (λ (r : Bytes). cond (group_byte w (j % w)) 0 b ∷ r) (strip_mod (suc i) (suc j) s (next i j e))

pub strip_drop : (w i n : ℕ) (s : Bytes) → drop n (strip_from w i s) ≡ strip_from w (i + n) (drop n s)
unfolding strip_from
strip_drop w i zero s = ap (λ (x : ℕ). strip_from w x s) (sym (add-zero i))
strip_drop w i (suc n) [] = refl
strip_drop w i (suc n) (b ∷ s) = strip_drop w (suc i) n s ∙ ap (λ (x : ℕ). strip_from w x (drop n s)) (suc-add i n ∙ sym (add-suc i n))

pub strip_byte : (w i j : ℕ) (s : Bytes) → byte (strip_from w i s) j ≡ cond (group_byte w ((i + j) % w)) 0 (byte s j)
unfolding strip_from
strip_byte w i j [] = sym (none (group_byte w ((i + j) % w)))
  where
    none : (b : Bool) → ◌≡◌ {A = ℕ} (cond b 0 0) 0
    none true = refl
    none false = refl
strip_byte w i zero (b ∷ s) = ap (λ (x : ℕ). cond (group_byte w (x % w)) 0 b) (sym (add-zero i))
strip_byte w i (suc j) (b ∷ s) =
    strip_byte w (suc i) j s ∙ ap (λ (x : ℕ). cond (group_byte w (x % w)) 0 (get_or s j 0)) (suc-add i j ∙ sym (add-suc i j))

-- scripts
strip_place : (i j : ℕ) (s : Bytes) → i % script_width ≡ j % script_width → strip_from script_width i s ≡ strip_from script_width j s
strip_place = strip_mod script_width (λ i j e. omega arith)

strip_record : (k r ir z lo hi c ic : ℕ) (s : Bytes)
    → strip_script (k ∷ r ∷ ir ∷ z ∷ lo ∷ hi ∷ c ∷ ic ∷ s) ≡ k ∷ 0 ∷ 0 ∷ z ∷ lo ∷ hi ∷ 0 ∷ 0 ∷ strip_script s
unfolding strip_from
strip_record k r ir z lo hi c ic s = grind (arith, strip_place)

strip_head : (e : Term) (s : Bytes) → strip_script (term_head e ++ s) ≡ term_head (erase e) ++ strip_script s
unfolding relabel
strip_head e s = grind (arith, strip_record)

pub strip_encode : (e : Term) → strip_script (encode e) ≡ encode (erase e)
unfolding strip_from
strip_encode e = change_encode erasure_labels strip_script (λ c. Unit {0}) (λ c q s. strip_head c s) refl e (every_of (λ c. tt) e)

-- types
strip_type_place : (i j : ℕ) (s : Bytes) → i % type_width ≡ j % type_width → strip_from type_width i s ≡ strip_from type_width j s
strip_type_place = strip_mod type_width (λ i j e. omega arith)

erase_make : (kind : ℕ) (k : Property) (s t : Ty) → make_type kind public (erase_t s) (erase_t t) ≡ erase_t (make_type kind k s t)
unfolding relabel_t
erase_make kind k s t = grind arith

erase_at : (ts : List Ty) (i : ℕ) → get_or (map erase_t ts) i no_type ≡ erase_t (get_or ts i no_type)
unfolding relabel_t
erase_at [] i = refl
erase_at (s ∷ ts) zero = refl
erase_at (s ∷ ts) (suc i) = erase_at ts i

drop_map : (n : ℕ) (ts : List Ty) → drop n (map erase_t ts) ≡ map erase_t (drop n ts)
drop_map zero ts = refl
drop_map (suc n) [] = refl
drop_map (suc n) (s ∷ ts) = drop_map n ts

erase_record : (kind : ℕ) (k : Property) (ts us : List Ty) → us ≡ map erase_t ts
    → make_type kind public (get_or us 0 no_type) (get_or us 1 no_type) ∷ drop (sides kind) us
    ≡ map erase_t (make_type kind k (get_or ts 0 no_type) (get_or ts 1 no_type) ∷ drop (sides kind) ts)
erase_record kind k ts us e =
    rw (e, erase_at ts 0, erase_at ts 1, drop_map (sides kind) ts, erase_make kind k (get_or ts 0 no_type) (get_or ts 1 no_type))

strip_parse : (t : Bytes) → parse_types (strip_types t) ≡ map erase_t (parse_types t)
unfolding parse_types strip_from
strip_parse (k ∷ r ∷ ir ∷ z ∷ c ∷ ic ∷ t) =
    erase_record k (record { r = r; ir = ir; c = c; ic = ic }) (parse_types t) (parse_types (strip_from type_width type_width t))
    (ap parse_types (strip_type_place type_width 0 t refl) ∙ strip_parse t)
strip_parse _ = refl

pub strip_type : (t : Bytes) (i : ℕ) → type_at (strip_types t) i ≡ erase_t (type_at t i)
unfolding type_at
strip_type t i =
    ap (λ (b : Bytes). get_or (parse_types b) 0 no_type) (strip_drop type_width 0 (type_width * i) t ∙ strip_type_place (0 + type_width * i) 0 (drop (type_width * i) t) (omega arith))
    ∙ ap (λ (ts : List Ty). get_or ts 0 no_type) (strip_parse (drop (type_width * i) t))
    ∙ erase_at (parse_types (drop (type_width * i) t)) 0

-- the fields of a stripped record
pub strip_type_count : (t : Bytes) → type_count (strip_types t) ≡ type_count t
strip_type_count t = ap (λ (n : ℕ). n / type_width) (strip_length type_width 0 t)

stripped_byte : (t : Bytes) (i j x : ℕ) → (0 + (type_width * i + j)) % type_width ≡ x
    → byte (strip_types t) (type_width * i + j) ≡ cond (group_byte type_width x) 0 (byte t (type_width * i + j))
stripped_byte t i j x e = grind (arith, strip_byte)

pub strip_type_kind : (t : Bytes) (i : ℕ) → type_kind (strip_types t) i ≡ type_kind t i
strip_type_kind t i = grind (arith, strip_byte)

pub strip_type_r : (t : Bytes) (i : ℕ) → type_r (strip_types t) i ≡ 0
strip_type_r t i = stripped_byte t i 1 1 (omega arith)

pub strip_type_ir : (t : Bytes) (i : ℕ) → type_ir (strip_types t) i ≡ 0
strip_type_ir t i = stripped_byte t i 2 2 (omega arith)

pub strip_type_zero : (t : Bytes) (i : ℕ) → type_zero (strip_types t) i ≡ type_zero t i
strip_type_zero t i = stripped_byte t i 3 3 (omega arith)

pub strip_type_c : (t : Bytes) (i : ℕ) → type_c (strip_types t) i ≡ 0
strip_type_c t i = stripped_byte t i 4 4 (omega arith)

pub strip_type_ic : (t : Bytes) (i : ℕ) → type_ic (strip_types t) i ≡ 0
strip_type_ic t i = stripped_byte t i 5 5 (omega arith)

-- stripping keeps a term's records and depth
pub erase_size : (e : Term) → size (erase e) ≡ size e
erase_size e = relabel_size erasure_labels e

pub erase_depth : (e : Term) → depth (erase e) ≡ depth e
erase_depth e = relabel_depth erasure_labels e
