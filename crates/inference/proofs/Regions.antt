-- The regions of the work buffer: front, middle, slots.
use Rattle.std.proofs.Common.{Result, Ok, ◌≡◌, refl, ◌∙◌, subst, List, ◌∷◌, ◌++◌, append_assoc, ℕ, zero, suc, ◌+◌, ◌-◌}
use Rattle.std.proofs.Common.{◌*◌, ◌≤◌, ◌<◌, arith, length, take, drop, get_or, length-append, length-drop}
use Rattle.std.proofs.Common.{take-append-drop, drop_at, drop-drop}
use borrow.Rule.Slice.PartMut.{put_mid}
use Rattle.calculus.specs.Types.{Ty, size_t, type_limit}
use Rattle.rules.specs.Limits.{answer_length, type_width}
use Rattle.rules.specs.Answer.{Bytes, Answer, accepted}
use Rattle.rules.specs.Types.{encode_type, no_type, sides}
use Rattle.rules.specs.Typing.{left, right}
use Rattle.types.specs.Held.{Held, kind_of_type}
use Rattle.answer.specs.declared.Refusal.{Refusal}
use Rattle.memory.specs.Splice.{splice}
use Rattle.memory.proofs.Laws.{length_splice, drop_past}
use Rattle.inference.specs.Memory.{high, Slot, Sized, HoldsContext, Wrote, Meets, meets_type, meets_refusal, Gives, Entered, Beside}
use Rattle.inference.proofs.Front.{held_take, rule_sides_size}
use Rattle.types.proofs.Parts.{type_length}
use Rattle.std.proofs.lemmas.Grind.{common_steps}
use Rattle.std.proofs.lemmas.List.{drop_all}

-- the slots, seen from a lent part
pub high_drop : (a b : ℕ) (w : Bytes) → a + answer_length * b ≤ length w → high b (drop a w) ≡ high b w
high_drop a b w l = grind (arith, length-drop, drop-drop)

-- what a lent part leaves
pub lent_rest : (a : ℕ) (w y : Bytes) → put_mid a (length w - a) w y ≡ take a w ++ y
lent_rest a w y = grind (arith, common_steps, drop_all)

pub drop_lent : (a : ℕ) (w y : Bytes) → a ≤ length w → drop a (take a w ++ y) ≡ y
drop_lent a w y l = grind (arith, common_steps)

pub length_lent : (a : ℕ) (w y : Bytes) → a ≤ length w → length y ≡ length w - a → length (take a w ++ y) ≡ length w
length_lent a w y l e = grind (arith, common_steps)

pub high_lent : (a b : ℕ) (w y : Bytes) → a + answer_length * b ≤ length w → length y ≡ length w - a → high b (take a w ++ y) ≡ high b y
high_lent a b w y l e = grind (arith, high_drop, length_lent, drop_lent)

pub length_high : (b : ℕ) (w : Bytes) → answer_length * b ≤ length w → length (high b w) ≡ answer_length * b
length_high b w l = grind (arith, common_steps)

-- the slots of fewer binders
pub high_fewer : (b c : ℕ) (w : Bytes) → b ≤ c → answer_length * c ≤ length w → drop (answer_length * (c - b)) (high c w) ≡ high b w
high_fewer b c w m l = grind (arith, drop-drop)

pub high_inner : (b : ℕ) (w : Bytes) → answer_length * (b + 1) ≤ length w → drop answer_length (high (b + 1) w) ≡ high b w
high_inner b w l = grind (arith, drop-drop answer_length (length w - answer_length * (b + 1)) w)

pub high_within : (b c : ℕ) (w w' : Bytes) → b ≤ c → answer_length * c ≤ length w → length w' ≡ length w → high c w' ≡ high c w → high b w' ≡ high b w
high_within b c w w' m l n e = grind (arith, high_fewer b c w, high_fewer b c w')

-- what stands past a place, and the slots
pub high_past : (a b : ℕ) (w w' : Bytes) → drop a w' ≡ drop a w → length w' ≡ length w → a + answer_length * b ≤ length w → high b w' ≡ high b w
high_past a b w w' e m l = grind (arith, high_drop a b w, high_drop a b w')

-- a piece below the slots leaves them
pub high_splice : (at b : ℕ) (x w : Bytes) → at + length x + answer_length * b ≤ length w → high b (splice at x w) ≡ high b w
high_splice at b x w l = grind (arith, length_splice at x w, drop_past at (length w - answer_length * b) x w)

-- a piece written to the start of slot b + 1
pub high_slot : (b : ℕ) (x w : Bytes) → answer_length * (b + 1) ≤ length w → length x ≤ answer_length * (b + 1)
    → high (b + 1) (splice (length w - answer_length * (b + 1)) x w) ≡ x ++ drop (length x) (high (b + 1) w)
high_slot b x w l m = grind (arith, common_steps)

pub held_lent : {t : Ty} (a : ℕ) (w y : Bytes) → Held w t → type_width * size_t t ≤ a → a ≤ length w → Held (take a w ++ y) t
held_lent {t} a w y h l m =
    let k : ℕ = type_width * size_t t in
    let e : take k (take a w ++ y) ≡ encode_type t = grind (arith, common_steps, held_take h) in
    record { rest = drop k (take a w ++ y); is = cc (e, take-append-drop k (take a w ++ y)) }

pub slot_lent : {t : Ty} (a : ℕ) (w y : Bytes) → Slot w t → answer_length ≤ a → a ≤ length w → Slot (take a w ++ y) t
slot_lent a w y s l m = record { held = held_lent a w y s.held (omega (arith, s.small)) m; small = s.small }

-- a piece written behind the front
pub slot_before : {t : Ty} (at : ℕ) (x : Bytes) {w w' : Bytes} → Slot w t → answer_length ≤ at → at ≤ length w → w' ≡ splice at x w → Slot w' t
slot_before at x {w} s l m e = rw e (slot_lent at w (x ++ drop (at + length x) w) s l m)

abbrev pub slot_of : {t : Ty} {n : ℕ} {l : Bytes} → Sized l n t → Slot l t
slot_of s = record { held = s.held; small = s.small }

pub sized_lent : {t : Ty} {n : ℕ} (a : ℕ) (w y : Bytes) → Sized w n t → answer_length ≤ a → a ≤ length w → Sized (take a w ++ y) n t
sized_lent a w y s l m = record { held = (slot_lent a w y (slot_of s) l m).held; small = s.small; count = s.count }

-- one binder more
pub push : {t : Ty} {Γ : List Ty} {l hi : Bytes} → Slot l t → length l ≡ answer_length + length hi → drop answer_length l ≡ hi → HoldsContext Γ hi → HoldsContext (t ∷ Γ) l
push {t} {Γ} {l} {hi} s n d h = record { len = omega (arith, h.len); slot = at }
  where
    at : (n : ℕ) → n < length (t ∷ Γ) → Slot (drop (answer_length * n) l) (get_or (t ∷ Γ) n no_type)
    at zero m = s
    at (suc n) m =
        let k : answer_length * suc n ≡ answer_length + answer_length * n = omega arith in
        rw (k, ← drop-drop (answer_length * n) answer_length l, d) (h.slot n (omega arith))

-- the next slot filled
pub entered : {t : Ty} {Γ : List Ty} {b : ℕ} {w w' : Bytes} → Slot (high (b + 1) w') t → high b w' ≡ high b w → length w' ≡ length w → answer_length * (b + 1) ≤ length w
    → length Γ ≡ b → HoldsContext Γ (high b w) → Entered (t ∷ Γ) b w w'
entered {t} {Γ} {b} {w} {w'} s k n l m h =
    let p = push s (grind (arith, length_high)) (high_inner b w' (omega arith) ∙ k) h in
    record { least = omega arith; holds = subst (λ j. HoldsContext (t ∷ Γ) (high j w')) {x = b + 1} (omega arith) p; kept = k }

pub stayed : {Γ : List Ty} {b : ℕ} {w : Bytes} → length Γ ≡ b → HoldsContext Γ (high b w) → Entered Γ b w w
stayed {Γ} {b} {w} m h = record { least = omega arith; holds = rw m h; kept = refl }

-- a buffer whose slots are those of another
pub rebase : {o : Answer Ty} {b : ℕ} {w w' : Bytes} {x : Result ℕ Refusal} {v : Bytes} → high b w' ≡ high b w → Meets o b w' x v → Meets o b w x v
rebase e (meets_type m) = meets_type (record { sized = m.sized; kept = m.kept ∙ e })
rebase e meets_refusal = meets_refusal

-- the slot of a variable
pub slot_at : (i b : ℕ) (w : Bytes) (Γ : List Ty) → length Γ ≡ b → HoldsContext Γ (high b w) → i < b → answer_length * b ≤ length w
    → Slot (drop (length w - answer_length * (b - i)) w) (get_or Γ i no_type)
slot_at i b w Γ l h m r =
    let e : drop (answer_length * i) (high b w) ≡ drop (length w - answer_length * (b - i)) w = grind (arith, drop-drop) in
    rw (← e) (h.slot i (omega arith))

-- a type written in front
pub front_held : (t : Ty) (w : Bytes) {w' : Bytes} → w' ≡ splice 0 (encode_type t) w → Held w' t
front_held t w e = rw e (record { rest = drop (0 + length (encode_type t)) w; is = refl })

pub wrote_first : {t : Ty} {b n : ℕ} {w x w' : Bytes} → n ≡ size_t t → size_t t ≤ type_limit → x ≡ encode_type t → answer_length * (b + 1) ≤ length w → w' ≡ splice 0 x w → Wrote t b w n w'
wrote_first {t} {b} {n} {w} {x} {w'} c s e l q =
    let z : w' ≡ splice 0 (encode_type t) w = cc in
    record {
      sized = record { held = front_held t w z; small = s; count = c };
      kept = rw z (high_splice 0 b (encode_type t) w (omega (arith, type_length t)));
    }

pub written : {t : Ty} {n : ℕ} {w x w' : Bytes} → n ≡ size_t t → size_t t ≤ type_limit → x ≡ encode_type t → w' ≡ splice 0 x w → Gives (accepted t) w (Ok n) w'
written c s e q b l = meets_type (wrote_first c s e l q)

-- a type written to the next slot
pub slot_written : {t : Ty} {Γ : List Ty} {b : ℕ} {w x w' : Bytes} → size_t t ≤ type_limit → x ≡ encode_type t → answer_length * (b + 1) ≤ length w → w' ≡ splice (length w - answer_length * (b + 1)) x w
    → length Γ ≡ b → HoldsContext Γ (high b w) → Entered (t ∷ Γ) b w w'
slot_written {t} {Γ} {b} {w} {x} {w'} s e l q m h =
    let at : ℕ = length w - answer_length * (b + 1) in
    let z : w' ≡ splice at (encode_type t) w = cc in
    let k = type_length t in
    entered
    (record { held = record { rest = drop (length (encode_type t)) (high (b + 1) w); is = rw z (high_slot b (encode_type t) w l (omega arith)) }; small = s })
    (rw z (high_splice at b (encode_type t) w (omega arith))) (rw z (length_splice at (encode_type t) w (omega arith))) l m h

-- the two sides of a tested type written to the next slot
pub beside_written : {t : Ty} {b : ℕ} (w : Bytes) {x : Bytes} (w' : Bytes) → sides (kind_of_type t) ≡ 2 → size_t t ≤ type_limit → x ≡ encode_type (left t) ++ encode_type (right t) → answer_length * (b + 1) ≤ length w
    → w' ≡ splice (length w - answer_length * (b + 1)) x w → Beside t b w' × (high b w' ≡ high b w) × (length w' ≡ length w)
beside_written {t} {b} w {x} w' nz s e l q = grind (arith, answer_length, encode_type, rule_sides_size, type_width, size_t, type_length, length-append, high_slot, append_assoc, drop_at, high_splice, length_splice)
