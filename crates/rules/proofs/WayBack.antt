-- The way back: where the pending count comes to an end over good records, those records are trees.
use Rattle.std.proofs.Common.{◌≡◌, refl, ap, ◌∙◌, List, [], ◌∷◌, ◌++◌, append_assoc, append-nil, ℕ, zero, suc, ◌+◌, ◌*◌}
use Rattle.std.proofs.Common.{◌≤◌, ◌<◌, arith, mul-le-mul_left, length, take, drop, length-drop, take-append-drop}
use Rattle.std.proofs.Common.{length-take-le, drop-drop}
use Rattle.std.proofs.Math.Option.{some, none-ne-some, some-injective}
use Rattle.rules.specs.Answer.{Bytes}
use Rattle.rules.specs.Types.{end_after}
use Rattle.rules.proofs.Prefix.{joined, total, Shape, Code, Prefix, record_at}
use Rattle.rules.proofs.Parts.{joined_append, total_append, record_first}
use Rattle.rules.proofs.PrefixLaws.{ops}
use Rattle.std.proofs.lemmas.Grind.{common_steps}

-- the count ends within the records that are left
pub end_bound : (f : ℕ → ℕ) (left need i e : ℕ) → end_after f left need i ≡ some e → e ≤ i + left
unfolding end_after
end_bound f zero zero i e h = grind (arith, some-injective)
end_bound f zero (suc need) i e h = cc
end_bound f (suc left) zero i e h = grind (arith, some-injective)
end_bound f (suc left) (suc need) i e h = omega (arith, end_bound f left (need + f i) (suc i) e h)

-- `need` trees stand in s from record i to record e.
pub record Trees {T : Type 0} {S : Shape T} (C : Code S) (s : Bytes) (need i e : ℕ) : Type 0 where
  pub trees : List T
  pub count : length trees ≡ need
  pub bytes : drop (C.width * i) s ≡ joined C.encode trees ++ drop (C.width * e) s
  pub end : e ≡ i + total S.size trees

module _ {T : Type 0} {S : Shape T} {C : Code S} (X : Prefix C) (s : Bytes) where
  none_needed : (i e : ℕ) → some i ≡ some e → Trees C s 0 i e
  none_needed i e h =
      let p = some-injective i e h in
      record { trees = []; count = refl; bytes = ap (λ n. drop (C.width * n) s) p; end = omega arith }

  -- a tree's record in front of its operands and of the trees that follow it
  front_bytes : (i : ℕ) (d : T) (us rest : List ℕ) → C.head d ≡ record_at C.width s i
      → drop (C.width * suc i) s ≡ joined C.encode (S.operands d) ++ us ++ rest → drop (C.width * i) s ≡ C.encode d ++ us ++ rest
  front_bytes i d us rest h b =
      let next : C.width * i + C.width ≡ C.width * suc i = omega arith in
      rw (← take-append-drop C.width (drop (C.width * i) s), drop-drop C.width (C.width * i) s, next, b, ← h, C.encode_is d) (simp append_assoc)

  made : (i e need n : ℕ) (ts : List T) (d : T) → C.head d ≡ record_at C.width s i → S.operands d ≡ take n ts → length ts ≡ need + n
      → drop (C.width * suc i) s ≡ joined C.encode ts ++ drop (C.width * e) s → e ≡ suc i + total S.size ts → Trees C s (suc need) i e
  made i e need n ts d h o l b z =
      let split : ts ≡ S.operands d ++ drop n ts = cc (take-append-drop n ts) in
      record {
        trees = d ∷ drop n ts;
        count = omega (arith, length-drop n ts);
        bytes = front_bytes i d (joined C.encode (drop n ts)) (drop (C.width * e) s) h (cc (b, joined_append C.encode (S.operands d) (drop n ts)));
        end = omega (arith, S.size_is d, total_append S.size (S.operands d) (drop n ts), ap (total S.size) split);
      }

  -- the tree of a good record and of the first trees that follow it
  front_tree : (i need : ℕ) (ts : List T) → C.width * suc i ≤ length s → X.Good (record_at C.width s i) → length ts ≡ need + ops X s i
      → (d : T) × (C.head d ≡ record_at C.width s i) × (S.operands d ≡ take (ops X s i) ts)
  front_tree i need ts l good c =
      X.node (record_at C.width s i) (take (ops X s i) ts) (grind (arith, common_steps)) good (grind (arith, length-take-le, record_first, X.wide))

  in_front : (i e need : ℕ) → C.width * suc i ≤ length s → (i < e → X.Good (record_at C.width s i)) → Trees C s (need + ops X s i) (suc i) e
      → Trees C s (suc need) i e
  in_front i e need l good ts =
      let d = front_tree i need ts.trees l (good (omega (arith, ts.end))) ts.count in
      made i e need (ops X s i) ts.trees d.0 d.1 d.2 ts.count ts.bytes ts.end

  -- `left` records follow record i, and those up to the end are good.
  pub way_back : (left need i e : ℕ) → C.width * (i + left) ≤ length s → end_after (ops X s) left need i ≡ some e
      → ((j : ℕ) → i ≤ j → j < e → X.Good (record_at C.width s j)) → Trees C s need i e
  unfolding end_after
  way_back zero zero i e l h good = none_needed i e h
  way_back zero (suc need) i e l h good = absurd (none-ne-some e h)
  way_back (suc left) zero i e l h good = none_needed i e h
  way_back (suc left) (suc need) i e l h good =
      in_front i e need (omega (arith, mul-le-mul_left {m = suc i} {n = i + suc left} C.width (omega arith))) (λ p. good i (omega arith) p)
      (way_back left (need + ops X s i) (suc i) e (omega arith) h (λ j a b. good j (omega arith) b))

-- one tree, from record i to record e
pub record Tree {T : Type 0} {S : Shape T} (C : Code S) (s : Bytes) (i e : ℕ) : Type 0 where
  pub tree : T
  pub bytes : drop (C.width * i) s ≡ C.encode tree ++ drop (C.width * e) s
  pub end : e ≡ i + S.size tree

pub one_tree : {T : Type 0} {S : Shape T} {C : Code S} {s : Bytes} {i e : ℕ} → Trees C s 1 i e → Tree C s i e
one_tree {T} {S} {C} {s} {i} {e} t = go t.trees t.count t.bytes t.end
  where
    go : (ts : List T) → length ts ≡ 1 → drop (C.width * i) s ≡ joined C.encode ts ++ drop (C.width * e) s → e ≡ i + total S.size ts → Tree C s i e
    go [] l b z = absurd (omega arith)
    go (d ∷ []) l b z = record { tree = d; bytes = b ∙ ap (λ x. x ++ drop (C.width * e) s) (append-nil (C.encode d)); end = omega arith }
    go (d ∷ c ∷ ts) l b z = absurd (omega arith)
