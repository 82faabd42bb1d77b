-- What holds of every prefix code: its length, reading back, uniqueness, and the pending count.
use Rattle.std.proofs.Common.{◌≡◌, refl, ap, sym, ◌∙◌, List, [], ◌∷◌, ◌++◌, append_assoc, append-nil, ℕ, suc, ◌+◌, ◌*◌}
use Rattle.std.proofs.Common.{◌-◌, ◌≤◌, ◌<◌, arith, mul-zero, length, drop, length-append, drop_at}
use Rattle.std.proofs.Math.Option.{none, some}
use Rattle.rules.specs.Answer.{Bytes, byte}
use Rattle.rules.specs.Types.{end_after}
use Rattle.rules.proofs.Prefix.{All, joined, total, Shape, Code, Prefix, record_at}
use Rattle.rules.proofs.Parts.{all_of, past, first_byte}
use Rattle.std.proofs.lemmas.Grind.{common_steps}

module _ {T : Type 0} {S : Shape T} (C : Code S) where
  pub size_positive : (e : T) → 1 ≤ S.size e
  size_positive e = omega (arith, S.size_is e)

  lengths : (es : List T) → All (λ e. length (C.encode e) ≡ C.width * S.size e) es → length (joined C.encode es) ≡ C.width * total S.size es
  lengths [] h = omega arith
  lengths (e ∷ es) h = rw length-append (omega (arith, h.0, lengths es h.1))

  pub encode_length : (e : T) → length (C.encode e) ≡ C.width * S.size e
  encode_length = S.induction _ (λ e h. rw (C.encode_is e, length-append, S.size_is e) (omega (arith, C.head_length e, lengths (S.operands e) h)))

  pub joined_length : (es : List T) → length (joined C.encode es) ≡ C.width * total S.size es
  joined_length es = lengths es (all_of _ encode_length es)

  -- where the operands of a tree at record i stand, and what follows a tree and several trees
  pub after_head : (s : Bytes) (i : ℕ) (e : T) (rest : Bytes) → drop (C.width * i) s ≡ C.encode e ++ rest
      → drop (C.width * suc i) s ≡ joined C.encode (S.operands e) ++ rest
  after_head s i e rest h = past s (C.width * i) C.width _ (C.head e) (joined C.encode (S.operands e) ++ rest) (C.head_length e) (omega arith) (rw (h, C.encode_is e) (append_assoc (C.head e) _ rest))

  pub past_tree : (s : Bytes) (i : ℕ) (e : T) (rest : Bytes) → drop (C.width * i) s ≡ C.encode e ++ rest → drop (C.width * (i + S.size e)) s ≡ rest
  past_tree s i e rest h = past s (C.width * i) _ _ (C.encode e) rest (encode_length e) (omega arith) h

  pub past_trees : (s : Bytes) (i : ℕ) (es : List T) (rest : Bytes) → drop (C.width * i) s ≡ joined C.encode es ++ rest
      → drop (C.width * (i + total S.size es)) s ≡ rest
  past_trees s i es rest h = past s (C.width * i) _ _ (joined C.encode es) rest (joined_length es) (omega arith) h

  -- a tree in its own encoding
  pub alone : (e : T) → drop (C.width * 0) (C.encode e) ≡ C.encode e ++ []
  alone e = ap (λ n. drop n (C.encode e)) (mul-zero C.width) ∙ sym (append-nil (C.encode e))

  -- the record of a tree that stands at record i
  pub record_is : (s : Bytes) (i : ℕ) (e : T) (rest : Bytes) → drop (C.width * i) s ≡ C.encode e ++ rest → record_at C.width s i ≡ C.head e
  record_is s i e rest h = grind (arith, common_steps)

pub no_more_needed : (f : ℕ → ℕ) (left i : ℕ) → end_after f left 0 i ≡ some i
unfolding end_after
no_more_needed f left i = grind arith

pub one_more_record : (f : ℕ → ℕ) (left need i : ℕ) → end_after f (suc left) (suc need) i ≡ end_after f left (need + f i) (suc i)
unfolding end_after
one_more_record f left need i = refl

-- the next of n records, where m is what it adds; the records run out; nothing is pending
pub next_record : (f : ℕ → ℕ) (n need i m : ℕ) → i < n → 0 < need → m ≡ f i
    → end_after f (n - (i + 1)) (need - 1 + m) (i + 1) ≡ end_after f (n - i) need i
next_record f n need i m l p e = grind (arith, one_more_record f (n - (i + 1)) (need - 1) i)

none_left : (f : ℕ → ℕ) (need i : ℕ) → end_after f 0 (suc need) i ≡ none
unfolding end_after
none_left f need i = refl

pub runs_out : (f : ℕ → ℕ) (left need i : ℕ) → left ≡ 0 → 0 < need → end_after f left need i ≡ none
runs_out f left need i e p = grind (arith, none_left f (need - 1) i)

pub comes_to_end : (f : ℕ → ℕ) (left need i : ℕ) → need ≡ 0 → end_after f left need i ≡ some i
comes_to_end f left need i e = grind (arith, no_more_needed f left i)

module _ {T : Type 0} {S : Shape T} {C : Code S} (X : Prefix C) where
  -- Reading back what was written.
  Round : T → Type 0
  Round e = (s : Bytes) → X.parse (C.encode e ++ s) ≡ e ∷ X.parse s

  rounds : (es : List T) → All Round es → (s : Bytes) → X.parse (joined C.encode es ++ s) ≡ es ++ X.parse s
  unfolding Round
  rounds [] h s = refl
  rounds (e ∷ es) h s = rw (append_assoc, h.0, rounds es h.1 s)

  round_node : (e : T) → All Round (S.operands e) → Round e
  unfolding Round
  round_node e h s = rw (C.encode_is e, append_assoc) (X.parse_node e _ (X.parse s) (rounds (S.operands e) h s))

  pub round_trip : (e : T) (s : Bytes) → X.parse (C.encode e ++ s) ≡ e ∷ X.parse s
  unfolding Round
  round_trip = S.induction Round round_node

  pub unique : (e e' : T) (s s' : Bytes) → C.encode e ++ s ≡ C.encode e' ++ s' → (e ≡ e') × (s ≡ s')
  unique e e' s s' h =
      let p : e ≡ e' = cc (h, round_trip e s, round_trip e' s') in
      (p, cc (h, p, drop_at (C.encode e) s _ refl, drop_at (C.encode e') s' _ refl))

  -- The pending count passes over exactly one tree: where the records from i on are those of e, it goes on at i + size
  -- e.
  abbrev pub ops : Bytes → ℕ → ℕ
  ops s j = X.arity (byte s (C.width * j))

  Over : T → Type 0
  Over e =
      (s : Bytes) (i left need : ℕ) (rest : Bytes) → drop (C.width * i) s ≡ C.encode e ++ rest
      → end_after (ops s) (S.size e + left) (suc need) i ≡ end_after (ops s) left need (i + S.size e)

  overs : (es : List T) → All Over es → (s : Bytes) (i left need : ℕ) (rest : Bytes) → drop (C.width * i) s ≡ joined C.encode es ++ rest
      → end_after (ops s) (total S.size es + left) (length es + need) i ≡ end_after (ops s) left need (i + total S.size es)
  unfolding Over
  overs [] h s i left need rest p = grind arith
  overs (e ∷ es) h s i left need rest p =
      let q = p ∙ append_assoc (C.encode e) (joined C.encode es) rest in
      grind (arith, h.0 s i (total S.size es + left) (length es + need) (joined C.encode es ++ rest) q, overs es h.1 s (i + S.size e) left need rest (past_tree C s i e _ q))

  pub ops_at : (s : Bytes) (i : ℕ) (e : T) (rest : Bytes) → drop (C.width * i) s ≡ C.encode e ++ rest → ops s i ≡ length (S.operands e)
  ops_at s i e rest h = grind (arith, first_byte, append_assoc)

  over_node : (e : T) → All Over (S.operands e) → Over e
  unfolding Over
  over_node e h s i left need rest p =
      grind (arith, S.size_is e, one_more_record (ops s) (total S.size (S.operands e) + left) need i, ops_at s i e rest p, overs (S.operands e) h s (suc i) left need rest (after_head C s i e rest p))

  pub over : (e : T) (s : Bytes) (i left need : ℕ) (rest : Bytes) → drop (C.width * i) s ≡ C.encode e ++ rest
      → end_after (ops s) (S.size e + left) (suc need) i ≡ end_after (ops s) left need (i + S.size e)
  unfolding Over
  over = S.induction Over over_node

  -- A tree at record i ends size e records on, however many records follow it.
  pub tree_end : (e : T) (s : Bytes) (i left : ℕ) (rest : Bytes) → S.size e ≤ left → drop (C.width * i) s ≡ C.encode e ++ rest
      → end_after (ops s) left 1 i ≡ some (i + S.size e)
  tree_end e s i left rest l h = grind (arith, over e s i (left - S.size e) 0 rest h, no_more_needed (ops s) (left - S.size e) (i + S.size e))
