-- Records and nodes: record j of a tree's encoding is the record of one of its nodes, whose encoding starts there.
use Rattle.std.proofs.Common.{◌≡◌, refl, ap, sym, subst, ◌∙◌, List, [], ◌∷◌, ◌++◌, append_assoc, ℕ, zero, suc, ◌+◌, ◌*◌}
use Rattle.std.proofs.Common.{◌-◌, ◌≤◌, ◌<◌, arith, drop}
use Rattle.std.proofs.Math.Decide.{dec_lt}
use Rattle.rules.specs.Answer.{Bytes}
use Rattle.rules.proofs.Prefix.{All, joined, total, Shape, Code, record_at}
use Rattle.rules.proofs.Parts.{all_at, joined_append, total_append}
use Rattle.rules.proofs.PrefixLaws.{after_head, past_trees, record_is}

-- node c stands at record j of e
pub data NodeAt {T : Type 0} (S : Shape T) : T → ℕ → T → Type 0 where
  here : {e : T} → NodeAt S e 0 e
  below : {e d c : T} {j : ℕ} (before after : List T) → S.operands e ≡ before ++ d ∷ after → NodeAt S d j c → NodeAt S e (suc (total S.size before + j)) c

-- the tree of a list in which record j stands
pub record Within {T : Type 0} (size : T → ℕ) (es : List T) (j : ℕ) : Type 0 where
  pub before : List T
  pub tree : T
  pub after : List T
  pub place : ℕ
  pub is : es ≡ before ++ tree ∷ after
  pub place_is : j ≡ total size before + place
  pub inside : place < size tree

pub within : {T : Type 0} (size : T → ℕ) (es : List T) (j : ℕ) → j < total size es → Within size es j
within size [] j h = absurd (omega arith)
within size (e ∷ es) j h = split (dec_lt j (size e)) (λ l. within size es (j - size e) l)
  where
    later : size e ≤ j → Within size es (j - size e) → Within size (e ∷ es) j
    later l w =
        record {
          before = e ∷ w.before;
          tree = w.tree;
          after = w.after;
          place = w.place;
          is = ap (λ x. e ∷ x) w.is;
          place_is = omega (arith, w.place_is);
          inside = w.inside;
        }

    split : Dec (j < size e) → (j - size e < total size es → Within size es (j - size e)) → Within size (e ∷ es) j
    split (yes l) ih = record { before = []; tree = e; after = es; place = j; is = refl; place_is = omega arith; inside = l }
    split (no n) ih = later (omega arith) (ih (omega arith))

module _ {T : Type 0} (S : Shape T) where
  -- every record has its node
  Reached : T → Type 0
  Reached e = (j : ℕ) → j < S.size e → (c : T) × NodeAt S e j c

  reached_below : (e : T) → All Reached (S.operands e) → (j : ℕ) → j < total S.size (S.operands e) → (c : T) × NodeAt S e (suc j) c
  unfolding Reached
  reached_below e h j l =
      let w = within S.size (S.operands e) j l in
      let r = all_at Reached w.before w.tree w.after (subst (All Reached) w.is h) w.place w.inside in
      (r.0, subst (λ n. NodeAt S e (suc n) r.0) (sym w.place_is) (below w.before w.after w.is r.1))

  reached_node : (e : T) → All Reached (S.operands e) → Reached e
  unfolding Reached
  reached_node e h zero l = (e, here)
  reached_node e h (suc j) l = reached_below e h j (omega (arith, S.size_is e))

  pub node_at : (e : T) (j : ℕ) → j < S.size e → (c : T) × NodeAt S e j c
  unfolding Reached
  node_at = S.induction Reached reached_node

  -- a node's records are among its tree's
  pub at_size : {e c : T} {j : ℕ} → NodeAt S e j c → j + S.size c ≤ S.size e
  at_size here = omega arith
  at_size {e} (below {d} {c} {j} before after is h) =
      omega (arith, at_size h, S.size_is e, ap (total S.size) is, total_append S.size before (d ∷ after))

-- Q holds at every node of e.
pub record Every {T : Type 0} (S : Shape T) (Q : T → Type 0) (e : T) : Type 0 where
  pub at : (j : ℕ) (c : T) → NodeAt S e j c → Q c

module _ {T : Type 0} {S : Shape T} {Q : T → Type 0} where
  pub every_here : {e : T} → Every S Q e → Q e
  every_here {e} h = h.at 0 e here

  belows : (e : T) → Every S Q e → (before after : List T) → S.operands e ≡ before ++ after → All (Every S Q) after
  belows e h before [] is = tt
  belows e h before (d ∷ after) is = (
    record { at = λ j c a. h.at (suc (total S.size before + j)) c (below before after is a) },
    belows e h (before ++ (d ∷ [])) after (is ∙ sym (append_assoc before (d ∷ []) after)),
  )

  pub every_below : {e : T} → Every S Q e → All (Every S Q) (S.operands e)
  every_below {e} h = belows e h [] (S.operands e) refl

  pub every_node : {e : T} → Q e → All (Every S Q) (S.operands e) → Every S Q e
  every_node {e} q h = record { at = λ j c a. go a q h }
    where
      go : {d c : T} {j : ℕ} → NodeAt S d j c → Q d → All (Every S Q) (S.operands d) → Q c
      go here p g = p
      go (below {d = d'} {c = c} {j = j} before after is a) p g = (all_at (Every S Q) before d' after (subst (All (Every S Q)) is g)).at j c a

  pub every_of : ((e : T) → Q e) → (e : T) → Every S Q e
  every_of f e = record { at = λ j c a. f c }

pub every_map : {T : Type 0} {S : Shape T} {P Q : T → Type 0} → ((c : T) → P c → Q c) → {e : T} → Every S P e → Every S Q e
every_map f h = record { at = λ j c a. f c (h.at j c a) }

module _ {T : Type 0} {S : Shape T} (C : Code S) where
  -- operand d of a tree at record i
  pub operand_at : (s : Bytes) (i : ℕ) (e : T) (rest : Bytes) → drop (C.width * i) s ≡ C.encode e ++ rest
      → (before : List T) (d : T) (after : List T) → S.operands e ≡ before ++ d ∷ after
      → drop (C.width * (suc i + total S.size before)) s ≡ C.encode d ++ (joined C.encode after ++ rest)
  operand_at s i e rest h before d after is = grind (arith, past_trees, after_head, joined_append, append_assoc)

  -- A node's encoding starts at its record, wherever its tree stands.
  pub at_bytes : {e c : T} {j : ℕ} → NodeAt S e j c → (s : Bytes) (i : ℕ) (rest : Bytes) → drop (C.width * i) s ≡ C.encode e ++ rest
      → (more : Bytes) × (drop (C.width * (i + j)) s ≡ C.encode c ++ more)
  at_bytes {e} here s i rest h = let p : i + 0 ≡ i = omega arith in (rest, ap (λ n. drop (C.width * n) s) p ∙ h)
  at_bytes {e} (below {d = d} {c = c} {j = j} before after is a) s i rest h =
      let b = total S.size before in
      let r = at_bytes a s (suc i + b) (joined C.encode after ++ rest) (operand_at s i e rest h before d after is) in
      let p : i + suc (b + j) ≡ suc i + b + j = omega arith in
      (r.0, ap (λ n. drop (C.width * n) s) p ∙ r.1)

  pub at_record : {e c : T} {j : ℕ} → NodeAt S e j c → (s : Bytes) (i : ℕ) (rest : Bytes) → drop (C.width * i) s ≡ C.encode e ++ rest
      → record_at C.width s (i + j) ≡ C.head c
  at_record {c = c} {j = j} a s i rest h = let p = at_bytes a s i rest h in record_is C s (i + j) c p.0 p.1

  -- What holds of the record of every node holds of every record, and back.
  module _ (Q : Bytes → Type 0) (s : Bytes) (i : ℕ) (e : T) (rest : Bytes) (h : drop (C.width * i) s ≡ C.encode e ++ rest) where
    pub to_records : Every S (λ c. Q (C.head c)) e → (j : ℕ) → j < S.size e → Q (record_at C.width s (i + j))
    to_records q j l = let c = node_at S e j l in subst Q (sym (at_record c.1 s i rest h)) (q.at j c.0 c.1)

    pub to_nodes : ((j : ℕ) → j < S.size e → Q (record_at C.width s (i + j))) → Every S (λ c. Q (C.head c)) e
    to_nodes q = record { at = λ j c a. subst Q (at_record a s i rest h) (q j (omega (arith, at_size S a, S.size_is c))) }
