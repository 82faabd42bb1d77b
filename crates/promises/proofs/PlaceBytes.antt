-- A place in bytes: the records before and after it are the same whatever stands there, and where a whole term stands
-- among the records of another, it stands at a place of it.
use Rattle.std.proofs.Common.{◌≡◌, refl, ap, ap₂, sym, subst, ◌∙◌, List, [], ◌∷◌, ◌++◌, append-nil, ℕ, zero, suc, ◌+◌}
use Rattle.std.proofs.Common.{◌*◌, ◌/◌, ◌<◌, arith, length, take, drop, length-append, take_at, drop_at}
use Rattle.calculus.specs.Security.{Property, Reader, Indirect}
use Rattle.calculus.specs.Terms.{Side, choose, Operation, Term, var, lam, pair, inj, app, proj, case, protect, mu}
use Rattle.calculus.specs.Terms.{reckon}
use Rattle.noninterference.specs.Places.{Place, whole, in_lam, in_pair_left, in_pair_right, at_inj, in_app_left}
use Rattle.noninterference.specs.Places.{in_app_right, at_proj, in_tested, in_first, in_second, at_protect, in_mu}
use Rattle.noninterference.specs.Places.{in_reckon_left, in_reckon_right, put}
use Rattle.rules.specs.Answer.{Bytes, Octets}
use Rattle.rules.specs.Limits.{script_width}
use Rattle.rules.specs.Script.{full_record, object_record, script_record, encode, size, term}
use Rattle.rules.proofs.Prefix.{joined, total}
use Rattle.rules.proofs.Parts.{joined_append}
use Rattle.rules.proofs.PrefixLaws.{encode_length, joined_length, alone, unique, size_positive}
use Rattle.rules.proofs.Nodes.{NodeAt, here, below, node_at, at_bytes}
use Rattle.rules.proofs.TermCode.{term_shape, term_code, term_prefix, term_operands, term_head, term_head_length}
use Rattle.rules.proofs.TermCode.{term_encode_is}
use Rattle.rules.proofs.Scripts.{term_encode}
use Rattle.promises.specs.Noninterference.{ScriptsAtPlace, SamePlaceOf}
use Rattle.std.proofs.lemmas.Grind.{common_steps}

-- bytes that begin alike
begin_alike : (x y u v : Bytes) → length x ≡ length y → x ++ u ≡ y ++ v → (x ≡ y) × (u ≡ v)
begin_alike x y u v l h = (
  sym (take_at x u (length y) l) ∙ ap (take (length y)) h ∙ take_at y v (length y) refl,
  sym (drop_at x u (length y) l) ∙ ap (drop (length y)) h ∙ drop_at y v (length y) refl,
)

-- what stands before and after the place P, from its record j on
pub record Around (P : Place) (j : ℕ) : Type 0 where
  pub before : Bytes
  pub after : Bytes
  pub length_is : length before ≡ script_width * j
  pub is : (e : Term) → encode (put P e) ≡ before ++ (encode e ++ after)

-- a node with an operand left out, and the place that is
record Layer : Type 0 where
  node : Term → Term
  on : Place → Place
  head : Bytes
  earlier : List Term
  later : List Term
  puts : (P : Place) (e : Term) → put (on P) e ≡ node (put P e)
  heads : (x : Term) → term_head (node x) ≡ head
  operands : (x : Term) → term_operands (node x) ≡ earlier ++ (x ∷ later)

abbrev layer : (node : Term → Term) (on : Place → Place) (head : Bytes) (earlier later : List Term) → ((P : Place) (e : Term) → put (on P) e ≡ node (put P e))
    → ((x : Term) → term_head (node x) ≡ head) → ((x : Term) → term_operands (node x) ≡ earlier ++ (x ∷ later)) → Layer
layer n o h a b p q r = record { node = n; on = o; head = h; earlier = a; later = b; puts = p; heads = q; operands = r }

-- a place's bytes within a node's
regrouped : (h a b x c d : Bytes) → h ++ (a ++ ((b ++ (x ++ c)) ++ d)) ≡ (h ++ (a ++ b)) ++ (x ++ (c ++ d))
regrouped h a b x c d = grind (arith, common_steps)

module _ (l : Layer) where
  node_bytes : (x : Term) → encode (l.node x) ≡ l.head ++ (joined encode l.earlier ++ (encode x ++ joined encode l.later))
  node_bytes x = grind (arith, term_encode_is, term_operands, joined_append)

  head_length : length l.head ≡ script_width
  head_length = sym (ap length (l.heads (var 0))) ∙ term_head_length (l.node (var 0))

  around : {P : Place} {j : ℕ} → Around P j → Around (l.on P) (suc (total size l.earlier + j))
  around {P} {j} A = record {
    before = l.head ++ (joined encode l.earlier ++ A.before);
    after = A.after ++ joined encode l.later;
    length_is =
        rw length-append (rw length-append (omega (arith, head_length, joined_length term_code l.earlier, A.length_is)));
    is = λ e.
        ap encode (l.puts P e) ∙ node_bytes (put P e)
        ∙ ap (λ b. l.head ++ (joined encode l.earlier ++ (b ++ joined encode l.later))) (A.is e)
        ∙ regrouped l.head (joined encode l.earlier) A.before (encode e) A.after (joined encode l.later);
  }

-- the places in a node, one for each operand
abbrev lam_layer : Property → ℕ → Layer
unfolding put
lam_layer k i = layer (lam k i) (in_lam k i) (object_record 2 k i) [] [] (λ P e. refl) (λ x. refl) (λ x. refl)

abbrev left_of_pair : Property → Term → Layer
unfolding put
left_of_pair k b = layer (λ x. pair k x b) (λ P. in_pair_left k P b) (object_record 3 k 0) [] (b ∷ []) (λ P e. refl) (λ x. refl) (λ x. refl)

abbrev right_of_pair : Property → Term → Layer
unfolding put
right_of_pair k a = layer (pair k a) (in_pair_right k a) (object_record 3 k 0) (a ∷ []) [] (λ P e. refl) (λ x. refl) (λ x. refl)

abbrev inj_layer : Side → Property → ℕ → Layer
unfolding put
inj_layer d k i = layer (inj d k i) (at_inj d k i) (object_record (choose d 4 5) k i) [] [] (λ P e. refl) (λ x. refl) (λ x. refl)

abbrev left_of_app : Reader → Term → Layer
unfolding put
left_of_app w a = layer (λ x. app w x a) (λ P. in_app_left w P a) (script_record 6 w 0 0) [] (a ∷ []) (λ P e. refl) (λ x. refl) (λ x. refl)

abbrev right_of_app : Reader → Term → Layer
unfolding put
right_of_app w f = layer (app w f) (in_app_right w f) (script_record 6 w 0 0) (f ∷ []) [] (λ P e. refl) (λ x. refl) (λ x. refl)

abbrev proj_layer : Side → Reader → Layer
unfolding put
proj_layer d w = layer (proj d w) (at_proj d w) (script_record (choose d 7 8) w 0 0) [] [] (λ P e. refl) (λ x. refl) (λ x. refl)

abbrev tested : Reader → ℕ → Term → Term → Layer
unfolding put
tested w i a b = layer (λ x. case w i x a b) (λ P. in_tested w i P a b) (script_record 9 w 0 i) [] (a ∷ b ∷ []) (λ P e. refl) (λ x. refl) (λ x. refl)

abbrev first_branch : Reader → ℕ → Term → Term → Layer
unfolding put
first_branch w i e b = layer (λ x. case w i e x b) (λ P. in_first w i e P b) (script_record 9 w 0 i) (e ∷ []) (b ∷ []) (λ P e. refl) (λ x. refl) (λ x. refl)

abbrev second_branch : Reader → ℕ → Term → Term → Layer
unfolding put
second_branch w i e a = layer (case w i e a) (in_second w i e a) (script_record 9 w 0 i) (e ∷ a ∷ []) [] (λ P e. refl) (λ x. refl) (λ x. refl)

abbrev protect_layer : Indirect → Layer
unfolding put
protect_layer m = layer (protect m) (at_protect m) (full_record 10 0 m.ir 0 0 m.ic) [] [] (λ P e. refl) (λ x. refl) (λ x. refl)

abbrev mu_layer : Reader → ℕ → Layer
unfolding put
mu_layer w i = layer (mu w i) (in_mu w i) (script_record 11 w 0 i) [] [] (λ P e. refl) (λ x. refl) (λ x. refl)

reckon_head : (o : Operation) (w : Reader) (a b c d : Term) → term_head (reckon o w a b) ≡ term_head (reckon o w c d)
reckon_head o w a b c d = grind arith

abbrev left_number : Operation → Reader → Term → Layer
unfolding put
left_number o w b = layer (λ x. reckon o w x b) (λ P. in_reckon_left o w P b) (term_head (reckon o w b b)) [] (b ∷ []) (λ P e. refl) (λ x. reckon_head o w x b b b) (λ x. refl)

abbrev right_number : Operation → Reader → Term → Layer
unfolding put
right_number o w a = layer (reckon o w a) (in_reckon_right o w a) (term_head (reckon o w a a)) (a ∷ []) [] (λ P e. refl) (λ x. reckon_head o w a x a a) (λ x. refl)

-- every place has its bytes
pub place_around : (P : Place) → (j : ℕ) × Around P j
unfolding put
place_around whole = (0, record { before = []; after = []; length_is = refl; is = λ e. sym (append-nil (encode e)) })
place_around (in_lam k i C) = (_, around (lam_layer k i) (place_around C).1)
place_around (in_pair_left k C b) = (_, around (left_of_pair k b) (place_around C).1)
place_around (in_pair_right k a C) = (_, around (right_of_pair k a) (place_around C).1)
place_around (at_inj d k i C) = (_, around (inj_layer d k i) (place_around C).1)
place_around (in_app_left w C a) = (_, around (left_of_app w a) (place_around C).1)
place_around (in_app_right w f C) = (_, around (right_of_app w f) (place_around C).1)
place_around (at_proj d w C) = (_, around (proj_layer d w) (place_around C).1)
place_around (in_tested w i C a b) = (_, around (tested w i a b) (place_around C).1)
place_around (in_first w i c C b) = (_, around (first_branch w i c b) (place_around C).1)
place_around (in_second w i c a C) = (_, around (second_branch w i c a) (place_around C).1)
place_around (at_protect m C) = (_, around (protect_layer m) (place_around C).1)
place_around (in_mu w i C) = (_, around (mu_layer w i) (place_around C).1)
place_around (in_reckon_left o w C b) = (_, around (left_number o w b) (place_around C).1)
place_around (in_reckon_right o w a C) = (_, around (right_number o w a) (place_around C).1)

-- an operand of a node with none, one, two or three, and those before it
same_first : {a b : Term} {xs ys : List Term} → a ∷ xs ≡ b ∷ ys → a ≡ b
same_first h = cc

same_rest : {a b : Term} {xs ys : List Term} → a ∷ xs ≡ b ∷ ys → xs ≡ ys
same_rest h = cc

no_operand : {P : Type 0} (before : List Term) (d : Term) (after : List Term) → [] ≡ before ++ (d ∷ after) → P
no_operand [] d after h = let l = ap length h in absurd (omega arith)
no_operand (x ∷ before) d after h = let l = ap length h in absurd (omega arith)

one_operand : {P : Type 0} (before : List Term) (d : Term) (after : List Term) {a : Term} → a ∷ [] ≡ before ++ (d ∷ after) → ([] ≡ before → d ≡ a → P) → P
one_operand [] d after h f = f refl (sym (same_first h))
one_operand (x ∷ before) d after h f = no_operand before d after (same_rest h)

two_operands : {P : Type 0} (before : List Term) (d : Term) (after : List Term) {a b : Term} → a ∷ b ∷ [] ≡ before ++ (d ∷ after) → ([] ≡ before → d ≡ a → P)
    → (a ∷ [] ≡ before → d ≡ b → P) → P
two_operands [] d after h f g = f refl (sym (same_first h))
two_operands (x ∷ before) d after h f g = one_operand before d after (same_rest h) (λ z e. g (ap₂ (λ y ys. y ∷ ys) (same_first h) z) e)

three_operands : {P : Type 0} (before : List Term) (d : Term) (after : List Term) {a b c : Term} → a ∷ b ∷ c ∷ [] ≡ before ++ (d ∷ after) → ([] ≡ before → d ≡ a → P)
    → (a ∷ [] ≡ before → d ≡ b → P) → (a ∷ b ∷ [] ≡ before → d ≡ c → P) → P
three_operands [] d after h f g k = f refl (sym (same_first h))
three_operands (x ∷ before) d after h f g k =
    two_operands before d after (same_rest h) (λ z e. g (ap₂ (λ y ys. y ∷ ys) (same_first h) z) e) (λ z e. k (ap₂ (λ y ys. y ∷ ys) (same_first h) z) e)

-- the node e with its operand d left out, after those before it
record Of (e d : Term) (before : List Term) : Type 0 where
  layer : Layer
  is : layer.node d ≡ e
  earlier_is : layer.earlier ≡ before

of : {e d : Term} {before : List Term} (l : Layer) → l.node d ≡ e → l.earlier ≡ before → Of e d before
of l h k = record { layer = l; is = h; earlier_is = k }

layer_of : (e : Term) (before : List Term) (d : Term) (after : List Term) → term_operands e ≡ before ++ (d ∷ after) → Of e d before
unfolding lam_layer left_of_pair right_of_pair inj_layer left_of_app right_of_app proj_layer tested first_branch second_branch protect_layer mu_layer left_number right_number
layer_of (lam k i e) before d after h = one_operand before d after h (λ z p. of (lam_layer k i) (ap (lam k i) p) z)
layer_of (pair k a b) before d after h =
    two_operands before d after h (λ z p. of (left_of_pair k b) (ap (λ x. pair k x b) p) z) (λ z p. of (right_of_pair k a) (ap (pair k a) p) z)
layer_of (inj s k i e) before d after h = one_operand before d after h (λ z p. of (inj_layer s k i) (ap (inj s k i) p) z)
layer_of (app w f a) before d after h =
    two_operands before d after h (λ z p. of (left_of_app w a) (ap (λ x. app w x a) p) z) (λ z p. of (right_of_app w f) (ap (app w f) p) z)
layer_of (proj s w e) before d after h = one_operand before d after h (λ z p. of (proj_layer s w) (ap (proj s w) p) z)
layer_of (case w i e a b) before d after h =
    three_operands before d after h (λ z p. of (tested w i a b) (ap (λ x. case w i x a b) p) z) (λ z p. of (first_branch w i e b) (ap (λ x. case w i e x b) p) z)
    (λ z p. of (second_branch w i e a) (ap (case w i e a) p) z)
layer_of (protect m e) before d after h = one_operand before d after h (λ z p. of (protect_layer m) (ap (protect m) p) z)
layer_of (mu w i e) before d after h = one_operand before d after h (λ z p. of (mu_layer w i) (ap (mu w i) p) z)
layer_of (reckon o w a b) before d after h =
    two_operands before d after h (λ z p. of (left_number o w b) (ap (λ x. reckon o w x b) p) z) (λ z p. of (right_number o w a) (ap (reckon o w a) p) z)
layer_of _ before d after h = no_operand before d after h

-- c stands at a place of e that begins at record j
pub record PlaceOfNode (e : Term) (j : ℕ) (c : Term) : Type 0 where
  pub place : Place
  pub is : e ≡ put place c
  pub bytes : Around place j

found_in : (l : Layer) {d c : Term} {j : ℕ} → PlaceOfNode d j c → PlaceOfNode (l.node d) (suc (total size l.earlier + j)) c
found_in l {c = c} f = record { place = l.on f.place; is = ap l.node f.is ∙ sym (l.puts f.place c); bytes = around l f.bytes }

found : {e c : Term} {j : ℕ} → NodeAt term_shape e j c → PlaceOfNode e j c
unfolding put
found here = record { place = whole; is = refl; bytes = record { before = []; after = []; length_is = refl; is = λ e. sym (append-nil (encode e)) } }
found {e} (below {d} {c} {j} before after is a) =
    let l = layer_of e before d after is in
    subst (λ (x : Term). PlaceOfNode x (suc (total size before + j)) c) l.is
    (subst (λ (bs : List Term). PlaceOfNode (l.layer.node d) (suc (total size bs + j)) c) l.earlier_is (found_in l.layer (found a)))

-- a whole term among the records of another
pub found_at : (e : Term) (i : ℕ) (c : Term) (rest : Bytes) → i < size e → drop (script_width * i) (encode e) ≡ encode c ++ rest → PlaceOfNode e i c
found_at e i c rest l h =
    let n = node_at term_shape e i l in
    let b = at_bytes term_code n.1 (encode e) 0 [] (alone term_code e) in
    let z : i ≡ 0 + i = omega arith in
    let same = (unique term_prefix n.0 c b.0 rest (sym b.1 ∙ ap (λ k. drop (script_width * k) (encode e)) (sym z) ∙ h)).0 in
    subst (λ (x : Term). PlaceOfNode e i x) same (found n.1)

-- Bytes that encode a term, put together in another's.
module _ (a b w w' : Bytes) (whole_a : encode (term a) ≡ a) (whole_b : encode (term b) ≡ b) (whole_w : encode (term w) ≡ w) where
  -- the record that a stands at
  module _ (S : ScriptsAtPlace a b w w') where
    at : ℕ
    at = length S.before / script_width

    at_is : length S.before ≡ script_width * at
    unfolding at
    at_is = let r = S.whole_records in omega arith

    from_a : drop (script_width * at) (encode (term w)) ≡ encode (term a) ++ S.after
    from_a = grind (arith, drop_at, at_is)

    lengths : length w ≡ length S.before + (length a + length S.after)
    lengths = ap length S.first ∙ rw length-append (rw length-append refl)

    inside : at < size (term w)
    inside =
        omega (
          arith,
          lengths,
          at_is,
          encode_length term_code (term w),
          ap length whole_w,
          encode_length term_code (term a),
          ap length whole_a,
          size_positive term_code (term a),
        )

    there : PlaceOfNode (term w) at (term a)
    there = found_at (term w) at (term a) S.after inside from_a

    begins : (there.bytes.before ≡ S.before) × (a ++ there.bytes.after ≡ a ++ S.after)
    begins = grind (arith, begin_alike, at_is)

    ends_so : there.bytes.after ≡ S.after
    ends_so = (begin_alike a a there.bytes.after S.after refl begins.1).1

    second_is : w' ≡ encode (put there.place (term b))
    second_is =
        S.second ∙ ap₂ (λ x y. x ++ (b ++ y)) (sym begins.0) (sym ends_so) ∙ ap (λ x. there.bytes.before ++ (x ++ there.bytes.after)) (sym whole_b)
        ∙ sym (there.bytes.is (term b))

    pub of_terms : SamePlaceOf (term a) (term b) (term w) (term w')
    of_terms = record { place = there.place; first = there.is; second = ap term second_is ∙ term_encode (put there.place (term b)) }

  pub of_bytes : encode (term w') ≡ w' → SamePlaceOf (term a) (term b) (term w) (term w') → ScriptsAtPlace a b w w'
  of_bytes whole_w' T =
      let A = (place_around T.place).1 in
      record {
        before = A.before;
        after = A.after;
        whole_records = let l = A.length_is in omega arith;
        first = sym whole_w ∙ ap encode T.first ∙ A.is (term a) ∙ ap (λ x. A.before ++ (x ++ A.after)) whole_a;
        second = sym whole_w' ∙ ap encode T.second ∙ A.is (term b) ∙ ap (λ x. A.before ++ (x ++ A.after)) whole_b;
      }

-- parts of bytes are bytes
octets_left : (a b : Bytes) → Octets (a ++ b) → Octets a
octets_left [] b p i = omega arith
octets_left (x ∷ a) b p zero = p zero
octets_left (x ∷ a) b p (suc i) = octets_left a b (λ j. p (suc j)) i

octets_right : (a b : Bytes) → Octets (a ++ b) → Octets b
octets_right [] b p = p
octets_right (x ∷ a) b p = octets_right a b (λ j. p (suc j))

pub octets_between : (a b c s : Bytes) → s ≡ a ++ (b ++ c) → Octets s → Octets b
octets_between a b c s h p = octets_left b c (octets_right a (b ++ c) (subst Octets h p))
