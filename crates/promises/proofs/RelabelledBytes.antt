-- A relabelled term: its records, its depth and its bytes. Where a change of bytes goes record by record, it is a
-- relabelling of what they encode.
use Rattle.std.proofs.Common.{◌≡◌, refl, sym, ap, ◌∙◌, List, [], ◌∷◌, ◌++◌, append_assoc, append-nil, map, ℕ, suc, ◌+◌, arith}
use Rattle.calculus.specs.Terms.{Term, var, unit, lam, pair, inj, app, proj, case, protect, mu, literal, reckon}
use Rattle.calculus.specs.Relabelling.{Labels, relabel}
use Rattle.rules.specs.Answer.{Bytes}
use Rattle.rules.specs.Script.{encode, size, weight, depth, depths_from, binders_from}
use Rattle.rules.proofs.Prefix.{All, joined}
use Rattle.rules.proofs.TermCode.{term_operands, term_head, term_induction, term_encode_is, term_shape}
use Rattle.rules.proofs.Nodes.{Every, every_here, every_below}

pub relabel_size : (R : Labels) (e : Term) → size (relabel R e) ≡ size e
unfolding size relabel
relabel_size R (var n) = refl
relabel_size R (unit k) = refl
relabel_size R (lam k i e) = rw (relabel_size R e)
relabel_size R (pair k a b) = rw (relabel_size R a, relabel_size R b)
relabel_size R (inj d k i e) = rw (relabel_size R e)
relabel_size R (app w f a) = rw (relabel_size R f, relabel_size R a)
relabel_size R (proj d w e) = rw (relabel_size R e)
relabel_size R (case w i e a b) = rw (relabel_size R e, relabel_size R a, relabel_size R b)
relabel_size R (protect m e) = rw (relabel_size R e)
relabel_size R (mu w i e) = rw (relabel_size R e)
relabel_size R (literal k n) = refl
relabel_size R (reckon o w a b) = rw (relabel_size R a, relabel_size R b)

pub relabel_depth : (R : Labels) (e : Term) → depth (relabel R e) ≡ depth e
unfolding depth relabel
relabel_depth R (var n) = refl
relabel_depth R (unit k) = refl
relabel_depth R (lam k i e) = rw (relabel_depth R e)
relabel_depth R (pair k a b) = rw (relabel_depth R a, relabel_depth R b)
relabel_depth R (inj d k i e) = rw (relabel_depth R e)
relabel_depth R (app w f a) = rw (relabel_depth R f, relabel_depth R a)
relabel_depth R (proj d w e) = rw (relabel_depth R e)
relabel_depth R (case w i e a b) = rw (relabel_depth R e, relabel_depth R a, relabel_depth R b)
relabel_depth R (protect m e) = rw (relabel_depth R e)
relabel_depth R (mu w i e) = rw (relabel_depth R e)
relabel_depth R (literal k n) = refl
relabel_depth R (reckon o w a b) = rw (relabel_depth R a, relabel_depth R b)

pub relabel_depths : (R : Labels) (n : ℕ) (e : Term) → depths_from n (relabel R e) ≡ depths_from n e
unfolding depths_from relabel
relabel_depths R n (lam k i e) = rw (relabel_depths R (suc n) e)
relabel_depths R n (pair k a b) = rw (relabel_depths R (suc n) a, relabel_depths R (suc n) b)
relabel_depths R n (inj d k i e) = rw (relabel_depths R (suc n) e)
relabel_depths R n (app w f a) = rw (relabel_depths R (suc n) f, relabel_depths R (suc n) a)
relabel_depths R n (proj d w e) = rw (relabel_depths R (suc n) e)
relabel_depths R n (case w i e a b) = rw (relabel_depths R (n + weight i) e, relabel_depths R (n + weight i) a, relabel_depths R (n + weight i) b)
relabel_depths R n (protect m e) = rw (relabel_depths R (suc n) e)
relabel_depths R n (mu w i e) = rw (relabel_depths R (suc n) e)
relabel_depths R n (reckon o w a b) = rw (relabel_depths R (suc n) a, relabel_depths R (suc n) b)
relabel_depths R n _ = refl

pub relabel_binders : (R : Labels) (n : ℕ) (e : Term) → binders_from n (relabel R e) ≡ binders_from n e
unfolding binders_from relabel
relabel_binders R n (lam k i e) = rw (relabel_binders R (suc n) e)
relabel_binders R n (pair k a b) = rw (relabel_binders R n a, relabel_binders R n b)
relabel_binders R n (inj d k i e) = rw (relabel_binders R n e)
relabel_binders R n (app w f a) = rw (relabel_binders R n f, relabel_binders R n a)
relabel_binders R n (proj d w e) = rw (relabel_binders R n e)
relabel_binders R n (case w i e a b) = rw (relabel_binders R n e, relabel_binders R (suc n) a, relabel_binders R (suc n) b)
relabel_binders R n (protect m e) = rw (relabel_binders R n e)
relabel_binders R n (mu w i e) = rw (relabel_binders R (suc n) e)
relabel_binders R n (reckon o w a b) = rw (relabel_binders R n a, relabel_binders R n b)
relabel_binders R n _ = refl

relabel_operands : (R : Labels) (e : Term) → term_operands (relabel R e) ≡ map (relabel R) (term_operands e)
unfolding relabel
relabel_operands R e = grind arith

-- `change` goes record by record, and relabels each node of which Q holds.
module _ (R : Labels) (change : Bytes → Bytes) (Q : Term → Type 0)
    (head : (e : Term) → Q e → (s : Bytes) → change (term_head e ++ s) ≡ term_head (relabel R e) ++ change s) where
  abbrev Relabels : Term → Type 0
  Relabels e = Every term_shape Q e → (s : Bytes) → change (encode e ++ s) ≡ encode (relabel R e) ++ change s

  change_joined : (es : List Term) → All Relabels es → All (Every term_shape Q) es → (s : Bytes)
      → change (joined encode es ++ s) ≡ joined encode (map (relabel R) es) ++ change s
  change_joined [] h q s = refl
  change_joined (e ∷ es) h q s =
      ap change (append_assoc (encode e) (joined encode es) s)
      ∙ h.0 q.0 (joined encode es ++ s)
      ∙ ap (λ (x : Bytes). encode (relabel R e) ++ x) (change_joined es h.1 q.1 s)
      ∙ sym (append_assoc (encode (relabel R e)) (joined encode (map (relabel R) es)) (change s))

  change_node : (e : Term) → All Relabels (term_operands e) → Relabels e
  change_node e h q s =
      let ops = joined encode (term_operands e) in
      ap (λ (x : Bytes). change (x ++ s)) (term_encode_is e)
      ∙ ap change (append_assoc (term_head e) ops s)
      ∙ head e (every_here q) (ops ++ s)
      ∙ ap (λ (x : Bytes). term_head (relabel R e) ++ x) (change_joined (term_operands e) h (every_below q) s)
      ∙ sym (append_assoc (term_head (relabel R e)) (joined encode (map (relabel R) (term_operands e))) (change s))
      ∙ ap (λ (x : Bytes). x ++ change s)
      (ap (λ (os : List Term). term_head (relabel R e) ++ joined encode os) (sym (relabel_operands R e)) ∙ sym (term_encode_is (relabel R e)))

  pub change_encode : change [] ≡ [] → (e : Term) → Every term_shape Q e → change (encode e) ≡ encode (relabel R e)
  change_encode nil e q =
      ap change (sym (append-nil (encode e)))
      ∙ term_induction Relabels change_node e q []
      ∙ ap (λ (x : Bytes). encode (relabel R e) ++ x) nil
      ∙ append-nil (encode (relabel R e))
