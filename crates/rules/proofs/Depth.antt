-- Question 18 of an encoding: a term's depth is that of its deepest record.
use Rattle.std.proofs.Common.{◌≡◌, ap, sym, subst, ◌∙◌, Bool, true, false, cond, ℕ, suc, ◌+◌, ◌≤◌, ◌<◌, arith, leb-true, le-leb, get_or}
use Rattle.calculus.specs.Terms.{Term, var, unit, lam, pair, inj, app, proj, case, protect, mu, literal, reckon}
use Rattle.rules.specs.Answer.{Bytes, accepted}
use Rattle.rules.specs.Limits.{depth_limit}
use Rattle.rules.specs.Script.{weight, encode, size, records, term, depth, depths, ok18, q18}
use Rattle.rules.proofs.Search.{each_all, each_accepted}
use Rattle.rules.proofs.Nodes.{Every, every_here, every_below, every_node}
use Rattle.rules.proofs.Scripts.{records_encode, term_encode}
use Rattle.rules.proofs.Counts.{up, widened, counted, to_counted_records, to_counted_nodes, wide_weight, depths_counts}

weighs : (i : ℕ) → 1 ≤ weight i
weighs i = grind arith

module _ (limit : ℕ) where
  -- a node's number alone
  abbrev Low : ℕ → Bytes → Type 0
  Low n h = n ≤ limit

  -- every node's depth, where the term's own is n
  abbrev Lows : ℕ → Term → Type 0
  Lows n e = Every (counted widened up up) (λ p. p.0 ≤ limit) (n, e)

  lows_depth : (e : Term) (n : ℕ) → Lows n e → n + depth e ≤ suc limit
  unfolding depth
  lows_depth (var m) n h = omega (arith, every_here h)
  lows_depth (unit k) n h = omega (arith, every_here h)
  lows_depth (lam k i e) n h = omega (arith, lows_depth e (suc n) (every_below h).0)
  lows_depth (pair k a b) n h = omega (arith, lows_depth a (suc n) (every_below h).0, lows_depth b (suc n) (every_below h).1.0)
  lows_depth (inj d k i e) n h = omega (arith, lows_depth e (suc n) (every_below h).0)
  lows_depth (app w f a) n h = omega (arith, lows_depth f (suc n) (every_below h).0, lows_depth a (suc n) (every_below h).1.0)
  lows_depth (proj d w e) n h = omega (arith, lows_depth e (suc n) (every_below h).0)
  lows_depth (case w i e a b) n h =
      let m = suc (widened i n) in
      omega
      (arith, wide_weight i n, lows_depth e m (every_below h).0, lows_depth a m (every_below h).1.0, lows_depth b m (every_below h).1.1.0)
  lows_depth (protect m e) n h = omega (arith, lows_depth e (suc n) (every_below h).0)
  lows_depth (mu w i e) n h = omega (arith, lows_depth e (suc n) (every_below h).0)
  lows_depth (literal k m) n h = omega (arith, every_here h)
  lows_depth (reckon o w a b) n h = omega (arith, lows_depth a (suc n) (every_below h).0, lows_depth b (suc n) (every_below h).1.0)

  depth_lows : (e : Term) (n : ℕ) → n + depth e ≤ suc limit → Lows n e
  unfolding depth
  depth_lows (var m) n h = every_node (omega arith) tt
  depth_lows (unit k) n h = every_node (omega arith) tt
  depth_lows (lam k i e) n h = every_node (omega arith) (depth_lows e (suc n) (omega arith), tt)
  depth_lows (pair k a b) n h = every_node (omega arith) (depth_lows a (suc n) (omega arith), (depth_lows b (suc n) (omega arith), tt))
  depth_lows (inj d k i e) n h = every_node (omega arith) (depth_lows e (suc n) (omega arith), tt)
  depth_lows (app w f a) n h = every_node (omega arith) (depth_lows f (suc n) (omega arith), (depth_lows a (suc n) (omega arith), tt))
  depth_lows (proj d w e) n h = every_node (omega arith) (depth_lows e (suc n) (omega arith), tt)
  depth_lows (case w i e a b) n h =
      let m = suc (widened i n) in
      let x = wide_weight i n in
      let y = weighs i in
      every_node (omega arith) (depth_lows e m (omega arith), (depth_lows a m (omega arith), (depth_lows b m (omega arith), tt)))
  depth_lows (protect m e) n h = every_node (omega arith) (depth_lows e (suc n) (omega arith), tt)
  depth_lows (mu w i e) n h = every_node (omega arith) (depth_lows e (suc n) (omega arith), tt)
  depth_lows (literal k m) n h = every_node (omega arith) tt
  depth_lows (reckon o w a b) n h = every_node (omega arith) (depth_lows a (suc n) (omega arith), (depth_lows b (suc n) (omega arith), tt))

  -- every entry of the depths against the depth
  pub depths_depth : (e : Term) → ((j : ℕ) → j < size e → get_or (depths e) j 0 ≤ limit) → depth e ≤ limit
  depths_depth e h =
      omega (arith, lows_depth e 1 (to_counted_nodes widened up up Low 1 e (λ j l. subst (λ ns. get_or ns j 0 ≤ limit) (depths_counts 1 e) (h j l))))

  pub depth_depths : (e : Term) → depth e ≤ limit → (j : ℕ) → j < size e → get_or (depths e) j 0 ≤ limit
  depth_depths e h j l =
      subst (λ ns. get_or ns j 0 ≤ limit) (sym (depths_counts 1 e)) (to_counted_records widened up up Low 1 e (depth_lows e 1 (omega arith)) j l)

pub q18_depth : (e : Term) → q18 (encode e) ≡ accepted tt → depth e ≤ depth_limit
unfolding ok18
q18_depth e q =
    depths_depth depth_limit e
    (λ j l. leb-true _ depth_limit
    (ap (λ d. ok18 (depths d) j) (sym (term_encode e))
    ∙ each_all 18 (records (encode e)) (ok18 (depths (term (encode e)))) q j (omega (arith, records_encode e))))

pub q18_encode : (e : Term) → depth e ≤ depth_limit → q18 (encode e) ≡ accepted tt
unfolding ok18
q18_encode e h = grind (arith, each_accepted, term_encode, le-leb, depth_depths, records_encode)
