-- How much stands around the hole of an evaluation context.
use Rattle.std.proofs.Common.{max, ℕ, ◌+◌}
use Rattle.calculus.specs.Reduction.{Context, app_left, app_right, hole, in_case, in_inj, in_proj, in_protect}
use Rattle.calculus.specs.Reduction.{pair_left, pair_right, reckon_left, reckon_right}
use Rattle.rules.specs.Script.{depth, size, weight}

-- the records before and after the hole
unfoldable pub beside : Context → ℕ
unfolding size
beside hole = 0
beside (app_left w E a) = 1 + (beside E + size a)
beside (app_right w v h E) = 1 + (size v + beside E)
beside (in_proj d w E) = 1 + beside E
beside (in_inj d k i E) = 1 + beside E
beside (pair_left k E b) = 1 + (beside E + size b)
beside (pair_right k v h E) = 1 + (size v + beside E)
beside (in_protect m E) = 1 + beside E
beside (in_case w i E a b) = 1 + (beside E + (size a + size b))
beside (reckon_left o w E b) = 1 + (beside E + size b)
beside (reckon_right o w v h E) = 1 + (size v + beside E)

-- the depth of the deepest record before or after the hole, 0 where there is none
unfoldable pub depth_beside : Context → ℕ
unfolding depth
depth_beside hole = 0
depth_beside (app_left w E a) = 1 + max (depth_beside E) (depth a)
depth_beside (app_right w v h E) = 1 + max (depth v) (depth_beside E)
depth_beside (in_proj d w E) = 1 + depth_beside E
depth_beside (in_inj d k i E) = 1 + depth_beside E
depth_beside (pair_left k E b) = 1 + max (depth_beside E) (depth b)
depth_beside (pair_right k v h E) = 1 + max (depth v) (depth_beside E)
depth_beside (in_protect m E) = 1 + depth_beside E
depth_beside (in_case w i E a b) = weight i + max (depth_beside E) (max (depth a) (depth b))
depth_beside (reckon_left o w E b) = 1 + max (depth_beside E) (depth b)
depth_beside (reckon_right o w v h E) = 1 + max (depth v) (depth_beside E)
