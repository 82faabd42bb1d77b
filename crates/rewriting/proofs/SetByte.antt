-- A byte set in record i of a list of records, whatever their width.
use Rattle.std.proofs.Common.{◌≡◌, ap, ◌∙◌, ◌++◌, ℕ, ◌+◌, ◌*◌, ◌<◌, arith, take, drop, set, take-add}
use Rattle.std.proofs.Math.Nat.{mul-add, mul-one}
use Rattle.std.proofs.Math.Seq.{take-set-le, take-set-lt, drop-set-add}
use Rattle.rules.specs.Answer.{Bytes}
use Rattle.rules.proofs.Prefix.{record_at}
use Rattle.std.proofs.lemmas.Grind.{common_steps}

module _ (width : ℕ) (s : Bytes) (i j v : ℕ) (within : j < width) where
  -- the list up to the end of that record
  pub set_up_to : take (width * (i + 1)) (set s (width * i + j) v) ≡ take (width * i) s ++ set (record_at width s i) j v
  set_up_to = grind (arith, take-add, take-set-le, drop-set-add, take-set-lt)

  -- the list from there on
  pub set_past : drop (width * (i + 1)) (set s (width * i + j) v) ≡ drop width (drop (width * i) s)
  set_past = grind (arith, common_steps)
