-- A redex in its script, and the new term around its contractum.
use Rattle.std.proofs.Common.{◌≡◌, sym, ap, ap₂, ◌∙◌, ◌||◌, ℕ, ◌+◌, ◌*◌, ◌-◌, ◌/◌, ◌≤◌, ◌<◌, arith, nat_lt, length}
use Rattle.std.proofs.Common.{take, drop, length-drop, take_all, lt-ltb, le-ltb}
use Rattle.std.proofs.Math.Decide.{dec_lt}
use Rattle.calculus.specs.Security.{Security}
use Rattle.calculus.specs.Types.{Ty}
use Rattle.calculus.specs.Terms.{Term}
use Rattle.calculus.specs.Reduction.{plug}
use Rattle.rules.specs.Answer.{Bytes}
use Rattle.rules.specs.Limits.{script_width, script_limit, depth_limit}
use Rattle.rules.specs.Script.{records, encode, term, size, depth}
use Rattle.rules.specs.Step.{exceeds}
use Rattle.records.specs.Place.{At}
use Rattle.records.proofs.Stands.{at_start, start_records}
use Rattle.redex.specs.Contexts.{before, after, offset}
use Rattle.redex.specs.Found.{Site}
use Rattle.redex.proofs.Plugs.{plug_size, plug_depth, plug_within, plug_past, after_length, before_is, after_is}
use Rattle.redex.proofs.Places.{site_at}
use Rattle.redex.proofs.Beside.{beside}
use Rattle.substitution.proofs.Reading.{term_length}
use Rattle.reduction.proofs.Starts.{Started}

module _ {S : Security} {tab : ℕ → Ty} {g t s : Bytes} {at around : ℕ} (st : Started g t s) (x : Site S tab 0 0 (term s) at around) where
  pub redex_at : At s at x.redex
  redex_at = site_at x (at_start s st.encoded)

  pub redex_small : size x.redex ≤ script_limit
  redex_small = omega (arith, st.fit.small, ap size x.whole, plug_size x.context x.redex)

  pub redex_shallow : around + depth x.redex ≤ depth_limit
  redex_shallow = omega (arith, st.fit.shallow, ap depth x.whole, plug_depth x.context x.redex, x.around_is)

  script_is : s ≡ encode (plug x.context x.redex)
  script_is = sym st.encoded ∙ ap encode x.whole

  pub count_is : records s ≡ beside x.context + size x.redex
  count_is = start_records s st.encoded ∙ ap size x.whole ∙ plug_size x.context x.redex

  pub length_is : length s ≡ script_width * records s
  length_is = omega (arith, ap length (sym st.encoded), term_length (term s), start_records s st.encoded)

  pub at_is : at ≡ offset x.context
  at_is = omega (arith, x.place_is)

  pub front_is : take (script_width * at) s ≡ before x.context
  front_is = ap₂ (λ n b. take (script_width * n) b) at_is script_is ∙ before_is x.context x.redex

  pub back_is : (end : ℕ) → end ≡ at + size x.redex → drop (script_width * end) s ≡ after x.context
  back_is end h = grind (arith, at_is, script_is, after_is)

  -- the records of the new term
  pub new_size : (e' : Term) (end : ℕ) → end ≡ at + size x.redex → size (plug x.context e') ≡ at + size e' + (records s - end)
  new_size e' end h = omega (arith, plug_size x.context e', count_is, at_is, after_length x.context)

  pub end_inside : (end : ℕ) → end ≡ at + size x.redex → end ≤ records s
  end_inside end h = omega (arith, count_is, at_is, after_length x.context)

  -- the bytes after the redex, as the code takes them
  pub rest_is : (end : ℕ) → end ≡ at + size x.redex → take (length s - script_width * end) (drop (script_width * end) s) ≡ after x.context
  rest_is end h = grind (arith, take_all, length-drop, back_is)

  -- what stands beside the redex is within the limit of depth already
  deeper : (e' : Term) → nat_lt depth_limit (around + depth e') ≡ nat_lt depth_limit (depth (plug x.context e'))
  deeper e' = by (dec_lt depth_limit (around + depth e'))
    where
      whole : depth (plug x.context x.redex) ≤ depth_limit
      whole = omega (arith, st.fit.shallow, ap depth x.whole)

      by : Dec (depth_limit < around + depth e') → nat_lt depth_limit (around + depth e') ≡ nat_lt depth_limit (depth (plug x.context e'))
      by (yes l) =
          lt-ltb depth_limit (around + depth e') l
          ∙ sym (lt-ltb depth_limit (depth (plug x.context e')) (plug_past x.context e' depth_limit (omega (arith, x.around_is))))
      by (no n) =
          le-ltb depth_limit (around + depth e') (omega arith)
          ∙ sym
          (le-ltb depth_limit (depth (plug x.context e')) (plug_within x.context x.redex e' depth_limit whole (omega (arith, x.around_is))))

  pub exceeds_is : (room total deep : ℕ) (e' : Term) → total ≡ size (plug x.context e') → deep ≡ depth e'
      → (nat_lt script_limit total || (nat_lt (room / script_width) total || nat_lt depth_limit (around + deep))) ≡ exceeds room (plug x.context e')
  unfolding exceeds
  exceeds_is room total deep e' h k =
      ap₂ (λ n d. nat_lt script_limit n || (nat_lt (room / script_width) n || nat_lt depth_limit (around + d))) h k
      ∙ ap (λ b. nat_lt script_limit (size (plug x.context e')) || (nat_lt (room / script_width) (size (plug x.context e')) || b)) (deeper e')
