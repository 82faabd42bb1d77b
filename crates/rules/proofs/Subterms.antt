-- The look-up of a subterm: at record j of an accepted script it hands back the encoding of the node that stands there.
use Rattle.std.proofs.Common.{◌≡◌, ap, sym, ◌∙◌, [], ◌++◌, append-nil, ℕ, ◌+◌, ◌*◌, ◌-◌, arith, take, drop, take_at}
use Rattle.std.proofs.Math.Option.{some}
use Rattle.calculus.specs.Terms.{Term}
use Rattle.rules.specs.Answer.{Bytes, accepted}
use Rattle.rules.specs.Limits.{script_width}
use Rattle.rules.specs.Script.{encode, size, term, records, term_end, slice, subterm, q13, q14, q17}
use Rattle.rules.proofs.PrefixLaws.{encode_length, tree_end}
use Rattle.rules.proofs.Nodes.{NodeAt, at_size, at_bytes}
use Rattle.rules.proofs.TermCode.{term_shape, term_code, term_prefix}
use Rattle.rules.proofs.Scripts.{Whole}

module _ (s : Bytes) (w : Whole s) {c : Term} {j : ℕ} (a : NodeAt term_shape (term s) j c) where
  pub subterm_bytes : (more : Bytes) × (drop (script_width * j) s ≡ encode c ++ more)
  subterm_bytes =
      let p = at_bytes term_code a s 0 [] (sym w.encoded ∙ sym (append-nil (encode (term s)))) in
      let z : j ≡ 0 + j = omega arith in
      (p.0, ap (λ k. drop (script_width * k) s) z ∙ p.1)

  pub subterm_end : term_end s j ≡ some (j + size c)
  unfolding term_end
  subterm_end =
      let p = subterm_bytes in
      tree_end term_prefix c s j (records s - j) p.0 (omega (arith, at_size term_shape a, w.sized)) p.1

  subterm_slice : slice s j (term_end s j) ≡ encode c
  subterm_slice =
      let p = subterm_bytes in
      ap (slice s j) subterm_end ∙ ap (take (script_width * (j + size c - j))) p.1
      ∙ take_at (encode c) p.0 (script_width * (j + size c - j)) (omega (arith, encode_length term_code c))

  pub subterm_is : q13 [] s ≡ accepted tt → q14 s ≡ accepted tt → q17 s ≡ accepted tt → subterm s j ≡ encode c
  unfolding subterm
  subterm_is a13 a14 a17 = rw (a13, a14, a17) subterm_slice
