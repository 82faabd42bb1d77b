-- The part that the look-up hands back, and a script that passes 13, 14 and 17.
use Rattle.std.proofs.Common.{◌≡◌, ap, sym, ℕ, []}
use Rattle.rules.specs.Answer.{Bytes, Octets, accepted}
use Rattle.rules.specs.Script.{encode, term, part_if, slice, subterm, term_end, q13, q14, q17}
use Rattle.rules.proofs.Scripts.{whole}
use Rattle.syntax.specs.Check.{shape_check}

pub encoded : (s : Bytes) → Octets s → q13 [] s ≡ accepted tt → accepted tt ≡ q14 s → accepted tt ≡ q17 s → encode (term s) ≡ s
encoded s o q13_yes q14_yes q17_yes = (whole [] s o q13_yes (sym q14_yes) (sym q17_yes)).encoded

pub shaped : (s : Bytes) (i : ℕ) → accepted tt ≡ shape_check s → slice s i (term_end s i) ≡ subterm s i
unfolding subterm shape_check
shaped s i h = ap (λ a. part_if a (slice s i (term_end s i))) h
