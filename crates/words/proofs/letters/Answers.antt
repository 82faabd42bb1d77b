use Rattle.std.proofs.Common.{rules, true, false, ◌≡◌, sym, length-take-le}
use Rattle.std.proofs.lemmas.Iterator.{IsFirst-from_position, YieldsList-from_slice}
use Rattle.rules.specs.Words.{is_letter}
use Rattle.words.proofs.WordBytes.{IsWord, letters_within, letters_are, letters_word}
use Rattle.words.proofs.letters.Goals as goal

pub slice_bounds-result-end : goal.slice_bounds-result-end
slice_bounds-result-end c =
    let h : IsWord c.args.words.now c.args.index c.word-bytes.result.now = record { whole = c.told-words; there = c.requires; is = c.word-bytes.ensures } in
    sym (length-take-le _ _ (rw c.unwrap_or.ensures (letters_within h _ (rw c.iter.ensures.rest at c.position-end.ensures.bound))))

pub returns : goal.returns
returns c =
    let h : IsWord c.args.words.now c.args.index c.word-bytes.result.now = record { whole = c.told-words; there = c.requires; is = c.word-bytes.ensures } in
    let n = letters_are h _
    (IsFirst-from_position _ _ _ (λ c. is_letter c ≡ false) (λ c. is_letter c ≡ true) c.position-end.ensures.ran (YieldsList-from_slice c.word-bytes.result.now cc) (λ x q k. search rules) (λ x q k. search rules)) in
    let l = letters_word h _ n.0 n.1 in
    record { bytes = rw c.unwrap_or.ensures l.0; count = rw c.unwrap_or.ensures l.1; within = rw c.unwrap_or.ensures l.2 }
