use Rattle.std.proofs.Common.{rules, List, length, take, drop, ℕ, ◌≡◌, ◌<◌, ◌≢◌, ◌-◌, MatchBool, arith, subst, take_all}
use Rattle.std.proofs.Common.{length-drop}
use Rattle.std.specs.List.{AllWithin, HoldsAt}
use Rattle.std.proofs.lemmas.Iterator.{cases_from_all, YieldsList-from_slice}
use Rattle.words.proofs.WordBytes.{formed, no_letters, zeros_are}
use Rattle.words.proofs.well_formed.Goals as goal

pub returns-then-n-ge1 : goal.returns-then-n-ge1
returns-then-n-ge1 c =
    let x = c.word.result.now in
    let n = length c.letters-n.result.now in
    let rest : take (length x - n) (drop n x) ≡ drop n x = take_all (length x - n) (drop n x) (simp length-drop (omega arith)) in
    let Found : List ℕ → Type 0 = λ y. MatchBool c.all.result (AllWithin (λ c. c ≡ 0) y 0 (length y)) ((k : ℕ) × (k < length y) × HoldsAt (λ c. c ≢ 0) y k) in
    let found : Found (take (length x - n) (drop n x)) = cases_from_all _ _ _ (λ c. c ≡ 0) (λ c. c ≢ 0) c.all.ensures.ran (YieldsList-from_slice _ cc) (λ x q k. search rules) (λ x q k. search rules) in
    formed c.args.words.now c.args.i n _ c.letters-n.ensures.count c.if-n-ge1.true
    (zeros_are (record { whole = c.told-words; there = c.requires; is = c.word.ensures }) n c.letters-n.ensures.within _ (subst Found rest found))

pub returns-else-n-ge1 : goal.returns-else-n-ge1
returns-else-n-ge1 c = no_letters c.args.words.now c.args.i _ c.letters-n.ensures.count c.if-n-ge1.false
