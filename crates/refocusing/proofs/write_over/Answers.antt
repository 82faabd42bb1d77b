use Rattle.std.proofs.Common.{rules, ◌≡◌, ap, ◌∙◌, ◌++◌, append-nil, ℕ, ◌+◌, arith, length}
use Rattle.std.proofs.lemmas.List.{drop_all}
use Rattle.std.specs.Borrow.{MutBor}
use Rattle.rules.specs.Answer.{Bytes}
use Rattle.rules.specs.Script.{encode}
use Rattle.memory.specs.Splice.{splice}
use Rattle.memory.specs.Written.{Room, Written}
use Rattle.memory.specs.declared.Writer.{Writer}
use Rattle.substitution.proofs.Reading.{term_length}
use Rattle.refocusing.proofs.Redexes.{part, fit}
use Rattle.refocusing.proofs.write_over.Goals as goal

-- a buffer that is written from its front to its end
filled : {x : Bytes} {out out' : Writer} {lent : MutBor Bytes} → (out.end ≡ 0) × (out.out ≡ lent) → length lent.now ≡ length x → Written x out out' → out'.out.now ≡ x
filled {x} {out} e l w =
    let k : length out.out.now ≡ length x = ap (λ (o : MutBor Bytes). length o.now) e.1 ∙ l in
    w.holds ∙ ap (λ (n : ℕ). splice n x out.out.now) e.0 ∙ ap (λ (z : Bytes). x ++ z) (drop_all (0 + length x) out.out.now (omega (arith, k))) ∙ append-nil x

room_for : (x : Bytes) (out : Writer) {lent : MutBor Bytes} → (out.end ≡ 0) × (out.out ≡ lent) → length lent.now ≡ length x → Room x out
room_for x out e l =
    let k : length out.out.now ≡ length x = ap (λ (o : MutBor Bytes). length o.now) e.1 ∙ l in
    omega (arith, e.0, k)

pub write_contractum-requires : goal.write_contractum-requires
write_contractum-requires c =
    let q = c.requires in
    fit q.contracts c.new-out.result
    (room_for (encode (part q.contracts)) c.new-out.result (c.new-out.ensures.empty, c.new-out.ensures.lent) (omega (arith, q.fills, term_length (part q.contracts))))

pub returns : goal.returns
returns c q =
    let e = part q.contracts in
    let k : length c.args.room.now ≡ length (encode e) = omega (arith, q.fills, term_length e) in
    let w = c.write_contractum.ensures (fit q.contracts c.new-out.result (room_for (encode e) c.new-out.result (c.new-out.ensures.empty, c.new-out.ensures.lent) k)) in
    let h : c.write_contractum.new.out.out.now ≡ encode e = filled {x = encode e} (c.new-out.ensures.empty, c.new-out.ensures.lent) k w in
    search rules
