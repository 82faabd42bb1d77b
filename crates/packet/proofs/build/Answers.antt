-- Three pieces, one after the other.
use Rattle.std.proofs.Common.{rules, ◌≡◌, ap₂, ◌∙◌, ◌++◌, ℕ, subst as transport}
use Rattle.rules.specs.Answer.{Bytes}
use Rattle.rules.specs.Packet.{application}
use Rattle.memory.specs.Splice.{splice}
use Rattle.memory.specs.Written.{Written}
use Rattle.memory.proofs.Placed.{then}
use Rattle.std.specs.Borrow.{MutBor}
use Rattle.packet.proofs.build.Goals as goal

pub returns : goal.returns
returns c =
    let a = c.args in
    let whole = application a.group.0 a.script.now a.entry.now in
    let m : Written whole c.new-out.result c.put-3.new.self =
    transport (λ (b : Bytes). Written (b ++ (a.script.now ++ a.entry.now)) c.new-out.result c.put-3.new.self) c.record.ensures
    (then c.put.ensures (then c.put-2.ensures c.put-3.ensures)) in
    let h : c.put-3.new.self.out.now ≡ splice 0 whole a.first.now =
    m.holds ∙ ap₂ (λ (n : ℕ) (o : MutBor Bytes). splice n whole o.now) c.new-out.ensures.empty c.new-out.ensures.lent in
    search rules
