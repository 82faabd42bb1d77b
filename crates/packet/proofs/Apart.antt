-- A typing whose type is set apart.
use Rattle.std.proofs.Common.{◌≡◌, ap, ◌∙◌, subst, ℕ, ◌*◌, take, drop, length, Result, Ok, Err, IsErrAnd}
use Rattle.calculus.specs.Types.{Ty}
use Rattle.rules.specs.Answer.{Bytes, Answer, accepted}
use Rattle.rules.specs.Limits.{type_width}
use Rattle.rules.specs.Types.{encode_type}
use Rattle.answer.specs.declared.Refusal.{Refusal}
use Rattle.answer.specs.Said.{answer_of}
use Rattle.answer.proofs.Passed.{returned}
use Rattle.memory.specs.Splice.{splice}
use Rattle.memory.proofs.Laws.{splice_front}
use Rattle.inference.specs.Memory.{Meets}
use Rattle.inference.proofs.Front.{held_bytes}
use Rattle.inference.proofs.Rules.{TypedAs, typed_as, refused_as}
use Rattle.packet.specs.Checks.{SetApart, found_apart, refused_apart}

module _ {o : Answer Ty} {w w' : Bytes} {x : Result ℕ Refusal} (m : Meets o 0 w x w') where
  pub apart_refused : {e : Refusal} (r : Result (Unit {0}) Refusal) {v : Bytes} → x ≡ Err e → IsErrAnd r (λ y. y ≡ e) → SetApart o (answer_of r) v
  apart_refused {e} r {v} h p =
      rw (returned r p, refused_as (subst (λ (y : Result ℕ Refusal). Meets o 0 w y w') h m)) refused_apart

  pub type_found : {n : ℕ} → x ≡ Ok n → TypedAs o 0 w n w'
  type_found h = typed_as (subst (λ (y : Result ℕ Refusal). Meets o 0 w y w') h m)

  pub apart_found : {n : ℕ} (old : Bytes) {v : Bytes} → x ≡ Ok n → v ≡ splice 0 (take (type_width * n) w') old → SetApart o (accepted tt) v
  apart_found {n} old h e =
      let T = type_found h in
      let bytes = held_bytes T.wrote.sized.held n T.wrote.sized.count in
      rw T.is (found_apart (record { rest = drop (length (encode_type T.type)) old; is = e ∙ ap (λ b. splice 0 b old) bytes ∙ splice_front (encode_type T.type) old }))
