-- What a packet reports, and what its call leaves in the buffers that it is lent.
use Rattle.std.specs.Prelude.{◌≡◌, ℕ, length, Result, Ok, Err}
use Rattle.rules.specs.Answer.{Bytes, Answer, accepted, refused}
use Rattle.rules.specs.Calls.{Report, first_after, scratch_after}
use Rattle.rules.specs.Packet.{before_typing, desk_run, packet_call, desk_work_after, packet_page_after}
use Rattle.answer.specs.Numbers.{question_number}
use Rattle.answer.specs.declared.Refusal.{Refusal}
use Rattle.reduction.specs.Steps.{reported_end}
use Rattle.packet.specs.declared.Packet.{Packet}

-- the report in the words of the rules
abbrev pub said_packet : Result Packet Refusal → Answer Report
said_packet (Ok packet) =
    accepted (record { end = reported_end packet.stop; steps = packet.steps; count = packet.records })
said_packet (Err e) = refused (question_number e.question) e.place

-- The call of a packet leaves the work buffer, the two buffers of the run and the sheet's so.
pub record LeavesPacket (g t script entry : Bytes) (group budget profile : ℕ) (work first scratch sheet : Bytes)
    (work' first' scratch' sheet' : Bytes) : Type 0 where
  pub work_is : work' ≡ desk_work_after (before_typing g t script profile (length work)) work
  pub first_is : first'
      ≡ first_after
      (desk_run g t script entry group budget profile (length work) (length first) (length scratch)) first
  pub scratch_is : scratch'
      ≡ scratch_after
      (desk_run g t script entry group budget profile (length work) (length first) (length scratch)) scratch
  pub sheet_is : sheet'
      ≡ packet_page_after
      (packet_call g t script entry group budget profile (length work) (length first) (length scratch) (length sheet))
      sheet
