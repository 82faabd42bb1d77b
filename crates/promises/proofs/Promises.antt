-- What every call answers, what is accepted, how accepted scripts run, and what holds of page scripts, moves and packets, of all bytes.
use Rattle.promises.specs.Promises.{CallsAnswer, Acceptance, AcceptedRuns}
use Rattle.promises.specs.Profile.{PageScripts}
use Rattle.promises.specs.Preview.{PreviewedMoves}
use Rattle.promises.specs.Packet.{PacketsByHand}
use Rattle.promises.proofs.EveryCallAnswers.{every_call_answers}
use Rattle.promises.proofs.AcceptedByTheRules.{accepted_by_the_rules}
use Rattle.promises.proofs.AcceptedRun.{accepted_run}
use Rattle.promises.proofs.Profile as profile
use Rattle.promises.proofs.Preview.{preview_then_move}
use Rattle.promises.proofs.Packet.{packet_by_hand}

pub calls_answer : CallsAnswer
unfolding CallsAnswer
calls_answer = every_call_answers

pub acceptance : Acceptance
unfolding Acceptance
acceptance = accepted_by_the_rules

pub accepted_runs : AcceptedRuns
unfolding AcceptedRuns
accepted_runs = accepted_run

pub page_scripts : PageScripts
unfolding PageScripts
page_scripts = profile.page_scripts

pub previewed_moves : PreviewedMoves
unfolding PreviewedMoves
previewed_moves = preview_then_move

pub packets_by_hand : PacketsByHand
unfolding PacketsByHand
packets_by_hand g t script entry group budget profile work first scratch room G O E =
    packet_by_hand g t script entry group budget profile work first scratch room G O E
