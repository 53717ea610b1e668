use denote.Param.Send.{sendable, param_send}
use Rattle.std.proofs.Crossing.{crosses}
use Rattle.meet.proofs.meet.Meet.TheSendSync.{the_sync as meet_sync}
use Rattle.meet.proofs.meet.MeetPass.TheSendSync.{the_send as lanes_send}
use Rattle.test_meet.proofs.Crossing.{bare_cells_sync, bare_pass_send}
use Rattle.test_meet.proofs.tests.threads.nobody_who_waits_for_a_nack_is_missed.Lts as lts
use Rattle.test_meet.proofs.tests.threads.nobody_who_waits_for_a_nack_is_missed.Goals as goal

pub join-committer-requires-send-F : goal.join-committer-requires-send-F
join-committer-requires-send-F g c κs within = param_send 1 (lts.arg-16-1 g.bound-1-dict g.bound-2-dict g.bound-3-dict κs) (search (sendable, crosses, bare_cells_sync, bare_pass_send, meet_sync, lanes_send) depth 60 fits 30000)
