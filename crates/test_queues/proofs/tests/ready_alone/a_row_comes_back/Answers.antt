use Rattle.test_queues.proofs.tests.ready_alone.a_row_comes_back.Goals as goal

pub get-requires : goal.get-requires
get-requires g c = record { here = c.is_clear.ensures.here _ c.in_ok-ready.ensures }

pub get-requires-2 : goal.get-requires-2
get-requires-2 g c = record { here = c.is_clear-2.ensures.here _ c.put.ensures }

pub get-requires-3 : goal.get-requires-3
get-requires-3 g c = record { here = c.is_clear-3.ensures.here _ c.get-2.ensures.here.0 }
