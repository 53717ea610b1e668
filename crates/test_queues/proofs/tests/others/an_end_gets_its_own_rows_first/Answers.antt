use Rattle.test_queues.proofs.tests.others.an_end_gets_its_own_rows_first.Goals as goal

pub get-requires-2 : goal.get-requires-2
get-requires-2 g c = record { here = c.is_clear-2.ensures.here _ c.get.ensures.here.0 }
