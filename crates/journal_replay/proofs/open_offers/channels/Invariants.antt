use Rattle.std.proofs.Common.{◌≡◌, length}
use Rattle.journal_replay.proofs.open_offers.channels.Given as goal

abbrev pub invariant-loop : goal.invariant-loop
invariant-loop l = length l.lists.items ≡ l.counter
