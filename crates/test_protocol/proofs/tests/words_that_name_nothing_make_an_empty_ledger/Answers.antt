use Rattle.std.proofs.Common.{◌≤◌, arith, rules}
use Rattle.protocol_ledger.proofs.LedgerLemmas.{lawful_start}
use Rattle.test_protocol.proofs.tests.words_that_name_nothing_make_an_empty_ledger.Goals as goal

pub of_words-ledger-requires-clause-lawful : goal.of_words-ledger-requires-clause-lawful
of_words-ledger-requires-clause-lawful g c = lawful_start 1 1 1 c.in_ok-words.words.items (omega arith) (omega arith) (c.in_ok-words.ensures.items_if_clones_equal (λ y h. search rules))
