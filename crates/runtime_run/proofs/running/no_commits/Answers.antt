use Rattle.std.proofs.Common.{◌≡◌, ◌*◌, ℕ, [], length, replicate, ap, arith, sym, subst, ◌∙◌}
use Rattle.std.proofs.lemmas.List.{length-replicate}
use Rattle.protocol_ledger.specs.Ledgers.{IsLawful, Ledger}
use Rattle.protocol_ledger.specs.Tables.{thread_len}
use Rattle.protocol_ledger.proofs.LedgerLemmas.{lawful_start, length_lives}
use Rattle.journal_ledger.specs.Ledgers.{IsLedgerOf}
use Rattle.runtime_run.proofs.Ledgers.{empty_ledger, nothing_done}
use Rattle.runtime_run.proofs.running.no_commits.Goals as goal

pub of_words-requires-clause-sized : goal.of_words-requires-clause-sized
of_words-requires-clause-sized c = ap length c.in-Ok.ensures ∙ length_lives 0 1 (replicate (1 * thread_len 1) 0) 1 ∙ length-replicate {A = ℕ} (1 * thread_len 1) 0

pub of_words-requires-clause-lawful : goal.of_words-requires-clause-lawful
of_words-requires-clause-lawful c = lawful_start 1 1 0 c.in-Ok.words.items (omega arith) (omega arith) c.in-Ok.ensures

pub returns-in-Ok-clause-lawful : goal.returns-in-Ok-clause-lawful
returns-in-Ok-clause-lawful c =
    let is = c.of_words.ensures ∙ nothing_done c.in-Ok.words.items c.in-Ok.ensures in
    subst (λ (l : Ledger). IsLawful l × IsLedgerOf [] l × (l.rows ≡ 1)) (sym is) empty_ledger
