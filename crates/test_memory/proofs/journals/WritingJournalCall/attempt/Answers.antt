use Rattle.std.proofs.Common.{sym, subst}
use Rattle.std.specs.List.{AllByRecursion}
use Rattle.script.specs.Scripts.{script_of}
use Rattle.journal_text.specs.Journals.{HasLine}
use Rattle.journal_text.specs.Names.{names_of}
use Rattle.test_memory.proofs.journals.WritingJournalCall.attempt.Goals as goal

pub write_journal-written-requires : goal.write_journal-written-requires
write_journal-written-requires c =
    subst (AllByRecursion (HasLine (names_of (script_of c.args.self.now.script.now)))) (sym c.as_slice.ensures.value)
    c.in_ok-commits.ensures.found.lines
