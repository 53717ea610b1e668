use Rattle.std.proofs.Common.{List, Option, subst, sym}
use Rattle.std.specs.Prelude.{IfSome}
use Rattle.std.specs.List.{AllByRecursion}
use Rattle.protocol_values.specs.declared.Commit.{Commit}
use Rattle.script.specs.Scripts.{script_of}
use Rattle.journal_text.specs.Journals.{HasLine}
use Rattle.journal_text.specs.Names.{names_of}
use Rattle.pcml_outcomes.proofs.printed.printed_text.Goals as goal

pub journal_of-requires : goal.journal_of-requires
journal_of-requires g c =
    let s = script_of c.args.script.now in
    record { lines = subst (λ (run : Option (List Commit)). IfSome run (AllByRecursion (HasLine (names_of s)))) (sym c.printed_run.ensures) c.in_ok-found.ensures.lines }
