use Rattle.std.proofs.Common.{List, Option, arith, subst, sym}
use Rattle.std.specs.Prelude.{IfSome}
use Rattle.std.specs.List.{AllByRecursion}
use Rattle.std.proofs.lemmas.Option.{slice_get_within}
use Rattle.protocol_values.specs.declared.Commit.{Commit}
use Rattle.script.specs.Scripts.{script_of}
use Rattle.journal_text.specs.Journals.{HasLine}
use Rattle.journal_text.specs.Names.{names_of}
use Rattle.pcml_outcomes.proofs.left.left_text.Goals as goal

pub push_left-requires : goal.push_left-requires
push_left-requires g c = λ left is.
    let marked = (c.in_ok-found.ensures.found.behind left is).marked in
    omega (arith, slice_get_within c.args.marks.now left.process _ marked, c.requires.marks)

pub journal_of-requires : goal.journal_of-requires
journal_of-requires g c =
    let s = script_of c.args.script.now in
    record { lines = subst (λ (run : Option (List Commit)). IfSome run (AllByRecursion (HasLine (names_of s)))) (sym c.left_run.ensures) c.in_ok-found.ensures.lines }
