use Rattle.std.proofs.Common.{List, Option, subst, sym}
use Rattle.std.specs.Prelude.{IfSome}
use Rattle.std.specs.List.{AllByRecursion}
use Rattle.std.proofs.lemmas.Option.{slice_get_within}
use Rattle.protocol_values.specs.declared.Commit.{Commit}
use Rattle.script.specs.Scripts.{script_of}
use Rattle.journal_text.specs.Journals.{HasLine}
use Rattle.journal_text.specs.Names.{names_of}
use Rattle.pcml_outcomes.proofs.faults.fault_text.Goals as goal

pub push_fault-requires : goal.push_fault-requires
push_fault-requires g c = λ fault is.
    let faulted = (c.in_ok-found.ensures.found.told fault is).faulted in
    slice_get_within (script_of c.args.script.now).processes fault.process faulted.process faulted.is_its

pub journal_of-requires : goal.journal_of-requires
journal_of-requires g c =
    let s = script_of c.args.script.now in
    record { lines = subst (λ (run : Option (List Commit)). IfSome run (AllByRecursion (HasLine (names_of s)))) (sym c.fault_run.ensures) c.in_ok-found.ensures.lines }
