use Rattle.std.proofs.Common.{ℕ, List, subst, sym}
use Rattle.script.specs.Lines.{trees_of_script}
use Rattle.script.specs.Scripts.{script_of}
use Rattle.pcml_tool.specs.Command.{AreTreesOf, TellsOf}
use Rattle.std.specs.Option.{option_copied}
use Rattle.pcml_tool.proofs.Keeping.{journal_on}
use Rattle.pcml_tool.proofs.from_files.answer_journal.Goals as goal

pub told_of-requires-clause-trees : goal.told_of-requires-clause-trees
told_of-requires-clause-trees g c =
    let script = c.in_ok-text.script in
    subst (λ (bytes : List ℕ). AreTreesOf bytes (script_of script) (trees_of_script script)) (sym c.deref.ensures.value) c.in_ok-text.ensures.trees

pub returns-clause-done : goal.returns-clause-done
returns-clause-done g c =
    let s = script_of c.in_ok-text.script in
    let source = c.in_ok-text.text.items in
    let read = c.in_ok-journal.journal.items in
    let found = c.in_ok-text.ensures.read in
    let has = c.in_ok-journal.ensures.read in
    let asked = c.args.asked in
    let told = c.in_ok-told.told in (
      source,
      found.0,
      s,
      found.1,
      read,
      journal_on (g.S.Source.holds c.args.source.now) (g.S.Source.holds c.read_source.new.source) (option_copied asked.journal) read c.read_source.ensures.kept has.0,
      has.1,
      told,
      subst (λ (z : List ℕ × List ℕ × ℕ). TellsOf asked.question s z.0 z.2 z.1 told) (λ i. (c.deref.ensures.value i, c.deref-2.ensures.value i, c.all_rows-rows.ensures.value i)) c.in_ok-told.ensures.told,
      c.judged.ensures,
    )
