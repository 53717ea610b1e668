use Rattle.std.proofs.Common.{List, subst, sym}
use Rattle.std.specs.List.{AllByRecursion}
use Rattle.std.proofs.lemmas.Result.{IfOk-weaker}
use Rattle.script.specs.Scripts.{script_of}
use Rattle.protocol_values.specs.declared.Commit.{Commit}
use Rattle.journal_text.specs.Journals.{HasLine, Spells}
use Rattle.journal_text.specs.Names.{names_of}
use Rattle.pcml_answers.proofs.Following.{next_has_lines}
use Rattle.pcml_answers.proofs.coming.next_text.Goals as goal

pub write_journal-requires : goal.write_journal-requires
write_journal-requires c =
    let s = script_of c.args.script.now in
    let r = c.requires in
    subst (λ (cs : List Commit). AllByRecursion (HasLine (names_of s)) cs) (sym c.as_slice.ensures.value)
    (next_has_lines s r.0 r.1 c.in_ok-told.told.items c.args.script.now.spelled r.2.low r.2.run (c.in_ok-told.ensures s.processes r.0 r.1 r.2))

pub returns : goal.returns
returns c =
    let s = script_of c.args.script.now in
    IfOk-weaker c.write_journal.result _ _
    (λ text spells. λ rows commits stands. record {
      told = c.in_ok-told.told.items;
      next = c.in_ok-told.ensures s.processes rows commits stands;
      spells = subst (λ (cs : List Commit). Spells s text.items cs) c.as_slice.ensures.value spells;
    })
    c.write_journal.ensures
