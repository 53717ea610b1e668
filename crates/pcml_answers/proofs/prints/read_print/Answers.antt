use Rattle.std.proofs.Common.{◌≡◌, ℕ, List, Option, [], ◌∷◌, ap, ◌∙◌, sym, subst}
use Rattle.std.specs.Prelude.{IfSome}
use Rattle.script.specs.Scripts.{script_of}
use Rattle.journal_text.specs.Answers.{Explains}
use Rattle.journal_text.specs.Journals.{IsFirstBadLine, Spells}
use Rattle.journal_text.specs.declared.JournalFault.{JournalFault}
use Rattle.journal_text.proofs.Journals.{spells_only_one, spells_or_is_bad}
use Rattle.pcml_answers.specs.Prints.{IsProcess, only_value, value_line}
use Rattle.pcml_answers.specs.declared.prints.Print.{Print}
use Rattle.pcml_answers.proofs.Wording.{spells-value, value-is-of-process, value_commit}
use Rattle.pcml_answers.proofs.prints.read_print.Goals as goal

pub returns-in-Ok-clause-process : goal.returns-in-Ok-clause-process
returns-in-Ok-clause-process c =
    let s = script_of c.args.script.now in
    subst (λ (read : Option Print). IfSome read (IsProcess s)) (sym (c.only_value.ensures ∙ ap only_value c.deref.ensures.value)) (value-is-of-process s c.in-Ok.commits.items c.in-Ok.ensures.found.lines)

pub returns-in-Ok-clause-none : goal.returns-in-Ok-clause-none
returns-in-Ok-clause-none c print has =
    let s = script_of c.args.script.now in
    let line = value_line c.args.name.now c.args.value.now in
    let bytes : c.as_bytes.result.now ≡ line = c.as_bytes.ensures.value ∙ c.in_ok-line.ensures in
    let read : Spells s line c.in-Ok.commits.items = subst (λ (text : List ℕ). Spells s text c.in-Ok.commits.items) bytes c.in-Ok.ensures.found in
    let same : c.in-Ok.commits.items ≡ value_commit print ∷ [] = spells_only_one s c.args.script.now.spelled line c.in-Ok.commits.items (value_commit print ∷ []) read (spells-value s c.args.name.now c.args.value.now print has) in
    c.only_value.ensures ∙ ap only_value (c.deref.ensures.value ∙ same)

pub returns-clause-none : goal.returns-clause-none
returns-clause-none c print has =
    let s = script_of c.args.script.now in
    let line = value_line c.args.name.now c.args.value.now in
    let bytes : c.as_bytes.result.now ≡ line = c.as_bytes.ensures.value ∙ c.in_ok-line.ensures in
    let told : Explains s line c.in-Err-BadLine.field-0 = subst (λ (text : List ℕ). Explains s text c.in-Err-BadLine.field-0) bytes c.in-Err-BadLine.ensures.fault in
    let bad : IsFirstBadLine s line c.in-Err-BadLine.field-0-0 = subst (λ (fault : JournalFault). Explains s line fault) c.in-Err-BadLine.field-0-is told in
    absurd (spells_or_is_bad s c.args.script.now.spelled line (value_commit print ∷ []) c.in-Err-BadLine.field-0-0 (spells-value s c.args.name.now c.args.value.now print has) bad)
