use Rattle.std.proofs.Common.{◌≡◌, ◌++◌, ℕ, List, Some, None, ap, ◌∙◌, sym, true, false, arith}
use Rattle.std.proofs.lemmas.Option.{same_Some}
use Rattle.std.proofs.lemmas.Slice.Eq.{bytes_eq-Decides}
use Rattle.std.proofs.lemmas.Str.Pattern.{split_after}
use Rattle.script.specs.Scripts.{script_of}
use Rattle.journal_text.specs.Names.{named}
use Rattle.journal_text.specs.Texts.{atom_text}
use Rattle.pcml_answers.specs.Prints.{print_text}
use Rattle.pcml_answers.proofs.Wording.{name-has-none, print-parts}
use Rattle.pcml_answers.proofs.prints.named_print.Goals as goal

pub returns-in_default-clause-none : goal.returns-in_default-clause-none
returns-in_default-clause-none c print atom names =
    let s = script_of c.args.script.now in
    split_after 61 c.args.text.now ((named s).thread print.process) (atom_text (named s) print.value) None c.in_default.ensures.cases (omega arith) (print-parts s c.args.text.now print names) (name-has-none s c.args.script.now.spelled print names.0)

pub returns-in_default-2-clause-none : goal.returns-in_default-2-clause-none
returns-in_default-2-clause-none c print atom names =
    let s = script_of c.args.script.now in
    let parts = split_after 61 c.args.text.now ((named s).thread print.process) (atom_text (named s) print.value) (Some (c.in-Some.name, c.in-Some.value)) c.in-Some.ensures.cases (omega arith) (print-parts s c.args.text.now print names) (name-has-none s c.args.script.now.spelled print names.0) in
    let read : c.in_ok-print.field-0 ≡ Some print = c.in_ok-print.ensures.none print (record { process = names.0; atom = atom; name_is = sym parts.0; value_is = sym parts.1 }) in
    c.in_default-2.not-Some print read

pub returns-clause-none : goal.returns-clause-none
returns-clause-none c print atom names =
    let s = script_of c.args.script.now in
    let parts = split_after 61 c.args.text.now ((named s).thread print.process) (atom_text (named s) print.value) (Some (c.in-Some.name, c.in-Some.value)) c.in-Some.ensures.cases (omega arith) (print-parts s c.args.text.now print names) (name-has-none s c.args.script.now.spelled print names.0) in
    let read : c.in_ok-print.field-0 ≡ Some print = c.in_ok-print.ensures.none print (record { process = names.0; atom = atom; name_is = sym parts.0; value_is = sym parts.1 }) in
    let same : c.in-Some-2.print ≡ print = same_Some c.in-Some-2.print print (sym c.in-Some-2.is ∙ read) in
    let spelled : c.as_str.result.now ≡ c.args.text.now = c.as_str.ensures.value ∙ c.in_ok-push_print.ensures ∙ ap (λ (bytes : List ℕ). bytes ++ print_text (named s) c.in-Some-2.print) c.new-spelled.ensures.bytes ∙ ap (print_text (named s)) same ∙ names.1 in
    let clash : true ≡ false = sym ((bytes_eq-Decides c.as_str.result.now c.args.text.now).1 spelled) ∙ sym c.eq.ensures ∙ c.if-eq.false in absurd cc
