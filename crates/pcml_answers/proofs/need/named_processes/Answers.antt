use Rattle.std.proofs.Common.{◌≡◌, ◌∙◌, None, Some, ap, if◌then◌else◌, sym}
use Rattle.std.specs.Option.{option_copied}
use Rattle.script.specs.Scripts.{script_of}
use Rattle.pcml_answers.specs.Needs.{names_all, unnamed_in}
use Rattle.pcml_answers.proofs.need.named_processes.Goals as goal

pub returns-in_ok-from_utf8_lossy-in-Some-clause-fault :
    goal.returns-in_ok-from_utf8_lossy-in-Some-clause-fault
returns-in_ok-from_utf8_lossy-in-Some-clause-fault c =
    let s = script_of c.args.script.now in
    let text = c.args.names.now in
    let bytes = c.as_bytes-bytes.ensures.value in
    let listed : names_all text ≡ c.names_all.result = ap names_all (sym bytes) ∙ sym c.names_all.ensures in
    let found : unnamed_in s text ≡ Some c.in-Some.name.now = ap (unnamed_in s) (sym bytes) ∙ sym c.unnamed_in.ensures ∙ ap option_copied c.in-Some.is in (
      c.in-Some.name.now,
      ap (λ b. if b then None else unnamed_in s text) (listed ∙ c.if-names_all.false) ∙ found,
      c.in_ok-from_utf8_lossy-in-Some.ensures.lossy,
    )
