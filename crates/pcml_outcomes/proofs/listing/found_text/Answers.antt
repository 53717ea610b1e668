use Rattle.std.proofs.Common.{◌≡◌, ◌==◌, List, Option, sym, ap, subst, ◌∙◌}
use Rattle.std.specs.Prelude.{IfSome}
use Rattle.std.specs.List.{AllByRecursion}
use Rattle.std.specs.Option.{option_copied}
use Rattle.protocol_values.specs.declared.Commit.{Commit}
use Rattle.script.specs.Scripts.{script_of}
use Rattle.journal_text.specs.Journals.{HasLine}
use Rattle.journal_text.specs.Names.{names_of}
use Rattle.outcomes.specs.declared.Ending.{Ending}
use Rattle.outcomes.specs.declared.Outcome.{Outcome}
use Rattle.outcomes.specs.declared.Round.{Round}
use Rattle.reachable.specs.declared.stranded.AllStranded.{AllStranded}
use Rattle.reachable.specs.declared.stranded.Stranded.{Stranded}
use Rattle.pcml_outcomes.specs.Stranding.{soonest_in}
use Rattle.pcml_outcomes.specs.Told.{asked_for, round_for, round_in, run_of, stranded_for, told_ending}
use Rattle.pcml_outcomes.proofs.Endings.{kept-has-lines}
use Rattle.pcml_outcomes.proofs.listing.found_text.Goals as goal

pub journal_of-requires : goal.journal_of-requires
journal_of-requires c =
    let s = script_of c.args.script.now in
    let asked = c.args.asked.now in
    let found = c.args.all.now.outcomes in
    let stranded = c.args.all.now.stranded in
    let of = c.args.of in
    let alone = c.count_shown-told.result == 0 in
    let outcome = option_copied c.asked_for-outcome.result in
    let lost = option_copied c.stranded_for-lost.result in
    let round = option_copied c.round_for-round.result in
    let ending = told_ending c.args.rows found in
    let is_outcome : asked_for of asked found.outcomes.items ≡ outcome =
    ap (λ (os : List Outcome). asked_for of asked os) (sym c.as_slice-outcomes.ensures.value) ∙ sym c.asked_for-outcome.ensures in
    let is_lost : stranded_for of outcome (soonest_in alone stranded) ≡ lost =
    ap (λ (x : Option AllStranded). stranded_for of outcome (soonest_in alone x)) (sym c.as_ref-stranded.ensures.value)
    ∙ ap (λ (x : Option Stranded). stranded_for of outcome x) (sym c.soonest_in.ensures)
    ∙ sym c.stranded_for-lost.ensures in
    let is_round : round_for of outcome lost (round_in ending) ≡ round =
    ap (λ (e : Option Ending). round_for of outcome lost (round_in e)) (sym c.told_ending.ensures)
    ∙ ap (λ (r : Option Round). round_for of outcome lost r) (sym c.round_in.ensures)
    ∙ sym c.round_for-round.ensures in
    let kept : IfSome (run_of outcome lost round) (AllByRecursion (HasLine (names_of s))) =
    kept-has-lines s of asked found.outcomes.items alone stranded ending c.requires.lines c.requires.runs c.requires.round outcome is_outcome lost is_lost round is_round in
    record { lines = subst (λ (run : Option (List Commit)). IfSome run (AllByRecursion (HasLine (names_of s)))) (sym c.run_of.ensures) kept }
