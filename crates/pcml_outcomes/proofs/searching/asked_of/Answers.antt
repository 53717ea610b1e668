use Rattle.std.proofs.Common.{◌≡◌, ◌∙◌, Bool, List, [], Some, ap, length, refl, subst, sym, true}
use Rattle.std.specs.Prelude.{slice_get}
use Rattle.std.specs.Option.{option_copied}
use Rattle.script.specs.Scripts.{script_of}
use Rattle.outcomes.specs.declared.asked.Told.{Told}
use Rattle.outcomes.specs.declared.asked.Told.TheVariants.{Lacking}
use Rattle.pcml_answers.specs.Needs.{named_or_all}
use Rattle.pcml_request.specs.declared.request.Wanted.{Wanted}
use Rattle.pcml_outcomes.specs.Searching.{Asks, either}
use Rattle.pcml_answers.proofs.Columns.{each-column, each-named}
use Rattle.pcml_outcomes.proofs.Either.{each-either, either-second}
use Rattle.pcml_outcomes.proofs.searching.asked_of.Goals as goal

-- the marks of those that have to end
abbrev needed-in : Told → List Bool
needed-in (Lacking needed) = needed.items
needed-in told = []

pub returns-in_ok-named-in-Lacking-clause-asked : goal.returns-in_ok-named-in-Lacking-clause-asked
returns-in_ok-named-in-Lacking-clause-asked c =
    let s = script_of c.args.script.now in
    let only = option_copied c.args.only in
    let needed = c.in_ok-needed-in-Lacking.needed in
    let marks = c.in_ok-named-in-Lacking.named.items in
    let first : c.deref.result.now ≡ named_or_all s only = c.deref.ensures.value ∙ c.in_ok-others-in-Lacking.ensures.named.1 in
    let named : marks ≡ either (named_or_all s only) needed.items = c.in_ok-named-in-Lacking.ensures ∙ (λ i. either (first i) (c.deref-in-Lacking.ensures.value i)) in
    record {
      asks = subst (λ (wanted : Wanted). Asks s wanted only marks (Lacking needed)) (sym c.in-Lacking.is) (needed, refl, c.in_ok-needed-in-Lacking.ensures.named, c.in_ok-others-in-Lacking.ensures.named.0, named);
      first = refl;
    }

pub returns-in_ok-named-in-Lacking-clause-marks : goal.returns-in_ok-named-in-Lacking-clause-marks
returns-in_ok-named-in-Lacking-clause-marks c =
    let s = script_of c.args.script.now in
    let only = option_copied c.args.only in
    let needed = c.in_ok-needed-in-Lacking.needed in
    let first : c.deref.result.now ≡ named_or_all s only = c.deref.ensures.value ∙ c.in_ok-others-in-Lacking.ensures.named.1 in
    let one = ap (λ (m : List Bool). length m) first ∙ each-column s only in
    let two = ap (λ (m : List Bool). length m) (c.deref-in-Lacking.ensures.value ∙ c.in_ok-needed-in-Lacking.ensures.named.1) ∙ each-named s c.in-Lacking.names.now in
    ap (λ (m : List Bool). length m) c.in_ok-named-in-Lacking.ensures ∙ each-either s c.deref.result.now c.deref-in-Lacking.result.now one two

pub returns-in_ok-named-in-Lacking-clause-needed :
    goal.returns-in_ok-named-in-Lacking-clause-needed
returns-in_ok-named-in-Lacking-clause-needed c needed told t mark =
    let s = script_of c.args.script.now in
    let only = option_copied c.args.only in
    let first : c.deref.result.now ≡ named_or_all s only = c.deref.ensures.value ∙ c.in_ok-others-in-Lacking.ensures.named.1 in
    let one = ap (λ (m : List Bool). length m) first ∙ each-column s only in
    let two = ap (λ (m : List Bool). length m) (c.deref-in-Lacking.ensures.value ∙ c.in_ok-needed-in-Lacking.ensures.named.1) ∙ each-named s c.in-Lacking.names.now in
    let same : needed.items ≡ c.deref-in-Lacking.result.now = sym (ap needed-in told) ∙ sym c.deref-in-Lacking.ensures.value in
    let there = either-second c.deref.result.now c.deref-in-Lacking.result.now t (one ∙ sym two) (subst (λ (m : List Bool). slice_get m t ≡ Some true) same mark) in
    subst (λ (m : List Bool). slice_get m t ≡ Some true) (sym c.in_ok-named-in-Lacking.ensures) there

pub returns-in_ok-named-in-Lacking-clause-sought : goal.returns-in_ok-named-in-Lacking-clause-sought
returns-in_ok-named-in-Lacking-clause-sought c =
    let s = script_of c.args.script.now in
    ap (λ (m : List Bool). length m) c.in_ok-needed-in-Lacking.ensures.named.1 ∙ each-named s c.in-Lacking.names.now
