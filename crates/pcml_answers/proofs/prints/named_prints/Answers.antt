use Rattle.std.proofs.Common.{rules, ◌∙◌, ap, Some, subst, sym, arith}
use Rattle.std.proofs.lemmas.Option.{slice_get-get_or, slice_get-map}
use Rattle.std.specs.List.{take-map}
use Rattle.std.specs.Option.{option_map}
use Rattle.script.specs.Scripts.{script_of}
use Rattle.pcml_answers.specs.Prints.{NamePrints}
use Rattle.pcml_answers.proofs.prints.named_prints.Goals as goal

pub returns-in_default-clause-fault : goal.returns-in_default-clause-fault
returns-in_default-clause-fault c =
    let at = c.loop-text.text-index in
    record {
      place = at;
      there =
          slice_get-map (λ t. t.now) c.args.texts.now at
          ∙ ap (option_map (λ t. t.now)) (slice_get-get_or c.args.texts.now at _ (omega (arith, c.loop-text-test.true)))
          ∙ ap (λ text. Some text) (sym c.in_ok-from_str.ensures.ok);
      before = c.loop-text.prints.items;
      named = subst (λ texts. NamePrints (script_of c.args.script.now) texts c.loop-text.prints.items) (sym (take-map (λ t. t.now) at c.args.texts.now)) c.loop-text.invariant;
      none = search rules;
    }
