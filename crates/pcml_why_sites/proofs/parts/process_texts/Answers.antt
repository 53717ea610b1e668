use Rattle.std.proofs.Common.{ℕ, List, ap, ◌∙◌}
use Rattle.std.proofs.lemmas.List.{map-append}
use Rattle.std.specs.Global.{Vec}
use Rattle.script_token.specs.Lexemes.{seen}
use Rattle.script_token.specs.Tokens.{Token}
use Rattle.pcml_why_sites.specs.Writing.{seen_offers, seen_texts, written_in}
use Rattle.pcml_why_sites.specs.declared.writing.WrittenOffer.{WrittenOffer}
use Rattle.pcml_why_sites.proofs.Places.{more-rest, more-texts}
use Rattle.pcml_why_sites.proofs.parts.process_texts.Goals as goal

pub loop-process-preserved : goal.loop-process-preserved
loop-process-preserved c =
    let tokens = seen c.args.tokens.now in
    let rest = more-rest tokens c.loop-process._process (seen c.loop-process.rest.now) (seen c.behind_process-rest.result.now) c.loop-process.invariant.rest c.behind_process-rest.ensures in
    record {
      rest = rest;
      texts =
          ap (λ (l : List (Vec WrittenOffer)). seen_texts l) c.in_ok-push.ensures.items
          ∙ map-append (λ (v : Vec WrittenOffer). seen_offers v.items) c.loop-process.texts.items _
          ∙ more-texts tokens c.loop-process._process (seen_texts c.loop-process.texts.items) (seen c.behind_process-rest.result.now) (seen_offers c.in_ok-written_in.field-0.items) c.loop-process.invariant.texts rest
          (c.in_ok-written_in.ensures ∙ ap (λ (ps : List (Token × ℕ)). written_in ps) c.before_process.ensures);
    }
