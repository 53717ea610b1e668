use Rattle.std.proofs.Common.{List, ap, ◌∙◌, arith}
use Rattle.std.proofs.lemmas.List.{take_rest}
use Rattle.script_token.specs.Lexemes.{seen, seen_at}
use Rattle.script_token.specs.declared.lexeme.Placed.{Placed}
use Rattle.pcml_why_sites.specs.Writing.{is_process}
use Rattle.pcml_why_sites.proofs.Places.{after-map, none-left}
use Rattle.pcml_why_sites.proofs.parts.behind_process.Goals as goal

pub returns-then-place-tokens : goal.returns-then-place-tokens
returns-then-place-tokens c =
    ap (λ (ps : List Placed). seen ps) (take_rest c.args.tokens.now _)
    ∙ after-map (λ p. is_process p.0) seen_at c.args.tokens.now c.process_place-place.result c.process_place-place.ensures.place

pub returns-else-place-tokens : goal.returns-else-place-tokens
returns-else-place-tokens c =
    ap (λ (ps : List Placed). seen ps) (take_rest c.args.tokens.now _ ∙ none-left c.args.tokens.now c.process_place-place.result (omega arith))
    ∙ after-map (λ p. is_process p.0) seen_at c.args.tokens.now c.process_place-place.result c.process_place-place.ensures.place
