use Rattle.script_token.specs.Lexemes.{seen_at}
use Rattle.pcml_why_sites.specs.Writing.{is_process}
use Rattle.pcml_why_sites.proofs.Places.{before-map}
use Rattle.pcml_why_sites.proofs.parts.before_process.Goals as goal

pub returns : goal.returns
returns c = before-map (λ p. is_process p.0) seen_at c.args.tokens.now c.process_place.result c.process_place.ensures.place
