-- The front of a list of tokens.
use Rattle.std.proofs.Common.{◌≡◌, List, length}
use Rattle.std.proofs.lemmas.List.{length-map}
use Rattle.script_reader.specs.Steps.{bare}
use Rattle.script_token.specs.Tokens.{view}
use Rattle.script_token.specs.declared.lexeme.Placed.{Placed}

pub length_bare : (ps : List Placed) → length (bare ps) ≡ length ps
length_bare ps = length-map ps (λ (p : Placed). view p.token)
