-- The tokens of a text, with their lines and without them, and the script that they are read as.
use Rattle.std.proofs.Common.{◌≡◌, ℕ, List, [], ◌∷◌, map, Result, Ok, Err, refl, sym, ap, ◌∙◌}
use Rattle.script_token.specs.Tokens.{Token}
use Rattle.script_token.specs.Lexemes.{placed_tokens, seen, seen_at}
use Rattle.script_token.specs.declared.lexeme.Placed.{Placed}
use Rattle.script_reader.specs.Steps.{Told, bare}
use Rattle.script_faults.specs.Laws.{IsRead}
use Rattle.script.specs.Scripts.{Script, script_at, tokens_of}
use Rattle.script.specs.Spelling.{Spells}
use Rattle.script.proofs.Spelled.{script_found}

bare_seen : (ps : List Placed) → map (λ (q : Token × ℕ). q.0) (seen ps) ≡ bare ps
bare_seen [] = refl
bare_seen (p ∷ ps) = ap (λ (ts : List Token). (seen_at p).0 ∷ ts) (bare_seen ps)

pub bare_is : (ps : List Placed) (bytes : List ℕ) → seen ps ≡ placed_tokens bytes → bare ps ≡ tokens_of bytes
bare_is ps bytes e = sym (bare_seen ps) ∙ ap (map (λ (q : Token × ℕ). q.0)) e

pub spells : (bytes : List ℕ) → IsRead (script_at (tokens_of bytes)) → (s : Script) × Spells bytes s
spells bytes h = at_read (script_at (tokens_of bytes)) refl h
  where
    at_read : (r : Result Script Told) → script_at (tokens_of bytes) ≡ r → IsRead r → (s : Script) × Spells bytes s
    at_read (Ok s) e read = (let found = script_found (tokens_of bytes) s e in (s, record { written = found.written; tokens = found.tokens; depth = found.depth; meaning = found.meaning }))
    at_read (Err told) e read = absurd read
