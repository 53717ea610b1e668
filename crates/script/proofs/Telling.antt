-- What a text is told to say, and the line of its fault.
use Rattle.std.proofs.Common.{◌≡◌, ℕ, zero, suc, ◌-◌, ◌<◌, ◌≤◌, false, eqb, ltb, List, [], ◌∷◌, map, length, get_or, Result, Ok, Err, refl, sym, ap, ◌∙◌, arith, tests}
use Rattle.std.proofs.lemmas.List.{length-map}
use Rattle.script_token.specs.Tokens.{Token}
use Rattle.script_token.specs.Lexemes.{placed_tokens, last_line, seen, seen_at}
use Rattle.script_reader.specs.Steps.{bare}
use Rattle.script.specs.Scripts.{Script, script_at, text_at, tokens_of, with_line, line_left, fault_at, IsFault}
use Rattle.script_token.specs.declared.lexeme.Placed.{Placed}
use Rattle.script_reader.specs.declared.fault.Problem.{Problem}
use Rattle.script_reader.specs.declared.fault.Problem.TheVariants.{Syntax, UnknownName, Twice, TooMany, LoopWithoutSync}
use Rattle.script.specs.declared.fault.ScriptFault.{ScriptFault}

pub line_of : (ps : List Placed) (i : ℕ) (p : Placed) → i < length ps → p ≡ get_or ps i p → get_or (map (λ (q : Token × ℕ). q.1) (seen ps)) i 0 ≡ p.line
line_of [] i p h e = absurd (omega (arith, h))
line_of (q ∷ ps) zero p h e = ap (λ (x : Placed). x.line) (sym e)
line_of (q ∷ ps) (suc i) p h e = line_of ps i p (omega (arith, h)) e

pub line_left_at : (ps : List Placed) (last left : ℕ) (p : Placed) → (left ≡ 0 → ⊥) → left ≤ length ps → p ≡ get_or ps (length ps - left) p → p.line ≡ line_left (seen ps) last left
line_left_at ps last left p some within e =
    let len : length (seen ps) ≡ length ps = length-map ps seen_at in
    let first : eqb left 0 ≡ false = search (arith, tests) in
    let second : ltb (length ps) left ≡ false = search (arith, tests) in
    rw (len, first, second) (sym (line_of ps (length ps - left) p (omega arith) e))

bare_seen : (ps : List Placed) → map (λ (q : Token × ℕ). q.0) (seen ps) ≡ bare ps
bare_seen [] = refl
bare_seen (p ∷ ps) = ap (λ (ts : List Token). (seen_at p).0 ∷ ts) (bare_seen ps)

text_is : (bytes : List ℕ) (ps : List Placed) → length bytes ≤ 65536 → seen ps ≡ placed_tokens bytes → text_at bytes ≡ with_line bytes (script_at (bare ps))
unfolding text_at
text_is bytes ps short e =
    let fits : ltb 65536 (length bytes) ≡ false = search (arith, tests) in
    let ts : tokens_of bytes ≡ bare ps = ap (map (λ (q : Token × ℕ). q.0)) (sym e) ∙ bare_seen ps in
    rw fits (ap (λ (x : List Token). with_line bytes (script_at x)) ts)

pub text_ok : (bytes : List ℕ) (ps : List Placed) (s : Script) → length bytes ≤ 65536 → seen ps ≡ placed_tokens bytes → script_at (bare ps) ≡ Ok s → text_at bytes ≡ Ok s
text_ok bytes ps s short e is = text_is bytes ps short e ∙ ap (with_line bytes) is

is_fault : (problem : Problem) (line : ℕ) (read : Result Script ScriptFault) → read ≡ Err (fault_at problem line) → IsFault (fault_at problem line) read
is_fault Syntax line read e = e
is_fault UnknownName line read e = e
is_fault Twice line read e = e
is_fault TooMany line read e = e
is_fault LoopWithoutSync line read e = e

pub text_err : (bytes : List ℕ) (ps : List Placed) (problem : Problem) (left line : ℕ) (fault : ScriptFault) → length bytes ≤ 65536 → seen ps ≡ placed_tokens bytes → script_at (bare ps) ≡ Err (problem, left)
    → line ≡ line_left (placed_tokens bytes) (last_line bytes) left → fault ≡ fault_at problem line → IsFault fault (text_at bytes)
text_err bytes ps problem left line fault short e is at told =
    let whole : text_at bytes ≡ Err (fault_at problem line) = text_is bytes ps short e ∙ ap (with_line bytes) is ∙ ap (λ (n : ℕ). Err (fault_at problem n)) (sym at) in
    rw told (is_fault problem line (text_at bytes) whole)
