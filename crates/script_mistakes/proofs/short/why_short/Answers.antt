use Rattle.std.proofs.Common.{◌≡◌, List, Option, MatchOption, Err, ap, ◌∙◌, subst, arith}
use Rattle.script_token.specs.Tokens.{Token}
use Rattle.script_token.specs.declared.lexeme.Placed.{Placed}
use Rattle.script_reader.specs.declared.fault.Fault.{Fault}
use Rattle.script_reader.specs.Steps.{bare, told}
use Rattle.script_faults.specs.Laws.{IsRead}
use Rattle.script.specs.Scripts.{script_at}
use Rattle.script_mistakes.proofs.Bare.{bare_is, spells}
use Rattle.script_mistakes.proofs.short.why_short.Goals as goal

pub returns : goal.returns
returns c =
    let tokens = ap (λ (x : List Placed). bare x) c.deref.ensures.value ∙ bare_is c.in_ok-tokens.tokens.placed.items c.args.bytes.now c.in_ok-tokens.ensures.tokens in
    let found : IsRead (script_at (bare c.deref.result.now)) = subst (λ (o : Option Fault). MatchOption o (IsRead (script_at (bare c.deref.result.now))) (λ fault. script_at (bare c.deref.result.now) ≡ Err (told fault))) c.in-None.is c.in_ok-fault.ensures in
    (omega (arith, c.if-bytes-gt-TEXT_LEN.false), spells c.args.bytes.now (subst (λ (x : List Token). IsRead (script_at x)) tokens found))
