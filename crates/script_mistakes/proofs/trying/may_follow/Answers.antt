use Rattle.std.proofs.Common.{◌≡◌, List, [], ◌∷◌, ◌++◌, ap, ◌∙◌, subst}
use Rattle.std.proofs.lemmas.List.{map-append}
use Rattle.script_token.specs.Tokens.{Token, view}
use Rattle.script_token.specs.declared.lexeme.Placed.{Placed}
use Rattle.script_reader.specs.Steps.{bare}
use Rattle.script.specs.Scripts.{script_at}
use Rattle.script_mistakes.proofs.Following.{Tried, answer}
use Rattle.script_mistakes.proofs.trying.may_follow.Goals as goal

pub returns-clause-may : goal.returns-clause-may
returns-clause-may c =
    let old = c.args.before.now.items in
    let one : List Placed = record { token = c.args.token; line = 0 } ∷ [] in
    let items : bare c.deref.result.now ≡ bare old ++ view c.args.token ∷ [] =
    ap (λ (x : List Placed). bare x) (c.deref.ensures.value ∙ c.in_ok-push.ensures.items) ∙ map-append (λ (p : Placed). view p.token) old one in
    answer (bare old) (view c.args.token) c.in_ok-fault.fault c.is_refused.result c.requires.clean (subst (λ (x : List Token). Tried c.in_ok-fault.fault (script_at x)) items c.in_ok-fault.ensures) c.is_refused.ensures
