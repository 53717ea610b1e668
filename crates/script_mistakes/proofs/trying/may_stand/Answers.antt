use Rattle.std.proofs.Common.{◌≡◌, List, Option, Some, None, IfOk, IsTrue, ◌↔◌, refl, sym, ap, ◌∙◌, subst}
use Rattle.std.specs.Option.{option_map}
use Rattle.script_token.specs.Tokens.{Token, view}
use Rattle.script_token.specs.declared.kind.Token.{Token as Seen}
use Rattle.std.proofs.lemmas.Bool.{false≢true}
use Rattle.script_token.specs.declared.lexeme.Placed.{Placed}
use Rattle.script_reader.specs.declared.fault.Fault.{Fault}
use Rattle.script_reader.specs.Steps.{bare, told}
use Rattle.script.specs.Scripts.{script_at}
use Rattle.script_mistakes.specs.Expected.{MayCome, example}
use Rattle.script_mistakes.proofs.Following.{Tried, ends, ends_not}
use Rattle.script_mistakes.proofs.trying.may_stand.Goals as goal

pub returns-in-Some-clause-may : goal.returns-in-Some-clause-may
returns-in-Some-clause-may c =
    let is = ap (λ (o : Option Seen). option_map view o) (sym c.in-Some.is) ∙ c.example.ensures in
    subst (λ (o : Option Token). IfOk c.may_follow.result (λ may. IsTrue may ↔ MayCome o (bare c.args.before.now.items))) is c.may_follow.ensures.may

pub returns-in-None-2-clause-may : goal.returns-in-None-2-clause-may
returns-in-None-2-clause-may c =
    let before = bare c.args.before.now.items in
    let none : ◌≡◌ {A = Option Token} None (example c.args.kind) = ap (λ (o : Option Seen). option_map view o) (sym c.in-None.is) ∙ c.example.ensures in
    let read : Tried None (script_at before) = subst (λ (x : List Placed). Tried None (script_at (bare x))) c.deref.ensures.value (subst (λ (o : Option Fault). Tried o (script_at (bare c.deref.result.now))) c.in-None-2.is c.in_ok-first_fault-in-None.ensures) in
    (λ h. subst (λ (o : Option Token). MayCome o before) none (ends before read), λ may. refl)

pub returns-in-Some-2-clause-may : goal.returns-in-Some-2-clause-may
returns-in-Some-2-clause-may c =
    let before = bare c.args.before.now.items in
    let fault = c.in-Some-2.field-0 in
    let none : ◌≡◌ {A = Option Token} None (example c.args.kind) = ap (λ (o : Option Seen). option_map view o) (sym c.in-None.is) ∙ c.example.ensures in
    let read : Tried (Some fault) (script_at before) = subst (λ (x : List Placed). Tried (Some fault) (script_at (bare x))) c.deref.ensures.value (subst (λ (o : Option Fault). Tried o (script_at (bare c.deref.result.now))) c.in-Some-2.is c.in_ok-first_fault-in-None.ensures) in
    (λ h. absurd (false≢true h), λ may. absurd (ends_not before (told fault) c.requires.clean read (subst (λ (o : Option Token). MayCome o before) (sym none) may)))
