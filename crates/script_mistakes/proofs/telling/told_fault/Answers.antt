use Rattle.std.proofs.Common.{◌≡◌, ◌++◌, List, ℕ, Result, Ok, Err, IfOk, sym, ap, ◌∙◌, subst}
use Rattle.script_token.specs.Tokens.{Token}
use Rattle.script_token.specs.declared.lexeme.Placed.{Placed}
use Rattle.script_reader.specs.Steps.{bare, told}
use Rattle.script.specs.Scripts.{script_at, tokens_of}
use Rattle.script_mistakes.specs.Places.{excerpt_text, place_left}
use Rattle.script_mistakes.specs.Telling.{HasExpected, head_text, stand_text}
use Rattle.script_mistakes.proofs.Bare.{bare_is}
use Rattle.script_mistakes.proofs.telling.told_fault.Goals as goal

pub kinds_there-requires : goal.kinds_there-requires
kinds_there-requires c = subst (λ (x : List Placed). script_at (bare x) ≡ Err (told c.args.fault)) (sym c.deref-2.ensures.value) c.requires.fault

with_ok : {A E : Type 0} (r : Result A E) (P Q : A → Type 0) → IfOk r P → ((x : A) → P x → Q x) → IfOk r Q
with_ok (Ok x) P Q h f = f x h
with_ok (Err e) P Q h f = tt

pub returns : goal.returns
returns c =
    let bytes = c.args.bytes.now in
    let fault = c.args.fault in
    let kinds = c.in_ok-kinds.kinds.items in
    let help = c.deref-6.result.now in
    let tokens = bare_is c.args.tokens.now.placed.items bytes c.requires.tokens.0 in
    let there : bare c.deref-2.result.now ≡ tokens_of bytes = ap (λ (x : List Placed). bare x) c.deref-2.ensures.value ∙ tokens in
    let stands : c.deref-7.result.now ≡ stand_text kinds = c.deref-7.ensures ∙ c.in_ok-stand.ensures ∙ ap stand_text c.deref-5.ensures.value in
    let line : excerpt_text bytes c.place_left-at.result ≡ excerpt_text bytes (place_left bytes fault.left) = ap (excerpt_text bytes) c.place_left-at.ensures in
    with_ok c.joined.result _ _ c.joined.ensures (λ text is. record {
      fits = c.requires.fits;
      told = told fault;
      is = subst (λ (x : List Token). script_at x ≡ Err (told fault)) tokens c.requires.fault;
      kinds = kinds;
      expected = subst (λ (x : List Token). HasExpected x (told fault) kinds) there c.in_ok-kinds.ensures;
      help = help;
      text_is = is ∙ ap (λ (x : List ℕ). x ++ excerpt_text bytes c.place_left-at.result ++ help ++ c.deref-7.result.now) c.in_ok-head.ensures
          ∙ ap (λ (x : List ℕ). head_text bytes (told fault) ++ x ++ help ++ c.deref-7.result.now) line
          ∙ ap (λ (x : List ℕ). head_text bytes (told fault) ++ excerpt_text bytes (place_left bytes fault.left) ++ help ++ x) stands;
    })
