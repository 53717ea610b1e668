use Rattle.std.proofs.Common.{◌≡◌, ◌-◌, ℕ, List, length, take, IfOk, sym, ap, ◌∙◌, subst, arith}
use Rattle.std.proofs.lemmas.List.{length-map, take-map}
use Rattle.script_token.specs.Tokens.{Token, view}
use Rattle.script_token.specs.declared.lexeme.Placed.{Placed}
use Rattle.script_reader.specs.Steps.{bare}
use Rattle.script_mistakes.specs.Expected.{AreExpected, IsClean}
use Rattle.script_mistakes.proofs.Following.{clean_before, left_within}
use Rattle.script_mistakes.proofs.trying.expected.Goals as goal

pub slice_bounds-from_slice-count : goal.slice_bounds-from_slice-count
slice_bounds-from_slice-count c =
    let within = left_within (bare c.args.tokens.now) c.args.left c.requires in
    omega (arith, within, length-map c.args.tokens.now (λ (p : Placed). view p.token))

taken : (items : List Placed) (n : ℕ) → bare (take (length items - n) items) ≡ take (length (bare items) - n) (bare items)
taken items n = sym (take-map (λ (p : Placed). view p.token) (length items - n) items) ∙ ap (λ (k : ℕ). take (k - n) (bare items)) (sym (length-map items (λ (p : Placed). view p.token)))

pub kinds_behind-requires : goal.kinds_behind-requires
kinds_behind-requires c =
    let items = ap (λ (x : List Placed). bare x) c.in_ok-before.ensures.items ∙ taken c.args.tokens.now c.args.left in
    subst IsClean (sym items) (clean_before (bare c.args.tokens.now) c.args.left c.requires)

pub returns : goal.returns
returns c =
    let items = ap (λ (x : List Placed). bare x) c.in_ok-before.ensures.items ∙ taken c.args.tokens.now c.args.left in
    subst (λ (x : List Token). IfOk c.kinds_behind.result (λ kinds. AreExpected kinds.items x)) items c.kinds_behind.ensures
