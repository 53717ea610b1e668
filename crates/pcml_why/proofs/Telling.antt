-- The text of one process more.
use Rattle.std.proofs.Common.{◌≡◌, Bool, ℕ, ◌+◌, List, ◌++◌, refl, add-one, ◌∙◌, ap, append_assoc, ◌<◌, length, get_or, Option, Some, slice_get, take}
use Rattle.std.proofs.lemmas.Option.{slice_get-get_or}
use Rattle.journal_text.specs.Names.{Naming}
use Rattle.pcml_why.specs.Whys.{texts_of}
use Rattle.protocol_values.specs.declared.Atom.{Atom}
use Rattle.pcml_why.specs.Variables.{some_set, variable_text, variables_below}
use Rattle.pcml_why_sites.specs.declared.site.Site.{Site}

below-one : (text : ℕ → Site → List ℕ) (sites : List Site) (n : ℕ) (s : Site) → slice_get sites n ≡ Some s → texts_of text sites n ++ text n s ≡ texts_of text sites (n + 1)
below-one text sites n s is = rw add-one (rw is refl)

-- one more process
pub texts_of-more : (one : ℕ → Site → List ℕ) (sites : List Site) (n : ℕ) (d : Site) (before text more : List ℕ) → n < length sites → text ≡ before ++ texts_of one sites n → more ≡ text ++ one n (get_or sites n d) → more ≡ before ++ texts_of one sites (n + 1)
texts_of-more one sites n d before text more within is grown =
    let s = get_or sites n d in
    grown ∙ ap (λ (l : List ℕ). l ++ one n s) is ∙ append_assoc before (texts_of one sites n) (one n s)
    ∙ ap (λ (l : List ℕ). before ++ l) (below-one one sites n s (slice_get-get_or sites n d within))

-- one more variable
variable-one : (names : Naming) (variables : List (List ℕ)) (store : List (Option Atom)) (v : ℕ) (x : Option Atom) → slice_get store v ≡ Some x →
    variables_below names variables store v ++ variable_text names variables (some_set (take v store)) v (Some x) ≡ variables_below names variables store (v + 1)
variable-one names variables store v x is = rw add-one (rw is refl)

pub variables_below-more : (names : Naming) (variables : List (List ℕ)) (store : List (Option Atom)) (v : ℕ) (e : Option Atom) (behind : Bool) (before text more : List ℕ) → v < length store → behind ≡ some_set (take v store) →
    text ≡ before ++ variables_below names variables store v → more ≡ text ++ variable_text names variables behind v (Some (get_or store v e)) → more ≡ before ++ variables_below names variables store (v + 1)
variables_below-more names variables store v e behind before text more within is_behind is grown =
    let x = get_or store v e in
    let one = variable_text names variables (some_set (take v store)) v (Some x) in
    grown ∙ ap (λ (b : Bool). text ++ variable_text names variables b v (Some x)) is_behind ∙ ap (λ (l : List ℕ). l ++ one) is ∙ append_assoc before (variables_below names variables store v) one
    ∙ ap (λ (l : List ℕ). before ++ l) (variable-one names variables store v x (slice_get-get_or store v e within))
