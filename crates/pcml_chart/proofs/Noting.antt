-- The text of a Mermaid diagram, from its parts.
use Rattle.std.proofs.Common.{◌≡◌, ℕ, ◌<◌, Bool, true, List, [], ◌++◌, length, get_or, if◌then◌else◌, sym, ap, ◌∙◌}
use Rattle.std.specs.Prelude.{slice_get}
use Rattle.std.specs.List.{flat_map}
use Rattle.std.proofs.lemmas.Option.{slice_get-get_or}
use Rattle.protocol_values.specs.declared.Commit.{Commit}
use Rattle.journal_text.specs.Names.{Naming}
use Rattle.pcml_chart_layout.specs.Places.{column, is_own}
use Rattle.pcml_chart_layout.specs.declared.foot.Foot.{Foot}
use Rattle.pcml_chart.specs.Chart.{each_below}
use Rattle.pcml_chart.specs.Mermaid.{commit_line, diagram, foot_note, foot_of, note_at, participants, title}

pub note_there : (names : Naming) (own : List Bool) (feet : List Foot) (t place : ℕ) (d : Foot) (text more : List ℕ) → t < length feet → is_own own t ≡ true → place ≡ column own t
    → more ≡ text ++ foot_note names place (get_or feet t d) → more ≡ text ++ foot_of names own feet t
note_there names own feet t place d text more below owns is_place grown =
    grown
    ∙ ap (λ (n : ℕ). text ++ foot_note names n (get_or feet t d)) is_place
    ∙ ap (λ o. text ++ note_at names (column own t) o) (sym (slice_get-get_or feet t d below))
    ∙ ap (λ b. text ++ (if b then note_at names (column own t) (slice_get feet t) else [])) (sym owns)

-- one part behind another, by the columns that the code holds
pub told_so : (names : Naming) (held own : List Bool) (feet : List Foot) (commits : List Commit) (words none titled named drawn whole : List ℕ) → held ≡ own → none ≡ []
    → titled ≡ none ++ title words → named ≡ titled ++ participants names held → drawn ≡ named ++ flat_map (commit_line names held) commits
    → whole ≡ drawn ++ each_below (length held) (foot_of names held feet) → whole ≡ diagram names own feet commits words
told_so names held own feet commits words none titled named drawn whole same empty first second third fourth =
    let to_title : titled ≡ title words = first ∙ ap (λ (t : List ℕ). t ++ title words) empty in
    let to_names : named ≡ title words ++ participants names held = second ∙ ap (λ (t : List ℕ). t ++ participants names held) to_title in
    let to_commits : drawn ≡ title words ++ participants names held ++ flat_map (commit_line names held) commits = third ∙ ap (λ (t : List ℕ). t ++ flat_map (commit_line names held) commits) to_names in
    fourth
    ∙ ap (λ (t : List ℕ). t ++ each_below (length held) (foot_of names held feet)) to_commits
    ∙ ap (λ (o : List Bool). diagram names o feet commits words) same
