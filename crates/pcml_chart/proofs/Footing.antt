-- The foot of a process.
use Rattle.std.proofs.Common.{◌≡◌, ℕ, ◌+◌, ◌<◌, true, List, [], ◌++◌, length, get_or, if◌then◌else◌, sym, ap, ◌∙◌}
use Rattle.std.specs.Prelude.{slice_get}
use Rattle.std.proofs.lemmas.Option.{slice_get-get_or}
use Rattle.journal_text.specs.Names.{Naming}
use Rattle.pcml_chart.specs.Chart.{foot_mark}
use Rattle.pcml_chart.specs.Feet.{foot_at, foot_text}
use Rattle.pcml_chart_layout.specs.Places.{Layout, is_own, line_of}
use Rattle.pcml_chart_layout.specs.declared.foot.Foot.{Foot}

pub foot_there : (names : Naming) (l : Layout) (feet : List Foot) (low t x : ℕ) (d : Foot) (text more : List ℕ) → t < length feet → is_own l.own t ≡ true → x ≡ line_of l t
    → more ≡ text ++ foot_text names x (low + 18) (get_or feet t d) → more ≡ text ++ foot_mark names l feet low t
foot_there names l feet low t x d text more below owns is_line grown =
    let there = foot_at names (line_of l t) (low + 18) in
    grown
    ∙ ap (λ (n : ℕ). text ++ foot_text names n (low + 18) (get_or feet t d)) is_line
    ∙ ap (λ o. text ++ there o) (sym (slice_get-get_or feet t d below))
    ∙ ap (λ b. text ++ (if b then there (slice_get feet t) else [])) (sym owns)
