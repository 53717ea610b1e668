-- A row, from its parts.
use Rattle.std.proofs.Common.{◌≡◌, ℕ, ◌<◌, List, ◌++◌, length, get_or, sym, ap, ◌∙◌, append_assoc}
use Rattle.std.specs.Option.{option_map}
use Rattle.std.specs.Prelude.{slice_get, Some}
use Rattle.std.proofs.lemmas.Option.{same_Some, slice_get-get_or, slice_get-map}
use Rattle.protocol_values.specs.declared.Commit.{Commit}
use Rattle.journal_text.specs.Names.{Naming}
use Rattle.pcml_chart_layout.specs.Labels.{label_text}
use Rattle.pcml_chart_layout.specs.Laid.{AreLabels}
use Rattle.pcml_chart_layout.specs.Places.{Layout, height}
use Rattle.pcml_chart.specs.Marks.{Stamps, beside_mark, figure, mark, mark_label}
use Rattle.pcml_chart.specs.Rows.{mark_at, row, stamp_mark}

module _ (names : Naming) (stamps : Stamps) (l : Layout) (commits : List Commit) (place y : ℕ) (d : Commit) (below : place < length commits) (is_height : y ≡ height place) where
  mark_there : mark names stamps l commits y (get_or commits place d) ≡ mark_at names stamps l commits (height place) (slice_get commits place)
  mark_there =
      ap (λ (n : ℕ). mark names stamps l commits n (get_or commits place d)) is_height ∙ ap (mark_at names stamps l commits (height place)) (sym (slice_get-get_or commits place d below))

  -- the label at the place is that of the commit
  label_there : (labels : List (List ℕ)) (text : List ℕ) → AreLabels names l.own commits labels → Some text ≡ slice_get labels place → text ≡ label_text names l.own (get_or commits place d)
  label_there labels text are is =
      same_Some text (label_text names l.own (get_or commits place d))
      (is ∙ ap (λ (ts : List (List ℕ)). slice_get ts place) are ∙ slice_get-map (label_text names l.own) commits place ∙ ap (option_map (label_text names l.own)) (slice_get-get_or commits place d below))

  pub row_grown : (labels : List (List ℕ)) (text before stamped drawn whole : List ℕ) → AreLabels names l.own commits labels → Some text ≡ slice_get labels place
      → stamped ≡ before ++ stamp_mark l.width commits place → drawn ≡ stamped ++ figure stamps l commits y (get_or commits place d)
      → whole ≡ drawn ++ beside_mark l y (get_or commits place d) text → whole ≡ before ++ row names stamps l commits place
  row_grown labels text before stamped drawn whole are is first second third =
      let c = get_or commits place d in
      third
      ∙ ap (λ (t : List ℕ). drawn ++ beside_mark l y c t) (label_there labels text are is)
      ∙ ap (λ (t : List ℕ). t ++ mark_label names l y c) (second ∙ ap (λ (t : List ℕ). t ++ figure stamps l commits y c) first)
      ∙ append_assoc (before ++ stamp_mark l.width commits place) (figure stamps l commits y c) (mark_label names l y c)
      ∙ ap (λ (t : List ℕ). before ++ stamp_mark l.width commits place ++ t) mark_there
      ∙ append_assoc before (stamp_mark l.width commits place) (mark_at names stamps l commits (height place) (slice_get commits place))
